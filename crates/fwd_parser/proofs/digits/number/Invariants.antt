use Rattle.std.proofs.Common.{◌≡◌, ◌<◌, ◌^◌, drop}
use Rattle.fwd_parser.proofs.Numbers.{number_from}
use Rattle.fwd_parser.proofs.digits.number.Given as goal

abbrev pub invariant-loop-digit : goal.invariant-loop-digit
invariant-loop-digit l =
    (l.number < 2 ^ 64) × (number_from l.base l.number (drop l.digit-index l.text) ≡ number_from l.base 0 l.text)
