use Rattle.std.proofs.Common.{◌≡◌, ◌≤◌, ◌-◌, ◌++◌, length, drop}
use Rattle.fwd_base.specs.Pattern.{translated_from}
use Rattle.fwd_base.specs.declared.rewrite.Position.TheVariants.{Outside}
use Rattle.fwd_base.proofs.rewrite.translate.Given as goal

abbrev pub invariant-loop-at : goal.invariant-loop-at
invariant-loop-at l = (l.at ≤ length l.text) × (l.bytes ++ translated_from l.place (drop l.at l.text) ≡ translated_from Outside l.text)

abbrev pub decreases-loop-at : goal.decreases-loop-at
decreases-loop-at l = length l.text - l.at
