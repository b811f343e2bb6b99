use Rattle.std.proofs.Common.{◌≡◌, length}
use Rattle.fwd_script.specs.Words.{unescaped}
use Rattle.fwd_script.proofs.Escapes.{behind}
use Rattle.fwd_script.proofs.words.unescape.Given as goal

abbrev pub invariant-escapes : goal.invariant-escapes
invariant-escapes l = unescaped l.text ≡ behind l.bytes (unescaped l.rest)

abbrev pub decreases-escapes : goal.decreases-escapes
decreases-escapes l = length l.rest
