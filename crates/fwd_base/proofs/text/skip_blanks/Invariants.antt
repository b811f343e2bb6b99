use Rattle.std.proofs.Common.{◌≡◌, length}
use Rattle.fwd_base.specs.Blanks.{skip_blanks}
use Rattle.fwd_base.proofs.text.skip_blanks.Given as goal

-- the rest has the same text after its leading blanks
abbrev pub invariant-loop-rest : goal.invariant-loop-rest
invariant-loop-rest l = skip_blanks l.rest ≡ skip_blanks l.text

abbrev pub decreases-loop-rest : goal.decreases-loop-rest
decreases-loop-rest l = length l.rest
