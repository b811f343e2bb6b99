use Rattle.std.proofs.Common.{◌≡◌, take}
use Rattle.fwd_settings.specs.Floats.{floats_in}
use Rattle.fwd_settings.proofs.floats.floats_in.Given as goal

abbrev pub invariant-loop-section : goal.invariant-loop-section
invariant-loop-section l = l.floats ≡ floats_in (take l.section-index l.all)
