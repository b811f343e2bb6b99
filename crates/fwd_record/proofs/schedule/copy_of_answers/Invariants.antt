use Rattle.std.proofs.Common.{◌≡◌, take}
use Rattle.std.specs.Prelude.{All}
use Rattle.fwd_script.specs.Writable.{GivenFits}
use Rattle.fwd_record.proofs.schedule.copy_of_answers.Given as goal

abbrev pub invariant-loop-given : goal.invariant-loop-given
invariant-loop-given l = (l.copy ≡ take l.given-index l.answers) × All GivenFits l.copy
