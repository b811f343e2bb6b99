use Rattle.std.proofs.Common.{inr}
use Rattle.fwd_settings.proofs.Requirements.{settings_meet_requirements}
use Rattle.fwd_settings.proofs.sections.settings.Goals as goal

pub returns-in-Ok-clause-meaning : goal.returns-in-Ok-clause-meaning
returns-in-Ok-clause-meaning c = inr (rw c.as_slice.ensures at c.in-Ok.ensures)

pub returns-in-Ok-clause-sound : goal.returns-in-Ok-clause-sound
returns-in-Ok-clause-sound c = settings_meet_requirements c.args.sections.now c.in-Ok.all (rw c.as_slice.ensures at c.in-Ok.ensures)
