use Rattle.fwd_replay.proofs.Course.{line_changed}
use Rattle.fwd_replay.proofs.progress.make_change.Goals as goal

pub returns-in-Changes : goal.returns-in-Changes
returns-in-Changes c = line_changed c.apply.result c.args.files.now c.apply.new.self c.args.planned.now c.in-Changes.change c.in-Changes.is c.apply.ensures.ok
