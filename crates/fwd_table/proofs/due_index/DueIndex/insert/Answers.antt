use Rattle.std.proofs.Common.{◌∙◌}
use Rattle.fwd_table.specs.DueIndex.{key_of, is_listed}
use Rattle.fwd_table.proofs.DueIndex.{comes}
use Rattle.fwd_table.proofs.due_index.DueIndex.insert.Goals as goal

pub returns : goal.returns
returns c other = c.in_ok-insert.ensures.updates.0 (key_of other) ∙ comes c.of.result c.args.timer other (is_listed c.args.self.now other) c.of.ensures
