use Rattle.std.proofs.Common.{◌≡◌, ◌++◌, take, map}
use Rattle.fwd_script.specs.Text.{ended_lines, stored_text}
use Rattle.fwd_script.proofs.writer.write_stores.Given as goal

abbrev pub invariant-loop-stored : goal.invariant-loop-stored
invariant-loop-stored l = l.text ≡ l.fn.text ++ ended_lines (map stored_text (take l.stored-index l.stores))
