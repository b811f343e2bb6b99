use Rattle.std.proofs.Common.{◌≡◌, ◌++◌, take, map}
use Rattle.fwd_script.specs.Text.{ended_lines, disk_text}
use Rattle.fwd_script.proofs.writer.write_disk_fails.Given as goal

abbrev pub invariant-loop-call : goal.invariant-loop-call
invariant-loop-call l = l.text ≡ l.fn.text ++ ended_lines (map disk_text (take l.call-index l.calls))
