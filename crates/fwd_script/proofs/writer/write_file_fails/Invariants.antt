use Rattle.std.proofs.Common.{◌≡◌, ◌++◌, take, map}
use Rattle.fwd_script.specs.Text.{ended_lines, file_text}
use Rattle.fwd_script.proofs.writer.write_file_fails.Given as goal

abbrev pub invariant-loop-call : goal.invariant-loop-call
invariant-loop-call l = l.text ≡ l.fn.text ++ ended_lines (map file_text (take l.call-index l.calls))
