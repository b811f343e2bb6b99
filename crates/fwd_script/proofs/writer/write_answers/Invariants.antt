use Rattle.std.proofs.Common.{◌≡◌, ◌++◌, take, map}
use Rattle.fwd_script.specs.Text.{ended_lines, given_text}
use Rattle.fwd_script.proofs.writer.write_answers.Given as goal

abbrev pub invariant-loop-given : goal.invariant-loop-given
invariant-loop-given l = l.text ≡ l.fn.text ++ ended_lines (map given_text (take l.given-index l.answers))
