use Rattle.std.proofs.Common.{◌≡◌, ◌++◌, take}
use Rattle.fwd_pages.specs.Pages.{numbered, input_chunks}
use Rattle.fwd_pages.proofs.storage.push_inputs.Given as goal

abbrev pub invariant-loop-index : goal.invariant-loop-index
invariant-loop-index l = l.text ≡ l.fn.text ++ numbered (input_chunks l.table.rows l.paused) 0 (take l.index l.names)
