use Rattle.std.proofs.Common.{◌≡◌, ◌++◌, take}
use Rattle.fwd_pages.specs.Pages.{numbered, output_chunks}
use Rattle.fwd_pages.proofs.storage.push_outputs.Given as goal

abbrev pub invariant-loop-index : goal.invariant-loop-index
invariant-loop-index l = l.text ≡ l.fn.text ++ numbered (output_chunks l.table.rows) 0 (take l.index l.names)
