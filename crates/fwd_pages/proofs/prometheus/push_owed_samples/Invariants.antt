use Rattle.std.proofs.Common.{◌≡◌, ◌++◌, take}
use Rattle.fwd_pages.specs.Pages.{numbered, owed_sample}
use Rattle.fwd_pages.proofs.prometheus.push_owed_samples.Given as goal

abbrev pub invariant-loop-index : goal.invariant-loop-index
invariant-loop-index l = l.text ≡ l.fn.text ++ numbered (owed_sample l.table.rows) 0 (take l.index l.names)
