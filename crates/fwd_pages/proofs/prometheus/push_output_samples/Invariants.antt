use Rattle.std.proofs.Common.{◌≡◌, ◌++◌, ℕ, List, take}
use Rattle.std.specs.List.{zip}
use Rattle.fwd_table.specs.declared.tally.OutputTally.{OutputTally}
use Rattle.fwd_pages.specs.Pages.{numbered, output_sample}
use Rattle.fwd_pages.proofs.prometheus.push_output_samples.Given as goal

abbrev pub invariant-loop-index : goal.invariant-loop-index
invariant-loop-index l = l.text ≡ l.fn.text ++ numbered (λ n (p : List ℕ × OutputTally). output_sample l.metric p.0 p.1) 0 (take l.index (zip l.names l.tallies))
