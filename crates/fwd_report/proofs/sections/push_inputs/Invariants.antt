use Rattle.std.proofs.Common.{◌≡◌, ◌++◌, ℕ, List, take}
use Rattle.std.specs.List.{flat_map, zip}
use Rattle.fwd_table.specs.declared.tally.InputTally.{InputTally}
use Rattle.fwd_report.specs.Report.{input_line}
use Rattle.fwd_report.proofs.sections.push_inputs.Given as goal

abbrev pub invariant-loop-index : goal.invariant-loop-index
invariant-loop-index l = l.text ≡ l.fn.text ++ flat_map (λ (p : List ℕ × InputTally). input_line p.0 p.1) (take l.index (zip l.names l.tallies))
