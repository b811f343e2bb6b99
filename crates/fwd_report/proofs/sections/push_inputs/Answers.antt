use Rattle.std.proofs.Common.{◌++◌, ℕ, List, ◌∙◌, ap}
use Rattle.std.specs.List.{flat_map}
use Rattle.fwd_table.specs.declared.tally.InputTally.{InputTally}
use Rattle.fwd_report.specs.Report.{input_line}
use Rattle.fwd_report.proofs.Lists.{pairs_more, pairs_all}
use Rattle.fwd_report.proofs.sections.push_inputs.Goals as goal

pub loop-index-preserved : goal.loop-index-preserved
loop-index-preserved c =
    pairs_more input_line c.args.names.now c.args.tallies.now c.loop-index.index c.index-names-index.result _ c.as_slice.result.now c.args.text.now c.loop-index.text c.push_input.new.text c.requires c.loop-index-test.true
    (c.as_slice.ensures ∙ c.index-names-index.is) c.loop-index.invariant c.in_ok-push_input.ensures

pub returns : goal.returns
returns c =
    c.loop-index.invariant
    ∙ ap (λ (pairs : List (List ℕ × InputTally)). c.args.text.now ++ flat_map (λ (p : List ℕ × InputTally). input_line p.0 p.1) pairs)
    (pairs_all c.args.names.now c.args.tallies.now c.loop-index.index c.requires c.loop-index-test.false)
