use Rattle.std.proofs.Common.{◌++◌, ℕ, List, ◌∙◌, ap}
use Rattle.fwd_table.specs.declared.tally.OutputTally.{OutputTally}
use Rattle.fwd_pages.specs.Pages.{numbered, output_sample}
use Rattle.fwd_pages.proofs.Elements.{pairs_more, pairs_all}
use Rattle.fwd_pages.proofs.prometheus.push_output_samples.Goals as goal

pub loop-index-preserved : goal.loop-index-preserved
loop-index-preserved c =
    pairs_more (λ _. output_sample c.args.metric) c.args.names.now c.args.tallies.now c.loop-index.index c.index-names-index.result _ c.as_slice.result.now c.args.text.now c.loop-index.text c.push_output_sample.new.text c.requires c.loop-index-test.true
    (c.as_slice.ensures ∙ c.index-names-index.is) c.loop-index.invariant c.in_ok-push_output_sample.ensures

pub returns : goal.returns
returns c =
    c.loop-index.invariant
    ∙ ap (λ (pairs : List (List ℕ × OutputTally)). c.args.text.now ++ numbered (λ n (p : List ℕ × OutputTally). output_sample c.args.metric p.0 p.1) 0 pairs)
    (pairs_all c.args.names.now c.args.tallies.now c.loop-index.index c.requires c.loop-index-test.false)
