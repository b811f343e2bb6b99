use Rattle.std.proofs.Common.{◌++◌, ℕ, List, ◌∙◌, ap}
use Rattle.fwd_pages.specs.Pages.{numbered, owed_sample}
use Rattle.fwd_pages.proofs.Elements.{names_more, names_all}
use Rattle.fwd_pages.proofs.prometheus.push_owed_samples.Goals as goal

pub loop-index-preserved : goal.loop-index-preserved
loop-index-preserved c =
    names_more (owed_sample c.args.table.now.rows) c.args.names.now c.loop-index.index c.index-names-index.result c.as_slice.result.now c.args.text.now c.loop-index.text c.push_owed_sample.new.text c.loop-index-test.true
    (c.as_slice.ensures ∙ c.index-names-index.is) c.loop-index.invariant c.in_ok-push_owed_sample.ensures

pub returns : goal.returns
returns c =
    c.loop-index.invariant
    ∙ ap (λ (names : List (List ℕ)). c.args.text.now ++ numbered (owed_sample c.args.table.now.rows) 0 names) (names_all c.args.names.now c.loop-index.index c.loop-index-test.false)
