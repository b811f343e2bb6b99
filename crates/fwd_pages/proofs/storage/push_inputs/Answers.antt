use Rattle.std.proofs.Common.{◌++◌, ℕ, List, ◌∙◌, ap}
use Rattle.fwd_pages.specs.Pages.{numbered, input_chunks}
use Rattle.fwd_pages.proofs.Elements.{names_more, names_all}
use Rattle.fwd_pages.proofs.storage.push_inputs.Goals as goal

pub loop-index-preserved : goal.loop-index-preserved
loop-index-preserved c =
    names_more (input_chunks c.args.table.now.rows c.args.paused) c.args.names.now c.loop-index.index c.index-names-index.result c.as_slice.result.now c.args.text.now c.loop-index.text c.push_input.new.text c.loop-index-test.true
    (c.as_slice.ensures ∙ c.index-names-index.is) c.loop-index.invariant c.in_ok-push_input.ensures

pub returns : goal.returns
returns c =
    c.loop-index.invariant
    ∙ ap (λ (names : List (List ℕ)). c.args.text.now ++ numbered (input_chunks c.args.table.now.rows c.args.paused) 0 names) (names_all c.args.names.now c.loop-index.index c.loop-index-test.false)
