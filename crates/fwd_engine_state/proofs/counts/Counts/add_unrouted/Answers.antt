use Rattle.std.proofs.Common.{◌∙◌, ap}
use Rattle.fwd_table.specs.declared.tally.Tally.{Tally}
use Rattle.fwd_model.specs.Settings.{saturating_plus}
use Rattle.fwd_engine_state.proofs.CountLemmas.{unrouted_tally}
use Rattle.fwd_engine_state.proofs.counts.Counts.add_unrouted.Goals as goal

pub returns : goal.returns
returns c s h number stream name bytes is was =
    unrouted_tally s h number stream name bytes _ _ is was
    ((λ i. record c.self.inside.tally { unrouted = c.saturating_add-self-inside.ensures i }) ∙ ap (λ (t : Tally). record t { unrouted = saturating_plus t.unrouted 1 }) c.self.view_is)
