use Rattle.std.proofs.Common.{◌∙◌, ap}
use Rattle.fwd_engine_state.specs.CountChanges.{output_changed}
use Rattle.fwd_engine_state.proofs.CountLists.{item-at, none-at}
use Rattle.fwd_engine_state.proofs.count_changes.output_at.Goals as goal
use Rattle.fwd_engine_state.proofs.count_changes.output_at.Goals.{in-Some, in_default}

pub returns : goal.returns
returns c tally n is = elim c.match-get_mut.branch [
  | in-Some w ↦ item-at tally (output_changed c.args.change) n c.args.output c.into_vec-counts.result.items c.from_vec.result w.in-Some.tally.now w.output_changed.result
      (c.into_vec-counts.ensures ∙ is) w.in-Some.ensures.item.3.0 w.in-Some.ensures.value w.output_changed.ensures (c.from_vec.ensures ∙ ap (λ v. v.items) w.counts-is)
  | in_default w ↦ none-at tally (output_changed c.args.change) n c.args.output c.into_vec-counts.result.items c.from_vec.result
      (c.into_vec-counts.ensures ∙ is) w.in_default.ensures.item.3 (c.from_vec.ensures ∙ ap (λ v. v.items) w.counts-is)
]
