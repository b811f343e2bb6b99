use Rattle.std.proofs.Common.{◌∙◌}
use Rattle.fwd_engine_state.proofs.CountLists.{each-alike}
use Rattle.fwd_engine_state.proofs.count_changes.new_outputs.Goals as goal

pub returns : goal.returns
returns c = c.from_vec.ensures ∙ c.in_ok-vec.ensures.items_if_clones_equal (λ y e. e) ∙ each-alike _ 0 c.args.outputs
