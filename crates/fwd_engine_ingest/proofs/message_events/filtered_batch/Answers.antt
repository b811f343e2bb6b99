use Rattle.std.proofs.Common.{ap, ◌∙◌, List}
use Rattle.fwd_filters.specs.declared.filter_step.FilterStep.{FilterStep}
use Rattle.fwd_filters.specs.FilterFunction.{filtered}
use Rattle.fwd_filters.proofs.FilterFunction.{filtered_are}
use Rattle.fwd_theorem_depth.specs.Shallow.{are_shallow}
use Rattle.fwd_engine_ingest.proofs.LineBatches.{held_is, shallow_left}
use Rattle.fwd_engine_ingest.proofs.message_events.filtered_batch.Goals as goal

pub encode-requires : goal.encode-requires
encode-requires g c = record { shallow = ap are_shallow ((filtered_are c.filters.result.now c.args.tag.now c.args.events c.in_ok-left.left).0 c.in_ok-left.ensures) ∙ shallow_left c.filters.result.now c.args.tag.now c.args.events c.requires }

pub returns : goal.returns
returns g c = held_is _ _ c.encode.result c.encode.ensures ((filtered_are c.filters.result.now c.args.tag.now c.args.events c.in_ok-left.left).0 c.in_ok-left.ensures ∙ ap (λ (steps : List FilterStep). filtered steps c.args.tag.now c.args.events) c.filters.ensures)
