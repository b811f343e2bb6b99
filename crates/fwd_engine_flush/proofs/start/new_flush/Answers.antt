use Rattle.std.proofs.Common.{◌≡◌, List, [], sym, ◌∙◌, ap, subst}
use Rattle.std.specs.Option.{option_map_or}
use Rattle.fwd_flush.specs.FlushProgram.{Delivery}
use Rattle.fwd_table.specs.Rows.{row_at}
use Rattle.fwd_table.specs.Row.{Row}
use Rattle.fwd_payload.specs.Reader.{IsFlushTo}
use Rattle.fwd_model.specs.Settings.{output_at}
use Rattle.fwd_model.specs.Payloads.{delivery_at, tag_of_chunk}
use Rattle.fwd_engine_state.specs.Views.{route_of}
use Rattle.fwd_engine_state.proofs.IdleRoutes.{idle_has}
use Rattle.fwd_engine_flush.proofs.ContentReads.{tag_there, made_more}
use Rattle.fwd_engine_flush.proofs.start.new_flush.Goals as goal

pub returns-clause-flush : goal.returns-clause-flush
returns-clause-flush c =
    made_more c.args.content.now c.payload_flush.result _ _ (λ events flush made. λ s h out stands same idle.
    let r = route_of c.args.route in
    let tag : c.tag_of-tag.result.now ≡ tag_of_chunk h r.chunk =
    c.tag_of-tag.ensures ∙ ap (λ (rows : List Row). option_map_or (λ (row : Row). row.tag) (row_at c.args.route.chunk rows) []) (c.table.ensures s h out stands)
    ∙ tag_there s h r.chunk stands.numbers (idle_has s h r idle) in
    subst (λ (d : Delivery). IsFlushTo d c.args.route.output flush)
    (λ i. delivery_at (output_at (sym same i) r.output) (tag i) r events) made)
    c.payload_flush.ensures.flush
