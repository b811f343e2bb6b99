use Rattle.std.proofs.Common.{◌≡◌, List, Option, Some, None, sym, ◌∙◌, ap, subst}
use Rattle.std.specs.Prelude.{option_copied}
use Rattle.fwd_event.specs.declared.event.Event.{Event}
use Rattle.fwd_flush.specs.FlushProgram.{Flight as Flown}
use Rattle.fwd_settings.specs.declared.settings_types.OutputSet.{OutputSet}
use Rattle.fwd_payload.specs.declared.reader.Reader.{Reader}
use Rattle.fwd_payload.specs.Content.{MadeOf}
use Rattle.fwd_payload.specs.Reader.{IsFlushTo}
use Rattle.fwd_model.specs.Settings.{output_at}
use Rattle.fwd_model.specs.Payloads.{delivery_at}
use Rattle.fwd_engine_state.specs.Views.{route_of}
use Rattle.fwd_engine_flush.proofs.start.payload_flush.Goals as goal

pub returns-in-Some-clause-flush : goal.returns-in-Some-clause-flush
returns-in-Some-clause-flush c =
    let at : Some c.in-Some.output.now ≡ output_at c.args.run.now c.args.route.output.0 = sym (ap option_copied c.in-Some.is) ∙ c.output.ensures in
    subst (λ (o : Option OutputSet). MadeOf c.args.content.now (λ (events : List Event) (flush : Flown Reader). IsFlushTo (delivery_at o c.args.tag.now (route_of c.args.route) events) c.args.route.output flush) c.deliver.result) at c.deliver.ensures.flush

pub returns-in-None-clause-flush : goal.returns-in-None-clause-flush
returns-in-None-clause-flush c =
    let at : None ≡ output_at c.args.run.now c.args.route.output.0 = sym (ap option_copied c.in-None.is) ∙ c.output.ensures in
    let made = rw c.as_slice.ensures at c.empty_flush.ensures in
    subst (λ (o : Option OutputSet). MadeOf c.args.content.now (λ (events : List Event) (flush : Flown Reader). IsFlushTo (delivery_at o c.args.tag.now (route_of c.args.route) events) c.args.route.output flush) c.empty_flush.result) at made
