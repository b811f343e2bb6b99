use Rattle.std.proofs.Common.{◌≡◌, ◌∷◌, true, false, List, length, sym, ap, subst, ◌∙◌, arith}
use Rattle.std.specs.Prelude.{is_some}
use Rattle.std.specs.List.{All}
use Rattle.std.specs.Vec.Iter.{into_iter_items}
use Rattle.std.proofs.lemmas.List.Elements.{All-head, All-tail}
use Rattle.fwd_wire.specs.Fits.{ContentFits}
use Rattle.fwd_in_forward.specs.Received.{all_received, received_content, KeepsEncodings}
use Rattle.fwd_in_forward.specs.declared.received.Received.{Received}
use Rattle.fwd_base.specs.declared.memory.Memory.{Memory}
use Rattle.fwd_outside.specs.Program.{bind}
use Rattle.fwd_model.specs.Fact.{History, Malformed}
use Rattle.fwd_model.specs.Notes.{note_then}
use Rattle.fwd_model.specs.Messages.{message_batch, reply_of}
use Rattle.fwd_model.specs.Acceptance.{accepts}
use Rattle.fwd_model.specs.InputActions.{hangs_up, acknowledges, accepts_messages}
use Rattle.fwd_model.proofs.Actions.{stays, goes_on, begun_trans}
use Rattle.fwd_model.proofs.Refinement.{completes_after, refines_after}
use Rattle.fwd_engine_state.specs.PartsRepresent.{PartsRepresentIdle}
use Rattle.fwd_engine_state.proofs.CounterSteps.{as_many, no_event_first, no_event_composed}
use Rattle.fwd_engine_ingest.specs.Continuation.{TagsAreShort}
use Rattle.fwd_engine_ingest.proofs.StreamFactSteps.{acts_end}
use Rattle.fwd_engine_ingest.proofs.MessageSequence.{went_ended, went_next, next_message, no_more}
use Rattle.fwd_engine_ingest.proofs.messages.receive_all.Goals as goal

pub loop-message-init : goal.loop-message-init
loop-message-init g c =
    let gives = c.into_iter-message-iterator.ensures.into_iter_gives in
    let items : into_iter_items c.into_iter-message-iterator.result ≡ c.args.arrived.messages = gives.0 ∙ c.into_vec-message-items.ensures in
    let long = ap length gives.0 in (
      no_event_first (g.L.Loop.counts c.args.outside.now),
      as_many (g.L.Loop.faults c.args.outside.now),
      as_many (g.D.Disk.faults c.args.disk.now),
      omega arith,
      subst (λ (ms : List Received). All ContentFits (all_received ms)) (sym items) c.requires.fits,
      subst (All KeepsEncodings) (sym items) c.requires.encodings,
      λ short. (
        subst (λ (ms : List Received). TagsAreShort (all_received ms)) (sym items) short,
        λ others h shows. (h, shows, rw items (stays _ _)),
      ),
    )

pub receive_message-requires-clause-fits : goal.receive_message-requires-clause-fits
receive_message-requires-clause-fits g c ks lives =
    let steps : into_iter_items c.loop-message.message-iterator ≡ c.in-Some.message ∷ into_iter_items c.next.new.self = c.in-Some.ensures.steps.0 in
    All-head ContentFits (received_content c.in-Some.message) (all_received (into_iter_items c.next.new.self)) (subst (λ (ms : List Received). All ContentFits (all_received ms)) steps c.loop-message.invariant.4)

pub receive_message-requires-clause-encodings : goal.receive_message-requires-clause-encodings
receive_message-requires-clause-encodings g c ks lives =
    let steps : into_iter_items c.loop-message.message-iterator ≡ c.in-Some.message ∷ into_iter_items c.next.new.self = c.in-Some.ensures.steps.0 in
    All-head KeepsEncodings c.in-Some.message (into_iter_items c.next.new.self) (subst (All KeepsEncodings) steps c.loop-message.invariant.5)

pub returns-in_err-goes_on-clause-acts : goal.returns-in_err-goes_on-clause-acts
returns-in_err-goes_on-clause-acts g c short others h shows =
    let s = c.args.run.now in
    let k = c.args.input.0 in
    let conn = c.args.conn.0 in
    let breaks = is_some c.args.arrived.fault in
    let rest = into_iter_items c.next.new.self in
    let steps : into_iter_items c.loop-message.message-iterator ≡ c.in-Some.message ∷ rest = c.in-Some.ensures.steps.0 in
    let inv = c.loop-message.invariant.6 short in
    let shorts : TagsAreShort (all_received (c.in-Some.message ∷ rest)) = subst (λ (ms : List Received). TagsAreShort (all_received ms)) steps inv.0 in
    let so_far = inv.1 others h shows in
    let left = next_message s k conn breaks (into_iter_items c.loop-message.message-iterator) rest c.in-Some.message (accepts_messages s k conn breaks (all_received c.args.arrived.messages) h) so_far.0 steps so_far.2 in
    acts_end s _ _ c.from_residual.result c.from_residual.ensures.0
    (begun_trans left (c.in_err-goes_on.ensures.acts shorts.0 others so_far.0 (accepts_messages s k conn breaks (all_received rest)) so_far.1))

pub returns-then-not-goes_on-clause-acts : goal.returns-then-not-goes_on-clause-acts
returns-then-not-goes_on-clause-acts g c short others h shows =
    let s = c.args.run.now in
    let k = c.args.input.0 in
    let conn = c.args.conn.0 in
    let breaks = is_some c.args.arrived.fault in
    let rest = into_iter_items c.next.new.self in
    let m = c.in-Some.message in
    let steps : into_iter_items c.loop-message.message-iterator ≡ c.in-Some.message ∷ rest = c.in-Some.ensures.steps.0 in
    let inv = c.loop-message.invariant.6 short in
    let shorts : TagsAreShort (all_received (c.in-Some.message ∷ rest)) = subst (λ (ms : List Received). TagsAreShort (all_received ms)) steps inv.0 in
    let so_far = inv.1 others h shows in
    let from = accepts_messages s k conn breaks (all_received c.args.arrived.messages) h in
    let next = accepts_messages s k conn breaks (all_received rest) in
    let act = bind (accepts s (message_batch s k (received_content m)) so_far.0) (acknowledges conn (reply_of (received_content m)) next) in
    let left = next_message s k conn breaks (into_iter_items c.loop-message.message-iterator) rest m from so_far.0 steps so_far.2 in
    completes_after (λ (now : History). PartsRepresentIdle s c.receive_message.new.parts now) _ from act left
    (went_ended Memory s c.receive_message.new.parts act next c.in_ok-goes_on.goes_on c.if-not-goes_on.true (c.in_ok-goes_on.ensures.acts shorts.0 others so_far.0 next so_far.1))

pub loop-message-preserved : goal.loop-message-preserved
loop-message-preserved g c =
    let s = c.args.run.now in
    let k = c.args.input.0 in
    let conn = c.args.conn.0 in
    let breaks = is_some c.args.arrived.fault in
    let rest = into_iter_items c.next.new.self in
    let m = c.in-Some.message in
    let steps : into_iter_items c.loop-message.message-iterator ≡ c.in-Some.message ∷ rest = c.in-Some.ensures.steps.0 in
    let remove_peer = c.in-Some.ensures.steps.1 in
    let long = ap length steps in
    let before = c.loop-message.invariant in
    let next = accepts_messages s k conn breaks (all_received rest) in (
      no_event_composed before.0 c.in_ok-goes_on.ensures.unheard,
      omega arith,
      omega arith,
      omega arith,
      All-tail ContentFits (received_content m) (all_received rest) (subst (λ (ms : List Received). All ContentFits (all_received ms)) steps before.4),
      All-tail KeepsEncodings m rest (subst (All KeepsEncodings) steps before.5),
      λ short.
          let inv = before.6 short in
          let shorts : TagsAreShort (all_received (c.in-Some.message ∷ rest)) = subst (λ (ms : List Received). TagsAreShort (all_received ms)) steps inv.0 in (
            shorts.1,
            λ others h shows.
                let so_far = inv.1 others h shows in
                let act = bind (accepts s (message_batch s k (received_content m)) so_far.0) (acknowledges conn (reply_of (received_content m)) next) in
                let left = next_message s k conn breaks (into_iter_items c.loop-message.message-iterator) rest m (accepts_messages s k conn breaks (all_received c.args.arrived.messages) h) so_far.0 steps so_far.2 in
                let went = went_next Memory s c.receive_message.new.parts act next c.in_ok-goes_on.goes_on c.if-not-goes_on.false (c.in_ok-goes_on.ensures.acts shorts.0 others so_far.0 next so_far.1) in
                (went.0, went.1, goes_on left went.2),
          ),
    )

pub returns-in-Some-fault-clause-acts : goal.returns-in-Some-fault-clause-acts
returns-in-Some-fault-clause-acts g c short others h shows =
    let s = c.args.run.now in
    let k = c.args.input.0 in
    let conn = c.args.conn.0 in
    let breaks = is_some c.args.arrived.fault in
    let items = into_iter_items c.loop-message.message-iterator in
    let none : length items ≡ 0 = sym c.loop-message.invariant.3 ∙ c.in-None.ensures.steps.0 in
    let so_far = (c.loop-message.invariant.6 short).1 others h shows in
    let from = accepts_messages s k conn breaks (all_received c.args.arrived.messages) h in
    let left = no_more s k conn breaks true items from so_far.0 none (ap is_some c.in-Some-fault.is) so_far.2 in
    refines_after (λ _ (now : History). PartsRepresentIdle s c.reject_stream.new.parts now) _ from (note_then (Malformed k) so_far.0 (hangs_up conn)) c.reject_stream.result left
    (c.reject_stream.ensures.acts s (record others { disk = g.D.Disk.call_log c.loop-message.disk }) so_far.0 so_far.1)

pub returns-in-None-fault-clause-acts : goal.returns-in-None-fault-clause-acts
returns-in-None-fault-clause-acts g c short others h shows =
    let s = c.args.run.now in
    let k = c.args.input.0 in
    let conn = c.args.conn.0 in
    let breaks = is_some c.args.arrived.fault in
    let items = into_iter_items c.loop-message.message-iterator in
    let none : length items ≡ 0 = sym c.loop-message.invariant.3 ∙ c.in-None.ensures.steps.0 in
    let so_far = (c.loop-message.invariant.6 short).1 others h shows in
    let from = accepts_messages s k conn breaks (all_received c.args.arrived.messages) h in
    record { result = so_far.0; did = no_more s k conn breaks false items from so_far.0 none (ap is_some c.in-None-fault.is) so_far.2; shows = so_far.1 }
