-- Calls on a loop, actions that continue with another one, and messages.
use Rattle.std.proofs.Common.{◌≡◌, ℕ, Bool, true, false, List, [], ◌∷◌, Option, Some, Result, Ok, Err, refl}
use Rattle.std.specs.List.{All}
use Rattle.std.specs.Result.{IsErr}
use Rattle.std.proofs.lemmas.List.Elements.{All-head, All-tail}
use Rattle.fwd_outside.specs.Program.{entry}
use Rattle.fwd_outside.specs.Log.{LogGrew}
use Rattle.fwd_outside.specs.Loop.{LoopLog, Reply, DropConn}
use Rattle.fwd_event.specs.declared.event.Event.{Event}
use Rattle.fwd_event.specs.Event.{EventFits}
use Rattle.fwd_theorem_depth.specs.Shallow.{are_shallow}
use Rattle.fwd_theorem_depth.proofs.Shallow.{AllShallow, all_pass}
use Rattle.fwd_settings.specs.declared.settings_types.AllSettings.{AllSettings}
use Rattle.fwd_model.specs.Fact.{History, Disconnected}
use Rattle.fwd_model.specs.Trace.{Action}
use Rattle.fwd_model.specs.CallLogs.{CallLogs, Leads, IsBegun}
use Rattle.fwd_model.specs.Refines.{CompletedWith}
use Rattle.fwd_model.specs.Notes.{note}
use Rattle.fwd_model.specs.InputActions.{hangs_up, replies, after_reply}
use Rattle.fwd_model.proofs.Actions.{goes_on, begun_trans}
use Rattle.fwd_model.proofs.Refinement.{completes_after, completes_note, loop_called, loop_uncalled}
use Rattle.fwd_engine_state.specs.StreamsRepresent.{StreamsRepresent}
use Rattle.fwd_engine_state.specs.PartsRepresent.{PartsRepresentIdle}
use Rattle.fwd_engine_state.specs.declared.parts.Parts.{Parts}
use Rattle.fwd_engine_ingest.specs.Continuation.{with_loop, ContinuedWith}
use Rattle.fwd_engine_ingest.proofs.StreamFactSteps.{represents_by_streams}

-- ---- actions that continue

pub went_after : {E : Type 0} (s : AllSettings) {a b : CallLogs} (c : CallLogs) (after : Parts) (p q : Action History) (next : History → Action History) (r : Result Bool E)
    → Leads a b p q → ContinuedWith s b c after q next r → ContinuedWith s a c after p next r
went_after s c after p q next (Ok true) f g = (g.0, g.1, goes_on f g.2)
went_after s c after p q next (Ok false) f g = completes_after (λ (now : History). PartsRepresentIdle s after now) c p q f g
went_after s c after p q next (Err e) f g = begun_trans f g

-- the exit of a `?`
pub went_end : {E : Type 0} (s : AllSettings) {a b : CallLogs} (after : Parts) (p : Action History) (next : History → Action History) (r : Result Bool E) → IsErr r → IsBegun a b p → ContinuedWith s a b after p next r
went_end s after p next (Ok true) is began = absurd (cc is)
went_end s after p next (Ok false) is began = absurd (cc is)
went_end s after p next (Err e) is began = began

-- ---- events that can be encoded again are shallow

fit_shallow : (es : List Event) → All EventFits es → AllShallow es
fit_shallow [] fits = tt
fit_shallow (e ∷ es) fits =
    let first = All-head EventFits e es fits in
    (record { meta = first.meta_nested; body = first.body_nested }, fit_shallow es (All-tail EventFits e es fits))

pub fits_shallow : (es : List Event) → All EventFits es → are_shallow es ≡ true
fits_shallow es fits = all_pass es (fit_shallow es fits)

-- ---- a connection that is dropped

-- the fact that it was dropped
pub represents_dropped : (s : AllSettings) (old new : Parts) (h : History) (conn : ℕ) → new.state ≡ old.state → new.followed_files ≡ old.followed_files → new.store ≡ old.store
    → StreamsRepresent s new.input_streams (Disconnected conn ∷ h) → PartsRepresentIdle s old h → PartsRepresentIdle s new (Disconnected conn ∷ h)
represents_dropped s old new h conn states follows holds heard shown = represents_by_streams s old new h (Disconnected conn) states follows holds refl refl refl refl heard shown

pub hung_up : (s : AllSettings) (others : CallLogs) (old new : LoopLog) (after : Parts) (conn : ℕ) (h : History)
    → LogGrew old new (entry (DropConn conn) tt ∷ []) → PartsRepresentIdle s after (Disconnected conn ∷ h)
    → CompletedWith (λ (now : History). PartsRepresentIdle s after now) (with_loop old others) (with_loop new others) (hangs_up conn h)
unfolding hangs_up
hung_up s others old new after conn h grew shown =
    completes_after (λ (now : History). PartsRepresentIdle s after now) (with_loop new others) (hangs_up conn h) (note (Disconnected conn) h)
    (loop_called (with_loop old others) new (DropConn conn) tt (λ _. note (Disconnected conn) h) grew)
    (completes_note (λ (now : History). PartsRepresentIdle s after now) (with_loop new others) (Disconnected conn) h shown)

-- no call was made on the loop
pub no_loop_call : {R : Type 0} (others : CallLogs) (old new : LoopLog) (p : Action R) → LogGrew old new [] → IsBegun (with_loop old others) (with_loop new others) p
no_loop_call others old new p grew = (p, loop_uncalled (with_loop old others) new p grew)

-- the result of a reply
pub reply_calls : (others : CallLogs) (old new : LoopLog) (conn : ℕ) (bytes : List ℕ) (answer : Option (Unit {0})) (next : History → Action History) (h : History)
    → LogGrew old new (entry (Reply conn bytes) answer ∷ [])
    → Leads (with_loop old others) (with_loop new others) (replies conn (Some bytes) next h) (after_reply conn next h answer)
reply_calls others old new conn bytes answer next h grew = loop_called (with_loop old others) new (Reply conn bytes) answer (after_reply conn next h) grew
