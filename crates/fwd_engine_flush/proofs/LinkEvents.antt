-- Events of connections.
use Rattle.std.proofs.Common.{◌≡◌, ◌∷◌, ℕ, List, Option, Some, None, sym, ◌∙◌, ap}
use Rattle.fwd_outside.specs.Program.{bind}
use Rattle.fwd_settings.specs.declared.settings_types.AllSettings.{AllSettings}
use Rattle.fwd_flush.specs.FlushProgram.{Delivery, Progress, starts, not_started, Flight as Flown, delivery as delivery_of}
use Rattle.fwd_payload.specs.declared.reader.Reader.{Reader}
use Rattle.fwd_payload.specs.Reader.{wants, judges}
use Rattle.fwd_engine_state.specs.StateRepresents.{StateRepresents, IsFlightOf}
use Rattle.fwd_engine_state.specs.declared.flush_attempts.FlushAttempt.{FlushAttempt}
use Rattle.fwd_engine_state.specs.PartsRepresent.{PartsRepresent}
use Rattle.fwd_engine_state.specs.declared.parts.Parts.{Parts}
use Rattle.fwd_event.specs.declared.event.Event.{Event}
use Rattle.fwd_model.specs.Fact.{History, Route, OnRoute, FlushStarted}
use Rattle.fwd_model.specs.Trace.{Action}
use Rattle.fwd_model.specs.Routes.{flight}
use Rattle.fwd_model.specs.Payloads.{delivery, tag_of_chunk}
use Rattle.fwd_model.specs.DeviceActions.{on_loop}
use Rattle.fwd_model.specs.Notes.{note_then}
use Rattle.fwd_model.specs.FlushActions.{starts_with, resumes, notes_calls}

-- an attempt is taken out
pub resumes_is : (s : AllSettings) (go : Delivery → Progress → Action Progress) (h : History) (on : Option Route) (r : Route) (p : Progress) (d : Delivery) → on ≡ Some r → flight h r ≡ Some p → d ≡ delivery s h r
    → resumes s go on h ≡ bind (go d p) (λ now. notes_calls s r p.taken now h)
resumes_is s go h on r p d is flies same = rw (is, flies) (ap (λ (x : Delivery). bind (go x p) (λ now. notes_calls s r p.taken now h)) (sym same))

-- an attempt with more progress is still an attempt of its route
pub attempt_advances : (s : AllSettings) (h : History) (f : FlushAttempt) (r : Route) (now : Flown Reader) → now ≡ record f.flush { progress = now.progress } → IsFlightOf s h f r → IsFlightOf s h (record f { flush = now }) r
attempt_advances s h f r now same is =
    (is.0, ap (λ (x : Flown Reader). x.output) same ∙ is.1, ap (λ (x : Flown Reader). delivery_of wants judges x) same ∙ is.2, is.3, is.4)

-- the state alone has changed, for the same history
pub represents_taken_out : (s : AllSettings) (old new : Parts) (h : History) (before after : Option Route)
    → new.input_streams ≡ old.input_streams → new.followed_files ≡ old.followed_files → new.store ≡ old.store → StateRepresents s new.state h after → PartsRepresent s old h before None → PartsRepresent s new h after None
represents_taken_out s old new h before after hears follows holds state shown = record {
  state = state;
  input_streams = rw hears shown.input_streams;
  followed_files = rw follows shown.followed_files;
  store = rw holds shown.store;
  sound = shown.sound;
}

-- an attempt begins: what it delivers, to which output, and how
pub begins_by : (s : AllSettings) (r : Route) (events : List Event) (h : History) (d : Delivery) (o : ℕ) (tag : List ℕ) (p : Progress)
    → d ≡ delivery s (OnRoute r (FlushStarted events) ∷ h) r → o ≡ r.output → tag ≡ tag_of_chunk h r.chunk → p ≡ not_started
    → starts_with s r events h ≡ note_then (OnRoute r (FlushStarted events)) h (λ at. bind (on_loop (starts d o tag p)) (λ progress. notes_calls s r 0 progress at))
unfolding starts_with
begins_by s r events h d o tag p same at is none =
    ap (λ (q : Action Progress). note_then (OnRoute r (FlushStarted events)) h (λ at. bind q (λ progress. notes_calls s r 0 progress at))) (λ i. on_loop (starts (sym same i) (sym at i) (sym is i) (sym none i)))
