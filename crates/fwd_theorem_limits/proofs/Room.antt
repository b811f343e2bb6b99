-- At room, a flush pushes what is left.
use Rattle.std.proofs.Common.{◌≡◌, ℕ, zero, suc, ◌<◌, Bool, true, false, cond, List, [], ◌∷◌, ◌++◌, length, drop, Option, Some, refl, ◌∙◌, ap, subst, arith}
use Rattle.std.specs.Prelude.{All, nat_lt}
use Rattle.std.proofs.lemmas.Bool.{eq-eqb, lt-ltb, or_parts}
use Rattle.std.proofs.lemmas.List.Elements.{All-head, All-tail}
use Rattle.fwd_base.specs.declared.ids.LinkId.{LinkId}
use Rattle.fwd_outside.specs.Program.{entry, Return, Ask, bind, Execution}
use Rattle.fwd_outside.specs.Loop.{PushAnswer, Push}
use Rattle.fwd_outside.specs.declared.happening.Happening.TheVariants as happening
use Rattle.fwd_flush.specs.declared.stage.Stage.{Stage}
use Rattle.fwd_flush.specs.declared.stage.Stage.TheVariants.{Writing}
use Rattle.fwd_flush.specs.FlushProgram.{Progress, Delivery, pushes, writes, polls_in, polls, confirms_payload, pushed_on}
use Rattle.fwd_settings.specs.declared.settings_types.AllSettings.{AllSettings}
use Rattle.fwd_model.specs.Fact.{Fact, History, Route, OnRoute, InFlight, Happened}
use Rattle.fwd_model.specs.Trace.{TraceEntry, OnLoop, Note}
use Rattle.fwd_model.specs.DeviceActions.{on_loop}
use Rattle.fwd_model.specs.Routes.{same_route, flight, progress_of, uses_link, route_on_link}
use Rattle.fwd_model.specs.Payloads.{delivery}
use Rattle.fwd_model.specs.FlushActions.{notes_calls, goes_on, resumes, at_room}
use Rattle.fwd_model.specs.StepActions.{step}
use Rattle.fwd_theorem_trace.proofs.RouteResolution.{same_itself}
use Rattle.fwd_theorem_limits.specs.Room.{concerns, IsWriting, HasRest}

module _ (r : Route) (link : LinkId) (progress : Progress) (writing : progress.stage ≡ Writing link) where
  abbrev Is : Fact → Type 0
  Is fact = concerns r link fact ≡ false

  flight_now : (before : History) → flight (OnRoute r (InFlight progress) ∷ before) r ≡ Some progress
  flight_now before = rw (same_itself r) refl

  flight_since : (later before : History) → All Is later → flight (later ++ OnRoute r (InFlight progress) ∷ before) r ≡ Some progress
  flight_since [] before last = flight_now before
  flight_since (fact ∷ later) before last = by fact (All-head Is fact later last) (flight_since later before (All-tail Is fact later last))
    where
      by : (f : Fact) → Is f → flight (later ++ OnRoute r (InFlight progress) ∷ before) r ≡ Some progress → flight (f ∷ (later ++ OnRoute r (InFlight progress) ∷ before)) r ≡ Some progress
      by (OnRoute other outcome) off more = rw ((or_parts (same_route other r) (uses_link link.0 (progress_of outcome)) off).0) more
      by f off more = more

  on_link_now : (before : History) → route_on_link (OnRoute r (InFlight progress) ∷ before) link.0 ≡ Some r
  on_link_now before = rw (writing, eq-eqb link.0 link.0 refl) refl

  on_link_since : (later before : History) → All Is later → route_on_link (later ++ OnRoute r (InFlight progress) ∷ before) link.0 ≡ Some r
  on_link_since [] before last = on_link_now before
  on_link_since (fact ∷ later) before last = by fact (All-head Is fact later last) (on_link_since later before (All-tail Is fact later last))
    where
      by : (f : Fact) → Is f → route_on_link (later ++ OnRoute r (InFlight progress) ∷ before) link.0 ≡ Some r → route_on_link (f ∷ (later ++ OnRoute r (InFlight progress) ∷ before)) link.0 ≡ Some r
      by (OnRoute other outcome) off more =
          let parts = or_parts (same_route other r) (uses_link link.0 (progress_of outcome)) off in
          rw (parts.1, more, parts.0) refl
      by f off more = more

-- the first call of a flush that writes
first_push : (s : AllSettings) (d : Delivery) (link : LinkId) (p : Progress) (r : Route) (h : History) (size : ℕ) → p.taken < length d.payload → 0 < size → (es : List TraceEntry) (new : History)
    → Execution (bind (on_loop (pushes size d link p)) (λ now. notes_calls s r p.taken now h)) es (Return new)
    → (taken : PushAnswer) × (more : List TraceEntry) × (es ≡ entry (OnLoop (Push link.0 (drop p.taken d.payload))) taken ∷ more)
first_push s d link p r h zero less some es new way = absurd (omega (arith, some))
first_push s d link p r h (suc size) less some es new way =
    by (nat_lt p.taken (length d.payload)) (lt-ltb p.taken (length d.payload) less) es way
  where
    by : (b : Bool) → b ≡ true → (es : List TraceEntry)
        → Execution (bind (on_loop (cond b (Ask (Push link.0 (drop p.taken d.payload)) (pushed_on (pushes size d link) link (drop p.taken d.payload) p)) (confirms_payload d link p))) (λ now. notes_calls s r p.taken now h)) es (Return new)
        → (taken : PushAnswer) × (more : List TraceEntry) × (es ≡ entry (OnLoop (Push link.0 (drop p.taken d.payload))) taken ∷ more)
    by false is es way = absurd (cc is)
    by true is [] way = absurd (cc way)
    by true is (e ∷ es) way = (way.0, es, ap (λ (x : TraceEntry). x ∷ es) way.1)

module _ (s : AllSettings) (h new : History) (r : Route) (link : LinkId) (progress : Progress) (writes_on : IsWriting h r link progress) (rest : HasRest s h r progress) where
  abbrev brought : Fact
  brought = Happened (happening.Room link)

  abbrev Pushes : List TraceEntry → Type 0
  Pushes es = (taken : PushAnswer) × (more : List TraceEntry) × (es ≡ entry (OnLoop (Push link.0 (drop progress.taken (delivery s h r).payload))) taken ∷ more)

  flies : flight (brought ∷ h) r ≡ Some progress
  flies = ap (λ (x : History). flight x r) writes_on.is ∙ flight_since r link progress writes_on.stage writes_on.later writes_on.before writes_on.last

  on_link : route_on_link (brought ∷ h) link.0 ≡ Some r
  on_link = ap (λ (x : History). route_on_link x link.0) writes_on.is ∙ on_link_since r link progress writes_on.stage writes_on.later writes_on.before writes_on.last

  polls_push : (es : List TraceEntry) → Execution (bind (on_loop (polls (delivery s h r) progress)) (λ now. notes_calls s r progress.taken now (brought ∷ h))) es (Return new) → Pushes es
  unfolding polls writes
  polls_push es way =
      first_push s (delivery s h r) link progress r (brought ∷ h) (length (delivery s h r).payload) rest (omega (arith, rest)) es new
      (subst (λ (stage : Stage). Execution (bind (on_loop (polls_in (delivery s h r) progress stage)) (λ now. notes_calls s r progress.taken now (brought ∷ h))) es (Return new)) writes_on.stage way)

  at_room_push : (es : List TraceEntry) → Execution (at_room s link.0 (brought ∷ h)) es (Return new) → Pushes es
  unfolding at_room
  at_room_push es way =
      let found = subst (λ (at : Option Route). Execution (resumes s (λ d p. on_loop (polls d p)) at (brought ∷ h)) es (Return new)) on_link way in
      polls_push es (subst (λ (at : Option Progress). Execution (goes_on s (λ d p. on_loop (polls d p)) r at (brought ∷ h)) es (Return new)) flies found)

  pub room_pushes : (es : List TraceEntry) → Execution (step s (happening.Room link) h) es (Return new)
      → (taken : PushAnswer) × (more : List TraceEntry) × (es ≡ entry (Note brought) tt ∷ entry (OnLoop (Push link.0 (drop progress.taken (delivery s h r).payload))) taken ∷ more)
  unfolding step
  room_pushes [] way = absurd (cc way)
  room_pushes (e ∷ es) way =
      let pushed = at_room_push es way.2 in
      (pushed.0, pushed.1, ap (λ (x : TraceEntry). x ∷ es) way.1 ∙ ap (λ (x : List TraceEntry). entry (Note brought) tt ∷ x) pushed.2)
