-- Actions that concern no flush keep the invariants of all flushes.
use Rattle.std.proofs.Common.{◌≡◌, ◌⊎◌, inl, inr, ◌<◌, Bool, true, false, cond, List, [], ◌∷◌, ◌++◌, Option, Some, None, refl, sym, ◌∙◌, subst, arith}
use Rattle.std.proofs.lemmas.List.{append-nil}
use Rattle.fwd_event.specs.declared.event.Event.{Event as LogEvent}
use Rattle.fwd_outside.specs.Program.{entry, Return, Ask, bind}
use Rattle.fwd_outside.specs.Loop.{LoopCall, LoopAnswer, Start, Wait, Dial, Push, Close, Reply, DropConn, Word}
use Rattle.fwd_flush.specs.FlushProgram.{Progress}
use Rattle.fwd_settings.specs.declared.settings_types.AllSettings.{AllSettings}
use Rattle.fwd_model.specs.Fact.{Fact, History, Route, Outcome, FlushStarted, Evicted, Sent, OnRoute}
use Rattle.fwd_model.specs.Trace.{Action, OnLoop, OnDisk, OnFiles, OnKeeper, Note}
use Rattle.fwd_model.specs.Routes.{route, flight, progress_of}
use Rattle.fwd_model.specs.Chunks.{next}
use Rattle.fwd_theorem_delivery.proofs.OwnEvents.{GivesNone}
use Rattle.fwd_theorem_delivery.proofs.Outcomes.{Now, asked, noted, Ends, ends_bind, ends_test}
use Rattle.fwd_theorem_delivery.proofs.FlushInvariant.{CameBy}
use Rattle.fwd_theorem_delivery.proofs.LinkClosures.{closed_refused}
use Rattle.fwd_theorem_delivery.proofs.Counts.{counted_fact, counted_aside}
use Rattle.fwd_theorem_delivery.proofs.OpenLinks.{opened_aside}
use Rattle.fwd_theorem_delivery.proofs.OutcomeCauses.{refused}
use Rattle.fwd_theorem_delivery.proofs.RunInvariant.{RunInvariant, whole_as, whole_fact, whole_aside}
use Rattle.fwd_theorem_delivery.proofs.QuietActions.{MayBecome, MayDo, IsAside, TouchesNoFlush, Same, OpenHaveNoFlush}

-- the action returns its history, and the invariants of all flushes hold
abbrev pub KeepsInvariant : AllSettings → History → Now → Type 0
KeepsInvariant s h n = (h ≡ n.history) × RunInvariant s n

abbrev pub Safe : AllSettings → Now → Action History → Type 0
Safe s n p = Ends (KeepsInvariant s) n p

neither : ⊥ ⊎ ⊥ → ⊥
neither (inl is) = is
neither (inr is) = is

none_given : GivesNone []
none_given to link given = given

module _ (s : AllSettings) where
  pub safe_test : (b : Bool) (n : Now) (p q : Action History) → (b ≡ true → Safe s n p) → (b ≡ false → Safe s n q) → Safe s n (cond b p q)
  safe_test b n p q first second = ends_test (KeepsInvariant s) b n p q first second

  pub safe_then : (n : Now) (p : Action History) (next : History → Action History) → Safe s n p → ((m : Now) → RunInvariant s m → Safe s m (next m.history)) → Safe s n (bind p next)
  safe_then n p next first second = ends_bind (KeepsInvariant s) (KeepsInvariant s) n p next first (λ h m stays. subst (λ (x : History). Safe s m (next x)) (sym stays.0) (second m stays.1))

  -- a route without a flush gets an outcome that isn't an answer
  whole_silent : (n : Now) (r : Route) (outcome : Outcome) → flight n.history r ≡ None → progress_of outcome ≡ None → CameBy s (n.calls ++ []) (OnRoute r outcome ∷ n.history) r outcome → RunInvariant s n → RunInvariant s (noted (OnRoute r outcome) n)
  whole_silent n r outcome grounded out by whole =
      whole_as s (OnRoute r outcome ∷ n.history) n.greatest n.greatest (n.calls ++ []) n.calls refl (append-nil n.calls)
      (record {
        kept = refused s n whole.kept r grounded [] none_given (λ link. refl) outcome out by;
        counted = counted_fact (OnRoute r outcome ∷ n.history) (record { greatest = n.greatest; calls = n.calls ++ []; history = n.history }) (λ output. refl) (counted_aside n whole.counted [] none_given (λ link. refl));
        closed = closed_refused n whole.closed [] r outcome none_given (λ link. refl) out grounded;
        opened = opened_aside n.calls [] whole.opened (λ link. refl) (λ link. refl);
      })

  pub whole_begun : (n : Now) (r : Route) (events : List LogEvent) → flight n.history r ≡ None → RunInvariant s n → RunInvariant s (noted (OnRoute r (FlushStarted events)) n)
  whole_begun n r events grounded whole = whole_silent n r (FlushStarted events) grounded refl tt whole

  whole_route : (n : Now) (r : Route) (outcome : Outcome) → MayBecome outcome r n.history → RunInvariant s n → RunInvariant s (noted (OnRoute r outcome) n)
  whole_route n r Evicted may whole = whole_silent n r Evicted may refl tt whole
  whole_route n r outcome may whole = absurd may

  whole_note : (fact : Fact) (n : Now) → MayDo fact n.history → RunInvariant s n → RunInvariant s (noted fact n)
  whole_note (OnRoute r outcome) n may whole = whole_route n r outcome may whole
  whole_note (Sent output bytes) n may whole = absurd may
  whole_note fact n may whole = whole_fact s fact n may whole

  -- a call that isn't on any link
  whole_call : (call : LoopCall) (answer : LoopAnswer call) (n : Now) → IsAside call → RunInvariant s n → RunInvariant s (asked call answer n)
  whole_call (Start ends) answer n aside whole = whole_aside s n (entry (Start ends) answer ∷ []) (λ to link given. neither given) (λ link. refl) (λ link. refl) whole
  whole_call (Reply conn bytes) answer n aside whole = whole_aside s n (entry (Reply conn bytes) answer ∷ []) (λ to link given. neither given) (λ link. refl) (λ link. refl) whole
  whole_call (DropConn conn) answer n aside whole = whole_aside s n (entry (DropConn conn) answer ∷ []) (λ to link given. neither given) (λ link. refl) (λ link. refl) whole
  whole_call Word answer n aside whole = whole_aside s n (entry Word answer ∷ []) (λ to link given. neither given) (λ link. refl) (λ link. refl) whole
  whole_call (Wait until paused) answer n aside whole = absurd aside
  whole_call (Dial output tag) answer n aside whole = absurd aside
  whole_call (Push link bytes) answer n aside whole = absurd aside
  whole_call (Close link) answer n aside whole = absurd aside

  pub whole_quiet : {R : Type 0} (Q : R → History → Type 0) (n : Now) (p : Action R) → TouchesNoFlush Q n.history p → RunInvariant s n → Ends (λ (x : R) (m : Now). Q x m.history × RunInvariant s m) n p
  whole_quiet Q n (Return x) quietly whole = (quietly, whole)
  whole_quiet Q n (Ask (OnLoop call) go) quietly whole = λ answer may. whole_quiet Q (asked call answer n) (go answer) (quietly.1 answer) (whole_call call answer n quietly.0 whole)
  whole_quiet Q n (Ask (OnDisk call) go) quietly whole = λ answer may. whole_quiet Q n (go answer) (quietly.1 answer) whole
  whole_quiet Q n (Ask (OnFiles call) go) quietly whole = λ answer may. whole_quiet Q n (go answer) (quietly.1 answer) whole
  whole_quiet Q n (Ask (OnKeeper call) go) quietly whole = λ answer may. whole_quiet Q n (go answer) (quietly.1 answer) whole
  whole_quiet Q n (Ask (Note fact) go) quietly whole = λ answer may. whole_quiet Q (noted fact n) (go answer) (quietly.1 answer) (whole_note fact n quietly.0 whole)

  pub safe_quiet : (n : Now) (p : Action History) → TouchesNoFlush Same n.history p → RunInvariant s n → Safe s n p
  safe_quiet n p quietly whole = whole_quiet Same n p quietly whole

  -- flushes in progress have existing, closed chunks
  pub open_rest : (n : Now) → RunInvariant s n → OpenHaveNoFlush n.history
  open_rest n whole chunk why output = by (flight n.history (route chunk output)) refl
    where
      by : (o : Option Progress) → flight n.history (route chunk output) ≡ o → flight n.history (route chunk output) ≡ None
      by None is = is
      by (Some p) is = let e = whole.kept.under_way (route chunk output) p is in elim why [
        | inl unshut ↦ absurd (cc (sym e.3.shut ∙ unshut))
        | inr newest ↦ let below : chunk < next n.history = whole.kept.sound chunk e.3.opened in absurd (omega (arith, below, newest))
      ]
