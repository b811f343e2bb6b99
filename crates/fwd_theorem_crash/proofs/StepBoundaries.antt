-- If no step is in progress the order invariant holds, and so each crash point of the next step is safe.
use Rattle.std.proofs.Common.{◌≡◌, inl, zero, true, List, [], ◌∷◌, Option, Some, None, refl, sym, ◌∙◌, ap, subst}
use Rattle.fwd_outside.specs.Program.{entry, Return, Execution}
use Rattle.fwd_outside.specs.AtCrashPoints.{AtCrashPoints, Ends}
use Rattle.fwd_outside.proofs.CrashPointLemmas.{holds_moments, holds_end}
use Rattle.fwd_outside.proofs.Executions.{way_bind}
use Rattle.fwd_outside.specs.Loop.{Start}
use Rattle.fwd_outside.specs.declared.ends.Ends.{Ends as InputEnds}
use Rattle.fwd_outside.specs.declared.happening.Happening.{Happening}
use Rattle.fwd_outside.specs.declared.happening.Happening.TheVariants as happening
use Rattle.fwd_outside.specs.DiskStates.{Files}
use Rattle.fwd_backlog.specs.Recovered.{AreDurable}
use Rattle.fwd_settings.specs.declared.settings_types.AllSettings.{AllSettings}
use Rattle.fwd_settings.specs.Requirements.{MeetsRequirements}
use Rattle.fwd_model.specs.Fact.{History}
use Rattle.fwd_model.specs.Trace.{Call, Answer, Action, TraceEntry, OnLoop}
use Rattle.fwd_model.specs.StepActions.{step}
use Rattle.fwd_model.specs.RecoveryActions.{recovers}
use Rattle.fwd_model.specs.Run.{after_recovery, life}
use Rattle.fwd_theorem_trace.specs.Past.{Past, logged, past_after}
use Rattle.fwd_theorem_trace.specs.Allowed.{EventAllowed, IsAllowed, Allowed}
use Rattle.fwd_theorem_trace.proofs.Traversal.{traverses_rest, holds_now}
use Rattle.fwd_theorem_trace.proofs.Run.{due_since, steps_step}
use Rattle.fwd_theorem_crash.specs.CrashPoint.{CrashPoint, crash_point, LeadsTo}
use Rattle.fwd_theorem_crash.specs.Safety.{IsSafe}
use Rattle.fwd_theorem_crash.specs.StepBoundaries.{wait_at, takes_event, turn, IsOffsetCall, HasReached, IsLoaded, HasKept, HasStarted, HasWaited, HasStepped}
use Rattle.fwd_theorem_crash.proofs.Completion.{past_is}
use Rattle.fwd_theorem_crash.proofs.RunTraversal.{after, IsLoopOrFiles, IsStaying, passes_stay}
use Rattle.fwd_theorem_crash.proofs.DiskPoints.{Safe, Kept, safe_now}
use Rattle.fwd_theorem_crash.proofs.OffsetTraversal.{offset_stays}
use Rattle.fwd_theorem_crash.proofs.RunSafety.{can_walk, can_keep, tells_step, loaded_safe, loaded_kept, safe_along, Found}

module _ (s : AllSettings) (settings : MeetsRequirements s) (full : s.service.full ≡ true) (first : Files) (fresh : AreDurable first) where
  -- a run allows the past, and the order invariant holds
  pub record IsInOrder (m : CrashPoint) : Type 0 where
    pub due : Allowed s m.past
    pub kept : Kept s first m

  abbrev Told : History → CrashPoint → Type 0
  Told h end = (h ≡ logged end.past) × Kept s first end

  abbrev Loaded : Option History → CrashPoint → Type 0
  Loaded found m = IsSafe s first m × Found s settings full first found m

  no_ends : InputEnds
  no_ends = record { inputs = []; outputs = [] }

  loading_due : (es : List TraceEntry) (left : Action (Option History)) → Execution (recovers s) es left → Allowed s (past_after [] es)
  unfolding life
  loading_due es left way = due_since s no_ends None zero es _ (way_bind (recovers s) left es (after_recovery s no_ends None zero) way)

  loaded : (es : List TraceEntry) (h : History) (m : CrashPoint) → Execution (recovers s) es (Return (Some h)) → Ends LeadsTo (crash_point [] first) es m → IsInOrder m
  loaded es h m way ends = record {
    due = subst (Allowed s) (sym (past_is (crash_point [] first) m es ends)) (loading_due es (Return (Some h)) way);
    kept = loaded_kept s settings full first h m (holds_end LeadsTo (Safe s first) Loaded (crash_point [] first) (recovers s) (loaded_safe s settings full first fresh) es (Some h) m way ends).1;
  }

  beside : (before m : CrashPoint) (call : Call) (answer : Answer call) → IsStaying call → IsLoopOrFiles call → IsAllowed s call before.past → IsInOrder before → Ends LeadsTo before (entry call answer ∷ []) m → IsInOrder m
  beside before m call answer staying aside due was ends =
      let is : m ≡ after before call answer = ends.3 ∙ (passes_stay call answer before ends.0 ends.1 staying ends.2).1 in
      subst IsInOrder (sym is) (record { due = (due, was.due); kept = (can_walk s settings full first).still call answer before aside was.kept })

  offset_kept : (before m : CrashPoint) (call : Call) (answer : Answer call) → IsOffsetCall call → IsAllowed s call before.past → IsInOrder before → Ends LeadsTo before (entry call answer ∷ []) m → IsInOrder m
  offset_kept before m call answer of due was ends =
      let is : m ≡ after before call answer = ends.3 ∙ (passes_stay call answer before ends.0 ends.1 (offset_stays call of) ends.2).1 in
      subst IsInOrder (sym is) (record { due = (due, was.due); kept = (can_keep s settings full first).still call answer before of due was.kept })

  step_due : (m : CrashPoint) (brought : Happening) (es : List TraceEntry) (left : Action History) → IsInOrder m → EventAllowed s brought m.past → Execution (step s brought (logged m.past)) es left → Allowed s (past_after m.past es)
  step_due m brought es left was due way =
      let Q : History → Past → Type 0 = λ (x : History) (now : Past). (x ≡ logged now) × Unit {0} in
      holds_now (Allowed s) Q (past_after m.past es) left (traverses_rest (Allowed s) Q m.past (step s brought (logged m.past)) (steps_step s brought m.past due was.due) es left way)

  stepped : (before m : CrashPoint) (brought : Happening) (es : List TraceEntry) (h : History) → IsInOrder before → EventAllowed s brought before.past
      → Execution (step s brought (logged before.past)) es (Return h) → Ends LeadsTo before es m → (h ≡ logged m.past) × IsInOrder m
  stepped before m brought es h was due way ends =
      let reached : Told h m = holds_end LeadsTo (Safe s first) Told before (step s brought (logged before.past)) (tells_step s settings full first brought before was.kept) es h m way ends in
      (reached.0, record { due = subst (Allowed s) (sym (past_is before m es ends)) (step_due before brought es (Return h) was due way); kept = reached.1 })

  pub in_order : {m : CrashPoint} → HasReached s first m → IsInOrder m
  in_order (IsLoaded es h m way ends) = loaded es h m way ends
  in_order (HasKept before m call answer of come due led) = offset_kept before m call answer of due (in_order come) led
  in_order (HasStarted before m ends ready come led) = beside before m (OnLoop (Start ends)) ready tt tt tt (in_order come) led
  in_order (HasWaited before m brought come led) = beside before m (OnLoop (wait_at s (logged before.past))) brought tt tt (refl, refl) (in_order come) led
  in_order (HasStepped before m brought es h come due way led) = (stepped before m brought es h (in_order come) due way led).1

  -- ---- consequences for a point that a run has reached

  pub come_safe : (m : CrashPoint) → HasReached s first m → IsSafe s first m
  come_safe m come = let was : IsInOrder m = in_order come in safe_now s first m was.kept was.due

  pub loading_safe : (es : List TraceEntry) (left : Action (Option History)) → Execution (recovers s) es left → AtCrashPoints LeadsTo (IsSafe s first) (crash_point [] first) es
  loading_safe es left way =
      safe_along s settings full first (crash_point [] first) es (loading_due es left way)
      (holds_moments LeadsTo (Safe s first) Loaded (crash_point [] first) (recovers s) (loaded_safe s settings full first fresh) es left way)

  pub step_safe : (m : CrashPoint) (brought : Happening) (es : List TraceEntry) (left : Action History) → HasReached s first m → EventAllowed s brought m.past
      → Execution (step s brought (logged m.past)) es left → AtCrashPoints LeadsTo (IsSafe s first) m es
  step_safe m brought es left come due way =
      let was : IsInOrder m = in_order come in
      safe_along s settings full first m es (step_due m brought es left was due way)
      (holds_moments LeadsTo (Safe s first) Told m (step s brought (logged m.past)) (tells_step s settings full first brought m was.kept) es left way)

  -- a step returns the history so far
  pub step_noted : (m end : CrashPoint) (brought : Happening) (es : List TraceEntry) (h : History) → HasReached s first m → EventAllowed s brought m.past
      → Execution (step s brought (logged m.past)) es (Return h) → Ends LeadsTo m es end → h ≡ logged end.past
  step_noted m end brought es h come due way led = (stepped m end brought es h (in_order come) due way led).0

  -- and so does the loading
  pub loading_noted : (m : CrashPoint) (es : List TraceEntry) (h : History) → Execution (recovers s) es (Return (Some h)) → Ends LeadsTo (crash_point [] first) es m → h ≡ logged m.past
  loading_noted m es h way led =
      (holds_end LeadsTo (Safe s first) Loaded (crash_point [] first) (recovers s) (loaded_safe s settings full first fresh) es (Some h) m way led).1.1.0

  -- ---- a turn: the event that its wait returned is taken

  waited : (m mid : CrashPoint) (brought : Happening) → HasReached s first m → Ends LeadsTo m (entry (OnLoop (wait_at s (logged m.past))) brought ∷ []) mid → (mid ≡ after m (OnLoop (wait_at s (logged m.past))) brought) × HasReached s first mid
  waited m mid brought come led = (led.3 ∙ (passes_stay (OnLoop (wait_at s (logged m.past))) brought m led.0 led.1 tt led.2).1, HasWaited m mid brought come led)

  -- the event, at the point after the wait
  takes_safe : (m : CrashPoint) (brought : Happening) (h : History) (es : List TraceEntry) (left : Action History) → h ≡ logged m.past → EventAllowed s brought m.past → HasReached s first m
      → Execution (takes_event s h brought) es left → AtCrashPoints LeadsTo (IsSafe s first) m es
  takes_safe m happening.Failed h [] left same due come way = come_safe m come
  takes_safe m happening.Failed h (e ∷ es) left same due come way = absurd way
  takes_safe m brought h es left same due come way = step_safe m brought es left come due (subst (λ (x : History). Execution (step s brought x) es left) same way)

  takes_come : (m end : CrashPoint) (brought : Happening) (h k : History) (es : List TraceEntry) → h ≡ logged m.past → EventAllowed s brought m.past → HasReached s first m
      → Execution (takes_event s h brought) es (Return k) → Ends LeadsTo m es end → HasReached s first end × (k ≡ logged end.past)
  takes_come m end happening.Failed h k [] same due come way led = (subst (HasReached s first) (sym led) come, cc (way, same, led))
  takes_come m end happening.Failed h k (e ∷ es) same due come way led = absurd way
  takes_come m end brought h k es same due come way led =
      let at : Execution (step s brought (logged m.past)) es (Return k) = subst (λ (x : History). Execution (step s brought x) es (Return k)) same way in
      (HasStepped m end brought es k come due at led, step_noted m end brought es k come due at led)

  brought_by_wait : (m mid : CrashPoint) (brought : Happening) → mid ≡ after m (OnLoop (wait_at s (logged m.past))) brought → EventAllowed s brought mid.past
  brought_by_wait m mid brought is = subst (λ (x : CrashPoint). EventAllowed s brought x.past) (sym is) (inl refl)

  same_noted : (m mid : CrashPoint) (brought : Happening) → mid ≡ after m (OnLoop (wait_at s (logged m.past))) brought → logged m.past ≡ logged mid.past
  same_noted m mid brought is = ap (λ (x : CrashPoint). logged x.past) (sym is)

  pub turn_safe : (m : CrashPoint) (es : List TraceEntry) (left : Action History) → HasReached s first m → Execution (turn s (logged m.past)) es left → AtCrashPoints LeadsTo (IsSafe s first) m es
  turn_safe m [] left come way = come_safe m come
  turn_safe m (e ∷ es) left come way =
      let brought : Happening = way.0 in
      subst (λ (x : TraceEntry). AtCrashPoints LeadsTo (IsSafe s first) m (x ∷ es)) (sym way.1) (
        come_safe m come,
        λ during mid passes.
            let led : Ends LeadsTo m (entry (OnLoop (wait_at s (logged m.past))) brought ∷ []) mid = (during, mid, passes, refl) in
            let went = waited m mid brought come led in (
              subst (IsSafe s first) (sym (passes_stay (OnLoop (wait_at s (logged m.past))) brought m during mid tt passes).0) (come_safe m come),
              takes_safe mid brought (logged m.past) es left (same_noted m mid brought went.0) (brought_by_wait m mid brought went.0) went.1 way.2,
            ),
      )

  pub turn_come : (m end : CrashPoint) (es : List TraceEntry) (k : History) → HasReached s first m → Execution (turn s (logged m.past)) es (Return k) → Ends LeadsTo m es end → HasReached s first end × (k ≡ logged end.past)
  turn_come m end [] k come way led = absurd (cc way)
  turn_come m end (e ∷ es) k come way led =
      let brought : Happening = way.0 in
      let on = subst (λ (x : TraceEntry). Ends LeadsTo m (x ∷ es) end) way.1 led in
      let went = waited m on.1 brought come (on.0, on.1, on.2, refl) in
      takes_come on.1 end brought (logged m.past) k es (same_noted m on.1 brought went.0) (brought_by_wait m on.1 brought went.0) went.1 way.2 on.3
