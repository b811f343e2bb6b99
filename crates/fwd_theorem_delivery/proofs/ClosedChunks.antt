-- The chunks that existed at a closing are closed at the end of its turn, and so a flush time after a
-- tick.
use Rattle.std.proofs.Common.{◌≡◌, ◌⊎◌, inl, inr, ℕ, ◌≤◌, Bool, true, false, cond, List, [], ◌∷◌, ◌++◌, Option, refl, sym, ◌∙◌, subst, arith}
use Rattle.std.specs.Prelude.{Contains, nat_le}
use Rattle.std.proofs.lemmas.Bool.{leb-false}
use Rattle.fwd_outside.specs.Program.{entry, Return, Ask, Execution}
use Rattle.fwd_outside.specs.declared.ends.Ends.{Ends}
use Rattle.fwd_outside.specs.declared.happening.Happening.{Happening}
use Rattle.fwd_outside.specs.declared.happening.Happening.TheVariants as happening
use Rattle.fwd_settings.specs.declared.settings_types.AllSettings.{AllSettings}
use Rattle.fwd_model.specs.Fact.{Fact, History, Happened, Resumed, Saved, Found}
use Rattle.fwd_model.specs.Trace.{Action, TraceEntry, Note}
use Rattle.fwd_model.specs.Settings.{saturating_plus}
use Rattle.fwd_model.specs.Clock.{clock, clock_after, next_close, is_close_due}
use Rattle.fwd_model.specs.Chunks.{ChunkInfo, chunks_of, is_closed}
use Rattle.fwd_model.specs.StepActions.{step}
use Rattle.fwd_model.specs.Run.{RunResult, life}
use Rattle.fwd_theorem_trace.specs.Past.{Past, logged}
use Rattle.fwd_theorem_trace.specs.Allowed.{EventAllowed, IsLoading, Allowed}
use Rattle.fwd_theorem_trace.specs.Events.{events_only}
use Rattle.fwd_theorem_trace.specs.Closure.{closes_at, has_closed}
use Rattle.fwd_theorem_trace.proofs.Traversal.{Traverses, Extends, traverses_map}
use Rattle.fwd_theorem_trace.proofs.Persistence.{chunk_still, shut_since, chunk_since}
use Rattle.fwd_theorem_trace.proofs.Actions.{IsKept}
use Rattle.fwd_theorem_trace.proofs.Steps.{IsOuter, told_happens}
use Rattle.fwd_theorem_trace.proofs.OffsetCalls.{IsOffsetFact}
use Rattle.fwd_theorem_trace.proofs.Run.{due_onward, Lasts, so_at_end}
use Rattle.fwd_theorem_trace.proofs.ClosedTurns.{IsClosed, closed_step}
use Rattle.fwd_theorem_delivery.specs.OverdueChunks.{IsOverdue}

-- two traversals of the same action
walks_both : {R : Type 0} (P : Past → Type 0) (Q W : R → Past → Type 0) (past : Past) (p : Action R) → Traverses P Q past p → Traverses P W past p → Traverses P (λ (x : R) (now : Past). Q x now × W x now) past p
walks_both P Q W past (Return x) one two = (one.0, (one.1, two.1))
walks_both P Q W past (Ask call go) one two = (one.0, λ answer. walks_both P Q W (entry call answer ∷ past) (go answer) (one.1 answer) (two.1 answer))

module _ (s : AllSettings) where
  -- the chunks that existed when all open ones were last to close
  abbrev chunks_at_closing : History → List ChunkInfo
  chunks_at_closing [] = []
  chunks_at_closing (Happened x ∷ h) = cond (closes_at s h x) (chunks_of h) (chunks_at_closing h)
  chunks_at_closing (fact ∷ h) = chunks_at_closing h

  abbrev IsClosedInTime : Past → Type 0
  IsClosedInTime past = (c : ChunkInfo) → Contains (chunks_at_closing (logged past)) c → is_closed (logged past) c.number ≡ true

  -- ---- a step

  abbrev Kept : List ChunkInfo → Bool → Past → Type 0
  Kept w b past = (chunks_at_closing (logged past) ≡ w) × (has_closed s (logged past) ≡ b)

  stays_kept : (w : List ChunkInfo) (b : Bool) → IsKept s IsOuter (Kept w b)
  stays_kept w b (Note fact) answer past is due so = by fact is so
    where
      by : (f : Fact) → IsOuter (Note f) → Kept w b past → (chunks_at_closing (f ∷ logged past) ≡ w) × (has_closed s (f ∷ logged past) ≡ b)
      by (Happened x) is so = absurd is
      by f is so = so
  stays_kept w b call answer past is due so = so

  abbrev Stepped : Happening → Past → Past → Type 0
  Stepped x past now = IsClosed s now × Kept (cond (closes_at s (logged past) x) (chunks_of (logged past)) (chunks_at_closing (logged past))) (closes_at s (logged past) x) now

  kept_step : (x : Happening) (past : Past) → EventAllowed s x past → Allowed s past
      → Traverses (Allowed s) (λ (h : History) (now : Past). (h ≡ logged now) × Kept (cond (closes_at s (logged past) x) (chunks_of (logged past)) (chunks_at_closing (logged past))) (closes_at s (logged past) x) now) past (step s x (logged past))
  unfolding step
  kept_step x past due ready = (
    ready,
    λ answer.
        told_happens s (Kept (cond (closes_at s (logged past) x) (chunks_of (logged past)) (chunks_at_closing (logged past))) (closes_at s (logged past) x))
        (stays_kept (cond (closes_at s (logged past) x) (chunks_of (logged past)) (chunks_at_closing (logged past))) (closes_at s (logged past) x))
        (logged past) x (entry (Note (Happened x)) answer ∷ past) ((due, ready), (refl, refl)),
  )

  swept_step : (x : Happening) (past now : Past) → Extends past now → IsClosedInTime past → Stepped x past now → IsClosedInTime now
  swept_step x past now grown before (closed, kept) c has = by (closes_at s (logged past) x) refl (subst (λ (l : List ChunkInfo). Contains l c) kept.0 has)
    where
      by : (b : Bool) → closes_at s (logged past) x ≡ b → Contains (cond b (chunks_of (logged past)) (chunks_at_closing (logged past))) c → is_closed (logged now) c.number ≡ true
      by true is there = closed (kept.1 ∙ is) c (chunk_since past now c grown there)
      by false is there = shut_since past now c.number grown (before c there)

  -- ---- a run

  none_yet : (h : History) → IsLoading h → chunks_at_closing h ≡ []
  none_yet [] loading = refl
  none_yet (Found number stream name bytes ∷ h) loading = none_yet h loading.1
  none_yet (fact ∷ h) loading = absurd loading

  swept_aside : (fact : Fact) (answer : Unit {0}) (past : Past) → IsOffsetFact fact → IsClosedInTime past → IsClosedInTime (entry (Note fact) answer ∷ past)
  swept_aside (Resumed input index place) answer past is so = so
  swept_aside (Saved input index place) answer past is so = so
  swept_aside fact answer past is so = absurd is

  swept_lasts : Lasts s (Allowed s) IsClosedInTime
  swept_lasts = record {
    first = tt;
    onward = due_onward s;
    loaded = λ past loading c has. let there = subst (λ (l : List ChunkInfo). Contains l c) (none_yet (logged past) loading) has in absurd (omega (arith, there.1));
    called = λ call answer past so. so;
    aside = record { call = λ call answer past due so. ((due, so.0), so.1); fact = λ fact answer past is due so. ((due, so.0), swept_aside fact answer past is so.1) };
    stepped = λ x past due ready so.
        let Closed : History → Past → Type 0 = λ (h : History) (now : Past). (h ≡ logged now) × IsClosed s now in
        let Stays : History → Past → Type 0 = λ (h : History) (now : Past). (h ≡ logged now) × Kept (cond (closes_at s (logged past) x) (chunks_of (logged past)) (chunks_at_closing (logged past))) (closes_at s (logged past) x) now in
        traverses_map (Allowed s) (λ (h : History) (now : Past). Closed h now × Stays h now) (λ (h : History) (now : Past). (h ≡ logged now) × IsClosedInTime now) past (step s x (logged past))
        (λ h now grown is. (is.0.0, swept_step x past now grown so (is.0.1, is.1.1)))
        (walks_both (Allowed s) Closed Stays past (step s x (logged past)) (closed_step s x past due ready) (kept_step x past due ready));
  }

  -- ---- an overdue chunk existed at a closing

  next_bound : (h : History) → next_close s h ≤ saturating_plus (clock h) s.service.flush_ms
  next_bound [] = omega arith
  next_bound (Happened (happening.Tick now) ∷ h) = by (nat_le (next_close s h) (clock_after (clock h) now)) (next_bound h)
    where
      by : (b : Bool) → next_close s h ≤ saturating_plus (clock h) s.service.flush_ms → cond b (saturating_plus (clock_after (clock h) now) s.service.flush_ms) (next_close s h) ≤ saturating_plus (clock_after (clock h) now) s.service.flush_ms
      by true le = omega arith
      by false le = omega (arith, le)
  next_bound (Happened x ∷ h) = next_bound h
  next_bound (fact ∷ h) = next_bound h

  own_next : (own h : History) → events_only own ≡ [] → next_close s (own ++ h) ≡ next_close s h
  own_next [] h none = refl
  own_next (Happened x ∷ own) h none = absurd (cc none)
  own_next (fact ∷ own) h none = own_next own h none

  chunk_behind : (own h : History) (c : ChunkInfo) → Contains (chunks_of h) c → Contains (chunks_of (own ++ h)) c
  chunk_behind [] h c has = has
  chunk_behind (fact ∷ own) h c has = chunk_still fact (own ++ h) c (chunk_behind own h c has)

  still_swept : (own h : History) (c : ChunkInfo) → Contains (chunks_of h) c → Contains (chunks_at_closing h) c → Contains (chunks_at_closing (own ++ h)) c
  still_swept [] h c there has = has
  still_swept (Happened x ∷ own) h c there has = by (closes_at s (own ++ h) x) (still_swept own h c there has)
    where
      by : (b : Bool) → Contains (chunks_at_closing (own ++ h)) c → Contains (cond b (chunks_of (own ++ h)) (chunks_at_closing (own ++ h))) c
      by true before = chunk_behind own h c there
      by false before = before
  still_swept (fact ∷ own) h c there has = still_swept own h c there has

  swept_or_soon : (between h : History) (bound : ℕ) (c : ChunkInfo) → next_close s h ≤ bound → Contains (chunks_of h) c → Contains (chunks_at_closing (between ++ h)) c ⊎ (next_close s (between ++ h) ≤ bound)
  swept_or_soon [] h bound c le there = inr le
  swept_or_soon (Happened x ∷ between) h bound c le there = by (closes_at s (between ++ h) x) refl (swept_or_soon between h bound c le there)
    where
      same_next : (x : Happening) → closes_at s (between ++ h) x ≡ false → next_close s (Happened x ∷ between ++ h) ≡ next_close s (between ++ h)
      same_next (happening.Tick now) off = rw off refl
      same_next x off = refl

      by : (b : Bool) → closes_at s (between ++ h) x ≡ b → Contains (chunks_at_closing (between ++ h)) c ⊎ (next_close s (between ++ h) ≤ bound)
          → Contains (cond b (chunks_of (between ++ h)) (chunks_at_closing (between ++ h))) c ⊎ (next_close s (Happened x ∷ between ++ h) ≤ bound)
      by true is before = inl (chunk_behind between h c there)
      by false is (inl before) = inl before
      by false is (inr soon) = inr (subst (λ (n : ℕ). n ≤ bound) (sym (same_next x is)) soon)
  swept_or_soon (fact ∷ between) h bound c le there = swept_or_soon between h bound c le there

  overdue_swept : (h : History) (c : ChunkInfo) → IsOverdue s h c → Contains (chunks_at_closing h) c
  overdue_swept h c over =
      let base : History = Happened (happening.Tick over.earlier) ∷ over.before in
      let at : History = over.own ++ base in
      let bound : ℕ = saturating_plus (clock base) s.service.flush_ms in
      let le : next_close s at ≤ bound = subst (λ (n : ℕ). n ≤ bound) (sym (own_next over.own base over.step)) (next_bound base) in
      subst (λ (x : History). Contains (chunks_at_closing x) c) (sym over.is)
      (still_swept over.after (Happened (happening.Tick over.later) ∷ over.between ++ at) c (chunk_behind (Happened (happening.Tick over.later) ∷ over.between) at c over.stood)
      (now (is_close_due s (over.between ++ at) over.later) refl (swept_or_soon over.between at bound c le over.stood)))
    where
      now : (b : Bool) → is_close_due s (over.between ++ (over.own ++ Happened (happening.Tick over.earlier) ∷ over.before)) over.later ≡ b
          → Contains (chunks_at_closing (over.between ++ (over.own ++ Happened (happening.Tick over.earlier) ∷ over.before))) c
          ⊎ (next_close s (over.between ++ (over.own ++ Happened (happening.Tick over.earlier) ∷ over.before)) ≤ saturating_plus (clock (Happened (happening.Tick over.earlier) ∷ over.before)) s.service.flush_ms)
          → Contains (cond b (chunks_of (over.between ++ (over.own ++ Happened (happening.Tick over.earlier) ∷ over.before))) (chunks_at_closing (over.between ++ (over.own ++ Happened (happening.Tick over.earlier) ∷ over.before)))) c
      now true is before = chunk_behind over.between (over.own ++ Happened (happening.Tick over.earlier) ∷ over.before) c over.stood
      now false is (inl before) = before
      now false is (inr soon) =
          let late = over.late in
          let off = leb-false (next_close s (over.between ++ (over.own ++ Happened (happening.Tick over.earlier) ∷ over.before))) (clock_after (clock (over.between ++ (over.own ++ Happened (happening.Tick over.earlier) ∷ over.before))) over.later) is in
          absurd (omega (arith, off, soon, late))

  pub closed_in_time : (ends : Ends) (ticks : Option ℕ) (turns : ℕ) (es : List TraceEntry) (end : RunResult) (c : ChunkInfo) → Execution (life s ends ticks turns) es (Return end) → IsOverdue s end.history c → is_closed end.history c.number ≡ true
  closed_in_time ends ticks turns es end c way over =
      let q = so_at_end s (Allowed s) IsClosedInTime swept_lasts ends ticks turns es end way in
      subst (λ (h : History). is_closed h c.number ≡ true) (sym q.0) (q.1 c (subst (λ (h : History). Contains (chunks_at_closing h) c) q.0 (overdue_swept end.history c over)))
