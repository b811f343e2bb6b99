-- Positions of facts in the history of a run, by the order that it keeps.
use Rattle.std.proofs.Common.{◌≡◌, ℕ, Bool, true, false, cond, List, [], ◌∷◌, ◌++◌, append_assoc, Option, refl, sym, ◌∙◌, ap, subst, arith}
use Rattle.std.specs.Prelude.{Contains, not}
use Rattle.std.proofs.lemmas.List.Elements.{All-nil, All-cons, All-head, All-tail, Contains-append_left, Contains-push}
use Rattle.fwd_outside.specs.Program.{Return, Execution}
use Rattle.fwd_outside.proofs.Executions.{way_trans}
use Rattle.fwd_outside.specs.declared.ends.Ends.{Ends}
use Rattle.fwd_settings.specs.declared.settings_types.AllSettings.{AllSettings}
use Rattle.fwd_model.specs.Fact.{Fact, History, Batch}
use Rattle.fwd_model.specs.Trace.{Call, OnLoop, OnDisk, OnFiles, OnKeeper, Note, Action, TraceEntry, history_after, history_after_call}
use Rattle.fwd_model.specs.Notes.{is_empty}
use Rattle.fwd_model.specs.Run.{RunResult, life}
use Rattle.fwd_theorem_trace.proofs.Members.{from_filter}
use Rattle.fwd_theorem_trace.proofs.Run.{noted_of_life}
use Rattle.fwd_theorem_delivery.specs.BatchOutcomes.{completed_by}
use Rattle.fwd_theorem_delivery.specs.Origins.{is_arrival, decided_by, decided_batches, HasNoArrival, with_events, WasCompleted, AreDecidedInOrder}
use Rattle.fwd_theorem_delivery.proofs.Completion.{Completes, completes}
use Rattle.fwd_theorem_delivery.proofs.BatchOrder.{completed_last, decided_last, AreOrdered, Always, always_before}
use Rattle.fwd_theorem_delivery.proofs.OriginRun.{always_at_end}

abbrev Between : Fact → Type 0
Between fact = is_arrival fact ≡ false

-- ---- at each point of a run

call_on : (call : Call) (h : History) → (more : History) × (history_after_call call h ≡ more ++ h)
call_on (OnLoop call) h = ([], refl)
call_on (OnDisk call) h = ([], refl)
call_on (OnFiles call) h = ([], refl)
call_on (OnKeeper call) h = ([], refl)
call_on (Note fact) h = (fact ∷ [], refl)

behind_on : (es : List TraceEntry) (h : History) → (more : History) × (history_after es h ≡ more ++ h)
behind_on [] h = ([], refl)
behind_on (e ∷ es) h = by (call_on e.call h) (behind_on es (history_after_call e.call h))
  where
    by : (first : (more : History) × (history_after_call e.call h ≡ more ++ h)) → (then : (more : History) × (history_after es (history_after_call e.call h) ≡ more ++ history_after_call e.call h)) → (more : History) × (history_after es (history_after_call e.call h) ≡ more ++ h)
    by (one, is) (two, is2) = (two ++ one, is2 ∙ (ap (λ (x : History). two ++ x) is ∙ sym (append_assoc two one h)))

behind_both : (xs ys : List TraceEntry) (h : History) → history_after (xs ++ ys) h ≡ history_after ys (history_after xs h)
behind_both [] ys h = refl
behind_both (e ∷ xs) ys h = behind_both xs ys (history_after_call e.call h)

module _ (s : AllSettings) where
  pub always_so_far : (ends : Ends) (ticks : Option ℕ) (turns : ℕ) (es : List TraceEntry) (left : Action RunResult) → Execution (life s ends ticks turns) es left → Always s (history_after es [])
  always_so_far ends ticks turns es left way = by (completes left)
    where
      by : Completes left → Always s (history_after es [])
      by (rest, end, on) =
          let whole : Execution (life s ends ticks turns) (es ++ rest) (Return end) = way_trans (life s ends ticks turns) left (Return end) es rest way on in
          let more = behind_on rest (history_after es []) in
          let is : end.history ≡ more.0 ++ history_after es [] = noted_of_life s ends ticks turns (es ++ rest) end whole ∙ (behind_both es rest [] ∙ more.1) in
          always_before s more.0 (history_after es []) (subst (Always s) is (always_at_end s ends ticks turns (es ++ rest) end whole))

  -- ---- the event that completed the last batches

  come_so : (fact : Fact) (h : History) (b : Batch) (comes : Bool) → is_arrival fact ≡ comes → Contains (cond comes (completed_by s h fact) (completed_last s h)) b
      → (Contains (completed_last s h) b → WasCompleted s h b) → WasCompleted s (fact ∷ h) b
  come_so fact h b true is has earlier = record { during = []; fact = fact; before = h; is = refl; between = All-nil Between; among = has }
  come_so fact h b false is has earlier = by (earlier has)
    where
      by : WasCompleted s h b → WasCompleted s (fact ∷ h) b
      by came = record { during = fact ∷ came.during; fact = came.fact; before = came.before; is = ap (λ (x : History). fact ∷ x) came.is; between = All-cons Between fact came.during is came.between; among = came.among }

  came_last : (h : History) (b : Batch) → Contains (completed_last s h) b → WasCompleted s h b
  came_last [] b has = absurd (omega (arith, has.1))
  came_last (fact ∷ h) b has = come_so fact h b (is_arrival fact) refl has (came_last h b)

  -- a fact that accepts or refuses a batch comes after the event that completed it
  pub came_before : (now later : History) (fact : Fact) (h : History) (b : Batch) → Always s now → now ≡ later ++ fact ∷ h → is_arrival fact ≡ false → decided_by fact ≡ b ∷ [] → WasCompleted s h b
  came_before now later fact h b always is between says = by (always_before s later (fact ∷ h) (subst (Always s) is always)).0
    where
      by : AreOrdered s (fact ∷ h) → WasCompleted s h b
      by (rest, same) =
          let judges : decided_last s (fact ∷ h) ≡ decided_last s h ++ b ∷ [] = ap (λ (x : Bool). cond x [] (decided_last s h ++ decided_by fact)) between ∙ ap (λ (bs : List Batch). decided_last s h ++ bs) says in
          let completed : completed_last s (fact ∷ h) ≡ completed_last s h = ap (λ (x : Bool). cond x (completed_by s h fact) (completed_last s h)) between in
          let in' : Contains ((decided_last s h ++ b ∷ []) ++ rest) b = Contains-append_left (decided_last s h ++ b ∷ []) rest b (Contains-push (decided_last s h) b) in
          let whole : with_events (completed_last s h) ≡ (decided_last s h ++ b ∷ []) ++ rest = ap with_events (sym completed) ∙ (same ∙ ap (λ (bs : List Batch). bs ++ rest) judges) in
          came_last h b (from_filter (λ (x : Batch). not (is_empty x.events)) (completed_last s h) b (subst (λ (bs : List Batch). Contains bs b) (sym whole) in')).0

  -- ---- the batches accepted or refused since an event

  completed_since : (during : History) (fact : Fact) (before : History) → is_arrival fact ≡ true → HasNoArrival during → completed_last s (during ++ fact ∷ before) ≡ completed_by s before fact
  completed_since [] fact before comes between = ap (λ (x : Bool). cond x (completed_by s before fact) (completed_last s before)) comes
  completed_since (other ∷ during) fact before comes between =
      let h : History = during ++ fact ∷ before in
      ap (λ (x : Bool). cond x (completed_by s h other) (completed_last s h)) (All-head Between other during between) ∙ completed_since during fact before comes (All-tail Between other during between)

  judged_since : (during : History) (fact : Fact) (before : History) → is_arrival fact ≡ true → HasNoArrival during → decided_last s (during ++ fact ∷ before) ≡ decided_batches during
  judged_since [] fact before comes between = ap (λ (x : Bool). cond x [] (decided_last s before ++ decided_by fact)) comes
  judged_since (other ∷ during) fact before comes between =
      let h : History = during ++ fact ∷ before in
      ap (λ (x : Bool). cond x [] (decided_last s h ++ decided_by other)) (All-head Between other during between)
      ∙ ap (λ (bs : List Batch). bs ++ decided_by other) (judged_since during fact before comes (All-tail Between other during between))

  ordered_before : (h : History) (fact : Fact) (during before : History) → h ≡ during ++ fact ∷ before → Always s h → AreOrdered s (during ++ fact ∷ before)
  ordered_before h fact [] before is always = (subst (Always s) is always).0
  ordered_before h fact (other ∷ during) before is always = (subst (Always s) is always).0

  pub ordered_since : (now later during : History) (fact : Fact) (before : History) → Always s now → now ≡ later ++ (during ++ fact ∷ before) → is_arrival fact ≡ true → HasNoArrival during → AreDecidedInOrder s during fact before
  ordered_since now later during fact before always is comes between = by (ordered_before (during ++ fact ∷ before) fact during before refl (always_before s later (during ++ fact ∷ before) (subst (Always s) is always)))
    where
      by : AreOrdered s (during ++ fact ∷ before) → AreDecidedInOrder s during fact before
      by (rest, same) = record {
        rest = rest;
        is = ap with_events (sym (completed_since during fact before comes between)) ∙ (same ∙ ap (λ (bs : List Batch). bs ++ rest) (judged_since during fact before comes between));
      }
