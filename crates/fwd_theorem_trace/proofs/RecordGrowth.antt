-- The clock never goes back, and the events of a chunk only grow.
use Rattle.std.proofs.Common.{◌≡◌, ℕ, ◌<◌, ◌≤◌, Bool, true, false, cond, List, [], ◌∷◌, ◌++◌, append-nil, append_assoc, length, Option, refl, sym, ◌∙◌, ap, subst, arith}
use Rattle.std.specs.Prelude.{◌==◌}
use Rattle.std.proofs.lemmas.Bool.{eqb-true}
use Rattle.fwd_event.specs.declared.event.Event.{Event}
use Rattle.fwd_outside.specs.Program.{Execution}
use Rattle.fwd_outside.specs.declared.ends.Ends.{Ends}
use Rattle.fwd_outside.specs.declared.happening.Happening.TheVariants as happening
use Rattle.fwd_settings.specs.declared.settings_types.AllSettings.{AllSettings}
use Rattle.fwd_model.specs.Fact.{Fact, History, Happened, Found, Accepted}
use Rattle.fwd_model.specs.Trace.{Call, Action, TraceEntry, Note, history_after, history_after_call}
use Rattle.fwd_model.specs.Clock.{clock}
use Rattle.fwd_model.specs.RecoveredFile.{recovered_events}
use Rattle.fwd_model.specs.Chunks.{records, is_stored_in}
use Rattle.fwd_model.specs.Run.{RunResult, life}
use Rattle.fwd_theorem_trace.specs.Past.{Past, logged, past_after}
use Rattle.fwd_theorem_trace.specs.Allowed.{IsLoading, FactAllowed, IsAllowed, Allowed}
use Rattle.fwd_theorem_trace.proofs.Traversal.{noted_since}
use Rattle.fwd_theorem_trace.proofs.Run.{due_since}

clock_fact : (fact : Fact) (h : History) → clock h ≤ clock (fact ∷ h)
clock_fact (Happened (happening.Tick now)) h = omega arith
clock_fact (Happened other) h = omega arith
clock_fact fact h = omega arith

clock_call : (call : Call) (h : History) → clock h ≤ clock (history_after_call call h)
clock_call (Note fact) h = clock_fact fact h
clock_call call h = omega arith

pub clock_rises : (h : History) (es : List TraceEntry) → clock h ≤ clock (history_after es h)
clock_rises h [] = omega arith
clock_rises h (e ∷ es) = let now = clock_call e.call h in let later = clock_rises (history_after_call e.call h) es in omega (arith, now, later)

-- the first list is a prefix of the second
abbrev IsPrefix : List Event → List Event → Type 0
IsPrefix old new = (more : List Event) × (new ≡ old ++ more)

same_events : (events : List Event) → IsPrefix events events
same_events events = ([], sym (append-nil events))

longer_still : (one two three : List Event) → IsPrefix one two → IsPrefix two three → IsPrefix one three
longer_still one two three first second = (first.0 ++ second.0, second.1 ∙ (ap (λ (l : List Event). l ++ second.0) first.1 ∙ append_assoc one first.0 second.0))

-- while files are loaded, chunks of numbers to come have no events
not_loaded : (h : History) (n : ℕ) → IsLoading h → length h < n → records h n ≡ []
not_loaded [] n loading lt = refl
not_loaded (Found number stream name bytes ∷ h) n loading lt = by (number == n) refl (not_loaded h n loading.1)
  where
    by : (b : Bool) → number == n ≡ b → (length h < n → records h n ≡ []) → cond b (recovered_events bytes) (records h n) ≡ []
    by true same more = let is = eqb-true number n same in let at = loading.0 in absurd (omega (arith, is, at, lt))
    by false same more = more (omega (arith, lt))
not_loaded (fact ∷ h) n loading lt = absurd loading

grow_if : (b : Bool) (old more : List Event) → IsPrefix old (cond b (old ++ more) old)
grow_if true old more = (more, refl)
grow_if false old more = same_events old

module _ (s : AllSettings) where
  grow_fact : (fact : Fact) (past : Past) (n : ℕ) → FactAllowed s fact past → IsPrefix (records (logged past) n) (records (fact ∷ logged past) n)
  grow_fact (Found number stream name bytes) past n due = by (number == n) refl
    where
      by : (b : Bool) → number == n ≡ b → IsPrefix (records (logged past) n) (cond b (recovered_events bytes) (records (logged past) n))
      by true same =
          let is = eqb-true number n same in
          let at = due.0 in
          subst (λ (old : List Event). IsPrefix old (recovered_events bytes)) (sym (not_loaded (logged past) n due.1 (omega (arith, is, at)))) (recovered_events bytes, refl)
      by false same = same_events (records (logged past) n)
  grow_fact (Accepted b place) past n due = grow_if (is_stored_in place n) (records (logged past) n) b.events
  grow_fact fact past n due = same_events (records (logged past) n)

  grow_call : (call : Call) (past : Past) (n : ℕ) → IsAllowed s call past → IsPrefix (records (logged past) n) (records (history_after_call call (logged past)) n)
  grow_call (Note fact) past n due = grow_fact fact past n due
  grow_call call past n due = same_events (records (logged past) n)

  due_first : (es : List TraceEntry) (past : Past) → Allowed s (past_after past es) → Allowed s past
  due_first [] past due = due
  due_first (e ∷ es) past due = (due_first es (e ∷ past) due).1

  grow_since : (es : List TraceEntry) (past : Past) (n : ℕ) → Allowed s (past_after past es) → IsPrefix (records (logged past) n) (records (logged (past_after past es)) n)
  grow_since [] past n due = same_events (records (logged past) n)
  grow_since (e ∷ es) past n due =
      longer_still (records (logged past) n) (records (logged (e ∷ past)) n) (records (logged (past_after past (e ∷ es))) n)
      (grow_call e.call past n (due_first es (e ∷ past) due).0) (grow_since es (e ∷ past) n due)

  since_both : (past : Past) (before es : List TraceEntry) → past_after past (before ++ es) ≡ past_after (past_after past before) es
  since_both past [] es = refl
  since_both past (e ∷ before) es = since_both (e ∷ past) before es

  pub records_grow : (ends : Ends) (ticks : Option ℕ) (turns : ℕ) (before es : List TraceEntry) (left : Action RunResult) (n : ℕ) → Execution (life s ends ticks turns) (before ++ es) left
      → (more : List Event) × (records (history_after (before ++ es) []) n ≡ records (history_after before []) n ++ more)
  records_grow ends ticks turns before es left n way =
      let split = since_both [] before es in
      let due = subst (Allowed s) split (due_since s ends ticks turns (before ++ es) left way) in
      let longer = grow_since es (past_after [] before) n due in
      let then : logged (past_after (past_after [] before) es) ≡ history_after (before ++ es) [] = sym (ap logged split) ∙ noted_since [] (before ++ es) in
      (longer.0, ap (λ (h : History). records h n) (sym then) ∙ (longer.1 ∙ ap (λ (h : History). records h n ++ longer.0) (noted_since [] before)))
