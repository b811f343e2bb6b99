-- A run with a number of ticks is a run without one, up to a Stop.
use Rattle.std.proofs.Common.{◌≡◌, ◌⊎◌, inl, inr, ℕ, zero, suc, ◌+◌, ◌&&◌, ◌==◌, Bool, true, false, if◌then◌else◌, List, [], ◌∷◌, ◌++◌, append_assoc, Option, Some, None, refl, sym, ap, ◌∙◌, subst, arith}
use Rattle.std.specs.Prelude.{is_none}
use Rattle.std.proofs.lemmas.Bool.{and_parts}
use Rattle.fwd_base.specs.Limits.{longest_wait}
use Rattle.fwd_outside.specs.Program.{entry, Return, Ask, bind, Execution}
use Rattle.fwd_outside.specs.Loop.{LoopCall, Start, Wait}
use Rattle.fwd_outside.specs.declared.ends.Ends.{Ends}
use Rattle.fwd_outside.specs.declared.happening.Happening.{Happening}
use Rattle.fwd_outside.specs.declared.happening.Happening.TheVariants as happening
use Rattle.fwd_outside.proofs.Executions.{way_trans, way_bind}
use Rattle.fwd_settings.specs.declared.settings_types.AllSettings.{AllSettings}
use Rattle.fwd_model.specs.Fact.{History}
use Rattle.fwd_model.specs.Trace.{Call, Answer, Action, TraceEntry, OnLoop, history_after}
use Rattle.fwd_model.specs.Settings.{saturating_plus}
use Rattle.fwd_model.specs.Clock.{clock, stopped, tick_count}
use Rattle.fwd_model.specs.Limits.{paused}
use Rattle.fwd_model.specs.KeptOffsets.{Tracked, tracked, gets, puts}
use Rattle.fwd_model.specs.StepActions.{step}
use Rattle.fwd_model.specs.RecoveryActions.{recovers}
use Rattle.fwd_model.specs.Run.{RunResult, Over, KeeperFailed, lived, is_tick, is_over, goes_on, steps_on, is_last_tick, unless_last, after_step, brought, run, after_start, starts, after_recovery, life}
use Rattle.fwd_theorem_trace.specs.Past.{Past, logged, past_after, last_event}
use Rattle.fwd_theorem_trace.specs.Allowed.{Allowed}
use Rattle.fwd_theorem_trace.proofs.Traversal.{Traverses, traverses_rest, noted_since}
use Rattle.fwd_theorem_trace.proofs.Turns.{way_parts}
use Rattle.fwd_theorem_trace.proofs.Run.{Loaded, loads_root, due_onward, due_since, steps_step}
use Rattle.fwd_theorem_runs.specs.StopsAfterTicks.{StopsAfterTicks, wait_for_stop}
use Rattle.fwd_theorem_runs.proofs.LastTick.{stop_of_loop}
use Rattle.fwd_theorem_runs.proofs.MoreTurns.{begun_goes_on}

past_both : (past : Past) (own more : List TraceEntry) → past_after past (own ++ more) ≡ past_after (past_after past own) more
past_both past [] more = refl
past_both past (e ∷ own) more = past_both (e ∷ past) own more

not_stopped : (at : Option ℕ) → is_none at ≡ true → at ≡ None
not_stopped None is = refl
not_stopped (Some at) is = absurd (cc is)

module _ (s : AllSettings) (ticks : ℕ) (untracked : tracked s ≡ []) (result : RunResult) where
  -- the calls up to the last tick, which the other action makes too, and those after it
  pub record SplitAtTick (past : Past) (other : Action RunResult) (es : List TraceEntry) : Type 0 where
    pub first : List TraceEntry
    pub second : List TraceEntry
    pub left : ℕ
    pub is : es ≡ first ++ second
    pub before : Execution other first (run s None left (logged (past_after past first)))
    pub after : Execution (steps_on s (run s (Some ticks) left) happening.Stop (logged (past_after past first))) second (Return result)
    pub unstopped : stopped s (logged (past_after past first)) ≡ None

  -- the other action makes all calls, or those up to the last tick
  abbrev pub SameOrSplit : Past → Action RunResult → List TraceEntry → Type 0
  SameOrSplit past other es = Execution other es (Return result) ⊎ SplitAtTick past other es

  -- ---- one part after another

  after_prefix : (past : Past) (p q : Action RunResult) (own es : List TraceEntry) → Execution p own q → SameOrSplit (past_after past own) q es → SameOrSplit past p (own ++ es)
  after_prefix past p q own es begins (inl way) = inl (way_trans p q (Return result) own es begins way)
  after_prefix past p q own es begins (inr split) =
      let joined : past_after past (own ++ split.first) ≡ past_after (past_after past own) split.first = past_both past own split.first in
      inr
      (record {
        first = own ++ split.first;
        second = split.second;
        left = split.left;
        is = ap (λ (l : List TraceEntry). own ++ l) split.is ∙ sym (append_assoc own split.first split.second);
        before =
            subst (λ (now : Past). Execution p (own ++ split.first) (run s None split.left (logged now))) (sym joined)
            (way_trans p q (run s None split.left (logged (past_after (past_after past own) split.first))) own split.first begins split.before);
        after = subst (λ (now : Past). Execution (steps_on s (run s (Some ticks) split.left) happening.Stop (logged now)) split.second (Return result)) (sym joined) split.after;
        unstopped = subst (λ (now : Past). stopped s (logged now) ≡ None) (sym joined) split.unstopped;
      })

  after_call : (past : Past) (call : Call) (answer : Answer call) (go : Answer call → Action RunResult) (es : List TraceEntry) → SameOrSplit (entry call answer ∷ past) (go answer) es
      → SameOrSplit past (Ask call go) (entry call answer ∷ es)
  after_call past call answer go es rest = after_prefix past (Ask call go) (go answer) (entry call answer ∷ []) es (answer, refl, refl) rest

  module _ {R : Type 0} (Q : R → Past → Type 0) (f g : R → Action RunResult) where
    after_action : (past : Past) (p : Action R) → Traverses (Allowed s) Q past p
        → ((x : R) (now : Past) → Allowed s now → Q x now → (es : List TraceEntry) → Execution (f x) es (Return result) → SameOrSplit now (g x) es)
        → (es : List TraceEntry) → Execution (bind p f) es (Return result) → SameOrSplit past (bind p g) es
    after_action past p walks splits es way =
        let parts = way_parts p f es result way in
        let at = traverses_rest (Allowed s) Q past p walks parts.1 (Return parts.0) parts.4 in
        subst (λ (l : List TraceEntry). SameOrSplit past (bind p g) l) (sym parts.3)
        (after_prefix past (bind p g) (g parts.0) parts.1 parts.2 (way_bind p (Return parts.0) parts.1 g parts.4) (splits parts.0 (past_after past parts.1) at.0 at.1 parts.2 parts.5))

  -- ---- turns

  abbrev Splits : (History → Action RunResult) → (History → Action RunResult) → Type 0
  Splits f g = (now : Past) → Allowed s now → (es : List TraceEntry) → Execution (f (logged now)) es (Return result) → SameOrSplit now (g (logged now)) es

  splits_on : (f g : History → Action RunResult) (x : Happening) → Splits f g → Splits (goes_on s f x) (goes_on s g x)
  splits_on f g x splits now due es way = by (is_over s x (logged now)) way
    where
      by : (b : Bool) → Execution (if b then Return (lived (logged now) Over) else f (logged now)) es (Return result) → SameOrSplit now (if b then Return (lived (logged now) Over) else g (logged now)) es
      by true way = inl way
      by false way = splits now due es way

  unstopped_at : (x : Happening) (h : History) → is_last_tick s (Some ticks) x h ≡ true → stopped s h ≡ None
  unstopped_at x h last =
      let counted = and_parts (is_tick x) (tick_count h == ticks && is_none (stopped s h)) last in
      not_stopped (stopped s h) (and_parts (tick_count h == ticks) (is_none (stopped s h)) counted.1).1

  splits_unless_last : (turns : ℕ) (x : Happening) → Splits (run s (Some ticks) turns) (run s None turns) → Splits (unless_last s (Some ticks) (run s (Some ticks) turns) x) (unless_last s None (run s None turns) x)
  splits_unless_last turns x splits now due es way = by (is_last_tick s (Some ticks) x (logged now)) refl way
    where
      by : (b : Bool) → is_last_tick s (Some ticks) x (logged now) ≡ b
          → Execution (if b then steps_on s (run s (Some ticks) turns) happening.Stop (logged now) else run s (Some ticks) turns (logged now)) es (Return result) → SameOrSplit now (run s None turns (logged now)) es
      by true last way = inr (record { first = []; second = es; left = turns; is = refl; before = refl; after = way; unstopped = unstopped_at x (logged now) last })
      by false last way = splits now due es way

  -- without kept offsets there are no puts and gets
  splits_puts : (f g : History → Action RunResult) → Splits f g → Splits (puts s (tracked s) f) (puts s (tracked s) g)
  splits_puts f g splits now due es =
      subst (λ (ts : List Tracked). Execution (puts s ts f (logged now)) es (Return result) → SameOrSplit now (puts s ts g (logged now)) es) (sym untracked) (splits now due es)

  splits_gets : (failed f g : History → Action RunResult) → Splits f g → Splits (gets s (tracked s) failed f) (gets s (tracked s) failed g)
  splits_gets failed f g splits now due es =
      subst (λ (ts : List Tracked). Execution (gets s ts failed f (logged now)) es (Return result) → SameOrSplit now (gets s ts failed g (logged now)) es) (sym untracked) (splits now due es)

  abbrev Returns : History → Past → Type 0
  Returns h now = (h ≡ logged now) × Unit {0}

  splits_brought : (turns : ℕ) → Splits (run s (Some ticks) turns) (run s None turns) → (past : Past) (x : Happening) → last_event past ≡ Some x → Allowed s past → (es : List TraceEntry)
      → Execution (brought s (Some ticks) (run s (Some ticks) turns) (logged past) x) es (Return result) → SameOrSplit past (brought s None (run s None turns) (logged past) x) es
  splits_brought turns splits past happening.Failed last due es way = inl way
  splits_brought turns splits past x last due es way =
      let f : History → Action RunResult = after_step s (Some ticks) (run s (Some ticks) turns) x in
      let g : History → Action RunResult = after_step s None (run s None turns) x in
      after_action Returns f g past (step s x (logged past)) (steps_step s x past (inl last) due)
      (λ h now allowed returns.
      subst (λ (y : History). (es : List TraceEntry) → Execution (f y) es (Return result) → SameOrSplit now (g y) es) (sym returns.0)
      (splits_puts (goes_on s (unless_last s (Some ticks) (run s (Some ticks) turns) x) x) (goes_on s (unless_last s None (run s None turns) x) x)
      (splits_on (unless_last s (Some ticks) (run s (Some ticks) turns) x) (unless_last s None (run s None turns) x) x (splits_unless_last turns x splits)) now allowed)) es way

  splits_run : (turns : ℕ) → Splits (run s (Some ticks) turns) (run s None turns)
  unfolding run
  splits_run zero now due es way = inl way
  splits_run (suc turns) now due [] way = absurd (cc way)
  splits_run (suc turns) now due (e ∷ es) way =
      let wait : LoopCall = Wait (saturating_plus (clock (logged now)) longest_wait) (paused s (logged now)) in
      subst (λ (f : TraceEntry). SameOrSplit now (run s None (suc turns) (logged now)) (f ∷ es)) (sym way.1)
      (after_call now (OnLoop wait) way.0 (brought s None (run s None turns) (logged now)) es
      (splits_brought turns (splits_run turns) (entry (OnLoop wait) way.0 ∷ now) way.0 refl ((refl, refl), due) es way.2))

  -- ---- a run

  splits_after_start : (turns : ℕ) (ready : Option (Unit {0})) (now : Past) → Allowed s now → (es : List TraceEntry)
      → Execution (after_start s (Some ticks) turns (logged now) ready) es (Return result) → SameOrSplit now (after_start s None turns (logged now) ready) es
  splits_after_start turns None now due es way = inl way
  splits_after_start turns (Some ready) now due es way = splits_run turns now due es way

  splits_starts : (ends : Ends) (turns : ℕ) → Splits (starts s ends (Some ticks) turns) (starts s ends None turns)
  splits_starts ends turns now due [] way = absurd (cc way)
  splits_starts ends turns now due (e ∷ es) way =
      subst (λ (f : TraceEntry). SameOrSplit now (starts s ends None turns (logged now)) (f ∷ es)) (sym way.1)
      (after_call now (OnLoop (Start ends)) way.0 (after_start s None turns (logged now)) es
      (splits_after_start turns way.0 (entry (OnLoop (Start ends)) way.0 ∷ now) (tt, due) es way.2))

  pub splits_after_recovery : (ends : Ends) (turns : ℕ) (found : Option History) (now : Past) → Allowed s now → Loaded found now → (es : List TraceEntry)
      → Execution (after_recovery s ends (Some ticks) turns found) es (Return result) → SameOrSplit now (after_recovery s ends None turns found) es
  splits_after_recovery ends turns None now due is es way = inl way
  splits_after_recovery ends turns (Some h) now due is es way =
      subst (λ (x : History). Execution (after_recovery s ends (Some ticks) turns (Some x)) es (Return result) → SameOrSplit now (after_recovery s ends None turns (Some x)) es) (sym is.0)
      (splits_gets (λ at. Return (lived at KeeperFailed)) (starts s ends (Some ticks) turns) (starts s ends None turns) (splits_starts ends turns) now due es) way

  splits_life : (ends : Ends) (turns : ℕ) (es : List TraceEntry) → Execution (life s ends (Some ticks) turns) es (Return result) → SameOrSplit [] (life s ends None turns) es
  unfolding life recovers
  splits_life ends turns es way =
      after_action Loaded (after_recovery s ends (Some ticks) turns) (after_recovery s ends None turns) [] (recovers s) (loads_root s (Allowed s) (due_onward s) tt s.service.path)
      (λ found now due is rest. splits_after_recovery ends turns found now due is rest) es way

  -- ---- with a Stop of the loop in its place

  with_stop : (ends : Ends) (turns : ℕ) (es : List TraceEntry) → SplitAtTick [] (life s ends None turns) es → StopsAfterTicks s ends turns es result
  with_stop ends turns es split =
      let past : Past = past_after [] split.first in
      let h : History = logged past in
      let named : h ≡ history_after split.first [] = noted_since [] split.first in
      let one_more : split.left + 1 ≡ suc split.left = omega arith in
      let begins : Execution (life s ends None (turns + 1)) split.first (run s None (suc split.left) h) =
      subst (λ (n : ℕ). Execution (life s ends None (turns + 1)) split.first (run s None n h)) one_more (begun_goes_on s None 1 ends turns split.left split.first h split.before) in
      let due : Allowed s past = due_since s ends None turns split.first (run s None split.left h) split.before in
      let stops : Execution (run s None (suc split.left) h) (wait_for_stop s h ∷ split.second) (Return result) =
      stop_of_loop s (Some ticks) split.left past h split.second result untracked due refl split.unstopped split.after in
      record {
        first = split.first;
        second = split.second;
        is = split.is;
        unstopped = subst (λ (x : History). stopped s x ≡ None) named split.unstopped;
        same =
            subst (λ (x : History). Execution (life s ends None (turns + 1)) (split.first ++ wait_for_stop s x ∷ split.second) (Return result)) named
            (way_trans (life s ends None (turns + 1)) (run s None (suc split.left) h) (Return result) split.first (wait_for_stop s h ∷ split.second) begins stops);
      }

  pub same_or_stopped : (ends : Ends) (turns : ℕ) (es : List TraceEntry) → Execution (life s ends (Some ticks) turns) es (Return result)
      → Execution (life s ends None turns) es (Return result) ⊎ StopsAfterTicks s ends turns es result
  same_or_stopped ends turns es way = elim (splits_life ends turns es way) [ inl same ↦ inl same | inr split ↦ inr (with_stop ends turns es split) ]
