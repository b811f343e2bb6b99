-- Where the last tick stopped a run.
use Rattle.std.proofs.Common.{◌≡◌, ◌⊎◌, inl, inr, ℕ, zero, suc, List, [], ◌∷◌, ◌++◌, Some, None, refl, sym, ap, ◌∙◌, subst}
use Rattle.fwd_base.specs.Limits.{longest_wait}
use Rattle.fwd_outside.specs.Program.{Return, Ask, Execution}
use Rattle.fwd_outside.specs.Loop.{LoopCall, Wait}
use Rattle.fwd_outside.specs.declared.happening.Happening.TheVariants as happening
use Rattle.fwd_settings.specs.Endpoints.{ends_of}
use Rattle.fwd_settings.specs.declared.settings_types.AllSettings.{AllSettings}
use Rattle.fwd_model.specs.Fact.{History, Happened}
use Rattle.fwd_model.specs.Trace.{Action, TraceEntry, OnLoop, Note}
use Rattle.fwd_model.specs.Settings.{saturating_plus}
use Rattle.fwd_model.specs.Clock.{clock, stopped}
use Rattle.fwd_model.specs.Limits.{paused}
use Rattle.fwd_model.specs.KeptOffsets.{tracked}
use Rattle.fwd_model.specs.StepActions.{step}
use Rattle.fwd_model.specs.Run.{RunResult, run, steps_on}
use Rattle.fwd_replay.specs.RecordedRun.{StopsAfter, runs_on}
use Rattle.fwd_theorem_trace.specs.Past.{logged, past_after}
use Rattle.fwd_theorem_runs.proofs.TickedRun.{SplitAtTick, SameOrSplit, splits_after_recovery}
use Rattle.fwd_theorem_recorded.proofs.SameLeft.{same_left, way_after}

-- ---- a stop without a call, and a wait

abbrev NoteFirst : List TraceEntry → Type 0
NoteFirst [] = ⊥
NoteFirst (e ∷ es) = e.call ≡ Note (Happened happening.Stop)

abbrev LoopFirst : List TraceEntry → Type 0
LoopFirst [] = Unit {0}
LoopFirst (e ∷ es) = (call : LoopCall) × (e.call ≡ OnLoop call)

steps_note : (s : AllSettings) (next : History → Action RunResult) (h : History) (result : RunResult) (es : List TraceEntry) → Execution (steps_on s next happening.Stop h) es (Return result) → NoteFirst es
unfolding step
steps_note s next h result [] way = absurd (cc way)
steps_note s next h result (e ∷ es) way = ap (λ (f : TraceEntry). f.call) way.1

run_loop : (s : AllSettings) (left : ℕ) (h : History) (q : Action RunResult) (es : List TraceEntry) → Execution (run s None left h) es q → LoopFirst es
unfolding run
run_loop s left h q [] way = tt
run_loop s zero h q (e ∷ es) way = absurd way
run_loop s (suc left) h q (e ∷ es) way = (Wait (saturating_plus (clock h) longest_wait) (paused s h), ap (λ (f : TraceEntry). f.call) way.1)

clash : (es : List TraceEntry) → NoteFirst es → LoopFirst es → ⊥
clash [] note loops = note
clash (e ∷ es) note loops = absurd (cc (sym note ∙ loops.1))

-- a stop isn't a turn
pub not_a_turn : (s : AllSettings) (next : History → Action RunResult) (left : ℕ) (h : History) → steps_on s next happening.Stop h ≡ run s None left h → ⊥
unfolding run step
not_a_turn s next zero h is = absurd (cc is)
not_a_turn s next (suc left) h is = absurd (cc is)

-- ---- two ways to part a list

abbrev pub PartsLonger : (xs ys us vs : List TraceEntry) → Type 0
PartsLonger xs ys us vs = (x : TraceEntry) × (more : List TraceEntry) × (us ≡ xs ++ x ∷ more) × (ys ≡ x ∷ more ++ vs)

pub two_parts : (xs ys us vs : List TraceEntry) → xs ++ ys ≡ us ++ vs → ((xs ≡ us) × (ys ≡ vs)) ⊎ (PartsLonger xs ys us vs ⊎ PartsLonger us vs xs ys)
two_parts [] ys [] vs is = inl (refl, is)
two_parts [] ys (u ∷ us) vs is = inr (inl (u, us, refl, is))
two_parts (x ∷ xs) ys [] vs is = inr (inr (x, xs, refl, sym is))
two_parts (x ∷ xs) ys (u ∷ us) vs is = by (two_parts xs ys us vs (cc is))
  where
    first : x ≡ u
    first = cc is

    by : ((xs ≡ us) × (ys ≡ vs)) ⊎ (PartsLonger xs ys us vs ⊎ PartsLonger us vs xs ys) → ((x ∷ xs ≡ u ∷ us) × (ys ≡ vs)) ⊎ (PartsLonger (x ∷ xs) ys (u ∷ us) vs ⊎ PartsLonger (u ∷ us) vs (x ∷ xs) ys)
    by (inl same) = inl (ap (λ (l : List TraceEntry). x ∷ l) same.0 ∙ ap (λ (e : TraceEntry). e ∷ us) first, same.1)
    by (inr (inl (e, more, is, rest))) = inr (inl (e, more, ap (λ (l : List TraceEntry). u ∷ l) is ∙ ap (λ (f : TraceEntry). f ∷ (xs ++ e ∷ more)) (sym first), rest))
    by (inr (inr (e, more, is, rest))) = inr (inr (e, more, ap (λ (l : List TraceEntry). x ∷ l) is ∙ ap (λ (f : TraceEntry). f ∷ (us ++ e ∷ more)) first, rest))

-- ---- the history of a run that is left

abbrev history_at : Action RunResult → History
history_at (Return x) = x.history
history_at (Ask call next) = []

abbrev history_now : Action RunResult → History
history_now (Return x) = x.history
history_now (Ask (OnLoop (Wait until mask)) go) = history_at (go happening.Failed)
history_now (Ask call go) = []

run_at : (s : AllSettings) (left : ℕ) (h : History) → history_now (run s None left h) ≡ h
unfolding run
run_at s zero h = refl
run_at s (suc left) h = refl

same_now : (s : AllSettings) (left left2 : ℕ) (h h2 : History) → run s None left h ≡ run s None left2 h2 → h ≡ h2
same_now s left left2 h h2 is = sym (run_at s left h) ∙ ap history_now is ∙ run_at s left2 h2

-- ---- a run with a number of ticks

module _ (s : AllSettings) (untracked : tracked s ≡ []) (ticks turns : ℕ) (result : RunResult) where
  abbrev Ticked : Action RunResult
  Ticked = runs_on s (Some ticks) turns

  abbrev Plain : Action RunResult
  Plain = runs_on s None turns

  split_run : (trace : List TraceEntry) → Execution Ticked trace (Return result) → SameOrSplit s ticks untracked result [] Plain trace
  split_run trace way = splits_after_recovery s ticks untracked result (ends_of s) turns (Some []) [] tt (refl, tt) trace way

  -- if a run without ticks makes the same calls, it has the same result
  pub same_result : (trace : List TraceEntry) (other : RunResult) → Execution Ticked trace (Return result) → Execution Plain trace (Return other) → Execution Plain trace (Return result)
  same_result trace other way plain = by (split_run trace way)
    where
      by : SameOrSplit s ticks untracked result [] Plain trace → Execution Plain trace (Return result)
      by (inl same) = same
      by (inr split) =
          let left : Execution (run s None split.left (logged (past_after [] split.first))) split.second (Return other) =
          way_after Plain (run s None split.left (logged (past_after [] split.first))) (Return other) split.first split.second split.before (subst (λ (l : List TraceEntry). Execution Plain l (Return other)) split.is plain) in
          absurd (clash split.second
          (steps_note s (run s (Some ticks) split.left) (logged (past_after [] split.first)) result split.second split.after)
          (run_loop s split.left (logged (past_after [] split.first)) (Return other) split.second left))

  -- the stop of the last tick is the first one
  module _ (first second : List TraceEntry) (stops : StopsAfter s (Some ticks) turns first) (way : Execution Ticked (first ++ second) (Return result)) where
    abbrev next : History → Action RunResult
    next = run s (Some ticks) stops.left

    pub after_stop : Execution (steps_on s next happening.Stop stops.now) second (Return result)
    after_stop = way_after Ticked (steps_on s next happening.Stop stops.now) (Return result) first second stops.stops way

    second_notes : NoteFirst second
    second_notes = steps_note s next stops.now result second after_stop

    module _ (split : SplitAtTick s ticks untracked result [] Plain (first ++ second)) where
      abbrev here : History
      here = logged (past_after [] split.first)

      at_stop : first ≡ split.first → stopped s stops.now ≡ None
      at_stop same =
          let left : run s None stops.left stops.now ≡ run s None split.left here =
          same_left Plain (run s None stops.left stops.now) (run s None split.left here) first stops.goes_on (subst (λ (l : List TraceEntry). Execution Plain l (run s None split.left here)) (sym same) split.before) in
          ap (stopped s) (same_now s stops.left split.left stops.now here left) ∙ split.unstopped

      parted : ((first ≡ split.first) × (second ≡ split.second)) ⊎ (PartsLonger first second split.first split.second ⊎ PartsLonger split.first split.second first second) → stopped s stops.now ≡ None
      parted (inl (same, rest)) = at_stop same
      parted (inr (inl (x, more, longer, rest))) =
          let makes : Execution (run s None stops.left stops.now) (x ∷ more) (run s None split.left here) =
          way_after Plain (run s None stops.left stops.now) (run s None split.left here) first (x ∷ more) stops.goes_on (subst (λ (l : List TraceEntry). Execution Plain l (run s None split.left here)) longer split.before) in
          absurd (clash (x ∷ more ++ split.second) (subst NoteFirst rest second_notes) (run_loop s stops.left stops.now (run s None split.left here) (x ∷ more) makes))
      parted (inr (inr (x, more, longer, rest))) =
          let makes : Execution (run s None split.left here) (x ∷ more) (run s None stops.left stops.now) =
          way_after Plain (run s None split.left here) (run s None stops.left stops.now) split.first (x ∷ more) split.before (subst (λ (l : List TraceEntry). Execution Plain l (run s None stops.left stops.now)) longer stops.goes_on) in
          absurd (clash (x ∷ more ++ second) (subst NoteFirst rest (steps_note s (run s (Some ticks) split.left) here result split.second split.after)) (run_loop s split.left here (run s None stops.left stops.now) (x ∷ more) makes))

    pub unstopped : stopped s stops.now ≡ None
    unstopped = by (split_run (first ++ second) way)
      where
        by : SameOrSplit s ticks untracked result [] Plain (first ++ second) → stopped s stops.now ≡ None
        by (inl same) = absurd (clash second second_notes (run_loop s stops.left stops.now (Return result) second (way_after Plain (run s None stops.left stops.now) (Return result) first second stops.goes_on same)))
        by (inr split) = parted split (two_parts first second split.first split.second split.is)
