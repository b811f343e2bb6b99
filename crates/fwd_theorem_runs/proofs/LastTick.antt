-- A stopped run counts no ticks, and the Stop after the last tick is as one that the loop brings.
use Rattle.std.proofs.Common.{◌≡◌, ℕ, zero, suc, ◌&&◌, ◌==◌, inl, inr, Bool, true, false, if◌then◌else◌, List, [], ◌∷◌, ◌++◌, Option, Some, None, refl, sym, ap, ◌∙◌, subst}
use mathlib.Core.Path.{fun_ext}
use Rattle.fwd_base.specs.Limits.{longest_wait}
use Rattle.fwd_outside.specs.Program.{entry, Return, Ask, bind, Execution}
use Rattle.fwd_outside.specs.Loop.{LoopCall, Wait}
use Rattle.fwd_outside.specs.declared.happening.Happening.{Happening}
use Rattle.fwd_outside.specs.declared.happening.Happening.TheVariants as happening
use Rattle.fwd_keeper.specs.Keeper.{Put}
use Rattle.fwd_settings.specs.declared.settings_types.AllSettings.{AllSettings}
use Rattle.fwd_model.specs.Fact.{Fact, History, Happened, Saved}
use Rattle.fwd_model.specs.Trace.{Call, Action, TraceEntry, OnLoop, OnKeeper, Note, history_after_call}
use Rattle.fwd_model.specs.Settings.{saturating_plus, reads_stdin_at}
use Rattle.fwd_model.specs.Clock.{clock, stopped, stopped_by, tick_count}
use Rattle.fwd_model.specs.FollowedFiles.{settled}
use Rattle.fwd_model.specs.Limits.{paused}
use Rattle.fwd_model.specs.KeptOffsets.{Tracked, tracked, kept_at, to_put, after_put, puts_by, puts}
use Rattle.fwd_model.specs.StepActions.{handles, step}
use Rattle.fwd_model.specs.Run.{RunResult, Over, lived, is_tick, is_over, goes_on, steps_on, is_last_tick, unless_last, after_step, brought, run}
use Rattle.fwd_theorem_trace.specs.Past.{Past, logged, last_event}
use Rattle.fwd_theorem_trace.specs.Allowed.{Allowed}
use Rattle.fwd_theorem_trace.proofs.OffsetCalls.{StaysAside, all_tracked, puts_on}
use Rattle.fwd_theorem_trace.proofs.Traversal.{Traverses, Extends}
use Rattle.fwd_theorem_trace.proofs.Run.{steps_step}
use Rattle.fwd_theorem_runs.proofs.Binding.{bind_traversed}

-- ---- a stopped run stays stopped

module _ (s : AllSettings) where
  abbrev IsStopped : History → Type 0
  IsStopped h = (at : ℕ) × (stopped s h ≡ Some at)

  stopped_if : (b : Bool) (now at : ℕ) → stopped_by b now (Some at) ≡ Some at
  stopped_if true now at = refl
  stopped_if false now at = refl

  still_stopped : (fact : Fact) (h : History) → IsStopped h → IsStopped (fact ∷ h)
  still_stopped (Happened happening.Stop) h is = (is.0, rw is.1 refl)
  still_stopped (Happened (happening.InputEnd input)) h is = (is.0, rw is.1 (stopped_if (reads_stdin_at s input.0) (clock h) is.0))
  still_stopped fact h is = is

  stopped_after_call : (call : Call) (h : History) → IsStopped h → IsStopped (history_after_call call h)
  stopped_after_call (Note fact) h is = still_stopped fact h is
  stopped_after_call call h is = is

  stopped_over : (own : List TraceEntry) (past : Past) → IsStopped (logged past) → IsStopped (logged (own ++ past))
  stopped_over [] past is = is
  stopped_over (e ∷ own) past is = stopped_after_call e.call (logged (own ++ past)) (stopped_over own past is)

  stopped_since : (past now : Past) → Extends past now → IsStopped (logged past) → IsStopped (logged now)
  stopped_since past now grown is = subst (λ (q : Past). IsStopped (logged q)) (sym grown.1) (stopped_over grown.0 past is)

  -- no tick is the last one of a stopped run
  and_false : (a b : Bool) → (a && (b && false)) ≡ false
  and_false true true = refl
  and_false true false = refl
  and_false false b = refl

  none_last : (ticks : Option ℕ) (x : Happening) (h : History) → IsStopped h → is_last_tick s ticks x h ≡ false
  none_last None x h is = refl
  none_last (Some ticks) x h is = rw is.1 (and_false (is_tick x) (tick_count h == ticks))

  -- ---- puts of offsets, and then the next action

  puts_then : (ts : List Tracked) (next : History → Action RunResult) (h : History) → puts s ts next h ≡ bind (puts s ts (λ (at : History). Return at) h) next
  puts_then [] next h = refl
  puts_then (t ∷ ts) next h = by (to_put (settled s h t.input t.index) (kept_at h t.input t.index)) (puts_then ts next)
    where
      done_by : (place : ℕ) (answer : Option (Unit {0})) → ((at : History) → puts s ts next at ≡ bind (puts s ts (λ (at : History). Return at) at) next)
          → after_put t place (puts s ts next) h answer ≡ bind (after_put t place (puts s ts (λ (at : History). Return at)) h answer) next
      done_by place None rest = rest h
      done_by place (Some done) rest = ap (λ (go : Unit {0} → Action RunResult). Ask (Note (Saved t.input t.index place)) go) (fun_ext (λ (answer : Unit {0}). rest (Saved t.input t.index place ∷ h)))

      by : (place : Option ℕ) → ((at : History) → puts s ts next at ≡ bind (puts s ts (λ (at : History). Return at) at) next)
          → puts_by t place (puts s ts next) h ≡ bind (puts_by t place (puts s ts (λ (at : History). Return at)) h) next
      by None rest = rest h
      by (Some place) rest = ap (λ (go : Option (Unit {0}) → Action RunResult). Ask (OnKeeper (Put t.db t.path place)) go) (fun_ext (λ (answer : Option (Unit {0})). done_by place answer rest))

  abbrev Ends : History → Past → Type 0
  Ends h now = (h ≡ logged now) × Unit {0}

  any_aside : StaysAside s (λ (past : Past). Allowed s past × Unit {0})
  any_aside = record { call = λ call answer past due so. ((due, so.0), tt); fact = λ fact answer past is due so. ((due, so.0), tt) }

  puts_traversed : (now : Past) → Allowed s now → Traverses (Allowed s) Ends now (puts s (tracked s) (λ (at : History). Return at) (logged now))
  puts_traversed now due =
      puts_on s (Allowed s) (λ (past : Past). Unit {0}) any_aside Ends (tracked s) (λ (at : History). Return at) (all_tracked s) (λ later both. (both.0, (refl, tt))) now (due, tt)

  -- ---- the same run, if it is stopped

  -- the same action wherever the run is stopped
  abbrev SameStopped : (History → Action RunResult) → (History → Action RunResult) → Type 0
  SameStopped f g = (now : Past) → Allowed s now → IsStopped (logged now) → f (logged now) ≡ g (logged now)

  if_same : (b : Bool) (p q q2 : Action RunResult) → q ≡ q2 → (if b then p else q) ≡ (if b then p else q2)
  if_same true p q q2 same = refl
  if_same false p q q2 same = same

  puts_same : (f g : History → Action RunResult) → SameStopped f g → SameStopped (puts s (tracked s) f) (puts s (tracked s) g)
  puts_same f g same now due is =
      puts_then (tracked s) f (logged now)
      ∙ bind_traversed (Allowed s) Ends f g now (puts s (tracked s) (λ (at : History). Return at) (logged now)) (puts_traversed now due)
      (λ h later grown allowed ends. subst (λ (x : History). f x ≡ g x) (sym ends.0) (same later allowed (stopped_since now later grown is)))
      ∙ sym (puts_then (tracked s) g (logged now))

  after_step_same : (ticks : Option ℕ) (f g : History → Action RunResult) (x : Happening) → SameStopped f g → SameStopped (after_step s ticks f x) (after_step s None g x)
  after_step_same ticks f g x same =
      puts_same (goes_on s (unless_last s ticks f x) x) (goes_on s (unless_last s None g x) x)
      (λ now due is. if_same (is_over s x (logged now)) (Return (lived (logged now) Over)) (unless_last s ticks f x (logged now)) (g (logged now)) (rw (none_last ticks x (logged now) is) (same now due is)))

  brought_same : (ticks : Option ℕ) (f g : History → Action RunResult) (past : Past) (x : Happening) → SameStopped f g → last_event past ≡ Some x → Allowed s past → IsStopped (logged past)
      → brought s ticks f (logged past) x ≡ brought s None g (logged past) x
  brought_same ticks f g past happening.Failed same last due is = refl
  brought_same ticks f g past x same last due is =
      bind_traversed (Allowed s) Ends (after_step s ticks f x) (after_step s None g x) past (step s x (logged past)) (steps_step s x past (inl last) due)
      (λ h now grown allowed ends. subst (λ (y : History). after_step s ticks f x y ≡ after_step s None g x y) (sym ends.0) (after_step_same ticks f g x same now allowed (stopped_since past now grown is)))

  run_same : (ticks : Option ℕ) (turns : ℕ) → SameStopped (run s ticks turns) (run s None turns)
  unfolding run
  run_same ticks zero past due is = refl
  run_same ticks (suc turns) past due is =
      let wait : LoopCall = Wait (saturating_plus (clock (logged past)) longest_wait) (paused s (logged past)) in
      ap (λ (go : Happening → Action RunResult). Ask (OnLoop wait) go)
      (fun_ext (λ (x : Happening). brought_same ticks (run s ticks turns) (run s None turns) (entry (OnLoop wait) x ∷ past) x (run_same ticks turns) refl ((refl, refl), due) is))

  pub stopped_run : (ticks : Option ℕ) (turns : ℕ) (past : Past) (at : ℕ) → Allowed s past → stopped s (logged past) ≡ Some at → run s ticks turns (logged past) ≡ run s None turns (logged past)
  stopped_run ticks turns past at due is = run_same ticks turns past due (at, is)

  -- ---- the Stop after the last tick

  stop_same : (f g : History → Action RunResult) (past : Past) → SameStopped f g → Allowed s past → stopped s (logged past) ≡ None
      → steps_on s f happening.Stop (logged past) ≡ steps_on s g happening.Stop (logged past)
  unfolding step
  stop_same f g past same due none =
      let walks = steps_step s happening.Stop past (inr (refl, none)) due in
      ap (λ (go : Unit {0} → Action RunResult). Ask (Note (Happened happening.Stop)) go)
      (fun_ext (λ (answer : Unit {0}).
      let at : Past = entry (Note (Happened happening.Stop)) answer ∷ past in
      bind_traversed (Allowed s) Ends (goes_on s f happening.Stop) (goes_on s g happening.Stop) at (handles s (logged past) happening.Stop (logged at)) (walks.1 answer)
      (λ h now grown allowed ends.
      subst (λ (y : History). goes_on s f happening.Stop y ≡ goes_on s g happening.Stop y) (sym ends.0)
      (if_same (is_over s happening.Stop (logged now)) (Return (lived (logged now) Over)) (f (logged now)) (g (logged now))
      (same now allowed (stopped_since at now grown (clock (logged past), rw none refl)))))))

  -- without kept offsets, what follows the loop's Stop
  stop_brought : (ts : List Tracked) (g : History → Action RunResult) (h : History) → ts ≡ []
      → bind (step s happening.Stop h) (λ (at : History). puts s ts (goes_on s (unless_last s None g happening.Stop) happening.Stop) at) ≡ steps_on s g happening.Stop h
  stop_brought ts g h none = rw none refl

  pub stop_of_loop : (ticks : Option ℕ) (more : ℕ) (past : Past) (h : History) (rest : List TraceEntry) (result : RunResult) → tracked s ≡ [] → Allowed s past → logged past ≡ h → stopped s h ≡ None
      → Execution (steps_on s (run s ticks more) happening.Stop h) rest (Return result)
      → Execution (run s None (suc more) h) (entry (OnLoop (Wait (saturating_plus (clock h) longest_wait) (paused s h))) happening.Stop ∷ rest) (Return result)
  unfolding run
  stop_of_loop ticks more past h rest result untracked due is none way =
      let same : steps_on s (run s ticks more) happening.Stop h ≡ steps_on s (run s None more) happening.Stop h =
      subst (λ (x : History). steps_on s (run s ticks more) happening.Stop x ≡ steps_on s (run s None more) happening.Stop x) is
      (stop_same (run s ticks more) (run s None more) past (run_same ticks more) due (ap (stopped s) is ∙ none)) in
      let other : Execution (steps_on s (run s None more) happening.Stop h) rest (Return result) = subst (λ (p : Action RunResult). Execution p rest (Return result)) same way in (
        happening.Stop,
        refl,
        subst (λ (p : Action RunResult). Execution p rest (Return result)) (sym (stop_brought (tracked s) (run s None more) h untracked)) other,
      )
