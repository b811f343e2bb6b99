-- A run of more turns is a run of fewer turns that goes on.
use Rattle.std.proofs.Common.{◌≡◌, ℕ, zero, suc, ◌+◌, Bool, true, false, if◌then◌else◌, List, [], ◌∷◌, Option, Some, None, refl, sym, ap, ◌∙◌, subst, arith}
use mathlib.Core.Path.{fun_ext}
use Rattle.fwd_base.specs.Limits.{longest_wait}
use Rattle.fwd_outside.specs.Program.{entry, Return, Ask, bind, Execution}
use Rattle.fwd_outside.specs.Loop.{Start, Wait}
use Rattle.fwd_outside.specs.declared.ends.Ends.{Ends}
use Rattle.fwd_outside.specs.declared.happening.Happening.{Happening}
use Rattle.fwd_outside.specs.declared.happening.Happening.TheVariants as happening
use Rattle.fwd_outside.proofs.Executions.{way_bind}
use Rattle.fwd_keeper.specs.Keeper.{Get, Put}
use Rattle.fwd_settings.specs.declared.settings_types.AllSettings.{AllSettings}
use Rattle.fwd_model.specs.Fact.{History, Happened, Resumed, Saved}
use Rattle.fwd_model.specs.Trace.{Action, TraceEntry, OnLoop, OnKeeper, Note}
use Rattle.fwd_model.specs.Settings.{saturating_plus, paths_at}
use Rattle.fwd_model.specs.Clock.{clock, stopped}
use Rattle.fwd_model.specs.FollowedFiles.{settled}
use Rattle.fwd_model.specs.Limits.{paused}
use Rattle.fwd_model.specs.KeptOffsets.{Tracked, tracked, kept_at, to_put, indexes_from, resumes, got, gets, after_put, puts_by, puts}
use Rattle.fwd_model.specs.StepActions.{step}
use Rattle.fwd_model.specs.RecoveryActions.{recovers}
use Rattle.fwd_model.specs.Run.{End, RunResult, Over, KeeperFailed, TurnsSpent, lived, is_over, is_over_after, goes_on, steps_on, is_last_tick, unless_last, after_step, brought, run, after_start, starts, after_recovery, life}
use Rattle.fwd_theorem_runs.proofs.Binding.{bind_twice, bind_same}

-- what follows a run: more turns if its own were used up, else nothing
abbrev pub continued_by : (History → Action RunResult) → History → End → Action RunResult
continued_by next h TurnsSpent = next h
continued_by next h end = Return (lived h end)

abbrev pub continued : (History → Action RunResult) → RunResult → Action RunResult
continued next result = continued_by next result.history result.end

ended_stays : (next : History → Action RunResult) (h : History) (end : End) → (end ≡ TurnsSpent → ⊥) → continued_by next h end ≡ Return (lived h end)
ended_stays next h TurnsSpent left = absurd (left refl)
ended_stays next h end left = refl

module _ (s : AllSettings) (ticks : Option ℕ) (more : ℕ) where
  abbrev pub onward : RunResult → Action RunResult
  onward = continued (run s ticks more)

  -- the first is the second, and then more turns if its own were used up
  abbrev pub Continues : (History → Action RunResult) → (History → Action RunResult) → Type 0
  Continues f g = (h : History) → f h ≡ bind (g h) onward

  -- ---- kept offsets

  after_put_on : (t : Tracked) (place : ℕ) (f g : History → Action RunResult) (h : History) (answer : Option (Unit {0})) → Continues f g → after_put t place f h answer ≡ bind (after_put t place g h answer) onward
  after_put_on t place f g h None same = same h
  after_put_on t place f g h (Some done) same =
      ap (λ (next : Unit {0} → Action RunResult). Ask (Note (Saved t.input t.index place)) next) (fun_ext (λ (answer : Unit {0}). same (Saved t.input t.index place ∷ h)))

  puts_by_on : (t : Tracked) (place : Option ℕ) (f g : History → Action RunResult) → Continues f g → Continues (puts_by t place f) (puts_by t place g)
  puts_by_on t None f g same h = same h
  puts_by_on t (Some place) f g same h =
      ap (λ (next : Option (Unit {0}) → Action RunResult). Ask (OnKeeper (Put t.db t.path place)) next) (fun_ext (λ (answer : Option (Unit {0})). after_put_on t place f g h answer same))

  puts_on : (ts : List Tracked) (f g : History → Action RunResult) → Continues f g → Continues (puts s ts f) (puts s ts g)
  puts_on [] f g same h = same h
  puts_on (t ∷ ts) f g same h = puts_by_on t (to_put (settled s h t.input t.index) (kept_at h t.input t.index)) (puts s ts f) (puts s ts g) (puts_on ts f g same) h

  resumes_on : (input place : ℕ) (indexes : List ℕ) (f g : History → Action RunResult) → Continues f g → Continues (resumes input place indexes f) (resumes input place indexes g)
  resumes_on input place [] f g same h = same h
  resumes_on input place (index ∷ indexes) f g same h =
      ap (λ (next : Unit {0} → Action RunResult). Ask (Note (Resumed input index place)) next) (fun_ext (λ (answer : Unit {0}). resumes_on input place indexes f g same (Resumed input index place ∷ h)))

  got_on : (t : Tracked) (failed f g : History → Action RunResult) (h : History) (answer : Option (Option ℕ)) → Continues failed failed → Continues f g → got s t failed f h answer ≡ bind (got s t failed g h answer) onward
  got_on t failed f g h None fails same = fails h
  got_on t failed f g h (Some None) fails same = same h
  got_on t failed f g h (Some (Some place)) fails same = resumes_on t.input place (indexes_from 0 t.path (paths_at s t.input)) f g same h

  gets_on : (ts : List Tracked) (failed f g : History → Action RunResult) → Continues failed failed → Continues f g → Continues (gets s ts failed f) (gets s ts failed g)
  gets_on [] failed f g fails same h = same h
  gets_on (t ∷ ts) failed f g fails same h =
      ap (λ (next : Option (Option ℕ) → Action RunResult). Ask (OnKeeper (Get t.db t.path)) next)
      (fun_ext (λ (answer : Option (Option ℕ)). got_on t failed (gets s ts failed f) (gets s ts failed g) h answer fails (gets_on ts failed f g fails same)))

  -- ---- turns

  if_on : (b : Bool) (p p2 q q2 : Action RunResult) → p ≡ bind p2 onward → q ≡ bind q2 onward → (if b then p else q) ≡ bind (if b then p2 else q2) onward
  if_on true p p2 q q2 first second = first
  if_on false p p2 q q2 first second = second

  goes_on_on : (f g : History → Action RunResult) (x : Happening) → Continues f g → Continues (goes_on s f x) (goes_on s g x)
  goes_on_on f g x same h = if_on (is_over s x h) (Return (lived h Over)) (Return (lived h Over)) (f h) (g h) refl (same h)

  then_on : (p : Action History) (f g : History → Action RunResult) → Continues f g → bind p f ≡ bind (bind p g) onward
  then_on p f g same = bind_same p f (λ (h : History). bind (g h) onward) same ∙ sym (bind_twice p g onward)

  unless_last_on : (f g : History → Action RunResult) (x : Happening) → Continues f g → Continues (unless_last s ticks f x) (unless_last s ticks g x)
  unless_last_on f g x same h =
      if_on (is_last_tick s ticks x h) (steps_on s f happening.Stop h) (steps_on s g happening.Stop h) (f h) (g h)
      (then_on (step s happening.Stop h) (goes_on s f happening.Stop) (goes_on s g happening.Stop) (goes_on_on f g happening.Stop same)) (same h)

  after_step_on : (f g : History → Action RunResult) (x : Happening) → Continues f g → Continues (after_step s ticks f x) (after_step s ticks g x)
  after_step_on f g x same =
      puts_on (tracked s) (goes_on s (unless_last s ticks f x) x) (goes_on s (unless_last s ticks g x) x)
      (goes_on_on (unless_last s ticks f x) (unless_last s ticks g x) x (unless_last_on f g x same))

  brought_on : (f g : History → Action RunResult) (h : History) (x : Happening) → Continues f g → brought s ticks f h x ≡ bind (brought s ticks g h x) onward
  brought_on f g h happening.Failed same = refl
  brought_on f g h x same = then_on (step s x h) (after_step s ticks f x) (after_step s ticks g x) (after_step_on f g x same)

  pub run_on : (turns : ℕ) → Continues (run s ticks (turns + more)) (run s ticks turns)
  unfolding run
  run_on zero h = ap (λ (n : ℕ). run s ticks n h) (omega arith)
  run_on (suc turns) h =
      let next_one : suc turns + more ≡ suc (turns + more) = omega arith in
      ap (λ (n : ℕ). run s ticks n h) next_one
      ∙ ap (λ (next : Happening → Action RunResult). Ask (OnLoop (Wait (saturating_plus (clock h) longest_wait) (paused s h))) next)
      (fun_ext (λ (x : Happening). brought_on (run s ticks (turns + more)) (run s ticks turns) h x (run_on turns)))

  -- ---- a run

  after_start_on : (turns : ℕ) (h : History) (ready : Option (Unit {0})) → after_start s ticks (turns + more) h ready ≡ bind (after_start s ticks turns h ready) onward
  after_start_on turns h None = refl
  after_start_on turns h (Some ready) = run_on turns h

  starts_on : (ends : Ends) (turns : ℕ) → Continues (starts s ends ticks (turns + more)) (starts s ends ticks turns)
  starts_on ends turns h = ap (λ (next : Option (Unit {0}) → Action RunResult). Ask (OnLoop (Start ends)) next) (fun_ext (λ (ready : Option (Unit {0})). after_start_on turns h ready))

  after_recovery_on : (ends : Ends) (turns : ℕ) (found : Option History) → after_recovery s ends ticks (turns + more) found ≡ bind (after_recovery s ends ticks turns found) onward
  after_recovery_on ends turns None = refl
  after_recovery_on ends turns (Some h) =
      gets_on (tracked s) (λ now. Return (lived now KeeperFailed)) (starts s ends ticks (turns + more)) (starts s ends ticks turns) (λ now. refl) (starts_on ends turns) h

  pub life_on : (ends : Ends) (turns : ℕ) → life s ends ticks (turns + more) ≡ bind (life s ends ticks turns) onward
  unfolding life
  life_on ends turns =
      bind_same (recovers s) (after_recovery s ends ticks (turns + more)) (λ (found : Option History). bind (after_recovery s ends ticks turns found) onward) (after_recovery_on ends turns)
      ∙ sym (bind_twice (recovers s) (after_recovery s ends ticks turns) onward)

  pub spent_goes_on : (ends : Ends) (turns : ℕ) (trace : List TraceEntry) (h : History) → Execution (life s ends ticks turns) trace (Return (lived h TurnsSpent)) → Execution (life s ends ticks (turns + more)) trace (run s ticks more h)
  spent_goes_on ends turns trace h way =
      subst (λ (p : Action RunResult). Execution p trace (run s ticks more h)) (sym (life_on ends turns)) (way_bind (life s ends ticks turns) (Return (lived h TurnsSpent)) trace onward way)

  pub begun_goes_on : (ends : Ends) (turns left : ℕ) (trace : List TraceEntry) (h : History) → Execution (life s ends ticks turns) trace (run s ticks left h) → Execution (life s ends ticks (turns + more)) trace (run s ticks (left + more) h)
  begun_goes_on ends turns left trace h way =
      subst (λ (p : Action RunResult). Execution p trace (run s ticks (left + more) h)) (sym (life_on ends turns))
      (subst (λ (q : Action RunResult). Execution (bind (life s ends ticks turns) onward) trace q) (sym (run_on left h)) (way_bind (life s ends ticks turns) (run s ticks left h) trace onward way))

  pub ended_is_same : (ends : Ends) (turns : ℕ) (trace : List TraceEntry) (result : RunResult) → (result.end ≡ TurnsSpent → ⊥) → Execution (life s ends ticks turns) trace (Return result) → Execution (life s ends ticks (turns + more)) trace (Return result)
  ended_is_same ends turns trace result left way =
      subst (λ (p : Action RunResult). Execution p trace (Return result)) (sym (life_on ends turns))
      (subst (λ (q : Action RunResult). Execution (bind (life s ends ticks turns) onward) trace q) (ended_stays (run s ticks more) result.history result.end left)
      (way_bind (life s ends ticks turns) (Return result) trace onward way))

-- ---- the end

-- End is over at once
over_at_end : (s : AllSettings) (h : History) → is_over s happening.End h ≡ true
unfolding is_over
over_at_end s h = by (stopped s h)
  where
    by : (at : Option ℕ) → is_over_after s happening.End at h ≡ true
    by None = refl
    by (Some at) = refl

module _ (s : AllSettings) (ticks : Option ℕ) (turns : ℕ) (h : History) where
  abbrev at_end : History
  at_end = Happened happening.End ∷ h

  abbrev ended : Action RunResult
  ended = Return (lived at_end Over)

  ends : (ts : List Tracked) → ts ≡ [] → ended ≡ puts s ts (goes_on s (unless_last s ticks (run s ticks turns) happening.End) happening.End) at_end
  ends ts none = rw none (rw (over_at_end s at_end) refl)

  pub ends_at_end : tracked s ≡ []
      → Execution (run s ticks (suc turns) h) (entry (OnLoop (Wait (saturating_plus (clock h) longest_wait) (paused s h))) happening.End ∷ entry (Note (Happened happening.End)) tt ∷ []) ended
  unfolding run step
  ends_at_end none = (happening.End, refl, (tt, refl, ends (tracked s) none))
