-- A stopped run counts no ticks, from any history on.
use Rattle.std.proofs.Common.{◌≡◌, ℕ, zero, suc, ◌&&◌, ◌==◌, Bool, true, false, if◌then◌else◌, List, [], ◌∷◌, Option, Some, None, refl, ap, ◌∙◌}
use mathlib.Core.Path.{fun_ext}
use Rattle.fwd_base.specs.Limits.{longest_wait}
use Rattle.fwd_outside.specs.Program.{Return, Ask, bind}
use Rattle.fwd_outside.specs.Loop.{Wait}
use Rattle.fwd_outside.specs.declared.happening.Happening.{Happening}
use Rattle.fwd_outside.specs.declared.happening.Happening.TheVariants as happening
use Rattle.fwd_keeper.specs.Keeper.{Put}
use Rattle.fwd_settings.specs.declared.settings_types.AllSettings.{AllSettings}
use Rattle.fwd_model.specs.Fact.{History, Happened, Saved}
use Rattle.fwd_model.specs.Trace.{Answer, Action, OnLoop, OnKeeper, Note}
use Rattle.fwd_model.specs.Settings.{saturating_plus, reads_stdin_at}
use Rattle.fwd_model.specs.Clock.{clock, stopped, stopped_by, tick_count}
use Rattle.fwd_model.specs.FollowedFiles.{settled}
use Rattle.fwd_model.specs.Limits.{paused}
use Rattle.fwd_model.specs.KeptOffsets.{Tracked, tracked, kept_at, to_put, after_put, puts_by, puts}
use Rattle.fwd_model.specs.StepActions.{step}
use Rattle.fwd_model.specs.Run.{RunResult, Over, lived, is_tick, is_over, goes_on, steps_on, is_last_tick, unless_last, after_step, brought, run}
use Rattle.fwd_engine_run.proofs.StepOffsets.{Ends, Same, step_keeps}

-- two actions after one whose results are such that they are the same
bind_same : {R S : Type 0} (M : R → Type 0) (p : Action R) (f g : R → Action S) → Ends M p → ((x : R) → M x → f x ≡ g x) → bind p f ≡ bind p g
bind_same M (Return x) f g ends same = same x ends
bind_same {S = S} M (Ask call go) f g ends same = ap (λ (next : Answer call → Action S). Ask call next) (fun_ext (λ (answer : Answer call). bind_same M (go answer) f g (ends answer) same))

if_same : (b : Bool) (p q q2 : Action RunResult) → q ≡ q2 → (if b then p else q) ≡ (if b then p else q2)
if_same true p q q2 same = refl
if_same false p q q2 same = same

and_false : (a b : Bool) → (a && (b && false)) ≡ false
and_false true true = refl
and_false true false = refl
and_false false b = refl

module _ (s : AllSettings) where
  abbrev IsStopped : History → Type 0
  IsStopped h = (at : ℕ) × (stopped s h ≡ Some at)

  -- a stop, whether it is the first or not
  stopped_now : (now : ℕ) (before : Option ℕ) → (at : ℕ) × (stopped_by true now before ≡ Some at)
  stopped_now now None = (now, refl)
  stopped_now now (Some at) = (at, refl)

  stopped_if : (b : Bool) (now at : ℕ) → stopped_by b now (Some at) ≡ Some at
  stopped_if true now at = refl
  stopped_if false now at = refl

  still_stopped : (x : Happening) (h : History) → IsStopped h → IsStopped (Happened x ∷ h)
  still_stopped happening.Stop h is = stopped_now (clock h) (stopped s h)
  still_stopped (happening.InputEnd input) h is = (is.0, rw is.1 (stopped_if (reads_stdin_at s input.0) (clock h) is.0))
  still_stopped x h is = is

  stopped_after : (x : Happening) (h now : History) → IsStopped (Happened x ∷ h) → Same s (Happened x ∷ h) now → IsStopped now
  stopped_after x h now is same = (is.0, same.1 ∙ is.1)

  none_last : (ticks : Option ℕ) (x : Happening) (h : History) → IsStopped h → is_last_tick s ticks x h ≡ false
  none_last None x h is = refl
  none_last (Some ticks) x h is = rw is.1 (and_false (is_tick x) (tick_count h == ticks))

  -- the same action wherever the run is stopped
  abbrev SameStopped : (History → Action RunResult) → (History → Action RunResult) → Type 0
  SameStopped f g = (h : History) → IsStopped h → f h ≡ g h

  put_same : (t : Tracked) (place : Option ℕ) (f g : History → Action RunResult) → SameStopped f g → SameStopped (puts_by t place f) (puts_by t place g)
  put_same t None f g same h is = same h is
  put_same t (Some place) f g same h is = ap (λ (go : Option (Unit {0}) → Action RunResult). Ask (OnKeeper (Put t.db t.path place)) go) (fun_ext (λ (answer : Option (Unit {0})). by answer))
    where
      by : (answer : Option (Unit {0})) → after_put t place f h answer ≡ after_put t place g h answer
      by None = same h is
      by (Some done) = ap (λ (go : Unit {0} → Action RunResult). Ask (Note (Saved t.input t.index place)) go) (fun_ext (λ (answer : Unit {0}). same (Saved t.input t.index place ∷ h) is))

  puts_same : (ts : List Tracked) (f g : History → Action RunResult) → SameStopped f g → SameStopped (puts s ts f) (puts s ts g)
  puts_same [] f g same h is = same h is
  puts_same (t ∷ ts) f g same h is = put_same t (to_put (settled s h t.input t.index) (kept_at h t.input t.index)) (puts s ts f) (puts s ts g) (puts_same ts f g same) h is

  goes_on_same : (f g : History → Action RunResult) (x : Happening) → SameStopped f g → SameStopped (goes_on s f x) (goes_on s g x)
  goes_on_same f g x same h is = if_same (is_over s x h) (Return (lived h Over)) (f h) (g h) (same h is)

  unless_last_same : (ticks : Option ℕ) (f g : History → Action RunResult) (x : Happening) → SameStopped f g → SameStopped (unless_last s ticks f x) (unless_last s None g x)
  unless_last_same ticks f g x same h is = rw (none_last ticks x h is) (same h is)

  after_step_same : (ticks : Option ℕ) (f g : History → Action RunResult) (x : Happening) → SameStopped f g → SameStopped (after_step s ticks f x) (after_step s None g x)
  after_step_same ticks f g x same =
      puts_same (tracked s) (goes_on s (unless_last s ticks f x) x) (goes_on s (unless_last s None g x) x)
      (goes_on_same (unless_last s ticks f x) (unless_last s None g x) x (unless_last_same ticks f g x same))

  brought_same : (ticks : Option ℕ) (f g : History → Action RunResult) (h : History) (x : Happening) → SameStopped f g → IsStopped h → brought s ticks f h x ≡ brought s None g h x
  brought_same ticks f g h happening.Failed same is = refl
  brought_same ticks f g h x same is =
      bind_same (Same s (Happened x ∷ h)) (step s x h) (after_step s ticks f x) (after_step s None g x) (step_keeps s x h)
      (λ now kept. after_step_same ticks f g x same now (stopped_after x h now (still_stopped x h is) kept))

  -- a run that is stopped
  pub stopped_run : (ticks : Option ℕ) (turns : ℕ) → SameStopped (run s ticks turns) (run s None turns)
  unfolding run
  stopped_run ticks zero h is = refl
  stopped_run ticks (suc turns) h is =
      ap (λ (go : Happening → Action RunResult). Ask (OnLoop (Wait (saturating_plus (clock h) longest_wait) (paused s h))) go)
      (fun_ext (λ (x : Happening). brought_same ticks (run s ticks turns) (run s None turns) h x (stopped_run ticks turns) is))

  -- a Stop, and the run after it
  pub stop_counts_no_ticks : (ticks : Option ℕ) (turns : ℕ) (h : History) → steps_on s (run s ticks turns) happening.Stop h ≡ steps_on s (run s None turns) happening.Stop h
  stop_counts_no_ticks ticks turns h =
      bind_same (Same s (Happened happening.Stop ∷ h)) (step s happening.Stop h) (goes_on s (run s ticks turns) happening.Stop) (goes_on s (run s None turns) happening.Stop) (step_keeps s happening.Stop h)
      (λ now kept.
      goes_on_same (run s ticks turns) (run s None turns) happening.Stop (stopped_run ticks turns) now (stopped_after happening.Stop h now (stopped_now (clock h) (stopped s h)) kept))
