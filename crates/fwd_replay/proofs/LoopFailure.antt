-- A run whose loop failed has the failure in its trace.
use Rattle.std.proofs.Common.{◌≡◌, ℕ, zero, suc, Bool, true, false, ◌||◌, ◌==◌, if◌then◌else◌, List, [], ◌∷◌, ◌++◌, Option, Some, None, refl, sym, ◌∙◌, ap, subst}
use Rattle.std.specs.List.{list_any}
use Rattle.fwd_outside.specs.Program.{entry, Return, Ask, bind, Execution}
use Rattle.fwd_outside.specs.Loop.{Start, Wait}
use Rattle.fwd_outside.specs.declared.ends.Ends.{Ends}
use Rattle.fwd_outside.specs.declared.happening.Happening.{Happening}
use Rattle.fwd_outside.specs.declared.happening.Happening.TheVariants as happening
use Rattle.fwd_settings.specs.declared.settings_types.AllSettings.{AllSettings}
use Rattle.fwd_model.specs.Fact.{History}
use Rattle.fwd_model.specs.Trace.{Action, Call, Answer, TraceEntry, OnLoop, loop_entry, loop_part}
use Rattle.fwd_base.specs.Limits.{longest_wait}
use Rattle.fwd_model.specs.Settings.{paths_at, saturating_plus}
use Rattle.fwd_model.specs.Clock.{clock}
use Rattle.fwd_model.specs.Limits.{paused}
use Rattle.fwd_model.specs.FollowedFiles.{settled}
use Rattle.fwd_model.specs.KeptOffsets.{Tracked, tracked, after_put, got, gets, indexes_from, kept_at, puts, puts_by, resumes, to_put}
use Rattle.fwd_model.specs.RecoveryActions.{recovers}
use Rattle.fwd_model.specs.StepActions.{step}
use Rattle.fwd_model.specs.Run.{End, LoopFailed, RunResult, Over, lived, is_over, goes_on, is_last_tick, steps_on, unless_last, after_step, brought, run, after_start, starts, after_recovery, life}
use Rattle.fwd_secure.specs.Secure.{has_failed, is_failure}

-- a call on the loop is a failure
abbrev fails : (call : Call) → Answer call → Bool
fails (OnLoop call) answer = is_failure call answer
fails call answer = false

-- the action ends with a failure of the loop only if one was among the calls, or before
abbrev FailsOnly : Bool → Action RunResult → Type 0
FailsOnly before (Return r) = r.end ≡ LoopFailed → before ≡ true
FailsOnly before (Ask call go) = (answer : Answer call) → FailsOnly (before || fails call answer) (go answer)

bind_so : {R : Type 0} (before : Bool) (p : Action R) (next : R → Action RunResult) → ((b : Bool) (x : R) → FailsOnly b (next x)) → FailsOnly before (bind p next)
bind_so before (Return x) next more = more before x
bind_so before (Ask call go) next more = λ answer. bind_so (before || fails call answer) (go answer) next more

cond_so : (before b : Bool) (p q : Action RunResult) → FailsOnly before p → FailsOnly before q → FailsOnly before (if b then p else q)
cond_so before true p q first second = first
cond_so before false p q first second = second

-- what follows never fails but for a failure
abbrev AllFail : (History → Action RunResult) → Type 0
AllFail next = (before : Bool) (h : History) → FailsOnly before (next h)

over_so : (before : Bool) (h : History) (end : End) → (end ≡ LoopFailed → before ≡ true) → FailsOnly before (Return (lived h end))
over_so before h end so = so

goes_so : (s : AllSettings) (next : History → Action RunResult) (x : Happening) → AllFail next → AllFail (goes_on s next x)
goes_so s next x more before h = cond_so before (is_over s x h) (Return (lived h Over)) (next h) (λ is. absurd (cc is)) (more before h)

last_so : (s : AllSettings) (ticks : Option ℕ) (next : History → Action RunResult) (x : Happening) → AllFail next → AllFail (unless_last s ticks next x)
last_so s ticks next x more before h =
    cond_so before (is_last_tick s ticks x h) (steps_on s next happening.Stop h) (next h) (bind_so before (step s happening.Stop h) (goes_on s next happening.Stop) (λ b now. goes_so s next happening.Stop more b now)) (more before h)

put_so : (t : Tracked) (place : ℕ) (next : History → Action RunResult) → AllFail next → (before : Bool) (h : History) (done : Option (Unit {0})) → FailsOnly before (after_put t place next h done)
put_so t place next more before h None = more before h
put_so t place next more before h (Some done) = λ _. more (before || false) _

puts_by_so : (t : Tracked) (place : Option ℕ) (next : History → Action RunResult) → AllFail next → AllFail (puts_by t place next)
puts_by_so t None next more before h = more before h
puts_by_so t (Some place) next more before h = λ done. put_so t place next more (before || false) h done

puts_so : (s : AllSettings) (files : List Tracked) (next : History → Action RunResult) → AllFail next → AllFail (puts s files next)
puts_so s [] next more before h = more before h
puts_so s (t ∷ ts) next more before h = puts_by_so t (to_put (settled s h t.input t.index) (kept_at h t.input t.index)) (puts s ts next) (puts_so s ts next more) before h

after_so : (s : AllSettings) (ticks : Option ℕ) (next : History → Action RunResult) (x : Happening) → AllFail next → AllFail (after_step s ticks next x)
after_so s ticks next x more = puts_so s (tracked s) (goes_on s (unless_last s ticks next x) x) (goes_so s (unless_last s ticks next x) x (last_so s ticks next x more))

or_true : (b : Bool) → (b || true) ≡ true
or_true true = refl
or_true false = refl

-- after the event of a wait
brought_so : (s : AllSettings) (ticks : Option ℕ) (next : History → Action RunResult) → AllFail next → (before : Bool) (h : History) (x : Happening) (until mask : ℕ) → FailsOnly (before || fails (OnLoop (Wait until mask)) x) (brought s ticks next h x)
brought_so s ticks next more before h happening.Failed until mask = λ _. or_true before
brought_so s ticks next more before h x until mask = bind_so (before || false) (step s x h) (after_step s ticks next x) (λ b now. after_so s ticks next x more b now)

run_so : (s : AllSettings) (ticks : Option ℕ) (turns : ℕ) → AllFail (run s ticks turns)
unfolding run
run_so s ticks zero before h = λ is. absurd (cc is)
run_so s ticks (suc turns) before h = λ x. brought_so s ticks (run s ticks turns) (run_so s ticks turns) before h x (saturating_plus (clock h) longest_wait) (paused s h)

start_so : (s : AllSettings) (ticks : Option ℕ) (turns : ℕ) (before : Bool) (h : History) (ends : Ends) (answer : Option (Unit {0})) → FailsOnly (before || fails (OnLoop (Start ends)) answer) (after_start s ticks turns h answer)
start_so s ticks turns before h ends None = λ _. or_true before
start_so s ticks turns before h ends (Some ready) = run_so s ticks turns (before || false) h

starts_so : (s : AllSettings) (ends : Ends) (ticks : Option ℕ) (turns : ℕ) → AllFail (starts s ends ticks turns)
starts_so s ends ticks turns before h = λ answer. start_so s ticks turns before h ends answer

resumes_so : (input place : ℕ) (indexes : List ℕ) (next : History → Action RunResult) → AllFail next → AllFail (resumes input place indexes next)
resumes_so input place [] next more before h = more before h
resumes_so input place (index ∷ indexes) next more before h = λ _. resumes_so input place indexes next more (before || false) _

got_so : (s : AllSettings) (t : Tracked) (failed next : History → Action RunResult) → AllFail failed → AllFail next → (before : Bool) (h : History) (answer : Option (Option ℕ)) → FailsOnly before (got s t failed next h answer)
got_so s t failed next ends more before h None = ends before h
got_so s t failed next ends more before h (Some None) = more before h
got_so s t failed next ends more before h (Some (Some place)) = resumes_so t.input place (indexes_from 0 t.path (paths_at s t.input)) next more before h

gets_so : (s : AllSettings) (files : List Tracked) (failed next : History → Action RunResult) → AllFail failed → AllFail next → AllFail (gets s files failed next)
gets_so s [] failed next ends more before h = more before h
gets_so s (t ∷ ts) failed next ends more before h = λ answer. got_so s t failed (gets s ts failed next) ends (gets_so s ts failed next ends more) (before || false) h answer

recovered_so : (s : AllSettings) (ends : Ends) (ticks : Option ℕ) (turns : ℕ) (before : Bool) (found : Option History) → FailsOnly before (after_recovery s ends ticks turns found)
recovered_so s ends ticks turns before None = λ is. absurd (cc is)
recovered_so s ends ticks turns before (Some h) = gets_so s (tracked s) _ (starts s ends ticks turns) (λ b now is. absurd (cc is)) (starts_so s ends ticks turns) before h

life_so : (s : AllSettings) (ends : Ends) (ticks : Option ℕ) (turns : ℕ) → FailsOnly false (life s ends ticks turns)
unfolding life
life_so s ends ticks turns = bind_so false (recovers s) (after_recovery s ends ticks turns) (λ b found. recovered_so s ends ticks turns b found)

-- ---- of a trace

or_assoc : (a b c : Bool) → ((a || b) || c) ≡ (a || (b || c))
or_assoc true b c = refl
or_assoc false b c = refl

or_false : (a : Bool) → (a || false) ≡ a
or_false true = refl
or_false false = refl

failed_more : (call : Call) (answer : Answer call) (es : List TraceEntry) → has_failed (loop_part (entry call answer ∷ es)) ≡ (fails call answer || has_failed (loop_part es))
failed_more (OnLoop call) answer es = refl
failed_more call answer es = refl

fails_by : (p : Action RunResult) (es : List TraceEntry) (before : Bool) (r : RunResult) → FailsOnly before p → Execution p es (Return r) → r.end ≡ LoopFailed → (before || has_failed (loop_part es)) ≡ true
fails_by (Return x) [] before r so way is =
    let same : r ≡ x = cc way in
    or_false before ∙ so (sym (ap (λ (l : RunResult). l.end) same) ∙ is)
fails_by (Return x) (e ∷ es) before r so way is = absurd way
fails_by (Ask call go) [] before r so way is = absurd (cc way)
fails_by (Ask call go) (e ∷ es) before r so way is =
    let rest = fails_by (go way.0) es (before || fails call way.0) r (so way.0) way.2 is in
    subst (λ (x : TraceEntry). (before || has_failed (loop_part (x ∷ es))) ≡ true) (sym way.1)
    (ap (λ (b : Bool). before || b) (failed_more call way.0 es) ∙ sym (or_assoc before (fails call way.0) (has_failed (loop_part es))) ∙ rest)

pub failed_run : (s : AllSettings) (ends : Ends) (ticks : Option ℕ) (turns : ℕ) (es : List TraceEntry) (r : RunResult) → Execution (life s ends ticks turns) es (Return r) → r.end ≡ LoopFailed → has_failed (loop_part es) ≡ true
failed_run s ends ticks turns es r way is = fails_by (life s ends ticks turns) es false r (life_so s ends ticks turns) way is

-- the same of a run after its recovery
pub failed_after : (s : AllSettings) (ends : Ends) (ticks : Option ℕ) (turns : ℕ) (found : Option History) (es : List TraceEntry) (r : RunResult) → Execution (after_recovery s ends ticks turns found) es (Return r) → r.end ≡ LoopFailed → has_failed (loop_part es) ≡ true
failed_after s ends ticks turns found es r way is = fails_by (after_recovery s ends ticks turns found) es false r (recovered_so s ends ticks turns false found) way is
