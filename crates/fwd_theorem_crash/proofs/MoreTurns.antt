-- A run that stopped because its turns ran out goes on if it has more of them.
use Rattle.std.proofs.Common.{◌≡◌, ℕ, zero, suc, ◌+◌, Bool, true, false, if◌then◌else◌, Option, Some, None, List, [], ◌∷◌, refl, ◌∙◌, ap, arith}
use Rattle.fwd_outside.specs.Program.{Return, Ask, bind, Execution}
use Rattle.fwd_outside.proofs.Executions.{way_bind}
use Rattle.fwd_outside.specs.Loop.{Start}
use Rattle.fwd_outside.specs.declared.ends.Ends.{Ends}
use Rattle.fwd_outside.specs.declared.happening.Happening.{Happening}
use Rattle.fwd_outside.specs.declared.happening.Happening.TheVariants as happening
use Rattle.fwd_keeper.specs.Keeper.{Get, Put}
use Rattle.fwd_settings.specs.declared.settings_types.AllSettings.{AllSettings}
use Rattle.fwd_model.specs.Fact.{History, Resumed, Saved}
use Rattle.fwd_model.specs.Trace.{Call, Answer, Action, TraceEntry, OnLoop, OnKeeper, Note}
use Rattle.fwd_model.specs.Settings.{paths_at}
use Rattle.fwd_model.specs.FollowedFiles.{settled}
use Rattle.fwd_model.specs.StepActions.{step}
use Rattle.fwd_model.specs.RecoveryActions.{recovers}
use Rattle.fwd_model.specs.KeptOffsets.{Tracked, tracked, kept_at, to_put, indexes_from, resumes, got, gets, after_put, puts_by, puts}
use Rattle.fwd_model.specs.Run.{Over, DiskFailed, KeeperFailed, LoopFailed, TurnsSpent, RunResult, lived, is_over, goes_on, after_step, brought, run, after_start, starts, after_recovery, life}
use Rattle.fwd_theorem_crash.specs.StepBoundaries.{takes_event, turn}

-- the second goes on, by the same calls, if the first ends this way
abbrev Continues : RunResult → Action RunResult → Action RunResult → Action RunResult → Type 0
Continues end next p q = (es : List TraceEntry) → Execution p es (Return end) → Execution q es next

behind_bind : {R : Type 0} (end : RunResult) (next : Action RunResult) (p : Action R) (one other : R → Action RunResult) → ((x : R) → Continues end next (one x) (other x)) → Continues end next (bind p one) (bind p other)
behind_bind end next (Return x) one other more es way = more x es way
behind_bind end next (Ask call go) one other more [] way = absurd (cc way)
behind_bind end next (Ask call go) one other more (e ∷ es) way = (way.0, way.1, behind_bind end next (go way.0) one other more es way.2)

behind_ask : (end : RunResult) (next : Action RunResult) (call : Call) (one other : Answer call → Action RunResult) → ((answer : Answer call) → Continues end next (one answer) (other answer)) → Continues end next (Ask call one) (Ask call other)
behind_ask end next call one other more [] way = absurd (cc way)
behind_ask end next call one other more (e ∷ es) way = (way.0, way.1, more way.0 es way.2)

-- a run that ends otherwise doesn't go on
ends_else : (end : RunResult) (next : Action RunResult) (here : RunResult) (q : Action RunResult) → (end ≡ here → ⊥) → Continues end next (Return here) q
ends_else end next here q other [] way = absurd (other (cc way))
ends_else end next here q other (e ∷ es) way = absurd way

module _ (s : AllSettings) (h : History) (more : ℕ) where
  abbrev spent : RunResult
  spent = lived h TurnsSpent

  abbrev rest : Action RunResult
  rest = run s None more h

  abbrev Both : (one other : History → Action RunResult) → Type 0
  Both one other = (at : History) → Continues spent rest (one at) (other at)

  by_over : (over : Bool) (at : History) (one other : History → Action RunResult) → Both one other → Continues spent rest (if over then Return (lived at Over) else one at) (if over then Return (lived at Over) else other at)
  by_over true at one other goes = ends_else spent rest (lived at Over) (Return (lived at Over)) (λ is. cc (ap (λ (l : RunResult). l.end) is))
  by_over false at one other goes = goes at

  -- offsets are put
  by_put : (t : Tracked) (place : ℕ) (one other : History → Action RunResult) → Both one other → (at : History) (answer : Option (Unit {0})) → Continues spent rest (after_put t place one at answer) (after_put t place other at answer)
  by_put t place one other goes at None = goes at
  by_put t place one other goes at (Some done) =
      let now : History = Saved t.input t.index place ∷ at in
      behind_ask spent rest (Note (Saved t.input t.index place)) (λ _. one now) (λ _. other now) (λ answer. goes now)

  by_puts : (ts : List Tracked) (one other : History → Action RunResult) → Both one other → Both (puts s ts one) (puts s ts other)
  by_puts [] one other goes at = goes at
  by_puts (t ∷ ts) one other goes at = by (to_put (settled s at t.input t.index) (kept_at at t.input t.index)) (by_puts ts one other goes)
    where
      by : (place : Option ℕ) → Both (puts s ts one) (puts s ts other) → Continues spent rest (puts_by t place (puts s ts one) at) (puts_by t place (puts s ts other) at)
      by None goes = goes at
      by (Some place) goes =
          behind_ask spent rest (OnKeeper (Put t.db t.path place)) (after_put t place (puts s ts one) at) (after_put t place (puts s ts other) at) (by_put t place (puts s ts one) (puts s ts other) goes at)

  -- offsets are got
  by_resumes : (input place : ℕ) (indexes : List ℕ) (one other : History → Action RunResult) → Both one other → Both (resumes input place indexes one) (resumes input place indexes other)
  by_resumes input place [] one other goes at = goes at
  by_resumes input place (index ∷ indexes) one other goes at =
      let now : History = Resumed input index place ∷ at in
      behind_ask spent rest (Note (Resumed input index place)) (λ _. resumes input place indexes one now) (λ _. resumes input place indexes other now) (λ answer. by_resumes input place indexes one other goes now)

  by_got : (t : Tracked) (failed one other : History → Action RunResult) → Both failed failed → Both one other → (at : History) (answer : Option (Option ℕ)) → Continues spent rest (got s t failed one at answer) (got s t failed other at answer)
  by_got t failed one other ends goes at None = ends at
  by_got t failed one other ends goes at (Some None) = goes at
  by_got t failed one other ends goes at (Some (Some place)) = by_resumes t.input place (indexes_from 0 t.path (paths_at s t.input)) one other goes at

  by_gets : (ts : List Tracked) (failed one other : History → Action RunResult) → Both failed failed → Both one other → Both (gets s ts failed one) (gets s ts failed other)
  by_gets [] failed one other ends goes at = goes at
  by_gets (t ∷ ts) failed one other ends goes at =
      behind_ask spent rest (OnKeeper (Get t.db t.path)) (got s t failed (gets s ts failed one) at) (got s t failed (gets s ts failed other) at)
      (by_got t failed (gets s ts failed one) (gets s ts failed other) ends (by_gets ts failed one other ends goes) at)

  by_brought : (one other : History → Action RunResult) → Both one other → (at : History) (x : Happening) → Continues spent rest (brought s None one at x) (brought s None other at x)
  by_brought one other goes at happening.Failed = ends_else spent rest (lived at LoopFailed) (Return (lived at LoopFailed)) (λ is. cc (ap (λ (l : RunResult). l.end) is))
  by_brought one other goes at x =
      behind_bind spent rest (step s x at) (after_step s None one x) (after_step s None other x)
      (by_puts (tracked s) (goes_on s one x) (goes_on s other x) (λ now. by_over (is_over s x now) now one other goes))

  run_on : (turns total : ℕ) → total ≡ turns + more → (at : History) → Continues spent rest (run s None turns at) (run s None total at)
  unfolding run
  run_on zero total sum at [] way =
      let ended : lived h TurnsSpent ≡ lived at TurnsSpent = cc way in
      let same : h ≡ at = ap (λ (l : RunResult). l.history) ended in
      let is : more ≡ total = omega (arith, sum) in
      ap (λ (y : History). run s None more y) same ∙ ap (λ (n : ℕ). run s None n at) is
  run_on zero total sum at (e ∷ es) way = absurd way
  run_on (suc turns) zero sum at es way = absurd (omega (arith, sum))
  run_on (suc turns) (suc total) sum at [] way = absurd (cc way)
  run_on (suc turns) (suc total) sum at (e ∷ es) way =
      let fewer : total ≡ turns + more = omega (arith, sum) in
      (way.0, way.1, by_brought (run s None turns) (run s None total) (run_on turns total fewer) at way.0 es way.2)

  by_begun : (ends : Ends) (turns total : ℕ) → total ≡ turns + more → (loaded : Option History) → Continues spent rest (after_recovery s ends None turns loaded) (after_recovery s ends None total loaded)
  by_begun ends turns total sum None es way = ends_else spent rest (lived [] DiskFailed) (Return (lived [] DiskFailed)) (λ is. cc (ap (λ (l : RunResult). l.end) is)) es way
  by_begun ends turns total sum (Some loaded) es way =
      by_gets (tracked s) (λ (at : History). Return (lived at KeeperFailed)) (starts s ends None turns) (starts s ends None total)
      (λ at. ends_else spent rest (lived at KeeperFailed) (Return (lived at KeeperFailed)) (λ is. cc (ap (λ (l : RunResult). l.end) is))) starting loaded es way
    where
      by : (at : History) (ready : Option (Unit {0})) → Continues spent rest (after_start s None turns at ready) (after_start s None total at ready)
      by at None = ends_else spent rest (lived at LoopFailed) (Return (lived at LoopFailed)) (λ is. cc (ap (λ (l : RunResult). l.end) is))
      by at (Some ready) = run_on turns total sum at

      starting : Both (starts s ends None turns) (starts s ends None total)
      starting at = behind_ask spent rest (OnLoop (Start ends)) (after_start s None turns at) (after_start s None total at) (by at)

  pub life_on : (ends : Ends) (turns total : ℕ) → total ≡ turns + more → (es : List TraceEntry) → Execution (life s ends None turns) es (Return (lived h TurnsSpent)) → Execution (life s ends None total) es (run s None more h)
  unfolding life
  life_on ends turns total sum es way = behind_bind spent rest (recovers s) (after_recovery s ends None turns) (after_recovery s ends None total) (by_begun ends turns total sum) es way

-- ---- the calls of a turn are calls of a run

module _ (s : AllSettings) (h last : History) where
  event_runs : (x : Happening) (es : List TraceEntry) → Execution (takes_event s h x) es (Return last) → (left : Action RunResult) × Execution (brought s None (run s None zero) h x) es left
  event_runs happening.Failed [] way = (Return (lived h LoopFailed), refl)
  event_runs happening.Failed (e ∷ es) way = absurd way
  event_runs x es way = (after_step s None (run s None zero) x last, way_bind (step s x h) (Return last) es (after_step s None (run s None zero) x) way)

  pub turn_runs : (es : List TraceEntry) → Execution (turn s h) es (Return last) → (left : Action RunResult) × Execution (run s None 1 h) es left
  unfolding run
  turn_runs [] way = absurd (cc way)
  turn_runs (e ∷ es) way = let more = event_runs way.0 es way.2 in (more.0, (way.0, way.1, more.1))
