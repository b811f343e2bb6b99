-- Why a run ends.
use Rattle.std.proofs.Common.{◌≡◌, ℕ, zero, suc, ◌+◌, List, [], ◌∷◌, ◌++◌, append_assoc, append-nil, Option, Some, None, refl, sym, ◌∙◌, ap, subst, arith}
use Rattle.fwd_base.specs.Limits.{longest_wait}
use Rattle.fwd_outside.specs.Program.{entry, Return, Ask, bind, Execution}
use Rattle.fwd_outside.specs.Loop.{Start, Wait}
use Rattle.fwd_outside.specs.declared.ends.Ends.{Ends}
use Rattle.fwd_outside.specs.declared.happening.Happening.{Happening}
use Rattle.fwd_outside.specs.declared.happening.Happening.TheVariants as happening
use Rattle.fwd_settings.specs.declared.settings_types.AllSettings.{AllSettings}
use Rattle.fwd_model.specs.Fact.{History, Resumed, Saved}
use Rattle.fwd_model.specs.Trace.{Action, TraceEntry, OnLoop}
use Rattle.fwd_model.specs.Settings.{saturating_plus, paths_at}
use Rattle.fwd_model.specs.Clock.{clock}
use Rattle.fwd_model.specs.FollowedFiles.{settled}
use Rattle.fwd_model.specs.KeptOffsets.{Tracked, tracked, kept_at, to_put, indexes_from, resumes, got, gets, after_put, puts_by, puts}
use Rattle.fwd_model.specs.Limits.{paused}
use Rattle.fwd_model.specs.RecoveryActions.{recovers}
use Rattle.fwd_model.specs.StepActions.{step}
use Rattle.fwd_model.specs.Run.{End, RunResult, Over, DiskFailed, KeeperFailed, LoopFailed, TurnsSpent, lived, is_over, goes_on, steps_on, is_last_tick, unless_last, after_step, brought, run, after_start, starts, after_recovery, life}
use Rattle.fwd_theorem_trace.specs.Waits.{waits_in}
use Rattle.fwd_theorem_trace.proofs.Turns.{way_parts}
use Rattle.fwd_theorem_trace.proofs.WaitCounts.{waits_append, turn_waits_once}
use Rattle.fwd_theorem_delivery.proofs.Results.{Yields, gives_behind, gives_if}
use Rattle.fwd_theorem_runs.proofs.MoreTurns.{continued_by, continued, life_on}
use Rattle.fwd_theorem_steps.specs.Turns.{LoopFailedLast, EndsForCause}
use Rattle.fwd_theorem_steps.proofs.BrokenRuns.{none_yet}

ended : (one comes : RunResult) (es : List TraceEntry) → Execution (Return one) es (Return comes) → (es ≡ []) × (one ≡ comes)
ended one comes [] way = let same : one ≡ comes = cc way in (refl, same)
ended one comes (e ∷ es) way = absurd way

result_of : {R : Type 0} (Q : R → Type 0) (p : Action R) (es : List TraceEntry) (x : R) → Yields Q p → Execution p es (Return x) → Q x
result_of Q (Return y) [] x gives way = let same : y ≡ x = cc way in subst Q same gives
result_of Q (Return y) (e ∷ es) x gives way = absurd way
result_of Q (Ask call go) [] x gives way = absurd (cc way)
result_of Q (Ask call go) (e ∷ es) x gives way = result_of Q (go way.0) es x (gives way.0) way.2

failed_behind : (own more : List TraceEntry) → LoopFailedLast more → LoopFailedLast (own ++ more)
failed_behind own more failed = record {
  before = own ++ failed.before;
  last = failed.last;
  is = ap (λ (l : List TraceEntry). own ++ l) failed.is ∙ sym (append_assoc own failed.before (failed.last ∷ []));
  failed = failed.failed;
}

module _ (s : AllSettings) (ends : Ends) (ticks : Option ℕ) where
  -- neither the loop nor the disk failed
  abbrev IsAsked : End → Type 0
  IsAsked LoopFailed = ⊥
  IsAsked DiskFailed = ⊥
  IsAsked end = Unit {0}

  abbrev Stands : RunResult → Type 0
  Stands comes = IsAsked comes.end

  no_loop : (end : End) → IsAsked end → end ≡ LoopFailed → ⊥
  no_loop LoopFailed asked is = asked
  no_loop Over asked is = absurd (cc is)
  no_loop DiskFailed asked is = asked
  no_loop KeeperFailed asked is = absurd (cc is)
  no_loop TurnsSpent asked is = absurd (cc is)

  no_disk : (end : End) → IsAsked end → end ≡ DiskFailed → ⊥
  no_disk DiskFailed asked is = asked
  no_disk Over asked is = absurd (cc is)
  no_disk LoopFailed asked is = asked
  no_disk KeeperFailed asked is = absurd (cc is)
  no_disk TurnsSpent asked is = absurd (cc is)

  -- ---- a turn whose wait returned an event

  abbrev EachStands : (History → Action RunResult) → Type 0
  EachStands next = (h : History) → Yields Stands (next h)

  after_put_stands : (t : Tracked) (place : ℕ) (next : History → Action RunResult) → EachStands next → (h : History) (answer : Option (Unit {0})) → Yields Stands (after_put t place next h answer)
  after_put_stands t place next stands h None = stands h
  after_put_stands t place next stands h (Some done) = λ _. stands (Saved t.input t.index place ∷ h)

  puts_by_stand : (t : Tracked) (place : Option ℕ) (next : History → Action RunResult) → EachStands next → EachStands (puts_by t place next)
  puts_by_stand t None next stands h = stands h
  puts_by_stand t (Some place) next stands h = λ answer. after_put_stands t place next stands h answer

  puts_stand : (ts : List Tracked) (next : History → Action RunResult) → EachStands next → EachStands (puts s ts next)
  puts_stand [] next stands h = stands h
  puts_stand (t ∷ ts) next stands h = puts_by_stand t (to_put (settled s h t.input t.index) (kept_at h t.input t.index)) (puts s ts next) (puts_stand ts next stands) h

  none_left : EachStands (run s ticks 0)
  unfolding run
  none_left h = tt

  goes_on_stands : (next : History → Action RunResult) (x : Happening) → EachStands next → EachStands (goes_on s next x)
  goes_on_stands next x stands h = gives_if Stands (is_over s x h) (Return (lived h Over)) (next h) (λ _. tt) (λ _. stands h)

  unless_last_stands : (of : Option ℕ) (x : Happening) → EachStands (unless_last s of (run s ticks 0) x)
  unless_last_stands of x h =
      gives_if Stands (is_last_tick s of x h) (steps_on s (run s ticks 0) happening.Stop h) (run s ticks 0 h)
      (λ _. gives_behind Stands (step s happening.Stop h) (goes_on s (run s ticks 0) happening.Stop) (goes_on_stands (run s ticks 0) happening.Stop none_left)) (λ _. none_left h)

  after_step_stands : (x : Happening) → EachStands (after_step s ticks (run s ticks 0) x)
  after_step_stands x = puts_stand (tracked s) (goes_on s (unless_last s ticks (run s ticks 0) x) x) (goes_on_stands (unless_last s ticks (run s ticks 0) x) x (unless_last_stands ticks x))

  -- ---- a turn

  abbrev LoopCause : List TraceEntry → RunResult → Type 0
  LoopCause es comes = comes.end ≡ LoopFailed → LoopFailedLast es

  abbrev NoDisk : RunResult → Type 0
  NoDisk comes = comes.end ≡ DiskFailed → ⊥

  event_ends : (h : History) (until mask : ℕ) (x : Happening) (es : List TraceEntry) (comes : RunResult) → Execution (brought s ticks (run s ticks 0) h x) es (Return comes) → LoopCause (entry (OnLoop (Wait until mask)) x ∷ es) comes × NoDisk comes
  event_ends h until mask happening.Failed es comes way =
      let stop = ended (lived h LoopFailed) comes es way in (
        λ is. record { before = []; last = entry (OnLoop (Wait until mask)) happening.Failed; is = ap (λ (l : List TraceEntry). entry (OnLoop (Wait until mask)) happening.Failed ∷ l) stop.0; failed = refl },
        λ is. let no : LoopFailed ≡ DiskFailed = ap (λ (r : RunResult). r.end) stop.1 ∙ is in absurd (cc no),
      )
  event_ends h until mask x es comes way =
      let asked = result_of Stands (bind (step s x h) (after_step s ticks (run s ticks 0) x)) es comes (gives_behind Stands (step s x h) (after_step s ticks (run s ticks 0) x) (after_step_stands x)) way in
      (λ is. absurd (no_loop comes.end asked is), no_disk comes.end asked)

  turn_ends : (h : History) (es : List TraceEntry) (comes : RunResult) → Execution (run s ticks 1 h) es (Return comes) → LoopCause es comes × NoDisk comes
  unfolding run
  turn_ends h [] comes way = absurd (cc way)
  turn_ends h (e ∷ es) comes way =
      subst (λ (x : TraceEntry). LoopCause (x ∷ es) comes × NoDisk comes) (sym way.1) (event_ends h (saturating_plus (clock h) longest_wait) (paused s h) way.0 es comes way.2)

  -- ---- the start of a run

  abbrev StartCause : (History → Action RunResult) → Type 0
  StartCause next = (h : History) (es : List TraceEntry) (comes : RunResult) → Execution (next h) es (Return comes) → LoopCause es comes × NoDisk comes

  later_cause : (e : TraceEntry) (es : List TraceEntry) (comes : RunResult) → LoopCause es comes × NoDisk comes → LoopCause (e ∷ es) comes × NoDisk comes
  later_cause e es comes cause = (λ is. failed_behind (e ∷ []) es (cause.0 is), cause.1)

  started : (h : History) (ready : Option (Unit {0})) (es : List TraceEntry) (comes : RunResult) → Execution (after_start s ticks 0 h ready) es (Return comes) → LoopCause (entry (OnLoop (Start ends)) ready ∷ es) comes × NoDisk comes
  unfolding run
  started h None es comes way =
      let stop = ended (lived h LoopFailed) comes es way in (
        λ is. record { before = []; last = entry (OnLoop (Start ends)) None; is = ap (λ (l : List TraceEntry). entry (OnLoop (Start ends)) None ∷ l) stop.0; failed = refl },
        λ is. let no : LoopFailed ≡ DiskFailed = ap (λ (r : RunResult). r.end) stop.1 ∙ is in absurd (cc no),
      )
  started h (Some ready) es comes way =
      let stop = ended (lived h TurnsSpent) comes es way in (
        λ is. let no : TurnsSpent ≡ LoopFailed = ap (λ (r : RunResult). r.end) stop.1 ∙ is in absurd (cc no),
        λ is. let no : TurnsSpent ≡ DiskFailed = ap (λ (r : RunResult). r.end) stop.1 ∙ is in absurd (cc no),
      )

  starts_cause : StartCause (starts s ends ticks 0)
  starts_cause h [] comes way = absurd (cc way)
  starts_cause h (e ∷ es) comes way = subst (λ (x : TraceEntry). LoopCause (x ∷ es) comes × NoDisk comes) (sym way.1) (started h way.0 es comes way.2)

  resumes_cause : (input place : ℕ) (indexes : List ℕ) (next : History → Action RunResult) → StartCause next → StartCause (resumes input place indexes next)
  resumes_cause input place [] next cause h es comes way = cause h es comes way
  resumes_cause input place (index ∷ more) next cause h [] comes way = absurd (cc way)
  resumes_cause input place (index ∷ more) next cause h (e ∷ es) comes way = later_cause e es comes (resumes_cause input place more next cause (Resumed input index place ∷ h) es comes way.2)

  keeper_failed : StartCause (λ now. Return (lived now KeeperFailed))
  keeper_failed h es comes way =
      let stop = ended (lived h KeeperFailed) comes es way in (
        λ is. let no : KeeperFailed ≡ LoopFailed = ap (λ (r : RunResult). r.end) stop.1 ∙ is in absurd (cc no),
        λ is. let no : KeeperFailed ≡ DiskFailed = ap (λ (r : RunResult). r.end) stop.1 ∙ is in absurd (cc no),
      )

  got_cause : (t : Tracked) (failed next : History → Action RunResult) → StartCause failed → StartCause next → (answer : Option (Option ℕ)) → StartCause (λ h. got s t failed next h answer)
  got_cause t failed next fails cause None h es comes way = fails h es comes way
  got_cause t failed next fails cause (Some None) h es comes way = cause h es comes way
  got_cause t failed next fails cause (Some (Some place)) h es comes way = resumes_cause t.input place (indexes_from 0 t.path (paths_at s t.input)) next cause h es comes way

  gets_cause : (ts : List Tracked) (failed next : History → Action RunResult) → StartCause failed → StartCause next → StartCause (gets s ts failed next)
  gets_cause [] failed next fails cause h es comes way = cause h es comes way
  gets_cause (t ∷ ts) failed next fails cause h [] comes way = absurd (cc way)
  gets_cause (t ∷ ts) failed next fails cause h (e ∷ es) comes way = later_cause e es comes (got_cause t failed (gets s ts failed next) fails (gets_cause ts failed next fails cause) way.0 h es comes way.2)

  -- ---- a run

  first_ends : (es : List TraceEntry) (comes : RunResult) → Execution (life s ends ticks 0) es (Return comes) → EndsForCause s 0 es comes
  unfolding life
  first_ends es comes way =
      let none : waits_in es ≡ 0 = none_yet s ends ticks es (Return comes) way in
      let parts = way_parts (recovers s) (after_recovery s ends ticks 0) es comes way in
      by none parts.0 parts.1 parts.2 parts.3 parts.4 parts.5
    where
      by : waits_in es ≡ 0 → (found : Option History) (own more : List TraceEntry) → es ≡ own ++ more → Execution (recovers s) own (Return found) → Execution (after_recovery s ends ticks 0 found) more (Return comes) → EndsForCause s 0 es comes
      by none None own more is loads follows =
          let stop = ended (lived [] DiskFailed) comes more follows in
          let all : es ≡ own = is ∙ (ap (λ (l : List TraceEntry). own ++ l) stop.0 ∙ append-nil own) in
          record {
            spent = λ _. none;
            loop = λ is. let no : DiskFailed ≡ LoopFailed = ap (λ (r : RunResult). r.end) stop.1 ∙ is in absurd (cc no);
            disk = λ is. subst (λ (l : List TraceEntry). Execution (recovers s) l (Return None)) (sym all) loads;
          }
      by none (Some h) own more is loads follows =
          let cause = gets_cause (tracked s) (λ now. Return (lived now KeeperFailed)) (starts s ends ticks 0) keeper_failed starts_cause h more comes follows in
          record {
            spent = λ _. none;
            loop = λ is_so. subst LoopFailedLast (sym is) (failed_behind own more (cause.0 is_so));
            disk = λ is_so. absurd (cause.1 is_so);
          }

  all_end : (turns : ℕ) (es : List TraceEntry) (comes : RunResult) → Execution (life s ends ticks turns) es (Return comes) → EndsForCause s turns es comes
  all_end zero es comes way = first_ends es comes way
  all_end (suc turns) es comes way =
      let one_more : suc turns ≡ turns + 1 = omega arith in
      let two = subst (λ (n : ℕ). Execution (life s ends ticks n) es (Return comes)) one_more way in
      let parts = way_parts (life s ends ticks turns) (continued (run s ticks 1)) es comes (subst (λ (p : Action RunResult). Execution p es (Return comes)) (life_on s ticks 1 ends turns) two) in
      by parts.0 parts.1 parts.2 (all_end turns parts.1 parts.0 parts.4) parts.3 parts.0.end refl parts.5
    where
      in_turn : (result : RunResult) (own more : List TraceEntry) → es ≡ own ++ more → EndsForCause s turns own result → result.end ≡ TurnsSpent → Execution (run s ticks 1 result.history) more (Return comes) → EndsForCause s (suc turns) es comes
      in_turn result own more is before spent second =
          let cause = turn_ends result.history more comes second in
          let one = (turn_waits_once s ticks result.history comes more second).0 in
          let earlier = before.spent spent in
          let sum = waits_append own more in
          record {
            spent = λ _. ap waits_in is ∙ omega (arith, sum, one, earlier);
            loop = λ is_so. subst LoopFailedLast (sym is) (failed_behind own more (cause.0 is_so));
            disk = λ is_so. absurd (cause.1 is_so);
          }

      -- it ended before
      before_that : (result : RunResult) (own more : List TraceEntry) → es ≡ own ++ more → EndsForCause s turns own result → (end : End) → result.end ≡ end → (end ≡ TurnsSpent → ⊥) → Execution (Return (lived result.history end)) more (Return comes)
          → EndsForCause s (suc turns) es comes
      before_that result own more is before end at not_spent second =
          let stop = ended (lived result.history end) comes more second in
          let all : es ≡ own = is ∙ (ap (λ (l : List TraceEntry). own ++ l) stop.0 ∙ append-nil own) in
          let same : comes.end ≡ end = sym (ap (λ (r : RunResult). r.end) stop.1) in
          record {
            spent = λ is_so. absurd (not_spent (sym same ∙ is_so));
            loop = λ is_so. subst LoopFailedLast (sym all) (before.loop (at ∙ (sym same ∙ is_so)));
            disk = λ is_so. subst (λ (l : List TraceEntry). Execution (recovers s) l (Return None)) (sym all) (before.disk (at ∙ (sym same ∙ is_so)));
          }

      by : (result : RunResult) (own more : List TraceEntry) → EndsForCause s turns own result → es ≡ own ++ more → (end : End) → result.end ≡ end → Execution (continued_by (run s ticks 1) result.history end) more (Return comes) → EndsForCause s (suc turns) es comes
      by result own more before is TurnsSpent at second = in_turn result own more is before at second
      by result own more before is Over at second = before_that result own more is before Over at (λ no. cc no) second
      by result own more before is DiskFailed at second = before_that result own more is before DiskFailed at (λ no. cc no) second
      by result own more before is KeeperFailed at second = before_that result own more is before KeeperFailed at (λ no. cc no) second
      by result own more before is LoopFailed at second = before_that result own more is before LoopFailed at (λ no. cc no) second

pub ends_for_cause : (s : AllSettings) (ends : Ends) (ticks : Option ℕ) (turns : ℕ) (es : List TraceEntry) (comes : RunResult) → Execution (life s ends ticks turns) es (Return comes) → EndsForCause s turns es comes
ends_for_cause s ends ticks turns es comes way = all_end s ends ticks turns es comes way
