-- A live run over devices.
use Rattle.std.proofs.Common.{◌≡◌, ℕ, ◌≤◌, List, [], Option, Some, None, Result, Ok, Err, IfOk, refl, subst, arith}
use Rattle.fwd_outside.specs.Program.{Return}
use Rattle.fwd_outside.specs.Cause.{HasCause}
use Rattle.fwd_outside.specs.Loop.{LoopCounts}
use Rattle.fwd_outside.specs.declared.ends.Ends.{Ends}
use Rattle.fwd_base.specs.declared.memory.Memory.{Memory}
use Rattle.fwd_settings.specs.Endpoints.{ends_of}
use Rattle.fwd_settings.specs.declared.settings_types.AllSettings.{AllSettings}
use Rattle.fwd_model.specs.Fact.{History}
use Rattle.fwd_model.specs.Trace.{Action}
use Rattle.fwd_model.specs.CallLogs.{CallLogs, Completes, IsBegun, Leads}
use Rattle.fwd_model.specs.RecoveryActions.{recovers}
use Rattle.fwd_model.specs.Run.{RunResult, DiskFailed, lived, after_recovery, life}
use Rattle.fwd_model.proofs.Actions.{stays, goes_on, leads_inside, begun_bind, begun_trans}
use Rattle.fwd_engine_state.specs.LoopCounters.{EventsTaken}
use Rattle.fwd_theorem_trace.specs.Allowed.{IsLoading}
use Rattle.fwd_engine_run.specs.EngineSteps.{IsAt}
use Rattle.fwd_engine_run.specs.Engine.{Engine}
use Rattle.fwd_engine_run.specs.OffsetRows.{Keeps}
use Rattle.fwd_engine_run.specs.RunOutcome.{RanToEnd, IsAtEnd, end_of}
use Rattle.fwd_engine_run.specs.RunOutcome as runs
use Rattle.fwd_engine_run.specs.declared.run_loop.RunEnd.{RunEnd}
use Rattle.fwd_engine_run.specs.declared.run_loop.RunEnd.TheVariants as run_end
use Rattle.fwd_engine_run.proofs.EventCounts.{events_all}
use Rattle.fwd_replay.specs.LiveRun.{IsToRun, HasRun, RunProduces, ActionProduces, heard_in, ending_of}
use Rattle.fwd_replay.specs.Names.{IsNamed, IsNamedUnlessFailed}
use Rattle.fwd_replay.specs.Text.{report, reported_by}
use Rattle.fwd_replay.specs.declared.names.Named.{Named}
use Rattle.fwd_replay.specs.declared.setup.Setup.{Setup}
use Rattle.fwd_replay.specs.declared.report.Reported.{Reported}
use Rattle.fwd_replay.specs.declared.report.Ending.TheVariants as ending

-- an engine in the state in which its run ended, with settings of these names
pub named_unless : (named : Named) (engine : Engine) (s : AllSettings) (h : History) (end : RunEnd) → IsNamed named s → IsAtEnd engine s h end → IsNamedUnlessFailed named engine end
named_unless named engine s h run_end.KeeperFailed is at = tt
named_unless named engine s h run_end.LoopFailed is at = tt
named_unless named engine s h run_end.Over is at = record { settings = s; history = h; at = at; is = is }
named_unless named engine s h run_end.TurnsSpent is at = record { settings = s; history = h; at = at; is = is }

pub to_run : (setup : Setup) (engine : Engine) (s : AllSettings) (h : History) → IsNamed setup.named s → IsAt engine s h → IsLoading h → Keeps s setup.offsets [] → IsToRun setup engine
to_run setup engine s h is at loading keeps = record { settings = s; history = h; at = at; loading = loading; keeps = keeps; is = is }

module _ (s : AllSettings) (ticks : Option ℕ) (turns : ℕ) where
  abbrev whole_life : Action RunResult
  whole_life = life s (ends_of s) ticks turns

  -- memory ran out before a call
  pub begins_first : (w : CallLogs) → IsBegun w w whole_life
  begins_first w = (whole_life, stays w whole_life)

  -- and while the disk was loaded
  pub begins_load : (a b : CallLogs) → IsBegun a b (recovers s) → IsBegun a b whole_life
  unfolding life
  begins_load a b began = begun_bind (after_recovery s (ends_of s) ticks turns) began

  loaded : (a b : CallLogs) (found : Option History) → Completes a b (recovers s) found → Leads a b (life s (ends_of s) ticks turns) (after_recovery s (ends_of s) ticks turns found)
  unfolding life
  loaded a b found did = leads_inside (after_recovery s (ends_of s) ticks turns) did

  -- a call on the disk failed
  pub disk_failed : (a b : CallLogs) (reported : Reported) → Completes a b (recovers s) None → reported ≡ record { text = []; ending = ending.DiskFailed } → HasRun s whole_life a b reported
  disk_failed a b reported did is = record { lived = lived [] DiskFailed; did = loaded a b None did; reports = is }

  -- memory ran out while it ran
  begins_run : (a b c : CallLogs) (ends : Ends) (h : History) → ends ≡ ends_of s → Completes a b (recovers s) (Some h) → IsBegun b c (after_recovery s ends ticks turns (Some h)) → IsBegun a c whole_life
  begins_run a b c ends h are did began = begun_trans (loaded a b (Some h) did) (subst (λ (x : Ends). IsBegun b c (after_recovery s x ticks turns (Some h))) are began)

  whole_run : (a b c : CallLogs) (ends : Ends) (h : History) (lived : RunResult) → ends ≡ ends_of s → Completes a b (recovers s) (Some h) → Completes b c (after_recovery s ends ticks turns (Some h)) lived → Completes a c (life s (ends_of s) ticks turns) lived
  whole_run a b c ends h lived are did ran = goes_on (loaded a b (Some h) did) (subst (λ (x : Ends). Completes b c (after_recovery s x ticks turns (Some h)) lived) are ran)

  -- its run, to its end or to where memory ran out
  pub ran_on : {E : Type 0} (a b c : CallLogs) (ends : Ends) (h : History) → ends ≡ ends_of s → Completes a b (recovers s) (Some h) → (r : Result Reported E) → ActionProduces s (after_recovery s ends ticks turns (Some h)) b c r → RunProduces s ticks turns a c r
  ran_on a b c ends h are did (Ok x) has = record { lived = has.lived; did = whole_run a b c ends h has.lived are did has.did; reports = has.reports }
  ran_on a b c ends h are did (Err e) began = begins_run a b c ends h are did began

-- the call log of a run
pub run_told : {E : Type 0} (s : AllSettings) (run : Action RunResult) (a b : CallLogs) (engine : Engine) (end : RunEnd) (ran : RanToEnd a b s run engine end) (r : Result Reported E)
    → IfOk r (λ x. x ≡ reported_by (report s ran.history) (end_of end)) → ActionProduces s run a b r
run_told s run a b engine end ran (Ok x) is = record { lived = lived ran.history (end_of end); did = ran.did; reports = is }
run_told s run a b engine end ran (Err e) is = (Return (lived ran.history (end_of end)), ran.did)

-- the result of a run
abbrev pub whole : RunEnd → Result RunEnd Memory
whole end = Ok end

pub heard_live : {E : Type 0} (a b : LoopCounts) (most : ℕ) (end : RunEnd) (text : List ℕ) (r : Result Reported E) → IfOk r (λ x. x ≡ reported_by text (end_of end)) → EventsTaken (runs.heard_in most (whole end)) a b
    → EventsTaken (heard_in most (ending_of r)) a b
heard_live a b most run_end.Over text (Ok x) is heard = rw is heard
heard_live a b most run_end.KeeperFailed text (Ok x) is heard = rw is heard
heard_live a b most run_end.LoopFailed text (Ok x) is heard = rw is heard
heard_live a b most run_end.TurnsSpent text (Ok x) is heard = rw is heard
heard_live a b most end text (Err e) is heard = events_all (runs.heard_in most (whole end)) 0 (omega arith) heard

-- a run ends because the keeper failed only if one of its failures was counted
pub keeper_cause_live : {E : Type 0} (before now : ℕ) (end : RunEnd) (text : List ℕ) (r : Result Reported E) → IfOk r (λ x. x ≡ reported_by text (end_of end)) → HasCause before now (whole end ≡ whole run_end.KeeperFailed)
    → HasCause before now (ending_of r ≡ ending.KeeperFailed)
keeper_cause_live before now run_end.Over text (Ok x) is cause = record { later = cause.later; cause = λ failed. let no : ending.Over ≡ ending.KeeperFailed = rw is at failed in absurd (cc no) }
keeper_cause_live before now run_end.KeeperFailed text (Ok x) is cause = record { later = cause.later; cause = λ failed. cause.cause refl }
keeper_cause_live before now run_end.LoopFailed text (Ok x) is cause = record { later = cause.later; cause = λ failed. let no : ending.LoopFailed ≡ ending.KeeperFailed = rw is at failed in absurd (cc no) }
keeper_cause_live before now run_end.TurnsSpent text (Ok x) is cause = record { later = cause.later; cause = λ failed. let no : ending.TurnsSpent ≡ ending.KeeperFailed = rw is at failed in absurd (cc no) }
keeper_cause_live before now end text (Err e) is cause = record { later = cause.later; cause = λ failed. absurd (cc failed) }

-- and never because the disk failed
pub disk_cause_live : {E : Type 0} (before now : ℕ) (end : RunEnd) (text : List ℕ) (r : Result Reported E) → IfOk r (λ x. x ≡ reported_by text (end_of end)) → before ≤ now → HasCause before now (ending_of r ≡ ending.DiskFailed)
disk_cause_live before now run_end.Over text (Ok x) is later = record { later = later; cause = λ failed. let no : ending.Over ≡ ending.DiskFailed = rw is at failed in absurd (cc no) }
disk_cause_live before now run_end.KeeperFailed text (Ok x) is later = record { later = later; cause = λ failed. let no : ending.KeeperFailed ≡ ending.DiskFailed = rw is at failed in absurd (cc no) }
disk_cause_live before now run_end.LoopFailed text (Ok x) is later = record { later = later; cause = λ failed. let no : ending.LoopFailed ≡ ending.DiskFailed = rw is at failed in absurd (cc no) }
disk_cause_live before now run_end.TurnsSpent text (Ok x) is later = record { later = later; cause = λ failed. let no : ending.TurnsSpent ≡ ending.DiskFailed = rw is at failed in absurd (cc no) }
disk_cause_live before now end text (Err e) is later = record { later = later; cause = λ failed. absurd (cc failed) }

-- with an earlier count, if counts don't fall
pub caused_later : {P : Type 0} (a b c : ℕ) → a ≤ b → HasCause b c P → HasCause a c P
caused_later a b c before cause = record {
  later = let after = cause.later in omega (arith, before, after);
  cause = λ failed. let rose = cause.cause failed in omega (arith, before, rose);
}
