-- A run waits only while it isn't due to end, and a failed get ends it.
use Rattle.std.proofs.Common.{◌≡◌, inl, ℕ, zero, suc, Bool, true, false, List, [], ◌∷◌, ◌++◌, Option, Some, None, refl, sym, ◌∙◌, ap, subst}
use Rattle.fwd_outside.specs.Program.{entry, Return, Ask, Execution}
use Rattle.fwd_outside.specs.Loop.{LoopCall, Start, Wait}
use Rattle.fwd_outside.specs.declared.ends.Ends.{Ends}
use Rattle.fwd_outside.specs.declared.happening.Happening.{Happening}
use Rattle.fwd_outside.specs.declared.happening.Happening.TheVariants as happening
use Rattle.fwd_keeper.specs.Keeper.{KeeperCall, KeeperAnswer, Get, Put}
use Rattle.fwd_settings.specs.declared.settings_types.AllSettings.{AllSettings}
use Rattle.fwd_model.specs.Fact.{Fact, History, Happened, Resumed, Saved, Found}
use Rattle.fwd_model.specs.Trace.{Call, Answer, Action, TraceEntry, OnLoop, OnKeeper, Note, history_after}
use Rattle.fwd_model.specs.Settings.{saturating_plus, paths_at}
use Rattle.fwd_model.specs.Clock.{clock}
use Rattle.fwd_model.specs.Limits.{paused}
use Rattle.fwd_model.specs.StepActions.{step}
use Rattle.fwd_model.specs.RecoveryActions.{recovers}
use Rattle.fwd_model.specs.KeptOffsets.{Tracked, tracked, indexes_from, resumes, got, gets, puts}
use Rattle.fwd_model.specs.Run.{RunResult, End, Over, DiskFailed, KeeperFailed, LoopFailed, TurnsSpent, lived, is_over, goes_on, steps_on, is_last_tick, unless_last, after_step, brought, run, after_start, starts, after_recovery, life}
use Rattle.fwd_theorem_trace.specs.Past.{Past, logged, past_after}
use Rattle.fwd_theorem_trace.specs.Allowed.{EventAllowed, IsLoading, IsStart, IsAllowed, Allowed}
use Rattle.fwd_theorem_trace.proofs.Traversal.{Traverses, Extends, walks_bind, walks_if, traverses_rest, holds_now, noted_since}
use Rattle.fwd_theorem_trace.proofs.Actions.{IsKept}
use Rattle.fwd_theorem_trace.proofs.Steps.{IsOuter, told_happens}
use Rattle.fwd_theorem_trace.proofs.OffsetCalls.{IsOffsetFact, StaysAside, all_tracked, puts_on}
use Rattle.fwd_theorem_trace.proofs.Run.{Loaded, last_due, due_onward, loads_root, loading_is_start}
use Rattle.fwd_theorem_trace.proofs.WaitCounts.{is_plain, ArePlain, step_plain, loading_plain}
use Rattle.fwd_theorem_limits.specs.RunEnd.{latest_event, IsDueToEnd}
use Rattle.fwd_theorem_limits.proofs.Stops.{due_where_over, over_where_due, not_due_at_first}

-- ---- traversals from executions

pub both_traverse : {R : Type 0} (P P2 : Past → Type 0) (Q Q2 : R → Past → Type 0) (past : Past) (p : Action R) → Traverses P Q past p → Traverses P2 Q2 past p
    → Traverses (λ (at : Past). P at × P2 at) (λ (x : R) (at : Past). Q x at × Q2 x at) past p
both_traverse P P2 Q Q2 past (Return x) one two = ((one.0, two.0), (one.1, two.1))
both_traverse P P2 Q Q2 past (Ask call go) one two = ((one.0, two.0), λ answer. both_traverse P P2 Q Q2 (entry call answer ∷ past) (go answer) (one.1 answer) (two.1 answer))

-- what holds after each execution holds at each point
pub executions_traverse : {R : Type 0} (P : Past → Type 0) (past : Past) (p : Action R) → ((es : List TraceEntry) (left : Action R) → Execution p es left → P (past_after past es))
    → Traverses P (λ (x : R) (at : Past). P at) past p
executions_traverse P past (Return x) each = (each [] (Return x) refl, each [] (Return x) refl)
executions_traverse P past (Ask call go) each = (
  each [] (Ask call go) refl,
  λ answer. executions_traverse P (entry call answer ∷ past) (go answer) (λ es left way. each (entry call answer ∷ es) left (answer, refl, way)),
)

-- ---- what holds at each point

-- whether a call is a get that failed
abbrev pub fails_get : (call : Call) → Answer call → Bool
fails_get (OnKeeper (Get db path)) None = true
fails_get call answer = false

-- whether the last call is
abbrev pub last_fails : Past → Bool
last_fails [] = false
last_fails (e ∷ past) = fails_get e.call e.answer

module _ (s : AllSettings) where
  -- at a wait the run isn't due to end
  abbrev WaitFits : Call → Past → Type 0
  WaitFits (OnLoop (Wait until mask)) past = IsDueToEnd s (logged past) → ⊥
  WaitFits call past = Unit {0}

  -- the same at each wait, and nothing follows a failed get
  abbrev Fits : Past → Type 0
  Fits [] = Unit {0}
  Fits (e ∷ past) = WaitFits e.call past × (last_fails past ≡ false) × Fits past

  -- no get failed
  abbrev Goes : Past → Type 0
  Goes past = Fits past × (last_fails past ≡ false)

  plain_fits : (call : Call) (answer : Answer call) (past : Past) → is_plain call ≡ true → Goes past → Goes (entry call answer ∷ past)
  plain_fits (OnLoop (Wait until mask)) answer past plain so = absurd (cc plain)
  plain_fits (OnKeeper call) answer past plain so = absurd (cc plain)
  plain_fits call answer past plain so = ((tt, so.1, so.0), refl)

  all_fit : (es : List TraceEntry) (past : Past) → ArePlain es → Goes past → Goes (past_after past es)
  all_fit [] past plain so = so
  all_fit (e ∷ es) past plain so = all_fit es (e ∷ past) plain.1 (plain_fits e.call e.answer past plain.0 so)

  -- ---- a run

  abbrev P : Past → Type 0
  P past = Allowed s past × Goes past

  -- at the end: over only if due, no turn left only if not, and a failed get has its own end
  pub record Ended (end : RunResult) (now : Past) : Type 0 where
    pub history : end.history ≡ logged now
    pub over : end.end ≡ Over → IsDueToEnd s (logged now)
    pub spent : end.end ≡ TurnsSpent → IsDueToEnd s (logged now) → ⊥
    pub fails : last_fails now ≡ true → end.end ≡ KeeperFailed
    pub failed : end.end ≡ KeeperFailed → last_fails now ≡ true

  abbrev Points : Past → Type 0
  Points past = Allowed s past × Fits past

  abbrev Lives : Past → Action RunResult → Type 0
  Lives past p = Traverses Points Ended past p

  points : (past : Past) → P past → Points past
  points past ready = (ready.0, ready.1.0)

  -- where a turn may begin
  abbrev Next : (History → Action RunResult) → Type 0
  Next next = (now : Past) → P now → (IsDueToEnd s (logged now) → ⊥) → Lives now (next (logged now))

  -- this is the last event
  abbrev IsLatest : Happening → Past → Type 0
  IsLatest x past = latest_event (logged past) ≡ Some x

  latest_call : (x : Happening) → IsKept s IsOuter (IsLatest x)
  latest_call x (Note fact) answer past is due at = by fact is
    where
      by : (f : Fact) → IsOuter (Note f) → latest_event (f ∷ logged past) ≡ Some x
      by (Happened y) is = absurd is
      by f is = at
  latest_call x call answer past is due at = at

  step_latest : (x : Happening) (past : Past) → EventAllowed s x past → Allowed s past → Traverses (Allowed s) (λ (h : History) (now : Past). (h ≡ logged now) × IsLatest x now) past (step s x (logged past))
  unfolding step
  step_latest x past due ready = (ready, λ answer. told_happens s (IsLatest x) (latest_call x) (logged past) x (entry (Note (Happened x)) answer ∷ past) ((due, ready), refl))

  step_fits : (x : Happening) (past : Past) → EventAllowed s x past → P past
      → Traverses Points (λ (h : History) (now : Past). (h ≡ logged now) × (P now × IsLatest x now)) past (step s x (logged past))
  step_fits x past due ready = changed (both_traverse (Allowed s) Goes (λ (h : History) (now : Past). (h ≡ logged now) × IsLatest x now) (λ (h : History) (now : Past). Goes now) past (step s x (logged past)) (step_latest x past due ready.0) second)
    where
      second : Traverses Goes (λ (h : History) (now : Past). Goes now) past (step s x (logged past))
      second = executions_traverse Goes past (step s x (logged past)) (λ es left way. all_fit es past (step_plain s x (logged past) es left way) ready.1)

      weaker : (p : Action History) (at : Past) → Traverses (λ (now : Past). Allowed s now × Goes now) (λ (h : History) (now : Past). ((h ≡ logged now) × IsLatest x now) × Goes now) at p
          → Traverses Points (λ (h : History) (now : Past). (h ≡ logged now) × (P now × IsLatest x now)) at p
      weaker (Return h) at walks = (points at walks.0, (walks.1.0.0, (walks.0, walks.1.0.1)))
      weaker (Ask call go) at walks = (points at walks.0, λ answer. weaker (go answer) (entry call answer ∷ at) (walks.1 answer))

      changed : Traverses (λ (now : Past). Allowed s now × Goes now) (λ (h : History) (now : Past). ((h ≡ logged now) × IsLatest x now) × Goes now) past (step s x (logged past))
          → Traverses Points (λ (h : History) (now : Past). (h ≡ logged now) × (P now × IsLatest x now)) past (step s x (logged past))
      changed walks = weaker (step s x (logged past)) past walks

  -- an end that no get and no event decides
  ends_by : (end : End) (now : Past) → P now → (end ≡ Over → ⊥) → (end ≡ TurnsSpent → ⊥) → (end ≡ KeeperFailed → ⊥) → Lives now (Return (lived (logged now) end))
  ends_by end now ready not_over not_spent not_kept = (
    points now ready,
    record {
      history = refl;
      over = λ is. absurd (not_over is);
      spent = λ is. absurd (not_spent is);
      fails = λ fails. absurd (cc (sym ready.1.1 ∙ fails));
      failed = λ is. absurd (not_kept is);
    },
  )

  over_now : (now : Past) → P now → IsDueToEnd s (logged now) → Lives now (Return (lived (logged now) Over))
  over_now now ready due = (
    points now ready,
    record {
      history = refl;
      over = λ is. due;
      spent = λ is. absurd (cc is);
      fails = λ fails. absurd (cc (sym ready.1.1 ∙ fails));
      failed = λ is. absurd (cc is);
    },
  )

  goes_fit : (next : History → Action RunResult) (x : Happening) (now : Past) → P now → IsLatest x now → Next next → Lives now (goes_on s next x (logged now))
  goes_fit next x now ready last more =
      walks_if Points Ended (is_over s x (logged now)) now (Return (lived (logged now) Over)) (next (logged now))
      (λ over. over_now now ready (due_where_over s x (logged now) last over))
      (λ on. more now ready (λ due. absurd (cc (sym on ∙ over_where_due s x (logged now) last due))))

  step_goes : (next : History → Action RunResult) (past : Past) (x : Happening) → EventAllowed s x past → P past → Next next → Lives past (steps_on s next x (logged past))
  step_goes next past x due ready more =
      walks_bind Points (λ (h : History) (now : Past). (h ≡ logged now) × (P now × IsLatest x now)) Ended past (step s x (logged past)) (goes_on s next x) (step_fits x past due ready)
      (λ h now grown then is. subst (λ (y : History). Lives now (goes_on s next x y)) (sym is.0) (goes_fit next x now is.1.0 is.1.1 more))

  unless_goes : (ticks : Option ℕ) (next : History → Action RunResult) (x : Happening) → Next next → Next (unless_last s ticks next x)
  unless_goes None next x more past ready not_due = more past ready not_due
  unless_goes (Some n) next x more past ready not_due =
      walks_if Points Ended (is_last_tick s (Some n) x (logged past)) past (steps_on s next happening.Stop (logged past)) (next (logged past))
      (λ last. step_goes next past happening.Stop (last_due s n x past last) ready more) (λ off_it. more past ready not_due)

  -- puts of offsets
  aside_call : (x : Happening) (call : KeeperCall) (answer : KeeperAnswer call) (past : Past) → IsAllowed s (OnKeeper call) past → Points past × (Goes past × IsLatest x past)
      → Points (entry (OnKeeper call) answer ∷ past) × (Goes (entry (OnKeeper call) answer ∷ past) × IsLatest x (entry (OnKeeper call) answer ∷ past))
  aside_call x (Put db path place) answer past due so = (((due, so.0.0), (tt, so.1.0.1, so.0.1)), (((tt, so.1.0.1, so.0.1), refl), so.1.1))
  aside_call x (Get db path) answer past due so = absurd (not_start (logged past) due so.1.1)
    where
      not_loading : (h : History) → IsLoading h → latest_event h ≡ Some x → ⊥
      not_loading [] start is = absurd (cc is)
      not_loading (Found number stream name bytes ∷ h) start is = not_loading h start.1 is
      not_loading (fact ∷ h) start is = absurd start

      not_start : (h : History) → IsStart h → latest_event h ≡ Some x → ⊥
      not_start (Resumed input index place ∷ h) start is = not_start h start is
      not_start (Found number stream name bytes ∷ h) start is = not_loading (Found number stream name bytes ∷ h) start is
      not_start [] start is = absurd (cc is)
      not_start (fact ∷ h) start is = absurd start
  aside_call x call answer past due so = absurd due

  aside_fact : (x : Happening) (fact : Fact) (answer : Unit {0}) (past : Past) → IsOffsetFact fact → IsAllowed s (Note fact) past → Points past × (Goes past × IsLatest x past)
      → Points (entry (Note fact) answer ∷ past) × (Goes (entry (Note fact) answer ∷ past) × IsLatest x (entry (Note fact) answer ∷ past))
  aside_fact x (Resumed input index place) answer past is due so = (((due, so.0.0), (tt, so.1.0.1, so.0.1)), (((tt, so.1.0.1, so.0.1), refl), so.1.1))
  aside_fact x (Saved input index place) answer past is due so = (((due, so.0.0), (tt, so.1.0.1, so.0.1)), (((tt, so.1.0.1, so.0.1), refl), so.1.1))
  aside_fact x fact answer past is due so = absurd is

  aside : (x : Happening) → StaysAside s (λ past. Points past × (Goes past × IsLatest x past))
  aside x = record { call = aside_call x; fact = aside_fact x }

  brought_goes : (ticks : Option ℕ) (next : History → Action RunResult) (past : Past) (x : Happening) → EventAllowed s x past → P past → Next next → Lives past (brought s ticks next (logged past) x)
  brought_goes ticks next past happening.Failed due ready more = ends_by LoopFailed past ready (λ is. cc is) (λ is. cc is) (λ is. cc is)
  brought_goes ticks next past x due ready more =
      let then : History → Action RunResult = goes_on s (unless_last s ticks next x) x in
      walks_bind Points (λ (h : History) (now : Past). (h ≡ logged now) × (P now × IsLatest x now)) Ended past (step s x (logged past)) (after_step s ticks next x) (step_fits x past due ready)
      (λ h now grown then_now is.
      subst (λ (y : History). Lives now (puts s (tracked s) then y)) (sym is.0)
      (puts_on s Points (λ (at : Past). Goes at × IsLatest x at) (aside x) Ended (tracked s) then (all_tracked s)
      (λ later both. goes_fit (unless_last s ticks next x) x later (both.0.0, both.1.0) both.1.1 (unless_goes ticks next x more)) now (points now is.1.0, (is.1.0.1, is.1.1))))

  run_goes : (ticks : Option ℕ) (turns : ℕ) → Next (run s ticks turns)
  unfolding run
  run_goes ticks zero past ready not_due = (
    points past ready,
    record {
      history = refl;
      over = λ is. absurd (cc is);
      spent = λ is due. not_due due;
      fails = λ fails. absurd (cc (sym ready.1.1 ∙ fails));
      failed = λ is. absurd (cc is);
    },
  )
  run_goes ticks (suc turns) past ready not_due = (
    points past ready,
    λ x.
        let wait : LoopCall = Wait (saturating_plus (clock (logged past)) 250) (paused s (logged past)) in
        brought_goes ticks (run s ticks turns) (entry (OnLoop wait) x ∷ past) x (inl refl) (((refl, refl), ready.0), ((not_due, ready.1.1, ready.1.0), refl)) (run_goes ticks turns),
  )

  -- ---- the start of a run

  abbrev Begins : (History → Action RunResult) → Type 0
  Begins next = (now : Past) → IsStart (logged now) → P now → Lives now (next (logged now))

  no_event_loaded : (h : History) → IsLoading h → latest_event h ≡ None
  no_event_loaded [] start = refl
  no_event_loaded (Found number stream name bytes ∷ h) start = no_event_loaded h start.1
  no_event_loaded (fact ∷ h) start = absurd start

  no_event : (h : History) → IsStart h → latest_event h ≡ None
  no_event (Resumed input index place ∷ h) start = no_event h start
  no_event (Found number stream name bytes ∷ h) start = no_event_loaded (Found number stream name bytes ∷ h) start
  no_event [] start = refl
  no_event (fact ∷ h) start = absurd start

  started_fit : (ends : Ends) (ticks : Option ℕ) (turns : ℕ) (past : Past) (answer : Option (Unit {0})) → IsStart (logged past) → P (entry (OnLoop (Start ends)) answer ∷ past)
      → Lives (entry (OnLoop (Start ends)) answer ∷ past) (after_start s ticks turns (logged past) answer)
  started_fit ends ticks turns past None start ready = ends_by LoopFailed (entry (OnLoop (Start ends)) None ∷ past) ready (λ is. cc is) (λ is. cc is) (λ is. cc is)
  started_fit ends ticks turns past (Some ok) start ready = run_goes ticks turns (entry (OnLoop (Start ends)) (Some ok) ∷ past) ready (not_due_at_first s (logged past) (no_event (logged past) start))

  starts_fit : (ends : Ends) (ticks : Option ℕ) (turns : ℕ) → Begins (starts s ends ticks turns)
  starts_fit ends ticks turns past start ready = (points past ready, λ answer. started_fit ends ticks turns past answer start ((tt, ready.0), ((tt, ready.1.1, ready.1.0), refl)))

  resumes_fit : (input place : ℕ) (indexes : List ℕ) (next : History → Action RunResult) → Begins next → Begins (resumes input place indexes next)
  resumes_fit input place [] next more past start ready = more past start ready
  resumes_fit input place (index ∷ indexes) next more past start ready =
      (points past ready, λ answer. resumes_fit input place indexes next more (entry (Note (Resumed input index place)) answer ∷ past) start ((start, ready.0), ((tt, ready.1.1, ready.1.0), refl)))

  abbrev get_failed : History → Action RunResult
  get_failed now = Return (lived now KeeperFailed)

  got_fit : (k : Tracked) (next : History → Action RunResult) (past : Past) (answer : Option (Option ℕ)) → Begins next → IsStart (logged past) → Points (entry (OnKeeper (Get k.db k.path)) answer ∷ past)
      → Lives (entry (OnKeeper (Get k.db k.path)) answer ∷ past) (got s k get_failed next (logged past) answer)
  got_fit k next past None more start so = (so, record { history = refl; over = λ is. absurd (cc is); spent = λ is. absurd (cc is); fails = λ fails. refl; failed = λ is. refl })
  got_fit k next past (Some None) more start so = more (entry (OnKeeper (Get k.db k.path)) (Some None) ∷ past) start (so.0, (so.1, refl))
  got_fit k next past (Some (Some place)) more start so =
      resumes_fit k.input place (indexes_from 0 k.path (paths_at s k.input)) next more (entry (OnKeeper (Get k.db k.path)) (Some (Some place)) ∷ past) start (so.0, (so.1, refl))

  gets_fit : (ks : List Tracked) (next : History → Action RunResult) → Begins next → Begins (gets s ks get_failed next)
  gets_fit [] next more past start ready = more past start ready
  gets_fit (k ∷ ks) next more past start ready =
      (points past ready, λ answer. got_fit k (gets s ks get_failed next) past answer (gets_fit ks next more) start ((start, ready.0), (tt, ready.1.1, ready.1.0)))

  loads_allowed : Traverses (Allowed s) Loaded [] (recovers s)
  unfolding recovers
  loads_allowed = loads_root s (Allowed s) (due_onward s) tt s.service.path

  loads_fit : Traverses Points (λ (h : Option History) (now : Past). Loaded h now × P now) [] (recovers s)
  loads_fit = weaker (recovers s) [] (both_traverse (Allowed s) Goes Loaded (λ (h : Option History) (now : Past). Goes now) [] (recovers s) loads_allowed second)
    where
      second : Traverses Goes (λ (h : Option History) (now : Past). Goes now) [] (recovers s)
      second = executions_traverse Goes [] (recovers s) (λ es left way. all_fit es [] (loading_plain s es left way) (tt, refl))

      weaker : (p : Action (Option History)) (at : Past) → Traverses (λ (now : Past). Allowed s now × Goes now) (λ (h : Option History) (now : Past). Loaded h now × Goes now) at p
          → Traverses Points (λ (h : Option History) (now : Past). Loaded h now × P now) at p
      weaker (Return h) at walks = (points at walks.0, (walks.1.0, walks.0))
      weaker (Ask call go) at walks = (points at walks.0, λ answer. weaker (go answer) (entry call answer ∷ at) (walks.1 answer))

  life_fits : (ends : Ends) (ticks : Option ℕ) (turns : ℕ) → Lives [] (life s ends ticks turns)
  unfolding life
  life_fits ends ticks turns = walks_bind Points (λ (h : Option History) (now : Past). Loaded h now × P now) Ended [] (recovers s) (after_recovery s ends ticks turns) loads_fit by
    where
      by : (h : Option History) (now : Past) → Extends [] now → Points now → Loaded h now × P now → Lives now (after_recovery s ends ticks turns h)
      by None now grown due is = subst (λ (y : History). Lives now (Return (lived y DiskFailed))) is.0 (ends_by DiskFailed now is.1 (λ is. cc is) (λ is. cc is) (λ is. cc is))
      by (Some h) now grown due is =
          subst (λ (y : History). Lives now (after_recovery s ends ticks turns (Some y))) (sym is.0.0)
          (gets_fit (tracked s) (starts s ends ticks turns) (starts_fit ends ticks turns) now (loading_is_start (logged now) is.0.1) is.1)

  -- ---- at a point of a run

  fits_before : (es : List TraceEntry) (past : Past) → Fits (past_after past es) → Fits past
  fits_before [] past fits = fits
  fits_before (e ∷ es) past fits = (fits_before es (e ∷ past) fits).2

  since_both : (past : Past) (one two : List TraceEntry) → past_after past (one ++ two) ≡ past_after (past_after past one) two
  since_both past [] two = refl
  since_both past (e ∷ one) two = since_both (e ∷ past) one two

  fits_in_life : (ends : Ends) (ticks : Option ℕ) (turns : ℕ) (before : List TraceEntry) (after : List TraceEntry) (left : Action RunResult) → Execution (life s ends ticks turns) (before ++ after) left
      → Fits (past_after (past_after [] before) after)
  fits_in_life ends ticks turns before after left way =
      subst Fits (since_both [] before after)
      (holds_now Points Ended (past_after [] (before ++ after)) left (traverses_rest Points Ended [] (life s ends ticks turns) (life_fits ends ticks turns) (before ++ after) left way)).1

  pub waits_while_not_due : (ends : Ends) (ticks : Option ℕ) (turns : ℕ) (before after : List TraceEntry) (left : Action RunResult) (until mask : ℕ) (x : Happening)
      → Execution (life s ends ticks turns) (before ++ entry (OnLoop (Wait until mask)) x ∷ after) left → IsDueToEnd s (history_after before []) → ⊥
  waits_while_not_due ends ticks turns before after left until mask x way due =
      let fits = fits_before after (entry (OnLoop (Wait until mask)) x ∷ past_after [] before) (fits_in_life ends ticks turns before (entry (OnLoop (Wait until mask)) x ∷ after) left way) in
      fits.0 (subst (IsDueToEnd s) (sym (noted_since [] before)) due)

  pub last_get : (ends : Ends) (ticks : Option ℕ) (turns : ℕ) (before after : List TraceEntry) (left : Action RunResult) (db path : List ℕ)
      → Execution (life s ends ticks turns) (before ++ entry (OnKeeper (Get db path)) None ∷ after) left → after ≡ []
  last_get ends ticks turns before [] left db path way = refl
  last_get ends ticks turns before (e ∷ after) left db path way =
      let failed : TraceEntry = entry (OnKeeper (Get db path)) None in
      let fits = fits_before after (e ∷ failed ∷ past_after [] before) (fits_in_life ends ticks turns before (failed ∷ e ∷ after) left way) in
      absurd (cc fits.1)

  -- ---- at the end

  pub ended_life : (ends : Ends) (ticks : Option ℕ) (turns : ℕ) (es : List TraceEntry) (end : RunResult) → Execution (life s ends ticks turns) es (Return end) → Ended end (past_after [] es)
  ended_life ends ticks turns es end way = (traverses_rest Points Ended [] (life s ends ticks turns) (life_fits ends ticks turns) es (Return end) way).1

  pub over_if_due : (ends : Ends) (ticks : Option ℕ) (turns : ℕ) (es : List TraceEntry) (end : RunResult) → Execution (life s ends ticks turns) es (Return end) → end.end ≡ Over → IsDueToEnd s end.history
  over_if_due ends ticks turns es end way over = let at = ended_life ends ticks turns es end way in subst (IsDueToEnd s) (sym at.history) (at.over over)

  pub spent_if_not_due : (ends : Ends) (ticks : Option ℕ) (turns : ℕ) (es : List TraceEntry) (end : RunResult) → Execution (life s ends ticks turns) es (Return end) → end.end ≡ TurnsSpent → IsDueToEnd s end.history → ⊥
  spent_if_not_due ends ticks turns es end way spent due = let at = ended_life ends ticks turns es end way in at.spent spent (subst (IsDueToEnd s) at.history due)

  pub ended_by_get : (ends : Ends) (ticks : Option ℕ) (turns : ℕ) (before : List TraceEntry) (end : RunResult) (db path : List ℕ)
      → Execution (life s ends ticks turns) (before ++ entry (OnKeeper (Get db path)) None ∷ []) (Return end) → end.end ≡ KeeperFailed
  ended_by_get ends ticks turns before end db path way =
      let failed : TraceEntry = entry (OnKeeper (Get db path)) None in
      let at = ended_life ends ticks turns (before ++ failed ∷ []) end way in
      at.fails (ap last_fails (since_both [] before (failed ∷ [])))

  -- the last entry of an execution
  last_of : (e : TraceEntry) (es : List TraceEntry) → (before : List TraceEntry) × (last : TraceEntry) × (e ∷ es ≡ before ++ last ∷ []) × ((past : Past) → past_after past (e ∷ es) ≡ last ∷ past_after past before)
  last_of e [] = ([], e, refl, λ past. refl)
  last_of e (d ∷ es) = let found = last_of d es in (e ∷ found.0, found.1, ap (λ (x : List TraceEntry). e ∷ x) found.2, λ past. found.3 (e ∷ past))

  abbrev made : (call : Call) → Answer call → TraceEntry
  made call answer = entry call answer

  failed_get : (call : Call) (answer : Answer call) → fails_get call answer ≡ true → (db : List ℕ) × (path : List ℕ) × (made call answer ≡ made (OnKeeper (Get db path)) None)
  failed_get (OnKeeper (Get db path)) None is = (db, path, refl)
  failed_get call answer is = absurd (cc is)

  pub get_had_failed : (ends : Ends) (ticks : Option ℕ) (turns : ℕ) (es : List TraceEntry) (end : RunResult) → Execution (life s ends ticks turns) es (Return end) → end.end ≡ KeeperFailed
      → (before : List TraceEntry) × (db : List ℕ) × (path : List ℕ) × (es ≡ before ++ entry (OnKeeper (Get db path)) None ∷ [])
  get_had_failed ends ticks turns es end way ended = by es ((ended_life ends ticks turns es end way).failed ended)
    where
      by : (es : List TraceEntry) → last_fails (past_after [] es) ≡ true → (before : List TraceEntry) × (db : List ℕ) × (path : List ℕ) × (es ≡ before ++ entry (OnKeeper (Get db path)) None ∷ [])
      by [] is = absurd (cc is)
      by (e ∷ es) is =
          let found = last_of e es in
          let failed = failed_get found.1.call found.1.answer (sym (ap last_fails (found.3 [])) ∙ is) in
          (found.0, failed.0, failed.1, found.2 ∙ ap (λ (x : TraceEntry). found.0 ++ x ∷ []) failed.2)
