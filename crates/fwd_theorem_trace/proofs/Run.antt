-- A run, from its loading to its end.
use Rattle.std.proofs.Common.{◌≡◌, inl, inr, ℕ, zero, suc, ◌+◌, true, List, [], ◌∷◌, length, Option, Some, None, refl, sym, ◌∙◌, ap, subst, arith}
use Rattle.std.specs.Prelude.{◌==◌, is_none}
use Rattle.std.proofs.lemmas.Bool.{and_parts}
use Rattle.fwd_outside.specs.Program.{entry, Return, Ask, bind, Execution}
use Rattle.fwd_outside.specs.Loop.{LoopCall, Start, Wait}
use Rattle.fwd_outside.specs.Disk.{DiskProgram}
use Rattle.fwd_outside.specs.declared.ends.Ends.{Ends}
use Rattle.fwd_outside.specs.declared.happening.Happening.{Happening}
use Rattle.fwd_outside.specs.declared.happening.Happening.TheVariants as happening
use Rattle.fwd_backlog.specs.declared.file_read.FileRead.{FileRead}
use Rattle.fwd_backlog.specs.LoadProgram.{load_program}
use Rattle.fwd_settings.specs.declared.settings_types.AllSettings.{AllSettings}
use Rattle.fwd_model.specs.Fact.{Fact, History, Happened, Found}
use Rattle.fwd_model.specs.Trace.{Call, Answer, Action, TraceEntry, OnLoop, OnDisk, OnKeeper, Note, history_after}
use Rattle.fwd_model.specs.DeviceActions.{on_disk}
use Rattle.fwd_model.specs.Settings.{saturating_plus}
use Rattle.fwd_model.specs.Clock.{clock, stopped, tick_count}
use Rattle.fwd_model.specs.Limits.{paused}
use Rattle.fwd_model.specs.StepActions.{step}
use Rattle.fwd_model.specs.RecoveryActions.{notes_files, loaded, loads_from, recovers}
use Rattle.fwd_model.specs.KeptOffsets.{tracked, puts}
use Rattle.fwd_model.specs.Run.{RunResult, Over, KeeperFailed, lived, is_tick, is_over, goes_on, steps_on, is_last_tick, unless_last, after_step, brought, run, after_start, starts, after_recovery, life}
use Rattle.fwd_theorem_trace.specs.Past.{Past, logged, past_after}
use Rattle.fwd_theorem_trace.specs.Allowed.{EventAllowed, IsLoading, IsStart, IsAllowed, Allowed}
use Rattle.fwd_theorem_trace.proofs.Traversal.{Traverses, Extends, walks_bind, walks_if, traverses_rest, holds_now, noted_since}
use Rattle.fwd_theorem_trace.proofs.Steps.{told_happens}
use Rattle.fwd_theorem_trace.proofs.OffsetCalls.{StaysAside, all_tracked, puts_on, gets_on}

abbrev Any : Past → Type 0
Any past = Unit {0}

not_stopped : (at : Option ℕ) → is_none at ≡ true → at ≡ None
not_stopped None is = refl
not_stopped (Some at) is = absurd (cc is)

pub last_due : (s : AllSettings) (n : ℕ) (brings : Happening) (past : Past) → is_last_tick s (Some n) brings (logged past) ≡ true → EventAllowed s happening.Stop past
last_due s n brings past is =
    inr (refl, not_stopped (stopped s (logged past)) (and_parts (tick_count (logged past) == n) (is_none (stopped s (logged past))) (and_parts (is_tick brings) _ is).1).1)

-- ---- what holds at each point

-- a call on another device than a keeper that logs nothing, or logs a recovered file
abbrev pub IsPlain : Call → Type 0
IsPlain (Note (Found number stream name bytes)) = Unit {0}
IsPlain (Note fact) = ⊥
IsPlain (OnKeeper call) = ⊥
IsPlain call = Unit {0}

-- an invariant of the past that each allowed such call keeps
abbrev pub KeptByPlain : AllSettings → (Past → Type 0) → Type 0
KeptByPlain s P = (call : Call) (answer : Answer call) (past : Past) → IsPlain call → IsAllowed s call past → P past → P (entry call answer ∷ past)

pub due_onward : (s : AllSettings) → KeptByPlain s (Allowed s)
due_onward s call answer past plain is ready = (is, ready)

-- ---- loading

-- what was recovered, if the disk didn't fail: nothing else was logged
abbrev pub Loaded : Option History → Past → Type 0
Loaded None now = logged now ≡ []
Loaded (Some h) now = (h ≡ logged now) × IsLoading (logged now)

module _ (s : AllSettings) (P : Past → Type 0) (onward : KeptByPlain s P) where
  loads_finds : (number : ℕ) (reads : List FileRead) (past : Past) → number ≡ length (logged past) + 1 → IsLoading (logged past) → P past → Traverses P Loaded past (notes_files number reads (logged past))
  loads_finds number [] past at loading ready = (ready, (refl, loading))
  loads_finds number (read ∷ reads) past at loading ready = (
    ready,
    λ answer.
        let found : Fact = Found number read.file.stream read.file.name read.bytes in
        loads_finds (number + 1) reads (entry (Note found) answer ∷ past) (omega (arith, at)) (at, loading) (onward (Note found) answer past tt (at, loading) ready),
  )

  loads_read : (p : DiskProgram (Option (List FileRead))) (past : Past) → logged past ≡ [] → P past → Traverses P Loaded past (bind (on_disk p) loaded)
  loads_read (Return None) past none ready = (ready, none)
  loads_read (Return (Some reads)) past none ready =
      subst (λ (h : History). Traverses P Loaded past (notes_files 1 reads h)) none
      (loads_finds 1 reads past (ap (λ (h : History). length h + 1) (sym none)) (subst IsLoading (sym none) tt) ready)
  loads_read (Ask call go) past none ready = (ready, λ answer. loads_read (go answer) (entry (OnDisk call) answer ∷ past) none (onward (OnDisk call) answer past tt tt ready))

  pub loads_root : P [] → (root : Option (List ℕ)) → Traverses P Loaded [] (loads_from root)
  loads_root ready None = (ready, (refl, tt))
  loads_root ready (Some root) = loads_read (load_program root) [] refl ready

pub loading_is_start : (h : History) → IsLoading h → IsStart h
loading_is_start [] loading = loading
loading_is_start (Found number stream name bytes ∷ h) loading = loading
loading_is_start (fact ∷ h) loading = absurd loading

-- ---- what holds after the loading, and after each step

-- P holds at each point. So holds as long as only recovered files are logged, and calls of the loop, gets
-- and puts of offsets, and steps keep it.
pub record Lasts (s : AllSettings) (P So : Past → Type 0) : Type 0 where
  pub first : P []
  pub onward : KeptByPlain s P
  pub loaded : (past : Past) → IsLoading (logged past) → So past
  pub called : (call : LoopCall) (answer : Answer (OnLoop call)) (past : Past) → So past → So (entry (OnLoop call) answer ∷ past)
  pub aside : StaysAside s (λ past. P past × So past)
  pub stepped : (brings : Happening) (past : Past) → EventAllowed s brings past → P past → So past → Traverses P (λ (h : History) (now : Past). (h ≡ logged now) × So now) past (step s brings (logged past))

module _ (s : AllSettings) (P So : Past → Type 0) (lasts : Lasts s P So) where
  abbrev Ends_so : RunResult → Past → Type 0
  Ends_so end now = (end.history ≡ logged now) × So now

  abbrev Lives : Past → Action RunResult → Type 0
  Lives past p = Traverses P Ends_so past p

  abbrev Goes : (History → Action RunResult) → Type 0
  Goes next = (now : Past) → P now → So now → Lives now (next (logged now))

  lives_on : (next : History → Action RunResult) (brings : Happening) (now : Past) → P now → So now → Goes next → Lives now (goes_on s next brings (logged now))
  lives_on next brings now ready so more =
      walks_if P Ends_so (is_over s brings (logged now)) now (Return (lived (logged now) Over)) (next (logged now)) (λ over. (ready, (refl, so))) (λ on. more now ready so)

  lives_step : (next : History → Action RunResult) (past : Past) (brings : Happening) → EventAllowed s brings past → P past → So past → Goes next → Lives past (steps_on s next brings (logged past))
  lives_step next past brings due ready so more =
      walks_bind P (λ (h : History) (now : Past). (h ≡ logged now) × So now) Ends_so past (step s brings (logged past)) (goes_on s next brings) (lasts.stepped brings past due ready so)
      (λ h now grown then is. subst (λ (x : History). Lives now (goes_on s next brings x)) (sym is.0) (lives_on next brings now then is.1 more))

  lives_unless_last : (ticks : Option ℕ) (next : History → Action RunResult) (brings : Happening) → Goes next → Goes (unless_last s ticks next brings)
  lives_unless_last None next brings more past ready so = more past ready so
  lives_unless_last (Some n) next brings more past ready so =
      walks_if P Ends_so (is_last_tick s (Some n) brings (logged past)) past (steps_on s next happening.Stop (logged past)) (next (logged past))
      (λ last. lives_step next past happening.Stop (last_due s n brings past last) ready so more) (λ no. more past ready so)

  lives_brought : (ticks : Option ℕ) (next : History → Action RunResult) (past : Past) (brings : Happening) → EventAllowed s brings past → P past → So past → Goes next → Lives past (brought s ticks next (logged past) brings)
  lives_brought ticks next past happening.Failed due ready so more = (ready, (refl, so))
  lives_brought ticks next past brings due ready so more =
      let then : History → Action RunResult = goes_on s (unless_last s ticks next brings) brings in
      walks_bind P (λ (h : History) (now : Past). (h ≡ logged now) × So now) Ends_so past (step s brings (logged past)) (after_step s ticks next brings) (lasts.stepped brings past due ready so)
      (λ h now grown ready_now is.
      subst (λ (x : History). Lives now (puts s (tracked s) then x)) (sym is.0)
      (puts_on s P So lasts.aside Ends_so (tracked s) then (all_tracked s) (λ later both. lives_on (unless_last s ticks next brings) brings later both.0 both.1 (lives_unless_last ticks next brings more)) now (ready_now, is.1)))

  lives_run : (ticks : Option ℕ) (turns : ℕ) → Goes (run s ticks turns)
  unfolding run
  lives_run ticks zero past ready so = (ready, (refl, so))
  lives_run ticks (suc turns) past ready so = (
    ready,
    λ brings.
        let wait : LoopCall = Wait (saturating_plus (clock (logged past)) 250) (paused s (logged past)) in
        lives_brought ticks (run s ticks turns) (entry (OnLoop wait) brings ∷ past) brings (inl refl) (lasts.onward (OnLoop wait) brings past tt (refl, refl) ready) (lasts.called wait brings past so)
        (lives_run ticks turns),
  )

  lives_started : (ticks : Option ℕ) (turns : ℕ) (past : Past) (ready : Option (Unit {0})) → P past → So past → Lives past (after_start s ticks turns (logged past) ready)
  lives_started ticks turns past None due so = (due, (refl, so))
  lives_started ticks turns past (Some ready) due so = lives_run ticks turns past due so

  lives_life : (ends : Ends) (ticks : Option ℕ) (turns : ℕ) → Lives [] (life s ends ticks turns)
  unfolding life recovers
  lives_life ends ticks turns = walks_bind P Loaded Ends_so [] (recovers s) (after_recovery s ends ticks turns) (loads_root s P lasts.onward lasts.first s.service.path) by
    where
      by : (h : Option History) (now : Past) → Extends [] now → P now → Loaded h now → Lives now (after_recovery s ends ticks turns h)
      by None now grown due is = (due, (sym is, lasts.loaded now (subst IsLoading (sym is) tt)))
      by (Some h) now grown due is =
          subst (λ (x : History). Lives now (after_recovery s ends ticks turns (Some x))) (sym is.0)
          (gets_on s P So lasts.aside Ends_so (tracked s) (λ at. Return (lived at KeeperFailed)) (starts s ends ticks turns)
          (λ at start both. (both.0, (refl, both.1)))
          (λ at start both. (both.0, λ ready. lives_started ticks turns (entry (OnLoop (Start ends)) ready ∷ at) ready (lasts.onward (OnLoop (Start ends)) ready at tt tt both.0) (lasts.called (Start ends) ready at both.1)))
          now (loading_is_start (logged now) is.1) (due, lasts.loaded now is.1))

  -- it holds at each beginning of a run
  pub at_each : (ends : Ends) (ticks : Option ℕ) (turns : ℕ) (es : List TraceEntry) (left : Action RunResult) → Execution (life s ends ticks turns) es left → P (past_after [] es)
  at_each ends ticks turns es left way = holds_now P Ends_so (past_after [] es) left (traverses_rest P Ends_so [] (life s ends ticks turns) (lives_life ends ticks turns) es left way)

  -- it holds at the end of a run, whose history is what was logged
  pub so_at_end : (ends : Ends) (ticks : Option ℕ) (turns : ℕ) (es : List TraceEntry) (end : RunResult) → Execution (life s ends ticks turns) es (Return end) → (end.history ≡ logged (past_after [] es)) × So (past_after [] es)
  so_at_end ends ticks turns es end way = (traverses_rest P Ends_so [] (life s ends ticks turns) (lives_life ends ticks turns) es (Return end) way).1

-- ---- which entries are allowed

module _ (s : AllSettings) where
  abbrev pub Steps : Past → Action History → Type 0
  Steps past p = Traverses (Allowed s) (λ (h : History) (now : Past). (h ≡ logged now) × Any now) past p

  pub steps_step : (brings : Happening) (past : Past) → EventAllowed s brings past → Allowed s past → Steps past (step s brings (logged past))
  unfolding step
  steps_step brings past due ready =
      (ready, λ answer. told_happens s Any (λ call answer past is due kept. tt) (logged past) brings (entry (Note (Happened brings)) answer ∷ past) ((due, ready), tt))

  any_lasts : Lasts s (Allowed s) Any
  any_lasts = record {
    first = tt;
    onward = due_onward s;
    loaded = λ past loading. tt;
    called = λ call answer past so. tt;
    aside = record { call = λ call answer past due so. ((due, so.0), tt); fact = λ fact answer past is due so. ((due, so.0), tt) };
    stepped = λ brings past due ready so. steps_step brings past due ready;
  }

  -- each entry of a run is allowed, at each beginning
  pub due_since : (ends : Ends) (ticks : Option ℕ) (turns : ℕ) (es : List TraceEntry) (left : Action RunResult) → Execution (life s ends ticks turns) es left → Allowed s (past_after [] es)
  due_since ends ticks turns es left way = at_each s (Allowed s) Any any_lasts ends ticks turns es left way

  -- the history of a run is what it logged
  pub noted_of_life : (ends : Ends) (ticks : Option ℕ) (turns : ℕ) (es : List TraceEntry) (end : RunResult) → Execution (life s ends ticks turns) es (Return end) → end.history ≡ history_after es []
  noted_of_life ends ticks turns es end way = (so_at_end s (Allowed s) Any any_lasts ends ticks turns es end way).0 ∙ noted_since [] es
