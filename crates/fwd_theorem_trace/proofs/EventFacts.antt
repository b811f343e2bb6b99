-- The logged events are those that waits returned.
use Rattle.std.proofs.Common.{◌≡◌, inl, ℕ, zero, suc, ◌+◌, ◌&&◌, Bool, true, false, cond, List, [], ◌∷◌, ◌++◌, length, Option, Some, None, refl, sym, ◌∙◌, ap, subst, arith}
use Rattle.std.specs.Prelude.{◌==◌, is_none}
use Rattle.std.proofs.lemmas.Bool.{and_parts}
use Rattle.fwd_outside.specs.Program.{entry, Return, Ask, bind, Execution}
use Rattle.fwd_outside.specs.Loop.{LoopCall, Start, Wait}
use Rattle.fwd_outside.specs.Disk.{DiskProgram}
use Rattle.fwd_outside.specs.declared.ends.Ends.{Ends}
use Rattle.fwd_outside.specs.declared.happening.Happening.{Happening}
use Rattle.fwd_outside.specs.declared.happening.Happening.TheVariants as happening
use Rattle.fwd_backlog.specs.declared.file_read.FileRead.{FileRead}
use Rattle.fwd_backlog.specs.LoadProgram.{load_program}
use Rattle.fwd_settings.specs.declared.settings_types.AllSettings.{AllSettings}
use Rattle.fwd_model.specs.Fact.{Fact, History, Happened, Resumed, Saved, Found}
use Rattle.fwd_model.specs.Trace.{Answer, Action, TraceEntry, OnLoop, OnDisk, OnFiles, OnKeeper, Note, history_after}
use Rattle.fwd_model.specs.DeviceActions.{on_disk}
use Rattle.fwd_model.specs.Settings.{saturating_plus}
use Rattle.fwd_model.specs.Clock.{clock, clock_after, stopped, tick_count}
use Rattle.fwd_model.specs.Limits.{paused}
use Rattle.fwd_model.specs.StepActions.{step}
use Rattle.fwd_model.specs.RecoveryActions.{notes_files, loaded, loads_from, recovers}
use Rattle.fwd_model.specs.KeptOffsets.{tracked, puts}
use Rattle.fwd_model.specs.Run.{RunResult, Over, KeeperFailed, lived, is_tick, is_over, is_over_after, goes_on, steps_on, is_last_tick, unless_last, after_step, brought, run, after_start, starts, after_recovery, life}
use Rattle.fwd_theorem_trace.specs.Past.{Past, logged, past_after}
use Rattle.fwd_theorem_trace.specs.Allowed.{EventAllowed, IsLoading, IsAllowed, Allowed}
use Rattle.fwd_theorem_trace.specs.Events.{events_only, event_of, waited_events, logged_events}
use Rattle.fwd_theorem_trace.proofs.Traversal.{Traverses, Extends, walks_bind, walks_if, traverses_rest, noted_since}
use Rattle.fwd_theorem_trace.proofs.Actions.{IsKept}
use Rattle.fwd_theorem_trace.proofs.Steps.{IsOuter, told_happens}
use Rattle.fwd_theorem_trace.proofs.OffsetCalls.{IsOffsetFact, StaysAside, all_tracked, puts_on, gets_on}
use Rattle.fwd_theorem_trace.proofs.Run.{last_due, loading_is_start}

-- the last tick is determined by the events alone
ticked_same : (h : History) → tick_count (events_only h) ≡ tick_count h
ticked_same [] = refl
ticked_same (Happened (happening.Tick now) ∷ h) = ap (λ n. saturating_plus n 1) (ticked_same h)
ticked_same (Happened other ∷ h) = ticked_same h
ticked_same (fact ∷ h) = ticked_same h

clock_same : (h : History) → clock (events_only h) ≡ clock h
clock_same [] = refl
clock_same (Happened (happening.Tick now) ∷ h) = ap (λ n. clock_after n now) (clock_same h)
clock_same (Happened other ∷ h) = clock_same h
clock_same (fact ∷ h) = clock_same h

stopped_same : (s : AllSettings) (h : History) → stopped s (events_only h) ≡ stopped s h
stopped_same s [] = refl
stopped_same s (Happened happening.Stop ∷ h) = rw (clock_same h, stopped_same s h) refl
stopped_same s (Happened (happening.InputEnd input) ∷ h) = rw (clock_same h, stopped_same s h) refl
stopped_same s (Happened other ∷ h) = stopped_same s h
stopped_same s (fact ∷ h) = stopped_same s h

last_same : (s : AllSettings) (ticks : Option ℕ) (x : Happening) (h : History) → is_last_tick s ticks x (events_only h) ≡ is_last_tick s ticks x h
last_same s None x h = refl
last_same s (Some n) x h = rw (ticked_same h, stopped_same s h) refl

is_none_at : (at : Option ℕ) → is_none at ≡ true → at ≡ None
is_none_at None is = refl
is_none_at (Some at) is = absurd (cc is)

not_end : (s : AllSettings) (x : Happening) (h : History) → is_tick x ≡ true → is_over_after s x None h ≡ false
not_end s (happening.Tick now) h is = refl
not_end s other h is = absurd (cc is)

-- a run isn't over at its last tick
last_not_over : (s : AllSettings) (ticks : Option ℕ) (x : Happening) (h : History) → is_last_tick s ticks x h ≡ true → is_over s x h ≡ false
unfolding is_over
last_not_over s None x h is = absurd (cc is)
last_not_over s (Some n) x h is =
    let parts = and_parts (is_tick x) (tick_count h == n && is_none (stopped s h)) is in
    let none = is_none_at (stopped s h) (and_parts (tick_count h == n) (is_none (stopped s h)) parts.1).1 in
    subst (λ (at : Option ℕ). is_over_after s x at h ≡ false) (sym none) (not_end s x h parts.0)

-- exactly these events were returned and logged
abbrev IsAt : History → List Happening → Past → Type 0
IsAt facts heard past = (events_only (logged past) ≡ facts) × (waited_events past ≡ heard)

fact_at : (facts : History) (fact : Fact) (h : History) → IsOuter (Note fact) → events_only h ≡ facts → events_only (fact ∷ h) ≡ facts
fact_at facts (Happened x) h is at = absurd is
fact_at facts fact h is at = at

loop_at : (heard : List Happening) (call : LoopCall) (answer : Answer (OnLoop call)) (before : List Happening) → IsOuter (OnLoop call) → before ≡ heard → event_of (OnLoop call) answer ++ before ≡ heard
loop_at heard (Wait until mask) answer before is at = absurd is
loop_at heard call answer before is at = at

stays_at : (s : AllSettings) (facts : History) (heard : List Happening) → IsKept s IsOuter (IsAt facts heard)
stays_at s facts heard (OnLoop call) answer past is due at = (at.0, loop_at heard call answer (waited_events past) is at.1)
stays_at s facts heard (OnDisk call) answer past is due at = at
stays_at s facts heard (OnFiles call) answer past is due at = at
stays_at s facts heard (OnKeeper call) answer past is due at = absurd is
stays_at s facts heard (Note fact) answer past is due at = (fact_at facts fact (logged past) is at.0, at.1)

module _ (s : AllSettings) (ticks : Option ℕ) where
  -- the logged events are those that the waits returned
  abbrev pub LogsWaitedEvents : Past → Type 0
  LogsWaitedEvents past = events_only (logged past) ≡ logged_events s ticks (waited_events past)

  abbrev Ends_even : Past → Action RunResult → Type 0
  Ends_even past p = Traverses (Allowed s) (λ (end : RunResult) (now : Past). LogsWaitedEvents now) past p

  abbrev Goes_even : (History → Action RunResult) → Type 0
  Goes_even next = (now : Past) → Allowed s now → LogsWaitedEvents now → Ends_even now (next (logged now))

  -- a step logs its own event, and no other
  step_at : (x : Happening) (past : Past) → EventAllowed s x past → Allowed s past
      → Traverses (Allowed s) (λ (h : History) (now : Past). (h ≡ logged now) × IsAt (Happened x ∷ events_only (logged past)) (waited_events past) now) past (step s x (logged past))
  unfolding step
  step_at x past due ready =
      let K : Past → Type 0 = IsAt (Happened x ∷ events_only (logged past)) (waited_events past) in
      (ready, λ answer. told_happens s K (stays_at s (Happened x ∷ events_only (logged past)) (waited_events past)) (logged past) x (entry (Note (Happened x)) answer ∷ past) ((due, ready), (refl, refl)))

  -- a step, and then what follows
  even_steps : (x : Happening) (past : Past) (next : History → Action RunResult) → EventAllowed s x past → Allowed s past
      → ((now : Past) → Allowed s now → IsAt (Happened x ∷ events_only (logged past)) (waited_events past) now → Ends_even now (goes_on s next x (logged now))) → Ends_even past (steps_on s next x (logged past))
  even_steps x past next due ready more =
      walks_bind (Allowed s) (λ (h : History) (now : Past). (h ≡ logged now) × IsAt (Happened x ∷ events_only (logged past)) (waited_events past) now) (λ (end : RunResult) (now : Past). LogsWaitedEvents now) past
      (step s x (logged past)) (goes_on s next x) (step_at x past due ready)
      (λ h now grown then is. subst (λ (y : History). Ends_even now (goes_on s next x y)) (sym is.0) (more now then is.1))

  goes_even : (x : Happening) (next : History → Action RunResult) (now : Past) → Allowed s now → LogsWaitedEvents now → Goes_even next → Ends_even now (goes_on s next x (logged now))
  goes_even x next now ready even more =
      walks_if (Allowed s) (λ (end : RunResult) (now : Past). LogsWaitedEvents now) (is_over s x (logged now)) now (Return (lived (logged now) Over)) (next (logged now)) (λ over. (ready, even)) (λ on. more now ready even)

  -- one step after a wait, with the events that are logged, and whether it was the last tick
  abbrev IsBehind : Happening → List Happening → Past → Type 0
  IsBehind x before now = IsAt (Happened x ∷ logged_events s ticks before) (x ∷ before) now

  brings_last : (b : Bool) (x : Happening) (before : List Happening) (now : Past) → IsBehind x before now → is_last_tick s ticks x (logged now) ≡ b
      → logged_events s ticks (x ∷ before) ≡ cond b (Happened happening.Stop ∷ Happened x ∷ logged_events s ticks before) (Happened x ∷ logged_events s ticks before)
  brings_last b x before now at last =
      let same : is_last_tick s ticks x (Happened x ∷ logged_events s ticks before) ≡ b = sym (ap (is_last_tick s ticks x) at.0) ∙ (last_same s ticks x (logged now) ∙ last) in
      ap (λ (c : Bool). cond c (Happened happening.Stop ∷ Happened x ∷ logged_events s ticks before) (Happened x ∷ logged_events s ticks before)) same

  even_now : (x : Happening) (before : List Happening) (now : Past) → IsBehind x before now → is_last_tick s ticks x (logged now) ≡ false → LogsWaitedEvents now
  even_now x before now at last = at.0 ∙ (sym (brings_last false x before now at last) ∙ ap (logged_events s ticks) (sym at.1))

  -- after the last tick the run is stopped
  even_stop : (x : Happening) (before : List Happening) (now : Past) (next : History → Action RunResult) → EventAllowed s happening.Stop now → Allowed s now → IsBehind x before now → is_last_tick s ticks x (logged now) ≡ true
      → Goes_even next → Ends_even now (steps_on s next happening.Stop (logged now))
  even_stop x before now next due ready at last more =
      even_steps happening.Stop now next due ready
      (λ later then is.
      goes_even happening.Stop next later then
      (is.0 ∙ (ap (λ (h : History). Happened happening.Stop ∷ h) at.0 ∙ (sym (brings_last true x before now at last) ∙ ap (logged_events s ticks) (sym (is.1 ∙ at.1))))) more)

  -- after a step the run is over, or it was the last tick, or it goes on
  even_behind : (tick : Option ℕ) → tick ≡ ticks → (x : Happening) (before : List Happening) (now : Past) (next : History → Action RunResult) → Allowed s now → IsBehind x before now → Goes_even next
      → Ends_even now (goes_on s (unless_last s tick next x) x (logged now))
  even_behind None is x before now next ready at more =
      goes_even x (unless_last s None next x) now ready (even_now x before now at (subst (λ (t : Option ℕ). is_last_tick s t x (logged now) ≡ false) is refl)) more
  even_behind (Some n) is x before now next ready at more = by (is_last_tick s (Some n) x (logged now)) refl
    where
      by : (b : Bool) → is_last_tick s (Some n) x (logged now) ≡ b → Ends_even now (goes_on s (unless_last s (Some n) next x) x (logged now))
      by true last =
          rw (last_not_over s (Some n) x (logged now) last, last)
          (even_stop x before now next (last_due s n x now last) ready at (subst (λ (t : Option ℕ). is_last_tick s t x (logged now) ≡ true) is last) more)
      by false last =
          walks_if (Allowed s) (λ (end : RunResult) (then : Past). LogsWaitedEvents then) (is_over s x (logged now)) now (Return (lived (logged now) Over)) (unless_last s (Some n) next x (logged now))
          (λ over. (ready, even_now x before now at (subst (λ (t : Option ℕ). is_last_tick s t x (logged now) ≡ false) is last)))
          (λ on. rw (last) (more now ready (even_now x before now at (subst (λ (t : Option ℕ). is_last_tick s t x (logged now) ≡ false) is last))))

  -- gets and puts of offsets log no event, and are no waits
  at_fact : (facts : History) (heard : List Happening) (fact : Fact) (answer : Unit {0}) (past : Past) → IsOffsetFact fact → IsAllowed s (Note fact) past → Allowed s past × IsAt facts heard past
      → Allowed s (entry (Note fact) answer ∷ past) × IsAt facts heard (entry (Note fact) answer ∷ past)
  at_fact facts heard (Resumed input index place) answer past is due so = ((due, so.0), so.1)
  at_fact facts heard (Saved input index place) answer past is due so = ((due, so.0), so.1)
  at_fact facts heard fact answer past is due so = absurd is

  at_aside : (facts : History) (heard : List Happening) → StaysAside s (λ past. Allowed s past × IsAt facts heard past)
  at_aside facts heard = record { call = λ call answer past due so. ((due, so.0), so.1); fact = at_fact facts heard }

  even_fact : (fact : Fact) (answer : Unit {0}) (past : Past) → IsOffsetFact fact → IsAllowed s (Note fact) past → Allowed s past × LogsWaitedEvents past
      → Allowed s (entry (Note fact) answer ∷ past) × LogsWaitedEvents (entry (Note fact) answer ∷ past)
  even_fact (Resumed input index place) answer past is due so = ((due, so.0), so.1)
  even_fact (Saved input index place) answer past is due so = ((due, so.0), so.1)
  even_fact fact answer past is due so = absurd is

  even_aside : StaysAside s (λ past. Allowed s past × LogsWaitedEvents past)
  even_aside = record { call = λ call answer past due so. ((due, so.0), so.1); fact = even_fact }

  even_heard : (x : Happening) (past : Past) (before : List Happening) (next : History → Action RunResult) → EventAllowed s x past → Allowed s past → events_only (logged past) ≡ logged_events s ticks before → waited_events past ≡ x ∷ before
      → Goes_even next → Ends_even past (bind (step s x (logged past)) (after_step s ticks next x))
  even_heard x past before next due ready even heard more =
      let K : Past → Type 0 = IsAt (Happened x ∷ events_only (logged past)) (waited_events past) in
      let Q : RunResult → Past → Type 0 = λ (end : RunResult) (now : Past). LogsWaitedEvents now in
      let then : History → Action RunResult = goes_on s (unless_last s ticks next x) x in
      walks_bind (Allowed s) (λ (h : History) (now : Past). (h ≡ logged now) × K now) Q past (step s x (logged past)) (after_step s ticks next x) (step_at x past due ready)
      (λ h now grown ready_now is.
      subst (λ (y : History). Ends_even now (puts s (tracked s) then y)) (sym is.0)
      (puts_on s (Allowed s) K (at_aside (Happened x ∷ events_only (logged past)) (waited_events past)) Q (tracked s) then (all_tracked s)
      (λ later both. even_behind ticks refl x before later next both.0 (both.1.0 ∙ ap (λ (h : History). Happened x ∷ h) even, both.1.1 ∙ heard) more) now (ready_now, is.1)))

  abbrev wait_behind : Past → Happening → Past
  wait_behind past x = entry (OnLoop (Wait (saturating_plus (clock (logged past)) 250) (paused s (logged past)))) x ∷ past

  even_brought : (next : History → Action RunResult) (past : Past) (x : Happening) → EventAllowed s x (wait_behind past x) → Allowed s (wait_behind past x) → LogsWaitedEvents past → Goes_even next
      → Ends_even (wait_behind past x) (brought s ticks next (logged past) x)
  even_brought next past happening.Failed due ready even more = (ready, even)
  even_brought next past x due ready even more = even_heard x (wait_behind past x) (waited_events past) next due ready even refl more

  even_run : (turns : ℕ) (past : Past) → Allowed s past → LogsWaitedEvents past → Ends_even past (run s ticks turns (logged past))
  unfolding run
  even_run zero past ready even = (ready, even)
  even_run (suc turns) past ready even =
      (ready, λ x. even_brought (run s ticks turns) past x (inl refl) ((refl, refl), ready) even (λ now then still. even_run turns now then still))

  even_started : (turns : ℕ) (past : Past) (ready : Option (Unit {0})) → Allowed s past → LogsWaitedEvents past → Ends_even past (after_start s ticks turns (logged past) ready)
  even_started turns past None due even = (due, even)
  even_started turns past (Some ready) due even = even_run turns past due even

  -- ---- loading

  abbrev Loaded_even : Option History → Past → Type 0
  Loaded_even None now = (logged now ≡ []) × LogsWaitedEvents now
  Loaded_even (Some h) now = (h ≡ logged now) × (LogsWaitedEvents now × IsLoading (logged now))

  even_finds : (number : ℕ) (reads : List FileRead) (past : Past) → number ≡ length (logged past) + 1 → IsLoading (logged past) → Allowed s past → LogsWaitedEvents past
      → Traverses (Allowed s) Loaded_even past (notes_files number reads (logged past))
  even_finds number [] past at loading ready even = (ready, (refl, (even, loading)))
  even_finds number (read ∷ reads) past at loading ready even = (
    ready,
    λ answer.
        even_finds (number + 1) reads (entry (Note (Found number read.file.stream read.file.name read.bytes)) answer ∷ past)
        (omega (arith, at)) (at, loading) ((at, loading), ready) even,
  )

  even_read : (p : DiskProgram (Option (List FileRead))) (past : Past) → logged past ≡ [] → Allowed s past → LogsWaitedEvents past → Traverses (Allowed s) Loaded_even past (bind (on_disk p) loaded)
  even_read (Return None) past none ready even = (ready, (none, even))
  even_read (Return (Some reads)) past none ready even =
      subst (λ (h : History). Traverses (Allowed s) Loaded_even past (notes_files 1 reads h)) none
      (even_finds 1 reads past (ap (λ (h : History). length h + 1) (sym none)) (subst IsLoading (sym none) tt) ready even)
  even_read (Ask call go) past none ready even = (ready, λ answer. even_read (go answer) (entry (OnDisk call) answer ∷ past) none (tt, ready) even)

  even_root : (root : Option (List ℕ)) → Traverses (Allowed s) Loaded_even [] (loads_from root)
  even_root None = (tt, (refl, (refl, tt)))
  even_root (Some root) = even_read (load_program root) [] refl tt refl

  even_life : (ends : Ends) (turns : ℕ) → Ends_even [] (life s ends ticks turns)
  unfolding life recovers
  even_life ends turns =
      walks_bind (Allowed s) Loaded_even (λ (end : RunResult) (now : Past). LogsWaitedEvents now) [] (recovers s) (after_recovery s ends ticks turns) (even_root s.service.path) by
    where
      by : (h : Option History) (now : Past) → Extends [] now → Allowed s now → Loaded_even h now → Ends_even now (after_recovery s ends ticks turns h)
      by None now grown due is = (due, is.1)
      by (Some h) now grown due is =
          subst (λ (x : History). Ends_even now (after_recovery s ends ticks turns (Some x))) (sym is.0)
          (gets_on s (Allowed s) LogsWaitedEvents even_aside (λ (end : RunResult) (then : Past). LogsWaitedEvents then) (tracked s) (λ at. Return (lived at KeeperFailed)) (starts s ends ticks turns)
          (λ at start both. both)
          (λ at start both. (both.0, λ ready. even_started turns (entry (OnLoop (Start ends)) ready ∷ at) ready (tt, both.0) both.1))
          now (loading_is_start (logged now) is.1.1) (due, is.1.0))

  pub brought_of_life : (ends : Ends) (turns : ℕ) (es : List TraceEntry) (end : RunResult) → Execution (life s ends ticks turns) es (Return end)
      → events_only (history_after es []) ≡ logged_events s ticks (waited_events (past_after [] es))
  brought_of_life ends turns es end way =
      let Q : RunResult → Past → Type 0 = λ (end : RunResult) (now : Past). LogsWaitedEvents now in
      ap events_only (sym (noted_since [] es)) ∙ (traverses_rest (Allowed s) Q [] (life s ends ticks turns) (even_life ends turns) es (Return end) way).1
