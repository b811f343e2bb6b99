-- Each run keeps the invariants of all flushes.
use Rattle.std.proofs.Common.{◌≡◌, ◌⊎◌, ℕ, zero, suc, ◌+◌, List, [], ◌∷◌, Option, Some, None, inl, inr, refl, sym, subst}
use Rattle.fwd_outside.specs.Program.{entry, Return, Ask, bind}
use Rattle.fwd_outside.specs.Loop.{Start, Wait}
use Rattle.fwd_outside.specs.Disk.{DiskProgram}
use Rattle.fwd_outside.specs.declared.ends.Ends.{Ends as AllEnds}
use Rattle.fwd_outside.specs.declared.happening.Happening.{Happening}
use Rattle.fwd_outside.specs.declared.happening.Happening.TheVariants as happening
use Rattle.fwd_backlog.specs.declared.file_read.FileRead.{FileRead}
use Rattle.fwd_backlog.specs.LoadProgram.{load_program}
use Rattle.fwd_settings.specs.declared.settings_types.AllSettings.{AllSettings}
use Rattle.fwd_model.specs.Fact.{Fact, History, Happened, Resumed, Saved, Found}
use Rattle.fwd_model.specs.Trace.{Action}
use Rattle.fwd_model.specs.DeviceActions.{on_disk}
use Rattle.fwd_model.specs.Settings.{saturating_plus, paths_at}
use Rattle.fwd_model.specs.Clock.{clock, stopped}
use Rattle.fwd_model.specs.FollowedFiles.{settled}
use Rattle.fwd_model.specs.Limits.{paused}
use Rattle.fwd_model.specs.KeptOffsets.{Tracked, tracked, kept_at, to_put, indexes_from, resumes, got, gets, after_put, puts_by, puts}
use Rattle.fwd_model.specs.StepActions.{step}
use Rattle.fwd_model.specs.RecoveryActions.{notes_files, loaded, loads_from, recovers}
use Rattle.fwd_model.specs.Run.{RunResult, Over, KeeperFailed, lived, is_over, goes_on, steps_on, is_last_tick, unless_last, after_step, brought, run, after_start, starts, after_recovery, life}
use Rattle.fwd_theorem_delivery.proofs.Outcomes.{Now, asked, noted, Ends, ends_bind, ends_if}
use Rattle.fwd_theorem_delivery.proofs.RunInvariant.{RunInvariant, whole_first, whole_fact, whole_aside}
use Rattle.fwd_theorem_delivery.proofs.QuietActions.{TouchesNoFlush}
use Rattle.fwd_theorem_delivery.proofs.QuietInvariant.{KeepsInvariant, Safe, whole_quiet}
use Rattle.fwd_theorem_delivery.proofs.FlushSteps.{safe_stops, waits, safe_step}

-- at the end of a run
abbrev pub IsLived : AllSettings → RunResult → Now → Type 0
IsLived s end n = (end.history ≡ n.history) × RunInvariant s n

abbrev Lives : AllSettings → Now → Action RunResult → Type 0
Lives s n p = Ends (IsLived s) n p

module _ (s : AllSettings) where
  abbrev LivesOn : (History → Action RunResult) → Type 0
  LivesOn next = (m : Now) → RunInvariant s m → Lives s m (next m.history)

  lives_on : (next : History → Action RunResult) (brings : Happening) (m : Now) → RunInvariant s m → LivesOn next → Lives s m (goes_on s next brings m.history)
  lives_on next brings m whole rest = ends_if (IsLived s) (is_over s brings m.history) m (Return (lived m.history Over)) (next m.history) (refl, whole) (rest m whole)

  -- ---- kept offsets

  lives_saved : (t : Tracked) (place : ℕ) (next : History → Action RunResult) (answer : Option (Unit {0})) → LivesOn next → LivesOn (λ h. after_put t place next h answer)
  lives_saved t place next None rest m whole = rest m whole
  lives_saved t place next (Some done) rest m whole =
      let fact : Fact = Saved t.input t.index place in
      λ _ _. rest (noted fact m) (whole_fact s fact m tt whole)

  lives_puts_by : (t : Tracked) (place : Option ℕ) (next : History → Action RunResult) → LivesOn next → LivesOn (puts_by t place next)
  lives_puts_by t None next rest m whole = rest m whole
  lives_puts_by t (Some place) next rest m whole = λ answer _. lives_saved t place next answer rest m whole

  lives_puts : (ts : List Tracked) (next : History → Action RunResult) → LivesOn next → LivesOn (puts s ts next)
  lives_puts [] next rest m whole = rest m whole
  lives_puts (t ∷ ts) next rest m whole =
      lives_puts_by t (to_put (settled s m.history t.input t.index) (kept_at m.history t.input t.index)) (puts s ts next) (λ now whole_now. lives_puts ts next rest now whole_now) m whole

  lives_resumes : (input place : ℕ) (indexes : List ℕ) (next : History → Action RunResult) → LivesOn next → LivesOn (resumes input place indexes next)
  lives_resumes input place [] next rest m whole = rest m whole
  lives_resumes input place (index ∷ more) next rest m whole =
      let fact : Fact = Resumed input index place in
      λ _ _. lives_resumes input place more next rest (noted fact m) (whole_fact s fact m tt whole)

  lives_got : (t : Tracked) (failed next : History → Action RunResult) (answer : Option (Option ℕ)) → LivesOn failed → LivesOn next → LivesOn (λ h. got s t failed next h answer)
  lives_got t failed next None ends rest m whole = ends m whole
  lives_got t failed next (Some None) ends rest m whole = rest m whole
  lives_got t failed next (Some (Some place)) ends rest m whole = lives_resumes t.input place (indexes_from 0 t.path (paths_at s t.input)) next rest m whole

  lives_gets : (ts : List Tracked) (failed next : History → Action RunResult) → LivesOn failed → LivesOn next → LivesOn (gets s ts failed next)
  lives_gets [] failed next ends rest m whole = rest m whole
  lives_gets (t ∷ ts) failed next ends rest m whole = λ answer _.
      lives_got t failed (gets s ts failed next) answer ends (λ now whole_now. lives_gets ts failed next ends rest now whole_now) m whole

  -- ---- turns

  -- a step, and its continuation
  lives_step : (next : History → Action RunResult) (brings : Happening) (h : History) (m : Now) → Safe s m (step s brings h) → LivesOn next → Lives s m (steps_on s next brings h)
  lives_step next brings h m safe rest =
      ends_bind (KeepsInvariant s) (IsLived s) m (step s brings h) (goes_on s next brings) safe
      (λ x now stays. subst (λ (y : History). Lives s now (goes_on s next brings y)) (sym stays.0) (lives_on next brings now stays.1 rest))

  stop_step : (m : Now) → RunInvariant s m → Safe s m (step s happening.Stop m.history)
  unfolding step
  stop_step m whole = λ _ _. safe_stops s (stopped s m.history) (noted (Happened happening.Stop) m) (whole_fact s (Happened happening.Stop) m tt whole)

  lives_unless_last : (ticks : Option ℕ) (next : History → Action RunResult) (brings : Happening) → LivesOn next → LivesOn (unless_last s ticks next brings)
  lives_unless_last ticks next brings rest m whole =
      ends_if (IsLived s) (is_last_tick s ticks brings m.history) m (steps_on s next happening.Stop m.history) (next m.history)
      (lives_step next happening.Stop m.history m (stop_step m whole) rest) (rest m whole)

  lives_brought : (ticks : Option ℕ) (next : History → Action RunResult) (n : Now) → RunInvariant s n → (until pauses : ℕ) (brings : Happening) → LivesOn next → Lives s (asked (Wait until pauses) brings n) (brought s ticks next n.history brings)
  lives_brought ticks next n whole until pauses happening.Failed rest = (refl, waits s n whole until pauses happening.Failed (λ link. refl))
  lives_brought ticks next n whole until pauses brings rest =
      let then : History → Action RunResult = goes_on s (unless_last s ticks next brings) brings in
      ends_bind (KeepsInvariant s) (IsLived s) (asked (Wait until pauses) brings n) (step s brings n.history) (after_step s ticks next brings) (safe_step s n whole until pauses brings)
      (λ x now stays.
      subst (λ (y : History). Lives s now (after_step s ticks next brings y)) (sym stays.0)
      (lives_puts (tracked s) then (λ m whole_m. lives_on (unless_last s ticks next brings) brings m whole_m (lives_unless_last ticks next brings rest)) now stays.1))

  lives_run : (ticks : Option ℕ) (turns : ℕ) (n : Now) → RunInvariant s n → Lives s n (run s ticks turns n.history)
  unfolding run
  lives_run ticks zero n whole = (refl, whole)
  lives_run ticks (suc turns) n whole = λ brings _.
      lives_brought ticks (run s ticks turns) n whole (saturating_plus (clock n.history) 250) (paused s n.history) brings (λ m whole_m. lives_run ticks turns m whole_m)

  abbrev first : Now
  first = record { greatest = 0; calls = []; history = [] }

  whole_started : (ends : AllEnds) (ready : Option (Unit {0})) (n : Now) → RunInvariant s n → RunInvariant s (asked (Start ends) ready n)
  whole_started ends ready n whole = whole_aside s n (entry (Start ends) ready ∷ []) (λ to link given. none given) (λ link. refl) (λ link. refl) whole
    where
      none : ⊥ ⊎ ⊥ → ⊥
      none (inl is) = is
      none (inr is) = is

  lives_started : (ends : AllEnds) (ticks : Option ℕ) (turns : ℕ) (ready : Option (Unit {0})) (n : Now) → RunInvariant s n → Lives s (asked (Start ends) ready n) (after_start s ticks turns n.history ready)
  lives_started ends ticks turns None n whole = (refl, whole_started ends None n whole)
  lives_started ends ticks turns (Some ready) n whole = lives_run ticks turns (asked (Start ends) (Some ready) n) (whole_started ends (Some ready) n whole)

  -- ---- loading

  -- what was recovered; if a call failed nothing was logged
  abbrev Loaded : Option History → History → Type 0
  Loaded None now = now ≡ []
  Loaded (Some h) now = h ≡ now

  quietly_finds : (number : ℕ) (accepts_messages : List FileRead) (h : History) → TouchesNoFlush Loaded h (notes_files number accepts_messages h)
  quietly_finds number [] h = refl
  quietly_finds number (read ∷ accepts_messages) h = (tt, λ _. quietly_finds (number + 1) accepts_messages (Found number read.file.stream read.file.name read.bytes ∷ h))

  quietly_loaded : (p : DiskProgram (Option (List FileRead))) → TouchesNoFlush Loaded [] (bind (on_disk p) loaded)
  quietly_loaded (Return None) = refl
  quietly_loaded (Return (Some accepts_messages)) = quietly_finds 1 accepts_messages []
  quietly_loaded (Ask call go) = (tt, λ answer. quietly_loaded (go answer))

  quietly_loads : (root : Option (List ℕ)) → TouchesNoFlush Loaded [] (loads_from root)
  quietly_loads None = refl
  quietly_loads (Some root) = quietly_loaded (load_program root)

  pub lives_life : (ends : AllEnds) (ticks : Option ℕ) (turns : ℕ) → Lives s first (life s ends ticks turns)
  unfolding life recovers
  lives_life ends ticks turns =
      ends_bind (λ (h : Option History) (m : Now). Loaded h m.history × RunInvariant s m) (IsLived s) first (recovers s) (after_recovery s ends ticks turns)
      (whole_quiet s Loaded first (loads_from s.service.path) (quietly_loads s.service.path) (whole_first s)) by
    where
      by : (h : Option History) (m : Now) → Loaded h m.history × RunInvariant s m → Lives s m (after_recovery s ends ticks turns h)
      by None m stays = (sym stays.0, stays.1)
      by (Some h) m stays =
          subst (λ (x : History). Lives s m (after_recovery s ends ticks turns (Some x))) (sym stays.0)
          (lives_gets (tracked s) (λ now. Return (lived now KeeperFailed)) (starts s ends ticks turns) (λ now whole. (refl, whole)) (λ now whole ready _. lives_started ends ticks turns ready now whole) m stays.1)
