-- A run simulates itself on renamed links.
use Rattle.std.proofs.Common.{◌≡◌, ◌⊎◌, inl, inr, ℕ, zero, suc, ◌+◌, Bool, cond, List, [], ◌∷◌, Option, Some, None, refl, sym, ap, ◌∙◌, subst}
use Rattle.fwd_outside.specs.Program.{Return, Ask, bind, Execution}
use Rattle.fwd_base.specs.Limits.{longest_wait}
use Rattle.fwd_outside.specs.Loop.{Wait}
use Rattle.fwd_outside.specs.declared.ends.Ends.{Ends}
use Rattle.fwd_outside.specs.declared.happening.Happening.{Happening}
use Rattle.fwd_outside.specs.declared.happening.Happening.TheVariants as happening
use Rattle.fwd_backlog.specs.declared.file_read.FileRead.{FileRead}
use Rattle.fwd_backlog.specs.LoadProgram.{load_program}
use Rattle.fwd_settings.specs.declared.settings_types.AllSettings.{AllSettings}
use Rattle.fwd_model.specs.Fact.{History, Found, Resumed, Saved}
use Rattle.fwd_model.specs.Trace.{Action, TraceEntry, OnLoop}
use Rattle.fwd_model.specs.Settings.{saturating_plus, paths_at}
use Rattle.fwd_model.specs.Clock.{clock}
use Rattle.fwd_model.specs.FollowedFiles.{settled}
use Rattle.fwd_model.specs.Limits.{paused}
use Rattle.fwd_model.specs.StepActions.{step}
use Rattle.fwd_model.specs.RecoveryActions.{notes_files, loaded, loads_from, recovers}
use Rattle.fwd_model.specs.KeptOffsets.{Tracked, tracked, kept_at, to_put, indexes_from, resumes, got, gets, after_put, puts_by, puts}
use Rattle.fwd_model.specs.Run.{RunResult, Over, KeeperFailed, lived, is_over, goes_on, steps_on, is_last_tick, unless_last, after_step, brought, run, after_start, starts, after_recovery, life}
use Rattle.fwd_theorem_links.specs.RenamedLinks.{renamed_event, renamed_result, renamed_trace}
use Rattle.fwd_theorem_links.specs.DialedLinks.{KeepsApart}
use Rattle.fwd_theorem_links.proofs.Simulation.{AllDialed, IsSimulated, Simulates, simulates_bind, simulates_if, simulates_execution}
use Rattle.fwd_theorem_links.proofs.Histories.{renamed, clock_same, settled_same, kept_at_same}
use Rattle.fwd_theorem_links.proofs.Rows.{paused_same, over_same, last_same}
use Rattle.fwd_theorem_links.proofs.Actions.{Dialed, Corresponds, simulates_disk, simulates_step}

module _ (rename : ℕ → ℕ) (IsDialed : ℕ → Type 0) (HasFollowed : Type 0) (apart : KeepsApart rename IsDialed) (s : AllSettings) (tails : (input : ℕ) → (paths_at s input ≡ []) ⊎ HasFollowed) (kept : (tracked s ≡ []) ⊎ HasFollowed) where
  abbrev DialedHistory : History → Type 0
  DialedHistory h = Dialed rename IsDialed HasFollowed apart s tails h

  abbrev IsRenamedResult : RunResult → RunResult → Type 0
  IsRenamedResult a b = b ≡ renamed_result rename a

  abbrev SimulatesRun : Action RunResult → Action RunResult → Type 0
  SimulatesRun p q = Simulates rename IsDialed HasFollowed IsRenamedResult p q

  if_lives : (b : Bool) (p q r t : Action RunResult) → SimulatesRun p r → SimulatesRun q t → SimulatesRun (cond b p q) (cond b r t)
  if_lives b p q r t first second = simulates_if rename IsDialed HasFollowed IsRenamedResult b p q r t first second

  -- ---- turns

  abbrev Next : (History → Action RunResult) → (History → Action RunResult) → Type 0
  Next f g = (h : History) → DialedHistory h → SimulatesRun (f h) (g (renamed rename h))

  simulates_after_put : (t : Tracked) (place : ℕ) (f g : History → Action RunResult) (h : History) (answer : Option (Unit {0})) → Next f g → DialedHistory h → SimulatesRun (after_put t place f h answer) (after_put t place g (renamed rename h) answer)
  simulates_after_put t place f g h None next dialed = next h dialed
  simulates_after_put t place f g h (Some done) next dialed = (_, refl, tt, λ _ _. next (Saved t.input t.index place ∷ h) dialed)

  simulates_puts_by : (t : Tracked) (place : Option ℕ) (f g : History → Action RunResult) (h : History) → HasFollowed → Next f g → DialedHistory h → SimulatesRun (puts_by t place f h) (puts_by t place g (renamed rename h))
  simulates_puts_by t None f g h followed next dialed = next h dialed
  simulates_puts_by t (Some place) f g h followed next dialed = (_, refl, followed, λ x _. simulates_after_put t place f g h x next dialed)

  to_put_same : (h : History) (t : Tracked) → to_put (settled s (renamed rename h) t.input t.index) (kept_at (renamed rename h) t.input t.index) ≡ to_put (settled s h t.input t.index) (kept_at h t.input t.index)
  to_put_same h t =
      ap (λ (place : Option ℕ). to_put place (kept_at (renamed rename h) t.input t.index)) (settled_same rename s h t.input t.index)
      ∙ ap (λ (kept : Option ℕ). to_put (settled s h t.input t.index) kept) (kept_at_same rename h t.input t.index)

  simulates_puts : (ts : List Tracked) (f g : History → Action RunResult) → (ts ≡ []) ⊎ HasFollowed → Next f g → Next (puts s ts f) (puts s ts g)
  simulates_puts [] f g either next h dialed = next h dialed
  simulates_puts (t ∷ ts) f g (inl none) next h dialed = absurd (cc none)
  simulates_puts (t ∷ ts) f g (inr followed) next h dialed =
      subst (λ (place : Option ℕ). SimulatesRun (puts s (t ∷ ts) f h) (puts_by t place (puts s ts g) (renamed rename h))) (sym (to_put_same h t))
      (simulates_puts_by t (to_put (settled s h t.input t.index) (kept_at h t.input t.index)) (puts s ts f) (puts s ts g) h followed (simulates_puts ts f g (inr followed) next) dialed)

  simulates_goes_on : (f g : History → Action RunResult) (x : Happening) (h : History) → Next f g → DialedHistory h → SimulatesRun (goes_on s f x h) (goes_on s g (renamed_event rename x) (renamed rename h))
  simulates_goes_on f g x h next dialed =
      subst (λ (b : Bool). SimulatesRun (goes_on s f x h) (cond b (Return (lived (renamed rename h) Over)) (g (renamed rename h)))) (sym (over_same rename s x h)) (if_lives (is_over s x h) _ _ _ _ (_, refl, refl) (next h dialed))

  simulates_steps_on : (f g : History → Action RunResult) (x : Happening) (h : History) → Next f g → DialedHistory h → SimulatesRun (steps_on s f x h) (steps_on s g (renamed_event rename x) (renamed rename h))
  simulates_steps_on f g x h next dialed =
      simulates_bind rename IsDialed HasFollowed (Corresponds rename IsDialed HasFollowed apart s tails) IsRenamedResult _ _ (step s x h) _ (simulates_step rename IsDialed HasFollowed apart s tails x h dialed) (λ at now is. rw is.0 (simulates_goes_on f g x at next is.1))

  simulates_unless_last : (ticks : Option ℕ) (f : History → Action RunResult) (x : Happening) → Next f f → Next (unless_last s ticks f x) (unless_last s ticks f (renamed_event rename x))
  simulates_unless_last ticks f x next h dialed =
      subst (λ (b : Bool). SimulatesRun (unless_last s ticks f x h) (cond b (steps_on s f happening.Stop (renamed rename h)) (f (renamed rename h)))) (sym (last_same rename s ticks x h))
      (if_lives (is_last_tick s ticks x h) _ _ _ _ (simulates_steps_on f f happening.Stop h next dialed) (next h dialed))

  simulates_after_step : (ticks : Option ℕ) (f : History → Action RunResult) (x : Happening) → Next f f → Next (after_step s ticks f x) (after_step s ticks f (renamed_event rename x))
  simulates_after_step ticks f x next h dialed =
      simulates_puts (tracked s) (goes_on s (unless_last s ticks f x) x) (goes_on s (unless_last s ticks f (renamed_event rename x)) (renamed_event rename x)) kept
      (λ at known. simulates_goes_on (unless_last s ticks f x) (unless_last s ticks f (renamed_event rename x)) x at (simulates_unless_last ticks f x next) known) h dialed

  simulates_turn : (ticks : Option ℕ) (f : History → Action RunResult) (x : Happening) (h : History) → Next f f → DialedHistory h
      → SimulatesRun (bind (step s x h) (after_step s ticks f x)) (bind (step s (renamed_event rename x) (renamed rename h)) (after_step s ticks f (renamed_event rename x)))
  simulates_turn ticks f x h next dialed =
      simulates_bind rename IsDialed HasFollowed (Corresponds rename IsDialed HasFollowed apart s tails) IsRenamedResult _ _ (step s x h) _ (simulates_step rename IsDialed HasFollowed apart s tails x h dialed)
      (λ at now is. rw is.0 (simulates_after_step ticks f x next at is.1))

  simulates_brought : (ticks : Option ℕ) (f : History → Action RunResult) (h : History) (x : Happening) → Next f f → DialedHistory h → SimulatesRun (brought s ticks f h x) (brought s ticks f (renamed rename h) (renamed_event rename x))
  simulates_brought ticks f h happening.Failed next dialed = (_, refl, refl)
  simulates_brought ticks f h x next dialed = simulates_turn ticks f x h next dialed

  simulates_run : (ticks : Option ℕ) (turns : ℕ) → Next (run s ticks turns) (run s ticks turns)
  unfolding run
  simulates_run ticks zero h dialed = (_, refl, refl)
  simulates_run ticks (suc turns) h dialed =
      subst (λ (mask : ℕ). SimulatesRun (run s ticks (suc turns) h) (Ask (OnLoop (Wait (saturating_plus (clock (renamed rename h)) longest_wait) mask)) (brought s ticks (run s ticks turns) (renamed rename h)))) (sym (paused_same rename s h))
      (subst (λ (now : ℕ). SimulatesRun (run s ticks (suc turns) h) (Ask (OnLoop (Wait (saturating_plus now longest_wait) (paused s h))) (brought s ticks (run s ticks turns) (renamed rename h)))) (sym (clock_same rename h))
      (_, refl, tt, λ x _. simulates_brought ticks (run s ticks turns) h x (λ at known. simulates_run ticks turns at known) dialed))

  -- ---- a life

  simulates_after_start : (ticks : Option ℕ) (turns : ℕ) (h : History) (ready : Option (Unit {0})) → DialedHistory h → SimulatesRun (after_start s ticks turns h ready) (after_start s ticks turns (renamed rename h) ready)
  simulates_after_start ticks turns h None dialed = (_, refl, refl)
  simulates_after_start ticks turns h (Some ok) dialed = simulates_run ticks turns h dialed

  simulates_resumes : (input place : ℕ) (indexes : List ℕ) (f g : History → Action RunResult) → Next f g → Next (resumes input place indexes f) (resumes input place indexes g)
  simulates_resumes input place [] f g next h dialed = next h dialed
  simulates_resumes input place (index ∷ more) f g next h dialed = (_, refl, tt, λ _ _. simulates_resumes input place more f g next (Resumed input index place ∷ h) dialed)

  simulates_got : (t : Tracked) (failed f g : History → Action RunResult) (h : History) (answer : Option (Option ℕ)) → Next failed failed → Next f g → DialedHistory h
      → SimulatesRun (got s t failed f h answer) (got s t failed g (renamed rename h) answer)
  simulates_got t failed f g h None fails next dialed = fails h dialed
  simulates_got t failed f g h (Some None) fails next dialed = next h dialed
  simulates_got t failed f g h (Some (Some place)) fails next dialed = simulates_resumes t.input place (indexes_from 0 t.path (paths_at s t.input)) f g next h dialed

  simulates_gets : (ts : List Tracked) (failed f : History → Action RunResult) → (ts ≡ []) ⊎ HasFollowed → Next failed failed → Next f f → Next (gets s ts failed f) (gets s ts failed f)
  simulates_gets [] failed f either fails next h dialed = next h dialed
  simulates_gets (t ∷ ts) failed f (inl none) fails next h dialed = absurd (cc none)
  simulates_gets (t ∷ ts) failed f (inr followed) fails next h dialed =
      (_, refl, followed, λ x _. simulates_got t failed (gets s ts failed f) (gets s ts failed f) h x fails (simulates_gets ts failed f (inr followed) fails next) dialed)

  simulates_starts : (ends : Ends) (ticks : Option ℕ) (turns : ℕ) → Next (starts s ends ticks turns) (starts s ends ticks turns)
  simulates_starts ends ticks turns h dialed = (_, refl, tt, λ ready _. simulates_after_start ticks turns h ready dialed)

  abbrev RecoveryCorresponds : Option History → Option History → Type 0
  RecoveryCorresponds None None = Unit {0}
  RecoveryCorresponds (Some h) (Some k) = Corresponds rename IsDialed HasFollowed apart s tails h k
  RecoveryCorresponds a b = ⊥

  simulates_after_recovery : (ends : Ends) (ticks : Option ℕ) (turns : ℕ) (found now : Option History) → RecoveryCorresponds found now → SimulatesRun (after_recovery s ends ticks turns found) (after_recovery s ends ticks turns now)
  simulates_after_recovery ends ticks turns None None is = (_, refl, refl)
  simulates_after_recovery ends ticks turns (Some h) (Some k) is =
      rw is.0 (simulates_gets (tracked s) (λ now. Return (lived now KeeperFailed)) (starts s ends ticks turns) kept (λ at known. (_, refl, refl)) (simulates_starts ends ticks turns) h is.1)
  simulates_after_recovery ends ticks turns None (Some k) is = absurd is
  simulates_after_recovery ends ticks turns (Some h) None is = absurd is

  simulates_notes_files : (number : ℕ) (reads : List FileRead) (h : History) → DialedHistory h → Simulates rename IsDialed HasFollowed RecoveryCorresponds (notes_files number reads h) (notes_files number reads (renamed rename h))
  simulates_notes_files number [] h dialed = (_, refl, (refl, dialed))
  simulates_notes_files number (read ∷ reads) h dialed = (_, refl, tt, λ _ _. simulates_notes_files (number + 1) reads (Found number read.file.stream read.file.name read.bytes ∷ h) dialed)

  simulates_loaded : (read : Option (List FileRead)) → Simulates rename IsDialed HasFollowed RecoveryCorresponds (loaded read) (loaded read)
  simulates_loaded None = (_, refl, tt)
  simulates_loaded (Some reads) = simulates_notes_files 1 reads [] tt

  simulates_loads_from : (root : Option (List ℕ)) → Simulates rename IsDialed HasFollowed RecoveryCorresponds (loads_from root) (loads_from root)
  simulates_loads_from None = (_, refl, (refl, tt))
  simulates_loads_from (Some root) = simulates_disk rename IsDialed HasFollowed RecoveryCorresponds (load_program root) _ _ (λ x. simulates_loaded x)

  simulates_life : (ends : Ends) (ticks : Option ℕ) (turns : ℕ) → SimulatesRun (life s ends ticks turns) (life s ends ticks turns)
  unfolding life recovers
  simulates_life ends ticks turns =
      simulates_bind rename IsDialed HasFollowed RecoveryCorresponds IsRenamedResult _ _ (loads_from s.service.path) _ (simulates_loads_from s.service.path) (λ found now is. simulates_after_recovery ends ticks turns found now is)

  pub simulated_run : (ends : Ends) (ticks : Option ℕ) (turns : ℕ) (trace : List TraceEntry) (left : Action RunResult) → Execution (life s ends ticks turns) trace left → AllDialed rename IsDialed HasFollowed trace
      → IsSimulated rename IsDialed HasFollowed IsRenamedResult (life s ends ticks turns) trace left
  simulated_run ends ticks turns trace left way given =
      simulates_execution rename IsDialed HasFollowed IsRenamedResult left (life s ends ticks turns) (life s ends ticks turns) trace (simulates_life ends ticks turns) way given

  pub renamed_run : (ends : Ends) (ticks : Option ℕ) (turns : ℕ) (trace : List TraceEntry) (x : RunResult) → Execution (life s ends ticks turns) trace (Return x) → AllDialed rename IsDialed HasFollowed trace
      → Execution (life s ends ticks turns) (renamed_trace rename trace) (Return (renamed_result rename x))
  renamed_run ends ticks turns trace x way given =
      let there = simulated_run ends ticks turns trace (Return x) way given in
      let ended : there.rest ≡ Return (renamed_result rename x) = there.same.1 ∙ ap (λ (y : RunResult). Return y) there.same.2 in
      subst (λ (rest : Action RunResult). Execution (life s ends ticks turns) (renamed_trace rename trace) rest) ended there.way
