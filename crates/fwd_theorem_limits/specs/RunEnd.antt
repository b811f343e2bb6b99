-- When a run is due to end.
use Rattle.std.specs.Prelude.{◌≡◌, ℕ, ◌+◌, ◌*◌, ◌≤◌, ◌||◌, Bool, true, false, [], ◌∷◌, ◌++◌, Contains, Option, Some, None}
use Rattle.fwd_outside.specs.declared.happening.Happening.{Happening}
use Rattle.fwd_outside.specs.declared.happening.Happening.TheVariants as happening
use Rattle.fwd_settings.specs.declared.settings_types.AllSettings.{AllSettings}
use Rattle.fwd_model.specs.Fact.{History, Happened}
use Rattle.fwd_model.specs.Settings.{reads_stdin_at, outputs_for}
use Rattle.fwd_model.specs.Clock.{clock}
use Rattle.fwd_model.specs.Chunks.{ChunkInfo, chunks_of}
use Rattle.fwd_model.specs.Routes.{route}
use Rattle.fwd_theorem_trace.specs.Resolution.{IsResolved}

-- the last event of a history
abbrev pub latest_event : History → Option Happening
latest_event [] = None
latest_event (Happened brought ∷ h) = Some brought
latest_event (fact ∷ h) = latest_event h

-- whether an event stops a run: `Stop`, and the end of a standard input
abbrev pub is_stop : AllSettings → Happening → Bool
is_stop s happening.Stop = true
is_stop s (happening.InputEnd input) = reads_stdin_at s input.0
is_stop s brought = false

-- whether any event so far stopped the run
abbrev pub has_stop : AllSettings → History → Bool
has_stop s [] = false
has_stop s (Happened brought ∷ h) = is_stop s brought || has_stop s h
has_stop s (fact ∷ h) = has_stop s h

-- the first event that stopped the run, and the history before it
pub record FirstStop (s : AllSettings) (h : History) : Type 0 where
  pub later : History
  pub brought : Happening
  pub before : History
  pub is : h ≡ later ++ Happened brought ∷ before
  pub stops : is_stop s brought ≡ true
  pub first : has_stop s before ≡ false

-- each chunk is resolved for each output that it matches
abbrev pub NothingIsPending : AllSettings → History → Type 0
NothingIsPending s h =
    (c : ChunkInfo) (output : ℕ) → Contains (chunks_of h) c → Contains (outputs_for s c.tag) output
    → IsResolved s h (route c.number output)

-- A run is due to end at the event `End`. Once it was stopped, it is due to end if nothing is pending, or at a
-- tick when the clock has advanced by the grace time since the first event that stopped it.
pub data IsDueToEnd (s : AllSettings) (h : History) : Type 0 where
  AtEnd : latest_event h ≡ Some happening.End → IsDueToEnd s h
  IsDone : FirstStop s h → NothingIsPending s h → IsDueToEnd s h
  IsOutOfTime : (stop : FirstStop s h) (now : ℕ) → latest_event h ≡ Some (happening.Tick now)
      → clock stop.before + 1000 * s.service.grace_s ≤ clock h → IsDueToEnd s h
