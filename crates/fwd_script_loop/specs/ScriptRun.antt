-- A script: its trace, its remaining events, and the changes of files before the next one.
use Rattle.std.specs.Prelude.{◌≡◌, ℕ, ◌&&◌, if◌then◌else◌, max, List, [], ◌∷◌, drop, take, find, Option, Some, None, is_some}
use Rattle.std.specs.List.{filter_map}
use Rattle.fwd_outside.specs.Loop.{LoopCall, LoopCounts, LoopEntry, LoopLog, Wait}
use Rattle.fwd_files_mem.specs.declared.change.FileChange.{FileChange}
use Rattle.fwd_script.specs.declared.schedule.Life.{Life}
use Rattle.fwd_script.specs.declared.schedule.Planned.{Planned}
use Rattle.fwd_script.specs.declared.schedule.Planned.TheVariants.{Happens, Ticks, Changes}
use Rattle.fwd_script.specs.declared.schedule.Given.{Given}
use Rattle.fwd_script_loop.specs.declared.answers.Answers.{Answers}
use Rattle.fwd_script_loop.specs.declared.call_record.LoopNote.{LoopNote}
use Rattle.fwd_script_loop.specs.declared.queue.Coming.{Coming}
use Rattle.fwd_script_loop.specs.FirstMatch.{without_first}
use Rattle.fwd_script_loop.specs.PauseMask.{hears}
use Rattle.fwd_script_loop.specs.Lines.{coming, ends_life, given_in, line_ahead}
use Rattle.fwd_script_loop.specs.Place.{IsPlayed, beginning, behind}
use Rattle.fwd_script_loop.specs.ScriptState.{ScriptState}
use Rattle.fwd_script_loop.specs.AnswersLeft.{AnswersLeft}
use Rattle.fwd_script_loop.specs.Told.{entries_of}
use Rattle.std.specs.Prelude.{Bool, false}

-- a run without calls so far
abbrev pub new_script : Life → ScriptState
new_script life =
    record {
      lines = life.lines;
      answers = life.answers;
      crashes = is_some life.cut;
      changed = 0;
      notes = [];
      brought = 0;
      greatest = 0;
      fails_to_start = false;
      faults = 0;
    }

-- a script that is to fail at its start, which no run says, has an empty trace
abbrev pub told_of : ScriptState → LoopLog
told_of held =
    if held.fails_to_start then None else Some (given_in held.lines held.answers, entries_of held.notes)

abbrev pub counts_of : ScriptState → LoopCounts
counts_of held = record { happenings = held.brought; greatest = held.greatest; endless = false }

-- each wait removes the first event whose input isn't paused
abbrev pub ahead_after : List Coming → LoopCall → List Coming
ahead_after ahead (Wait until paused) = without_first (hears paused) ahead
ahead_after ahead call = ahead

abbrev pub ahead_after_calls : List Coming → List LoopEntry → List Coming
ahead_after_calls ahead [] = ahead
ahead_after_calls ahead (e ∷ es) = ahead_after_calls (ahead_after ahead e.call) es

-- the remaining events after the calls so far, each with its line
abbrev pub ahead_in : ScriptState → List Coming
ahead_in held = ahead_after_calls (coming 0 held.lines) (entries_of held.notes)

-- what a wait with this mask would return; `None` for the end
abbrev pub next_in : ℕ → ScriptState → Option Coming
next_in paused held = find (hears paused) (ahead_in held)

-- whether the run has a cut, and the next event is that of the cut, the last of the run
abbrev pub is_before_crash : ℕ → ScriptState → Bool
is_before_crash paused held = held.crashes && ends_life held.lines (next_in paused held)

abbrev pub change_in : Planned → Option FileChange
change_in (Happens happening) = None
change_in (Ticks first step count) = None
change_in (Changes change) = Some change

-- the changes of the lines from one index up to another
abbrev pub changes_between : List Planned → ℕ → ℕ → List FileChange
changes_between lines from upto = filter_map change_in (drop from (take upto lines))

-- the index of the line that a wait with this mask would return, or the number of lines if it would return
-- the end
abbrev pub upto_in : ℕ → ScriptState → ℕ
upto_in paused held = line_ahead held.lines (next_in paused held)

-- the remaining changes before it
abbrev pub changes_in : ℕ → ScriptState → List FileChange
changes_in paused held = changes_between held.lines held.changed (upto_in paused held)

-- after a call that removed them
abbrev pub changed : ℕ → ScriptState → ScriptState
changed paused held = record held { changed = max held.changed (upto_in paused held) }

-- The fields of a script: its answers so far are those of the run, and what remains of the run is what
-- remains at its place.
pub record IsKept (lines : List Planned) (answers : List Given) (notes : List LoopNote) (ahead : List Coming)
    (left : Answers) : Type 0 where
  pub played : IsPlayed (given_in lines answers) (entries_of notes)
  pub ahead_is : ahead ≡ ahead_after_calls (coming 0 lines) (entries_of notes)
  pub stands : AnswersLeft left (behind (beginning (given_in lines answers)) (entries_of notes))
