-- The files of a schedule: their content, their answers, and when they change.
use Rattle.std.specs.Prelude.{◌≡◌, ℕ, ◌+◌, ◌==◌, Bool, false, ◌||◌, max, if◌then◌else◌, List, [], ◌∷◌, ◌++◌, length, take, drop, find, Option, None}
use Rattle.std.specs.Option.{option_map}
use Rattle.std.specs.List.{list_any}
use Rattle.std.specs.Str.{bytes_eq}
use Rattle.fwd_outside.specs.Files.{FilesCall, FilesAnswer, Length, ReadAt, Changed, FailAt}
use Rattle.fwd_outside.specs.Loop.{LoopCall, Wait}
use Rattle.fwd_files_mem.specs.declared.change.FileChange.{FileChange}
use Rattle.fwd_script.specs.declared.schedule.Planned.{Planned}
use Rattle.fwd_files_mem.specs.MemFiles.{path_of, changed}
use Rattle.fwd_files_mem.specs.FilesAnswers.{is_made}
use Rattle.fwd_script_loop.specs.declared.queue.Coming.{Coming}
use Rattle.fwd_script_loop.specs.FirstMatch.{without_first}
use Rattle.fwd_script_loop.specs.PauseMask.{hears}
use Rattle.fwd_script_loop.specs.ScriptRun.{changes_between}
use Rattle.fwd_script_loop.specs.Lines.{ends_life, line_ahead}
use Rattle.fwd_model.specs.Trace.{Call, Answer, TraceEntry, OnLoop, OnDisk, OnFiles, OnKeeper, Note}

-- the content of a path after these changes, given the content before; none if there is no file
abbrev pub content_after : Option (List ℕ) → List FileChange → List ℕ → Option (List ℕ)
content_after now [] path = now
content_after now (change ∷ changes) path =
    content_after (if bytes_eq (path_of change) path then changed change now else now) changes path

-- There was no file at first. All runs so far made these changes. This run made that many calls, and the
-- calls of these numbers, from 1, fail.
pub record FilesAt : Type 0 where
  pub changes : List FileChange
  pub fails : List ℕ
  pub calls : ℕ

-- the bytes that the next call reads from; none if it fails
abbrev pub reads_from : FilesAt → List ℕ → Option (List ℕ)
reads_from files path =
    if list_any (λ number. number == files.calls + 1) files.fails then None
    else content_after None files.changes path

abbrev pub answer_at : FilesAt → (call : FilesCall) → FilesAnswer call
answer_at files (Length path) = option_map length (reads_from files path)
answer_at files (ReadAt path at max) = option_map (λ bytes. take max (drop at bytes)) (reads_from files path)
answer_at files (Changed path bytes) = tt
answer_at files (FailAt number) = tt

-- How far a run has come: the events that its lines still bring, how many of the first lines had their
-- changes made, and the files.
pub record Course : Type 0 where
  pub lines : List Planned
  pub ahead : List Coming
  pub changed : ℕ
  pub files : FilesAt

-- the event that a wait returns while these inputs are paused; none if it returns the end
abbrev pub next_in : ℕ → Course → Option Coming
next_in paused course = find (hears paused) course.ahead

-- Before a wait returns an event, the changes in the lines before it are made, unless they already were.
abbrev pub changes_before : ℕ → Course → List FileChange
changes_before paused course =
    changes_between course.lines course.changed (line_ahead course.lines (next_in paused course))

abbrev pub after_wait : ℕ → Course → Course
after_wait paused course = record course {
  ahead = without_first (hears paused) course.ahead;
  changed = max course.changed (line_ahead course.lines (next_in paused course));
  files = record course.files { changes = course.files.changes ++ changes_before paused course };
}

abbrev pub after_loop : LoopCall → Course → Course
after_loop (Wait until paused) course = after_wait paused course
after_loop call course = course

abbrev pub after_files : FilesCall → Course → Course
after_files call course =
    record course
    { files = record course.files { calls = course.files.calls + (if is_made call then 1 else 0) } }

abbrev pub after_call : Call → Course → Course
after_call (OnLoop call) course = after_loop call course
after_call (OnDisk call) course = course
after_call (OnFiles call) course = after_files call course
after_call (OnKeeper call) course = course
after_call (Note fact) course = course

-- after these calls
abbrev pub course_after : Course → List TraceEntry → Course
course_after course [] = course
course_after course (e ∷ es) = course_after (after_call e.call course) es

-- the answer of files is the one at its position
abbrev pub IsCourseAnswer : Course → (call : Call) → Answer call → Type 0
IsCourseAnswer course (OnLoop call) answer = Unit {0}
IsCourseAnswer course (OnDisk call) answer = Unit {0}
IsCourseAnswer course (OnFiles call) answer = answer ≡ answer_at course.files call
IsCourseAnswer course (OnKeeper call) answer = Unit {0}
IsCourseAnswer course (Note fact) answer = Unit {0}

abbrev pub FilesAnswered : Course → List TraceEntry → Type 0
FilesAnswered course [] = Unit {0}
FilesAnswered course (e ∷ es) =
    IsCourseAnswer course e.call e.answer × FilesAnswered (after_call e.call course) es

-- the wait returns the last event of the run
abbrev pub is_last_next : ℕ → Course → Bool
is_last_next paused course = ends_life course.lines (next_in paused course)

abbrev pub brings_last : Call → Course → Bool
brings_last (OnLoop (Wait until paused)) course = is_last_next paused course
brings_last call course = false

-- one of these calls is a wait that returns it
abbrev pub has_last : Course → List TraceEntry → Bool
has_last course [] = false
has_last course (e ∷ es) = brings_last e.call course || has_last (after_call e.call course) es
