-- The course of a run, after calls.
use Rattle.std.proofs.Common.{◌≡◌, ℕ, ◌+◌, ◌==◌, Bool, true, false, not, ◌&&◌, ◌||◌, if◌then◌else◌, List, [], ◌∷◌, ◌++◌, length, take, drop, Option, Some, None, is_some, Result, Ok, Err, OnOk, refl, sym, ◌∙◌, ap, subst, append_assoc, arith}
use Rattle.std.specs.Option.{option_map}
use Rattle.std.specs.List.{cons_option, list_any}
use Rattle.std.specs.Str.{bytes_eq}
use Rattle.std.proofs.lemmas.Bool.{or_from, or_parts}
use Rattle.std.proofs.lemmas.List.{append-nil}
use Rattle.std.proofs.lemmas.Slice.Eq.{bytes_eq-Decides}
use Rattle.fwd_outside.specs.Program.{entry}
use Rattle.fwd_outside.specs.declared.happening.Happening.{Happening}
use Rattle.fwd_outside.specs.Loop.{LoopEntry, Wait}
use Rattle.fwd_outside.specs.Files.{FilesCall, FilesAnswer, FilesEntry, FilesGiven, Length, ReadAt, Changed, FailAt, found, files_after, files_after_all}
use Rattle.fwd_files_mem.specs.declared.files.FilesNote.TheVariants as note
use Rattle.fwd_script.specs.declared.schedule.Cut.{Cut}
use Rattle.fwd_files_mem.specs.declared.change.FileChange.{FileChange}
use Rattle.fwd_files_mem.specs.declared.change.FileChange.TheVariants as file_change
use Rattle.fwd_script.specs.declared.schedule.Planned.{Planned}
use Rattle.fwd_script.specs.declared.schedule.Planned.TheVariants.{Changes}
use Rattle.fwd_files_mem.specs.FilesState.{FilesState}
use Rattle.fwd_files_mem.specs.FilesAnswers.{IsPlayed, answer_behind, fails_of, is_made, made_of, readable_after, to_fail}
use Rattle.fwd_files_mem.specs.MemFiles.{changed, entries_from, preset_entries, with_note, path_of}
use Rattle.fwd_files_mem.proofs.FilesInvariant.{entries_push}
use Rattle.fwd_files_mem.proofs.FilePaths.{has_none}
use Rattle.fwd_script_loop.specs.ScriptRun.{ahead_after_calls, change_in}
use Rattle.fwd_model.specs.Trace.{Call, Answer, TraceEntry, OnLoop, OnDisk, OnFiles, OnKeeper, Note, loop_entry, loop_part, files_entry, files_part}
use Rattle.fwd_theorem_trace.proofs.WaitCounts.{is_plain, ArePlain}
use Rattle.fwd_replay.specs.FileChanges.{FilesAt, Course, IsCourseAnswer, FilesAnswered, answer_at, course_after, after_call, brings_last, content_after, has_last, is_last_next, reads_from}
use Rattle.fwd_replay.specs.RunState.{FilesRepresent}

-- ---- some calls, and more after them

pub behind_append : (course : Course) (es more : List TraceEntry) → course_after course (es ++ more) ≡ course_after (course_after course es) more
behind_append course [] more = refl
behind_append course (e ∷ es) more = behind_append (after_call e.call course) es more

pub answered_append : (course : Course) (es more : List TraceEntry) → FilesAnswered course es → FilesAnswered (course_after course es) more → FilesAnswered course (es ++ more)
answered_append course [] more first second = second
answered_append course (e ∷ es) more first second = (first.0, answered_append (after_call e.call course) es more first.1 second)

-- neither part has the last event
pub last_append : (course : Course) (es more : List TraceEntry) → has_last course es ≡ false → has_last (course_after course es) more ≡ false → has_last course (es ++ more) ≡ false
last_append course [] more first second = second
last_append course (e ∷ es) more first second =
    let parts = or_parts (brings_last e.call course) (has_last (after_call e.call course) es) first in
    or_from (brings_last e.call course) (has_last (after_call e.call course) (es ++ more)) parts.0 (last_append (after_call e.call course) es more parts.1 second)

pub uncut_append : (cut : Option Cut) (course : Course) (es more : List TraceEntry) → (is_some cut && has_last course es) ≡ false → (is_some cut && has_last (course_after course es) more) ≡ false
    → (is_some cut && has_last course (es ++ more)) ≡ false
uncut_append None course es more first second = refl
uncut_append (Some cut) course es more first second = last_append course es more first second

-- ---- what stays, and what calls of the loop leave to come

ahead_call : (call : Call) (answer : Answer call) (course : Course) (rest : List LoopEntry) → ahead_after_calls course.ahead (loop_entry call answer ++ rest) ≡ ahead_after_calls (after_call call course).ahead rest
ahead_call (OnLoop (Wait until paused)) answer course rest = refl
ahead_call (OnLoop call) answer course rest = refl
ahead_call (OnDisk call) answer course rest = refl
ahead_call (OnFiles call) answer course rest = refl
ahead_call (OnKeeper call) answer course rest = refl
ahead_call (Note fact) answer course rest = refl

pub ahead_is : (course : Course) (es : List TraceEntry) → ahead_after_calls course.ahead (loop_part es) ≡ (course_after course es).ahead
ahead_is course [] = refl
ahead_is course (e ∷ es) = ahead_call e.call e.answer course (loop_part es) ∙ ahead_is (after_call e.call course) es

lines_call : (call : Call) (course : Course) → (after_call call course).lines ≡ course.lines
lines_call (OnLoop (Wait until paused)) course = refl
lines_call (OnLoop call) course = refl
lines_call (OnDisk call) course = refl
lines_call (OnFiles call) course = refl
lines_call (OnKeeper call) course = refl
lines_call (Note fact) course = refl

pub lines_stay : (course : Course) (es : List TraceEntry) → (course_after course es).lines ≡ course.lines
lines_stay course [] = refl
lines_stay course (e ∷ es) = lines_stay (after_call e.call course) es ∙ lines_call e.call course

-- ---- calls without a wait

made_append : (es more : List FilesEntry) → made_of (es ++ more) ≡ made_of es + made_of more
made_append [] more = omega arith
made_append (e ∷ es) more = let rest = made_append es more in omega (arith, rest)

fails_append : (es more : List FilesEntry) → fails_of (es ++ more) ≡ fails_of es ++ fails_of more
fails_append [] more = refl
fails_append (e ∷ es) more = ap (λ (l : List ℕ). to_fail e.call ++ l) (fails_append es more) ∙ sym (append_assoc (to_fail e.call) (fails_of es) (fails_of more))

pub with_calls : Course → ℕ → Course
with_calls course n = record course { files = record course.files { calls = n } }

plain_call : (call : Call) (answer : Answer call) (course : Course) → is_plain call ≡ true → after_call call course ≡ with_calls course (course.files.calls + made_of (files_entry call answer))
unfolding with_calls
plain_call (OnLoop (Wait until paused)) answer course plain = absurd (cc plain)
plain_call (OnLoop call) answer course plain = let none : course.files.calls ≡ course.files.calls + 0 = omega arith in ap (λ (n : ℕ). with_calls course n) none
plain_call (OnDisk call) answer course plain = let none : course.files.calls ≡ course.files.calls + 0 = omega arith in ap (λ (n : ℕ). with_calls course n) none
plain_call (OnFiles (Length path)) answer course plain = refl
plain_call (OnFiles (ReadAt path at max)) answer course plain = refl
plain_call (OnFiles (Changed path bytes)) answer course plain = absurd (cc plain)
plain_call (OnFiles (FailAt number)) answer course plain = absurd (cc plain)
plain_call (OnKeeper call) answer course plain = let none : course.files.calls ≡ course.files.calls + 0 = omega arith in ap (λ (n : ℕ). with_calls course n) none
plain_call (Note fact) answer course plain = let none : course.files.calls ≡ course.files.calls + 0 = omega arith in ap (λ (n : ℕ). with_calls course n) none

-- only calls on files are counted
pub plain_behind : (course : Course) (es : List TraceEntry) → ArePlain es → course_after course es ≡ with_calls course (course.files.calls + made_of (files_part es))
unfolding with_calls
plain_behind course [] plain = let none : course.files.calls ≡ course.files.calls + 0 = omega arith in ap (λ (n : ℕ). with_calls course n) none
plain_behind course (e ∷ es) plain =
    let calls = course.files.calls in
    let one = made_of (files_entry e.call e.answer) in
    let sum : (calls + one) + made_of (files_part es) ≡ calls + made_of (files_entry e.call e.answer ++ files_part es) = omega (arith, made_append (files_entry e.call e.answer) (files_part es)) in
    ap (λ (c : Course). course_after c es) (plain_call e.call e.answer course plain.0)
    ∙ plain_behind (with_calls course (calls + one)) es plain.1
    ∙ ap (λ (n : ℕ). with_calls course n) sum

pub plain_changed : (course : Course) (es : List TraceEntry) → ArePlain es → (course_after course es).changed ≡ course.changed
unfolding with_calls
plain_changed course es plain = ap (λ (c : Course). c.changed) (plain_behind course es plain)

no_last_call : (call : Call) (course : Course) → is_plain call ≡ true → brings_last call course ≡ false
no_last_call (OnLoop (Wait until paused)) course plain = absurd (cc plain)
no_last_call call course plain = refl

pub plain_last : (course : Course) (es : List TraceEntry) → ArePlain es → has_last course es ≡ false
plain_last course [] plain = refl
plain_last course (e ∷ es) plain =
    or_from (brings_last e.call course) (has_last (after_call e.call course) es) (no_last_call e.call course plain.0) (plain_last (after_call e.call course) es plain.1)

-- ---- the files by their call log, and at a position

pub record Alike (given : FilesGiven) (call_log : List FilesEntry) (files : FilesAt) : Type 0 where
  pub has : (path : List ℕ) → found (files_after_all given call_log) path ≡ content_after None files.changes path
  pub made : made_of call_log ≡ files.calls
  pub fails : fails_of call_log ≡ files.fails

pub alike_held : (held : FilesState) (files : FilesAt) → FilesRepresent held files → Alike held.given (entries_from held.given held.notes) files
alike_held held files stands = record { has = stands.has; made = stands.made; fails = stands.fails }

pub held_alike : (held : FilesState) (files : FilesAt) → Alike held.given (entries_from held.given held.notes) files → FilesRepresent held files
held_alike held files alike = record { has = alike.has; made = alike.made; fails = alike.fails }

told_append : (given : FilesGiven) (es more : List FilesEntry) → files_after_all given (es ++ more) ≡ files_after_all (files_after_all given es) more
told_append given [] more = refl
told_append given (e ∷ es) more = told_append (files_after given e.call) es more

module _ (given : FilesGiven) (call_log : List FilesEntry) (files : FilesAt) (alike : Alike given call_log files) where
  reads_alike : (path : List ℕ) → readable_after given call_log path ≡ reads_from files path
  reads_alike path =
      let content = found (files_after_all given call_log) path in
      ap (λ (l : List ℕ). if not (list_any (λ (n : ℕ). n == made_of call_log + 1) l) then content else None) alike.fails
      ∙ ap (λ (m : ℕ). if not (list_any (λ (n : ℕ). n == m + 1) files.fails) then content else None) alike.made
      ∙ by (list_any (λ (n : ℕ). n == files.calls + 1) files.fails) content (content_after None files.changes path) (alike.has path)
    where
      by : (fails : Bool) (a b : Option (List ℕ)) → a ≡ b → (if not fails then a else None) ≡ (if fails then None else b)
      by true a b is = refl
      by false a b is = is

  pub answers_alike : (call : FilesCall) → answer_behind given call_log call ≡ answer_at files call
  answers_alike (Length path) = ap (λ (c : Option (List ℕ)). option_map (λ (bytes : List ℕ). length bytes) c) (reads_alike path)
  answers_alike (ReadAt path at max) = ap (λ (c : Option (List ℕ)). option_map (λ (bytes : List ℕ). take max (drop at bytes)) c) (reads_alike path)
  answers_alike (Changed path bytes) = refl
  answers_alike (FailAt number) = refl

  -- after a logged call that changes no file
  counted_alike : (call : FilesCall) (answer : FilesAnswer call) → files_after (files_after_all given call_log) call ≡ files_after_all given call_log → to_fail call ≡ []
      → Alike given (call_log ++ entry call answer ∷ []) (record files { calls = files.calls + (if is_made call then 1 else 0) })
  counted_alike call answer unchanged unfailing = record {
    has = λ path. ap (λ (f : FilesGiven). found f path) (told_append given call_log (entry call answer ∷ []) ∙ unchanged) ∙ alike.has path;
    made = made_append call_log (entry call answer ∷ []) ∙ (let same = alike.made in omega (arith, same));
    fails = fails_append call_log (entry call answer ∷ []) ∙ ap (λ (l : List ℕ). fails_of call_log ++ (l ++ [])) unfailing ∙ append-nil (fails_of call_log) ∙ alike.fails;
  }

-- after one call
alike_call : (given : FilesGiven) (call_log : List FilesEntry) (course : Course) (call : Call) (answer : Answer call) → is_plain call ≡ true → Alike given call_log course.files
    → Alike given (call_log ++ files_entry call answer) (after_call call course).files
alike_call given call_log course (OnLoop (Wait until paused)) answer plain alike = absurd (cc plain)
alike_call given call_log course (OnLoop call) answer plain alike = subst (λ (l : List FilesEntry). Alike given l course.files) (sym (append-nil call_log)) alike
alike_call given call_log course (OnDisk call) answer plain alike = subst (λ (l : List FilesEntry). Alike given l course.files) (sym (append-nil call_log)) alike
alike_call given call_log course (OnFiles (Length path)) answer plain alike = counted_alike given call_log course.files alike (Length path) answer refl refl
alike_call given call_log course (OnFiles (ReadAt path at max)) answer plain alike = counted_alike given call_log course.files alike (ReadAt path at max) answer refl refl
alike_call given call_log course (OnFiles (Changed path bytes)) answer plain alike = absurd (cc plain)
alike_call given call_log course (OnFiles (FailAt number)) answer plain alike = absurd (cc plain)
alike_call given call_log course (OnKeeper call) answer plain alike = subst (λ (l : List FilesEntry). Alike given l course.files) (sym (append-nil call_log)) alike
alike_call given call_log course (Note fact) answer plain alike = subst (λ (l : List FilesEntry). Alike given l course.files) (sym (append-nil call_log)) alike

pub plain_alike : (given : FilesGiven) (call_log : List FilesEntry) (course : Course) (es : List TraceEntry) → ArePlain es → Alike given call_log course.files → Alike given (call_log ++ files_part es) (course_after course es).files
plain_alike given call_log course [] plain alike = subst (λ (l : List FilesEntry). Alike given l course.files) (sym (append-nil call_log)) alike
plain_alike given call_log course (e ∷ es) plain alike =
    let after = after_call e.call course in
    subst (λ (l : List FilesEntry). Alike given l (course_after after es).files) (append_assoc call_log (files_entry e.call e.answer) (files_part es))
    (plain_alike given (call_log ++ files_entry e.call e.answer) after es plain.1 (alike_call given call_log course e.call e.answer plain.0 alike))

answered_call : (given : FilesGiven) (call_log : List FilesEntry) (course : Course) (call : Call) (answer : Answer call) (more : List FilesEntry) → Alike given call_log course.files
    → IsPlayed given call_log (files_entry call answer ++ more) → IsCourseAnswer course call answer × IsPlayed given (call_log ++ files_entry call answer) more
answered_call given call_log course (OnLoop call) answer more alike played = (tt, subst (λ (l : List FilesEntry). IsPlayed given l more) (sym (append-nil call_log)) played)
answered_call given call_log course (OnDisk call) answer more alike played = (tt, subst (λ (l : List FilesEntry). IsPlayed given l more) (sym (append-nil call_log)) played)
answered_call given call_log course (OnFiles call) answer more alike played = (played.0 ∙ answers_alike given call_log course.files alike call, played.1)
answered_call given call_log course (OnKeeper call) answer more alike played = (tt, subst (λ (l : List FilesEntry). IsPlayed given l more) (sym (append-nil call_log)) played)
answered_call given call_log course (Note fact) answer more alike played = (tt, subst (λ (l : List FilesEntry). IsPlayed given l more) (sym (append-nil call_log)) played)

-- files that answer as their call log says answer as they are to at their position
pub plain_answered : (given : FilesGiven) (call_log : List FilesEntry) (course : Course) (es : List TraceEntry) → ArePlain es → Alike given call_log course.files → IsPlayed given call_log (files_part es) → FilesAnswered course es
plain_answered given call_log course [] plain alike played = tt
plain_answered given call_log course (e ∷ es) plain alike played =
    let one = answered_call given call_log course e.call e.answer (files_part es) alike played in
    (one.0, plain_answered given (call_log ++ files_entry e.call e.answer) (after_call e.call course) es plain.1 (alike_call given call_log course e.call e.answer plain.0 alike) one.1)

pub played_second : (given : FilesGiven) (before es more : List FilesEntry) → IsPlayed given before (es ++ more) → IsPlayed given (before ++ es) more
played_second given before [] more played = subst (λ (l : List FilesEntry). IsPlayed given l more) (sym (append-nil before)) played
played_second given before (e ∷ es) more played = subst (λ (l : List FilesEntry). IsPlayed given l more) (append_assoc before (e ∷ []) es) (played_second given (before ++ e ∷ []) es more played.1)

-- ---- changes

pub content_append : (now : Option (List ℕ)) (changes more : List FileChange) (path : List ℕ) → content_after now (changes ++ more) path ≡ content_after (content_after now changes path) more path
content_append now [] more path = refl
content_append now (change ∷ changes) more path = content_append (if bytes_eq (path_of change) path then changed change now else now) changes more path

none_changed : (change : FileChange) (content : Option (List ℕ)) → changed change content ≡ None → content ≡ None
none_changed (file_change.Append path bytes) content is = absurd (cc is)
none_changed (file_change.Cut path most) None is = refl
none_changed (file_change.Cut path most) (Some bytes) is = absurd (cc is)

has_then : (now : FilesGiven) (path : List ℕ) (content : Option (List ℕ)) → (content ≡ None → found now path ≡ None) → (other : List ℕ)
    → found (files_after_all now (preset_entries path content)) other ≡ (if bytes_eq path other then content else found now other)
has_then now path (Some bytes) gone other = refl
has_then now path None gone other = has_none now path (gone refl) other

changed_there : (now : FilesGiven) (change : FileChange) (other : List ℕ) (b : Bool) → bytes_eq (path_of change) other ≡ b
    → (if b then changed change (found now (path_of change)) else found now other) ≡ (if b then changed change (found now other) else found now other)
changed_there now change other true is = ap (λ (path : List ℕ). changed change (found now path)) ((bytes_eq-Decides (path_of change) other).0 is)
changed_there now change other false is = refl

no_calls : (path : List ℕ) (content : Option (List ℕ)) → made_of (preset_entries path content) ≡ 0
no_calls path (Some bytes) = refl
no_calls path None = refl

no_fails : (path : List ℕ) (content : Option (List ℕ)) → fails_of (preset_entries path content) ≡ []
no_fails path (Some bytes) = refl
no_fails path None = refl

alike_change : (given : FilesGiven) (call_log : List FilesEntry) (files : FilesAt) (change : FileChange) → Alike given call_log files
    → Alike given (call_log ++ preset_entries (path_of change) (changed change (found (files_after_all given call_log) (path_of change)))) (record files { changes = files.changes ++ change ∷ [] })
alike_change given call_log files change alike =
    let now = files_after_all given call_log in
    let path = path_of change in
    let content = changed change (found now path) in
    record {
      has = λ other.
          ap (λ (f : FilesGiven). found f other) (told_append given call_log (preset_entries path content))
          ∙ has_then now path content (none_changed change (found now path)) other
          ∙ changed_there now change other (bytes_eq path other) refl
          ∙ ap (λ (c : Option (List ℕ)). if bytes_eq path other then changed change c else c) (alike.has other)
          ∙ sym (content_append None files.changes (change ∷ []) other);
      made = made_append call_log (preset_entries path content) ∙ (let none = no_calls path content in let same = alike.made in omega (arith, none, same));
      fails = fails_append call_log (preset_entries path content) ∙ ap (λ (l : List ℕ). fails_of call_log ++ l) (no_fails path content) ∙ append-nil (fails_of call_log) ∙ alike.fails;
    }

-- files in memory after a change
pub stand_changed : (held new : FilesState) (change : FileChange) (files : FilesAt) → new ≡ with_note held (note.Change change) → FilesRepresent held files → FilesRepresent new (record files { changes = files.changes ++ change ∷ [] })
stand_changed held new change files is stands =
    let path = path_of change in
    let call_log = entries_from held.given held.notes in
    let after = record files { changes = files.changes ++ change ∷ [] } in
    subst (λ (h : FilesState). FilesRepresent h after) (sym is)
    (held_alike (with_note held (note.Change change)) after
    (subst (λ (l : List FilesEntry). Alike held.given l after) (sym (entries_push held.given held.notes (note.Change change))) (alike_change held.given call_log files change (alike_held held files stands))))

pub stand_same : (held : FilesState) (files : FilesAt) → FilesRepresent held files → FilesRepresent held (record files { changes = files.changes ++ [] })
stand_same held files stands = subst (λ (l : List FileChange). FilesRepresent held (record files { changes = l })) (sym (append-nil files.changes)) stands

pub stand_more : (held : FilesState) (files : FilesAt) (a b c : List FileChange) → c ≡ a ++ b → FilesRepresent held (record files { changes = (files.changes ++ a) ++ b }) → FilesRepresent held (record files { changes = files.changes ++ c })
stand_more held files a b c is stands = subst (λ (l : List FileChange). FilesRepresent held (record files { changes = l })) (append_assoc files.changes a b ∙ ap (λ (l : List FileChange). files.changes ++ l) (sym is)) stands

-- a line whose change was made
pub line_changed : {T E : Type 0} (r : Result T E) (held new : FilesState) (planned : Planned) (change : FileChange) → planned ≡ Changes change → OnOk r (new ≡ with_note held (note.Change change))
    → OnOk r ((files : FilesAt) → FilesRepresent held files → FilesRepresent new (record files { changes = files.changes ++ cons_option (change_in planned) [] }))
line_changed (Ok done) held new planned change is made = λ files stands.
    subst (λ (p : Planned). FilesRepresent new (record files { changes = files.changes ++ cons_option (change_in p) [] })) (sym is) (stand_changed held new change files made stands)
line_changed (Err e) held new planned change is made = tt
