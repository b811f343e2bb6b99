-- The case of the texts of a generated load, as files in memory.
use Rattle.std.specs.Prelude.{◌≢◌, option_map}
use Rattle.std.proofs.Common.{◌≡◌, ℕ, zero, suc, ◌+◌, ◌-◌, ◌==◌, Bool, true, false, nat_lt, if◌then◌else◌, not, List, [], ◌∷◌, ◌++◌, length, take, drop, append_assoc, Option, Some, None, Result, Ok, Err, refl, sym, ap, subst, ◌∙◌, arith}
use Rattle.std.proofs.lemmas.List.{take_all}
use Rattle.std.specs.List.{list_any}
use Rattle.std.specs.Str.{chars, is_utf8}
use Rattle.std.proofs.lemmas.Bool.{le-ltb, lt-ltb}
use lib.Utf8.{encode}
use Rattle.fwd_outside.specs.Program.{Return, Ask, bind, Execution, entry}
use Rattle.fwd_outside.specs.Log.{LogGrew}
use Rattle.fwd_outside.specs.Files.{FilesGiven, FilesEntry, FilesCall, FilesAnswer, Length, ReadAt, Changed, FailAt, found, files_after, files_after_all, after_read, after_length, read_rest_program, read_whole_program}
use Rattle.fwd_config.specs.Sections.{Reading, with_file, load_program, reads_files, given}
use Rattle.fwd_config.specs.declared.section.Section.{Section}
use Rattle.fwd_config.specs.declared.fault.ConfigFault.{ConfigFault}
use Rattle.fwd_config.proofs.StableFiles.{way_parts, ended}
use Rattle.fwd_settings.specs.Reading.{Checked}
use Rattle.fwd_settings.specs.declared.settings_types.AllSettings.{AllSettings}
use Rattle.fwd_files_mem.specs.FilesState.{FilesState}
use Rattle.fwd_files_mem.specs.FilesAnswers.{fails_of, made_of, readable_after, to_fail, IsPlayed}
use Rattle.fwd_files_mem.specs.MemFiles.{entries_from, told_of}
use Rattle.fwd_script.specs.Schedule.{schedule_of}
use Rattle.fwd_script.specs.declared.schedule.Schedule.{Schedule}
use Rattle.fwd_script.specs.declared.refusal.ScheduleRefused.{ScheduleRefused}
use Rattle.fwd_replay.specs.Load.{config_text, schedule_text}
use Rattle.fwd_top.specs.Cases.{Case, Refuses, ToReplay, Asked, alone, asked, load_config, load_files, load_schedule, no_values, of_config, of_load, of_schedule, reports_of, with_sections}
use Rattle.fwd_top.specs.Results.{AsksFor, ComesOfLoad, IsOwnRefusal, IsRefusal, held_load, of_job, unless_memory}
use Rattle.fwd_top.specs.declared.job.Job.{Job}
use Rattle.fwd_top.specs.declared.status.Status.{Status}
use Rattle.fwd_top.specs.declared.status.Status.TheVariants as status

-- ---- files of which no call is to fail

fails_append : (es more : List FilesEntry) → fails_of (es ++ more) ≡ fails_of es ++ fails_of more
fails_append [] more = refl
fails_append (e ∷ es) more = ap (λ (l : List ℕ). to_fail e.call ++ l) (fails_append es more) ∙ sym (append_assoc (to_fail e.call) (fails_of es) (fails_of more))

behind_append : (files : FilesGiven) (es more : List FilesEntry) → files_after_all files (es ++ more) ≡ files_after_all (files_after_all files es) more
behind_append files [] more = refl
behind_append files (e ∷ es) more = behind_append (files_after files e.call) es more

-- a read returns the existing bytes, and so do the calls after it; nothing is claimed after a call that
-- isn't a read
abbrev StandsSo : FilesGiven → Type 0 → (call : FilesCall) → FilesAnswer call → Type 0
StandsSo files Rest (Length path) answer = (answer ≡ option_map length (found files path)) × Rest
StandsSo files Rest (ReadAt path at max) answer = (answer ≡ option_map (λ (bytes : List ℕ). take max (drop at bytes)) (found files path)) × Rest
StandsSo files Rest (Changed path bytes) answer = Unit {0}
StandsSo files Rest (FailAt number) answer = Unit {0}

abbrev Stand : FilesGiven → List FilesEntry → Type 0
Stand files [] = Unit {0}
Stand files (e ∷ es) = StandsSo files (Stand files es) e.call e.answer

module _ (given : FilesGiven) where
  readable_is : (before : List FilesEntry) (path : List ℕ) → fails_of before ≡ [] → readable_after given before path ≡ found (files_after_all given before) path
  readable_is before path none = ap (λ (numbers : List ℕ). if not (list_any (λ (n : ℕ). n == made_of before + 1) numbers) then found (files_after_all given before) path else None) none

  one_stands : (before es : List FilesEntry) (call : FilesCall) (answer : FilesAnswer call) → fails_of before ≡ []
      → ((more : List FilesEntry) → fails_of more ≡ [] → IsPlayed given more es → Stand (files_after_all given more) es)
      → IsPlayed given before (entry call answer ∷ es) → StandsSo (files_after_all given before) (Stand (files_after_all given before) es) call answer
  one_stands before es (Length path) answer none next played =
      let one = entry (Length path) answer ∷ [] in (
        played.0 ∙ ap (option_map length) (readable_is before path none),
        subst (λ (f : FilesGiven). Stand f es) (behind_append given before one) (next (before ++ one) (fails_append before one ∙ ap (λ (l : List ℕ). l ++ []) none) played.1),
      )
  one_stands before es (ReadAt path at max) answer none next played =
      let one = entry (ReadAt path at max) answer ∷ [] in (
        played.0 ∙ ap (option_map (λ (bytes : List ℕ). take max (drop at bytes))) (readable_is before path none),
        subst (λ (f : FilesGiven). Stand f es) (behind_append given before one) (next (before ++ one) (fails_append before one ∙ ap (λ (l : List ℕ). l ++ []) none) played.1),
      )
  one_stands before es (Changed path bytes) answer none next played = tt
  one_stands before es (FailAt number) answer none next played = tt

  stand : (before es : List FilesEntry) → fails_of before ≡ [] → IsPlayed given before es → Stand (files_after_all given before) es
  stand before [] none played = tt
  stand before (e ∷ es) none played = one_stands before es e.call e.answer none (λ more. stand more es) played

-- ---- a read of them returns the existing bytes

over : {X : Type 0} {x y : X} (es : List FilesEntry) → Execution {C = FilesCall} {A = FilesAnswer} (Return x) es (Return y) → (es ≡ []) × (y ≡ x)
over [] way = (refl, cc way)
over (e ∷ es) way = absurd way

module _ (files : FilesGiven) (path : List ℕ) (second : List FilesEntry) where
  -- what was read, and the same for what follows
  abbrev IsRead : Option (List ℕ) → Option (List ℕ) → Type 0
  IsRead there content = (content ≡ there) × Stand files second

  ends_so : (there content : Option (List ℕ)) (es : List FilesEntry) → Execution {C = FilesCall} {A = FilesAnswer} (Return there) es (Return content) → Stand files (es ++ second) → IsRead there content
  ends_so there content es way stands =
      let done = over es way in
      (done.1, subst (λ (l : List FilesEntry). Stand files (l ++ second)) done.0 stands)

  -- all bytes are already read
  no_more : (reads : ℕ) (bytes : List ℕ) (content : Option (List ℕ)) (es : List FilesEntry) → Execution (read_rest_program reads path (length bytes) bytes) es (Return content) → Stand files (es ++ second) → IsRead (Some bytes) content
  no_more zero bytes content es way stands = ends_so (Some bytes) content es way stands
  no_more (suc reads) bytes content es way stands = by (nat_lt (length bytes) (length bytes)) (le-ltb (length bytes) (length bytes) (omega arith)) way
    where
      by : (less : Bool) → less ≡ false
          → Execution (if less then Ask (ReadAt path (length bytes) (length bytes - length bytes)) (after_read (read_rest_program reads path (length bytes)) bytes) else Return (Some bytes)) es (Return content) → IsRead (Some bytes) content
      by true is w = absurd (cc is)
      by false is w = ends_so (Some bytes) content es w stands

  -- the one read that is made returns them
  one_read : (reads : ℕ) (byte : ℕ) (bytes : List ℕ) (content answer : Option (List ℕ)) (es : List FilesEntry) → answer ≡ Some (byte ∷ bytes)
      → Execution (after_read (read_rest_program reads path (length (byte ∷ bytes))) [] answer) es (Return content) → Stand files (es ++ second) → IsRead (Some (byte ∷ bytes)) content
  one_read reads byte bytes content answer es is way stands =
      no_more reads (byte ∷ bytes) content es (subst (λ (a : Option (List ℕ)). Execution (after_read (read_rest_program reads path (length (byte ∷ bytes))) [] a) es (Return content)) is way) stands

  asked_then : (reads : ℕ) (byte : ℕ) (bytes : List ℕ) (content : Option (List ℕ)) (es : List FilesEntry) → found files path ≡ Some (byte ∷ bytes)
      → Execution (Ask (ReadAt path 0 (length (byte ∷ bytes) - 0)) (after_read (read_rest_program reads path (length (byte ∷ bytes))) [])) es (Return content) → Stand files (es ++ second) → IsRead (Some (byte ∷ bytes)) content
  asked_then reads byte bytes content [] there way stands = absurd (cc way)
  asked_then reads byte bytes content (e ∷ es) there way stands =
      let so = subst (λ (x : FilesEntry). Stand files (x ∷ es ++ second)) way.1 stands in
      let whole : take (length (byte ∷ bytes) - 0) (byte ∷ bytes) ≡ byte ∷ bytes = take_all (length (byte ∷ bytes) - 0) (byte ∷ bytes) (omega arith) in
      one_read reads byte bytes content way.0 es (so.0 ∙ ap (option_map (λ (b : List ℕ). take (length (byte ∷ bytes) - 0) (drop 0 b))) there ∙ ap (λ (b : List ℕ). Some b) whole) way.2 so.1

  rest_read : (bytes : List ℕ) (content : Option (List ℕ)) (es : List FilesEntry) → found files path ≡ Some bytes → Execution (read_rest_program (length bytes) path (length bytes) []) es (Return content) → Stand files (es ++ second) → IsRead (Some bytes) content
  rest_read [] content es there way stands = ends_so (Some []) content es way stands
  rest_read (byte ∷ bytes) content es there way stands = by (length (byte ∷ bytes)) (length bytes) (omega arith) way
    where
      by : (wanted reads : ℕ) → wanted ≡ suc reads → Execution (read_rest_program wanted path (length (byte ∷ bytes)) []) es (Return content) → IsRead (Some (byte ∷ bytes)) content
      by zero reads is w = absurd (omega (arith, is))
      by (suc more) reads is w = lines (nat_lt 0 (length (byte ∷ bytes))) (lt-ltb 0 (length (byte ∷ bytes)) (omega arith)) w
        where
          lines : (less : Bool) → less ≡ true → Execution (if less then Ask (ReadAt path 0 (length (byte ∷ bytes) - 0)) (after_read (read_rest_program more path (length (byte ∷ bytes))) []) else Return (Some [])) es (Return content)
              → IsRead (Some (byte ∷ bytes)) content
          lines false is w = absurd (cc is)
          lines true is w = asked_then more byte bytes content es there w stands

  length_then : (there content : Option (List ℕ)) (answer : Option ℕ) (es : List FilesEntry) → found files path ≡ there → answer ≡ option_map length there → Execution (after_length path answer) es (Return content) → Stand files (es ++ second) → IsRead there content
  length_then None content None es at is way stands = ends_so None content es way stands
  length_then None content (Some n) es at is way stands = absurd (cc is)
  length_then (Some bytes) content None es at is way stands = absurd (cc is)
  length_then (Some bytes) content (Some n) es at is way stands =
      let same : n ≡ length bytes = cc is in
      rest_read bytes content es at (subst (λ (m : ℕ). Execution (read_rest_program m path m []) es (Return content)) same way) stands

  whole_read : (content : Option (List ℕ)) (es : List FilesEntry) → Execution (read_whole_program path) es (Return content) → Stand files (es ++ second) → IsRead (found files path) content
  whole_read content [] way stands = absurd (cc way)
  whole_read content (e ∷ es) way stands =
      let so = subst (λ (x : FilesEntry). Stand files (x ∷ es ++ second)) way.1 stands in
      length_then (found files path) content way.0 es refl so.0 way.2 so.1

gives : {X : Type 0} (files : FilesGiven) (p : Reading X) (es : List FilesEntry) (x : X) → Execution (reads_files p) es (Return x) → Stand files es → given (found files) p ≡ x
gives files (Return y) es x way stands = sym (ended es way)
gives files (Ask path go) es x way stands =
    let parts = way_parts (read_whole_program path) (λ content. reads_files (go content)) es x way in
    let read = whole_read files path parts.1 parts.2 parts.0 parts.4 (subst (λ (l : List FilesEntry). Stand files l) parts.3 stands) in
    ap (λ (content : Option (List ℕ)). given (found files) (go content)) (sym read.0) ∙ gives files (go parts.2) parts.1 x parts.5 read.1

-- ---- the load

-- the calls that put its texts there
abbrev texts : ℕ → List FilesEntry
texts count = entries_from [] (held_load count).notes

module _ (count : ℕ) (new : FilesState) (played : IsPlayed new.given [] (entries_from new.given new.notes)) where
  grown_stands : (es : List FilesEntry) → LogGrew (told_of (held_load count)) (told_of new) es → Stand (load_files count) es
  grown_stands es grew =
      let all : IsPlayed [] [] (texts count ++ es) =
      subst (λ (l : List FilesEntry). IsPlayed [] [] l) grew.1 (subst (λ (given : FilesGiven). IsPlayed given [] (entries_from new.given new.notes)) grew.0 played)
      in
      stand [] (texts count) es refl all.1.1

  comes : (case : Option Case) → AsksFor load_config (ToReplay load_schedule) no_values (told_of (held_load count)) (told_of new) case → ComesOfLoad count (option_map reports_of case)
  unfolding of_load
  comes None asks = tt
  comes (Some case) asks =
      let did = asks.makes in (
        asks.checked,
        asks.loaded,
        asks.are,
        ap alone (gives (load_files count) (of_config asks.checked load_config (ToReplay load_schedule) no_values) did.entries (asked asks.loaded case) did.way (grown_stands did.entries did.grew)),
      )

-- the calls on the files determine the case of the load
pub comes_of_texts : (count : ℕ) (old new : FilesState) (case : Option Case) → old ≡ held_load count → AsksFor load_config (ToReplay load_schedule) no_values (told_of old) (told_of new) case
    → IsPlayed new.given [] (entries_from new.given new.notes) → ComesOfLoad count (option_map reports_of case)
comes_of_texts count old new case is asks played =
    comes count new played case (subst (λ (held : FilesState). AsksFor load_config (ToReplay load_schedule) no_values (told_of held) (told_of new) case) is asks)

pub load_done : (count : ℕ) (j shown : Job) → of_job shown ≡ reports_of (of_job j) → ComesOfLoad count (Some (reports_of (of_job j))) → ComesOfLoad count (Some (of_job shown))
load_done count j shown is comes = subst (λ (case : Case). ComesOfLoad count (Some case)) (sym is) comes

pub load_refused : (count : ℕ) (other : Status) → ComesOfLoad count (option_map reports_of (unless_memory other)) → ComesOfLoad count (unless_memory other)
load_refused count status.Memory comes = tt
load_refused count other comes = comes

-- ---- no file of it is missing

given_bind : {X Y : Type 0} (files : List ℕ → Option (List ℕ)) (p : Reading X) (next : X → Reading Y) → given files (bind p next) ≡ given files (next (given files p))
given_bind files (Return x) next = refl
given_bind files (Ask path go) next = given_bind files (go (files path)) next

abbrev is_loaded : Result (List Section) ConfigFault → Bool
is_loaded (Ok sections) = true
is_loaded (Err fault) = false

-- its configuration has sections, by computation
loads_well : (count : ℕ) → is_loaded (given (found (load_files count)) (load_program no_values load_config)) ≡ true
unfolding config_text with_file is_utf8 chars encode
loads_well count = refl

module _ (count : ℕ) where
  by_schedule : (s : AllSettings) (read : Result Schedule ScheduleRefused) → reports_of (of_schedule s read) ≢ Refuses status.FileFault
  by_schedule s (Ok schedule) is = cc is
  by_schedule s (Err refused) is = cc is

  by_sections : (checked : Checked AllSettings) (r : Result (List Section) ConfigFault) → is_loaded r ≡ true
      → (alone (given (found (load_files count)) (with_sections checked (ToReplay load_schedule) r))).case ≢ Refuses status.FileFault
  by_sections checked (Err fault) well is = cc well
  by_sections (Err fault) (Ok sections) well is = cc is
  by_sections (Ok s) (Ok sections) well is = by_schedule s (schedule_of (schedule_text count)) is

  no_fault : (checked : Checked AllSettings) → (of_load checked count).case ≢ Refuses status.FileFault
  unfolding of_load
  no_fault checked is =
      by_sections checked (given (found (load_files count)) (load_program no_values load_config)) (loads_well count)
      (ap (λ (x : Asked). (alone x).case) (sym (given_bind (found (load_files count)) (load_program no_values load_config) (with_sections checked (ToReplay load_schedule)))) ∙ is)

  pub own_refusal : (other : Status) → IsRefusal other → ComesOfLoad count (unless_memory other) → IsOwnRefusal other
  own_refusal status.FileFault is comes = absurd (no_fault comes.0 (ap (λ (x : Asked). x.case) comes.3))
  own_refusal other is comes = is
