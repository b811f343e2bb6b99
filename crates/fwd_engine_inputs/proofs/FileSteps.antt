-- How one more fact changes followed files.
use Rattle.std.proofs.Common.{◌≡◌, ◌≢◌, ℕ, ◌<◌, ◌≤◌, Bool, true, false, ◌&&◌, inl, inr, List, [], ◌∷◌, length, Option, Some, Result, Ok, Err, refl, sym, ap, subst, ◌∙◌, arith}
use Rattle.std.specs.Prelude.{◌==◌, slice_get, OnErr}
use Rattle.std.proofs.Math.ListN.{set}
use Rattle.std.proofs.lemmas.Bool.{cases_eq, ne_eqb, eq-eqb}
use Rattle.std.proofs.lemmas.Option.{slice_get_past}
use Rattle.fwd_outside.specs.Files.{FilesLog}
use Rattle.fwd_frames.specs.declared.line.Line.{Line}
use Rattle.fwd_in_tail.specs.Followed.{Followed, Polled as Poll, polled, after}
use Rattle.fwd_in_tail.specs.declared.tail.TailErr.{TailErr}
use Rattle.fwd_in_tail.specs.declared.tail.TailErr.TheVariants.{FileFault, Memory}
use Rattle.fwd_settings.specs.declared.settings_types.AllSettings.{AllSettings}
use Rattle.fwd_model.specs.Fact.{Fact, History, Resumed, Polled}
use Rattle.fwd_model.specs.Settings.{paths_at, from_head_at}
use Rattle.fwd_model.specs.FollowedFiles.{file_at}
use Rattle.fwd_engine_inputs.specs.FileRepresents.{InputFilesRepresent, InputFilePolled, changed}
use Rattle.fwd_engine_inputs.specs.FilesRepresent.{files_or_none, files_of_input, FilesRepresent, FilesUnchanged, FilesPolled}
use Rattle.fwd_engine_inputs.specs.FileFacts.{is_file_fact}
use Rattle.fwd_engine_inputs.specs.declared.followed_files.FollowedFiles.{FollowedFiles}
use Rattle.fwd_engine_inputs.specs.declared.followed_file.FollowedFile.{FollowedFile}
use Rattle.fwd_engine_inputs.specs.declared.input_files.InputFiles.{InputFiles}
use Rattle.fwd_engine_inputs.proofs.FileLists.{same_files, none_changed, within, set_here, set_other}

-- ---- facts about other parts

same_stays : (s : AllSettings) (followed_files : FollowedFiles) (h g : History) → ((input index : ℕ) → file_at s h input index ≡ file_at s g input index) → FilesRepresent s followed_files h → FilesRepresent s followed_files g
same_stays s followed_files h g same k = record {
  all = λ input. same_files (paths_at s input) (from_head_at s input) (file_at s h input) (file_at s g input) (files_of_input followed_files input) (same input) (k.all input);
}

is_same : (s : AllSettings) (h : History) (fact : Fact) → is_file_fact fact ≡ false → (input index : ℕ) → file_at s h input index ≡ file_at s (fact ∷ h) input index
is_same s h (Resumed i k place) e input index = absurd cc
is_same s h (Polled i k long bytes) e input index = absurd cc
is_same s h _ e input index = refl

pub files_after_other_fact : (s : AllSettings) (followed_files : FollowedFiles) (h : History) (fact : Fact) → is_file_fact fact ≡ false → FilesRepresent s followed_files h → FilesRepresent s followed_files (fact ∷ h)
files_after_other_fact s followed_files h fact e k = same_stays s followed_files h (fact ∷ h) (is_same s h fact e) k

-- ---- one file of an input

here_true : (a b : ℕ) → ((a == a) && (b == b)) ≡ true
here_true a b = rw (eq-eqb a a refl, eq-eqb b b refl) refl

index_other : (a b c : ℕ) → b ≢ c → ((a == a) && (b == c)) ≡ false
index_other a b c differs = rw (eq-eqb a a refl, ne_eqb b c differs) refl

module _ (s : AllSettings) (h : History) (input index : ℕ) where
  pub polled_here : (long : ℕ) (bytes : List ℕ) (k : ℕ)
      → changed (file_at s h input) index (after (from_head_at s input) (file_at s h input index) (polled long bytes)) k ≡ file_at s (Polled input index long bytes ∷ h) input k
  polled_here long bytes k = elim (cases_eq index k) [
    | inl same ↦
        let at : changed (file_at s h input) index (after (from_head_at s input) (file_at s h input index) (polled long bytes)) index ≡ file_at s (Polled input index long bytes ∷ h) input index =
        rw (here_true input index, eq-eqb index index refl) refl in
        subst (λ (n : ℕ). changed (file_at s h input) index (after (from_head_at s input) (file_at s h input index) (polled long bytes)) n ≡ file_at s (Polled input index long bytes ∷ h) input n) same at
    | inr differs ↦ rw (index_other input index k differs, ne_eqb index k differs) refl
  ]

  pub resumed_here : (place k : ℕ) → changed (file_at s h input) index (record { place = Some place; said = [] }) k ≡ file_at s (Resumed input index place ∷ h) input k
  resumed_here place k = elim (cases_eq index k) [
    | inl same ↦ rw (eq-eqb index k same, eq-eqb input input refl) refl
    | inr differs ↦ rw (index_other input index k differs, ne_eqb index k differs) refl
  ]

  pub polled_elsewhere : (long : ℕ) (bytes : List ℕ) (other k : ℕ) → input ≢ other → file_at s h other k ≡ file_at s (Polled input index long bytes ∷ h) other k
  polled_elsewhere long bytes other k differs = rw (ne_eqb input other differs) refl

  pub resumed_elsewhere : (place other k : ℕ) → input ≢ other → file_at s h other k ≡ file_at s (Resumed input index place ∷ h) other k
  resumed_elsewhere place other k differs = rw (ne_eqb input other differs) refl

-- ---- the files of an input change

or_none_some : (all : Option InputFiles) (one : InputFiles) → all ≡ Some one → files_or_none all ≡ one.sources.items
or_none_some all one e = ap files_or_none e

-- the files of one input change, and the others are as before
pub files_after_fact : (s : AllSettings) (h g : History) (old new : FollowedFiles) (input : ℕ) (now : InputFiles)
    → new.inputs.items ≡ set old.inputs.items input now → input < length old.inputs.items
    → FilesRepresent s old h → InputFilesRepresent (paths_at s input) (from_head_at s input) (file_at s g input) now.sources.items
    → ((other k : ℕ) → input ≢ other → file_at s h other k ≡ file_at s g other k) → FilesRepresent s new g
files_after_fact s h g old new input now is there k stand same = record {
  all = λ other. elim (cases_eq input other) [
    | inl here ↦
        let get : slice_get new.inputs.items input ≡ Some now = ap (λ (l : List InputFiles). slice_get l input) is ∙ set_here old.inputs.items input now there in
        let at : InputFilesRepresent (paths_at s input) (from_head_at s input) (file_at s g input) (files_of_input new input) =
        subst (λ (x : List FollowedFile). InputFilesRepresent (paths_at s input) (from_head_at s input) (file_at s g input) x) (sym (or_none_some (slice_get new.inputs.items input) now get)) stand in
        subst (λ (n : ℕ). InputFilesRepresent (paths_at s n) (from_head_at s n) (file_at s g n) (files_of_input new n)) here at
    | inr differs ↦
        let get : slice_get old.inputs.items other ≡ slice_get new.inputs.items other = sym (ap (λ (l : List InputFiles). slice_get l other) is ∙ set_other old.inputs.items input other now differs) in
        let at = same_files (paths_at s other) (from_head_at s other) (file_at s h other) (file_at s g other) (files_of_input old other) (λ i. same other i differs) (k.all other) in
        subst (λ (x : List FollowedFile). InputFilesRepresent (paths_at s other) (from_head_at s other) (file_at s g other) x) (ap files_or_none get) at
  ];
}

-- the files of an existing input
pub stand_of : (s : AllSettings) (h : History) (old : FollowedFiles) (input : ℕ) (now : InputFiles) → FilesRepresent s old h → slice_get old.inputs.items input ≡ Some now
    → InputFilesRepresent (paths_at s input) (from_head_at s input) (file_at s h input) now.sources.items
stand_of s h old input now k there = subst (λ (x : List FollowedFile). InputFilesRepresent (paths_at s input) (from_head_at s input) (file_at s h input) x) (or_none_some (slice_get old.inputs.items input) now there) (k.all input)

-- an input that doesn't exist follows nothing
pub stand_none : (s : AllSettings) (h : History) (old : FollowedFiles) (input : ℕ) → FilesRepresent s old h → length old.inputs.items ≤ input
    → InputFilesRepresent (paths_at s input) (from_head_at s input) (file_at s h input) []
stand_none s h old input k past =
    subst (λ (x : List FollowedFile). InputFilesRepresent (paths_at s input) (from_head_at s input) (file_at s h input) x) (ap files_or_none (slice_get_past old.inputs.items input past)) (k.all input)

pub no_path : (s : AllSettings) (h : History) (old : FollowedFiles) (input index : ℕ) (path : List ℕ) → FilesRepresent s old h → length old.inputs.items ≤ input → slice_get (paths_at s input) index ≡ Some path → ⊥
no_path s h old input index path k past here =
    within (paths_at s input) (from_head_at s input) (file_at s h input) [] index path (stand_none s h old input k past) here (omega arith)

-- an offset for an input that doesn't exist changes nothing
pub none_resumed : (s : AllSettings) (h : History) (old new : FollowedFiles) (input index place : ℕ) → new.inputs.items ≡ old.inputs.items → length old.inputs.items ≤ input
    → FilesRepresent s old h → FilesRepresent s new (Resumed input index place ∷ h)
none_resumed s h old new input index place is past k = record {
  all = λ other. elim (cases_eq input other) [
    | inl here ↦
        let none = none_changed (paths_at s input) (from_head_at s input) (file_at s h input) [] index (record { place = Some place; said = [] }) (stand_none s h old input k past) (omega arith) in
        let at = same_files (paths_at s input) (from_head_at s input) (changed (file_at s h input) index (record { place = Some place; said = [] })) (file_at s (Resumed input index place ∷ h) input) [] (resumed_here s h input index place) none in
        let get : [] ≡ files_of_input new input = sym (ap (λ (l : List InputFiles). files_or_none (slice_get l input)) is ∙ ap files_or_none (slice_get_past old.inputs.items input past)) in
        subst (λ (n : ℕ). InputFilesRepresent (paths_at s n) (from_head_at s n) (file_at s (Resumed input index place ∷ h) n) (files_of_input new n)) here
        (subst (λ (x : List FollowedFile). InputFilesRepresent (paths_at s input) (from_head_at s input) (file_at s (Resumed input index place ∷ h) input) x) get at)
    | inr differs ↦
        let at = same_files (paths_at s other) (from_head_at s other) (file_at s h other) (file_at s (Resumed input index place ∷ h) other) (files_of_input old other) (λ i. resumed_elsewhere s h input index place other i differs) (k.all other) in
        subst (λ (x : List FollowedFile). InputFilesRepresent (paths_at s other) (from_head_at s other) (file_at s (Resumed input index place ∷ h) other) x) (sym (ap (λ (l : List InputFiles). files_or_none (slice_get l other)) is)) at
  ];
}

-- ---- calls on one file

pub on_err : {T E : Type 0} {X : Type 0} (r : Result T E) → X → OnErr r X
on_err (Ok value) x = tt
on_err (Err e) x = x

module _ (old new : FollowedFiles) (input : ℕ) (before now : InputFiles) (there : input < length old.inputs.items) (read : slice_get old.inputs.items input ≡ Some before) (is : new.inputs.items ≡ set old.inputs.items input now) where
  pub polls_on : (a b : FilesLog) (index : ℕ) (result : Result (List Line) TailErr)
      → ((paths : List (List ℕ)) (head : Bool) (all : ℕ → Followed) (path : List ℕ) → InputFilesRepresent paths head all before.sources.items → slice_get paths index ≡ Some path → InputFilePolled a b paths head all index path now.sources.items result)
      → (s : AllSettings) (h : History) (path : List ℕ) → FilesRepresent s old h → slice_get (paths_at s input) index ≡ Some path → FilesPolled a b s h input index path new result
  polls_on a b index (Ok found) polled s h path k here =
      let x = polled (paths_at s input) (from_head_at s input) (file_at s h input) path (stand_of s h old input before k read) here in
      let p : Poll = x.0 in
      let stand = same_files (paths_at s input) (from_head_at s input) (changed (file_at s h input) index (after (from_head_at s input) (file_at s h input index) p)) (file_at s (Polled input index p.long p.bytes ∷ h) input) now.sources.items (polled_here s h input index p.long p.bytes) x.3 in
      (p, x.1, x.2, files_after_fact s h (Polled input index p.long p.bytes ∷ h) old new input now is there k stand (λ other i. polled_elsewhere s h input index p.long p.bytes other i))
  polls_on a b index (Err FileFault) polled s h path k here = polled (paths_at s input) (from_head_at s input) (file_at s h input) path (stand_of s h old input before k read) here
  polls_on a b index (Err Memory) polled s h path k here = polled (paths_at s input) (from_head_at s input) (file_at s h input) path (stand_of s h old input before k read) here

  pub stays_on : {T E : Type 0} (result : Result T E)
      → ((paths : List (List ℕ)) (head : Bool) (all : ℕ → Followed) → InputFilesRepresent paths head all before.sources.items → OnErr result (InputFilesRepresent paths head all now.sources.items))
      → OnErr result (FilesUnchanged old new)
  stays_on (Ok value) same = tt
  stays_on (Err e) same = λ s h k.
      let stand = same (paths_at s input) (from_head_at s input) (file_at s h input) (stand_of s h old input before k read) in
      files_after_fact s h h old new input now is there k stand (λ other i differs. refl)

  pub resumes_on : (index place : ℕ)
      → ((paths : List (List ℕ)) (head : Bool) (all : ℕ → Followed) → InputFilesRepresent paths head all before.sources.items → InputFilesRepresent paths head (changed all index (record { place = Some place; said = [] })) now.sources.items)
      → (s : AllSettings) (h : History) → FilesRepresent s old h → FilesRepresent s new (Resumed input index place ∷ h)
  resumes_on index place on s h k =
      let stand = on (paths_at s input) (from_head_at s input) (file_at s h input) (stand_of s h old input before k read) in
      let same = same_files (paths_at s input) (from_head_at s input) (changed (file_at s h input) index (record { place = Some place; said = [] })) (file_at s (Resumed input index place ∷ h) input) now.sources.items (resumed_here s h input index place) stand in
      files_after_fact s h (Resumed input index place ∷ h) old new input now is there k same (λ other i. resumed_elsewhere s h input index place other i)
