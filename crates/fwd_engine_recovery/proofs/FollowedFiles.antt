-- Inputs that follow the same files give the same followed files.
use Rattle.std.proofs.Common.{◌≡◌, ℕ, ◌+◌, ◌<◌, Bool, false, List, [], ◌∷◌, ◌++◌, length, take, map, zero, suc, Option, Some, None, refl, sym, ap, subst, ◌∙◌, arith}
use Rattle.std.specs.Prelude.{slice_get, option_map}
use Rattle.std.specs.Option.{option_map_or}
use Rattle.std.proofs.lemmas.List.{take_more, map-append}
use Rattle.std.proofs.lemmas.Option.{slice_get-map, slice_get_within, get_or_from_slice_get}
use Rattle.fwd_settings.specs.declared.settings_types.AllSettings.{AllSettings}
use Rattle.fwd_settings.specs.declared.settings_types.InputSet.{InputSet}
use Rattle.fwd_model.specs.Settings.{followed_paths, starts_at_head, paths_at, from_head_at}
use Rattle.fwd_model.specs.FollowedFiles.{unread}
use Rattle.fwd_engine_inputs.specs.FileRepresents.{InputFilesRepresent}
use Rattle.fwd_engine_inputs.specs.FilesRepresent.{FilesRepresent, files_of_input}
use Rattle.fwd_engine_inputs.specs.declared.followed_files.FollowedFiles.{FollowedFiles}
use Rattle.fwd_engine_recovery.specs.FollowedPaths.{FollowedPaths, followed_paths_of}

paths_in : (o : Option InputSet) → option_map_or (λ (set : InputSet). followed_paths set.kind) o [] ≡ option_map_or (λ (f : FollowedPaths). f.paths) (option_map followed_paths_of o) []
paths_in None = refl
paths_in (Some set) = refl

heads_in : (o : Option InputSet) → option_map_or (λ (set : InputSet). starts_at_head set.kind) o false ≡ option_map_or (λ (f : FollowedPaths). f.from_head) (option_map followed_paths_of o) false
heads_in None = refl
heads_in (Some set) = refl

-- the settings with other inputs
abbrev pub with_inputs : AllSettings → List InputSet → AllSettings
with_inputs s sets = record s { inputs = sets }

pub follows_same : (s : AllSettings) (sets : List InputSet) (followed_files : FollowedFiles) → map followed_paths_of sets ≡ map followed_paths_of s.inputs → FilesRepresent (with_inputs s sets) followed_files [] → FilesRepresent s followed_files []
follows_same s sets followed_files same follows = record {
  all = λ input.
      let at : option_map followed_paths_of (slice_get sets input) ≡ option_map followed_paths_of (slice_get s.inputs input) =
      sym (slice_get-map followed_paths_of sets input) ∙ ap (λ (l : List FollowedPaths). slice_get l input) same ∙ slice_get-map followed_paths_of s.inputs input
      in
      let paths : paths_at (with_inputs s sets) input ≡ paths_at s input =
      paths_in (slice_get sets input) ∙ ap (λ (o : Option FollowedPaths). option_map_or (λ (f : FollowedPaths). f.paths) o []) at ∙ sym (paths_in (slice_get s.inputs input))
      in
      let heads : from_head_at (with_inputs s sets) input ≡ from_head_at s input =
      heads_in (slice_get sets input) ∙ ap (λ (o : Option FollowedPaths). option_map_or (λ (f : FollowedPaths). f.from_head) o false) at ∙ sym (heads_in (slice_get s.inputs input))
      in
      subst (λ (h : Bool). InputFilesRepresent (paths_at s input) h (λ index. unread) (files_of_input followed_files input)) heads
      (subst (λ (ps : List (List ℕ)). InputFilesRepresent ps (from_head_at (with_inputs s sets) input) (λ index. unread) (files_of_input followed_files input)) paths (follows.all input));
}

-- one input more
pub files_more : (inputs : List InputSet) (n : ℕ) (set copy : InputSet) (sets : List InputSet) → slice_get inputs n ≡ Some set → followed_paths_of copy ≡ followed_paths_of set
    → map followed_paths_of sets ≡ map followed_paths_of (take n inputs) → map followed_paths_of (sets ++ copy ∷ []) ≡ map followed_paths_of (take (n + 1) inputs)
files_more inputs n set copy sets there same before =
    map-append followed_paths_of sets (copy ∷ [])
    ∙ (λ i. before i ++ same i ∷ [])
    ∙ sym
    (ap (map followed_paths_of) (take_more inputs n set (slice_get_within inputs n set there) ∙ ap (λ (x : InputSet). take n inputs ++ x ∷ []) (get_or_from_slice_get inputs n set set there))
    ∙ map-append followed_paths_of (take n inputs) (set ∷ []))

pub is_there : (inputs : List InputSet) (n : ℕ) → n < length inputs → slice_get inputs n ≡ None → ⊥
is_there [] n less none = absurd (omega (arith, less))
is_there (x ∷ xs) zero less none = cc none
is_there (x ∷ xs) (suc n) less none = is_there xs n (omega (arith, less)) none
