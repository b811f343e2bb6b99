-- The rows of files, without offsets, as they are made.
use Rattle.std.proofs.Common.{◌≡◌, ℕ, zero, suc, ◌+◌, List, [], ◌∷◌, ◌++◌, map, take, Option, Some, sym, ◌∙◌, ap, subst, append_assoc, arith}
use Rattle.std.specs.Prelude.{slice_get}
use Rattle.std.specs.Option.{option_map_or, option_and_then}
use Rattle.std.specs.List.{flat_map, range_with_len}
use Rattle.std.proofs.lemmas.List.{append-nil, map-append}
use Rattle.std.proofs.lemmas.List.Concat.{flat_map-append}
use Rattle.std.proofs.lemmas.Option.{same_Some}
use Rattle.fwd_settings.specs.declared.settings_types.AllSettings.{AllSettings}
use Rattle.fwd_settings.specs.declared.settings_types.InputSet.{InputSet}
use Rattle.fwd_model.specs.Settings.{followed_paths}
use Rattle.fwd_model.specs.KeptOffsets.{Tracked, tracked_from, tracked_by}
use Rattle.fwd_engine_run.specs.OneOffset.{new_row, tracked_file}
use Rattle.fwd_engine_run.specs.declared.kept_offsets.KeptOffset.{KeptOffset}
use Rattle.fwd_engine_run.proofs.TrackedFiles.{files_of, all_from}

-- rows after others
rows_more : (first old new : List KeptOffset) (ts us : List Tracked) → new ≡ old ++ map new_row us → old ≡ first ++ map new_row ts → new ≡ first ++ map new_row (ts ++ us)
rows_more first old new ts us more before =
    more ∙ ap (λ (l : List KeptOffset). l ++ map new_row us) before ∙ append_assoc first (map new_row ts) (map new_row us) ∙ ap (λ (l : List KeptOffset). first ++ l) (sym (map-append new_row ts us))

-- ---- the paths of one input

paths_more : (input index : ℕ) (db : List ℕ) (paths : List (List ℕ)) (i : ℕ) (path : List ℕ) → slice_get paths i ≡ Some path
    → tracked_from input index db (take (i + 1) paths) ≡ tracked_from input index db (take i paths) ++ tracked_file input (index + i) db path ∷ []
paths_more input index db [] i path here = absurd (cc here)
paths_more input index db (other ∷ paths) zero path here =
    let none : index ≡ index + 0 = omega arith in
    ap (λ (p : List ℕ). tracked_file input index db p ∷ []) (same_Some other path here) ∙ ap (λ (n : ℕ). tracked_file input n db path ∷ []) none
paths_more input index db (other ∷ paths) (suc i) path here =
    let on : suc (i + 1) ≡ suc i + 1 = omega arith in
    let last : (index + 1) + i ≡ index + suc i = omega arith in
    let more = paths_more input (index + 1) db paths i path here in
    subst (λ (n : ℕ). tracked_from input index db (take n (other ∷ paths)) ≡ tracked_from input index db (take (suc i) (other ∷ paths)) ++ tracked_file input (index + suc i) db path ∷ []) on
    (ap (λ (l : List Tracked). tracked_file input index db other ∷ l) more
    ∙ ap (λ (n : ℕ). (tracked_file input index db other ∷ tracked_from input (index + 1) db (take i paths)) ++ tracked_file input n db path ∷ []) last)

pub path_pushed : (first old new : List KeptOffset) (input : ℕ) (db : List ℕ) (paths : List (List ℕ)) (i : ℕ) (row : KeptOffset) (path : List ℕ) → slice_get paths i ≡ Some path → row ≡ new_row (tracked_file input i db path)
    → new ≡ old ++ row ∷ [] → old ≡ first ++ map new_row (tracked_from input 0 db (take i paths)) → new ≡ first ++ map new_row (tracked_from input 0 db (take (i + 1) paths))
path_pushed first old new input db paths i row path here is pushed before =
    let whole : 0 + i ≡ i = omega arith in
    let files = paths_more input 0 db paths i path here ∙ ap (λ (n : ℕ). tracked_from input 0 db (take i paths) ++ tracked_file input n db path ∷ []) whole in
    rows_more first old new (tracked_from input 0 db (take i paths)) (tracked_file input i db path ∷ []) (pushed ∙ ap (λ (r : KeptOffset). old ++ r ∷ []) is) before ∙ ap (λ (l : List Tracked). first ++ map new_row l) (sym files)

-- ---- the inputs

range_more : (a n : ℕ) → range_with_len a (n + 1) ≡ range_with_len a n ++ (a + n) ∷ []
range_more a zero = let none : a ≡ a + 0 = omega arith in ap (λ (m : ℕ). m ∷ []) none
range_more a (suc n) =
    let on : suc (n + 1) ≡ suc n + 1 = omega arith in
    let last : (a + 1) + n ≡ a + suc n = omega arith in
    subst (λ (m : ℕ). range_with_len a m ≡ range_with_len a (suc n) ++ (a + suc n) ∷ []) on
    (ap (λ (l : List ℕ). a ∷ l) (range_more (a + 1) n) ∙ ap (λ (m : ℕ). (a ∷ range_with_len (a + 1) n) ++ m ∷ []) last)

files_more : (s : AllSettings) (n : ℕ) → all_from s 0 (n + 1) ≡ all_from s 0 n ++ files_of s n
files_more s n =
    let whole : 0 + n ≡ n = omega arith in
    ap (flat_map (files_of s)) (range_more 0 n) ∙ flat_map-append (files_of s) (range_with_len 0 n) ((0 + n) ∷ [])
    ∙ ap (λ (l : List Tracked). all_from s 0 n ++ l) (append-nil (files_of s (0 + n)) ∙ ap (files_of s) whole)

-- the files of an input are those of its settings
files_at : (s : AllSettings) (n : ℕ) (set : InputSet) → slice_get s.inputs n ≡ Some set → files_of s n ≡ tracked_by n set.db (followed_paths set.kind)
files_at s n set here = ap (λ (o : Option InputSet). tracked_by n (option_and_then (λ (set : InputSet). set.db) o) (option_map_or (λ (set : InputSet). followed_paths set.kind) o [])) here

pub input_pushed : (s : AllSettings) (old new : List KeptOffset) (n : ℕ) (set : InputSet) → slice_get s.inputs n ≡ Some set → new ≡ old ++ map new_row (tracked_by n set.db (followed_paths set.kind))
    → old ≡ map new_row (all_from s 0 n) → new ≡ map new_row (all_from s 0 (n + 1))
input_pushed s old new n set here pushed before =
    rows_more [] old new (all_from s 0 n) (files_of s n) (pushed ∙ ap (λ (l : List Tracked). old ++ map new_row l) (sym (files_at s n set here))) before ∙ ap (map new_row) (sym (files_more s n))
