-- Files of which nothing was read yet.
use Rattle.std.proofs.Common.{◌≡◌, ℕ, zero, suc, ◌+◌, ◌<◌, Bool, false, List, [], ◌∷◌, ◌++◌, length, take, get_or, refl, sym, ap, subst, ◌∙◌}
use Rattle.std.proofs.lemmas.List.{take_more}
use Rattle.std.specs.Prelude.{slice_get}
use Rattle.std.specs.Option.{option_map_or}
use Rattle.fwd_settings.specs.declared.settings_types.AllSettings.{AllSettings}
use Rattle.fwd_settings.specs.declared.settings_types.InputSet.{InputSet}
use Rattle.fwd_model.specs.Settings.{followed_paths, starts_at_head}
use Rattle.fwd_model.specs.FollowedFiles.{unread}
use Rattle.fwd_engine_inputs.specs.FileRepresents.{FileRepresents, FileRepresentsAt, InputFilesRepresent}
use Rattle.fwd_engine_inputs.specs.FilesRepresent.{files_or_none, FilesRepresent}
use Rattle.fwd_engine_inputs.specs.declared.followed_files.FollowedFiles.{FollowedFiles}
use Rattle.fwd_engine_inputs.specs.declared.followed_file.FollowedFile.{FollowedFile}
use Rattle.fwd_engine_inputs.specs.declared.input_files.InputFiles.{InputFiles}

-- ---- the files of one input

abbrev pub AreUnread : Bool → List (List ℕ) → List FollowedFile → Type 0
AreUnread head [] [] = Unit {0}
AreUnread head [] (x ∷ xs) = ⊥
AreUnread head (p ∷ ps) [] = ⊥
AreUnread head (p ∷ ps) (x ∷ xs) = FileRepresents p head unread x × AreUnread head ps xs

pub one_more : (head : Bool) (ps : List (List ℕ)) (xs : List FollowedFile) (p : List ℕ) (x : FollowedFile) → AreUnread head ps xs → FileRepresents p head unread x → AreUnread head (ps ++ p ∷ []) (xs ++ x ∷ [])
one_more head [] [] p x k one = (one, tt)
one_more head [] (y ∷ xs) p x k one = absurd k
one_more head (q ∷ ps) [] p x k one = absurd k
one_more head (q ∷ ps) (y ∷ xs) p x k one = (k.0, one_more head ps xs p x k.1 one)

pub path_more : (head : Bool) (paths : List (List ℕ)) (i : ℕ) (p : List ℕ) (x : FollowedFile) (xs more : List FollowedFile) → i < length paths → p ≡ get_or paths i p → more ≡ xs ++ x ∷ []
    → AreUnread head (take i paths) xs → FileRepresents p head unread x → AreUnread head (take (i + 1) paths) more
path_more head paths i p x xs more within is grew k one =
    let one_taken : take (i + 1) paths ≡ take i paths ++ p ∷ [] = take_more paths i p within ∙ ap (λ (y : List ℕ). take i paths ++ y ∷ []) (sym is) in
    subst (λ (l : List (List ℕ)). AreUnread head l more) (sym one_taken) (subst (λ (m : List FollowedFile). AreUnread head (take i paths ++ p ∷ []) m) (sym grew) (one_more head (take i paths) xs p x k one))

each_unread : (head : Bool) (ps : List (List ℕ)) (xs : List FollowedFile) → AreUnread head ps xs → (index : ℕ) → FileRepresentsAt head unread (slice_get ps index) (slice_get xs index)
each_unread head [] [] k index = tt
each_unread head [] (x ∷ xs) k index = absurd k
each_unread head (p ∷ ps) [] k index = absurd k
each_unread head (p ∷ ps) (x ∷ xs) k zero = k.0
each_unread head (p ∷ ps) (x ∷ xs) k (suc index) = each_unread head ps xs k.1 index

as_many : (head : Bool) (ps : List (List ℕ)) (xs : List FollowedFile) → AreUnread head ps xs → length xs ≡ length ps
as_many head [] [] k = refl
as_many head [] (x ∷ xs) k = absurd k
as_many head (p ∷ ps) [] k = absurd k
as_many head (p ∷ ps) (x ∷ xs) k = ap suc (as_many head ps xs k.1)

pub stand_unread : (head : Bool) (ps : List (List ℕ)) (xs : List FollowedFile) → AreUnread head ps xs → InputFilesRepresent ps head (λ index. unread) xs
stand_unread head ps xs k = record { each = each_unread head ps xs k; count = as_many head ps xs k }

-- ---- the files of all inputs

abbrev pub AreNew : List InputSet → List InputFiles → Type 0
AreNew [] [] = Unit {0}
AreNew [] (x ∷ xs) = ⊥
AreNew (set ∷ sets) [] = ⊥
AreNew (set ∷ sets) (x ∷ xs) = InputFilesRepresent (followed_paths set.kind) (starts_at_head set.kind) (λ index. unread) x.sources.items × AreNew sets xs

pub one_input_more : (sets : List InputSet) (xs : List InputFiles) (set : InputSet) (x : InputFiles) → AreNew sets xs → InputFilesRepresent (followed_paths set.kind) (starts_at_head set.kind) (λ index. unread) x.sources.items
    → AreNew (sets ++ set ∷ []) (xs ++ x ∷ [])
one_input_more [] [] set x k one = (one, tt)
one_input_more [] (y ∷ xs) set x k one = absurd k
one_input_more (other ∷ sets) [] set x k one = absurd k
one_input_more (other ∷ sets) (y ∷ xs) set x k one = (k.0, one_input_more sets xs set x k.1 one)

pub input_more : (sets : List InputSet) (i : ℕ) (set : InputSet) (x : InputFiles) (xs more : List InputFiles) → i < length sets → set ≡ get_or sets i set → more ≡ xs ++ x ∷ []
    → AreNew (take i sets) xs → InputFilesRepresent (followed_paths set.kind) (starts_at_head set.kind) (λ index. unread) x.sources.items → AreNew (take (i + 1) sets) more
input_more sets i set x xs more within is grew k one =
    let one_taken : take (i + 1) sets ≡ take i sets ++ set ∷ [] = take_more sets i set within ∙ ap (λ (y : InputSet). take i sets ++ y ∷ []) (sym is) in
    subst (λ (l : List InputSet). AreNew l more) (sym one_taken) (subst (λ (m : List InputFiles). AreNew (take i sets ++ set ∷ []) m) (sym grew) (one_input_more (take i sets) xs set x k one))

each_new : (sets : List InputSet) (xs : List InputFiles) → AreNew sets xs → (input : ℕ)
    → InputFilesRepresent (option_map_or (λ (set : InputSet). followed_paths set.kind) (slice_get sets input) []) (option_map_or (λ (set : InputSet). starts_at_head set.kind) (slice_get sets input) false) (λ index. unread) (files_or_none (slice_get xs input))
each_new [] [] k input = record { each = λ index. tt; count = refl }
each_new [] (x ∷ xs) k input = absurd k
each_new (set ∷ sets) [] k input = absurd k
each_new (set ∷ sets) (x ∷ xs) k zero = k.0
each_new (set ∷ sets) (x ∷ xs) k (suc input) = each_new sets xs k.1 input

pub follows_new : (inputs : List InputSet) (followed_files : FollowedFiles) → AreNew inputs followed_files.inputs.items → (s : AllSettings) → s.inputs ≡ inputs → FilesRepresent s followed_files []
follows_new inputs followed_files k s is = record { all = each_new s.inputs followed_files.inputs.items (subst (λ (l : List InputSet). AreNew l followed_files.inputs.items) (sym is) k) }
