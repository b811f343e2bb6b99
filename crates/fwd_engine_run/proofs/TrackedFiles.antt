-- The files whose offsets are kept: each is a path of its input, and no two are the same.
use Rattle.std.proofs.Common.{◌≡◌, ◌⊎◌, inl, inr, ℕ, zero, suc, ◌+◌, ◌<◌, ◌≤◌, List, [], ◌∷◌, ◌++◌, length, drop, Option, Some, None, refl, sym, ap, subst, arith}
use Rattle.std.specs.Prelude.{slice_get}
use Rattle.std.specs.List.{flat_map, range_with_len}
use Rattle.std.proofs.lemmas.Option.{same_Some}
use Rattle.fwd_settings.specs.declared.settings_types.AllSettings.{AllSettings}
use Rattle.fwd_model.specs.Settings.{paths_at, db_at}
use Rattle.fwd_model.specs.KeptOffsets.{Tracked, tracked, tracked_from, tracked_by}
use Rattle.fwd_engine_run.specs.OneOffset.{IsPath, tracked_file}

-- ---- lists of files

abbrev Each : (Tracked → Type 0) → List Tracked → Type 0
Each P [] = Unit {0}
Each P (t ∷ ts) = P t × Each P ts

each_at : (P : Tracked → Type 0) (ts : List Tracked) (k : ℕ) (t : Tracked) → Each P ts → slice_get ts k ≡ Some t → P t
each_at P [] k t all is = absurd (cc is)
each_at P (u ∷ ts) zero t all is = subst P (same_Some u t is) all.0
each_at P (u ∷ ts) (suc k) t all is = each_at P ts k t all.1 is

each_append : (P : Tracked → Type 0) (ts us : List Tracked) → Each P ts → Each P us → Each P (ts ++ us)
each_append P [] us first second = second
each_append P (t ∷ ts) us first second = (first.0, each_append P ts us first.1 second)

each_weaker : (P Q : Tracked → Type 0) (ts : List Tracked) → ((t : Tracked) → P t → Q t) → Each P ts → Each Q ts
each_weaker P Q [] more all = tt
each_weaker P Q (t ∷ ts) more all = (more t all.0, each_weaker P Q ts more all.1)

each_both : (P Q W : Tracked → Type 0) (ts : List Tracked) → ((t : Tracked) → P t → Q t → W t) → Each P ts → Each Q ts → Each W ts
each_both P Q W [] both first second = tt
each_both P Q W (t ∷ ts) both first second = (both t first.0 second.0, each_both P Q W ts both first.1 second.1)

-- the order of the files: by input, and by index
abbrev IsBefore : Tracked → Tracked → Type 0
IsBefore t u = (t.input < u.input) ⊎ ((t.input ≡ u.input) × (t.index < u.index))

abbrev AreOrdered : List Tracked → Type 0
AreOrdered [] = Unit {0}
AreOrdered (t ∷ ts) = Each (IsBefore t) ts × AreOrdered ts

ordered_append : (ts us : List Tracked) → AreOrdered ts → AreOrdered us → Each (λ t. Each (IsBefore t) us) ts → AreOrdered (ts ++ us)
ordered_append [] us first second between = second
ordered_append (t ∷ ts) us first second between = (each_append (IsBefore t) ts us first.0 between.0, ordered_append ts us first.1 second between.1)

not_itself : (t u : Tracked) → t.input ≡ u.input → t.index ≡ u.index → IsBefore t u → ⊥
not_itself t u input index (inl before) = absurd (omega (arith, input, before))
not_itself t u input index (inr before) = let less = before.1 in absurd (omega (arith, index, less))

ordered_apart : (ts : List Tracked) (j k : ℕ) (t u : Tracked) → AreOrdered ts → slice_get ts j ≡ Some t → slice_get ts k ≡ Some u → t.input ≡ u.input → t.index ≡ u.index → j ≡ k
ordered_apart [] j k t u ordered one other input index = absurd (cc one)
ordered_apart (v ∷ ts) zero zero t u ordered one other input index = refl
ordered_apart (v ∷ ts) zero (suc k) t u ordered one other input index =
    let before : IsBefore v u = each_at (IsBefore v) ts k u ordered.0 other in
    absurd (not_itself t u input index (subst (λ (x : Tracked). IsBefore x u) (same_Some v t one) before))
ordered_apart (v ∷ ts) (suc j) zero t u ordered one other input index =
    let before : IsBefore v t = each_at (IsBefore v) ts j t ordered.0 one in
    absurd (not_itself u t (sym input) (sym index) (subst (λ (x : Tracked). IsBefore x t) (same_Some v u other) before))
ordered_apart (v ∷ ts) (suc j) (suc k) t u ordered one other input index = ap suc (ordered_apart ts j k t u ordered.1 one other input index)

-- ---- the files of one input

-- the first of those that are left of a list
pub drop_first : {A : Type 0} (all : List A) (i : ℕ) (x : A) (xs : List A) → drop i all ≡ x ∷ xs → (slice_get all i ≡ Some x) × (drop (i + 1) all ≡ xs)
drop_first [] zero x xs is = absurd (cc is)
drop_first [] (suc i) x xs is = absurd (cc is)
drop_first {A = A} (y ∷ ys) zero x xs is = let first : y ≡ x = cc is in let rest : ys ≡ xs = cc is in (ap (λ (z : A). Some z) first, rest)
drop_first {A = A} (y ∷ ys) (suc i) x xs is =
    let more = drop_first ys i x xs is in
    let on : suc (i + 1) ≡ suc i + 1 = omega arith in
    (more.0, subst (λ (n : ℕ). drop n (y ∷ ys) ≡ xs) on more.1)

-- it is of this input, at an index from this one on
abbrev IsFrom : ℕ → ℕ → Tracked → Type 0
IsFrom input index t = (t.input ≡ input) × (index ≤ t.index)

from_later : (input index : ℕ) (t : Tracked) → IsFrom input (index + 1) t → IsFrom input index t
from_later input index t is = let above = is.1 in (is.0, omega (arith, above))

from_each : (input index : ℕ) (db : List ℕ) (paths : List (List ℕ)) → Each (IsFrom input index) (tracked_from input index db paths)
from_each input index db [] = tt
from_each input index db (path ∷ paths) =
    ((refl, omega arith), each_weaker (IsFrom input (index + 1)) (IsFrom input index) (tracked_from input (index + 1) db paths) (from_later input index) (from_each input (index + 1) db paths))

paths_each : (input index : ℕ) (db : List ℕ) (paths all : List (List ℕ)) → drop index all ≡ paths → Each (λ t. slice_get all t.index ≡ Some t.path) (tracked_from input index db paths)
paths_each input index db [] all is = tt
paths_each input index db (path ∷ paths) all is = let here = drop_first all index path paths is in (here.0, paths_each input (index + 1) db paths all here.1)

is_before : (input index : ℕ) (db path : List ℕ) (t : Tracked) → IsFrom input (index + 1) t → IsBefore (tracked_file input index db path) t
is_before input index db path t is = let above = is.1 in inr (sym is.0, omega (arith, above))

ordered_from : (input index : ℕ) (db : List ℕ) (paths : List (List ℕ)) → AreOrdered (tracked_from input index db paths)
ordered_from input index db [] = tt
ordered_from input index db (path ∷ paths) = (
  each_weaker (IsFrom input (index + 1)) (IsBefore (tracked_file input index db path)) (tracked_from input (index + 1) db paths) (is_before input index db path) (from_each input (index + 1) db paths),
  ordered_from input (index + 1) db paths,
)

by_input : (input : ℕ) (db : Option (List ℕ)) (paths : List (List ℕ)) → Each (λ t. t.input ≡ input) (tracked_by input db paths)
by_input input None paths = tt
by_input input (Some db) paths = each_weaker (IsFrom input 0) (λ t. t.input ≡ input) (tracked_from input 0 db paths) (λ t is. is.0) (from_each input 0 db paths)

by_paths : (input : ℕ) (db : Option (List ℕ)) (paths : List (List ℕ)) → Each (λ t. slice_get paths t.index ≡ Some t.path) (tracked_by input db paths)
by_paths input None paths = tt
by_paths input (Some db) paths = paths_each input 0 db paths paths refl

by_order : (input : ℕ) (db : Option (List ℕ)) (paths : List (List ℕ)) → AreOrdered (tracked_by input db paths)
by_order input None paths = tt
by_order input (Some db) paths = ordered_from input 0 db paths

-- ---- the files of all inputs

module _ (s : AllSettings) where
  abbrev pub files_of : ℕ → List Tracked
  files_of input = tracked_by input (db_at s input) (paths_at s input)

  abbrev pub all_from : ℕ → ℕ → List Tracked
  all_from input count = flat_map files_of (range_with_len input count)

  inputs_from : (input count : ℕ) → Each (λ t. input ≤ t.input) (all_from input count)
  inputs_from input zero = tt
  inputs_from input (suc count) =
      each_append (λ t. input ≤ t.input) (files_of input) (all_from (input + 1) count)
      (each_weaker (λ t. t.input ≡ input) (λ t. input ≤ t.input) (files_of input) (λ t is. omega (arith, is)) (by_input input (db_at s input) (paths_at s input)))
      (each_weaker (λ t. input + 1 ≤ t.input) (λ t. input ≤ t.input) (all_from (input + 1) count) (λ t above. omega (arith, above)) (inputs_from (input + 1) count))

  paths_from : (input count : ℕ) → Each (IsPath s) (all_from input count)
  paths_from input zero = tt
  paths_from input (suc count) =
      each_append (IsPath s) (files_of input) (all_from (input + 1) count)
      (each_both (λ t. t.input ≡ input) (λ t. slice_get (paths_at s input) t.index ≡ Some t.path) (IsPath s) (files_of input)
      (λ t is here. subst (λ (n : ℕ). slice_get (paths_at s n) t.index ≡ Some t.path) (sym is) here) (by_input input (db_at s input) (paths_at s input)) (by_paths input (db_at s input) (paths_at s input)))
      (paths_from (input + 1) count)

  all_ordered : (input count : ℕ) → AreOrdered (all_from input count)
  all_ordered input zero = tt
  all_ordered input (suc count) =
      ordered_append (files_of input) (all_from (input + 1) count) (by_order input (db_at s input) (paths_at s input)) (all_ordered (input + 1) count)
      (each_weaker (λ t. t.input ≡ input) (λ t. Each (IsBefore t) (all_from (input + 1) count)) (files_of input)
      (λ t is. each_weaker (λ u. input + 1 ≤ u.input) (IsBefore t) (all_from (input + 1) count) (λ u above. inl (omega (arith, is, above))) (inputs_from (input + 1) count)) (by_input input (db_at s input) (paths_at s input)))

  -- each is a path of its input
  pub tracked_path : (k : ℕ) (t : Tracked) → slice_get (tracked s) k ≡ Some t → IsPath s t
  unfolding tracked
  tracked_path k t is = each_at (IsPath s) (all_from 0 (length s.inputs)) k t (paths_from 0 (length s.inputs)) is

  -- no two are the same path of an input
  pub tracked_apart : (j k : ℕ) (t u : Tracked) → slice_get (tracked s) j ≡ Some t → slice_get (tracked s) k ≡ Some u → t.input ≡ u.input → t.index ≡ u.index → j ≡ k
  unfolding tracked
  tracked_apart j k t u one other input index = ordered_apart (all_from 0 (length s.inputs)) j k t u (all_ordered 0 (length s.inputs)) one other input index
