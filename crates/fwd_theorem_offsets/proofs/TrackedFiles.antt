-- Followed files whose offsets are kept, by their inputs and paths.
use Rattle.std.proofs.Common.{◌≡◌, ◌⊎◌, inl, inr, ℕ, zero, suc, ◌+◌, Bool, true, false, cond, List, [], ◌∷◌, length, Option, Some, None, refl, sym, ◌∙◌, ap, subst, arith}
use Rattle.std.specs.Prelude.{Contains, slice_get}
use Rattle.std.specs.List.{range_with_len}
use Rattle.std.specs.Str.{bytes_eq}
use Rattle.std.proofs.lemmas.Bool.{and_parts}
use Rattle.std.proofs.lemmas.Slice.Eq.{bytes_eq-Decides}
use Rattle.fwd_keeper.specs.Keeper.{is_of}
use Rattle.fwd_settings.specs.declared.settings_types.AllSettings.{AllSettings}
use Rattle.fwd_model.specs.Settings.{paths_at, db_at}
use Rattle.fwd_model.specs.KeptOffsets.{Tracked, tracked_from, tracked_by, tracked, indexes_from}
use Rattle.fwd_theorem_trace.proofs.Members.{here, deeper, either, from_flat_map}

-- ---- database and path

pub of_same : (db path other_db other_path : List ℕ) → is_of db path other_db other_path ≡ true → (other_db ≡ db) × (other_path ≡ path)
of_same db path other_db other_path is =
    let parts = and_parts (bytes_eq other_db db) (bytes_eq other_path path) is in
    ((bytes_eq-Decides other_db db).0 parts.0, (bytes_eq-Decides other_path path).0 parts.1)

pub same_of : (db path other_db other_path : List ℕ) → other_db ≡ db → other_path ≡ path → is_of db path other_db other_path ≡ true
same_of db path other_db other_path dbs paths = rw ((bytes_eq-Decides other_db db).1 dbs, (bytes_eq-Decides other_path path).1 paths) refl

-- ---- the files of an input

-- the input of a file has its database, and the path at its index
pub record HasFile (s : AllSettings) (t : Tracked) : Type 0 where
  pub db : db_at s t.input ≡ Some t.db
  pub path : slice_get (paths_at s t.input) t.index ≡ Some t.path

record IsFrom (input index : ℕ) (db : List ℕ) (paths : List (List ℕ)) (t : Tracked) : Type 0 where
  input_is : t.input ≡ input
  db_is : t.db ≡ db
  place : ℕ
  index_is : t.index ≡ index + place
  path_is : slice_get paths place ≡ Some t.path

abbrev one_file : ℕ → ℕ → List ℕ → List ℕ → Tracked
one_file input index db path = record { input = input; index = index; db = db; path = path }

tracked_is : (input index : ℕ) (db : List ℕ) (paths : List (List ℕ)) (t : Tracked) → Contains (tracked_from input index db paths) t → IsFrom input index db paths t
tracked_is input index db [] t has = absurd (omega (arith, has.1))
tracked_is input index db (path ∷ paths) t has = by (either (one_file input index db path) (tracked_from input (index + 1) db paths) t has) (tracked_is input (index + 1) db paths t)
  where
    by : (one_file input index db path ≡ t) ⊎ Contains (tracked_from input (index + 1) db paths) t → (Contains (tracked_from input (index + 1) db paths) t → IsFrom input (index + 1) db paths t) → IsFrom input index db (path ∷ paths) t
    by (inl same) more = record {
      input_is = ap (λ (x : Tracked). x.input) (sym same);
      db_is = ap (λ (x : Tracked). x.db) (sym same);
      place = zero;
      index_is = let at : t.index ≡ index = ap (λ (x : Tracked). x.index) (sym same) in omega (arith, at);
      path_is = ap (λ (x : Tracked). Some x.path) same;
    }
    by (inr later) more =
        let from = more later in
        let at = from.index_is in
        record { input_is = from.input_is; db_is = from.db_is; place = suc from.place; index_is = omega (arith, at); path_is = from.path_is }

pub has_file : (s : AllSettings) (t : Tracked) → Contains (tracked s) t → HasFile s t
unfolding tracked
has_file s t has =
    let found = from_flat_map (λ (input : ℕ). tracked_by input (db_at s input) (paths_at s input)) (range_with_len 0 (length s.inputs)) t has in by found.0 (db_at s found.0) refl found.2
  where
    by : (input : ℕ) (o : Option (List ℕ)) → db_at s input ≡ o → Contains (tracked_by input o (paths_at s input)) t → HasFile s t
    by input None is none = absurd (omega (arith, none.1))
    by input (Some db) is there =
        let from = tracked_is input 0 db (paths_at s input) t there in
        let at = from.index_is in
        let place : from.place ≡ t.index = omega (arith, at) in
        record {
          db = ap (db_at s) from.input_is ∙ (is ∙ ap Some (sym from.db_is));
          path = ap (λ (i : ℕ). slice_get (paths_at s i) t.index) from.input_is ∙ (ap (slice_get (paths_at s input)) (sym place) ∙ from.path_is);
        }

-- ---- the indexes of a path

pub index_in : (index : ℕ) (path : List ℕ) (paths : List (List ℕ)) (place : ℕ) → slice_get paths place ≡ Some path → Contains (indexes_from index path paths) (index + place)
index_in index path [] place at = absurd (cc at)
index_in index path (other ∷ paths) zero at = by (bytes_eq other path) refl
  where
    same : other ≡ path
    same = cc at

    by : (b : Bool) → bytes_eq other path ≡ b → Contains (cond b (index ∷ indexes_from (index + 1) path paths) (indexes_from (index + 1) path paths)) (index + 0)
    by true is =
        let at_once : index ≡ index + 0 = omega arith in
        subst (λ (n : ℕ). Contains (index ∷ indexes_from (index + 1) path paths) n) at_once (here index (indexes_from (index + 1) path paths))
    by false is = absurd (cc (sym is ∙ (bytes_eq-Decides other path).1 same))
index_in index path (other ∷ paths) (suc place) at =
    let same : index + 1 + place ≡ index + suc place = omega arith in
    by (bytes_eq other path) (subst (λ (n : ℕ). Contains (indexes_from (index + 1) path paths) n) same (index_in (index + 1) path paths place at))
  where
    by : (b : Bool) → Contains (indexes_from (index + 1) path paths) (index + suc place) → Contains (cond b (index ∷ indexes_from (index + 1) path paths) (indexes_from (index + 1) path paths)) (index + suc place)
    by true has = deeper index (indexes_from (index + 1) path paths) (index + suc place) has
    by false has = has

-- such an index, and where the path is in the list
abbrev IsIndex : ℕ → List ℕ → List (List ℕ) → ℕ → Type 0
IsIndex index path paths n = (place : ℕ) × (n ≡ index + place) × (slice_get paths place ≡ Some path)

pub index_out : (index : ℕ) (path : List ℕ) (paths : List (List ℕ)) (n : ℕ) → Contains (indexes_from index path paths) n → IsIndex index path paths n
index_out index path [] n has = absurd (omega (arith, has.1))
index_out index path (other ∷ paths) n has = by (bytes_eq other path) refl has (index_out (index + 1) path paths n)
  where
    later : IsIndex (index + 1) path paths n → IsIndex index path (other ∷ paths) n
    later (place, is, at) = (suc place, omega (arith, is), at)

    by : (b : Bool) → bytes_eq other path ≡ b → Contains (cond b (index ∷ indexes_from (index + 1) path paths) (indexes_from (index + 1) path paths)) n
        → (Contains (indexes_from (index + 1) path paths) n → IsIndex (index + 1) path paths n) → IsIndex index path (other ∷ paths) n
    by false is has more = later (more has)
    by true is has more = both (either index (indexes_from (index + 1) path paths) n has)
      where
        both : (index ≡ n) ⊎ Contains (indexes_from (index + 1) path paths) n → IsIndex index path (other ∷ paths) n
        both (inl same) = (zero, omega (arith, same), ap Some ((bytes_eq-Decides other path).0 is))
        both (inr there) = later (more there)
