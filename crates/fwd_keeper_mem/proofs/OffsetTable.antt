-- Offsets by their keys: lookups after one of them changes.
use Rattle.std.proofs.Common.{◌≡◌, ℕ, zero, suc, ◌+◌, ◌<◌, Bool, true, false, if◌then◌else◌, List, [], ◌∷◌, ◌++◌, length, get_or, set, position, Option, Some, None, refl, sym, ◌∙◌, ap, subst, arith}
use Rattle.std.specs.List.{position_from}
use Rattle.std.specs.Str.{bytes_eq}
use Rattle.std.proofs.lemmas.Slice.Eq.{bytes_eq-Decides}
use Rattle.std.proofs.lemmas.List.Quantifiers.{position-Some}
use Rattle.std.proofs.lemmas.Iterator.Adapters.{position_from-zero}
use Rattle.fwd_keeper.specs.Keeper.{KeeperGiven, found, is_of}
use Rattle.fwd_keeper.proofs.HeldOffsets.{both}
use Rattle.fwd_keeper_mem.specs.Offsets.{HasOffset}

-- a database and a path, and their offset
abbrev Row : Type 0
Row = (List ℕ × List ℕ) × ℕ

-- whether a row is of these
abbrev pub is_row : List ℕ → List ℕ → Row → Bool
is_row db path row = is_of db path row.0.0 row.0.1

-- ---- keys

same_key : (db path other_db other_path : List ℕ) → is_of db path other_db other_path ≡ true → (other_db ≡ db) × (other_path ≡ path)
same_key db path other_db other_path of =
    let parts = both (bytes_eq other_db db) (bytes_eq other_path path) of in
    ((bytes_eq-Decides other_db db).0 parts.0, (bytes_eq-Decides other_path path).0 parts.1)

key_of_itself : (db path : List ℕ) → is_of db path db path ≡ true
key_of_itself db path = rw ((bytes_eq-Decides db db).1 refl, (bytes_eq-Decides path path).1 refl) refl

-- a row of another key isn't of this one
apart : (db path other_db other_path : List ℕ) (row : Row) → is_row db path row ≡ false → is_of other_db other_path db path ≡ true → is_row other_db other_path row ≡ false
apart db path other_db other_path row differs of =
    let same = same_key other_db other_path db path of in
    subst (λ (d : List ℕ). is_row d other_path row ≡ false) same.0 (subst (λ (p : List ℕ). is_row db p row ≡ false) same.1 differs)

-- ---- lookups

-- the first row of a key hides the others of that key
first : (db path other_db other_path : List ℕ) (row : Row) (now before after : Option ℕ) → is_row db path row ≡ false
    → before ≡ (if is_of other_db other_path db path then now else after)
    → (if is_row other_db other_path row then Some row.1 else before) ≡ (if is_of other_db other_path db path then now else (if is_row other_db other_path row then Some row.1 else after))
first db path other_db other_path row now before after differs is = by (is_of other_db other_path db path) (is_row other_db other_path row) refl refl
  where
    by : (here there : Bool) → is_of other_db other_path db path ≡ here → is_row other_db other_path row ≡ there
        → (if there then Some row.1 else before) ≡ (if here then now else (if there then Some row.1 else after))
    by true true here there = let clash : true ≡ false = sym there ∙ apart db path other_db other_path row differs here in absurd (cc clash)
    by true false here there = is ∙ ap (λ (b : Bool). if b then now else after) here
    by false true here there = refl
    by false false here there = is ∙ ap (λ (b : Bool). if b then now else after) here

under : (db path other_db other_path : List ℕ) (row : Row) (now after : Option ℕ) → is_row db path row ≡ true
    → (if is_row other_db other_path row then now else after) ≡ (if is_of other_db other_path db path then now else (if is_row other_db other_path row then Some row.1 else after))
under db path other_db other_path row now after is =
    let same = same_key db path row.0.0 row.0.1 is in
    subst (λ (p : List ℕ). (if is_row other_db other_path row then now else after) ≡ (if is_of other_db other_path db p then now else (if is_row other_db other_path row then Some row.1 else after))) same.1
    (subst (λ (d : List ℕ). (if is_row other_db other_path row then now else after) ≡ (if is_of other_db other_path d row.0.1 then now else (if is_row other_db other_path row then Some row.1 else after))) same.0
    (by (is_row other_db other_path row)))
  where
    by : (b : Bool) → (if b then now else after) ≡ (if b then now else (if b then Some row.1 else after))
    by true = refl
    by false = refl

-- the first row of a key, by its index
record IsFirst (rows : KeeperGiven) (db path : List ℕ) (index : ℕ) (d : Row) : Type 0 where
  within : index < length rows
  here : is_row db path (get_or rows index d) ≡ true
  before : (k : ℕ) → k < index → is_row db path (get_or rows k d) ≡ false

further : (row : Row) (rows : KeeperGiven) (db path : List ℕ) (index : ℕ) (d : Row) → IsFirst (row ∷ rows) db path (suc index) d → IsFirst rows db path index d
further row rows db path index d is = record { within = omega (arith, is.within); here = is.here; before = λ k lt. is.before (suc k) (omega arith) }

has_set : (rows : KeeperGiven) (db path : List ℕ) (index : ℕ) (d : Row) (place : ℕ) → IsFirst rows db path index d
    → HasOffset db path place rows (set rows index ((get_or rows index d).0, place))
has_set [] db path index d place is other_db other_path = absurd (omega (arith, is.within))
has_set (row ∷ rows) db path zero d place is other_db other_path = under db path other_db other_path row (Some place) (found rows other_db other_path) is.here
has_set (row ∷ rows) db path (suc index) d place is other_db other_path =
    first db path other_db other_path row (Some place) (found (set rows index ((get_or rows index d).0, place)) other_db other_path) (found rows other_db other_path) (is.before 0 (omega arith))
    (has_set rows db path index d place (further row rows db path index d is) other_db other_path)

found_first : (rows : KeeperGiven) (db path : List ℕ) (index : ℕ) (d : Row) → IsFirst rows db path index d → found rows db path ≡ Some (get_or rows index d).1
found_first [] db path index d is = absurd (omega (arith, is.within))
found_first (row ∷ rows) db path zero d is = ap (λ (b : Bool). if b then Some row.1 else found rows db path) is.here
found_first (row ∷ rows) db path (suc index) d is =
    ap (λ (b : Bool). if b then Some row.1 else found rows db path) (is.before 0 (omega arith)) ∙ found_first rows db path index d (further row rows db path index d is)

none_from : (rows : KeeperGiven) (db path : List ℕ) (i : ℕ) → position_from (is_row db path) i rows ≡ None → found rows db path ≡ None
none_from [] db path i is = refl
none_from (row ∷ rows) db path i is = by (is_row db path row) is (none_from rows db path (i + 1))
  where
    by : (b : Bool) → (if b then Some i else position_from (is_row db path) (i + 1) rows) ≡ None
        → (position_from (is_row db path) (i + 1) rows ≡ None → found rows db path ≡ None) → (if b then Some row.1 else found rows db path) ≡ None
    by true e rest = absurd (cc e)
    by false e rest = rest e

-- no row is of this key
pub not_found : (rows : KeeperGiven) (db path : List ℕ) → position (is_row db path) rows ≡ None → found rows db path ≡ None
not_found rows db path is = none_from rows db path 0 (sym (position_from-zero (is_row db path) rows) ∙ is)

is_first : (rows : KeeperGiven) (db path : List ℕ) (index : ℕ) (d : Row) → position (is_row db path) rows ≡ Some index → IsFirst rows db path index d
is_first rows db path index d is = let at = position-Some (is_row db path) rows index d is in record { within = at.0; here = at.1; before = at.2 }

-- the offset at the index of a key
pub found_at : (rows : KeeperGiven) (db path : List ℕ) (index : ℕ) (d : Row) → position (is_row db path) rows ≡ Some index → found rows db path ≡ Some (get_or rows index d).1
found_at rows db path index d is = found_first rows db path index d (is_first rows db path index d is)

-- a row of a new key is appended
has_push : (rows : KeeperGiven) (db path : List ℕ) (place : ℕ) → found rows db path ≡ None → HasOffset db path place rows (rows ++ ((db, path), place) ∷ [])
has_push [] db path place none other_db other_path = refl
has_push (row ∷ rows) db path place none other_db other_path = by (is_row db path row) refl none (λ e. has_push rows db path place e other_db other_path)
  where
    by : (b : Bool) → is_row db path row ≡ b → (if b then Some row.1 else found rows db path) ≡ None
        → (found rows db path ≡ None → found (rows ++ ((db, path), place) ∷ []) other_db other_path ≡ (if is_of other_db other_path db path then Some place else found rows other_db other_path))
        → found ((row ∷ rows) ++ ((db, path), place) ∷ []) other_db other_path ≡ (if is_of other_db other_path db path then Some place else found (row ∷ rows) other_db other_path)
    by true is e rest = absurd (cc e)
    by false is e rest = first db path other_db other_path row (Some place) (found (rows ++ ((db, path), place) ∷ []) other_db other_path) (found rows other_db other_path) is (rest e)

-- each of the changes, at the index of a key in the list
module _ (rows read : KeeperGiven) (db path : List ℕ) (is : read ≡ rows) where
  at_index : (index : Option ℕ) → index ≡ position (is_row db path) read → position (is_row db path) rows ≡ index
  at_index index at = ap (λ (l : KeeperGiven). position (is_row db path) l) (sym is) ∙ sym at

  pub has_put : (index : ℕ) (row : Row) (place : ℕ) → Some index ≡ position (is_row db path) read → row ≡ get_or rows index row → HasOffset db path place rows (set rows index (row.0, place))
  has_put index row place at entry =
      subst (λ (r : Row). HasOffset db path place rows (set rows index (r.0, place))) (sym entry) (has_set rows db path index row place (is_first rows db path index row (at_index (Some index) at)))

  pub has_pushed : (db2 path2 : List ℕ) (place : ℕ) (new : KeeperGiven) → None ≡ position (is_row db path) read → db2 ≡ db → path2 ≡ path → new ≡ rows ++ ((db2, path2), place) ∷ [] → HasOffset db path place rows new
  has_pushed db2 path2 place new at same_db same_path pushed =
      subst (λ (l : KeeperGiven). HasOffset db path place rows l)
      (ap (λ (d : List ℕ). rows ++ ((d, path), place) ∷ []) (sym same_db) ∙ ap (λ (p : List ℕ). rows ++ ((db2, p), place) ∷ []) (sym same_path) ∙ sym pushed)
      (has_push rows db path place (not_found rows db path (at_index None at)))
