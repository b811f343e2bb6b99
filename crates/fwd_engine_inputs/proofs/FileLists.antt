-- The files of one input, of which one changes.
use Rattle.std.proofs.Common.{◌≡◌, ◌≢◌, ℕ, ◌<◌, ◌≤◌, Bool, true, inl, inr, List, [], length, get_or, Option, Some, None, Result, Ok, Err, refl, sym, ap, subst, ◌∙◌, arith}
use Rattle.std.specs.Prelude.{nat_lt, slice_get}
use Rattle.std.proofs.Math.ListN.{set, length-set}
use Rattle.std.proofs.lemmas.Bool.{cases_eq, cases_lt, ltb-true, ne_eqb, eq-eqb}
use Rattle.std.proofs.lemmas.List.{get_or-set_same, get_or-set_other}
use Rattle.std.proofs.lemmas.Option.{slice_get_past, slice_get_within, slice_get-get_or, slice_get_read}
use Rattle.fwd_outside.specs.Files.{FilesLog}
use Rattle.fwd_frames.specs.declared.line.Line.{Line}
use Rattle.fwd_in_tail.specs.Followed.{Followed, after}
use Rattle.fwd_in_tail.specs.declared.tail.TailErr.{TailErr}
use Rattle.fwd_in_tail.specs.declared.tail.TailErr.TheVariants.{FileFault, Memory}
use Rattle.fwd_engine_inputs.specs.FileRepresents.{FileRepresents, FileRepresentsAt, InputFilesRepresent, FilePolled, InputFilePolled, changed}
use Rattle.fwd_engine_inputs.specs.declared.followed_file.FollowedFile.{FollowedFile}

-- ---- an item of a list is set

pub set_here : {A : Type 0} (xs : List A) (i : ℕ) (v : A) → i < length xs → slice_get (set xs i v) i ≡ Some v
set_here xs i v within =
    let also : i < length (set xs i v) = omega (arith, length-set xs i v, within) in
    slice_get-get_or (set xs i v) i v also ∙ ap Some (get_or-set_same xs i v v within)

pub set_other : {A : Type 0} (xs : List A) (i k : ℕ) (v : A) → i ≢ k → slice_get (set xs i v) k ≡ slice_get xs k
set_other xs i k v differs = elim (cases_lt k (length xs)) [
  | inl within ↦
      let also : k < length (set xs i v) = omega (arith, length-set xs i v, within) in
      slice_get-get_or (set xs i v) k v also ∙ ap Some (get_or-set_other xs i k v v (λ e. differs (sym e))) ∙ sym (slice_get-get_or xs k v within)
  | inr past ↦
      let also : length (set xs i v) ≤ k = omega (arith, length-set xs i v, past) in
      slice_get_past (set xs i v) k also ∙ sym (slice_get_past xs k past)
]

-- an item of a list, by its index
pub got : {A : Type 0} (xs ys : List A) (i : ℕ) (x : A) → ys ≡ xs → true ≡ nat_lt i (length ys) → x ≡ get_or ys i x → slice_get xs i ≡ Some x
got {A = A} xs ys i x same within is = subst (λ (l : List A). slice_get l i ≡ Some x) same (slice_get_read ys (length ys) i x refl (ltb-true i (length ys) (sym within)) is)

-- ---- one file

at_by : (head : Bool) (f g : Followed) (p q : Option (List ℕ)) (x y : Option FollowedFile) → f ≡ g → p ≡ q → x ≡ y → FileRepresentsAt head f p x → FileRepresentsAt head g q y
at_by head f g p q x y e1 e2 e3 k =
    subst (λ (z : Option FollowedFile). FileRepresentsAt head g q z) e3 (subst (λ (z : Option (List ℕ)). FileRepresentsAt head g z x) e2 (subst (λ (z : Followed). FileRepresentsAt head z p x) e1 k))

-- the file of an existing path
pub stands : (paths : List (List ℕ)) (head : Bool) (all : ℕ → Followed) (sources : List FollowedFile) (index : ℕ) (path : List ℕ) (source : FollowedFile)
    → InputFilesRepresent paths head all sources → slice_get paths index ≡ Some path → slice_get sources index ≡ Some source → FileRepresents path head (all index) source
stands paths head all sources index path source k here there = at_by head (all index) (all index) (slice_get paths index) (Some path) (slice_get sources index) (Some source) refl here there (k.each index)

-- files in the same state
pub same_files : (paths : List (List ℕ)) (head : Bool) (f g : ℕ → Followed) (sources : List FollowedFile) → ((index : ℕ) → f index ≡ g index) → InputFilesRepresent paths head f sources → InputFilesRepresent paths head g sources
same_files paths head f g sources same k = record {
  each = λ index. at_by head (f index) (g index) (slice_get paths index) (slice_get paths index) (slice_get sources index) (slice_get sources index) (same index) refl refl (k.each index);
  count = k.count;
}

changed_here : (all : ℕ → Followed) (index : ℕ) (f : Followed) → changed all index f index ≡ f
changed_here all index f = rw (eq-eqb index index refl) refl

changed_other : (all : ℕ → Followed) (index k : ℕ) (f : Followed) → index ≢ k → changed all index f k ≡ all k
changed_other all index k f differs = rw (ne_eqb index k differs) refl

-- one file is in another state
pub changed_one : (paths : List (List ℕ)) (head : Bool) (all : ℕ → Followed) (old : List FollowedFile) (index : ℕ) (path : List ℕ) (f : Followed) (new : FollowedFile)
    → InputFilesRepresent paths head all old → index < length old → slice_get paths index ≡ Some path → FileRepresents path head f new → InputFilesRepresent paths head (changed all index f) (set old index new)
changed_one paths head all old index path f new k within here now = record {
  each = λ i. elim (cases_eq index i) [
    | inl same ↦
        let at : FileRepresentsAt head (changed all index f index) (slice_get paths index) (slice_get (set old index new) index) =
        at_by head f (changed all index f index) (Some path) (slice_get paths index) (Some new) (slice_get (set old index new) index) (sym (changed_here all index f)) (sym here) (sym (set_here old index new within)) now in
        subst (λ (n : ℕ). FileRepresentsAt head (changed all index f n) (slice_get paths n) (slice_get (set old index new) n)) same at
    | inr differs ↦ at_by head (all i) (changed all index f i) (slice_get paths i) (slice_get paths i) (slice_get old i) (slice_get (set old index new) i) (sym (changed_other all index i f differs)) refl (sym (set_other old index i new differs)) (k.each i)
  ];
  count = length-set old index new ∙ k.count;
}

-- without such a file none changes
pub none_changed : (paths : List (List ℕ)) (head : Bool) (all : ℕ → Followed) (old : List FollowedFile) (index : ℕ) (f : Followed)
    → InputFilesRepresent paths head all old → length old ≤ index → InputFilesRepresent paths head (changed all index f) old
none_changed paths head all old index f k past = record {
  each = λ i. elim (cases_eq index i) [
    | inl same ↦
        let none : slice_get paths i ≡ None = slice_get_past paths i (omega (arith, k.count, same, past)) in
        let no_source : slice_get old i ≡ None = slice_get_past old i (omega (arith, same, past)) in
        at_by head f (changed all index f i) None (slice_get paths i) None (slice_get old i) (sym (subst (λ (n : ℕ). changed all index f n ≡ f) same (changed_here all index f))) (sym none) (sym no_source) tt
    | inr differs ↦ at_by head (all i) (changed all index f i) (slice_get paths i) (slice_get paths i) (slice_get old i) (slice_get old i) (sym (changed_other all index i f differs)) refl refl (k.each i)
  ];
  count = k.count;
}

pub within : (paths : List (List ℕ)) (head : Bool) (all : ℕ → Followed) (old : List FollowedFile) (index : ℕ) (path : List ℕ) → InputFilesRepresent paths head all old → slice_get paths index ≡ Some path → length old ≤ index → ⊥
within paths head all old index path k here past = absurd (omega (arith, slice_get_within paths index path here, k.count, past))

-- ---- a call on one file

module _ (old : List FollowedFile) (index : ℕ) (source new : FollowedFile) (there : index < length old) (read : source ≡ get_or old index source) where
  is_there : slice_get old index ≡ Some source
  is_there = slice_get_read old (length old) index source refl there read

  pub polls_one : (a b : FilesLog) (result : Result (List Line) TailErr)
      → ((path : List ℕ) (head : Bool) (f : Followed) → FileRepresents path head f source → FilePolled a b path head f new result)
      → (paths : List (List ℕ)) (head : Bool) (all : ℕ → Followed) (path : List ℕ) → InputFilesRepresent paths head all old → slice_get paths index ≡ Some path → InputFilePolled a b paths head all index path (set old index new) result
  polls_one a b (Ok found) polled paths head all path k here =
      let x = polled path head (all index) (stands paths head all old index path source k here is_there) in
      (x.0, x.1, x.2, changed_one paths head all old index path (after head (all index) x.0) new k there here x.3)
  polls_one a b (Err FileFault) polled paths head all path k here = polled path head (all index) (stands paths head all old index path source k here is_there)
  polls_one a b (Err Memory) polled paths head all path k here = polled path head (all index) (stands paths head all old index path source k here is_there)

  some_path : (paths : List (List ℕ)) → length old ≡ length paths → (path : List ℕ) × (slice_get paths index ≡ Some path)
  some_path paths same = (get_or paths index [], slice_get-get_or paths index [] (omega (arith, same, there)))

  pub resumes_one : (f : Followed) → ((path : List ℕ) (head : Bool) (g : Followed) → FileRepresents path head g source → FileRepresents path head f new)
      → (paths : List (List ℕ)) (head : Bool) (all : ℕ → Followed) → InputFilesRepresent paths head all old → InputFilesRepresent paths head (changed all index f) (set old index new)
  resumes_one f on paths head all k =
      let at = some_path paths k.count in
      changed_one paths head all old index at.0 f new k there at.1 (on at.0 head (all index) (stands paths head all old index at.0 source k at.1 is_there))
