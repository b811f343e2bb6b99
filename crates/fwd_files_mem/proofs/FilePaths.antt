-- Files in a map by their paths: lookups after one of them changes.
use Rattle.std.proofs.Common.{◌≡◌, ℕ, Bool, true, false, cond, if◌then◌else◌, List, [], ◌∷◌, ◌++◌, take, unwrap_or, Option, Some, None, refl, sym, ◌∙◌, ap, subst, append_assoc}
use Rattle.std.specs.Cmp.Lexicographic.{slice_cmp, nat_list_eq_equiv, texts_ties}
use Rattle.std.specs.Map.{lookup}
use Rattle.std.specs.Option.{option_map}
use Rattle.std.specs.Ordering.{nat_cmp}
use Rattle.std.specs.BTreeMap.{is_at}
use Rattle.std.specs.Str.{bytes_eq}
use Rattle.std.proofs.lemmas.Slice.Eq.{bytes_eq-Decides}
use Rattle.fwd_outside.specs.Files.{FilesGiven, found}
use Rattle.fwd_files_mem.specs.MemFiles.{HasContent, SameFiles}

-- whether a key of the map is this path
abbrev pub at_path : List ℕ → List ℕ → Bool
at_path path key = is_at (slice_cmp nat_cmp path) key

same_test : (key path : List ℕ) → bytes_eq key path ≡ at_path path key
same_test key path = nat_list_eq_equiv.symm key path ∙ texts_ties path key

-- the map's lookup finds the file of a path
pub found_lookup : (files : FilesGiven) (path : List ℕ) → found files path ≡ lookup (at_path path) files
found_lookup [] path = refl
found_lookup (file ∷ files) path =
    ap (λ (b : Bool). if b then Some file.1 else found files path) (same_test file.0 path)
    ∙ ap (λ (o : Option (List ℕ)). if at_path path file.0 then Some file.1 else o) (found_lookup files path)

-- a path without a file has none from here on
pub has_none : (files : FilesGiven) (path : List ℕ) → found files path ≡ None → HasContent path None files files
has_none files path none other = by (bytes_eq path other) refl
  where
    by : (b : Bool) → bytes_eq path other ≡ b → found files other ≡ (if b then None else found files other)
    by true is = ap (λ (p : List ℕ). found files p) (sym ((bytes_eq-Decides path other).0 is)) ∙ none
    by false is = refl

-- the map after an update of a path
abbrev pub IsUpdated : List ℕ → List ℕ → FilesGiven → FilesGiven → Type 0
IsUpdated path content old new =
    (other : List ℕ) → lookup (at_path other) new ≡ cond (at_path path other) (Some content) (lookup (at_path other) old)

pub has_update : (path content : List ℕ) (old new : FilesGiven) → IsUpdated path content old new → HasContent path (Some content) old new
has_update path content old new is other =
    found_lookup new other ∙ is other
    ∙ ap (λ (b : Bool). if b then Some content else lookup (at_path other) old) (sym (texts_ties path other))
    ∙ ap (λ (o : Option (List ℕ)). if bytes_eq path other then Some content else o) (sym (found_lookup old other))

-- each of the changes, at a path whose file was looked up
module _ (files new : FilesGiven) (path content : List ℕ) (updated : IsUpdated path content files new) where
  pub has_cut : (most : ℕ) (was : List ℕ) → Some was ≡ lookup (at_path path) files → content ≡ take most was → HasContent path (option_map (take most) (found files path)) files new
  has_cut most was there cut =
      subst (λ (c : Option (List ℕ)). HasContent path c files new)
      (ap (λ (b : List ℕ). Some b) cut ∙ ap (λ (o : Option (List ℕ)). option_map (take most) o) (there ∙ sym (found_lookup files path))) (has_update path content files new updated)

  pub has_appended : (bytes : List ℕ) (was : Option (List ℕ)) → was ≡ lookup (at_path path) files → content ≡ unwrap_or was [] ++ bytes
      → HasContent path (Some (unwrap_or (found files path) [] ++ bytes)) files new
  has_appended bytes was there grown =
      subst (λ (c : Option (List ℕ)). HasContent path c files new)
      (ap (λ (b : List ℕ). Some b) grown ∙ ap (λ (o : Option (List ℕ)). Some (unwrap_or o [] ++ bytes)) (there ∙ sym (found_lookup files path))) (has_update path content files new updated)

pub has_made : (files lent new : FilesGiven) (path key bytes content : List ℕ) → lent ≡ files → key ≡ path → content ≡ bytes → None ≡ lookup (at_path path) files → IsUpdated key content lent new
    → HasContent path (Some (unwrap_or (found files path) [] ++ bytes)) files new
has_made files lent new path key bytes content same same_key same_bytes there updated =
    let updated2 : IsUpdated path content files new = rw (← same, ← same_key) updated in
    has_appended files new path content updated2 bytes None there same_bytes

pub has_nothing : (files : FilesGiven) (path : List ℕ) (most : ℕ) → None ≡ lookup (at_path path) files → HasContent path (option_map (take most) (found files path)) files files
has_nothing files path most there =
    let none : found files path ≡ None = found_lookup files path ∙ sym there in
    subst (λ (o : Option (List ℕ)). HasContent path (option_map (take most) o) files files) (sym none) (has_none files path none)

-- the same files follow the same list
after_same : (before a b : FilesGiven) (path : List ℕ) → found a path ≡ found b path → found (before ++ a) path ≡ found (before ++ b) path
after_same [] a b path same = same
after_same (file ∷ before) a b path same = ap (λ (o : Option (List ℕ)). if bytes_eq file.0 path then Some file.1 else o) (after_same before a b path same)

-- the last of the files to copy goes into the copy
pub copies_last : (files rest before : FilesGiven) (path key bytes content : List ℕ) (copy new : FilesGiven) → SameFiles files (rest ++ copy) → rest ≡ before ++ (path, bytes) ∷ [] → key ≡ path → content ≡ bytes
    → IsUpdated key content copy new → SameFiles files (before ++ new)
copies_last files rest before path key bytes content copy new same last same_key same_bytes updated other =
    let cloned : (path, bytes) ∷ [] ≡ (key, content) ∷ [] = cc (same_key, same_bytes) in
    same other
    ∙ ap (λ (l : FilesGiven). found (l ++ copy) other) (last ∙ ap (λ (l : FilesGiven). before ++ l) cloned)
    ∙ ap (λ (l : FilesGiven). found l other) (append_assoc before ((key, content) ∷ []) copy)
    ∙ sym (after_same before new ((key, content) ∷ copy) other (has_update key content copy new updated other))
