-- Names under a folder: which names these are, and that each file extends their list.
use Rattle.std.proofs.Common.{◌≡◌, ◌≢◌, ◌⊎◌, inl, inr, ⊎_elim, ℕ, suc, ◌+◌, ◌<◌, Bool, true, false, not, is_ok, Result, Ok, Err, MatchResult, IfOk, is_some, IsTrue, if◌then◌else◌, Some, None, List, [], ◌∷◌, ◌++◌, length, get_or, take, drop, Contains, IsUtf8, refl, sym, ◌∙◌, ap, subst, arith, length-append}
use Rattle.std.specs.Str.{bytes_eq}
use Rattle.std.proofs.lemmas.Slice.Eq.{bytes_eq-Decides}
use Rattle.std.proofs.lemmas.Grind.{take_at_read}
use Rattle.std.proofs.lemmas.List.{append-nil, append_cancel_left, take-append-drop, take_at, drop_more}
use Rattle.std.proofs.lemmas.List.Filters.{All-dedup}
use Rattle.std.proofs.lemmas.List.Kept.{Contains-dedup, IsStrictlySortedBy-dedup}
use Rattle.std.proofs.lemmas.List.Sorted.{All-permutation, Contains-permutation}
use Rattle.std.proofs.lemmas.Cmp.{nat_list_cmp_total}
use Rattle.std.specs.Cmp.Lexicographic.{slice_cmp, texts_ties, nat_list_eq_equiv}
use Rattle.std.specs.Ordering.{nat_cmp}
use Rattle.std.specs.List.{dedup}
use Rattle.std.specs.List.Sorted.{IsPermutation, IsSorted}
use Rattle.std.proofs.lemmas.List.Elements.{All-push, Contains-push, Contains-push_cases, Contains-append_left}
use Rattle.fwd_outside.specs.Disk.{IsFileName, IsListing}
use Rattle.fwd_outside.specs.File.{FileState, content}
use Rattle.fwd_outside.specs.DiskStates.{Files, IsUnder, AreNamesIn}
use Rattle.fwd_disk_mem.specs.FileTable.{MemFile, found}
use Rattle.fwd_disk_mem.specs.Listing.{IsUpToSlash, Adds, AreNames}
use Rattle.fwd_disk_mem.proofs.Lookup.{on_name}

pub passes_byte : (bytes : List ℕ) (i d : ℕ) → i < length bytes → get_or bytes i d ≢ 47 → (Contains (take i bytes) 47 → ⊥) → Contains (take (i + 1) bytes) 47 → ⊥
passes_byte bytes i d lt other none is =
    ⊎_elim (λ before. none before) (λ here. other here)
    (Contains-push_cases (take i bytes) (get_or bytes i d) 47 (subst (λ (l : List ℕ). Contains l 47) (take_at_read bytes i d lt).1 is))

pub up_to : (bytes : List ℕ) (i d : ℕ) → i < length bytes → get_or bytes i d ≡ 47 → (Contains (take i bytes) 47 → ⊥) → IsUpToSlash bytes (take i bytes)
up_to bytes i d lt is none = record {
  plain = none;
  rest = drop i bytes;
  is = sym (take-append-drop i bytes);
  ends = inr (drop (i + 1) bytes, drop_more bytes i d lt ∙ ap (λ (b : ℕ). b ∷ drop (i + 1) bytes) is);
}

-- a name without `/` is determined by the bytes that begin with it
plain_tail : (x : ℕ) (name : List ℕ) → (Contains (x ∷ name) 47 → ⊥) → Contains name 47 → ⊥
plain_tail x name plain is = plain (suc is.0, omega (arith, is.1), is.2)

first_plain : (name : List ℕ) → (Contains (47 ∷ name) 47 → ⊥) → ⊥
first_plain name plain = plain (0, omega arith, refl)

pub same_name : (a b r s : List ℕ) → (Contains a 47 → ⊥) → (Contains b 47 → ⊥) → (r ≡ []) ⊎ ((deeper : List ℕ) × (r ≡ 47 ∷ deeper)) → (s ≡ []) ⊎ ((deeper : List ℕ) × (s ≡ 47 ∷ deeper)) → a ++ r ≡ b ++ s → a ≡ b
same_name [] [] r s pa pb er es e = refl
same_name [] (y ∷ b) r s pa pb (inl er) es e = let no : [] ≡ y ∷ (b ++ s) = sym er ∙ e in absurd (cc no)
same_name [] (y ∷ b) r s pa pb (inr er) es e = let is : 47 ∷ er.0 ≡ y ∷ (b ++ s) = sym er.1 ∙ e in let first : y ≡ 47 = cc in absurd (first_plain b (subst (λ (z : ℕ). Contains (z ∷ b) 47 → ⊥) first pb))
same_name (x ∷ a) [] r s pa pb er (inl es) e = let no : x ∷ (a ++ r) ≡ [] = e ∙ es in absurd (cc no)
same_name (x ∷ a) [] r s pa pb er (inr es) e = let is : x ∷ (a ++ r) ≡ 47 ∷ es.0 = e ∙ es.1 in let first : x ≡ 47 = cc in absurd (first_plain a (subst (λ (z : ℕ). Contains (z ∷ a) 47 → ⊥) first pa))
same_name (x ∷ a) (y ∷ b) r s pa pb er es e =
    let first : x ≡ y = cc in
    let rest : a ++ r ≡ b ++ s = cc in
    let more = same_name a b r s (plain_tail x a pa) (plain_tail y b pb) er es rest in
    λ i. first i ∷ more i

pub whole_plain : (bytes : List ℕ) → (Contains bytes 47 → ⊥) → IsUpToSlash bytes bytes
whole_plain bytes plain = record { plain = plain; rest = []; is = sym (append-nil bytes); ends = inl refl }

-- the first bytes of a file under the folder
pub begins : (folder name file : List ℕ) (d : ℕ) → IsUnder folder name file → (length folder < length file) × (get_or file (length folder) d ≡ 47) × (take (length folder) file ≡ folder)
begins folder name file d under = (
  omega (arith, ap (λ (l : List ℕ). length l) under.is, length-append folder (47 ∷ name ++ under.rest)),
  ap (λ (l : List ℕ). get_or l (length folder) d) under.is ∙ get_or-at folder (47 ∷ name ++ under.rest) d,
  ap (λ (l : List ℕ). take (length folder) l) under.is ∙ take_at folder (47 ∷ name ++ under.rest) (length folder) refl,
)
  where
    get_or-at : (xs ys : List ℕ) (d : ℕ) → get_or (xs ++ ys) (length xs) d ≡ get_or ys 0 d
    get_or-at [] ys d = refl
    get_or-at (x ∷ xs) ys d = get_or-at xs ys d

pub is_under : (folder name file : List ℕ) (d : ℕ) → length folder < length file → get_or file (length folder) d ≡ 47 → take (length folder) file ≡ folder → IsUpToSlash (drop (length folder + 1) file) name → IsUnder folder name file
is_under folder name file d lt slash front up = record {
  rest = up.rest;
  is =
      sym (take-append-drop (length folder) file)
      ∙ (λ i. front i ++ (drop_more file (length folder) d lt ∙ (λ j. slash j ∷ up.is j)) i);
  ends = up.ends;
}

-- a file has one name under a folder
pub one_name : (folder a b file : List ℕ) → IsUnder folder a file → IsUnder folder b file → (Contains a 47 → ⊥) → (Contains b 47 → ⊥) → a ≡ b
one_name folder a b file ua ub pa pb =
    let tails : 47 ∷ a ++ ua.rest ≡ 47 ∷ b ++ ub.rest = append_cancel_left folder (47 ∷ a ++ ua.rest) (47 ∷ b ++ ub.rest) (sym ua.is ∙ ub.is) in
    let rest : a ++ ua.rest ≡ b ++ ub.rest = cc in
    same_name a b ua.rest ub.rest pa pb ua.ends ub.ends rest

pub adds_none : (folder name file : List ℕ) (names : List (List ℕ)) → IsUnder folder name file → (Contains name 47 → ⊥) → (IsUtf8 name → ⊥) → Adds folder file names names
adds_none folder name file names under plain bad = inl (refl, λ other is_name is_under. bad (subst IsUtf8 (one_name folder other name file is_under under is_name.plain plain) is_name.text))

-- whether a file is found among more files
found_in : (files : List MemFile) (file : MemFile) (name : List ℕ) → IsTrue (is_some (found files name)) → IsTrue (is_some (found (files ++ file ∷ []) name))
found_in [] file name is = absurd (cc is)
found_in (first ∷ files) file name is = by (bytes_eq first.name name) is (found_in files file name)
  where
    by : (b : Bool) → IsTrue (is_some (if b then Some first.bytes else found files name)) → (IsTrue (is_some (found files name)) → IsTrue (is_some (found (files ++ file ∷ []) name)))
        → IsTrue (is_some (if b then Some first.bytes else found (files ++ file ∷ []) name))
    by true is rest = refl
    by false is rest = rest is

found_last : (files : List MemFile) (file : MemFile) → IsTrue (is_some (found (files ++ file ∷ []) file.name))
found_last [] file = ap is_some (on_name file.name file.name (Some file.bytes) None refl)
found_last (first ∷ files) file = by (bytes_eq first.name file.name) (found_last files file)
  where
    by : (b : Bool) → IsTrue (is_some (found (files ++ file ∷ []) file.name)) → IsTrue (is_some (if b then Some first.bytes else found (files ++ file ∷ []) file.name))
    by true rest = refl
    by false rest = rest

found_cases : (files : List MemFile) (file : MemFile) (name : List ℕ) → IsTrue (is_some (found (files ++ file ∷ []) name)) → IsTrue (is_some (found files name)) ⊎ (file.name ≡ name)
found_cases [] file name is = by (bytes_eq file.name name) refl is
  where
    by : (b : Bool) → bytes_eq file.name name ≡ b → IsTrue (is_some (if b then Some file.bytes else None)) → IsTrue (is_some (found [] name)) ⊎ (file.name ≡ name)
    by true e is = inr ((bytes_eq-Decides file.name name).0 e)
    by false e is = absurd (cc is)
found_cases (first ∷ files) file name is = by (bytes_eq first.name name) is (found_cases files file name)
  where
    by : (b : Bool) → IsTrue (is_some (if b then Some first.bytes else found (files ++ file ∷ []) name)) → (IsTrue (is_some (found (files ++ file ∷ []) name)) → IsTrue (is_some (found files name)) ⊎ (file.name ≡ name))
        → IsTrue (is_some (if b then Some first.bytes else found files name)) ⊎ (file.name ≡ name)
    by true is rest = inl refl
    by false is rest = rest is

abbrev Under : List ℕ → List MemFile → List ℕ → Type 0
Under folder files name = (file : List ℕ) × IsTrue (is_some (found files file)) × IsUnder folder name file

pub names-push : (folder : List ℕ) (files : List MemFile) (file : MemFile) (old new : List (List ℕ)) → AreNames folder files old → Adds folder file.name old new → AreNames folder (files ++ file ∷ []) new
names-push folder files file old new names (inl adds) = subst (λ (l : List (List ℕ)). AreNames folder (files ++ file ∷ []) l) (sym adds.0) (record {
  texts = names.texts;
  each = λ k d lt. let at = names.each k d lt in (at.0, found_in files file at.0 at.1, at.2);
  all = λ name other is_name there under. ⊎_elim (λ before. names.all name other is_name before under) (λ is. absurd (adds.1 name is_name (subst (λ (f : List ℕ). IsUnder folder name f) (sym is) under))) (found_cases files file other there);
})
names-push folder files file old new names (inr adds) = subst (λ (l : List (List ℕ)). AreNames folder (files ++ file ∷ []) l) (sym adds.3) (record {
  texts = All-push IsFileName old adds.0 names.texts adds.1;
  each = All-push (Under folder (files ++ file ∷ [])) old adds.0 (λ k d lt. let at = names.each k d lt in (at.0, found_in files file at.0 at.1, at.2)) (file.name, found_last files file, adds.2);
  all = λ name other is_name there under.
      ⊎_elim (λ before. Contains-append_left old (adds.0 ∷ []) name (names.all name other is_name before under))
      (λ is. let one = one_name folder adds.0 name file.name adds.2 (subst (λ (f : List ℕ). IsUnder folder name f) (sym is) under) adds.1.plain is_name.plain in
      subst (λ (n : List ℕ). Contains (old ++ adds.0 ∷ []) n) one (Contains-push old adds.0)) (found_cases files file other there);
})

pub names_nil : (folder : List ℕ) → AreNames folder [] []
names_nil folder = record { texts = λ k d lt. absurd (omega (arith, lt)); each = λ k d lt. absurd (omega (arith, lt)); all = λ name file is_name there under. absurd (cc there) }

-- sorted, each once
pub sorted_names : (folder : List ℕ) (files : List MemFile) (all sorted : List (List ℕ)) → AreNames folder files all → IsPermutation all sorted → IsSorted (slice_cmp nat_cmp) sorted
    → IsListing (dedup bytes_eq sorted) × AreNames folder files (dedup bytes_eq sorted)
sorted_names folder files all sorted names moved order =
    let texts = All-dedup bytes_eq IsFileName sorted (All-permutation IsFileName all sorted moved names.texts) in (
      record { each = texts; sorted = IsStrictlySortedBy-dedup nat_list_cmp_total texts_ties sorted order },
      record {
        texts = texts;
        each = All-dedup bytes_eq (Under folder files) sorted (All-permutation (Under folder files) all sorted moved names.each);
        all = λ name file is_name there under. Contains-dedup nat_list_eq_equiv (λ x y. (bytes_eq-Decides x y).0) sorted name (Contains-permutation all sorted name moved (names.all name file is_name there under));
      },
    )

pub not_false : (b : Bool) → not b ≡ false → b ≡ true
not_false true is = refl
not_false false is = absurd (cc is)

pub not_text : {T E : Type 0} (r : Result T E) (P : T → Type 0) (Q : E → Type 0) (U : Type 0) → MatchResult r P (λ e. (U → ⊥) × Q e) → is_ok r ≡ false → U → ⊥
not_text (Ok x) P Q U cases is u = cc is
not_text (Err e) P Q U cases is u = cases.0 u

-- tables with the bytes of the files have their names
there_found : (s : FileState) → content s ≡ content s → IsTrue (is_some (content s)) → IsTrue s.there
there_found s same is = by s.there is
  where
    by : (b : Bool) → IsTrue (is_some (if b then Some s.bytes else None)) → IsTrue b
    by true is = refl
    by false is = absurd (cc is)

found_there : (s : FileState) → IsTrue s.there → IsTrue (is_some (content s))
found_there s is = ap (λ (b : Bool). is_some (if b then Some s.bytes else None)) is

pub names_are_in : (folder : List ℕ) (table : List MemFile) (files : Files) (names : List (List ℕ)) → ((name : List ℕ) → found table name ≡ content (files name)) → AreNames folder table names → AreNamesIn folder names files
names_are_in folder table files names reads are = record {
  each = λ k d lt. let at = are.each k d lt in (at.0, there_found (files at.0) refl (sym (ap is_some (reads at.0)) ∙ at.1), at.2);
  all = λ name file is_name there under. are.all name file is_name (ap is_some (reads file) ∙ found_there (files file) there) under;
}

pub listed : {E : Type 0} (r : Result (List (List ℕ)) E) (folder : List ℕ) (table : List MemFile) (files : Files) → ((name : List ℕ) → found table name ≡ content (files name)) → IfOk r IsListing → IfOk r (λ names. AreNames folder table names) → IfOk r (λ names. IsListing names × AreNamesIn folder names files)
listed (Ok names) folder table files reads listing are = (listing, names_are_in folder table files names reads are)
listed (Err e) folder table files reads listing are = tt
