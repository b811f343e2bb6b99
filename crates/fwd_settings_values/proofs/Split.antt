-- How a text is split into parts, byte by byte.
use Rattle.std.proofs.Common.{◌≡◌, ℕ, ◌+◌, ◌<◌, ◌≤◌, Bool, true, false, List, [], ◌∷◌, ◌++◌, length, drop, get_or, refl, sym, ap, ◌∙◌, arith, add-one, drop-cons, append_assoc}
use Rattle.std.proofs.lemmas.List.{append-nil, drop_all}
use Rattle.std.specs.List.{slice_split, onto_first}
use Rattle.std.proofs.lemmas.List.Splits.{slice_split-cons_yes, slice_split-cons_no, length-slice_split}

-- the parts with a text put before the first
abbrev pub onto : List ℕ → List (List ℕ) → List (List ℕ)
onto part [] = part ∷ []
onto part (x ∷ xs) = (part ++ x) ∷ xs

onto_nothing : (parts : List (List ℕ)) → 0 < length parts → onto [] parts ≡ parts
onto_nothing [] some = absurd (omega arith)
onto_nothing (x ∷ xs) some = refl

onto_longer : (part : List ℕ) (b : ℕ) (parts : List (List ℕ)) → 0 < length parts → onto (part ++ b ∷ []) parts ≡ onto part (onto_first b parts)
onto_longer part b [] some = absurd (omega arith)
onto_longer part b (x ∷ xs) some = ap (λ (l : List ℕ). l ∷ xs) (append_assoc part (b ∷ []) x)

module _ (p : ℕ → Bool) (text : List ℕ) where
  some_part : (rest : List ℕ) → 0 < length (slice_split p rest)
  some_part rest = omega (arith, length-slice_split p rest)

  cut_here : (i : ℕ) → i < length text → drop i text ≡ get_or text i 0 ∷ drop (i + 1) text
  cut_here i h = rw (add-one, drop-cons text i 0 h)

  pub split_from_start : onto [] (slice_split p text) ≡ slice_split p text
  split_from_start = onto_nothing (slice_split p text) (some_part text)

  pub split_at : (i : ℕ) (parts new : List (List ℕ)) (part : List ℕ) → i < length text → p (get_or text i 0) ≡ true → new ≡ parts ++ part ∷ []
      → new ++ onto [] (slice_split p (drop (i + 1) text)) ≡ parts ++ onto part (slice_split p (drop i text))
  split_at i parts new part h is grown =
      let rest : List ℕ = drop (i + 1) text in
      let first : slice_split p (drop i text) ≡ [] ∷ slice_split p rest = ap (slice_split p) (cut_here i h) ∙ slice_split-cons_yes p (get_or text i 0) rest is in
      let left : new ++ onto [] (slice_split p rest) ≡ parts ++ part ∷ slice_split p rest =
      rw (grown, onto_nothing (slice_split p rest) (some_part rest)) (append_assoc parts (part ∷ []) (slice_split p rest)) in
      left ∙ ap (λ (l : List ℕ). parts ++ l ∷ slice_split p rest) (sym (append-nil part)) ∙ ap (λ (s : List (List ℕ)). parts ++ onto part s) (sym first)

  pub split_on : (i : ℕ) (parts : List (List ℕ)) (part new : List ℕ) → i < length text → p (get_or text i 0) ≡ false → new ≡ part ++ get_or text i 0 ∷ []
      → parts ++ onto new (slice_split p (drop (i + 1) text)) ≡ parts ++ onto part (slice_split p (drop i text))
  split_on i parts part new h is grown =
      let rest : List ℕ = drop (i + 1) text in
      let first : slice_split p (drop i text) ≡ onto_first (get_or text i 0) (slice_split p rest) = ap (slice_split p) (cut_here i h) ∙ slice_split-cons_no p (get_or text i 0) rest is in
      ap (λ (l : List ℕ). parts ++ onto l (slice_split p rest)) grown
      ∙ ap (λ (s : List (List ℕ)). parts ++ s) (onto_longer part (get_or text i 0) (slice_split p rest) (some_part rest))
      ∙ ap (λ (s : List (List ℕ)). parts ++ onto part s) (sym first)

  pub split_done : (i : ℕ) (parts new : List (List ℕ)) (part : List ℕ) → length text ≤ i → new ≡ parts ++ part ∷ [] → new ≡ parts ++ onto part (slice_split p (drop i text))
  split_done i parts new part h grown =
      let none : drop i text ≡ [] = drop_all i text h in
      grown ∙ ap (λ (l : List ℕ). parts ++ l ∷ []) (sym (append-nil part)) ∙ ap (λ (l : List ℕ). parts ++ onto part (slice_split p l)) (sym none)

  pub starts_empty : (parts : List (List ℕ)) (part : List ℕ) → parts ≡ [] → part ≡ [] → parts ++ onto part (slice_split p text) ≡ slice_split p text
  starts_empty parts part no_parts no_part = rw (no_parts, no_part) split_from_start

  pub goes_empty : (i : ℕ) (parts new : List (List ℕ)) (part whole next : List ℕ) → i < length text → p (get_or text i 0) ≡ true → new ≡ parts ++ whole ∷ [] → whole ≡ part → next ≡ []
      → new ++ onto next (slice_split p (drop (i + 1) text)) ≡ parts ++ onto part (slice_split p (drop i text))
  goes_empty i parts new part whole next h is grown same none =
      ap (λ (l : List ℕ). new ++ onto l (slice_split p (drop (i + 1) text))) none
      ∙ split_at i parts new part h is (grown ∙ ap (λ (l : List ℕ). parts ++ l ∷ []) same)
