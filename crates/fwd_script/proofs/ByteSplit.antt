-- The index at which a byte splits a text.
use Rattle.std.proofs.Common.{◌≡◌, ℕ, suc, ◌+◌, ◌-◌, ◌<◌, ◌≤◌, Bool, true, false, if◌then◌else◌, ◌==◌, List, [], ◌∷◌, length, length-drop, take, drop, position, Option, Some, None, refl, sym, ◌∙◌, ap, subst, arith}
use Rattle.std.specs.List.{position_from, position_or_len}
use Rattle.std.proofs.lemmas.Bool.{le-ltb, lt-ltb}
use Rattle.std.proofs.lemmas.Iterator.Adapters.{position_from-zero}
use Rattle.std.proofs.lemmas.List.{take_all}
use Rattle.fwd_script.specs.Words.{split_at_byte}

abbrev pub both : List ℕ → Option (List ℕ) → List ℕ × Option (List ℕ)
both before behind = (before, behind)

module _ (byte : ℕ) where
  abbrev is_byte : ℕ → Bool
  is_byte x = x == byte

  some_from : (text : List ℕ) (i place : ℕ) → position_from is_byte i text ≡ Some place → (k : ℕ) × (place ≡ i + k) × (k < length text) × (split_at_byte byte text ≡ both (take k text) (Some (drop (suc k) text)))
  some_from [] i place is = absurd (cc is)
  some_from (x ∷ xs) i place is = by (is_byte x) is (some_from xs (i + 1) place)
    where
      by : (b : Bool) → (if b then Some i else position_from is_byte (i + 1) xs) ≡ Some place
          → (position_from is_byte (i + 1) xs ≡ Some place → (k : ℕ) × (place ≡ (i + 1) + k) × (k < length xs) × (split_at_byte byte xs ≡ both (take k xs) (Some (drop (suc k) xs))))
          → (k : ℕ) × (place ≡ i + k) × (k < length (x ∷ xs)) × ((if b then both [] (Some xs) else both (x ∷ (split_at_byte byte xs).0) (split_at_byte byte xs).1) ≡ both (take k (x ∷ xs)) (Some (drop (suc k) (x ∷ xs))))
      by true e rest = let here : i ≡ place = cc e in (0, omega arith, omega arith, refl)
      by false e rest =
          let r = rest e in
          (suc r.0, omega (arith, r.1), omega (arith, r.2), ap (λ (p : List ℕ × Option (List ℕ)). both (x ∷ p.0) p.1) r.3)

  none_from : (text : List ℕ) (i : ℕ) → position_from is_byte i text ≡ None → split_at_byte byte text ≡ both text None
  none_from [] i is = refl
  none_from (x ∷ xs) i is = by (is_byte x) is (none_from xs (i + 1))
    where
      by : (b : Bool) → (if b then Some i else position_from is_byte (i + 1) xs) ≡ None → (position_from is_byte (i + 1) xs ≡ None → split_at_byte byte xs ≡ both xs None)
          → (if b then both [] (Some xs) else both (x ∷ (split_at_byte byte xs).0) (split_at_byte byte xs).1) ≡ both (x ∷ xs) None
      by true e rest = absurd (cc e)
      by false e rest = ap (λ (p : List ℕ × Option (List ℕ)). both (x ∷ p.0) p.1) (rest e)

  parted_some : (text : List ℕ) (place : ℕ) → position is_byte text ≡ Some place → split_at_byte byte text ≡ both (take place text) (Some (drop (place + 1) text))
  parted_some text place is =
      let r = some_from text 0 place (sym (position_from-zero is_byte text) ∙ is) in
      let at : r.0 ≡ place = omega (arith, r.1) in
      let behind : suc r.0 ≡ place + 1 = omega (arith, r.1) in
      subst (λ (k : ℕ). split_at_byte byte text ≡ both (take k text) (Some (drop (place + 1) text))) at
      (subst (λ (k : ℕ). split_at_byte byte text ≡ both (take r.0 text) (Some (drop k text))) behind r.3)

  parted_none : (text : List ℕ) → position is_byte text ≡ None → split_at_byte byte text ≡ both text None
  parted_none text is = none_from text 0 (sym (position_from-zero is_byte text) ∙ is)

  abbrev place : List ℕ → ℕ
  place text = position_or_len is_byte text

  pub parted_here : (text : List ℕ) (at : ℕ) → at ≡ place text → at < length text → split_at_byte byte text ≡ both (take at text) (Some (drop (at + 1) text))
  parted_here text at is within =
      let here : place text < length text = omega (arith, is, within) in
      parted_some text at (ap (λ (b : Bool). if b then Some (place text) else None) (lt-ltb (place text) (length text) here) ∙ ap (λ (n : ℕ). Some n) (sym is))

  pub parted_nowhere : (text : List ℕ) (at : ℕ) → at ≡ place text → length text ≤ at → split_at_byte byte text ≡ both text None
  parted_nowhere text at is behind =
      let none : length text ≤ place text = omega (arith, is, behind) in
      parted_none text (ap (λ (b : Bool). if b then Some (place text) else None) (le-ltb (place text) (length text) none))

-- the rest of a list from an index, as it is cut out
pub rest_from : (text : List ℕ) (n : ℕ) → take (length text - n) (drop n text) ≡ drop n text
rest_from text n = take_all (length text - n) (drop n text) (omega (arith, length-drop n text))
