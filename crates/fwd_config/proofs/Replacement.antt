-- How a value is replaced part by part.
use Rattle.std.proofs.Common.{◌≡◌, ℕ, zero, suc, ◌+◌, ◌-◌, ◌<◌, ◌≤◌, Bool, true, false, not, cond, eqb, List, [], ◌∷◌, ◌++◌, length, length-drop, take, drop, get_or, add-one, codes, refl, sym, ap, ◌∙◌, arith}
use Rattle.std.specs.List.{position_or_len, list_any}
use Rattle.std.specs.Str.{bytes_eq}
use Rattle.std.specs.Cmp.Lexicographic.{bytes_decides}
use Rattle.std.proofs.lemmas.Bool.{eqb-true}
use Rattle.std.proofs.lemmas.List.{take_all, take-append-drop, length-take-le}
use Rattle.std.proofs.lemmas.List.Sums.{passes_at_first}
use Rattle.std.proofs.lemmas.List.Folds.{list_any_at}
use Rattle.fwd_config.specs.Variables.{Values, begins_variable, has_open_brace, name_after, replace_variables, replace_variables_from}

abbrev closes : ℕ → Bool
closes b = eqb b 125

-- a text that begins with `${`
opening : (text : List ℕ) → begins_variable text ≡ true → text ≡ 36 ∷ 123 ∷ drop 2 text
opening text begins = sym (take-append-drop 2 text) ∙ ap (λ (front : List ℕ). front ++ drop 2 text) ((bytes_decides (take 2 text) (codes "${")).0 begins)

-- bytes that are skipped
skipping : (values : Values) (passed : ℕ) (text : List ℕ) → replace_variables_from values passed text ≡ replace_variables_from values 0 (drop passed text)
skipping values zero text = refl
skipping values (suc passed) [] = refl
skipping values (suc passed) (b ∷ bs) = skipping values passed bs

-- a `}` closes what is before it
after_close : (text : List ℕ) (n : ℕ) → n < length text → get_or text n 0 ≡ 125 → has_open_brace text ≡ has_open_brace (drop (suc n) text)
after_close [] n lt is = absurd (omega arith)
after_close (b ∷ bs) zero lt is = rw is refl
after_close (b ∷ bs) (suc n) lt is =
    let there : list_any closes bs ≡ true = list_any_at closes bs n 0 (omega arith) (rw is refl) in
    rw there (grind (arith, after_close bs n (omega arith) is))

none_more : (x : ℕ) (xs : List ℕ) (b : Bool) → closes x ≡ b → suc (length xs) ≤ cond (not b) (1 + position_or_len closes xs) 0
    → (length xs ≤ position_or_len closes xs → list_any closes xs ≡ false) → list_any closes (x ∷ xs) ≡ false
none_more x xs true is none rest = absurd (omega (arith, none))
none_more x xs false is none rest = rw is (rest (omega (arith, none)))

none_closes : (text : List ℕ) → length text ≤ position_or_len closes text → list_any closes text ≡ false
none_closes [] none = refl
none_closes (x ∷ xs) none = none_more x xs (closes x) refl none (none_closes xs)

module _ (named : List ℕ) (end : ℕ) (at : end ≡ position_or_len closes named) where
  cut : take (length named - (end + 1)) (drop (end + 1) named) ≡ drop (end + 1) named
  cut = take_all _ _ (omega (arith, length-drop (end + 1) named))

  named_by : end ≤ length named → name_after named ≡ take end named
  named_by within = ap (λ (n : ℕ). take n named) (sym at)

  -- a `${` with a `}` after it
  pub replaced_name : (values : Values) → end < length named
      → replace_variables values (36 ∷ 123 ∷ named) ≡ values (take end named) ++ replace_variables values (take (length named - (end + 1)) (drop (end + 1) named))
  replaced_name values some =
      let name : name_after named ≡ take end named = named_by (omega arith) in
      let long : length (take end named) + 2 ≡ suc (end + 1) = omega (arith, length-take-le end named (omega arith)) in
      let rest : replace_variables_from values (length (take end named) + 2) (123 ∷ named) ≡ replace_variables values (drop (end + 1) named) =
      skipping values (length (take end named) + 2) (123 ∷ named) ∙ ap (λ (n : ℕ). replace_variables values (drop n (123 ∷ named))) long in
      rw (cut, name) (ap (λ (l : List ℕ). values (take end named) ++ l) rest)

  pub closed_name : end < length named → has_open_brace (36 ∷ 123 ∷ named) ≡ has_open_brace (take (length named - (end + 1)) (drop (end + 1) named))
  closed_name some =
      let byte : get_or named end 0 ≡ 125 = eqb-true _ _ (rw at (passes_at_first closes named 0 (omega (arith, at)))) in
      let there : list_any closes named ≡ true = list_any_at closes named end 0 some (rw byte refl) in
      rw (cut, there, add-one) (after_close named end some byte)

  pub open_name : length named ≤ end → has_open_brace (36 ∷ 123 ∷ named) ≡ true
  open_name none = let nowhere : list_any closes named ≡ false = none_closes named (omega (arith, at)) in rw nowhere refl

-- the text that begins with a `${`, from what a call returned
pub opening_is : (text named : List ℕ) → bytes_eq (take 2 text) (36 ∷ 123 ∷ []) ≡ true → named ≡ drop 2 text → text ≡ 36 ∷ 123 ∷ named
opening_is text named begins is = opening text begins ∙ ap (λ (l : List ℕ). 36 ∷ 123 ∷ l) (sym is)
