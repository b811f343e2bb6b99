-- Answers of one output.
use Rattle.std.proofs.Common.{◌≡◌, ℕ, Bool, true, false, eqb, if◌then◌else◌, List, [], ◌∷◌, ◌++◌, drop, find, Option, Some, option_map, refl, sym, ap, ◌∙◌}
use Rattle.std.proofs.lemmas.Bool.{eqb-true, eqb-false}
use Rattle.fwd_script_loop.specs.FirstMatch.{first_in, without_first}
use Rattle.fwd_script_loop.specs.AnswerQueues.{picked}
use Rattle.fwd_script_loop.specs.Place.{is_for, next_for}

module _ {T : Type 0} where
  next_by : (b : Bool) (x : ℕ × T) (rest : Option (ℕ × T)) (more : List T) → option_map (λ (y : ℕ × T). y.1) rest ≡ first_in more
      → option_map (λ (y : ℕ × T). y.1) (if b then Some x else rest) ≡ first_in (if b then x.1 ∷ more else more)
  next_by true x rest more is = refl
  next_by false x rest more is = is

  pub next_picked : (output : ℕ) (xs : List (ℕ × T)) → next_for output xs ≡ first_in (picked output xs)
  next_picked output [] = refl
  next_picked output (x ∷ xs) = next_by (eqb x.0 output) x (find (is_for output) xs) (picked output xs) (next_picked output xs)

  none_by : (b : Bool) (empty : List T) → empty ≡ [] → (if b then drop 1 empty else empty) ≡ []
  none_by true empty is = ap (λ (l : List T). drop 1 l) is
  none_by false empty is = is

  cases : (o output : ℕ) (x : ℕ × T) (without mine : List T) (b there here : Bool) → eqb x.0 output ≡ b → eqb x.0 o ≡ there → eqb o output ≡ here
      → without ≡ (if here then drop 1 mine else mine)
      → (if b then mine else (if there then x.1 ∷ without else without)) ≡ (if here then drop 1 (if there then x.1 ∷ mine else mine) else (if there then x.1 ∷ mine else mine))
  cases o output x without mine true true true e f g is = refl
  cases o output x without mine true false true e f g is = absurd (eqb-false x.0 o f (eqb-true x.0 output e ∙ sym (eqb-true o output g)))
  cases o output x without mine true true false e f g is = absurd (eqb-false o output g (sym (eqb-true x.0 o f) ∙ eqb-true x.0 output e))
  cases o output x without mine true false false e f g is = refl
  cases o output x without mine false true true e f g is = absurd (eqb-false x.0 output e (eqb-true x.0 o f ∙ eqb-true o output g))
  cases o output x without mine false true false e f g is = ap (λ (l : List T). x.1 ∷ l) is
  cases o output x without mine false false true e f g is = is
  cases o output x without mine false false false e f g is = is

  pub picked_if : (o : ℕ) (b : Bool) (xs ys : List (ℕ × T)) → picked o (if b then xs else ys) ≡ (if b then picked o xs else picked o ys)
  picked_if o true xs ys = refl
  picked_if o false xs ys = refl

  pub picked_without : (o output : ℕ) (xs : List (ℕ × T)) → picked o (without_first (is_for output) xs) ≡ (if eqb o output then drop 1 (picked o xs) else picked o xs)
  picked_without o output [] = sym (none_by (eqb o output) [] refl)
  picked_without o output (x ∷ xs) =
      picked_if o (eqb x.0 output) xs (x ∷ without_first (is_for output) xs)
      ∙ cases o output x (picked o (without_first (is_for output) xs)) (picked o xs) (eqb x.0 output) (eqb x.0 o) (eqb o output) refl refl refl (picked_without o output xs)

  append_by : (b : Bool) (x : T) (rest more all : List T) → all ≡ rest ++ more → (if b then x ∷ all else all) ≡ (if b then x ∷ rest else rest) ++ more
  append_by true x rest more all is = ap (λ (l : List T). x ∷ l) is
  append_by false x rest more all is = is

  pub picked_append : (o : ℕ) (xs ys : List (ℕ × T)) → picked o (xs ++ ys) ≡ picked o xs ++ picked o ys
  picked_append o [] ys = refl
  picked_append o (x ∷ xs) ys = append_by (eqb x.0 o) x.1 (picked o xs) (picked o ys) (picked o (xs ++ ys)) (picked_append o xs ys)
