-- Dialed links keep apart by their places.
use Rattle.std.proofs.Common.{◌≡◌, ◌≢◌, ◌⊎◌, inl, inr, ℕ, ◌+◌, ◌≤◌, ◌==◌, Bool, true, false, if◌then◌else◌, List, [], ◌∷◌, refl, sym, ap, ◌∙◌, arith}
use Rattle.std.proofs.lemmas.Bool.{cases_Bool, eq-eqb, eqb-true, ne_eqb}
use Rattle.fwd_theorem_links.specs.DialedLinks.{IsAmong, KeepsApart, place_from}

-- a place counted from n is n at least; 0 stands for a link that isn't there
place_bound : (n : ℕ) (links : List ℕ) (link : ℕ) → (place_from n links link ≡ 0) ⊎ (n ≤ place_from n links link)
place_bound n [] link = inl refl
place_bound n (other ∷ links) link = elim (cases_Bool (other == link)) [
  | inl is ↦ rw is (inr (omega arith))
  | inr differs ↦ rw differs (elim (place_bound (n + 1) links link) [
    | inl none ↦ inl none
    | inr later ↦ inr (omega (arith, later))
  ])
]

later_place : (n : ℕ) (links : List ℕ) (link : ℕ) → 1 ≤ n → place_from (n + 1) links link ≢ n
later_place n links link first is = elim (place_bound (n + 1) links link) [
  | inl none ↦ omega (arith, first, is, none)
  | inr later ↦ omega (arith, is, later)
]

module _ (n : ℕ) (first : 1 ≤ n) (other : ℕ) (links : List ℕ) (a b : ℕ) where
  among_rest : (other == a) ≡ false → IsAmong (other ∷ links) a → IsAmong links a
  among_rest differs (inl is) = absurd (cc (sym (eq-eqb other a is) ∙ differs))
  among_rest differs (inr more) = more

  by_cases : (is_a is_b : Bool) → (other == a) ≡ is_a → (other == b) ≡ is_b → IsAmong (other ∷ links) a → (IsAmong links a → (place_from (n + 1) links a == place_from (n + 1) links b) ≡ (a == b))
      → ((if is_a then n else place_from (n + 1) links a) == (if is_b then n else place_from (n + 1) links b)) ≡ (a == b)
  by_cases true true a_is b_is among rest = eq-eqb n n refl ∙ sym (eq-eqb a b (sym (eqb-true other a a_is) ∙ eqb-true other b b_is))
  by_cases true false a_is b_is among rest =
      ne_eqb n (place_from (n + 1) links b) (λ is. later_place n links b first (sym is)) ∙ sym b_is ∙ ap (λ (link : ℕ). link == b) (eqb-true other a a_is)
  by_cases false true a_is b_is among rest =
      ne_eqb (place_from (n + 1) links a) n (later_place n links a first) ∙ sym (ne_eqb a b (λ (is : a ≡ b). absurd (cc (sym a_is ∙ ap (λ (link : ℕ). other == link) is ∙ b_is))))
  by_cases false false a_is b_is among rest = rest (among_rest a_is among)

keeps_apart_from : (n : ℕ) (links : List ℕ) → 1 ≤ n → KeepsApart (place_from n links) (IsAmong links)
keeps_apart_from n [] first a b among = absurd among
keeps_apart_from n (other ∷ links) first a b among =
    by_cases n first other links a b (other == a) (other == b) refl refl among (λ more. keeps_apart_from (n + 1) links (omega (arith, first)) a b more)

pub places_keep_apart : (links : List ℕ) → KeepsApart (place_from 1 links) (IsAmong links)
places_keep_apart links = keeps_apart_from 1 links (omega arith)
