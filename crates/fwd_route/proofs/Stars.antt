-- The test whether a glob has a star.
use Rattle.std.proofs.Common.{◌≡◌, ◌≢◌, ℕ, Bool, true, false, ◌||◌, eqb, List, [], ◌∷◌, refl, ap, ◌∙◌}
use Rattle.std.specs.List.{list_any}
use Rattle.std.proofs.lemmas.Bool.{eqb-true, eqb-false}
use Rattle.fwd_route.specs.Glob.{HasNoStar}

both_false : (a b : Bool) → (a || b) ≡ false → (a ≡ false) × (b ≡ false)
both_false true b is = absurd (cc (is))
both_false false b is = (refl, is)

pub none_is_plain : (bytes : List ℕ) → list_any (λ y. eqb y 42) bytes ≡ false → HasNoStar bytes
none_is_plain [] is = tt
none_is_plain (byte ∷ bytes) is =
    let both = both_false (eqb byte 42) (list_any (λ y. eqb y 42) bytes) is in
    (eqb-false byte 42 both.0, none_is_plain bytes both.1)

not_star : (test : Bool) (byte : ℕ) → eqb byte 42 ≡ test → byte ≢ 42 → eqb byte 42 ≡ false
not_star true byte is plain = absurd (plain (eqb-true byte 42 is))
not_star false byte is plain = is

pub plain_has_none : (bytes : List ℕ) → HasNoStar bytes → list_any (λ y. eqb y 42) bytes ≡ false
plain_has_none [] none = refl
plain_has_none (byte ∷ bytes) none =
    ap (λ (b : Bool). b || list_any (λ y. eqb y 42) bytes) (not_star (eqb byte 42) byte refl none.0) ∙ plain_has_none bytes none.1
