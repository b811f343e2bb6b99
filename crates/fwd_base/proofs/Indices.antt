-- The index of a byte in a text, or the length of the text.
use Rattle.std.proofs.Common.{◌≡◌, ℕ, ◌≤◌, Bool, true, false, cond, nat_lt, List, length, Option, Some, None, unwrap_or, refl, arith}
use Rattle.std.specs.List.{position, position_or_len}
use Rattle.std.proofs.lemmas.Bool.{ltb-false}
use Rattle.std.proofs.lemmas.List.Sums.{prefix_len-le-length}

by_test : (b : Bool) (n len : ℕ) → nat_lt n len ≡ b → n ≤ len → unwrap_or (cond b (Some n) None) len ≡ n
by_test true n len is le = refl
by_test false n len is le = omega (arith, ltb-false n len is)

pub index_from_position : {X : Type 0} (p : X → Bool) (xs : List X) (r : Option ℕ) → r ≡ position p xs → unwrap_or r (length xs) ≡ position_or_len p xs
index_from_position p xs r is = rw is (by_test (nat_lt (position_or_len p xs) (length xs)) (position_or_len p xs) (length xs) refl (prefix_len-le-length _ xs))
