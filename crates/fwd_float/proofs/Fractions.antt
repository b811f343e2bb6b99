-- Two fractions of one value.
use Rattle.std.proofs.Common.{◌≡◌, ℕ, ◌+◌, ◌-◌, ◌*◌, ◌/◌, ◌%◌, ◌^◌, ◌<◌, ◌≤◌, ◌↔◌, sym, ap, ◌∙◌, arith, lit<, div-add-mod', pow-add, pow_mono}
use native.Mathlib.Nat.{add-mul, mul_comm, mul_assoc, mul_right_comm, mul-le-mul, lt_of_le_of_lt, le_trans, pow-le-pow_right, eq_of_mul-eq-mul_right, zero-mul}
use lib.Ieee.Nearest.{div_same}
use Rattle.fwd_float.specs.Limbs.{limb_weight}

module _ (a b c d : ℕ) (B : 0 < b) (D : 0 < d) (same : a * d ≡ c * b) where
  pub rests : a % b * d ≡ c % d * b
  rests =
      let w = div_same a b c d B D same in
      let x = div-add-mod' a b in
      let y = div-add-mod' c d in
      let p : (a / b * b + a % b) * d ≡ (c / d * d + c % d) * b = ap (λ z. z * d) x ∙ same ∙ sym (ap (λ z. z * b) y) in
      let q : a / b * b * d ≡ c / d * d * b = ap (λ z. z * b * d) w ∙ mul_right_comm (c / d) b d in
      omega (arith, add-mul (a / b * b) (a % b) d, add-mul (c / d * d) (c % d) b)

  pub rest_gone : a % b ≡ 0 → c % d ≡ 0
  rest_gone e = eq_of_mul-eq-mul_right b B (c % d) 0 (sym rests ∙ ap (λ z. z * d) e ∙ zero-mul d ∙ sym (zero-mul b))

pub rests_agree : (a b c d : ℕ) → 0 < b → 0 < d → a * d ≡ c * b → (a % b ≡ 0) ↔ (c % d ≡ 0)
rests_agree a b c d B D same = (rest_gone a b c d B D same, rest_gone c d a b D B (sym same))

-- a number with room for a few more factors
pub has_room : (m i j : ℕ) → m ≤ 2 ^ 64 → i ≤ 1074 → j ≤ 400 → m * 2 ^ i * 10 ^ j < limb_weight 40
unfolding limb_weight
has_room m i j M I J = lt_of_le_of_lt (mul-le-mul (mul-le-mul M (pow_mono I)) (pow-le-pow_right (lit< tt) J)) (lit< tt)

-- the same factors, joined in two orders
pub joined : (m k l q s : ℕ) → m * 2 ^ (k - l) * 10 ^ (s - q) * (2 ^ l * 10 ^ q) ≡ m * 2 ^ k * 10 ^ s * (1 * 2 ^ (l - k) * 10 ^ (q - s))
joined m k l q s =
    let two : 2 ^ (k - l) * 2 ^ l ≡ 2 ^ k * 2 ^ (l - k) = sym (pow-add 2 (k - l) l) ∙ ap (λ n. 2 ^ n) (omega arith) ∙ pow-add 2 k (l - k) in
    let ten : 10 ^ (s - q) * 10 ^ q ≡ 10 ^ s * 10 ^ (q - s) = sym (pow-add 10 (s - q) q) ∙ ap (λ n. 10 ^ n) (omega arith) ∙ pow-add 10 s (q - s) in
    swap m _ _ _ _ ∙ (λ i. m * two i * ten i) ∙ sym (swap m _ _ _ _) ∙ once _ _ _ _ _
  where
    swap : (m a b c d : ℕ) → m * a * b * (c * d) ≡ m * (a * c) * (b * d)
    swap m a b c d = grind arith

    once : (m a b c d : ℕ) → m * a * b * (c * d) ≡ m * a * b * (1 * c * d)
    once m a b c d = grind arith

pub has_room_of_two : (m i : ℕ) → m ≤ 2 ^ 64 → i ≤ 1074 → m * 2 ^ i < limb_weight 40
has_room_of_two m i M I = rw (native.Mathlib.Nat.pow-zero, native.Mathlib.Nat.mul-one) at (has_room m i 0 M I (omega arith))

pub has_room_of_one : (i j : ℕ) → i ≤ 1074 → j ≤ 400 → 1 * 2 ^ i * 10 ^ j * 2 ^ 64 < limb_weight 40
has_room_of_one i j I J = rw (turn (2 ^ i) (10 ^ j) (2 ^ 64)) (has_room (2 ^ 64) i j (omega arith) I J)
  where
    turn : (a b c : ℕ) → 1 * a * b * c ≡ c * a * b
    turn a b c = grind arith
