use Rattle.std.proofs.Common.{◌≡◌, ℕ, ◌-◌, ◌*◌, ◌^◌, ◌<◌, refl, arith, mul-pos, pow_pos}
use Rattle.fast_float.proofs.ExactLemmas.{ten_to_pos}
use Rattle.fast_float.proofs.Patterns.{shape}
use lib.Ieee.{low}
use lib.Ieee.Nearest.{div_same}
use Rattle.fwd_float.specs.Format.{format_of}
use Rattle.fwd_float.specs.Shortest.{digits_below, scale}
use Rattle.fwd_float.proofs.Fractions.{joined, has_room, has_room_of_two, has_room_of_one, rests_agree}
use Rattle.fwd_float.proofs.ratio.Ratio.new.Goals.{After-multiply_by_ten_to-2}
use Rattle.fwd_float.proofs.ratio.Ratio.new.Goals as goal

pub multiply_by_two_to-requires : goal.multiply_by_two_to-requires
multiply_by_two_to-requires c = let s = shape (format_of c.args.precision) in rw c.new-above.ensures (has_room_of_two _ _ (omega arith) (omega arith))

pub multiply_by_ten_to-requires : goal.multiply_by_ten_to-requires
multiply_by_ten_to-requires c =
    let s = shape (format_of c.args.precision) in
    rw (c.multiply_by_two_to.ensures, c.new-above.ensures) (has_room _ _ _ (omega arith) (omega arith) (omega arith))

pub multiply_by_two_to-requires-2 : goal.multiply_by_two_to-requires-2
multiply_by_two_to-requires-2 c = let s = shape (format_of c.args.precision) in rw c.new-under.ensures (has_room_of_two _ _ (omega arith) (omega arith))

pub multiply_by_ten_to-requires-2 : goal.multiply_by_ten_to-requires-2
multiply_by_ten_to-requires-2 c =
    let s = shape (format_of c.args.precision) in
    rw (c.multiply_by_two_to-2.ensures, c.new-under.ensures) (has_room _ _ _ (omega arith) (omega arith) (omega arith))

-- the two numbers, from what each step says
under_is : (c : After-multiply_by_ten_to-2) → c.multiply_by_ten_to-2.new.self ≡ 1 * 2 ^ (low (format_of c.args.precision) - c.args.size.exponent) * 10 ^ (c.args.power - 400)
under_is c = rw (c.multiply_by_ten_to-2.ensures, c.multiply_by_two_to-2.ensures, c.new-under.ensures, c.saturating_sub-3.ensures, c.saturating_sub-4.ensures, c.lowest-lowest.ensures) refl

above_is : (c : After-multiply_by_ten_to-2) → c.multiply_by_ten_to.new.self ≡ c.args.size.significand * 2 ^ (c.args.size.exponent - low (format_of c.args.precision)) * 10 ^ (400 - c.args.power)
above_is c = rw (c.multiply_by_ten_to.ensures, c.multiply_by_two_to.ensures, c.new-above.ensures, c.saturating_sub.ensures, c.saturating_sub-2.ensures, c.lowest-lowest.ensures) refl

some_under : (i j : ℕ) → 0 < 1 * 2 ^ i * 10 ^ j
some_under i j = mul-pos (mul-pos (omega arith) (pow_pos i)) (ten_to_pos j)

pub returns-clause-room : goal.returns-clause-room
returns-clause-room c =
    let s = shape (format_of c.args.precision) in
    record { some = rw (under_is c) (some_under _ _); room = rw (under_is c) (has_room_of_one _ _ (omega arith) (omega arith)) }

pub returns-clause-ratio : goal.returns-clause-ratio
unfolding digits_below scale
returns-clause-ratio c =
    let f = format_of c.args.precision in
    let size = c.args.size in
    let same = joined size.significand size.exponent (low f) c.args.power 400 in
    let U = some_under (low f - size.exponent) (c.args.power - 400) in
    let D = mul-pos (pow_pos (low f)) (ten_to_pos c.args.power) in
    rw (under_is c, above_is c) (record { whole = div_same _ _ _ _ U D same; exact = rests_agree _ _ _ _ U D same })
