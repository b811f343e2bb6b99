-- The first chunks, as few as make room.
use Rattle.std.proofs.Common.{◌≡◌, ℕ, zero, suc, ◌-◌, ◌<◌, ◌≤◌, Bool, true, false, cond, List, [], ◌∷◌, length, drop, min, refl, sym, ap, ◌∙◌, arith, Option}
use Rattle.std.specs.Prelude.{nat_le, nat_lt}
use Rattle.std.proofs.lemmas.Bool.Decides.{nat_tests}
use Rattle.fwd_base.specs.declared.ids.ChunkId.{ChunkId}
use Rattle.fwd_base.specs.declared.ids.OutputId.{OutputId}
use Rattle.fwd_table.specs.Row.{Row}
use Rattle.fwd_limits.specs.declared.eviction.Loss.TheVariants.{Fits, NewLoses}
use Rattle.fwd_table.specs.Usage.{size_of}
use Rattle.fwd_limits.specs.Evictions.{evicted_among, first_chunk, loss_of, fixed, other_waiting, next_eviction, IsShortest}

pub shortest : (room : ℕ) (rows : List Row) → IsShortest room rows (evicted_among room rows)
shortest room [] = record { left = []; first = refl; fits = omega arith; shortest = λ n less. absurd (omega (arith, less)) }
shortest room (row ∷ rows) = by (shortest room rows) (nat_le (size_of (row ∷ rows)) room) refl
  where
    by : IsShortest room rows (evicted_among room rows) → (test : Bool) → nat_le (size_of (row ∷ rows)) room ≡ test → IsShortest room (row ∷ rows) (cond test [] (row ∷ evicted_among room rows))
    by again true test = record { left = row ∷ rows; first = refl; fits = let fits : size_of (row ∷ rows) ≤ room = grind (arith, nat_tests) in fits; shortest = λ n less. absurd (omega (arith, less)) }
    by again false test = record {
      left = again.left;
      first = ap (λ (rs : List Row). row ∷ rs) again.first;
      fits = again.fits;
      shortest = more again test;
    }
      where
        more : IsShortest room rows (evicted_among room rows) → nat_le (size_of (row ∷ rows)) room ≡ false → (n : ℕ) → n < length (row ∷ evicted_among room rows) → room < size_of (drop n (row ∷ rows))
        more again test zero less = let over : room < size_of (row ∷ rows) = grind (arith, nat_tests) in over
        more again test (suc n) less = again.shortest n (omega (arith, less))

pub among_fits : (room : ℕ) (rows : List Row) → size_of rows ≤ room → evicted_among room rows ≡ []
among_fits room [] fits = refl
among_fits room (row ∷ rows) fits = let test : nat_le (size_of (row ∷ rows)) room ≡ true = grind (arith, nat_tests) in rw test refl

pub among_over : (room : ℕ) (row : Row) (rows : List Row) → room < size_of (row ∷ rows) → evicted_among room (row ∷ rows) ≡ row ∷ evicted_among room rows
among_over room row rows over = let test : nat_le (size_of (row ∷ rows)) room ≡ false = grind (arith, nat_tests) in rw test refl

among_first : (room : ℕ) (rows : List Row) → room < size_of rows → first_chunk (evicted_among room rows) ≡ first_chunk rows
among_first room [] over = refl
among_first room (row ∷ rows) over = let test : nat_le (size_of (row ∷ rows)) room ≡ false = grind (arith, nat_tests) in rw test refl

-- ---- the next eviction

pub new_loses : (output : OutputId) (limit : ℕ) (chunk : ChunkId) (rows : List Row) → limit < fixed output chunk rows → next_eviction output limit chunk rows ≡ NewLoses
new_loses output limit chunk rows over = let test : nat_lt limit (fixed output chunk rows) ≡ true = grind (arith, nat_tests) in rw test refl

next_within : (output : OutputId) (limit : ℕ) (chunk : ChunkId) (rows : List Row) → fixed output chunk rows ≤ limit
    → next_eviction output limit chunk rows ≡ loss_of (first_chunk (evicted_among (limit - fixed output chunk rows) (other_waiting output chunk rows)))
next_within output limit chunk rows within = let test : nat_lt limit (fixed output chunk rows) ≡ false = grind (arith, nat_tests) in rw test refl

pub it_fits : (output : OutputId) (limit : ℕ) (chunk : ChunkId) (rows : List Row) → fixed output chunk rows ≤ limit → size_of (other_waiting output chunk rows) ≤ limit - fixed output chunk rows → next_eviction output limit chunk rows ≡ Fits
it_fits output limit chunk rows within fits =
    next_within output limit chunk rows within ∙ ap (λ (rs : List Row). loss_of (first_chunk rs)) (among_fits (limit - fixed output chunk rows) (other_waiting output chunk rows) fits)

pub first_is_lost : (output : OutputId) (limit : ℕ) (chunk : ChunkId) (rows : List Row) (first : Option ChunkId) → fixed output chunk rows ≤ limit → limit - fixed output chunk rows < size_of (other_waiting output chunk rows)
    → first ≡ first_chunk (other_waiting output chunk rows) → next_eviction output limit chunk rows ≡ loss_of first
first_is_lost output limit chunk rows first within over is =
    next_within output limit chunk rows within ∙ ap loss_of (among_first (limit - fixed output chunk rows) (other_waiting output chunk rows) over ∙ sym is)

-- ---- by saturating addition

pub fits_by : (output : OutputId) (limit : ℕ) (chunk : ChunkId) (rows : List Row) (both most : ℕ) → both ≡ min (fixed output chunk rows) most → both ≤ limit → limit < most
    → size_of (other_waiting output chunk rows) ≤ limit - both → next_eviction output limit chunk rows ≡ Fits
fits_by output limit chunk rows both most is within small fits =
    let same : both ≡ fixed output chunk rows = omega (arith, is, within, small) in
    it_fits output limit chunk rows (omega (arith, same, within)) (omega (arith, same, fits))
