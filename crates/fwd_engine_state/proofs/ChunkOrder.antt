-- Chunks whose numbers rise and stay below a bound.
use Rattle.std.proofs.Common.{◌≡◌, ℕ, ◌+◌, ◌<◌, ◌≤◌, false, inl, inr, List, [], ◌∷◌, ◌++◌, None, refl, arith}
use Rattle.std.specs.Prelude.{◌==◌, find}
use Rattle.std.proofs.lemmas.Bool.{cases_Bool, ne_eqb}
use Rattle.fwd_model.specs.Fact.{History, Found, Offered}
use Rattle.fwd_model.specs.Chunks.{ChunkInfo, next}
use Rattle.fwd_engine_state.specs.StateRepresents.{NumbersRise}

pub rise_later : (least past later : ℕ) (cs : List ChunkInfo) → NumbersRise least past cs → past ≤ later → NumbersRise least later cs
rise_later least past later [] rise more = tt
rise_later least past later (c ∷ cs) rise more =
    let a : least ≤ c.number = rise.0 in
    let b : c.number < past = rise.1 in
    (a, omega (arith, b, more), rise_later (c.number + 1) past later cs rise.2 more)

pub rise_append : (least past later : ℕ) (cs : List ChunkInfo) (c : ChunkInfo) → NumbersRise least past cs → least ≤ c.number → past ≤ c.number → c.number < later → NumbersRise least later (cs ++ c ∷ [])
rise_append least past later [] c rise from behind below = (from, below, tt)
rise_append least past later (x ∷ xs) c rise from behind below =
    let a : least ≤ x.number = rise.0 in
    let b : x.number < past = rise.1 in
    (a, omega (arith, b, behind, below), rise_append (x.number + 1) past later xs c rise.2 (omega (arith, b, behind)) behind below)

-- the numbers of a prefix rise too, and the last one is below the bound
pub rise_first : (least past : ℕ) (cs : List ChunkInfo) (c : ChunkInfo) → NumbersRise least past (cs ++ c ∷ []) → NumbersRise least past cs
rise_first least past [] c rise = tt
rise_first least past (x ∷ xs) c rise = (rise.0, rise.1, rise_first (x.number + 1) past xs c rise.2)

pub rise_last : (least past : ℕ) (cs : List ChunkInfo) (c : ChunkInfo) → NumbersRise least past (cs ++ c ∷ []) → c.number < past
rise_last least past [] c rise = rise.1
rise_last least past (x ∷ xs) c rise = rise_last (x.number + 1) past xs c rise.2

-- no chunk has a number at or above the bound
pub none_past : (least past n : ℕ) (cs : List ChunkInfo) → NumbersRise least past cs → past ≤ n → find (λ (c : ChunkInfo). c.number == n) cs ≡ None
none_past least past n [] rise above = refl
none_past least past n (c ∷ cs) rise above =
    let b : c.number < past = rise.1 in
    rw (ne_eqb c.number n (λ e. absurd (omega (arith, b, above, e)))) (none_past (c.number + 1) past n cs rise.2 above)

-- no chunk has a number below the first one
pub none_before : (least past n : ℕ) (cs : List ChunkInfo) → NumbersRise least past cs → n < least → find (λ (c : ChunkInfo). c.number == n) cs ≡ None
none_before least past n [] rise below = refl
none_before least past n (c ∷ cs) rise below =
    let a : least ≤ c.number = rise.0 in
    let b : c.number < past = rise.1 in
    rw (ne_eqb c.number n (λ e. absurd (omega (arith, a, below, e)))) (none_before (c.number + 1) past n cs rise.2 (omega (arith, a, below)))

pub found_append : (k : ℕ) (cs : List ChunkInfo) (y : ChunkInfo) → (y.number == k) ≡ false → find (λ (c : ChunkInfo). c.number == k) (cs ++ y ∷ []) ≡ find (λ (c : ChunkInfo). c.number == k) cs
found_append k [] y differs = rw differs refl
found_append k (c ∷ cs) y differs = elim (cases_Bool (c.number == k)) [
  | inl same ↦ rw same refl
  | inr other ↦ rw other (found_append k cs y differs)
]

-- numbers are given out from 1 on
pub next_least : (h : History) → 1 ≤ next h
next_least [] = omega arith
next_least (Found number stream name bytes ∷ h) = let before = next_least h in omega (arith, before)
next_least (Offered chunk b ∷ h) = let before = next_least h in omega (arith, before)
next_least (_ ∷ h) = next_least h
