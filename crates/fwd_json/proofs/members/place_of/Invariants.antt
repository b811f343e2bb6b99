use Rattle.std.proofs.Common.{◌≡◌, ◌≢◌, ℕ, ◌-◌, ◌<◌, ◌≤◌, length, Greater, nat_cmp}
use Rattle.std.specs.Cmp.Lexicographic.{slice_cmp}
use Rattle.fwd_json.specs.PutPair.{key_at}
use Rattle.fwd_json.proofs.members.place_of.Given as goal

abbrev pub invariant-halves : goal.invariant-halves
invariant-halves l =
    (l.low ≤ l.high) × (l.high ≤ length l.pairs)
    × ((j : ℕ) → j < l.low → slice_cmp nat_cmp l.key (key_at l.pairs j) ≡ Greater)
    × (l.high < length l.pairs → slice_cmp nat_cmp l.key (key_at l.pairs l.high) ≢ Greater)

abbrev pub decreases-halves : goal.decreases-halves
decreases-halves l = l.high - l.low
