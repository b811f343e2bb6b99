-- The steps of the line reader, on bytes in memory.
use Rattle.std.specs.Prelude.{ℕ, ◌+◌, ◌-◌, ◌<◌, ◌≡◌, ◌++◌, Bool, true, false, List, ◌∷◌, length, take, drop, nat_lt, Option, MatchOption, if◌then◌else◌}
use Rattle.fwd_base.specs.Limits.{longest_line}
use Rattle.fwd_frames.specs.Lines.{has_feed, Kept}

-- the first line feed of the bytes is at this index
pub record FirstFeed (bytes : List ℕ) (place : ℕ) : Type 0 where
  pub within : place < length bytes
  pub none_before : has_feed (take place bytes) ≡ false
  pub split : bytes ≡ take place bytes ++ 10 ∷ drop (place + 1) bytes

-- found is the index of the first line feed, or None if there is none
abbrev pub IsFirstFeed : List ℕ → Option ℕ → Type 0
IsFirstFeed bytes found = MatchOption found (has_feed bytes ≡ false) (FirstFeed bytes)

abbrev pub state_of : List ℕ → Bool → Kept
state_of bytes cut = record { bytes = bytes; cut = cut }

-- the kept bytes with further bytes of the part, if at most `most` are kept
abbrev pub state_with_at : ℕ → Kept → List ℕ → Kept
state_with_at most kept more =
    let room = most - length kept.bytes in
    if nat_lt room (length more) then state_of (kept.bytes ++ take room more) true
    else state_of (kept.bytes ++ more) kept.cut

abbrev pub state_with_more : Kept → List ℕ → Kept
state_with_more kept more = state_with_at longest_line kept more
