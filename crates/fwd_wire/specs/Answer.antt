-- The message at the start of bytes, or why there is none.
use Rattle.std.specs.Prelude.{◌≡◌, ◌⊎◌, ℕ, ◌≤◌, ◌<◌, List, length, take}
use Rattle.fwd_base.specs.Limits.{longest_message}
use Rattle.fwd_value.specs.Val.{Val}
use Rattle.fwd_msgpack.specs.DecodeAnswers.{EncodesPrefix, IsProperPrefix, FailsAtForm, IsUnused, IsListOrMap}
use Rattle.fwd_wire.specs.Message.{MessageContent, Verdict, says, compressed, no_message, MessageSays}

-- what bytes give: a message and its length, or why there is none
pub data Answer : Type 0 where
  message : MessageContent → ℕ → Answer
  short : Answer
  not_a_message : ℕ → Answer
  is_compressed : Answer
  too_long : Answer

-- the bytes that are read: the first ones, at most as many as a message may have
abbrev pub front : List ℕ → List ℕ
front b = take longest_message b

-- the first n bytes encode a value that says this
abbrev pub FrontSays : List ℕ → ℕ → Verdict → Type 0
FrontSays b n v = (x : Val) × EncodesPrefix x n (front b) × MessageSays x v

-- A whole value that isn't a message is refused at 0; if no value can be there, the position is that of the
-- byte that stops it. Bytes that end inside a value are short, or too long if a message may have no more of
-- them.
abbrev pub IsAnswer : List ℕ → Answer → Type 0
IsAnswer b (message s n) = FrontSays b n (says s)
IsAnswer b short = (length b < longest_message) × IsProperPrefix b
IsAnswer b (not_a_message at) =
    ((n : ℕ) × FrontSays b n no_message × (at ≡ 0))
    ⊎ (FailsAtForm IsUnused at (front b) ⊎ FailsAtForm IsListOrMap at (front b))
IsAnswer b is_compressed = (n : ℕ) × FrontSays b n compressed
IsAnswer b too_long = (longest_message ≤ length b) × IsProperPrefix (front b)
