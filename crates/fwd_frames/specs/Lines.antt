-- The lines of a stream of bytes.
use Rattle.std.specs.Prelude.{ℕ, ◌==◌, ◌≡◌, ◌++◌, Bool, true, false, List, [], ◌∷◌, length, take, nat_lt, if◌then◌else◌}
use Rattle.std.specs.List.{flat_map, list_any, AllByRecursion}
use Rattle.std.specs.Str.Lines.{strip_carriage_return}
use Rattle.fwd_base.specs.Limits.{longest_line}
use Rattle.fwd_frames.specs.declared.line.Line.{Line}

-- whether the bytes contain a line feed
abbrev pub has_feed : List ℕ → Bool
has_feed bytes = list_any (λ byte. byte == 10) bytes

-- a byte put at the beginning of the first part
abbrev pub prepend_to_first : ℕ → List (List ℕ) → List (List ℕ)
prepend_to_first byte [] = []
prepend_to_first byte (part ∷ parts) = (byte ∷ part) ∷ parts

-- the parts of a stream that end in a line feed, each without it
abbrev pub ended_parts : List ℕ → List (List ℕ)
ended_parts [] = []
ended_parts (byte ∷ bytes) =
    if byte == 10 then [] ∷ ended_parts bytes else prepend_to_first byte (ended_parts bytes)

-- the bytes after the last line feed of a stream
abbrev pub rest : List ℕ → List ℕ
rest [] = []
rest (byte ∷ bytes) = if has_feed (byte ∷ bytes) then rest bytes else byte ∷ bytes

-- The line of a part: a long one is cut, and any other loses a trailing carriage return. The length counts
-- the carriage return, and a cut line keeps one.
abbrev pub line_of : List ℕ → Line
line_of part =
    if nat_lt longest_line (length part) then record { bytes = take longest_line part; cut = true }
    else record { bytes = strip_carriage_return part; cut = false }

-- a line, unless it is empty
abbrev pub unless_empty : Line → List Line
unless_empty line = if length line.bytes == 0 then [] else line ∷ []

-- the lines of a stream, in order: those of its parts, without empty ones
abbrev pub lines : List ℕ → List Line
lines stream = flat_map (λ part. unless_empty (line_of part)) (ended_parts stream)

-- the rest of a stream as a last line, unless that is empty
abbrev pub last_line : List ℕ → List Line
last_line stream = unless_empty (line_of (rest stream))

-- the kept bytes of a rest, up to the longest line, and whether there were more
pub record Kept : Type 0 where
  pub bytes : List ℕ
  pub cut : Bool

abbrev pub state_of_rest : List ℕ → Kept
state_of_rest part = record { bytes = take longest_line part; cut = nat_lt longest_line (length part) }

-- the state of a reader after a stream
abbrev pub kept : List ℕ → Kept
kept stream = state_of_rest (rest stream)

-- the stream is these parts, with a line feed after each, and then a rest; neither the parts nor the rest
-- contain one
pub record IsSplit (stream : List ℕ) (parts : List (List ℕ)) (left : List ℕ) : Type 0 where
  pub whole : stream ≡ flat_map (λ part. part ++ 10 ∷ []) parts ++ left
  pub no_feed : AllByRecursion (λ part. has_feed part ≡ false) parts
  pub no_feed_left : has_feed left ≡ false
