-- The encoding of an event before the pairs of its record.
use Rattle.std.specs.Prelude.{ℕ, ◌+◌, List, [], ◌∷◌, ◌++◌}
use Rattle.std.specs.Int.{w32, to_be_bytes}
use Rattle.fwd_parser.specs.LineEvent.{Moment}

-- An EventTime and no metadata in a list, and the header of a map of n pairs, fewer than 16.
abbrev pub event_head : Moment → ℕ → List ℕ
event_head moment n =
    146 ∷ 146 ∷ 215 ∷ 0 ∷ (to_be_bytes w32 moment.0 ++ (to_be_bytes w32 moment.1 ++ (128 ∷ (128 + n) ∷ [])))
