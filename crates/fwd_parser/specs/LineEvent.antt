-- The event of a line.
use Rattle.std.specs.Prelude.{ℕ, ℤ, pos, negsuc, ◌*◌, ◌/◌, ◌%◌, nat_lt, min, List, [], ◌∷◌, position, remove, Option, Some, None, option_map, option_and_then, unwrap_or, codes, if◌then◌else◌}
use Rattle.std.specs.Option.{option_map_or}
use Rattle.std.specs.Result.{result_ok}
use Rattle.regex.specs.Patterns.{find}
use Rattle.fwd_base.specs.Limits.{latest_time}
use Rattle.fwd_base.specs.Pattern.{expression_of, group_names, captures_of}
use Rattle.fwd_value.specs.Val.{Val, text}
use Rattle.fwd_value.specs.Keys.{Record, key, has_key}
use Rattle.fwd_event.specs.declared.event.Event.{Event}
use Rattle.fwd_json.specs.declared.floats.Floats.{Floats}
use Rattle.fwd_json.specs.LinePairs.{pairs_in}
use Rattle.fwd_parser.specs.Field.{fields_of}
use Rattle.fwd_parser.specs.Time.{time_of}
use Rattle.fwd_parser.specs.declared.parser.Parser.{Parser}
use Rattle.fwd_parser.specs.declared.parser.Shape.{Shape}
use Rattle.fwd_parser.specs.declared.parser.Shape.TheVariants.{Plain, Json, Groups}
use Rattle.fwd_parser.specs.declared.parser.TimeRule.{TimeRule}

-- the whole line, under `log`
abbrev pub plain : List ℕ → Record
plain line = (text (codes "log"), text line) ∷ []

-- the record of a line; one that isn't a JSON object within the limits, or that the pattern doesn't match,
-- is kept under `log`
unfoldable pub body_of : Floats → Shape → List ℕ → Record
body_of floats Plain line = plain line
body_of floats Json line = unwrap_or (result_ok (pairs_in floats line)) (plain line)
body_of floats (Groups pattern types skip_empty) line =
    option_map_or (λ m. fields_of floats types skip_empty (captures_of (group_names pattern) line m))
    (find (expression_of pattern) line 0) (plain line)

-- seconds since 1970 in UTC, and nanoseconds
abbrev pub Moment : Type 0
Moment = ℕ × ℕ

-- the moment of a clock reading in milliseconds, the last of which is in the second 4294967295
unfoldable pub clock_moment : ℕ → Moment
clock_moment clock =
    let ms = min clock latest_time in
    (ms / 1000, ms % 1000 * 1_000_000)

-- a time from 1970 up to the second 4294967295 is a moment
abbrev pub as_moment : ℤ × ℕ → Option Moment
as_moment time = option_map (λ second. (second, time.1)) (as_second time.0)
  where
    as_second : ℤ → Option ℕ
    as_second (pos n) = if nat_lt n 4_294_967_296 then Some n else None
    as_second (negsuc n) = None

-- the moment of a text
unfoldable pub moment_in : List ℕ → List ℕ → Option Moment
moment_in format s = option_and_then as_moment (time_of format s)

-- the moment of a value, if it is a text
abbrev pub moment_of_value : List ℕ → Val → Option Moment
moment_of_value format (text s) = moment_in format s
moment_of_value format _ = None

-- the moment of the first pair with the rule's key
unfoldable pub field_moment : TimeRule → Record → Option Moment
field_moment rule body = option_and_then (λ p. moment_of_value rule.format p.1) (key body rule.key)

-- a record without the first pair with a key
unfoldable pub without : List ℕ → Record → Record
without k body = option_map_or (remove body) (position (has_key k) body) body

-- an event at a moment
abbrev pub at : Moment → Record → Event
at moment body = record { sec = moment.0; nsec = moment.1; meta = []; body = body }

-- the event of a record: at the moment of the field, which is then removed unless it is kept, else at the
-- clock's
unfoldable pub timed_event : Option TimeRule → ℕ → Record → Event
timed_event None clock body = at (clock_moment clock) body
timed_event (Some rule) clock body =
    option_map_or (λ moment. at moment (if rule.keep then body else without rule.key body))
    (field_moment rule body) (at (clock_moment clock) body)

-- the event of a line that is read when the greatest clock reading so far is `clock` milliseconds
unfoldable pub parsed : Parser → List ℕ → ℕ → Event
parsed parser line clock = timed_event parser.time clock (body_of parser.floats parser.shape line)
