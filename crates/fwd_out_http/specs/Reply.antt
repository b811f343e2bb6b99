-- The judgement of a server's reply as a function of its bytes: by the status of its head, or by its length
-- if it has none.
use Rattle.std.specs.Prelude.{ℕ, ◌+◌, Bool, true, false, ◌&&◌, ◌||◌, ◌==◌, nat_eq, nat_lt, nat_le, if◌then◌else◌, List, [], ◌∷◌, length, take, drop, map, fold, codes, Option, Some, None}
use Rattle.std.specs.List.{list_all, starts_with}
use Rattle.std.specs.Char.{is_ascii_digit}
use Rattle.std.specs.Str.Lines.{strip_carriage_return}
use Rattle.std.specs.Str.Parse.{digits_value}
use Rattle.fwd_base.specs.Limits.{longest_head}
use Rattle.fwd_frames.specs.Lines.{ended_parts}
use Rattle.fwd_flush.specs.declared.judgement.Judged.{Judged}
use Rattle.fwd_flush.specs.declared.judgement.Judged.TheVariants.{More, Right, Wrong, Fatal}
use Rattle.httparse.specs.Grammar.{is_token_byte, is_value_byte}
use Rattle.fwd_http.specs.declared.statuses.StatusRange.{StatusRange}
use Rattle.fwd_http.specs.Statuses.{is_retried}

-- the largest number of fields of a head
abbrev pub most_fields : ℕ
most_fields = 64

abbrev pub is_between : ℕ → ℕ → ℕ → Bool
is_between low high n = nat_le low n && nat_le n high

-- a head with this status comes before the final one (RFC 9110, section 15.2)
abbrev pub is_interim : ℕ → Bool
is_interim status = is_between 100 199 status

-- ---- a line of a head, without its end

abbrev pub is_empty : List ℕ → Bool
is_empty [] = true
is_empty (b ∷ line) = false

-- nothing, or a space and a phrase
abbrev pub is_reason : List ℕ → Bool
is_reason [] = true
is_reason (b ∷ phrase) = b == 32 && list_all is_value_byte phrase

-- the status in the rest of a status line after HTTP/1.: the minor version, a space, three digits and a
-- reason
abbrev pub status_after_version : List ℕ → Option ℕ
status_after_version (minor ∷ blank ∷ a ∷ b ∷ c ∷ reason) =
    let digits = a ∷ b ∷ c ∷ [] in
    if is_between 48 49 minor && (blank == 32 && (list_all is_ascii_digit digits && is_reason reason))
    then Some (digits_value 10 digits)
    else None
status_after_version _ = None

-- the status of a status line; none for any other line
abbrev pub status_of : List ℕ → Option ℕ
status_of line =
    if starts_with nat_eq line (codes "HTTP/1.") then status_after_version (drop 7 line) else None

-- whether a line is a field line, or the end of one: a name, unless it has come already, then a colon and a
-- value
abbrev pub is_field_end : Bool → List ℕ → Bool
is_field_end named [] = false
is_field_end named (b ∷ line) =
    if b == 58 then named && list_all is_value_byte line
    else is_token_byte b && is_field_end true line

abbrev pub is_field : List ℕ → Bool
is_field line = is_field_end false line

-- ---- the lines of a reply

-- how far the heads of a reply are read
pub data Reading : Type 0 where
  -- a head comes next
  Before : Reading
  -- a head with this status has started, and so many of its fields have come
  Within : (status fields : ℕ) → Reading
  -- the final head is complete
  Whole : (status : ℕ) → Reading
  -- the bytes can't become a head
  Broken : Reading

abbrev pub begun : Option ℕ → Reading
begun (Some status) = Within status 0
begun None = Broken

abbrev pub finished : ℕ → Reading
finished status = if is_interim status then Before else Whole status

-- the reading after one more line
abbrev pub reading_after : Reading → List ℕ → Reading
reading_after Before line = if is_empty line then Before else begun (status_of line)
reading_after (Within status fields) line =
    if is_empty line then finished status
    else if is_field line && nat_lt fields most_fields then Within status (fields + 1)
    else Broken
reading_after (Whole status) line = Whole status
reading_after Broken line = Broken

abbrev pub status_read : Reading → Option ℕ
status_read Before = None
status_read (Within status fields) = None
status_read (Whole status) = Some status
status_read Broken = None

-- The complete lines, each without its end, which is CR LF or LF. Lines that end in LF alone and empty lines
-- before a head are accepted, as by `httparse`.
abbrev pub whole_lines : List ℕ → List (List ℕ)
whole_lines bytes = map strip_carriage_return (ended_parts bytes)

-- the status of the first head in the bytes that isn't interim
unfoldable pub status_in : List ℕ → Option ℕ
status_in bytes = status_read (fold reading_after Before (whole_lines bytes))

-- ---- what a reply is

-- by the status of its head, where the statuses of these ranges are retried
abbrev pub by_status : List StatusRange → ℕ → Judged
by_status ranges status =
    if is_retried ranges status then Wrong
    else if is_between 200 299 status then Right
    else if status == 429 || is_between 500 599 status then Wrong
    else Fatal

-- by the status of its head, if there is one, and by whether more bytes would be read
abbrev pub judged_by : List StatusRange → Option ℕ → Bool → Judged
judged_by ranges (Some status) full = by_status ranges status
judged_by ranges None true = Wrong
judged_by ranges None false = More

abbrev pub http_judgement : List StatusRange → List ℕ → Judged
http_judgement ranges reply =
    judged_by ranges (status_in (take longest_head reply)) (nat_le longest_head (length reply))
