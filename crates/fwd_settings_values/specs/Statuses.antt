-- Statuses of HTTP that are retried.
use Rattle.std.specs.Prelude.{ℕ, ◌*◌, ◌+◌, ◌-◌, if◌then◌else◌, List, [], ◌∷◌, codes, Option, Some, None, option_map}
use Rattle.std.specs.Str.{str_eq_ignore_ascii_case}
use Rattle.fwd_base.specs.Number.{is_digits}
use Rattle.fwd_http.specs.declared.statuses.StatusRange.{StatusRange}
use Rattle.fwd_settings_values.specs.Text.{parts_of}
use Rattle.fwd_settings_values.specs.Types.{in_front}

abbrev pub from_to : ℕ → ℕ → StatusRange
from_to first last = record { first = first; last = last }

-- the number of three digits
abbrev pub one_status : List ℕ → Option ℕ
one_status (a ∷ b ∷ c ∷ []) =
    if is_digits (a ∷ b ∷ c ∷ []) then Some ((a - 48) * 100 + (b - 48) * 10 + (c - 48)) else None
one_status _ = None

-- a class, or one status
abbrev pub status_range_of : List ℕ → Option StatusRange
status_range_of word =
    if str_eq_ignore_ascii_case word (codes "3xx") then Some (from_to 300 399)
    else (if str_eq_ignore_ascii_case word (codes "4xx") then Some (from_to 400 499)
    else option_map (λ status. from_to status status) (one_status word))

-- each word in order; empty words between two separators are skipped
abbrev pub ranges_of_words : List (List ℕ) → Option (List StatusRange)
ranges_of_words [] = Some []
ranges_of_words ([] ∷ words) = ranges_of_words words
ranges_of_words ((b ∷ bytes) ∷ words) = in_front (status_range_of (b ∷ bytes)) (ranges_of_words words)

-- words separated by blanks or commas
abbrev pub statuses_of : List ℕ → Option (List StatusRange)
statuses_of text = ranges_of_words (parts_of (codes " \t,") text)
