-- The text of a log line.
use Rattle.std.specs.Prelude.{◌≡◌, ℕ, ◌+◌, ◌*◌, ◌/◌, ◌%◌, ◌==◌, ◌||◌, min, nat_lt, pos, unsigned_abs, List, [], ◌∷◌, ◌++◌, map, codes, decimal, if◌then◌else◌}
use Rattle.jiff_core.specs.declared.civil.date.Date.{Date}
use Rattle.jiff_core.specs.Date.{epoch_day}
use Rattle.fwd_log.specs.declared.level.Level.{Level}
use Rattle.fwd_log.specs.Level.{label_of}

-- a number with at least two digits
abbrev pub two_digits : ℕ → List ℕ
two_digits n = if nat_lt n 10 then codes "0" ++ decimal n else decimal n

-- a byte as a line shows it: a space for a control character
abbrev pub printable : ℕ → ℕ
printable byte = if nat_lt byte 32 || byte == 127 then 32 else byte

-- the day of a time, from 1970-01-01; from the end of the year 9999 on its last day
abbrev pub day_of : ℕ → ℕ
day_of millis = min (millis / 86400000) 2932896

-- a date
unfoldable pub date_text : Date → List ℕ
date_text date =
    decimal (unsigned_abs date.year) ++ codes "/" ++ two_digits date.month ++ codes "/" ++ two_digits date.day

-- the time of a day
unfoldable pub clock_text : ℕ → List ℕ
clock_text second =
    two_digits (second / 3600) ++ codes ":" ++ two_digits (second / 60 % 60) ++ codes ":"
    ++ two_digits (second % 60)

-- the level and the source
unfoldable pub head_text : Level → List ℕ → List ℕ
head_text level source = codes "] [" ++ label_of level ++ codes "] [" ++ map printable source ++ codes "] "

-- a bracket and the time are added, the date being the one of that day
pub record IsAppendedTime (millis : ℕ) (old new : List ℕ) : Type 0 where
  pub date : Date
  pub on : epoch_day date ≡ pos (day_of millis)
  pub is : new ≡ old ++ codes "[" ++ date_text date ++ codes " " ++ clock_text (millis / 1000 % 86400)

-- the line of a text
pub record IsLine (millis : ℕ) (level : Level) (source text line : List ℕ) : Type 0 where
  pub date : Date
  pub on : epoch_day date ≡ pos (day_of millis)
  pub is : line
      ≡ (codes "[" ++ date_text date ++ codes " " ++ clock_text (millis / 1000 % 86400))
      ++ head_text level source ++ map printable text ++ codes "\n"
