-- The numbers in file names.
use Rattle.std.specs.Prelude.{ℕ, ◌+◌, nat_lt, nat_eq, max, Bool, if◌then◌else◌, List, [], ◌∷◌, length, take, drop, fold, Option, Some, None}
use Rattle.std.specs.List.{ends_with}
use Rattle.std.specs.Str.{bytes_eq}
use Rattle.fwd_base.specs.Limits.{numbers_end}
use Rattle.fwd_base.specs.Number.{number_of}
use Rattle.fwd_chunk.specs.declared.chunk.Found.{Found}

-- `.flb`
abbrev pub flb : List ℕ
flb = 46 ∷ 102 ∷ 108 ∷ 98 ∷ []

-- the names of chunk files
abbrev pub is_chunk_name : List ℕ → Bool
is_chunk_name name = ends_with nat_eq name flb

-- a number of serials, and 0 in place of another
abbrev pub serial_or_zero : Option ℕ → ℕ
serial_or_zero None = 0
serial_or_zero (Some number) = if nat_lt number numbers_end then number else 0

-- A serial is a name of twenty digits and `.flb` whose number is below 2^63: its number. Other names are
-- foreign, and have 0.
abbrev pub serial_number : List ℕ → ℕ
serial_number name = if bytes_eq (drop 20 name) flb then serial_or_zero (number_of (take 20 name)) else 0

-- the greatest serial, 0 if there is none
abbrev pub greatest_serial : List Found → ℕ
greatest_serial found = fold (λ greatest file. max greatest (serial_number file.name)) 0 found

-- one more than the greatest serial and the number of files
abbrev pub next_number : List Found → ℕ
next_number found = 1 + max (length found) (greatest_serial found)
