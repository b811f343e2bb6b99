-- The words of a line, from left to right. A missing word is `UnknownWord` at its place, and a further one is
-- `UnknownWord` after the last.
use Rattle.std.specs.Prelude.{◌≡◌, ◌≢◌, ℕ, ◌==◌, ◌&&◌, nat_lt, nat_le, if◌then◌else◌, List, [], ◌∷◌, length, drop, codes, Option, Some, None, Result, Ok, Err, nat_eq}
use Rattle.std.specs.List.{starts_with}
use Rattle.hex.specs.Hex.{decode_of}
use Rattle.hex.specs.declared.error.FromHexError.{FromHexError}
use Rattle.fwd_base.specs.Limits.{longest_piece}
use Rattle.fwd_base.specs.Number as base
use Rattle.fwd_script.specs.declared.refusal.ScheduleKind.{ScheduleKind}
use Rattle.fwd_script.specs.declared.refusal.ScheduleKind.TheVariants.{UnknownWord, BadNumber, BadHex, Memory}

-- the text before the first of these bytes, and the text after it; `None` if the byte doesn't occur
abbrev pub split_at_byte : ℕ → List ℕ → List ℕ × Option (List ℕ)
split_at_byte byte [] = ([], None)
split_at_byte byte (x ∷ xs) =
    if x == byte then ([], Some xs) else (x ∷ (split_at_byte byte xs).0, (split_at_byte byte xs).1)

-- the rest of a line after the words that were read; `None` at the end of the line
abbrev pub Left : Type 0
Left = Option (List ℕ)

-- a reader of words: their meaning and the rest of the line; or the refusal
abbrev pub Reader : Type 0 → Type 0
Reader X = Left → Result (X × Left) ScheduleKind

-- one reader, and then the one for its meaning
abbrev pub then_read : {X Y : Type 0} → (X → Reader Y) → Result (X × Left) ScheduleKind
    → Result (Y × Left) ScheduleKind
then_read next (Ok read) = next read.0 read.1
then_read next (Err kind) = Err kind

infixl 10 ◌>>=◌
abbrev pub ◌>>=◌ : {X Y : Type 0} → Reader X → (X → Reader Y) → Reader Y
(first >>= next) left = then_read next (first left)

-- the line must end here, and has this meaning
abbrev pub over : {X : Type 0} → X → Reader X
over meaning None = Ok (meaning, None)
over meaning (Some rest) = Err UnknownWord

-- a word, up to the next space
abbrev pub word : Reader (List ℕ)
word None = Err UnknownWord
word (Some rest) = Ok (split_at_byte 32 rest)

-- the meaning of a word, or its refusal
abbrev pub judged : {X : Type 0} → ScheduleKind → Option X → Reader X
judged kind None left = Err kind
judged kind (Some meaning) left = Ok (meaning, left)

abbrev pub at_most : ℕ → Option ℕ → Option ℕ
at_most most (Some number) = if nat_le number most then Some number else None
at_most most None = None

-- a number that is at most this
abbrev pub number_of : ℕ → List ℕ → Option ℕ
number_of most digits = at_most most (base.number_of digits)

abbrev pub number_to : ℕ → Reader ℕ
number_to most = do
  digits ← word
  judged BadNumber (number_of most digits)

-- A number of at most 64 bits, and one of at most 32. Leading zeros are allowed.
abbrev pub number : Reader ℕ
number = number_to 18446744073709551615

abbrev pub id : Reader ℕ
id = number_to 4294967295

-- the byte of an escape
abbrev pub escaped : ℕ → Option ℕ
escaped letter =
    if letter == 110 then Some 10
    else if letter == 114 then Some 13
    else if letter == 116 then Some 9
    else if letter == 92 then Some 92
    else None

abbrev pub in_front : Option ℕ → Option (List ℕ) → Option (List ℕ)
in_front (Some byte) (Some bytes) = Some (byte ∷ bytes)
in_front (Some byte) None = None
in_front None bytes = None

-- the bytes of a text with escapes; `None` if a backslash begins no escape
abbrev pub unescaped : List ℕ → Option (List ℕ)
unescaped [] = Some []
unescaped (x ∷ []) = if x == 92 then None else Some (x ∷ [])
unescaped (x ∷ y ∷ rest) =
    if x == 92 then in_front (escaped y) (unescaped rest) else in_front (Some x) (unescaped (y ∷ rest))

abbrev pub decoded : Result (List ℕ) FromHexError → Option (List ℕ)
decoded (Ok bytes) = Some bytes
decoded (Err error) = None

-- BYTES: `t:` and the rest of the line with escapes, or a word of `x:` and hex digits. `x:` without digits is
-- no bytes; hex digits have either case.
abbrev pub octets : Reader (List ℕ)
octets None = Err UnknownWord
octets (Some rest) =
    if starts_with nat_eq rest (codes "t:") then judged BadHex (unescaped (drop 2 rest)) None
    else hex_word (split_at_byte 32 rest)
  where
    hex_word : List ℕ × Left → Result (List ℕ × Left) ScheduleKind
    hex_word (digits, left) =
        if starts_with nat_eq digits (codes "x:")
        then judged BadHex (decoded (decode_of (drop 2 digits))) left else Err BadHex

-- The BYTES of a read event: at least one, and at most the longest piece. A wrong size is refused before a
-- further word.
abbrev pub piece : Reader (List ℕ)
piece = do
  bytes ← octets
  judged BadNumber
      (if nat_lt 0 (length bytes) && nat_le (length bytes) longest_piece then Some bytes else None)

-- the meaning that was read, and the rest after it; `Memory` says nothing
abbrev pub Reads : {X : Type 0} → Reader X → Left → Result X ScheduleKind → Left → Type 0
Reads reader left (Ok meaning) behind = reader left ≡ Ok (meaning, behind)
Reads reader left (Err kind) behind = kind ≢ Memory → reader left ≡ Err kind
