-- The state of a scanner against the bytes that it was fed, and its answers.
use Rattle.std.specs.Prelude.{◌≡◌, ℕ, zero, suc, ◌+◌, ◌-◌, ◌*◌, ◌<◌, ◌≤◌, Bool, true, IsTrue, List, [], ◌∷◌, ◌++◌, length, drop, Result, Ok, Err, nat_lt, if◌then◌else◌}
use Rattle.fwd_msgpack.specs.declared.fault.FormatErr.{FormatErr}
use Rattle.fwd_msgpack.specs.declared.fault.FormatErr.TheVariants as fault
use Rattle.fwd_msgpack.specs.declared.part.PartialLength.{PartialLength}
use Rattle.fwd_msgpack.specs.declared.part.PartialLength.TheVariants as left
use Rattle.fwd_msgpack.specs.declared.part.Holds.{Holds}
use Rattle.fwd_msgpack.specs.declared.part.Holds.TheVariants as holds
use Rattle.fwd_msgpack.specs.declared.part.Part.{Part}
use Rattle.fwd_msgpack.specs.declared.part.Part.TheVariants.{First, Skip, Length}
use Rattle.fwd_msgpack.specs.declared.part.Step.{Step}
use Rattle.fwd_msgpack.specs.declared.part.Step.TheVariants as step
use Rattle.fwd_msgpack.specs.declared.scan.Scan.{Scan}
use Rattle.fwd_msgpack.specs.declared.scan.Scanned.{Scanned}
use Rattle.fwd_msgpack.specs.declared.scan.Scanned.TheVariants.{More, Whole, Unused, TooDeep}
use Rattle.fwd_msgpack.specs.Levels.{MissesOne}
use Rattle.fwd_msgpack.specs.Decoder.{◌>>=◌, Read, value_at}

-- the bytes after a value, or the error
abbrev pub Skipped : Type 0
Skipped = Result (List ℕ) FormatErr

-- skips a value, nested at most d deep
abbrev pub skip_value : ℕ → List ℕ → Skipped
skip_value d b = value_at d b >>= λ x. Ok x.1

-- skips n values
unfoldable pub skip_values : ℕ → ℕ → List ℕ → Skipped
skip_values d zero b = Ok b
skip_values d (suc n) b = skip_value d b >>= skip_values d n

-- skips the missing values of each open level, innermost first
unfoldable pub skip_levels : List ℕ → List ℕ → Skipped
skip_levels [] b = Ok b
skip_levels (n ∷ ns) b = skip_values (64 - length ns) n b >>= skip_levels ns

-- skips n bytes, and then the missing values of each open level
unfoldable pub behind : ℕ → List ℕ → List ℕ → Skipped
behind n ns b = if nat_lt (length b) n then Err fault.Short else skip_levels ns (drop n b)

-- continues after a length
abbrev pub after_length : Holds → ℕ → List ℕ → List ℕ → Skipped
after_length holds.Bytes n ns b = behind n ns b
after_length holds.Typed n ns b = behind (n + 1) ns b
after_length holds.Values n ns b = skip_levels (n ∷ ns) b
after_length holds.Pairs n ns b = skip_levels (2 * n ∷ ns) b

-- completes a length whose first bytes have come
unfoldable pub complete_length : PartialLength → List ℕ → Read ℕ
complete_length l [] = Err fault.Short
complete_length left.Four (c ∷ b) = complete_length (left.Three c) b
complete_length (left.Three n) (c ∷ b) = complete_length (left.Two (n * 256 + c)) b
complete_length (left.Two n) (c ∷ b) = complete_length (left.One n c) b
complete_length (left.One n m) (c ∷ b) = Ok ((n * 256 + m) * 256 + c, b)

-- the outcome of the bytes from a position inside a value on
abbrev pub from_part : Part → List ℕ → List ℕ → Skipped
from_part First ns b = skip_levels ns b
from_part (Skip n) ns b = behind n ns b
from_part (Length l h) ns b = complete_length l b >>= λ n. after_length h n.0 ns n.1

-- the outcome of further bytes for a scanner
abbrev pub outcome_of : Scan → List ℕ → Skipped
outcome_of s b = from_part s.part s.levels b

-- a list or map may be opened inside these levels
abbrev pub may_open : Holds → List ℕ → Bool
may_open holds.Values ns = nat_lt (length ns) 65
may_open holds.Pairs ns = nat_lt (length ns) 65
may_open h ns = true

-- an open level misses a value, or the end of a value is missing
abbrev pub IsWanting : Part → List ℕ → Type 0
IsWanting First ns = MissesOne ns
IsWanting (Skip n) ns = 0 < n
IsWanting (Length l h) ns = IsTrue (may_open h ns)

-- the scan hasn't ended
abbrev pub IsOpen : Scan → Type 0
IsOpen s = IsWanting s.part s.levels

-- the scanner was fed these bytes, and is within a value
pub record IsFed (s : Scan) (fed : List ℕ) : Type 0 where
  pub wanting : IsOpen s
  pub seen : s.seen ≡ length fed
  pub follows : (more : List ℕ) → skip_value 64 (fed ++ more) ≡ outcome_of s more

-- the outcome of the bytes after a step
abbrev pub outcome_after_step : Step → Scan → List ℕ → Skipped
outcome_after_step step.On s b = outcome_of s b
outcome_after_step step.Ended s b = Ok b
outcome_after_step step.Unused s b = Err (fault.Unused (length b + 1))
outcome_after_step step.TooDeep s b = Err (fault.TooDeep (length b + 1))

-- a scan that continues is open
abbrev pub StaysOpen : Step → Scan → Type 0
StaysOpen step.On s = IsOpen s
StaysOpen _ s = Unit {0}

-- the bytes before `rest` were taken
pub record Takes (old new : Scan) (bytes rest : List ℕ) (s : Step) : Type 0 where
  pub stays : StaysOpen s new
  pub shorter : length rest < length bytes
  pub seen : new.seen ≡ old.seen
  pub same : (more : List ℕ) → outcome_after_step s new (rest ++ more) ≡ outcome_of old (bytes ++ more)

-- a scan that continues has taken all bytes, another at least one
abbrev pub Used : Step → ℕ → ℕ → Type 0
Used step.On all rest = rest ≡ 0
Used _ all rest = rest < all

-- all bytes were taken, or those up to the end of the scan
pub record TakesAll (old new : Scan) (bytes rest : List ℕ) (s : Step) : Type 0 where
  pub stays : StaysOpen s new
  pub used : Used s (length bytes) (length rest)
  pub within : length rest ≤ length bytes
  pub seen : new.seen ≡ old.seen
  pub same : (more : List ℕ) → outcome_after_step s new (rest ++ more) ≡ outcome_of old (bytes ++ more)

abbrev pub IsMore : Scanned → Type 0
IsMore More = Unit {0}
IsMore _ = ⊥

abbrev pub IsWholeAt : Scanned → ℕ → Type 0
IsWholeAt (Whole at) n = at ≡ n
IsWholeAt _ n = ⊥

abbrev pub IsUnusedAt : Scanned → ℕ → Type 0
IsUnusedAt (Unused at) n = at ≡ n
IsUnusedAt _ n = ⊥

abbrev pub IsTooDeepAt : Scanned → ℕ → Type 0
IsTooDeepAt (TooDeep at) n = at ≡ n
IsTooDeepAt _ n = ⊥

-- the answer after a step, if `at` bytes were taken in all
abbrev pub scan_answer : Step → ℕ → Scanned
scan_answer step.On at = More
scan_answer step.Ended at = Whole at
scan_answer step.Unused at = Unused (at - 1)
scan_answer step.TooDeep at = TooDeep (at - 1)

-- the byte that stops a scan was taken
abbrev pub HasTaken : Step → ℕ → Type 0
HasTaken step.Unused at = 0 < at
HasTaken step.TooDeep at = 0 < at
HasTaken s at = Unit {0}
