-- Readings of settings. The definitions leave one thing open, whether a text is a pattern: a reading asks
-- for it, and goes on with the pattern or without one.
use Rattle.std.specs.Prelude.{◌≡◌, ◌⊎◌, ℕ, List, [], ◌∷◌, Option, Some, None, Result, Ok, Err}
use Rattle.fwd_base.specs.Pattern.{translated, IsReadFrom, IsNoPattern}
use Rattle.fwd_base.specs.declared.pattern.Pattern.{Pattern}
use Rattle.fwd_outside.specs.Program.{Program, Return, Ask, bind}
use Rattle.fwd_settings_schema.specs.declared.error_kind.SettingKind.{SettingKind}
use Rattle.fwd_settings_schema.specs.declared.error_kind.SettingKind.TheVariants.{PatternRefused}
use Rattle.fwd_config.specs.declared.section.Place.{Place}
use Rattle.fwd_settings_schema.specs.declared.fault.SettingFault.{SettingFault}
use Rattle.fwd_settings_entries.specs.declared.read_err.ReadErr.{ReadErr}
use Rattle.fwd_settings_entries.specs.declared.read_err.ReadErr.TheVariants as read_err

abbrev pub Checked : Type 0 → Type 0
Checked X = Result X SettingFault

-- a reading may ask of texts whether they are patterns; it ends with what was read, or with the first error
abbrev pub Reading : Type 0 → Type 0
Reading X = Program (List ℕ) (λ _. Option Pattern) (Checked X)

abbrev pub fault : SettingKind → Place → SettingFault
fault kind place = record { kind = kind; place = place }

-- what is known without asking
abbrev pub known : {X : Type 0} → Checked X → Reading X
known checked = Return checked

abbrev pub go_on : {X Y : Type 0} → (X → Reading Y) → Checked X → Reading Y
go_on next (Ok x) = next x
go_on next (Err refusal) = Return (Err refusal)

-- one reading, and then the one that its result gives
infixl 10 ◌>>=◌
abbrev pub ◌>>=◌ : {X Y : Type 0} → Reading X → (X → Reading Y) → Reading Y
first >>= next = bind first (go_on next)

-- a value, or its error at a place
abbrev pub at : {X : Type 0} → Place → Result X SettingKind → Checked X
at place (Ok x) = Ok x
at place (Err kind) = Err (fault kind place)

abbrev pub built : Place → Option Pattern → Reading Pattern
built place None = Return (Err (fault PatternRefused place))
built place (Some pattern) = Return (Ok pattern)

-- the pattern of a text
abbrev pub pattern : List ℕ → Place → Reading Pattern
pattern text place = Ask text (built place)

-- each item read in order
abbrev pub each : {E X : Type 0} → (E → Reading X) → List E → Reading (List X)
each read [] = Return (Ok [])
each read (e ∷ more) = do
  x ← read e
  xs ← each read more
  known (Ok (x ∷ xs))

-- What a reading comes to. For each text that it asks for, either a pattern is built, which is the one that
-- the grammar reads from the rewritten text; or the text is refused, and then it isn't a pattern.
abbrev pub IsResult : {X : Type 0} → Reading X → Checked X → Type 0
IsResult (Return checked) result = result ≡ checked
IsResult (Ask text go) result =
    ((p : Pattern) × IsReadFrom (translated text) p × IsResult (go (Some p)) result)
    ⊎ (IsNoPattern text × IsResult (go None) result)

-- the result of a call, which may be out of memory
abbrev pub ReturnsResult : {X : Type 0} → Reading X → Result X ReadErr → Type 0
ReturnsResult reading (Ok x) = IsResult reading (Ok x)
ReturnsResult reading (Err read_err.Memory) = Unit {0}
ReturnsResult reading (Err (read_err.Refused refusal)) = IsResult reading (Err refusal)
