-- Blanks: spaces and tabs.
use Rattle.std.specs.Prelude.{ℕ, ◌==◌, ◌||◌, Bool, if◌then◌else◌, List, [], ◌∷◌}

abbrev pub is_blank : ℕ → Bool
is_blank byte = byte == 32 || byte == 9

-- a text without its leading blanks
abbrev pub skip_blanks : List ℕ → List ℕ
skip_blanks [] = []
skip_blanks (byte ∷ bytes) = if is_blank byte then skip_blanks bytes else byte ∷ bytes
