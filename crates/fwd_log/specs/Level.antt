-- Levels of log lines.
use Rattle.std.specs.Prelude.{ℕ, List, Bool, false, Option, None, Some, nat_le, codes}
use Rattle.fwd_log.specs.declared.level.Level.{Level}
use Rattle.fwd_log.specs.declared.level.Level.TheVariants as level

-- the word of a line
abbrev pub label_of : Level → List ℕ
label_of level.Error = codes "error"
label_of level.Warn = codes " warn"
label_of level.Info = codes " info"
label_of level.Debug = codes "debug"

-- the most important first
abbrev pub rank : Level → ℕ
rank level.Error = 1
rank level.Warn = 2
rank level.Info = 3
rank level.Debug = 4

-- whether a log of a level writes a line; one that is off writes none
abbrev pub is_written : Level → Option Level → Bool
is_written line None = false
is_written line (Some most) = nat_le (rank line) (rank most)
