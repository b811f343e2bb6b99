-- The text of a replay is determined by its schedule.
use Rattle.std.specs.Prelude.{◌≡◌, ◌≢◌, ℕ}
use Rattle.fwd_replay.specs.Runs.{IsReplayed, first}
use Rattle.fwd_replay.specs.declared.report.Ending.TheVariants as ending
use Rattle.fwd_replay.specs.declared.report.Reported.{Reported}
use Rattle.fwd_replay.specs.declared.report.Shown.TheVariants.{All, Report}
use Rattle.fwd_top.specs.Cases.{Case, Replays, Generates, Runs, Records, Lists, Refuses}

-- Another replay of the same case has the same text and ending, unless memory ran out in one of them.
abbrev pub IsDetermined : ℕ → Case → Reported → Type 0
IsDetermined turns (Replays s lives) reported =
    (other : Reported) → IsReplayed All s turns first lives other → reported.ending ≢ ending.Memory
    → other.ending ≢ ending.Memory → other ≡ reported
IsDetermined turns (Generates s lives) reported =
    (other : Reported) → IsReplayed Report s turns first lives other → reported.ending ≢ ending.Memory
    → other.ending ≢ ending.Memory → other ≡ reported
IsDetermined turns (Runs s ticks) reported = Unit {0}
IsDetermined turns (Records s ticks) reported = Unit {0}
IsDetermined turns (Lists root) reported = Unit {0}
IsDetermined turns (Refuses other) reported = Unit {0}
