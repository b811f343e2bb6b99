-- How many turns are enough for the runs of a schedule.
use Rattle.std.specs.Prelude.{ℕ, ◌+◌, ◌*◌, ◌<◌, List, [], ◌∷◌, length}
use Rattle.fwd_settings.specs.declared.settings_types.AllSettings.{AllSettings}
use Rattle.fwd_script.specs.declared.schedule.Life.{Life}
use Rattle.fwd_script_loop.specs.Lines.{coming}
use Rattle.fwd_secure.specs.Keys.{has_keys}
use Rattle.fwd_secure.specs.Secure.{most_of}
use Rattle.fwd_secure_settings.specs.Keys.{keys_of}
use Rattle.fwd_top.specs.Cases.{Case, Replays, Generates, Runs, Records, Lists, Refuses}

-- For each run one for each of its events, and one more. With shared keys two for each event, which may bring
-- bytes that a later turn takes.
abbrev pub enough_turns : AllSettings → List Life → ℕ
enough_turns s [] = 0
enough_turns s (planned ∷ lives) =
    (most_of (has_keys (keys_of s)) * length (coming 0 planned.lines) + 1) + enough_turns s lives

-- a replay that used up its turns had fewer
abbrev pub HasFewTurns : Case → ℕ → Type 0
HasFewTurns (Replays s lives) turns = turns < enough_turns s lives
HasFewTurns (Generates s lives) turns = turns < enough_turns s lives
HasFewTurns (Runs s ticks) turns = Unit {0}
HasFewTurns (Records s ticks) turns = Unit {0}
HasFewTurns (Lists root) turns = Unit {0}
HasFewTurns (Refuses other) turns = Unit {0}
