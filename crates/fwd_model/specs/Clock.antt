-- The clock, the time of Stop and the time of the next close.
use Rattle.std.specs.Prelude.{ℕ, max, min, nat_le, Bool, true, false, if◌then◌else◌, [], ◌∷◌, Option, Some, None}
use Rattle.fwd_base.specs.Limits.{latest_time}
use Rattle.fwd_outside.specs.declared.happening.Happening.TheVariants as happening
use Rattle.fwd_settings.specs.declared.settings_types.AllSettings.{AllSettings}
use Rattle.fwd_model.specs.Fact.{History, Happened}
use Rattle.fwd_model.specs.Settings.{saturating_plus, reads_stdin_at}

-- the clock after a tick; it never goes back
abbrev pub clock_after : ℕ → ℕ → ℕ
clock_after clock now = max clock (min now latest_time)

-- the clock in milliseconds: the greatest tick so far, 0 before the first
abbrev pub clock : History → ℕ
clock [] = 0
clock (Happened (happening.Tick now) ∷ h) = clock_after (clock h) now
clock (_ ∷ h) = clock h

-- the number of ticks so far
abbrev pub tick_count : History → ℕ
tick_count [] = 0
tick_count (Happened (happening.Tick now) ∷ h) = saturating_plus (tick_count h) 1
tick_count (_ ∷ h) = tick_count h

-- only the first stop counts
abbrev pub stopped_by : Bool → ℕ → Option ℕ → Option ℕ
stopped_by true now None = Some now
stopped_by true now (Some at) = Some at
stopped_by false now before = before

-- the clock at Stop, if the run was stopped; the end of the standard input stops it too
abbrev pub stopped : AllSettings → History → Option ℕ
stopped s [] = None
stopped s (Happened happening.Stop ∷ h) = stopped_by true (clock h) (stopped s h)
stopped s (Happened (happening.InputEnd input) ∷ h) =
    stopped_by (reads_stdin_at s input.0) (clock h) (stopped s h)
stopped s (_ ∷ h) = stopped s h

-- the time of the next close after a tick: if the tick closes, a flush interval later
abbrev pub close_after : ℕ → ℕ → ℕ → ℕ
close_after closing now flush_ms = if nat_le closing now then saturating_plus now flush_ms else closing

-- The time from which a tick closes the open chunks. It is 0 at first, then a flush interval after the last
-- close.
abbrev pub next_close : AllSettings → History → ℕ
next_close s [] = 0
next_close s (Happened (happening.Tick now) ∷ h) =
    close_after (next_close s h) (clock_after (clock h) now) s.service.flush_ms
next_close s (_ ∷ h) = next_close s h

-- whether a tick at this time closes the open chunks
abbrev pub is_close_due : AllSettings → History → ℕ → Bool
is_close_due s h now = nat_le (next_close s h) (clock_after (clock h) now)
