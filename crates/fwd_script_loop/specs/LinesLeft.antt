-- The lines of a run that weren't reached.
use Rattle.std.specs.Prelude.{◌≡◌, true, List, ◌++◌, drop, slice_get, Option, Some, None}
use Rattle.fwd_script.specs.declared.schedule.Planned.{Planned}
use Rattle.fwd_script.specs.declared.schedule.Planned.TheVariants.{Happens, Ticks, Changes}
use Rattle.fwd_script_loop.specs.declared.queue.Coming.{Coming}
use Rattle.fwd_script_loop.specs.declared.lines_left.TicksLeft.{TicksLeft}
use Rattle.fwd_script_loop.specs.declared.lines_left.LinesLeft.{LinesLeft}
use Rattle.fwd_script_loop.specs.PauseMask.{comes}
use Rattle.fwd_script_loop.specs.Lines.{coming, ticks}

abbrev pub ticks_left : TicksLeft → List Coming
ticks_left left = ticks left.line left.reading left.step left.count

abbrev pub unread : LinesLeft → List Coming
unread u = ticks_left u.ticks ++ coming u.at (drop u.at u.lines)

-- a line with an event, or no line
abbrev pub Brings : Option Planned → Type 0
Brings (Some (Happens happening)) = comes happening ≡ true
Brings (Some (Ticks first step count)) = ⊥
Brings (Some (Changes change)) = ⊥
Brings None = Unit {0}

-- the place reached is that of an event, or the end
abbrev pub IsReady : LinesLeft → Type 0
IsReady u = u.ticks.count ≡ 0 → Brings (slice_get u.lines u.at)
