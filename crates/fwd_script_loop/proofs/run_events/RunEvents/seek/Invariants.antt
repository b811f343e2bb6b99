use Rattle.std.proofs.Common.{◌≡◌, find, length, None}
use Rattle.fwd_script_loop.specs.PauseMask.{hears}
use Rattle.fwd_script_loop.specs.RunEvents.{ahead_of}
use Rattle.fwd_script_loop.specs.LinesLeft.{unread}
use Rattle.fwd_script_loop.proofs.run_events.RunEvents.seek.Given as goal

abbrev pub invariant-lines : goal.invariant-lines
invariant-lines l = record { same_lines : l.self.unread.lines ≡ l.initial.self.unread.lines; same : ahead_of l.self ≡ ahead_of l.initial.self; none : find (hears l.paused) l.self.queue ≡ None }

abbrev pub decreases-lines : goal.decreases-lines
decreases-lines l = length (unread l.self.unread)
