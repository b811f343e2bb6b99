use Rattle.std.proofs.Common.{◌≡◌, ◌-◌, length}
use Rattle.fwd_script_loop.specs.LinesLeft.{unread}
use Rattle.fwd_script_loop.proofs.lines_left.LinesLeft.settle.Given as goal

abbrev pub invariant-lines : goal.invariant-lines
invariant-lines l = record { same_lines : l.self.lines ≡ l.initial.self.lines; same : unread l.self ≡ unread l.initial.self }

abbrev pub decreases-lines : goal.decreases-lines
decreases-lines l = length l.self.lines - l.self.at
