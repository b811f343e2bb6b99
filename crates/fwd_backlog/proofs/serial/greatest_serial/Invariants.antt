use Rattle.std.proofs.Common.{◌≡◌, ◌<◌, take}
use Rattle.fwd_base.specs.Limits.{numbers_end}
use Rattle.fwd_backlog.specs.Serial.{greatest_serial}
use Rattle.fwd_backlog.proofs.serial.greatest_serial.Given as goal

abbrev pub invariant-loop-file : goal.invariant-loop-file
invariant-loop-file l = (l.greatest ≡ greatest_serial (take l.file-index l.found)) × (l.greatest < numbers_end)
