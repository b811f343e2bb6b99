-- The disk below, at the start.
use Rattle.std.specs.Prelude.{List, [], ◌∷◌, None}
use Rattle.fwd_outside.specs.Disk.{DiskLog}

-- the first log that was noted
abbrev pub first_of : List DiskLog → DiskLog
first_of [] = None
first_of (log ∷ later) = log
