-- How the logic encodes a disk that another wraps.
use Rattle.std.specs.Prelude.{ℕ, []}
use Rattle.std.specs.Coded.{Coded, coded×, coded_ℕ, coded_list, coded_option}
use Rattle.fwd_outside.specs.Disk.{DiskGiven, DiskLog}
use Rattle.fwd_outside.specs.DiskCode.{disk_code, stood_code}

abbrev pub disk_log_code : Coded DiskLog
disk_log_code = coded_option (coded× stood_code (coded_list disk_code))

-- which disk a counted disk wraps: the name of the reference to it, the number of the first call, and the log
-- of that disk at the start
abbrev pub standing_code : Coded (ℕ × (ℕ × DiskLog))
standing_code = coded× coded_ℕ (coded× coded_ℕ disk_log_code)

-- the first part of the call log of a counted disk
abbrev pub given_to : ℕ → ℕ → DiskLog → DiskGiven
given_to name first start = record { files = []; round = standing_code.code (name, (first, start)) }
