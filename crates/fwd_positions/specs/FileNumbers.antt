-- The numbers by which the table knows a file.
use Rattle.std.specs.Prelude.{ℕ, ℤ, ◌^◌, pos, ◌==◌, ◌&&◌, nat_lt, if◌then◌else◌, Option, Some, None}
use Rattle.fwd_live_files.specs.declared.identity.Identity.{Identity}

-- its device and inode; 0 if it isn't known, or one of them is 2^63 or more
abbrev pub numbers_of : Option Identity → ℤ × ℤ
numbers_of None = (pos 0, pos 0)
numbers_of (Some file) =
    if nat_lt file.device (2 ^ 63) && nat_lt file.inode (2 ^ 63) then (pos file.device, pos file.inode)
    else (pos 0, pos 0)

-- the file of these numbers; none has the inode 0
abbrev pub identity_of : ℕ → ℕ → Option Identity
identity_of device inode =
    if inode == 0 then None else Some (record { device = device; inode = inode })
