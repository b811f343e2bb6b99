use Rattle.std.proofs.Common.{subst}
use Rattle.fwd_outside.specs.DiskStates.{IsReachable}
use Rattle.fwd_disk_mem.specs.DiskState.{Seen}
use Rattle.fwd_disk_mem.specs.Entry.{given, entries_of, files_of}
use Rattle.fwd_disk_mem.proofs.Honesty.{may_hold}
use Rattle.fwd_disk_mem.proofs.disk.MemDisk.is_honest.Goals as goal

pub returns : goal.returns
returns c =
    let calls = c.self.inside.calls.items in
    (files_of calls, subst (λ (v : Seen). IsReachable given (entries_of v.calls) (files_of calls)) c.self.view_is (may_hold calls c.self.invariant.played))
