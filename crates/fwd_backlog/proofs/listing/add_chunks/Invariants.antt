use Rattle.std.proofs.Common.{◌≡◌, ◌++◌, take}
use Rattle.fwd_backlog.specs.Listing.{chunks_in}
use Rattle.fwd_backlog.proofs.listing.add_chunks.Given as goal

abbrev pub invariant-loop-name : goal.invariant-loop-name
invariant-loop-name l = l.files ≡ l.initial.files ++ chunks_in l.stream (take l.name-index l.name-items)
