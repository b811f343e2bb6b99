use Rattle.std.proofs.Common.{◌≡◌, ◌++◌, take}
use Rattle.std.specs.List.{flat_map}
use Rattle.fwd_report.specs.Listing.{done_text}
use Rattle.fwd_report.proofs.listing_line.push_done.Given as goal

abbrev pub invariant-loop-name : goal.invariant-loop-name
invariant-loop-name l = l.text ≡ l.fn.text ++ flat_map done_text (take l.name-index l.name-items)
