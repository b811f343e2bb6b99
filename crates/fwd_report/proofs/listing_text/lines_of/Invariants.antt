use Rattle.std.proofs.Common.{◌≡◌, map, take}
use Rattle.fwd_report.specs.Listing.{line_of}
use Rattle.fwd_report.proofs.listing_text.lines_of.Given as goal

abbrev pub invariant-loop-file : goal.invariant-loop-file
invariant-loop-file l = l.lines.items ≡ map line_of (take l.file-index l.found)
