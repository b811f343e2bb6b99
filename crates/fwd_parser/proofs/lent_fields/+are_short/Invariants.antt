use Rattle.std.proofs.Common.{length}
use Rattle.fwd_parser.proofs.lent_fields.+are_short.Given as goal

abbrev pub decreases-are_short : goal.decreases-are_short
decreases-are_short l = length l.groups.now
