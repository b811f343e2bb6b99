use Rattle.std.proofs.Common.{length}
use Rattle.fwd_parser.proofs.lent_fields.+put_fields.Given as goal

abbrev pub decreases-put_fields : goal.decreases-put_fields
decreases-put_fields l = length l.groups.now
