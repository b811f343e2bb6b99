use Rattle.std.proofs.Common.{[]}
use Rattle.fwd_in_forward.proofs.conn.new_scan.Goals as goal

pub returns-in-More : goal.returns-in-More
returns-in-More c = (c.in-More.ensures.fed [] c.in_ok-scan.ensures tt, c.requires)
