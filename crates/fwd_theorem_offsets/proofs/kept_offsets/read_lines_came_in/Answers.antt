use Rattle.fwd_theorem_offsets.proofs.LineOrigins.{lines_came}
use Rattle.fwd_theorem_offsets.proofs.kept_offsets.read_lines_came_in.Goals as goal

pub returns : goal.returns
returns c s h input index line has = lines_came s input index line h has
