use Rattle.fwd_parser.specs.LineEvent.{parsed}
use Rattle.fwd_theorem_depth.proofs.Shallow.{passes}
use Rattle.fwd_theorem_depth.proofs.LineDepth.{parsed_shallow}
use Rattle.fwd_theorem_depth.proofs.theorems.parsed_events_are_shallow.Goals as goal

pub returns : goal.returns
returns c parser line clock = passes (parsed parser line clock) (parsed_shallow parser line clock)
