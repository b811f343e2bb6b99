use Rattle.std.proofs.Common.{take}
use Rattle.fwd_engine_inputs.proofs.UnreadFiles.{AreUnread}
use Rattle.fwd_engine_inputs.proofs.input_files.unread.Given as goal

-- the files of the paths so far
abbrev pub invariant-loop-path : goal.invariant-loop-path
invariant-loop-path l = AreUnread l.from_head (take l.path-index l.path-items) l.sources.items
