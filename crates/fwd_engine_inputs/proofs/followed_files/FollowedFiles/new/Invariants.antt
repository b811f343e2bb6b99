use Rattle.std.proofs.Common.{take}
use Rattle.fwd_engine_inputs.proofs.UnreadFiles.{AreNew}
use Rattle.fwd_engine_inputs.proofs.followed_files.FollowedFiles.new.Given as goal

-- the files of the inputs so far
abbrev pub invariant-loop-input : goal.invariant-loop-input
invariant-loop-input l = AreNew (take l.input-index l.inputs) l.all.items
