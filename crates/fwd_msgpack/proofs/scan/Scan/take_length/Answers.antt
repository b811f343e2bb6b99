use Rattle.std.proofs.Common.{refl}
use Rattle.fwd_msgpack.specs.ScanState.{complete_length}
use Rattle.fwd_msgpack.proofs.scan.Scan.take_length.Goals as goal
use Rattle.fwd_msgpack.proofs.scan.Scan.take_length.Goals.{in-Four, in-Three, in-Two}

pub returns-in-One-clause-same : goal.returns-in-One-clause-same
unfolding complete_length
returns-in-One-clause-same c = λ b. rw c.in-One.is (c.begin_content.ensures.same b)

pub returns-clause-same : goal.returns-clause-same
unfolding complete_length
returns-clause-same c = λ b. elim c.match-left.branch [
  | in-Four w ↦ rw (w.self-is, w.in-Four.is) refl
  | in-Three w ↦ rw (w.self-is, w.in-Three.is) refl
  | in-Two w ↦ rw (w.self-is, w.in-Two.is) refl
]
