use Rattle.std.proofs.Common.{[], ◌∷◌, sym, refl, arith}
use Rattle.std.proofs.lemmas.List.{append-nil}
use Rattle.fwd_frames.specs.Lines.{rest}
use Rattle.fwd_frames.proofs.StreamSplit.{lines-pushed}
use Rattle.fwd_frames.proofs.frames.Frames.finish.Goals as goal

pub returns-clause-as_ended : goal.returns-clause-as_ended
returns-clause-as_ended c = λ stream is.
    lines-pushed stream (10 ∷ []) 0 c.in_ok-last.last _ _ _
    (record { within = omega arith; none_before = refl; split = refl })
    c.new-lines.ensures (c.in_ok-last.ensures (rest stream) is) c.in_ok-push_unless_empty.ensures (sym (append-nil _))
