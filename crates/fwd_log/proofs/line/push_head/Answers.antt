use Rattle.std.proofs.Common.{append_assoc, refl}
use Rattle.fwd_log.specs.Line.{head_text}
use Rattle.fwd_log.proofs.line.push_head.Goals as goal

pub returns : goal.returns
unfolding head_text
returns c =
    rw (c.in_ok-extend_from_slice-4.ensures.ok, c.in_ok-push_printable.ensures, c.in_ok-extend_from_slice-3.ensures.ok, c.in_ok-extend_from_slice-2.ensures.ok, c.label.ensures, c.in_ok-extend_from_slice.ensures.ok)
    (simp append_assoc refl)
