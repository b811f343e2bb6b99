use Rattle.std.proofs.Common.{Some, [], refl, ap}
use Rattle.fwd_in_tail.proofs.tail.Tail.restart_read.Goals as goal

pub returns-clause-lines : goal.returns-clause-lines
returns-clause-lines c =
    let fresh = c.new-frames.ensures in (
      c.in_ok-lines.ensures.behind [] fresh,
      record {
        path = ap (λ v. v.path) c.self.view_is;
        from_head = ap (λ v. v.from_head) c.self.view_is;
        follows = record { place = ap Some c.saturating_add.ensures; kept = c.in_ok-lines.ensures.kept [] fresh; left = c.rest_after-self-inside.ensures [] refl };
      },
    )
