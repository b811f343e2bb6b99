-- A tag that doesn't begin with the byte of the glob doesn't match.
use Rattle.std.proofs.Common.{length, ap, arith}
use Rattle.fwd_route.proofs.next_step.Goals as goal
use Rattle.fwd_route.proofs.next_step.Goals.{in_default-split_first-via-in-Some-split_first+else-byte-wanted, in_default-split_first-via-in_default-split_first}
use Rattle.fwd_route.proofs.ByteMatching.{other_byte}

pub returns-in_default-split_first : goal.returns-in_default-split_first
returns-in_default-split_first c = elim c.in_default-split_first.branch [
  | in_default-split_first-via-in-Some-split_first+else-byte-wanted w ↦
      other_byte c.args.pattern.now c.args.tag.now c.in-Some.wanted.now c.in-Some.behind.now (c.in-Some.ensures.cases.0) c.if-wanted-eq42.false
      (λ end is. let first = w.in-Some-split_first.ensures.cases.0 in w.if-byte-wanted.false (cc (first, is)))
  | in_default-split_first-via-in_default-split_first w ↦
      other_byte c.args.pattern.now c.args.tag.now c.in-Some.wanted.now c.in-Some.behind.now (c.in-Some.ensures.cases.0) c.if-wanted-eq42.false
      (λ end is. let none = w.in_default-split_first.ensures.cases in absurd (omega (arith, none, ap length is)))
]
