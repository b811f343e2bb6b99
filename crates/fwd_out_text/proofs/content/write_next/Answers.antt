use Rattle.std.proofs.Common.{List, ℕ, subst}
use Rattle.fwd_out_text.specs.FirstEvent.{StartsWithEvent, StartsWithNoEvent}
use Rattle.fwd_out_text.proofs.Members.{if_ok}
use Rattle.fwd_out_text.proofs.content.write_next.Goals as goal

pub returns-in-Some-clause-given : goal.returns-in-Some-clause-given
returns-in-Some-clause-given c =
    let found = rw c.in-Some.is at c.in_ok-length.ensures.given in
    (found.0, subst (λ (b : List ℕ). StartsWithEvent found.0 c.in-Some.length b) c.split_at.ensures.back found.1, found.2)

pub returns-in-None-clause-none : goal.returns-in-None-clause-none
returns-in-None-clause-none c = if_ok c.write_read.result _ _ (λ found none e. subst StartsWithNoEvent c.split_at.ensures.back (none e)) c.write_read.ensures.none
