use Rattle.std.proofs.Common.{subst}
use Rattle.fwd_table.specs.DueIndex.{IsFirstThat}
use Rattle.fwd_table.proofs.DueIndex.{first_of_both}
use Rattle.fwd_table.proofs.due_index.earlier_of.Goals as goal

pub returns-in-Some : goal.returns-in-Some
returns-in-Some c p q first second = rw c.earlier.ensures (first_of_both p q c.args.first c.in-Some.second first (subst (IsFirstThat q) c.in-Some.is second))
