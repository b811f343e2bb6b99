use Rattle.std.proofs.Common.{[], ◌∷◌}
use Rattle.std.proofs.lemmas.List.Sums.{fold-append}
use Rattle.fwd_in_tail.specs.Followed.{after}
use Rattle.fwd_in_tail.proofs.theorems.polls_follow_one_another.Goals as goal

pub returns : goal.returns
returns c = λ from_head resumed polls more. fold-append (after from_head) _ polls (more ∷ [])
