use Rattle.std.proofs.Common.{◌≡◌, take}
use Rattle.std.specs.Prelude.{fold}
use Rattle.fwd_reshape.specs.Rules.{apply_change}
use Rattle.fwd_reshape.proofs.changes.apply_all.Given as goal

abbrev pub invariant-loop-change : goal.invariant-loop-change
invariant-loop-change l = l.body ≡ fold apply_change l.initial.body (take l.change-index l.change-items)
