use Rattle.std.proofs.Common.{rules, tests}
use Rattle.std.proofs.lemmas.Iterator.{YieldsList-from_slice}
use Rattle.std.proofs.lemmas.Iterator.Search.{position_from_yields_List}
use Rattle.std.specs.Prelude.{◌==◌}
use Rattle.fwd_base.proofs.Indices.{index_from_position}
use Rattle.fwd_base.proofs.text.index_of.Goals as goal

pub returns-clause-place : goal.returns-clause-place
returns-clause-place c =
    let at = position_from_yields_List (λ byte. byte == c.args.wanted) _ _ c.position.result c.position.ensures.ran (YieldsList-from_slice c.args.text.now cc) (λ x b q k. search (rules, tests)) in
    rw c.unwrap_or.ensures (index_from_position (λ byte. byte == c.args.wanted) c.args.text.now c.position.result at)
