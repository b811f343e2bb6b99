use Rattle.std.proofs.Common.{rules, tests}
use Rattle.std.proofs.lemmas.Iterator.{YieldsList-from_slice}
use Rattle.std.proofs.lemmas.Iterator.Search.{position_from_yields_List}
use Rattle.fwd_base.specs.Blanks.{is_blank}
use Rattle.fwd_base.proofs.Indices.{index_from_position}
use Rattle.fwd_base.proofs.text.index_of_blank.Goals as goal

pub returns-clause-place : goal.returns-clause-place
returns-clause-place c =
    let at = position_from_yields_List is_blank _ _ c.position.result c.position.ensures.ran (YieldsList-from_slice c.args.text.now cc) (λ x b q k. search (rules, tests)) in
    rw c.unwrap_or.ensures (index_from_position is_blank c.args.text.now c.position.result at)
