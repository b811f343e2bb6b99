use Rattle.std.proofs.Common.{◌≡◌, ◌∙◌, sym, leb, ◌&&◌, true, false, None, Some}
use Rattle.std.specs.Prelude.{position}
use Rattle.std.proofs.lemmas.Result.{IfOk-weaker}
use Rattle.fwd_value.specs.Keys.{has_key}
use Rattle.fwd_reshape.proofs.Depths.{deep}
use Rattle.fwd_reshape.proofs.Places.{insert-gone}
use Rattle.fwd_reshape.proofs.LiftLemmas.{lifted-none, lifted-fits, lifted-deep, lifted-other}
use Rattle.fwd_reshape.proofs.moves.lift.Goals as goal

pub returns-in_default : goal.returns-in_default
returns-in_default c =
    let nowhere : position (has_key c.args.rule.now.under) c.args.body ≡ None = cc in
    sym (lifted-none c.args.rule.now c.args.body nowhere)

pub returns-then-nest_within : goal.returns-then-nest_within
returns-then-nest_within c =
    let here : position (has_key c.args.rule.now.under) c.args.body ≡ Some c.in-Some.at = cc in
    let there = rw c.in-Map.is at c.remove-key.ensures.taken in
    let fit : (leb (deep c.remove-key.new.self) 62 && leb (deep c.in-Map.pairs) 62) ≡ true = sym c.nest_within.ensures ∙ c.if-nest_within.true in
    let same = lifted-fits c.args.rule.now c.args.body c.in-Some.at _ c.in-Map.pairs c.remove-key.new.self here there c.remove-key.ensures.left fit in
    IfOk-weaker c.push_all_moved.result _ _ (λ new e. e ∙ sym same) c.push_all_moved.ensures

pub returns-in_ok-insert-in-Map : goal.returns-in_ok-insert-in-Map
returns-in_ok-insert-in-Map c =
    let here : position (has_key c.args.rule.now.under) c.args.body ≡ Some c.in-Some.at = cc in
    let there = rw c.in-Map.is at c.remove-key.ensures.taken in
    let fit : (leb (deep c.remove-key.new.self) 62 && leb (deep c.in-Map.pairs) 62) ≡ false = sym c.nest_within.ensures ∙ c.if-nest_within.false in
    let same = lifted-deep c.args.rule.now c.args.body c.in-Some.at _ c.in-Map.pairs c.remove-key.new.self here there c.remove-key.ensures.left fit in
    c.in_ok-insert-in-Map.ensures.ok
    ∙ insert-gone c.remove-key.new.self c.args.body c.in-Some.at _ c.remove-key.ensures.left there
    ∙ sym same

pub returns-in_ok-insert-in_default-value : goal.returns-in_ok-insert-in_default-value
returns-in_ok-insert-in_default-value c =
    let here : position (has_key c.args.rule.now.under) c.args.body ≡ Some c.in-Some.at = cc in
    let same = lifted-other c.args.rule.now c.args.body c.in-Some.at _ c.remove-key.result.1 here c.remove-key.ensures.taken c.in_default-value.not-Map in
    c.in_ok-insert-in_default-value.ensures.ok
    ∙ insert-gone c.remove-key.new.self c.args.body c.in-Some.at _ c.remove-key.ensures.left c.remove-key.ensures.taken
    ∙ sym same
