use Rattle.std.proofs.Common.{◌≡◌, ◌∙◌, sym, ap, arith, Bool, true, false, ◌&&◌, get_or}
use Rattle.std.proofs.lemmas.List.Folds.{list_all_more, list_all_at}
use Rattle.fwd_base.specs.Pattern.{search_expression}
use Rattle.fwd_grep.specs.Grep.{passes, searched_pattern}
use Rattle.fwd_grep.proofs.Images.{same_at, set_same}
use Rattle.fwd_grep.proofs.searches.all_pass.Goals as goal

pub passes-requires : goal.passes-requires
passes-requires c =
    same_at search_expression searched_pattern c.loop-i.searches.items c.args.rules.now c.loop-i.i c.index_mut.result.now c.index-rules-i.result c.loop-i.invariant.same c.loop-i-test.true c.index_mut.ensures.value c.index-rules-i.is

pub returns-then-not-passes-clause-kept : goal.returns-then-not-passes-clause-kept
returns-then-not-passes-clause-kept c =
    let test = passes c.args.body.now in
    let missed : c.passes.result ≡ false = grind (arith, c.if-not-passes.true) in
    let here : test (get_or c.args.rules.now c.loop-i.i c.index-rules-i.result) ≡ false = ap test (sym c.index-rules-i.is) ∙ sym c.passes.ensures.passes ∙ missed in
    sym (list_all_at test c.args.rules.now c.loop-i.i c.index-rules-i.result c.loop-i-test.true here)

pub returns-then-not-passes-clause-same : goal.returns-then-not-passes-clause-same
returns-then-not-passes-clause-same c =
    set_same search_expression searched_pattern c.loop-i.searches.items c.args.rules.now c.loop-i.i c.index_mut.result.now c.passes.new.search c.loop-i.invariant.same c.loop-i-test.true c.index_mut.ensures.value c.passes.ensures.same
    ∙ sym c.requires

pub loop-i-preserved : goal.loop-i-preserved
loop-i-preserved c =
    let test = passes c.args.body.now in
    let rule = c.index-rules-i.result in
    let passed : c.passes.result ≡ true = grind (arith, c.if-not-passes.false) in
    let here : test (get_or c.args.rules.now c.loop-i.i rule) ≡ true = ap test (sym c.index-rules-i.is) ∙ sym c.passes.ensures.passes ∙ passed in
    record {
      kept = list_all_more test c.args.rules.now c.loop-i.i rule c.loop-i-test.true ∙ ap (λ b. b && test (get_or c.args.rules.now c.loop-i.i rule)) c.loop-i.invariant.kept ∙ here;
      same = set_same search_expression searched_pattern c.loop-i.searches.items c.args.rules.now c.loop-i.i c.index_mut.result.now c.passes.new.search c.loop-i.invariant.same c.loop-i-test.true c.index_mut.ensures.value c.passes.ensures.same;
    }
