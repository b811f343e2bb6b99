use Rattle.std.proofs.Common.{◌≡◌, ◌≢◌, Ok, Err, IfOk, IfErr, sym, ap, subst, ◌∙◌}
use Rattle.serde_json.specs.Read.{read}
use Rattle.fwd_json.specs.declared.reading.JsonErr.TheVariants.{Memory}
use Rattle.fwd_json.specs.LinePairs.{pairs_read}
use Rattle.fwd_json.proofs.ObjectPairs.{pairs_in-text, pairs_in-refused}
use Rattle.fwd_json.proofs.reading.pairs_with.Goals as goal

pub returns-in-Ok-clause-pairs : goal.returns-in-Ok-clause-pairs
returns-in-Ok-clause-pairs c =
    let same = pairs_in-text c.args.floats c.args.line.now c.in-Ok.ensures.1 ∙ ap (λ s. pairs_read c.args.floats (read s)) (sym c.in-Ok.ensures.0) in
    subst (λ r. IfOk c.text_pairs.result (λ pairs. r ≡ Ok pairs)) (sym same) c.text_pairs.ensures.pairs

pub returns-in-Ok-clause-refused : goal.returns-in-Ok-clause-refused
returns-in-Ok-clause-refused c =
    let same = pairs_in-text c.args.floats c.args.line.now c.in-Ok.ensures.1 ∙ ap (λ s. pairs_read c.args.floats (read s)) (sym c.in-Ok.ensures.0) in
    subst (λ r. IfErr c.text_pairs.result (λ e. e ≢ Memory → r ≡ Err e)) (sym same) c.text_pairs.ensures.refused

pub returns-in-Err-clause-refused : goal.returns-in-Err-clause-refused
returns-in-Err-clause-refused c = λ not_memory. pairs_in-refused c.args.floats c.args.line.now (λ is_text. absurd (c.in-Err.ensures is_text))
