use Rattle.std.proofs.Common.{◌≡◌, ◌<◌, List, ℕ, length, get_or, sym, ap, subst, ◌∙◌, arith}
use Rattle.fwd_settings_values.specs.Types.{field_type_of}
use Rattle.fwd_settings_values.proofs.FieldTypes.{good_word}
use Rattle.fwd_settings_values.proofs.types.types_of_words.Goals as goal

pub loop-word-preserved : goal.loop-word-preserved
loop-word-preserved c =
    let items = c.as_slice-word-items.ensures in
    let word : c.as_slice-word.result.now ≡ c.word-item.result = c.as_slice-word.ensures in
    let some : 0 < length c.as_slice-word.result.now = grind arith in
    good_word c.args.words.now c.loop-word.word-index c.word-item.result
    (subst (λ (l : List (List ℕ)). c.loop-word.word-index < length l) items c.loop-word-test.true)
    (subst (λ (l : List (List ℕ)). c.word-item.result ≡ get_or l c.loop-word.word-index c.word-item.result) items c.word-item.is)
    c.loop-word.types c.in-Some.field c.push.new.self
    (subst (λ (l : List ℕ). 0 < length l) word some)
    (ap field_type_of (sym word) ∙ sym c.in_ok-field.ensures ∙ c.in-Some.is)
    c.in_ok-push-in-Some.ensures.ok
    ∙ c.loop-word.invariant
