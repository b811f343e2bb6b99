use Rattle.std.proofs.Common.{◌≡◌, ◌<◌, List, ℕ, length, get_or, sym, ap, subst, ◌∙◌, arith}
use Rattle.fwd_settings_values.specs.Statuses.{status_range_of}
use Rattle.fwd_settings_values.proofs.StatusRanges.{good_status}
use Rattle.fwd_settings_values.proofs.statuses.ranges_of_words.Goals as goal

pub loop-word-preserved : goal.loop-word-preserved
loop-word-preserved c =
    let items = c.as_slice-word-items.ensures in
    let word : c.as_slice-word.result.now ≡ c.word-item.result = c.as_slice-word.ensures in
    let some : 0 < length c.as_slice-word.result.now = grind arith in
    good_status c.args.words.now c.loop-word.word-index c.word-item.result
    (subst (λ (l : List (List ℕ)). c.loop-word.word-index < length l) items c.loop-word-test.true)
    (subst (λ (l : List (List ℕ)). c.word-item.result ≡ get_or l c.loop-word.word-index c.word-item.result) items c.word-item.is)
    c.loop-word.ranges c.in-Some.range c.push.new.self
    (subst (λ (l : List ℕ). 0 < length l) word some)
    (ap status_range_of (sym word) ∙ sym c.in-Some.ensures)
    c.in_ok-push-in-Some.ensures.ok
    ∙ c.loop-word.invariant
