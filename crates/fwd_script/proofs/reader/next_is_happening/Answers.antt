use Rattle.std.proofs.Common.{◌≡◌, ◌+◌, ◌≤◌, ℕ, List, length, Option, sym, ◌∙◌, ap, arith, Bor}
use Rattle.std.specs.Option.{option_copied}
use Rattle.fwd_script.specs.Keywords.{keyword_of}
use Rattle.fwd_script.specs.Schedule.{next_is_happening, lines_left, one_happening}
use Rattle.fwd_script.proofs.LineSteps.{looks_here, looks_on, shorter, size}
use Rattle.fwd_script.proofs.reader.next_is_happening.Goals as goal

pub returns-then-not-is_passed_over : goal.returns-then-not-is_passed_over
returns-then-not-is_passed_over c =
    let so_far = c.lines.invariant ∙ ap (λ (o : Option (Bor (List ℕ))). next_is_happening (lines_left (option_copied o))) c.in-Some.is in
    let here = looks_here c.in-Some.text.now c.part.result.0.now (option_copied c.part.result.1) c.part.ensures.before c.part.ensures.behind (next_is_happening (lines_left (option_copied c.args.behind))) so_far (sym c.is_passed_over.ensures ∙ c.if-not-is_passed_over.true) in
    c.is_happening_word.ensures ∙ ap (λ (w : List ℕ). one_happening (keyword_of w)) c.part-then-not-is_passed_over.ensures.before ∙ sym here

pub lines-smaller : goal.lines-smaller
lines-smaller c =
    let s : size (option_copied c.part.result.1) ≤ length c.in-Some.text.now = shorter c.in-Some.text.now c.part.result.0.now (option_copied c.part.result.1) c.part.ensures.before c.part.ensures.behind in
    let r : size (option_copied c.lines.rest) ≡ length c.in-Some.text.now + 1 = ap (λ (o : Option (Bor (List ℕ))). size (option_copied o)) c.in-Some.is in
    omega (arith, s, r)

pub lines-preserved : goal.lines-preserved
lines-preserved c =
    let so_far = c.lines.invariant ∙ ap (λ (o : Option (Bor (List ℕ))). next_is_happening (lines_left (option_copied o))) c.in-Some.is in
    looks_on c.in-Some.text.now c.part.result.0.now (option_copied c.part.result.1) c.part.ensures.before c.part.ensures.behind (next_is_happening (lines_left (option_copied c.args.behind))) so_far (sym c.is_passed_over.ensures ∙ c.if-not-is_passed_over.false)
