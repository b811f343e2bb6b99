use Rattle.std.proofs.Common.{ℕ, List, ◌+◌, Option, Some, ◌∙◌, ap, sym, arith}
use Rattle.fwd_script.proofs.ByteSplit.{parted_here, parted_nowhere, rest_from}
use Rattle.fwd_script.proofs.words.part.Goals as goal

pub returns-then-place-text-clause-before : goal.returns-then-place-text-clause-before
returns-then-place-text-clause-before c =
    sym (ap (λ (p : List ℕ × Option (List ℕ)). p.0) (parted_here c.args.byte c.args.text.now c.place_of-place.result c.place_of-place.ensures.place (omega arith)))

pub returns-then-place-text-clause-behind : goal.returns-then-place-text-clause-behind
returns-then-place-text-clause-behind c =
    ap (λ (b : List ℕ). Some b) (rest_from c.args.text.now (c.place_of-place.result + 1))
    ∙ sym (ap (λ (p : List ℕ × Option (List ℕ)). p.1) (parted_here c.args.byte c.args.text.now c.place_of-place.result c.place_of-place.ensures.place (omega arith)))

pub returns-else-place-text-clause-before : goal.returns-else-place-text-clause-before
returns-else-place-text-clause-before c =
    sym (ap (λ (p : List ℕ × Option (List ℕ)). p.0) (parted_nowhere c.args.byte c.args.text.now c.place_of-place.result c.place_of-place.ensures.place (omega arith)))

pub returns-else-place-text-clause-behind : goal.returns-else-place-text-clause-behind
returns-else-place-text-clause-behind c =
    sym (ap (λ (p : List ℕ × Option (List ℕ)). p.1) (parted_nowhere c.args.byte c.args.text.now c.place_of-place.result c.place_of-place.ensures.place (omega arith)))
