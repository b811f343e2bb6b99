use Rattle.std.proofs.Common.{◌+◌, ◌-◌, ◌/◌, ◌%◌, List, [], ◌∷◌, ◌++◌, ℕ, sym, ◌∙◌, ap, append_assoc, arith}
use Rattle.std.proofs.lemmas.List.{append-nil}
use Rattle.fwd_chunk.specs.Name.{digits}
use Rattle.fwd_chunk.proofs.Digits.{no_digits, one_digit}
use Rattle.fwd_chunk.proofs.MadeCalls.{on_ok}
use Rattle.fwd_chunk.proofs.name.+push_digits.Goals as goal

pub returns-then-count-eq0 : goal.returns-then-count-eq0
returns-then-count-eq0 t c =
    sym (ap (λ (k : ℕ). c.args.name.now ++ digits k c.args.number) c.if-count-eq0.true ∙ ap (λ (l : List ℕ). c.args.name.now ++ l) (no_digits c.args.number) ∙ append-nil c.args.name.now)

pub returns : goal.returns
returns t c =
    on_ok c.push.result
    (λ is. is ∙ ap (λ (l : List ℕ). l ++ (48 + c.args.number % 10) ∷ []) c.in_ok-push_digits.ensures
    ∙ append_assoc c.args.name.now (digits (c.args.count - 1) (c.args.number / 10)) ((48 + c.args.number % 10) ∷ [])
    ∙ ap (λ (l : List ℕ). c.args.name.now ++ l) (sym (one_digit c.args.count (c.args.count - 1) c.args.number (omega arith))))
    c.push.ensures.ok
