use Rattle.std.proofs.Common.{◌≡◌, List, ℕ, [], refl, sym, ap, subst, ◌∙◌, inl, inr}
use Rattle.std.proofs.lemmas.Bool.{false≢true}
use Rattle.fwd_msgpack.specs.Levels.{MissesOne}
use Rattle.fwd_msgpack.specs.ScanState.{skip_levels}
use Rattle.fwd_msgpack.proofs.Skipping.{closed_same, closed_wants, none_passed}
use Rattle.fwd_msgpack.proofs.scan.Scan.end.Goals as goal

pub returns-then-is_empty-clause-same : goal.returns-then-is_empty-clause-same
returns-then-is_empty-clause-same c = λ b.
    let none : c.close.new.self ≡ [] = c.if-is_empty.ensures.0 refl in
    sym (sym (closed_same c.args.self.now.levels b) ∙ ap (λ (ns : List ℕ). skip_levels ns b) (sym c.close.ensures ∙ none) ∙ none_passed b)

pub returns-else-is_empty-clause-same : goal.returns-else-is_empty-clause-same
returns-else-is_empty-clause-same c = λ b. ap (λ (ns : List ℕ). skip_levels ns b) c.close.ensures ∙ closed_same c.args.self.now.levels b

pub returns-else-is_empty-clause-stays : goal.returns-else-is_empty-clause-stays
returns-else-is_empty-clause-stays c = elim (closed_wants c.args.self.now.levels) [
  | inl none ↦ absurd (false≢true (c.if-is_empty.ensures.1 (c.close.ensures ∙ none)))
  | inr some ↦ subst MissesOne (sym c.close.ensures) some
]
