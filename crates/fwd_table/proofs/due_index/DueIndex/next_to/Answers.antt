use Rattle.std.proofs.Common.{List, ◌∙◌, sym, subst}
use Rattle.std.specs.Prelude.{IfSome, IsTrue, slice_get}
use Rattle.std.specs.declared.ops.Bound.TheVariants.{Unbounded}
use Rattle.std.specs.BTreeMap.Range.{IsInRange, IsLeBy}
use Rattle.std.specs.BTreeSet.{contains, IsKeyInRange}
use Rattle.std.proofs.lemmas.Bool.{eqb-true, eqb-false}
use Rattle.fwd_table.specs.declared.due_index.DueKey.{DueKey}
use Rattle.fwd_table.specs.DueIndex.{by_output}
use Rattle.fwd_table.proofs.DueRange.{none_found, key_passes, key_fails}
use Rattle.fwd_table.proofs.due_index.DueIndex.next_to.Goals as goal
use Rattle.fwd_table.proofs.due_index.DueIndex.next_to.Goals.{else-eq-via-then-eq+else-key-now, else-eq-via-else-eq}

pub returns-in_err-key : goal.returns-in_err-key
returns-in_err-key c =
    rw c.from_residual.ensures
    (none_found c.args.self.now c.args.now c.args.output c.args.after c.start_after-start.result c.start_after-start.ensures.after c.start_after-start.ensures.output ((c.range.ensures.in_range tt).5 c.in_err-key.ensures.steps.0))

pub returns-then-key-now : goal.returns-then-key-now
returns-then-key-now c =
    let start = c.start_after-start.result in
    let keys = c.args.self.now.keys in
    let here = subst (λ (ks : List DueKey). IfSome (slice_get ks 0) (IsKeyInRange by_output start Unbounded keys)) c.in_ok-key.ensures.steps (c.range.ensures.in_range tt).1 in
    let least : (q : DueKey) → IsInRange by_output start Unbounded q → IsTrue (contains by_output keys q) → IsLeBy by_output c.in_ok-key.field-0.now q = λ q inside is.
    subst (λ (ks : List DueKey). IfSome (slice_get ks 0) (λ k. IsLeBy by_output k q)) c.in_ok-key.ensures.steps ((c.range.ensures.in_range tt).2 q inside is) in
    rw c.timer.ensures
    (key_passes c.args.self.now c.args.now c.args.output c.args.after start c.start_after-start.ensures.after c.start_after-start.ensures.output c.in_ok-key.field-0.now here least
    (eqb-true c.in_ok-key.field-0.now.output.0 c.args.output.0 (sym c.eq.ensures ∙ c.if-eq.true)) c.if-key-now.true)

pub returns-else-eq : goal.returns-else-eq
returns-else-eq c =
    let start = c.start_after-start.result in
    let keys = c.args.self.now.keys in
    let here = subst (λ (ks : List DueKey). IfSome (slice_get ks 0) (IsKeyInRange by_output start Unbounded keys)) c.in_ok-key.ensures.steps (c.range.ensures.in_range tt).1 in
    let least : (q : DueKey) → IsInRange by_output start Unbounded q → IsTrue (contains by_output keys q) → IsLeBy by_output c.in_ok-key.field-0.now q = λ q inside is.
    subst (λ (ks : List DueKey). IfSome (slice_get ks 0) (λ k. IsLeBy by_output k q)) c.in_ok-key.ensures.steps ((c.range.ensures.in_range tt).2 q inside is) in
    key_fails c.args.self.now c.args.now c.args.output c.args.after start c.start_after-start.ensures.after c.start_after-start.ensures.output c.in_ok-key.field-0.now here least
    (λ same. elim c.else-eq.branch [
      | else-eq-via-then-eq+else-key-now w ↦ w.if-key-now.false
      | else-eq-via-else-eq w ↦ absurd (eqb-false c.in_ok-key.field-0.now.output.0 c.args.output.0 (sym c.eq.ensures ∙ w.if-eq.false) same)
    ])
