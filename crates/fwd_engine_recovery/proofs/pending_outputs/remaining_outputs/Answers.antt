use Rattle.std.proofs.Common.{◌≡◌, ℕ, ◌<◌, Bool, not, sym, ◌∙◌, subst, arith}
use Rattle.std.specs.List.{list_any}
use Rattle.std.specs.Str.{bytes_eq}
use Rattle.fwd_model.specs.Settings.{outputs_for, output_name}
use Rattle.fwd_engine_recovery.proofs.OutputMask.{Left, left_none, left_yes, left_no, left_all, nothing_left, something_left}
use Rattle.fwd_engine_recovery.proofs.pending_outputs.remaining_outputs.Goals as goal
use Rattle.fwd_engine_recovery.proofs.pending_outputs.remaining_outputs.Goals.{then-is_remaining, else-is_remaining}

pub loop-output-init : goal.loop-output-init
loop-output-init c = left_none (λ output. not (list_any (λ other. bytes_eq other (output_name c.args.run.now output)) c.args.done.now)) c.args.routes

pub loop-output-preserved : goal.loop-output-preserved
loop-output-preserved c =
    let p : ℕ → Bool = λ output. not (list_any (λ other. bytes_eq other (output_name c.args.run.now output)) c.args.done.now) in
    let n = c.loop-output.output in
    let within : n < 64 = omega (arith, c.loop-output-test.true) in
    elim c.if-is_remaining.branch [
      | then-is_remaining w ↦ rw w.left-is (left_yes p c.args.routes n c.loop-output.left within (sym c.is_remaining.ensures ∙ w.if-is_remaining.true) c.loop-output.invariant)
      | else-is_remaining w ↦ rw w.left-is (left_no p c.args.routes n c.loop-output.left (sym c.is_remaining.ensures ∙ w.if-is_remaining.false) c.loop-output.invariant)
    ]

pub returns-then-left-eq0 : goal.returns-then-left-eq0
returns-then-left-eq0 c tag are =
    let p : ℕ → Bool = λ output. not (list_any (λ other. bytes_eq other (output_name c.args.run.now output)) c.args.done.now) in
    let test = c.loop-output-test.false in
    let end = c.loop-output.auto.output-end in
    let all : c.loop-output.output ≡ 64 = omega (arith, test, end) in
    let left = subst (λ (n : ℕ). Left p c.args.routes n c.loop-output.left) all c.loop-output.invariant in
    nothing_left p c.args.routes c.loop-output.left (outputs_for c.args.run.now tag) are left c.if-left-eq0.true

pub returns-else-left-eq0 : goal.returns-else-left-eq0
returns-else-left-eq0 c tag are =
    let p : ℕ → Bool = λ output. not (list_any (λ other. bytes_eq other (output_name c.args.run.now output)) c.args.done.now) in
    let test = c.loop-output-test.false in
    let end = c.loop-output.auto.output-end in
    let all : c.loop-output.output ≡ 64 = omega (arith, test, end) in
    let left = subst (λ (n : ℕ). Left p c.args.routes n c.loop-output.left) all c.loop-output.invariant in (
      left_all p c.args.routes c.loop-output.left (outputs_for c.args.run.now tag) are left,
      something_left p c.args.routes c.loop-output.left (outputs_for c.args.run.now tag) are left c.if-left-eq0.false,
    )
