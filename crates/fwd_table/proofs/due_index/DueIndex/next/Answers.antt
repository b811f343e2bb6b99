use Rattle.std.proofs.Common.{◌∙◌, ◌+◌, Bool, sym}
use Rattle.std.specs.Prelude.{◌==◌, ◌&&◌, ◌||◌, nat_lt}
use Rattle.fwd_retry.specs.declared.timer.Timer.{Timer}
use Rattle.fwd_retry.specs.Timer.{is_next}
use Rattle.fwd_table_rows.specs.Routes.{is_next_to}
use Rattle.fwd_table.specs.DueIndex.{is_listed}
use Rattle.fwd_table.proofs.DueIndex.{first_same}
use Rattle.fwd_table.proofs.DueRange.{all_outputs, output_clear, output_set}
use Rattle.fwd_table.proofs.due_index.DueIndex.next.Goals as goal
use Rattle.fwd_table.proofs.due_index.DueIndex.next.Goals.{then-is_set, else-is_set}

pub loop-output-preserved : goal.loop-output-preserved
loop-output-preserved c =
    let n = c.loop-output.output in
    let listed : Timer → Bool = λ t. is_listed c.args.self.now t in
    let due : Timer → Bool = λ t. is_next c.args.now c.args.after t in
    let before : Timer → Bool = λ t. listed t && (is_next_to c.args.now c.args.outputs c.args.after t && nat_lt t.output.0 n) in
    let own : Timer → Bool = λ t. listed t && (due t && t.output.0 == n) in
    let next : Timer → Bool = λ t. listed t && (is_next_to c.args.now c.args.outputs c.args.after t && nat_lt t.output.0 (n + 1)) in
    elim c.if-is_set.branch [
      | then-is_set w ↦
          rw w.first-is
          (first_same (λ (t : Timer). before t || own t) next w.earlier_of-first.result (λ t. output_set (listed t) (due t) c.args.outputs t.output.0 n (sym c.is_set.ensures ∙ w.if-is_set.true))
          (w.earlier_of-first.ensures before own c.loop-output.invariant w.next_to.ensures))
      | else-is_set w ↦
          rw w.first-is (first_same before next c.loop-output.first (λ t. output_clear (listed t) (due t) c.args.outputs t.output.0 n (sym c.is_set.ensures ∙ w.if-is_set.false)) c.loop-output.invariant)
    ]

pub returns : goal.returns
returns c =
    first_same (λ (t : Timer). is_listed c.args.self.now t && (is_next_to c.args.now c.args.outputs c.args.after t && nat_lt t.output.0 c.loop-output.output))
    (λ (t : Timer). is_listed c.args.self.now t && is_next_to c.args.now c.args.outputs c.args.after t) c.loop-output.first
    (λ t. all_outputs (is_listed c.args.self.now t) (is_next c.args.now c.args.after t) c.args.outputs t.output.0 c.loop-output.output c.ranges.outputs.fits c.loop-output-test.false) c.loop-output.invariant
