use Rattle.std.proofs.Common.{refl, ◌∙◌}
use Rattle.fwd_report.proofs.RowLines.{shifted, name_put, name_left}
use Rattle.fwd_report.proofs.pending.push_names.Goals as goal
use Rattle.fwd_report.proofs.pending.push_names.Goals.{then-rest-eq1+in_ok-extend_from_slice+in_ok-extend_from_slice-2, else-rest-eq1}

pub loop-name-preserved : goal.loop-name-preserved
loop-name-preserved c = elim c.if-rest-eq1.branch [
  | then-rest-eq1+in_ok-extend_from_slice+in_ok-extend_from_slice-2 w ↦ (
    shifted c.args.owed c.loop-name.rest c.loop-name.name-index c.loop-name.invariant.0,
    λ row mask.
        rw w.text-is
        (name_put row c.args.owed c.loop-name.rest c.loop-name.name-index c.name-item.result c.args.outputs.now _ c.loop-name.text _ mask c.loop-name.invariant.0 w.if-rest-eq1.true c.loop-name-test.true c.name-item.is (c.loop-name.invariant.1 row mask)
        (w.in_ok-extend_from_slice-2.ensures.ok ∙ (rw (w.in_ok-extend_from_slice.ensures.ok, w.as_slice.ensures) refl))),
  )
  | else-rest-eq1 w ↦ (
    shifted c.args.owed c.loop-name.rest c.loop-name.name-index c.loop-name.invariant.0,
    λ row mask.
        rw w.text-is
        (name_left row c.args.owed c.loop-name.rest c.loop-name.name-index c.name-item.result c.args.outputs.now _ c.loop-name.text mask c.loop-name.invariant.0 w.if-rest-eq1.false c.loop-name-test.true c.name-item.is (c.loop-name.invariant.1 row mask)),
  )
]
