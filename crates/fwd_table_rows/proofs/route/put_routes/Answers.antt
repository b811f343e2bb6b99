use Rattle.std.proofs.Common.{sym, ◌∙◌, length, ap, arith}
use Rattle.std.specs.Int.{bit_at}
use Rattle.std.proofs.lemmas.Bool.{eqb-true, eqb-false}
use Rattle.fwd_table_rows.proofs.MaskRoutes.{routes_below-none, put_set, put_clear}
use Rattle.fwd_table_rows.proofs.route.put_routes.Goals as goal
use Rattle.fwd_table_rows.proofs.route.put_routes.Goals.{then-is_set, else-is_set}

pub loop-output-init : goal.loop-output-init
loop-output-init c = record {
  put = c.requires.none ∙ sym (routes_below-none c.args.owed);
  within = omega (arith, c.args.routes.now.ok.0, ap length c.requires.none);
  room = search;
}

pub loop-output-preserved : goal.loop-output-preserved
loop-output-preserved c =
    let bit = bit_at c.args.owed c.loop-output.output in
    elim c.if-is_set.branch [
      | then-is_set w ↦ record {
        put = rw (w.routes-is, w.push_reserved.ensures.items) (put_set c.loop-output.output c.args.owed c.loop-output.routes.items _ (eqb-true bit 1 (sym c.is_set.ensures ∙ w.if-is_set.true)) w.idle_at.ensures c.loop-output.invariant.put);
        within = rw w.routes-is (omega (arith, w.push_reserved.ensures.len, c.loop-output.invariant.within));
        room = rw w.routes-is (w.push_reserved.ensures.capacity ∙ c.loop-output.invariant.room);
      }
      | else-is_set w ↦ record {
        put = rw w.routes-is (put_clear c.loop-output.output c.args.owed c.loop-output.routes.items (eqb-false bit 1 (sym c.is_set.ensures ∙ w.if-is_set.false)) c.loop-output.invariant.put);
        within = rw w.routes-is (omega (arith, c.loop-output.invariant.within));
        room = rw w.routes-is c.loop-output.invariant.room;
      }
    ]
