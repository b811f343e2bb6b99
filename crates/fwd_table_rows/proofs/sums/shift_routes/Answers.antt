use Rattle.std.proofs.Common.{false, ◌∙◌, arith}
use Rattle.std.proofs.lemmas.List.{length-set}
use Rattle.fwd_table_rows.specs.declared.route.Route.{Route}
use Rattle.fwd_table_rows.proofs.RowSums.{low_at, shift_can, shift_on, shifts_none}
use Rattle.fwd_table_rows.proofs.sums.shift_routes.Goals as goal

abbrev nowhere : Route
nowhere = record { output = record { 0 = 0 }; due = 0; tries = 0; flying = false }

pub loop-route-init : goal.loop-route-init
loop-route-init c = (c.requires.long, λ key below. shifts_none c.args.way _)

pub bounds-sums-place : goal.bounds-sums-place
bounds-sums-place c =
    let items = c.as_slice-route-items in
    let low = low_at items.result.now c.args.row.now.routes c.loop-route.route-index nowhere items.ensures.value items.ensures.rise c.loop-route-test.true in
    omega (arith, low, c.loop-route.invariant.0)

pub bounds-sums-place-in-loop-route : goal.bounds-sums-place-in-loop-route
bounds-sums-place-in-loop-route c =
    let items = c.as_slice-route-items in
    let low = low_at items.result.now c.args.row.now.routes c.loop-route.route-index nowhere items.ensures.value items.ensures.rise c.loop-route-test.true in
    omega (arith, low, c.loop-route.invariant.0)

pub shift-requires : goal.shift-requires
shift-requires c =
    let items = c.as_slice-route-items in
    let low = low_at items.result.now c.args.row.now.routes c.loop-route.route-index nowhere items.ensures.value items.ensures.rise c.loop-route-test.true in
    rw c.route_part-part.ensures
    (shift_can c.args.what c.args.way c.args.row.now items.result.now c.loop-route.route-index nowhere c.loop-route-test.true c.args.sums.now c.loop-route.sums c.loop-route.invariant.1 low items.ensures.value c.requires.can)

pub loop-route-preserved : goal.loop-route-preserved
loop-route-preserved c =
    let items = c.as_slice-route-items in
    let step = rw c.route_part-part.ensures at c.shift.ensures in (
      length-set c.loop-route.sums _ _ ∙ c.loop-route.invariant.0,
      shift_on c.args.what c.args.way c.args.row.now items.result.now c.loop-route.route-index nowhere c.loop-route-test.true c.args.sums.now c.loop-route.sums c.loop-route.invariant.1 c.shift.result c.loop-route.invariant.0 step,
    )
