use Rattle.std.proofs.Common.{◌≡◌, ◌≤◌, vec_len, vec_capacity}
use Rattle.fwd_table_rows.specs.Routes.{routes_below}
use Rattle.fwd_table_rows.proofs.route.put_routes.Given as goal

abbrev pub invariant-loop-output : goal.invariant-loop-output
invariant-loop-output l = record {
  put : l.routes.items ≡ routes_below l.output l.owed;
  within : vec_len l.routes ≤ l.output;
  room : vec_capacity l.routes ≡ vec_capacity l.initial.routes;
}
