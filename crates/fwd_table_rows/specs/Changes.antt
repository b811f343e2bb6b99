-- Changes of routes and rows.
use Rattle.std.specs.Prelude.{◌==◌, Bool, true, false}
use Rattle.fwd_base.specs.declared.ids.OutputId.{OutputId}
use Rattle.fwd_table_rows.specs.declared.route.Route.{Route}
use Rattle.fwd_table_rows.specs.declared.route.Change.{Change}
use Rattle.fwd_table_rows.specs.declared.route.Change.TheVariants.{Starts, Stays, Retries}
use Rattle.fwd_table_rows.specs.declared.row.Row.{Row}
use Rattle.fwd_table_rows.specs.declared.row.RowChange.{RowChange}
use Rattle.fwd_table_rows.specs.declared.row.RowChange.TheVariants.{Grows, Shuts, Changes, Resolves}
use Rattle.fwd_table_rows.specs.declared.row.Scope.{Scope}
use Rattle.fwd_table_rows.specs.declared.row.Scope.TheVariants.{Nothing, To, All}
use Rattle.fwd_table_rows.specs.Routes.{started, stayed, retried, on_output}
use Rattle.fwd_table_rows.specs.Rows.{grown, shut_at, resolved_to}

-- a route after a change
abbrev pub with_change : Change → Route → Route
with_change Starts r = started r
with_change Stays r = stayed r
with_change (Retries due) r = retried due r

-- a row after a change
abbrev pub row_with_change : RowChange → Row → Row
row_with_change (Grows size) row = grown size row
row_with_change (Shuts now) row = shut_at now row
row_with_change (Changes output change) row =
    record row { routes = on_output output (with_change change) row.routes }
row_with_change (Resolves output) row = resolved_to output row

-- the routes that may be idle or due at other times after a change than before it
abbrev pub scope_of : RowChange → Scope
scope_of (Grows size) = Nothing
scope_of (Shuts now) = All
scope_of (Changes output change) = To output
scope_of (Resolves output) = To output

-- whether the route to an output is in a scope
abbrev pub is_in_scope : Scope → OutputId → Bool
is_in_scope Nothing output = false
is_in_scope (To own) output = output.0 == own.0
is_in_scope All output = true
