use Rattle.std.proofs.Common.{◌≡◌, ◌/◌, ◌^◌, ◌++◌, drop}
use Rattle.fwd_table.specs.Row.{Row}
use Rattle.fwd_table.specs.Routes.{IsMaskOf}
use Rattle.fwd_report.specs.Report.{names_from}
use Rattle.fwd_report.proofs.pending.push_names.Given as goal

abbrev pub invariant-loop-name : goal.invariant-loop-name
invariant-loop-name l =
    (l.rest ≡ l.owed / 2 ^ l.name-index)
    × ((row : Row) → IsMaskOf row.routes l.owed → l.fn.text ++ names_from 0 l.outputs row ≡ l.text ++ names_from l.name-index (drop l.name-index l.outputs) row)
