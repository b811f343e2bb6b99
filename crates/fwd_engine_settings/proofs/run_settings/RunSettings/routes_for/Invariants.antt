-- The mask has a bit for each matching output so far.
use Rattle.fwd_engine_settings.proofs.RouteMask.{MaskIsFor}
use Rattle.fwd_engine_settings.proofs.run_settings.RunSettings.routes_for.Given as goal

abbrev pub invariant-loop-i : goal.invariant-loop-i
invariant-loop-i l = MaskIsFor l.i l.output-items l.tag l.mask
