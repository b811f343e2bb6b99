use Rattle.fwd_theorem_restart.proofs.RestartedRun.{restarted_safe}
use Rattle.fwd_theorem_restart.proofs.restarts.restarted_runs_are_safe.Goals as goal

pub returns : goal.returns
returns c s ends ticks turns first loading entries found m left settings full killed loads reaches way =
    restarted_safe s ends ticks turns first loading entries found m left killed loads reaches way
    (λ durable run. c.crash_points_are_safe.ensures s ends ticks turns _ _ left settings full durable run)
