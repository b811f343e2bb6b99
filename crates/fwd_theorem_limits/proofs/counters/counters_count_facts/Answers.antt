use Rattle.fwd_theorem_limits.proofs.FactCounts.{counts_facts}
use Rattle.fwd_theorem_limits.proofs.counters.counters_count_facts.Goals as goal

pub returns : goal.returns
returns c s h = counts_facts s h
