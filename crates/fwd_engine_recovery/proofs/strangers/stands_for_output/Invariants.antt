use Rattle.fwd_engine_recovery.proofs.strangers.stands_for_output.Given as goal

-- nothing is claimed
abbrev pub invariant-loop-output : goal.invariant-loop-output
invariant-loop-output l = Unit {0}
