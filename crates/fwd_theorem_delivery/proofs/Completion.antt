-- Every action can come to an end.
use Rattle.std.proofs.Common.{List, [], ◌∷◌, refl}
use Rattle.fwd_outside.specs.Program.{entry, Return, Ask, Execution}
use Rattle.fwd_model.specs.Trace.{Action, TraceEntry}
use Rattle.fwd_theorem_trace.proofs.Failures.{says}

-- with some entries the action comes to a result
abbrev pub Completes : {R : Type 0} → Action R → Type 0
Completes {R = R} p = (es : List TraceEntry) × (x : R) × Execution p es (Return x)

pub completes : {R : Type 0} (p : Action R) → Completes p
completes (Return x) = ([], x, refl)
completes {R = R} (Ask call go) = by (completes (go (says call)))
  where
    by : Completes (go (says call)) → Completes (Ask call go)
    by (es, x, way) = (entry call (says call) ∷ es, x, (says call, refl, way))
