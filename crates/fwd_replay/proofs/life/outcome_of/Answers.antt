use Rattle.std.proofs.Common.{Result, IfOk, subst}
use Rattle.fwd_base.specs.declared.memory.Memory.{Memory}
use Rattle.fwd_replay.specs.RunState.{EndsAs}
use Rattle.fwd_replay.specs.declared.life.Came.{Came}
use Rattle.fwd_replay.proofs.life.outcome_of.Goals as goal

pub returns-in-Ok : goal.returns-in-Ok
returns-in-Ok c shown s most begins planned going seen held kept came given counted =
    let has : EndsAs shown s most begins planned going seen held kept c.in-Ok.came = subst (λ (r : Result Came Memory). IfOk r (EndsAs shown s most begins planned going seen held kept)) c.in-Ok.is came in
    c.next_of.ensures shown s most begins planned going seen held kept c.in-Ok.came.text has given counted
