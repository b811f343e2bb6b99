use Rattle.std.proofs.Common.{subst}
use Rattle.fwd_replay.specs.RunState.{EndsBy}
use Rattle.fwd_replay.specs.declared.life.LifeEnd.{LifeEnd}
use Rattle.fwd_replay.proofs.Handover.{leaves}
use Rattle.fwd_replay.proofs.life.next_of.Goals as goal

pub returns-in-Ends : goal.returns-in-Ends
returns-in-Ends c shown s most begins planned going seen held kept text came given counted = subst (λ (e : LifeEnd). EndsBy shown s most begins planned going seen held kept text e) c.in-Ends.is came

pub returns-in-Cut : goal.returns-in-Cut
returns-in-Cut c shown s most begins planned going seen held kept text came given counted =
    leaves shown s most begins planned c.in-Cut.cut going seen held kept text c.args.settings c.args.taken (subst (λ (e : LifeEnd). EndsBy shown s most begins planned going seen held kept text e) c.in-Cut.is came) given counted
