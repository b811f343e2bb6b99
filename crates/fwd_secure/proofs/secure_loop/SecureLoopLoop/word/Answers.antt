use Rattle.std.proofs.Common.{Some, None, refl}
use Rattle.fwd_outside.specs.Loop.{Word}
use Rattle.fwd_secure.proofs.PassedOn.{word_passes}
use Rattle.fwd_secure.proofs.Closing.{call_closes, no_failure, nothing_closes, same_counts}
use Rattle.fwd_secure.proofs.secure_loop.SecureLoopLoop.word.Goals as goal

pub invariant_of-self : goal.invariant_of-self
invariant_of-self g c =
    call_closes c.self.invariant c.if-self.false Word c.in-Ok.word c.self.inside.state _ _ tt
    (word_passes c.self.inside.keyed c.self.inside.keys c.self.inside.state _ _ (Some c.in-Ok.word) c.in-Ok.ensures.call_log) c.in-Ok.ensures.same
    (no_failure _ _ Word c.in-Ok.word refl c.in-Ok.ensures.later) tt refl c.then-self-inside.ensures.1

pub invariant_of-self-in-Err : goal.invariant_of-self-in-Err
invariant_of-self-in-Err g c =
    nothing_closes c.self.invariant c.if-self.false Word c.self.inside.state _ tt
    (word_passes c.self.inside.keyed c.self.inside.keys c.self.inside.state _ _ None c.in-Err.ensures.call_log) (same_counts _ _ c.in-Err.ensures.same) c.in-Err.ensures.later
