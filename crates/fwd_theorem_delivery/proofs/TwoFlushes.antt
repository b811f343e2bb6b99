-- An example, computed: two flushes side by side, of which one waits for room while the link of the other
-- breaks.
use Rattle.std.proofs.Common.{◌≡◌, List, [], ◌∷◌, Some, None, refl}
use Rattle.std.specs.Prelude.{codes, false}
use Rattle.fwd_outside.specs.Program.{entry}
use Rattle.fwd_outside.specs.Loop.{LoopEntry, Wait, Dial, Push, Close, Took, Again}
use Rattle.fwd_outside.specs.declared.happening.Happening.TheVariants.{Back, Broken}
use Rattle.fwd_table.specs.declared.outcome.Answer.TheVariants.{Retry}
use Rattle.fwd_flush.specs.declared.judgement.Judged.TheVariants.{Right}
use Rattle.fwd_flush.specs.FlushProgram.{Delivery}
use Rattle.fwd_flush.specs.Outcome.{Dialed, Pushed, Replied, LinkBroke, flush_outcome}
use Rattle.fwd_theorem_delivery.specs.Links.{since_dial, close_count}
use Rattle.fwd_theorem_delivery.specs.TakenBytes.{links_of, taken_over}

pub calls : List LoopEntry
calls =
    entry (Wait 250 0) (Broken (record { 0 = 2 }))
    ∷ entry (Dial 0 (codes "app")) (Some 1) ∷ entry (Push 1 (codes "hello\n")) (Took 3) ∷ entry (Push 1 (codes "lo\n")) Again
    ∷ entry (Dial 1 (codes "app")) (Some 2) ∷ entry (Push 2 (codes "hello\n")) (Took 5) ∷ entry (Push 2 (codes "\n")) Again
    ∷ entry (Wait 250 0) (Back (record { 0 = 1 }) (codes "?")) ∷ entry (Wait 250 0) (Broken (record { 0 = 2 })) ∷ entry (Close 2) tt ∷ []

pub delivers : Delivery
delivers = record { payload = codes "hello\n"; wanted = false; judged = λ _. Right }

pub one_waits : since_dial 1 calls ≡ Dialed (Some 1) ∷ Pushed (codes "hello\n") (Took 3) ∷ Pushed (codes "lo\n") Again ∷ Replied (codes "?") ∷ []
unfolding calls
one_waits = refl

-- a break of this link before its dial doesn't count
pub other_breaks : since_dial 2 calls ≡ Dialed (Some 2) ∷ Pushed (codes "hello\n") (Took 5) ∷ Pushed (codes "\n") Again ∷ LinkBroke ∷ []
unfolding calls
other_breaks = refl

pub undecided : flush_outcome delivers (since_dial 1 calls) ≡ None
unfolding calls delivers
undecided = refl

pub to_be_retried : flush_outcome delivers (since_dial 2 calls) ≡ Some Retry
unfolding calls delivers
to_be_retried = refl

pub first_has_three : taken_over (links_of 0 calls) calls ≡ 3
unfolding calls
first_has_three = refl

pub second_is_closed : close_count 2 calls ≡ 1
unfolding calls
second_is_closed = refl
