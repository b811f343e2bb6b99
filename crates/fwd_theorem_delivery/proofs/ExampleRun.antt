-- The example run, link by link: its dials return new links, so that the theorems apply.
use Rattle.std.proofs.Common.{◌≡◌, [], ◌∷◌, Some, refl, arith}
use Rattle.fwd_outside.specs.Loop.{Took}
use Rattle.fwd_outside.specs.declared.ends.Ends.{Ends}
use Rattle.fwd_outside.specs.NewLinks.{AreNewLinks}
use Rattle.fwd_flush.specs.Outcome.{Dialed, Pushed, Replied}
use Rattle.fwd_model.specs.Trace.{loop_part}
use Rattle.fwd_model.specs.Example.{trace, sent, reply}
use Rattle.fwd_theorem_delivery.specs.Links.{since_dial, close_count}
use Rattle.fwd_theorem_delivery.specs.TakenBytes.{links_of, taken_over}

pub new_links : (ends : Ends) → AreNewLinks 0 (loop_part (trace ends))
new_links ends = (tt, (tt, (tt, (tt, (tt, (tt, (omega arith, (tt, (tt, (omega arith, (tt, (omega arith, (tt, (tt, (tt, (tt, (tt, tt)))))))))))))))))

-- the second link is that of the acknowledged flush
pub acknowledged : (ends : Ends) → since_dial 2 (loop_part (trace ends)) ≡ Dialed (Some 2) ∷ Pushed sent (Took 58) ∷ Replied reply ∷ []
acknowledged ends = refl

pub closed_once : (ends : Ends) → close_count 2 (loop_part (trace ends)) ≡ 1
closed_once ends = refl

-- output 0 took both chunks, each over a link of its own
pub printed_both : (ends : Ends) → taken_over (links_of 0 (loop_part (trace ends))) (loop_part (trace ends)) ≡ 60
printed_both ends = refl
