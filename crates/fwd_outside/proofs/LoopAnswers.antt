-- The answers to two runs of calls, one after the other.
use Rattle.std.proofs.Common.{List, [], ◌∷◌, ◌++◌}
use Rattle.fwd_outside.specs.Loop.{LoopEntry}
use Rattle.fwd_outside.specs.LoopAnswers.{WaitsBringBytes, AreLoopAnswers}
use Rattle.fwd_outside.proofs.RisingLinks.{new_first}

pub bytes_append : (xs ys : List LoopEntry) → WaitsBringBytes xs → WaitsBringBytes ys → WaitsBringBytes (xs ++ ys)
bytes_append [] ys first second = second
bytes_append (e ∷ xs) ys first second = (first.0, bytes_append xs ys first.1 second)

pub bytes_first : (xs ys : List LoopEntry) → WaitsBringBytes (xs ++ ys) → WaitsBringBytes xs
bytes_first [] ys all = tt
bytes_first (e ∷ xs) ys all = (all.0, bytes_first xs ys all.1)

pub answers_none : AreLoopAnswers []
answers_none = record { links = tt; bytes = tt }

pub answers_first : (xs ys : List LoopEntry) → AreLoopAnswers (xs ++ ys) → AreLoopAnswers xs
answers_first xs ys all = record { links = new_first 0 xs ys all.links; bytes = bytes_first xs ys all.bytes }
