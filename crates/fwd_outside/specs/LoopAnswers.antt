-- What every loop keeps to in its answers: links are new, and connections bring bytes.
use Rattle.std.specs.Prelude.{ℕ, ◌<◌, List, [], ◌∷◌, slice_index}
use Rattle.fwd_outside.specs.Loop.{LoopCall, LoopAnswer, LoopEntry, Wait}
use Rattle.fwd_outside.specs.NewLinks.{AreNewLinks}
use Rattle.fwd_outside.specs.declared.happening.Happening.{Happening}
use Rattle.fwd_outside.specs.declared.happening.Happening.TheVariants.{Piece}

-- What comes over a connection are bytes: numbers below 256.
abbrev pub IsOfBytes : Happening → Type 0
IsOfBytes (Piece input conn bytes) = (i : ℕ) → slice_index bytes i < 256
IsOfBytes brought = Unit {0}

abbrev pub BringsBytes : (call : LoopCall) → LoopAnswer call → Type 0
BringsBytes (Wait until paused) brought = IsOfBytes brought
BringsBytes call answer = Unit {0}

abbrev pub WaitsBringBytes : List LoopEntry → Type 0
WaitsBringBytes [] = Unit {0}
WaitsBringBytes (e ∷ es) = BringsBytes e.call e.answer × WaitsBringBytes es

-- the answers to these calls, which are all so far
pub record AreLoopAnswers (es : List LoopEntry) : Type 0 where
  pub links : AreNewLinks 0 es
  pub bytes : WaitsBringBytes es
