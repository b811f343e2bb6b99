-- How the call log of a keyed loop follows from that of the loop below.
use Rattle.std.specs.Prelude.{◌≡◌, Bool, true, false, List, [], ◌∷◌, ◌++◌}
use Rattle.fwd_outside.specs.Program.{Return, Execution}
use Rattle.fwd_outside.specs.Log.{LogGrew}
use Rattle.fwd_outside.specs.Loop.{LoopCall, LoopEntry, LoopLog}
use Rattle.fwd_secure.specs.declared.keys.Keys.{Keys}
use Rattle.fwd_secure.specs.Handshakes.{Handshakes, no_handshakes}
use Rattle.fwd_secure.specs.Rules.{Answers, answers}
use Rattle.fwd_secure.specs.Allowed.{AllMayOccur}

-- From one state to another: each call above was answered by its rule, from calls below.
abbrev pub Carries : Keys → Handshakes → (below above : List LoopEntry) → Handshakes → Type 0
Carries keys k below [] t = (below ≡ []) × (t ≡ k)
Carries keys k below (e ∷ es) t =
    (own rest : List LoopEntry) × (u : Handshakes) × (below ≡ own ++ rest)
    × Execution (answers keys k e.call) own (Return (e.answer, u)) × Carries keys u rest es t

-- the first calls of a further rule were made
pub record IsCutShort (keys : Keys) (k : Handshakes) (begun : List LoopEntry) : Type 0 where
  pub call : LoopCall
  pub remaining : Answers call
  pub way : Execution (answers keys k call) begun remaining

-- No other calls were made below. Or memory was out: then the first calls of one more rule were made.
abbrev pub Ends : Bool → Keys → (k at : Handshakes) → List LoopEntry → Type 0
Ends false keys k at begun = (begun ≡ []) × (at ≡ k)
Ends true keys k at begun = IsCutShort keys at begun

-- the calls below since the start, and what was answered above
pub record IsCarried (keys : Keys) (out_of_memory : Bool) (old new : LoopLog) (above : List LoopEntry)
    (k : Handshakes) : Type 0 where
  pub below : List LoopEntry
  pub begun : List LoopEntry
  pub at : Handshakes
  pub grew : LogGrew old new (below ++ begun)
  pub carries : Carries keys no_handshakes below above at
  pub ends : Ends out_of_memory keys k at begun
  -- each event that came from below may occur
  pub allowed : AllMayOccur (below ++ begun)
