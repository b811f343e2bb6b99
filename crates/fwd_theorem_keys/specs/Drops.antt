-- Why the loop below was asked to drop a connection.
use Rattle.std.specs.Prelude.{◌≡◌, ℕ, List, [], ◌∷◌, ◌++◌, Some, None}
use Rattle.fwd_base.specs.declared.ids.InputId.{InputId}
use Rattle.fwd_base.specs.declared.ids.ConnId.{ConnId}
use Rattle.fwd_outside.specs.Program.{entry}
use Rattle.fwd_outside.specs.Loop.{LoopEntry, Wait, Reply, DropConn}
use Rattle.fwd_outside.specs.declared.happening.Happening.TheVariants.{Piece}
use Rattle.fwd_handshake.specs.declared.ring.Ring.{Ring}
use Rattle.fwd_handshake.specs.declared.received.Received.TheVariants.{Wrong}
use Rattle.fwd_handshake.specs.Judgement.{ping_received}
use Rattle.fwd_secure.specs.declared.keys.Keys.{Keys}
use Rattle.fwd_secure.specs.RandomBytes.{random_bytes}
use Rattle.fwd_secure.specs.Keys.{ring_at}
use Rattle.fwd_secure.specs.Handshakes.{Handshakes, no_handshakes}
use Rattle.fwd_secure.specs.Carried.{Carries}
use Rattle.fwd_theorem_keys.specs.Traffic.{said_by}
use Rattle.fwd_theorem_keys.specs.Streams.{Challenged}

-- `front` are the calls below before the drop
pub data WhyDropped (keys : Keys) (conn : ConnId) (front above : List LoopEntry) : Type 0 where
  -- the engine dropped it
  Asked : (above_before above_after : List LoopEntry) (at : Handshakes)
      → Carries keys no_handshakes front above_before at
      → above ≡ above_before ++ entry (DropConn conn.0) tt ∷ above_after
      → WhyDropped keys conn front above
  -- a message to it broke
  ReplyBroke : (before : List LoopEntry) (message : List ℕ)
      → front ≡ before ++ entry (Reply conn.0 message) None ∷ []
      → WhyDropped keys conn front above
  -- what it has sent since its HELO is wrong with the last read
  WasWrong : (ring : Ring) (input : InputId) (before : List LoopEntry) (until paused : ℕ) (piece : List ℕ)
      (above_before : List LoopEntry)
      → ring_at keys.inputs input.0 ≡ Some ring
      → front ≡ before ++ entry (Wait until paused) (Piece input conn piece) ∷ []
      → (challenged : Challenged keys input conn front above_before)
      → ping_received ring (random_bytes challenged.nonce) (said_by input conn challenged.since) ≡ Wrong
      → WhyDropped keys conn front above
