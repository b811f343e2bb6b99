-- Connections of keyed inputs: `below` are the calls on the loop below, `above` those on the keyed loop.
use Rattle.std.specs.Prelude.{◌≡◌, ◌⊎◌, ℕ, false, List, [], ◌∷◌, ◌++◌, drop, Some}
use Rattle.fwd_base.specs.declared.ids.InputId.{InputId}
use Rattle.fwd_base.specs.declared.ids.ConnId.{ConnId}
use Rattle.fwd_outside.specs.Program.{entry}
use Rattle.fwd_outside.specs.Loop.{LoopEntry, Wait, Reply, Word}
use Rattle.fwd_outside.specs.declared.happening.Happening.{Happening}
use Rattle.fwd_outside.specs.declared.happening.Happening.TheVariants.{Joined, Piece, Gone}
use Rattle.fwd_handshake.specs.declared.ring.Ring.{Ring}
use Rattle.fwd_handshake.specs.declared.received.Received.TheVariants.{Right}
use Rattle.fwd_handshake.specs.Judgement.{ping_received}
use Rattle.fwd_handshake.specs.Messages.{helo, pong}
use Rattle.fwd_secure.specs.declared.keys.Keys.{Keys}
use Rattle.fwd_secure.specs.declared.handshakes.RandomBytes.{RandomBytes}
use Rattle.fwd_secure.specs.RandomBytes.{random_bytes}
use Rattle.fwd_secure.specs.Handshakes.{Handshakes, no_handshakes}
use Rattle.fwd_secure.specs.Carried.{Carries}
use Rattle.fwd_theorem_keys.specs.Traffic.{Includes, said_by, has_ended, was_dropped}

-- the event gives the engine the connection, or bytes of it
abbrev pub Gives : InputId → ConnId → Happening → Type 0
Gives input conn x = (x ≡ Joined input conn) ⊎ ((bytes : List ℕ) × (x ≡ Piece input conn bytes))

-- the calls below of a challenge: a peer connects, two words are drawn, and the peer takes the HELO
abbrev pub challenge : (until paused : ℕ) → InputId → ConnId → RandomBytes → List LoopEntry
challenge until paused input conn nonce =
    entry (Wait until paused) (Joined input conn)
    ∷ entry Word nonce.first
    ∷ entry Word nonce.second
    ∷ entry (Reply conn.0 (helo (random_bytes nonce))) (Some tt)
    ∷ []

-- The connection got a HELO, and has lasted since: its peer didn't end it, and the engine didn't drop it.
pub record Challenged (keys : Keys) (input : InputId) (conn : ConnId)
    (below above : List LoopEntry) : Type 0 where
  -- the calls before, and the state at that time
  pub before : List LoopEntry
  pub above_before : List LoopEntry
  pub at : Handshakes
  pub carries : Carries keys no_handshakes before above_before at
  -- the challenge; the engine isn't told of the connection
  pub until : ℕ
  pub paused : ℕ
  pub nonce : RandomBytes
  -- the calls since
  pub since : List LoopEntry
  pub above_since : List LoopEntry
  pub below_is : below ≡ (before ++ challenge until paused input conn nonce) ++ since
  pub above_is : above ≡ (above_before ++ entry (Wait until paused) (Gone input conn) ∷ []) ++ above_since
  pub not_ended : has_ended input conn since ≡ false
  pub not_dropped : was_dropped conn above_since ≡ false

-- The connection got a HELO, and what it has sent since begins with a right PING, which got its PONG. The
-- bytes that the engine was given of it are a prefix of those after the PING.
pub record BeganRightly (keys : Keys) (ring : Ring) (input : InputId) (conn : ConnId)
    (below above : List LoopEntry) : Type 0 where
  pub challenged : Challenged keys input conn below above
  pub len : ℕ
  pub salt : List ℕ
  pub right :
      ping_received ring (random_bytes challenged.nonce) (said_by input conn challenged.since)
      ≡ Right len salt
  pub answered :
      Includes (entry (Reply conn.0 (pong ring salt (random_bytes challenged.nonce))) (Some tt))
      challenged.since
  pub rest : List ℕ
  pub given :
      said_by input conn challenged.above_since ++ rest ≡ drop len (said_by input conn challenged.since)

-- the engine was given the connection
abbrev pub GotConn : InputId → ConnId → List LoopEntry → Type 0
GotConn input conn above =
    (until : ℕ) × (paused : ℕ) × Includes (entry (Wait until paused) (Joined input conn)) above
