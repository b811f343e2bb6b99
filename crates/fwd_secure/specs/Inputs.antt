-- The rules of keyed inputs: what an event of the loop below becomes, and the calls on that loop.
use Rattle.std.specs.Prelude.{ℕ, ◌-◌, ◌==◌, ◌&&◌, not, List, [], ◌∷◌, ◌++◌, length, drop, Option, Some, None, if◌then◌else◌}
use Rattle.fwd_base.specs.declared.ids.InputId.{InputId}
use Rattle.fwd_base.specs.declared.ids.ConnId.{ConnId}
use Rattle.fwd_outside.specs.Program.{Return, Ask, bind}
use Rattle.fwd_outside.specs.Loop.{LoopProgram, Reply, DropConn, Word}
use Rattle.fwd_outside.specs.declared.happening.Happening.{Happening}
use Rattle.fwd_outside.specs.declared.happening.Happening.TheVariants.{Joined, Piece, Gone}
use Rattle.fwd_handshake.specs.declared.ring.Ring.{Ring}
use Rattle.fwd_handshake.specs.declared.received.Received.{Received}
use Rattle.fwd_handshake.specs.declared.received.Received.TheVariants as received
use Rattle.fwd_handshake.specs.Judgement.{ping_received}
use Rattle.fwd_handshake.specs.Messages.{helo, pong}
use Rattle.fwd_secure.specs.declared.handshakes.RandomBytes.{RandomBytes}
use Rattle.fwd_secure.specs.declared.handshakes.HeldConn.{HeldConn}
use Rattle.fwd_secure.specs.declared.handshakes.KeptBytes.TheVariants.{OfConn}
use Rattle.fwd_secure.specs.RandomBytes.{random_bytes}
use Rattle.fwd_secure.specs.Handshakes.{Handshakes, is_held, held_under, joined_at, is_joined_under, holding, released, entered, keeping}

-- an event for the engine, and the state after it
abbrev pub Brings : Type 0
Brings = LoopProgram (Happening × Handshakes)

-- two random words: the nonce of a HELO, or the salt of a PING
abbrev pub draws : LoopProgram RandomBytes
draws = Ask Word (λ a. Ask Word (λ b. Return (record { first = a; second = b })))

-- the connection is dropped; the engine doesn't know it
abbrev pub drops : Handshakes → InputId → ConnId → Brings
drops k input conn = Ask (DropConn conn.0) (λ _. Return (Gone input conn, k))

-- ---- a peer connects

-- after the HELO: hold what the connection sends, or drop it
abbrev pub holds_or_drops : Handshakes → InputId → ConnId → RandomBytes → Option (Unit {0}) → Brings
holds_or_drops k input conn nonce (Some _) =
    Return (Gone input conn, holding k conn.0 (record { input = input; nonce = nonce; received = [] }))
holds_or_drops k input conn nonce None = drops k input conn

-- send a HELO
abbrev pub challenges : Handshakes → InputId → ConnId → Brings
challenges k input conn =
    bind draws (λ nonce. Ask (Reply conn.0 (helo (random_bytes nonce))) (holds_or_drops k input conn nonce))

abbrev pub joins_by : Handshakes → InputId → ConnId → Option ℕ → Brings
joins_by k input conn (Some other) =
    Return (if other == input.0 then Joined input conn else Gone input conn, k)
joins_by k input conn None = challenges k input conn

-- A connection that is held, or there under another input, is no news for the engine. One that is there
-- under this input is passed on. Any other gets a HELO.
abbrev pub joins : Handshakes → InputId → ConnId → Brings
joins k input conn =
    if is_held k conn.0 then Return (Gone input conn, k) else joins_by k input conn (joined_at k conn.0)

-- ---- bytes come

-- the bytes of the last piece that stand after a message of `len` bytes, which ends in that piece
abbrev pub after_message : ℕ → List ℕ → List ℕ → List ℕ
after_message len before piece = drop (len - length before) piece

-- keep them for a later wait, if there are any
abbrev pub keeping_piece : Handshakes → InputId → ConnId → List ℕ → Handshakes
keeping_piece k input conn [] = k
keeping_piece k input conn (byte ∷ bytes) = keeping k (OfConn input conn (byte ∷ bytes))

-- after the PONG: give the connection as joined, or drop it
abbrev pub enters_or_drops : Handshakes → InputId → ConnId → List ℕ → Option (Unit {0}) → Brings
enters_or_drops k input conn rest (Some _) =
    Return (Joined input conn, keeping_piece (entered k input.0 conn.0) input conn rest)
enters_or_drops k input conn rest None = drops k input conn

-- by the judgement of what the connection sent so far; `k` is the state without it
abbrev pub judges : Ring → Handshakes → InputId → ConnId → HeldConn → List ℕ → Received → Brings
judges ring k input conn held piece received.More =
    Return (Gone input conn, holding k conn.0 (record held { received = held.received ++ piece }))
judges ring k input conn held piece (received.Right len salt) =
    Ask (Reply conn.0 (pong ring salt (random_bytes held.nonce)))
    (enters_or_drops k input conn (after_message len held.received piece))
judges ring k input conn held piece received.Wrong = drops k input conn

abbrev pub hears_by : Ring → Handshakes → InputId → ConnId → List ℕ → Option HeldConn → Brings
hears_by ring k input conn piece (Some held) =
    judges ring (released k conn.0) input conn held piece
    (ping_received ring (random_bytes held.nonce) (held.received ++ piece))
hears_by ring k input conn piece None =
    Return (
      if not (is_held k conn.0) && is_joined_under k input.0 conn.0
          then Piece input conn piece else Gone input conn,
      k,
    )

-- Pieces of a connection that is held are held with it. Pieces of one that is there are passed on. All others
-- are ignored: the engine doesn't know their connection.
abbrev pub hears : Ring → Handshakes → InputId → ConnId → List ℕ → Brings
hears ring k input conn piece = hears_by ring k input conn piece (held_under k input.0 conn.0)
