-- The rule of each call on a keyed loop: the calls on the loop below, the answer, and the state after it.
use Rattle.std.specs.Prelude.{ℕ, Bool, true, false, List, [], Option, Some, None, is_some, if◌then◌else◌}
use Rattle.fwd_base.specs.declared.ids.InputId.{InputId}
use Rattle.fwd_base.specs.declared.ids.ConnId.{ConnId}
use Rattle.fwd_base.specs.declared.ids.LinkId.{LinkId}
use Rattle.fwd_outside.specs.Program.{Return, Ask, bind}
use Rattle.fwd_outside.specs.Loop.{LoopCall, LoopAnswer, LoopProgram, Start, Wait, Dial, Push, Close, Reply, DropConn, Word, PushAnswer, Again}
use Rattle.fwd_outside.specs.declared.happening.Happening.{Happening}
use Rattle.fwd_outside.specs.declared.happening.Happening.TheVariants as happening
use Rattle.fwd_handshake.specs.declared.ring.Ring.{Ring}
use Rattle.fwd_secure.specs.declared.keys.Keys.{Keys}
use Rattle.fwd_secure.specs.declared.handshakes.RandomBytes.{RandomBytes}
use Rattle.fwd_secure.specs.declared.handshakes.LinkHandshake.{LinkHandshake}
use Rattle.fwd_secure.specs.declared.handshakes.Step.TheVariants.{AwaitsHelo}
use Rattle.fwd_secure.specs.declared.handshakes.KeptBytes.{KeptBytes}
use Rattle.fwd_secure.specs.Keys.{ring_at, has_keys}
use Rattle.fwd_secure.specs.Kept.{first_given, event_of}
use Rattle.fwd_secure.specs.Handshakes.{Handshakes, listening, listens_at, entered, left, dropped, link_at, greeting, ungreeted, closed, without_given}
use Rattle.fwd_secure.specs.Inputs.{Brings, draws, joins, hears}
use Rattle.fwd_secure.specs.Outputs.{greets}

-- ---- wait

-- a peer connects; without a ring it is passed on
abbrev pub brings_joined : Option Ring → Handshakes → InputId → ConnId → Brings
brings_joined (Some ring) k input conn = joins k input conn
brings_joined None k input conn =
    Return (happening.Joined input conn, if listens_at k input.0 then entered k input.0 conn.0 else k)

-- bytes of a connection; without a ring they are passed on
abbrev pub brings_piece : Option Ring → Handshakes → InputId → ConnId → List ℕ → Brings
brings_piece (Some ring) k input conn piece = hears ring k input conn piece
brings_piece None k input conn piece = Return (happening.Piece input conn piece, k)

-- room for a link, or bytes that came back; without a handshake under way they are passed on
abbrev pub brings_back : Keys → Handshakes → LinkId → List ℕ → Happening → Option LinkHandshake → Brings
brings_back keys k link bytes brought (Some handshake) =
    greets (ring_at keys.outputs handshake.output.0) (ungreeted k link.0) link handshake bytes
brings_back keys k link bytes brought None = Return (brought, k)

-- what an event of the loop below becomes
abbrev pub brings : Keys → Handshakes → Happening → Brings
brings keys k (happening.Joined input conn) = brings_joined (ring_at keys.inputs input.0) k input conn
brings keys k (happening.Piece input conn piece) =
    brings_piece (ring_at keys.inputs input.0) k input conn piece
brings keys k (happening.Gone input conn) = Return (happening.Gone input conn, left k input.0 conn.0)
brings keys k (happening.Room link) = brings_back keys k link [] (happening.Room link) (link_at k link.0)
brings keys k (happening.Back link bytes) =
    brings_back keys k link bytes (happening.Back link bytes) (link_at k link.0)
brings keys k brought = Return (brought, k)

-- kept bytes come first, the oldest that are not of a paused input; else the loop below is asked
abbrev pub waits_by : Keys → Handshakes → (until paused : ℕ) → Option KeptBytes → Brings
waits_by keys k until paused (Some bytes) = Return (event_of bytes, without_given k paused)
waits_by keys k until paused None = Ask (Wait until paused) (brings keys k)

abbrev pub waits : Keys → Handshakes → (until paused : ℕ) → Brings
waits keys k until paused = waits_by keys k until paused (first_given paused k.kept)

-- ---- dial and push

-- the handshake of a new link begins with the salt of its PING
abbrev pub begun : ℕ → RandomBytes → LinkHandshake
begun output salt =
    record { output = record { 0 = output }; salt = salt; nonce = []; received = []; step = AwaitsHelo }

abbrev pub begins : Handshakes → ℕ → ℕ → LoopProgram (Option ℕ × Handshakes)
begins k output link = bind draws (λ salt. Return (Some link, greeting k link (begun output salt)))

abbrev pub dialed : Option Ring → Handshakes → ℕ → Option ℕ → LoopProgram (Option ℕ × Handshakes)
dialed (Some ring) k output (Some link) = begins k output link
dialed (Some ring) k output None = Return (None, k)
dialed None k output answer = Return (answer, k)

-- a link takes nothing of the engine while its handshake is under way
abbrev pub pushes_by : Handshakes → ℕ → List ℕ → Bool → LoopProgram (PushAnswer × Handshakes)
pushes_by k link bytes true = Return (Again, k)
pushes_by k link bytes false = Ask (Push link bytes) (λ answer. Return (answer, k))

-- ---- each call

-- an answer, and the state after it
abbrev pub Answers : LoopCall → Type 0
Answers call = LoopProgram (LoopAnswer call × Handshakes)

-- passed on, with this state after it
abbrev pub passes_on : (call : LoopCall) → Handshakes → Answers call
passes_on call k = Ask call (λ answer. Return (answer, k))

-- the rule of a call, where some input or output has a key
abbrev pub secures : Keys → Handshakes → (call : LoopCall) → Answers call
secures keys k (Start ends) = passes_on (Start ends) (listening k ends)
secures keys k (Wait until paused) = waits keys k until paused
secures keys k (Dial output tag) = Ask (Dial output tag) (dialed (ring_at keys.outputs output) k output)
secures keys k (Push link bytes) = pushes_by k link bytes (is_some (link_at k link))
secures keys k (Close link) = passes_on (Close link) (closed k link)
secures keys k (Reply conn bytes) = passes_on (Reply conn bytes) k
secures keys k (DropConn conn) = passes_on (DropConn conn) (dropped k conn)
secures keys k Word = passes_on Word k

-- without keys each call is passed on
abbrev pub answers_by : Bool → Keys → Handshakes → (call : LoopCall) → Answers call
answers_by true keys k call = secures keys k call
answers_by false keys k call = passes_on call k

-- the rule of each call
abbrev pub answers : Keys → Handshakes → (call : LoopCall) → Answers call
answers keys k call = answers_by (has_keys keys) keys k call
