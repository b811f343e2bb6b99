-- The rules of keyed outputs: what an event of a link becomes, and the calls on the loop below.
use Rattle.std.specs.Prelude.{ℕ, zero, suc, ◌==◌, List, [], ◌∷◌, ◌++◌, length, drop, Option, Some, None, if◌then◌else◌}
use Rattle.fwd_base.specs.declared.ids.LinkId.{LinkId}
use Rattle.fwd_outside.specs.Program.{Return, Ask, bind}
use Rattle.fwd_outside.specs.Loop.{LoopProgram, Push, PushAnswer, Took, Again, Broke}
use Rattle.fwd_outside.specs.declared.happening.Happening.TheVariants.{Room, Broken}
use Rattle.fwd_handshake.specs.declared.ring.Ring.{Ring}
use Rattle.fwd_handshake.specs.declared.received.Received.{Received}
use Rattle.fwd_handshake.specs.declared.received.Received.TheVariants as received
use Rattle.fwd_handshake.specs.Judgement.{helo_received, pong_received}
use Rattle.fwd_handshake.specs.Messages.{ping}
use Rattle.fwd_secure.specs.declared.handshakes.LinkHandshake.{LinkHandshake}
use Rattle.fwd_secure.specs.declared.handshakes.Step.{Step}
use Rattle.fwd_secure.specs.declared.handshakes.Step.TheVariants.{AwaitsHelo, SendsPing, AwaitsPong}
use Rattle.fwd_secure.specs.declared.handshakes.KeptBytes.TheVariants.{OfLink}
use Rattle.fwd_secure.specs.declared.outputs.Pushing.{Pushing}
use Rattle.fwd_secure.specs.declared.outputs.Pushing.TheVariants.{Sent, Waits, Fails}
use Rattle.fwd_secure.specs.RandomBytes.{random_bytes}
use Rattle.fwd_secure.specs.Handshakes.{Handshakes, greeting, counting_wrong, keeping}
use Rattle.fwd_secure.specs.Inputs.{Brings}

-- ---- the PING is pushed

-- what follows a push of these bytes: go on with the rest, or stop
abbrev pub pushed_on : (List ℕ → LoopProgram (Pushing × List ℕ)) → List ℕ → PushAnswer → LoopProgram (Pushing × List ℕ)
pushed_on go rest (Took n) = if n == 0 then Return (Fails, rest) else go (drop n rest)
pushed_on go rest Again = Return (Waits, rest)
pushed_on go rest Broke = Return (Fails, rest)

abbrev pub pushes_nonempty : (List ℕ → LoopProgram (Pushing × List ℕ)) → ℕ → List ℕ → LoopProgram (Pushing × List ℕ)
pushes_nonempty go link [] = Return (Sent, [])
pushes_nonempty go link (byte ∷ rest) = Ask (Push link (byte ∷ rest)) (pushed_on go (byte ∷ rest))

-- push until the link took all, is full, or fails; what is left comes with it. A push that goes on takes a
-- byte at least, so as many pushes as there are bytes are enough.
abbrev pub pushes : ℕ → ℕ → List ℕ → LoopProgram (Pushing × List ℕ)
pushes zero link rest = Return (Sent, [])
pushes (suc most) link rest = pushes_nonempty (pushes most link) link rest

abbrev pub sends : ℕ → List ℕ → LoopProgram (Pushing × List ℕ)
sends link rest = pushes (length rest) link rest

-- ---- the messages of the server; `k` is the state without the handshake

-- the handshake is under way, with this step next
abbrev pub stands : Handshakes → LinkId → LinkHandshake → Step → Handshakes
stands k link handshake step = greeting k link.0 (record handshake { step = step })

-- more bytes are to come, or room
abbrev pub waits_for : Handshakes → LinkId → LinkHandshake → Step → Brings
waits_for k link handshake step = Return (Room link, stands k link handshake step)

-- a message was wrong: the link breaks, and the handshake stays as it is
abbrev pub breaks : Handshakes → LinkId → LinkHandshake → Step → Brings
breaks k link handshake step = Return (Broken link, counting_wrong (stands k link handshake step))

-- keep what came after the PONG for a later wait, if anything did
abbrev pub keeping_back : Handshakes → LinkId → List ℕ → Handshakes
keeping_back k link [] = k
keeping_back k link (byte ∷ bytes) = keeping k (OfLink link (byte ∷ bytes))

-- by the judgement of what came after the HELO
abbrev pub ends_by : Handshakes → LinkId → LinkHandshake → Received → Brings
ends_by k link handshake received.More = waits_for k link handshake AwaitsPong
ends_by k link handshake (received.Right len host) =
    Return (Room link, keeping_back k link (drop len handshake.received))
ends_by k link handshake received.Wrong = breaks k link handshake AwaitsPong

abbrev pub awaits_pong : Ring → Handshakes → LinkId → LinkHandshake → Brings
awaits_pong ring k link handshake =
    ends_by k link handshake (pong_received ring (random_bytes handshake.salt) handshake.nonce handshake.received)

-- what follows the pushes of a PING
abbrev pub pinged : Ring → Handshakes → LinkId → LinkHandshake → Pushing → List ℕ → Brings
pinged ring k link handshake Sent rest = awaits_pong ring k link handshake
pinged ring k link handshake Waits rest = waits_for k link handshake (SendsPing rest)
pinged ring k link handshake Fails rest = Return (Broken link, stands k link handshake (SendsPing rest))

-- push what is left of the PING
abbrev pub sends_ping : Ring → Handshakes → LinkId → LinkHandshake → List ℕ → Brings
sends_ping ring k link handshake rest =
    bind (sends link.0 rest) (λ pushed. pinged ring k link handshake pushed.0 pushed.1)

-- the HELO was read: its nonce counts from now on, and what came after it is left
abbrev pub with_nonce : LinkHandshake → ℕ → List ℕ → LinkHandshake
with_nonce handshake len nonce =
    record handshake { nonce = nonce; received = drop len handshake.received }

-- by the judgement of the first value that came back
abbrev pub begins_by : Ring → Handshakes → LinkId → LinkHandshake → Received → Brings
begins_by ring k link handshake received.More = waits_for k link handshake AwaitsHelo
begins_by ring k link handshake (received.Right len nonce) =
    sends_ping ring k link (with_nonce handshake len nonce) (ping ring (random_bytes handshake.salt) nonce)
begins_by ring k link handshake received.Wrong = breaks k link handshake AwaitsHelo

abbrev pub awaits_helo : Ring → Handshakes → LinkId → LinkHandshake → Brings
awaits_helo ring k link handshake = begins_by ring k link handshake (helo_received handshake.received)

abbrev pub greets_by : Ring → Handshakes → LinkId → LinkHandshake → Step → Brings
greets_by ring k link handshake AwaitsHelo = awaits_helo ring k link handshake
greets_by ring k link handshake (SendsPing rest) = sends_ping ring k link handshake rest
greets_by ring k link handshake AwaitsPong = awaits_pong ring k link handshake

-- the output of a handshake has a ring, since only a dial of such an output begins one
abbrev pub greets_with : Handshakes → LinkId → LinkHandshake → Option Ring → Brings
greets_with k link handshake (Some ring) = greets_by ring k link handshake handshake.step
greets_with k link handshake None = Return (Broken link, k)

-- The link has room, or bytes came back. It gives Room, also once the PONG is right, unless it breaks.
abbrev pub greets : Option Ring → Handshakes → LinkId → LinkHandshake → List ℕ → Brings
greets ring k link handshake bytes =
    greets_with k link (record handshake { received = handshake.received ++ bytes }) ring
