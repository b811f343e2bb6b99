-- What an event of a link changes for connections: nothing.
use Rattle.std.proofs.Common.{◌≡◌, ℕ, zero, suc, Bool, true, false, if◌then◌else◌, List, [], ◌∷◌, ◌++◌, drop, Option, Some, None, refl, ◌∙◌, ap}
use Rattle.std.specs.Prelude.{◌==◌}
use Rattle.fwd_base.specs.declared.ids.InputId.{InputId}
use Rattle.fwd_base.specs.declared.ids.ConnId.{ConnId}
use Rattle.fwd_base.specs.declared.ids.LinkId.{LinkId}
use Rattle.fwd_outside.specs.Program.{entry, Return}
use Rattle.fwd_outside.specs.Loop.{LoopCall, LoopAnswer, LoopEntry, Push, PushAnswer, Took, Again, Broke}
use Rattle.fwd_outside.specs.declared.happening.Happening.{Happening}
use Rattle.fwd_outside.specs.declared.happening.Happening.TheVariants as happening
use Rattle.fwd_handshake.specs.declared.ring.Ring.{Ring}
use Rattle.fwd_handshake.specs.declared.received.Received.{Received}
use Rattle.fwd_handshake.specs.declared.received.Received.TheVariants as received
use Rattle.fwd_handshake.specs.Judgement.{helo_received, pong_received}
use Rattle.fwd_handshake.specs.Messages.{ping}
use Rattle.fwd_secure.specs.declared.handshakes.LinkHandshake.{LinkHandshake}
use Rattle.fwd_secure.specs.declared.handshakes.Step.{Step}
use Rattle.fwd_secure.specs.declared.handshakes.Step.TheVariants.{AwaitsHelo, SendsPing, AwaitsPong}
use Rattle.fwd_secure.specs.declared.handshakes.KeptBytes.TheVariants.{OfLink}
use Rattle.fwd_secure.specs.declared.outputs.Pushing.{Pushing}
use Rattle.fwd_secure.specs.declared.outputs.Pushing.TheVariants.{Sent, Waits, Fails}
use Rattle.fwd_secure.specs.RandomBytes.{random_bytes}
use Rattle.fwd_secure.specs.Handshakes.{Handshakes, counting_wrong}
use Rattle.fwd_secure.specs.Outputs.{pushed_on, pushes, sends, stands, keeping_back, ends_by, pinged, sends_ping, with_nonce, begins_by, greets_by, greets}
use Rattle.fwd_theorem_keys.specs.Traffic.{said_in, said_by, ends_in, has_ended}
use Rattle.fwd_theorem_keys.proofs.Steps.{Always, always_map, always_bind}
use Rattle.fwd_theorem_keys.proofs.Entries.{neither, ArePushes, IsPush, pushes_append}
use Rattle.fwd_theorem_keys.proofs.KeptOfConn.{has_kept, kept_bytes, has_more, bytes_more}
use Rattle.fwd_theorem_keys.proofs.StreamStatus.{is_given}

-- the calls that send bytes are pushes
sends_pushes : (most link : ℕ) (rest : List ℕ) → Always (λ own x. ArePushes own) (pushes most link rest)
sends_pushes zero link rest = tt
sends_pushes (suc most) link [] = tt
sends_pushes (suc most) link (byte ∷ rest) = λ answer. by (sends_pushes most link) answer
  where
    go_on : ((left : List ℕ) → Always (λ own x. ArePushes own) (pushes most link left)) → (n : ℕ) (b : Bool) → Always (λ own x. ArePushes (entry (Push link (byte ∷ rest)) (Took n) ∷ own)) (if b then Return (Fails, byte ∷ rest) else pushes most link (drop n (byte ∷ rest)))
    go_on later n true = (tt, tt)
    go_on later n false = always_map (λ own x. ArePushes own) (λ own x. ArePushes (entry (Push link (byte ∷ rest)) (Took n) ∷ own)) (pushes most link (drop n (byte ∷ rest))) (λ own x are. (tt, are)) (later (drop n (byte ∷ rest)))

    by : ((left : List ℕ) → Always (λ own x. ArePushes own) (pushes most link left)) → (answer : PushAnswer) → Always (λ own x. ArePushes (entry (Push link (byte ∷ rest)) answer ∷ own)) (pushed_on (pushes most link) (byte ∷ rest) answer)
    by later (Took n) = go_on later n (n == 0)
    by later Again = (tt, tt)
    by later Broke = (tt, tt)

module _ (input : InputId) (conn : ConnId) where
  push_silent : (call : LoopCall) (answer : LoopAnswer call) → IsPush call → (said_in input conn call answer ≡ []) × (ends_in input conn call answer ≡ false)
  push_silent (Push link bytes) answer is = (refl, refl)
  push_silent call answer is = absurd is

  pub pushes_silent : (own : List LoopEntry) → ArePushes own → said_by input conn own ≡ []
  pushes_silent [] are = refl
  pushes_silent (e ∷ own) are = ap (λ (l : List ℕ). l ++ said_by input conn own) ((push_silent e.call e.answer are.0).0) ∙ pushes_silent own are.1

  pub pushes_last : (own : List LoopEntry) → ArePushes own → has_ended input conn own ≡ false
  pushes_last [] are = refl
  pushes_last (e ∷ own) are = neither (ends_in input conn e.call e.answer) (has_ended input conn own) ((push_silent e.call e.answer are.0).1) (pushes_last own are.1)

  -- `u` is the state before
  pub record FromLink (u : Handshakes) (own : List LoopEntry) (r : Happening × Handshakes) : Type 0 where
    pub pushes : ArePushes own
    pub held : r.1.held ≡ u.held
    pub joined : r.1.joined ≡ u.joined
    pub has : has_kept input conn r.1.kept ≡ true → has_kept input conn u.kept ≡ true
    pub bytes : kept_bytes input conn r.1.kept ≡ kept_bytes input conn u.kept
    pub event : is_given input conn r.0 ≡ false

  module _ (u : Handshakes) (link : LinkId) (own : List LoopEntry) (are : ArePushes own) where
    on : ArePushes (own ++ [])
    on = pushes_append own [] are tt

    room : (t : Handshakes) → t.held ≡ u.held → t.joined ≡ u.joined → t.kept ≡ u.kept → FromLink u (own ++ []) (happening.Room link, t)
    room t held joined kept = record { pushes = on; held = held; joined = joined; has = λ is. rw kept at is; bytes = ap (kept_bytes input conn) kept; event = refl }

    broken : (t : Handshakes) → t.held ≡ u.held → t.joined ≡ u.joined → t.kept ≡ u.kept → FromLink u (own ++ []) (happening.Broken link, t)
    broken t held joined kept = record { pushes = on; held = held; joined = joined; has = λ is. rw kept at is; bytes = ap (kept_bytes input conn) kept; event = refl }

    kept_back : (rest : List ℕ) → FromLink u (own ++ []) (happening.Room link, keeping_back u link rest)
    kept_back [] = room u refl refl refl
    kept_back (byte ∷ bytes) = record {
      pushes = on;
      held = refl;
      joined = refl;
      has = has_more input conn u.kept (OfLink link (byte ∷ bytes)) refl;
      bytes = bytes_more input conn u.kept (OfLink link (byte ∷ bytes)) refl;
      event = refl;
    }

    ends_quiet : (handshake : LinkHandshake) (r : Received) → Always (λ more y. FromLink u (own ++ more) y) (ends_by u link handshake r)
    ends_quiet handshake received.More = room (stands u link handshake AwaitsPong) refl refl refl
    ends_quiet handshake (received.Right len host) = kept_back (drop len handshake.received)
    ends_quiet handshake received.Wrong = broken (counting_wrong (stands u link handshake AwaitsPong)) refl refl refl

    pinged_quiet : (ring : Ring) (handshake : LinkHandshake) (pushing : Pushing) (rest : List ℕ) → Always (λ more y. FromLink u (own ++ more) y) (pinged ring u link handshake pushing rest)
    pinged_quiet ring handshake Sent rest = ends_quiet handshake (pong_received ring (random_bytes handshake.salt) handshake.nonce handshake.received)
    pinged_quiet ring handshake Waits rest = room (stands u link handshake (SendsPing rest)) refl refl refl
    pinged_quiet ring handshake Fails rest = broken (stands u link handshake (SendsPing rest)) refl refl refl

  module _ (u : Handshakes) (link : LinkId) (ring : Ring) where
    ping_quiet : (handshake : LinkHandshake) (rest : List ℕ) → Always (FromLink u) (sends_ping ring u link handshake rest)
    ping_quiet handshake rest =
        always_bind (FromLink u) (sends link.0 rest) (λ pushed. pinged ring u link handshake pushed.0 pushed.1)
        (always_map (λ own (x : Pushing × List ℕ). ArePushes own) (λ own (x : Pushing × List ℕ). Always (λ more y. FromLink u (own ++ more) y) (pinged ring u link handshake x.0 x.1)) (sends link.0 rest)
        (λ own (x : Pushing × List ℕ) are. pinged_quiet u link own are ring handshake x.0 x.1) (sends_pushes _ link.0 rest))

    begins_quiet : (handshake : LinkHandshake) (r : Received) → Always (FromLink u) (begins_by ring u link handshake r)
    begins_quiet handshake received.More = room u link [] tt (stands u link handshake AwaitsHelo) refl refl refl
    begins_quiet handshake (received.Right len nonce) = ping_quiet (with_nonce handshake len nonce) (ping ring (random_bytes handshake.salt) nonce)
    begins_quiet handshake received.Wrong = broken u link [] tt (counting_wrong (stands u link handshake AwaitsHelo)) refl refl refl

    step_quiet : (handshake : LinkHandshake) (step : Step) → Always (FromLink u) (greets_by ring u link handshake step)
    step_quiet handshake AwaitsHelo = begins_quiet handshake (helo_received handshake.received)
    step_quiet handshake (SendsPing rest) = ping_quiet handshake rest
    step_quiet handshake AwaitsPong = ends_quiet u link [] tt handshake (pong_received ring (random_bytes handshake.salt) handshake.nonce handshake.received)

  pub greets_quiet : (ring : Option Ring) (u : Handshakes) (link : LinkId) (handshake : LinkHandshake) (bytes : List ℕ) → Always (FromLink u) (greets ring u link handshake bytes)
  greets_quiet (Some ring) u link handshake bytes = step_quiet u link ring (record handshake { received = handshake.received ++ bytes }) handshake.step
  greets_quiet None u link handshake bytes = broken u link [] tt u refl refl refl
