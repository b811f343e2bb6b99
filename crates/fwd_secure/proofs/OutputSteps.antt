-- The calls of the rules of keyed outputs.
use Rattle.std.proofs.Common.{◌≡◌, ℕ, ◌++◌, List, drop, Option, Some, None, Result, Ok, Err, IfOk, refl, sym, ◌∙◌, ap, subst}
use mathlib.Core.Path.{fun_ext}
use Rattle.fwd_base.specs.declared.ids.LinkId.{LinkId}
use Rattle.fwd_outside.specs.Program.{Return, bind}
use Rattle.fwd_outside.specs.Log.{Completes, RunsProgram}
use Rattle.fwd_outside.specs.Loop.{LoopLog, loop_outcome}
use Rattle.fwd_outside.specs.declared.happening.Happening.{Happening}
use Rattle.fwd_outside.specs.declared.happening.Happening.TheVariants.{Broken}
use Rattle.fwd_handshake.specs.declared.ring.Ring.{Ring}
use Rattle.fwd_handshake.specs.declared.received.Received.{Received}
use Rattle.fwd_handshake.specs.declared.received.Received.TheVariants as received
use Rattle.fwd_handshake.specs.Judgement.{helo_received, pong_received}
use Rattle.fwd_handshake.specs.Messages.{ping}
use Rattle.fwd_secure.specs.declared.handshakes.LinkHandshake.{LinkHandshake}
use Rattle.fwd_secure.specs.declared.handshakes.Step.{Step}
use Rattle.fwd_secure.specs.declared.handshakes.Step.TheVariants.{AwaitsHelo, SendsPing, AwaitsPong}
use Rattle.fwd_secure.specs.declared.outputs.Pushing.{Pushing}
use Rattle.fwd_secure.specs.declared.outputs.Pushing.TheVariants.{Sent, Waits, Fails}
use Rattle.fwd_secure.specs.Outcome.{with_state}
use Rattle.fwd_secure.specs.RandomBytes.{random_bytes}
use Rattle.fwd_secure.specs.Handshakes.{Handshakes}
use Rattle.fwd_secure.specs.Inputs.{Brings}
use Rattle.fwd_secure.specs.Outputs.{sends, stands, ends_by, awaits_pong, pinged, sends_ping, with_nonce, begins_by, awaits_helo, greets_by, greets}
use Rattle.fwd_secure.proofs.RuleSteps.{by_program, is_returned, pure_call, goes_behind, stopped_after, stopped_inside}

-- ---- one step after another

module _ (ring : Ring) (k : Handshakes) (link : LinkId) (handshake : LinkHandshake) where
  pub pong_as : (r : Received) → r ≡ pong_received ring (random_bytes handshake.salt) handshake.nonce handshake.received → awaits_pong ring k link handshake ≡ ends_by k link handshake r
  pong_as r is = ap (ends_by k link handshake) (sym is)

  pub helo_as : (r : Received) → r ≡ helo_received handshake.received → awaits_helo ring k link handshake ≡ begins_by ring k link handshake r
  helo_as r is = ap (begins_by ring k link handshake) (sym is)

  -- by a function without calls
  pub pong_done : {E : Type 0} (r : Received) → r ≡ pong_received ring (random_bytes handshake.salt) handshake.nonce handshake.received → (result : Result Happening E) (u : Handshakes)
      → IfOk result (λ y. ends_by k link handshake r ≡ Return (y, u)) → IfOk result (λ y. awaits_pong ring k link handshake ≡ Return (y, u))
  pong_done r is (Ok y) u done = pong_as r is ∙ done
  pong_done r is (Err e) u done = tt

  pub helo_done : {E : Type 0} (a : LoopLog) (r : Received) → r ≡ helo_received handshake.received → (result : Result Happening E) (u : Handshakes)
      → IfOk result (λ y. begins_by ring k link handshake r ≡ Return (y, u)) → RunsProgram a a (awaits_helo ring k link handshake) (with_state (loop_outcome result) u)
  helo_done a r is result u done = by_program a a (begins_by ring k link handshake r) (awaits_helo ring k link handshake) (with_state (loop_outcome result) u) (helo_as r is) (pure_call a (begins_by ring k link handshake r) result u done)

  -- a right HELO is answered with the PING
  pub helo_answered : (a b : LoopLog) (len : ℕ) (nonce message rest : List ℕ) (r : Option (Happening × Handshakes)) → received.Right len nonce ≡ helo_received handshake.received
      → message ≡ ping ring (random_bytes handshake.salt) nonce → rest ≡ drop len handshake.received
      → RunsProgram a b (sends_ping ring k link (record handshake { nonce = nonce; received = rest }) message) r → RunsProgram a b (awaits_helo ring k link handshake) r
  helo_answered a b len nonce message rest r is of_message of_rest runs =
      by_program a b (sends_ping ring k link (record handshake { nonce = nonce; received = rest }) message) (awaits_helo ring k link handshake) r
      (helo_as (received.Right len nonce) is
      ∙ ap (λ (m : List ℕ). sends_ping ring k link (with_nonce handshake len nonce) m) (sym of_message)
      ∙ ap (λ (l : List ℕ). sends_ping ring k link (record handshake { nonce = nonce; received = l }) message) (sym of_rest))
      runs

  abbrev after_pushes : Pushing × List ℕ → Brings
  after_pushes pushed = pinged ring k link handshake pushed.0 pushed.1

  module _ (a b : LoopLog) (rest bytes : List ℕ) (same : bytes ≡ rest) where
    -- memory was out before all was sent
    pub ping_unsent : RunsProgram a b (sends link.0 bytes) None → RunsProgram a b (sends_ping ring k link handshake rest) None
    ping_unsent runs = stopped_inside a b (sends link.0 rest) after_pushes (subst (λ (l : List ℕ). RunsProgram a b (sends link.0 l) None) same runs)

    -- the pushes ended so, and this many bytes were taken
    module _ (p : Pushing) (taken : ℕ) (first : Completes a b (sends link.0 bytes) (p, drop taken bytes)) where
      sent_some : Completes a b (sends link.0 rest) (p, drop taken rest)
      sent_some = subst (λ (l : List ℕ). Completes a b (sends link.0 l) (p, drop taken l)) same first

      pub ping_in_vain : RunsProgram a b (sends_ping ring k link handshake rest) None
      ping_in_vain = stopped_after a b (sends link.0 rest) (p, drop taken rest) after_pushes sent_some

      module _ (pushing : Pushing) (left : List ℕ) (of_p : p ≡ pushing) (of_left : left ≡ drop taken rest) where
        sent : Completes a b (sends link.0 rest) (pushing, left)
        sent = subst (λ (l : List ℕ). Completes a b (sends link.0 rest) (pushing, l)) (sym of_left) (subst (λ (x : Pushing). Completes a b (sends link.0 rest) (x, drop taken rest)) of_p sent_some)

        -- by a function without calls
        pub ping_done : {E : Type 0} (result : Result Happening E) (u : Handshakes) → IfOk result (λ y. pinged ring k link handshake pushing left ≡ Return (y, u))
            → RunsProgram a b (sends_ping ring k link handshake rest) (with_state (loop_outcome result) u)
        ping_done result u done =
            goes_behind a b b (sends link.0 rest) (pushing, left) after_pushes (with_state (loop_outcome result) u) sent (pure_call b (pinged ring k link handshake pushing left) result u done)

        pub ping_ended : (y : Happening) (u : Handshakes) → pinged ring k link handshake pushing left ≡ Return (y, u) → RunsProgram a b (sends_ping ring k link handshake rest) (Some (y, u))
        ping_ended y u is = goes_behind a b b (sends link.0 rest) (pushing, left) after_pushes (Some (y, u)) sent (is_returned b (pinged ring k link handshake pushing left) (y, u) is)

  abbrev broken_at : Handshakes → Brings
  broken_at u = Return (Broken link, u)

  -- the link failed
  pub ping_failed : (left : List ℕ) (u : Handshakes) → u ≡ stands k link handshake (SendsPing left) → pinged ring k link handshake Fails left ≡ Return (Broken link, u)
  ping_failed left u is = ap broken_at (sym is)

-- ---- the step that a handshake stands at doesn't count, since its rule is told the step

module _ (ring : Ring) (k : Handshakes) (link : LinkId) (step : Step) where
  ends_same : (handshake : LinkHandshake) (r : Received) → ends_by k link (record handshake { step = step }) r ≡ ends_by k link handshake r
  ends_same handshake received.More = refl
  ends_same handshake (received.Right len host) = refl
  ends_same handshake received.Wrong = refl

  pong_same : (handshake : LinkHandshake) → awaits_pong ring k link (record handshake { step = step }) ≡ awaits_pong ring k link handshake
  pong_same handshake = ends_same handshake (pong_received ring (random_bytes handshake.salt) handshake.nonce handshake.received)

  pinged_same : (handshake : LinkHandshake) (p : Pushing) (left : List ℕ) → pinged ring k link (record handshake { step = step }) p left ≡ pinged ring k link handshake p left
  pinged_same handshake Sent left = pong_same handshake
  pinged_same handshake Waits left = refl
  pinged_same handshake Fails left = refl

  abbrev then_pinged : LinkHandshake → Pushing × List ℕ → Brings
  then_pinged handshake pushed = pinged ring k link handshake pushed.0 pushed.1

  then_same : (handshake : LinkHandshake) → then_pinged (record handshake { step = step }) ≡ then_pinged handshake
  then_same handshake = fun_ext (λ (pushed : Pushing × List ℕ). pinged_same handshake pushed.0 pushed.1)

  ping_same : (handshake : LinkHandshake) (rest : List ℕ) → sends_ping ring k link (record handshake { step = step }) rest ≡ sends_ping ring k link handshake rest
  ping_same handshake rest = ap (λ (next : Pushing × List ℕ → Brings). bind (sends link.0 rest) next) (then_same handshake)

  begins_same : (handshake : LinkHandshake) (r : Received) → begins_by ring k link (record handshake { step = step }) r ≡ begins_by ring k link handshake r
  begins_same handshake received.More = refl
  begins_same handshake (received.Right len nonce) = ping_same (with_nonce handshake len nonce) (ping ring (random_bytes handshake.salt) nonce)
  begins_same handshake received.Wrong = refl

  greets_same : (handshake : LinkHandshake) (t : Step) → greets_by ring k link (record handshake { step = step }) t ≡ greets_by ring k link handshake t
  greets_same handshake AwaitsHelo = begins_same handshake (helo_received handshake.received)
  greets_same handshake (SendsPing rest) = ping_same handshake rest
  greets_same handshake AwaitsPong = pong_same handshake

  -- the handshake that a step was taken from
  pub step_taken : (a b : LoopLog) (handshake : LinkHandshake) (t : Step) (r : Option (Happening × Handshakes)) → t ≡ handshake.step
      → RunsProgram a b (greets_by ring k link (record handshake { step = step }) t) r → RunsProgram a b (greets_by ring k link handshake handshake.step) r
  step_taken a b handshake t r is runs =
      by_program a b (greets_by ring k link (record handshake { step = step }) t) (greets_by ring k link handshake handshake.step) r
      (ap (greets_by ring k link handshake) (sym is) ∙ sym (greets_same handshake t)) runs

-- ---- bytes came back, or there is room

module _ (k : Handshakes) (link : LinkId) (handshake : LinkHandshake) (bytes : List ℕ) (ring_of : Option Ring) where
  pub greets_ring : (a b : LoopLog) (ring : Ring) (all : List ℕ) (r : Option (Happening × Handshakes)) → Some ring ≡ ring_of → all ≡ handshake.received ++ bytes
      → RunsProgram a b (greets_by ring k link (record handshake { received = all }) handshake.step) r → RunsProgram a b (greets ring_of k link handshake bytes) r
  greets_ring a b ring all r is of_all runs =
      by_program a b (greets_by ring k link (record handshake { received = all }) handshake.step) (greets ring_of k link handshake bytes) r
      (ap (λ (o : Option Ring). greets o k link handshake bytes) (sym is)
      ∙ ap (λ (l : List ℕ). greets_by ring k link (record handshake { received = l }) handshake.step) (sym of_all))
      runs

  pub greets_none : (a : LoopLog) → None ≡ ring_of → RunsProgram a a (greets ring_of k link handshake bytes) (Some (Broken link, k))
  greets_none a is = is_returned a (greets ring_of k link handshake bytes) (Broken link, k) (ap (λ (o : Option Ring). greets o k link handshake bytes) (sym is))
