-- The rules of keyed outputs, with other numbers of links.
use Rattle.std.proofs.Common.{◌≡◌, ℕ, zero, suc, ◌==◌, Bool, true, false, if◌then◌else◌, List, [], ◌∷◌, ◌++◌, length, drop, Option, Some, None, refl, sym, ap, subst}
use Rattle.std.proofs.lemmas.List.{map-append}
use Rattle.fwd_base.specs.declared.ids.LinkId.{LinkId}
use Rattle.fwd_outside.specs.Program.{Return}
use Rattle.fwd_outside.specs.Loop.{LoopProgram, PushAnswer, Took, Again, Broke}
use Rattle.fwd_outside.specs.declared.happening.Happening.{Happening}
use Rattle.fwd_outside.specs.declared.happening.Happening.TheVariants.{Room, Broken}
use Rattle.fwd_handshake.specs.declared.ring.Ring.{Ring}
use Rattle.fwd_handshake.specs.declared.received.Received.{Received}
use Rattle.fwd_handshake.specs.declared.received.Received.TheVariants as received
use Rattle.fwd_handshake.specs.Judgement.{helo_received, pong_received}
use Rattle.fwd_handshake.specs.Messages.{ping}
use Rattle.fwd_secure.specs.declared.handshakes.LinkHandshake.{LinkHandshake}
use Rattle.fwd_secure.specs.declared.handshakes.Step.{Step}
use Rattle.fwd_secure.specs.declared.handshakes.Step.TheVariants.{AwaitsHelo, SendsPing, AwaitsPong}
use Rattle.fwd_secure.specs.declared.handshakes.KeptBytes.{KeptBytes}
use Rattle.fwd_secure.specs.declared.handshakes.KeptBytes.TheVariants.{OfLink}
use Rattle.fwd_secure.specs.declared.outputs.Pushing.{Pushing}
use Rattle.fwd_secure.specs.declared.outputs.Pushing.TheVariants.{Sent, Waits, Fails}
use Rattle.fwd_secure.specs.RandomBytes.{random_bytes}
use Rattle.fwd_secure.specs.Handshakes.{Handshakes, counting_wrong}
use Rattle.fwd_secure.specs.Outputs.{pushed_on, pushes, sends, stands, keeping_back, ends_by, awaits_pong, pinged, sends_ping, with_nonce, begins_by, greets_by, greets}
use Rattle.fwd_theorem_links.specs.DialedLinks.{KeepsApart}
use Rattle.fwd_theorem_links.specs.RenamedLinks.{renamed_link}
use Rattle.fwd_theorem_recorded.specs.RenamedHandshakes.{renamed_kept}
use Rattle.fwd_theorem_recorded.proofs.LoopSimulation.{LoopSimulates, simulates_then}
use Rattle.fwd_theorem_recorded.proofs.RenamedStates.{LinkStates, AreRenamed, with_others, kept_append, renamed_keeping, renamed_with}
use Rattle.fwd_theorem_recorded.proofs.InputRules.{AreAlike, IsRenamedEvent, BringsAlike, brings_alike}

module _ (rename : ℕ → ℕ) (IsDialed : ℕ → Type 0) (apart : KeepsApart rename IsDialed) where
  abbrev Alike : LoopProgram (Pushing × List ℕ) → LoopProgram (Pushing × List ℕ) → Type 0
  Alike p q = LoopSimulates rename IsDialed (λ (x y : Pushing × List ℕ). y ≡ x) p q

  abbrev IsState : Handshakes → LinkStates → Type 0
  IsState k others = AreRenamed rename IsDialed apart k.links k.kept others

  abbrev Other : Handshakes → LinkStates → Handshakes
  Other k others = with_others rename IsDialed apart k others

  abbrev Named : LinkId → LinkId
  Named link = renamed_link rename link

  -- ---- pushes of a PING

  pushed_alike : (go go2 : List ℕ → LoopProgram (Pushing × List ℕ)) → ((rest : List ℕ) → Alike (go rest) (go2 rest)) → (rest : List ℕ) (answer : PushAnswer) → Alike (pushed_on go rest answer) (pushed_on go2 rest answer)
  pushed_alike go go2 more rest (Took n) = by (n == 0)
    where
      by : (b : Bool) → Alike (if b then Return (Fails, rest) else go (drop n rest)) (if b then Return (Fails, rest) else go2 (drop n rest))
      by true = (_, refl, refl)
      by false = more (drop n rest)
  pushed_alike go go2 more rest Again = (_, refl, refl)
  pushed_alike go go2 more rest Broke = (_, refl, refl)

  pushes_alike : (most link : ℕ) (rest : List ℕ) → Alike (pushes most link rest) (pushes most (rename link) rest)
  pushes_alike zero link rest = (_, refl, refl)
  pushes_alike (suc most) link [] = (_, refl, refl)
  pushes_alike (suc most) link (byte ∷ rest) =
      (_, refl, λ answer given. pushed_alike (pushes most link) (pushes most (rename link)) (pushes_alike most link) (byte ∷ rest) answer)

  -- ---- the messages of the server

  module _ (link : LinkId) (dialed : IsDialed link.0) where
    stands_is : (k : Handshakes) (others : LinkStates) (handshake : LinkHandshake) (step : Step) → IsState k others → (after : LinkStates) × (stands (Other k others) (Named link) handshake step ≡ Other (stands k link handshake step) after) × IsState (stands k link handshake step) after
    stands_is k others handshake step is = (_, refl, renamed_with rename IsDialed apart k.links k.kept others is link.0 (record handshake { step = step }) dialed)

    waits_alike : (k : Handshakes) (others : LinkStates) (handshake : LinkHandshake) (step : Step) → IsState k others
        → BringsAlike rename IsDialed apart (Return (Room link, stands k link handshake step)) (Return (Room (Named link), stands (Other k others) (Named link) handshake step))
    waits_alike k others handshake step is =
        let after = stands_is k others handshake step is in
        brings_alike rename IsDialed apart (Room link) (stands k link handshake step) (stands (Other k others) (Named link) handshake step) after.0 after.1 after.2

    stops_alike : (k : Handshakes) (others : LinkStates) (handshake : LinkHandshake) (step : Step) → IsState k others
        → BringsAlike rename IsDialed apart (Return (Broken link, stands k link handshake step)) (Return (Broken (Named link), stands (Other k others) (Named link) handshake step))
    stops_alike k others handshake step is =
        let after = stands_is k others handshake step is in
        brings_alike rename IsDialed apart (Broken link) (stands k link handshake step) (stands (Other k others) (Named link) handshake step) after.0 after.1 after.2

    breaks_alike : (k : Handshakes) (others : LinkStates) (handshake : LinkHandshake) (step : Step) → IsState k others
        → BringsAlike rename IsDialed apart (Return (Broken link, counting_wrong (stands k link handshake step))) (Return (Broken (Named link), counting_wrong (stands (Other k others) (Named link) handshake step)))
    breaks_alike k others handshake step is =
        let after = stands_is k others handshake step is in
        brings_alike rename IsDialed apart (Broken link) (counting_wrong (stands k link handshake step)) (counting_wrong (stands (Other k others) (Named link) handshake step)) after.0 (ap counting_wrong after.1) after.2

    back_same : (k : Handshakes) (others : LinkStates) (rest : List ℕ) → keeping_back (Other k others) (Named link) rest ≡ Other (keeping_back k link rest) others
    back_same k others [] = refl
    back_same k others (byte ∷ bytes) =
        ap (λ (kept : List KeptBytes). record (Other k others) { kept = kept }) (sym (map-append (renamed_kept rename) k.kept (OfLink link (byte ∷ bytes) ∷ [])))

    back_is : (k : Handshakes) (others : LinkStates) (rest : List ℕ) → IsState k others → IsState (keeping_back k link rest) others
    back_is k others [] is = is
    back_is k others (byte ∷ bytes) is =
        renamed_keeping rename IsDialed apart k.links k.kept others is (k.kept ++ OfLink link (byte ∷ bytes) ∷ [])
        (kept_append rename IsDialed apart k.kept (OfLink link (byte ∷ bytes) ∷ []) is.kept_dialed (dialed, tt))

    module _ (ring : Ring) (k : Handshakes) (others : LinkStates) (is : IsState k others) where
      abbrev FromLink : (Handshakes → LinkId → LoopProgram (Happening × Handshakes)) → Type 0
      FromLink rule = BringsAlike rename IsDialed apart (rule k link) (rule (Other k others) (Named link))

      ends_alike : (handshake : LinkHandshake) (r : Received) → FromLink (λ u l. ends_by u l handshake r)
      ends_alike handshake received.More = waits_alike k others handshake AwaitsPong is
      ends_alike handshake (received.Right len host) =
          let rest = drop len handshake.received in
          brings_alike rename IsDialed apart (Room link) (keeping_back k link rest) (keeping_back (Other k others) (Named link) rest) others (back_same k others rest) (back_is k others rest is)
      ends_alike handshake received.Wrong = breaks_alike k others handshake AwaitsPong is

      pong_alike : (handshake : LinkHandshake) → FromLink (λ u l. awaits_pong ring u l handshake)
      pong_alike handshake = ends_alike handshake (pong_received ring (random_bytes handshake.salt) handshake.nonce handshake.received)

      pinged_alike : (handshake : LinkHandshake) (pushing : Pushing) (rest : List ℕ) → FromLink (λ u l. pinged ring u l handshake pushing rest)
      pinged_alike handshake Sent rest = pong_alike handshake
      pinged_alike handshake Waits rest = waits_alike k others handshake (SendsPing rest) is
      pinged_alike handshake Fails rest = stops_alike k others handshake (SendsPing rest) is

      ping_alike : (handshake : LinkHandshake) (rest : List ℕ) → FromLink (λ u l. sends_ping ring u l handshake rest)
      ping_alike handshake rest =
          simulates_then rename IsDialed (λ (x y : Pushing × List ℕ). y ≡ x) (AreAlike rename IsDialed apart (IsRenamedEvent rename IsDialed apart))
          (λ (x : Pushing × List ℕ). pinged ring k link handshake x.0 x.1) (λ (x : Pushing × List ℕ). pinged ring (Other k others) (Named link) handshake x.0 x.1)
          (sends link.0 rest) (sends (rename link.0) rest) (pushes_alike (length rest) link.0 rest)
          (λ x y same. subst (λ (z : Pushing × List ℕ). BringsAlike rename IsDialed apart (pinged ring k link handshake x.0 x.1) (pinged ring (Other k others) (Named link) handshake z.0 z.1)) (sym same) (pinged_alike handshake x.0 x.1))

      begins_alike : (handshake : LinkHandshake) (r : Received) → FromLink (λ u l. begins_by ring u l handshake r)
      begins_alike handshake received.More = waits_alike k others handshake AwaitsHelo is
      begins_alike handshake (received.Right len nonce) = ping_alike (with_nonce handshake len nonce) (ping ring (random_bytes handshake.salt) nonce)
      begins_alike handshake received.Wrong = breaks_alike k others handshake AwaitsHelo is

      step_alike : (handshake : LinkHandshake) (step : Step) → FromLink (λ u l. greets_by ring u l handshake step)
      step_alike handshake AwaitsHelo = begins_alike handshake (helo_received handshake.received)
      step_alike handshake (SendsPing rest) = ping_alike handshake rest
      step_alike handshake AwaitsPong = pong_alike handshake

    pub greets_alike : (ring : Option Ring) (k : Handshakes) (others : LinkStates) (handshake : LinkHandshake) (bytes : List ℕ) → IsState k others
        → BringsAlike rename IsDialed apart (greets ring k link handshake bytes) (greets ring (Other k others) (Named link) handshake bytes)
    greets_alike (Some ring) k others handshake bytes is = step_alike ring k others is (record handshake { received = handshake.received ++ bytes }) handshake.step
    greets_alike None k others handshake bytes is = brings_alike rename IsDialed apart (Broken link) k (Other k others) others refl is
