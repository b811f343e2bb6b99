-- What holds of the event that a rule of a wait comes to, and of the bytes that are kept then.
use Rattle.std.proofs.Common.{◌≡◌, ℕ, ◌+◌, ◌≤◌, Bool, true, false, ◌&&◌, not, if◌then◌else◌, List, [], ◌∷◌, ◌++◌, length, Option, Some, None, refl, subst, arith, length-append}
use Rattle.std.specs.Prelude.{◌==◌, is_some, drop}
use Rattle.fwd_base.specs.declared.ids.InputId.{InputId}
use Rattle.fwd_base.specs.declared.ids.ConnId.{ConnId}
use Rattle.fwd_base.specs.declared.ids.LinkId.{LinkId}
use Rattle.fwd_outside.specs.Program.{Return, Ask, Execution}
use Rattle.fwd_outside.specs.Loop.{LoopEntry, LoopProgram, MayOccur, IsNotPaused}
use Rattle.fwd_outside.specs.declared.happening.Happening.{Happening}
use Rattle.fwd_outside.specs.declared.happening.Happening.TheVariants as happening
use Rattle.fwd_handshake.specs.declared.ring.Ring.{Ring}
use Rattle.fwd_handshake.specs.declared.received.Received.{Received}
use Rattle.fwd_handshake.specs.declared.received.Received.TheVariants as received
use Rattle.fwd_handshake.specs.Judgement.{ping_received, helo_received, pong_received}
use Rattle.fwd_handshake.specs.Messages.{ping}
use Rattle.fwd_secure.specs.declared.keys.Keys.{Keys}
use Rattle.fwd_secure.specs.declared.handshakes.RandomBytes.{RandomBytes}
use Rattle.fwd_secure.specs.declared.handshakes.HeldConn.{HeldConn}
use Rattle.fwd_secure.specs.declared.handshakes.LinkHandshake.{LinkHandshake}
use Rattle.fwd_secure.specs.declared.handshakes.Step.{Step}
use Rattle.fwd_secure.specs.declared.handshakes.Step.TheVariants.{AwaitsHelo, SendsPing, AwaitsPong}
use Rattle.fwd_secure.specs.declared.handshakes.KeptBytes.{KeptBytes}
use Rattle.fwd_secure.specs.declared.handshakes.KeptBytes.TheVariants.{OfConn, OfLink}
use Rattle.fwd_secure.specs.declared.outputs.Pushing.{Pushing}
use Rattle.fwd_secure.specs.declared.outputs.Pushing.TheVariants.{Sent, Waits, Fails}
use Rattle.fwd_secure.specs.Keys.{ring_at}
use Rattle.fwd_secure.specs.RandomBytes.{random_bytes}
use Rattle.fwd_secure.specs.Handshakes.{Handshakes, is_held, held_under, joined_at, is_joined_under, holding, released, entered, listens_at, left, link_at, ungreeted, keeping, counting_wrong, with_entry}
use Rattle.fwd_secure.specs.Inputs.{Brings, drops, holds_or_drops, challenges, joins_by, joins, after_message, keeping_piece, enters_or_drops, judges, hears_by, hears}
use Rattle.fwd_secure.specs.Outputs.{sends, stands, keeping_back, ends_by, awaits_pong, pinged, sends_ping, with_nonce, begins_by, greets_by, greets}
use Rattle.fwd_secure.specs.Rules.{brings_joined, brings_piece, brings_back, brings}
use Rattle.fwd_secure.proofs.Leaves.{Leaves, at_leaf, leaves_bind}

-- of an event that comes from another of the loop below
pub record Given (endless : Bool) (paused : ℕ) (brought : Happening) (k : Handshakes) (r : Happening × Handshakes) : Type 0 where
  pub allowed : MayOccur endless paused brought → MayOccur endless paused r.0
  pub failed : r.0 ≡ happening.Failed → brought ≡ happening.Failed
  pub kept : length r.1.kept ≤ length k.kept + 1

-- all programs lead somewhere
anything : {R : Type 0} (p : LoopProgram R) → Leaves (λ _. Unit {0}) p
anything (Return x) = tt
anything (Ask call go) = λ answer. anything (go answer)

pub le_same : (n : ℕ) → n ≤ n
le_same n = omega arith

pub le_more : (n : ℕ) → n ≤ n + 1
le_more n = omega arith

le_up : (a b : ℕ) → a ≤ b → a ≤ b + 1
le_up a b le = omega arith

le_both : (a b c : ℕ) → a ≤ b + 1 → b ≤ c → a ≤ c + 1
le_both a b c first second = omega arith

push_length : (kept : List KeptBytes) (bytes : KeptBytes) → length (kept ++ bytes ∷ []) ≤ length kept + 1
push_length kept bytes = omega (arith, length-append kept (bytes ∷ []))

keeping_length : (k : Handshakes) (bytes : KeptBytes) → length (keeping k bytes).kept ≤ length k.kept + 1
keeping_length k bytes = push_length k.kept bytes

module _ (endless : Bool) (paused : ℕ) (brought : Happening) (k : Handshakes) where
  abbrev Fine : Brings → Type 0
  Fine p = Leaves (Given endless paused brought k) p

  -- a Gone or a Joined of an input that isn't paused
  module _ (input : InputId) (conn : ConnId) (heard : MayOccur endless paused brought → IsNotPaused paused input) where
    gone : (u : Handshakes) → length u.kept ≤ length k.kept + 1 → Given endless paused brought k (happening.Gone input conn, u)
    gone u kept = record { allowed = heard; failed = λ is. absurd (cc is); kept = kept }

    joined : (u : Handshakes) → length u.kept ≤ length k.kept + 1 → Given endless paused brought k (happening.Joined input conn, u)
    joined u kept = record { allowed = heard; failed = λ is. absurd (cc is); kept = kept }

    drops_fine : (u : Handshakes) → length u.kept ≤ length k.kept + 1 → Fine (drops u input conn)
    drops_fine u kept = λ answer. gone u kept

    held_or_dropped : (nonce : RandomBytes) (answer : Option (Unit {0})) → Fine (holds_or_drops k input conn nonce answer)
    held_or_dropped nonce (Some done) = gone (holding k conn.0 (record { input = input; nonce = nonce; received = [] })) (le_more (length k.kept))
    held_or_dropped nonce None = drops_fine k (le_more (length k.kept))

    challenges_fine : Fine (challenges k input conn)
    challenges_fine = λ a b answer. held_or_dropped (record { first = a; second = b }) answer

    there : (b : Bool) → Given endless paused brought k (if b then happening.Joined input conn else happening.Gone input conn, k)
    there true = joined k (le_more (length k.kept))
    there false = gone k (le_more (length k.kept))

    joins_fine : Fine (joins k input conn)
    joins_fine = by (is_held k conn.0) (joined_at k conn.0)
      where
        by : (b : Bool) (o : Option ℕ) → Fine (if b then Return (happening.Gone input conn, k) else joins_by k input conn o)
        by true o = gone k (le_more (length k.kept))
        by false (Some other) = there (other == input.0)
        by false None = challenges_fine

    entered_kept : (u : Handshakes) → length (entered u input.0 conn.0).kept ≤ length u.kept
    entered_kept u = by (is_some (joined_at u conn.0))
      where
        by : (b : Bool) → length (if b then u else record u { joined = with_entry conn.0 input.0 u.joined }).kept ≤ length u.kept
        by true = le_same (length u.kept)
        by false = le_same (length u.kept)

    piece_kept : (u : Handshakes) (rest : List ℕ) → length u.kept ≤ length k.kept → length (keeping_piece u input conn rest).kept ≤ length k.kept + 1
    piece_kept u [] kept = le_up (length u.kept) (length k.kept) kept
    piece_kept u (byte ∷ bytes) kept = le_both (length (keeping u (OfConn input conn (byte ∷ bytes))).kept) (length u.kept) (length k.kept) (keeping_length u (OfConn input conn (byte ∷ bytes))) kept

    -- by the judgement of a held connection; `u` is the state without it
    module _ (u : Handshakes) (same : u.kept ≡ k.kept) where
      kept_same : length u.kept ≤ length k.kept + 1
      kept_same = rw same (le_more (length k.kept))

      entered_or_dropped : (rest : List ℕ) (answer : Option (Unit {0})) → Fine (enters_or_drops u input conn rest answer)
      entered_or_dropped rest (Some done) =
          joined (keeping_piece (entered u input.0 conn.0) input conn rest) (piece_kept (entered u input.0 conn.0) rest (subst (λ (l : List KeptBytes). length (entered u input.0 conn.0).kept ≤ length l) same (entered_kept u)))
      entered_or_dropped rest None = drops_fine u kept_same

      judges_fine : (ring : Ring) (held : HeldConn) (piece : List ℕ) (r : Received) → Fine (judges ring u input conn held piece r)
      judges_fine ring held piece received.More = gone (holding u conn.0 (record held { received = held.received ++ piece })) kept_same
      judges_fine ring held piece (received.Right len salt) = λ answer. entered_or_dropped (after_message len held.received piece) answer
      judges_fine ring held piece received.Wrong = drops_fine u kept_same

    passed : (piece : List ℕ) → (MayOccur endless paused brought → MayOccur endless paused (happening.Piece input conn piece)) → (b : Bool)
        → Given endless paused brought k (if b then happening.Piece input conn piece else happening.Gone input conn, k)
    passed piece may true = record { allowed = may; failed = λ is. absurd (cc is); kept = le_more (length k.kept) }
    passed piece may false = gone k (le_more (length k.kept))

    hears_fine : (ring : Ring) (piece : List ℕ) → (MayOccur endless paused brought → MayOccur endless paused (happening.Piece input conn piece)) → Fine (hears ring k input conn piece)
    hears_fine ring piece may = by (held_under k input.0 conn.0)
      where
        by : (o : Option HeldConn) → Fine (hears_by ring k input conn piece o)
        by (Some held) = judges_fine (released k conn.0) refl ring held piece (ping_received ring (random_bytes held.nonce) (held.received ++ piece))
        by None = passed piece may (not (is_held k conn.0) && is_joined_under k input.0 conn.0)

  -- a Room or a Broken; `u` is the state without the handshake
  module _ (u : Handshakes) (same : u.kept ≡ k.kept) (link : LinkId) where
    kept_link : length u.kept ≤ length k.kept + 1
    kept_link = rw same (le_more (length k.kept))

    room : (t : Handshakes) → length t.kept ≤ length k.kept + 1 → Given endless paused brought k (happening.Room link, t)
    room t kept = record { allowed = λ may. tt; failed = λ is. absurd (cc is); kept = kept }

    broken : (t : Handshakes) → length t.kept ≤ length k.kept + 1 → Given endless paused brought k (happening.Broken link, t)
    broken t kept = record { allowed = λ may. tt; failed = λ is. absurd (cc is); kept = kept }

    back_kept : (rest : List ℕ) → length (keeping_back u link rest).kept ≤ length k.kept + 1
    back_kept [] = kept_link
    back_kept (byte ∷ bytes) = subst (λ (l : List KeptBytes). length (keeping u (OfLink link (byte ∷ bytes))).kept ≤ length l + 1) same (keeping_length u (OfLink link (byte ∷ bytes)))

    ends_fine : (handshake : LinkHandshake) (r : Received) → Fine (ends_by u link handshake r)
    ends_fine handshake received.More = room (stands u link handshake AwaitsPong) kept_link
    ends_fine handshake (received.Right len host) = room (keeping_back u link (drop len handshake.received)) (back_kept (drop len handshake.received))
    ends_fine handshake received.Wrong = broken (counting_wrong (stands u link handshake AwaitsPong)) kept_link

    module _ (ring : Ring) where
      pong_fine : (handshake : LinkHandshake) → Fine (awaits_pong ring u link handshake)
      pong_fine handshake = ends_fine handshake (pong_received ring (random_bytes handshake.salt) handshake.nonce handshake.received)

      pinged_fine : (handshake : LinkHandshake) (pushing : Pushing) (rest : List ℕ) → Fine (pinged ring u link handshake pushing rest)
      pinged_fine handshake Sent rest = pong_fine handshake
      pinged_fine handshake Waits rest = room (stands u link handshake (SendsPing rest)) kept_link
      pinged_fine handshake Fails rest = broken (stands u link handshake (SendsPing rest)) kept_link

      ping_fine : (handshake : LinkHandshake) (rest : List ℕ) → Fine (sends_ping ring u link handshake rest)
      ping_fine handshake rest =
          leaves_bind (λ _. Unit {0}) (Given endless paused brought k) (sends link.0 rest) (λ pushed. pinged ring u link handshake pushed.0 pushed.1) (anything (sends link.0 rest)) (λ pushed _. pinged_fine handshake pushed.0 pushed.1)

      begins_fine : (handshake : LinkHandshake) (r : Received) → Fine (begins_by ring u link handshake r)
      begins_fine handshake received.More = room (stands u link handshake AwaitsHelo) kept_link
      begins_fine handshake (received.Right len nonce) = ping_fine (with_nonce handshake len nonce) (ping ring (random_bytes handshake.salt) nonce)
      begins_fine handshake received.Wrong = broken (counting_wrong (stands u link handshake AwaitsHelo)) kept_link

      step_fine : (handshake : LinkHandshake) (step : Step) → Fine (greets_by ring u link handshake step)
      step_fine handshake AwaitsHelo = begins_fine handshake (helo_received handshake.received)
      step_fine handshake (SendsPing rest) = ping_fine handshake rest
      step_fine handshake AwaitsPong = pong_fine handshake

    greets_fine : (ring : Option Ring) (handshake : LinkHandshake) (bytes : List ℕ) → Fine (greets ring u link handshake bytes)
    greets_fine (Some ring) handshake bytes = step_fine ring (record handshake { received = handshake.received ++ bytes }) handshake.step
    greets_fine None handshake bytes = broken u kept_link

module _ (endless : Bool) (paused : ℕ) (keys : Keys) (k : Handshakes) where
  -- an event that is passed on
  same_event : (x : Happening) (u : Handshakes) → length u.kept ≤ length k.kept + 1 → Given endless paused x k (x, u)
  same_event x u kept = record { allowed = λ may. may; failed = λ is. is; kept = kept }

  back_fine : (x : Happening) (link : LinkId) (bytes : List ℕ) (o : Option LinkHandshake) → Leaves (Given endless paused x k) (brings_back keys k link bytes x o)
  back_fine x link bytes (Some handshake) = greets_fine endless paused x k (ungreeted k link.0) refl link (ring_at keys.outputs handshake.output.0) handshake bytes
  back_fine x link bytes None = same_event x k (le_more (length k.kept))

  joined_fine : (input : InputId) (conn : ConnId) (o : Option Ring) → Leaves (Given endless paused (happening.Joined input conn) k) (brings_joined o k input conn)
  joined_fine input conn (Some ring) = joins_fine endless paused (happening.Joined input conn) k input conn (λ may. may)
  joined_fine input conn None = same_event (happening.Joined input conn) (if listens_at k input.0 then entered k input.0 conn.0 else k) (by (listens_at k input.0))
    where
      by : (b : Bool) → length (if b then entered k input.0 conn.0 else k).kept ≤ length k.kept + 1
      by true = le_up (length (entered k input.0 conn.0).kept) (length k.kept) (entered_kept endless paused (happening.Joined input conn) k input conn (λ may. may) k)
      by false = le_more (length k.kept)

  piece_fine : (input : InputId) (conn : ConnId) (piece : List ℕ) (o : Option Ring) → Leaves (Given endless paused (happening.Piece input conn piece) k) (brings_piece o k input conn piece)
  piece_fine input conn piece (Some ring) = hears_fine endless paused (happening.Piece input conn piece) k input conn (λ may. may.0) ring piece (λ may. may)
  piece_fine input conn piece None = same_event (happening.Piece input conn piece) k (le_more (length k.kept))

  -- what an event of the loop below becomes
  pub brings_fine : (x : Happening) → Leaves (Given endless paused x k) (brings keys k x)
  brings_fine (happening.Tick now) = same_event (happening.Tick now) k (le_more (length k.kept))
  brings_fine (happening.Joined input conn) = joined_fine input conn (ring_at keys.inputs input.0)
  brings_fine (happening.Piece input conn piece) = piece_fine input conn piece (ring_at keys.inputs input.0)
  brings_fine (happening.Gone input conn) = same_event (happening.Gone input conn) (left k input.0 conn.0) (le_more (length k.kept))
  brings_fine (happening.Room link) = back_fine (happening.Room link) link [] (link_at k link.0)
  brings_fine (happening.Back link bytes) = back_fine (happening.Back link bytes) link bytes (link_at k link.0)
  brings_fine (happening.Broken link) = same_event (happening.Broken link) k (le_more (length k.kept))
  brings_fine (happening.InputEnd input) = same_event (happening.InputEnd input) k (le_more (length k.kept))
  brings_fine happening.Stop = same_event happening.Stop k (le_more (length k.kept))
  brings_fine happening.End = same_event happening.End k (le_more (length k.kept))
  brings_fine happening.Failed = same_event happening.Failed k (le_more (length k.kept))

-- by the calls that were made
pub given_event : (endless : Bool) (paused : ℕ) (keys : Keys) (k : Handshakes) (x : Happening) (entries : List LoopEntry) (r : Happening × Handshakes)
    → Execution (brings keys k x) entries (Return r) → Given endless paused x k r
given_event endless paused keys k x entries r way = at_leaf (Given endless paused x k) (brings keys k x) entries r (brings_fine endless paused keys k x) way
