-- The lists of a keyed loop's state stay in rising order.
use Rattle.std.proofs.Common.{ℕ, Bool, true, false, if◌then◌else◌, List, [], ◌∷◌, ◌++◌, Option, Some, None, subst, sym}
use Rattle.std.specs.Prelude.{◌==◌, is_some, drop}
use Rattle.fwd_base.specs.declared.ids.InputId.{InputId}
use Rattle.fwd_base.specs.declared.ids.ConnId.{ConnId}
use Rattle.fwd_base.specs.declared.ids.LinkId.{LinkId}
use Rattle.fwd_outside.specs.Program.{Return, Execution}
use Rattle.fwd_outside.specs.Loop.{LoopCall, LoopAnswer, LoopEntry, LoopProgram, Start, Wait, Dial, Push, Close, Reply, DropConn, Word}
use Rattle.fwd_outside.specs.declared.happening.Happening.{Happening}
use Rattle.fwd_outside.specs.declared.happening.Happening.TheVariants as happening
use Rattle.fwd_handshake.specs.declared.ring.Ring.{Ring}
use Rattle.fwd_handshake.specs.declared.received.Received.{Received}
use Rattle.fwd_handshake.specs.declared.received.Received.TheVariants as received
use Rattle.fwd_handshake.specs.Judgement.{ping_received, helo_received, pong_received}
use Rattle.fwd_handshake.specs.Messages.{ping}
use Rattle.fwd_secure.specs.declared.keys.Keys.{Keys}
use Rattle.fwd_secure.specs.declared.handshakes.RandomBytes.{RandomBytes}
use Rattle.fwd_secure.specs.declared.handshakes.HeldConn.{HeldConn}
use Rattle.fwd_secure.specs.declared.handshakes.LinkHandshake.{LinkHandshake}
use Rattle.fwd_secure.specs.declared.handshakes.Step.{Step}
use Rattle.fwd_secure.specs.declared.handshakes.Step.TheVariants.{AwaitsHelo, SendsPing, AwaitsPong}
use Rattle.fwd_secure.specs.declared.handshakes.KeptBytes.{KeptBytes}
use Rattle.fwd_secure.specs.declared.outputs.Pushing.{Pushing}
use Rattle.fwd_secure.specs.declared.outputs.Pushing.TheVariants.{Sent, Waits, Fails}
use Rattle.fwd_secure.specs.Keys.{ring_at, has_keys}
use Rattle.fwd_secure.specs.Kept.{first_given}
use Rattle.fwd_secure.specs.RandomBytes.{random_bytes}
use Rattle.fwd_secure.specs.Handshakes.{Handshakes, no_handshakes, is_held, held_under, joined_at, is_joined_under, holding, released, entered, listens_at, left, link_at, greeting, ungreeted, counting_wrong, with_entry, without_entry}
use Rattle.fwd_secure.specs.Inputs.{drops, holds_or_drops, joins_by, joins, after_message, keeping_piece, enters_or_drops, judges, hears_by, hears}
use Rattle.fwd_secure.specs.Outputs.{sends, stands, keeping_back, ends_by, awaits_pong, pinged, sends_ping, with_nonce, begins_by, greets_by, greets}
use Rattle.fwd_secure.specs.Rules.{brings_joined, brings_piece, brings_back, brings, waits_by, begun, dialed, pushes_by, secures, answers_by, answers}
use Rattle.fwd_secure.specs.Carried.{Carries}
use Rattle.fwd_theorem_keys.proofs.Maps.{Rising, with_rising, without_rising}
use Rattle.fwd_theorem_keys.proofs.Steps.{Always, always, always_any, always_bind}

pub record AreRising (k : Handshakes) : Type 0 where
  pub held : Rising k.held
  pub joined : Rising k.joined
  pub links : Rising k.links

pub none_rising : AreRising no_handshakes
none_rising = record { held = tt; joined = tt; links = tt }

abbrev Fine : {X : Type 0} → LoopProgram (X × Handshakes) → Type 0
Fine p = Always (λ own r. AreRising r.1) p

-- ---- inputs

module _ (input : InputId) (conn : ConnId) where
  drops_fine : (u : Handshakes) → AreRising u → Fine (drops u input conn)
  drops_fine u is = λ answer. is

  held_rising : (u : Handshakes) (h : HeldConn) → AreRising u → AreRising (holding u conn.0 h)
  held_rising u h is = record { held = with_rising conn.0 h u.held is.held; joined = is.joined; links = is.links }

  released_rising : (u : Handshakes) → AreRising u → AreRising (released u conn.0)
  released_rising u is = record { held = without_rising conn.0 u.held is.held; joined = is.joined; links = is.links }

  entered_rising : (u : Handshakes) → AreRising u → AreRising (entered u input.0 conn.0)
  entered_rising u is = by (is_some (joined_at u conn.0))
    where
      by : (b : Bool) → AreRising (if b then u else record u { joined = with_entry conn.0 input.0 u.joined })
      by true = is
      by false = record { held = is.held; joined = with_rising conn.0 input.0 u.joined is.joined; links = is.links }

  left_rising : (u : Handshakes) → AreRising u → AreRising (left u input.0 conn.0)
  left_rising u is = by (is_some (held_under u input.0 conn.0)) (is_joined_under u input.0 conn.0)
    where
      by : (a b : Bool) → AreRising (record u { held = if a then without_entry conn.0 u.held else u.held; joined = if b then without_entry conn.0 u.joined else u.joined })
      by true true = record { held = without_rising conn.0 u.held is.held; joined = without_rising conn.0 u.joined is.joined; links = is.links }
      by true false = record { held = without_rising conn.0 u.held is.held; joined = is.joined; links = is.links }
      by false true = record { held = is.held; joined = without_rising conn.0 u.joined is.joined; links = is.links }
      by false false = record { held = is.held; joined = is.joined; links = is.links }

  piece_rising : (u : Handshakes) (rest : List ℕ) → AreRising u → AreRising (keeping_piece u input conn rest)
  piece_rising u [] is = is
  piece_rising u (byte ∷ bytes) is = record { held = is.held; joined = is.joined; links = is.links }

  held_or_dropped : (u : Handshakes) (nonce : RandomBytes) (answer : Option (Unit {0})) → AreRising u → Fine (holds_or_drops u input conn nonce answer)
  held_or_dropped u nonce (Some done) is = held_rising u (record { input = input; nonce = nonce; received = [] }) is
  held_or_dropped u nonce None is = drops_fine u is

  joins_fine : (u : Handshakes) → AreRising u → Fine (joins u input conn)
  joins_fine u is = by (is_held u conn.0) (joined_at u conn.0)
    where
      there : (b : Bool) → Fine (Return (if b then happening.Joined input conn else happening.Gone input conn, u))
      there b = is

      by : (b : Bool) (o : Option ℕ) → Fine (if b then Return (happening.Gone input conn, u) else joins_by u input conn o)
      by true o = is
      by false (Some other) = there (other == input.0)
      by false None = λ a b answer. held_or_dropped u (record { first = a; second = b }) answer is

  judges_fine : (ring : Ring) (u : Handshakes) (held : HeldConn) (piece : List ℕ) (r : Received) → AreRising u → Fine (judges ring u input conn held piece r)
  judges_fine ring u held piece received.More is = held_rising u (record held { received = held.received ++ piece }) is
  judges_fine ring u held piece (received.Right len salt) is = λ answer. by answer
    where
      by : (answer : Option (Unit {0})) → Fine (enters_or_drops u input conn (after_message len held.received piece) answer)
      by (Some done) = piece_rising (entered u input.0 conn.0) (after_message len held.received piece) (entered_rising u is)
      by None = drops_fine u is
  judges_fine ring u held piece received.Wrong is = drops_fine u is

  hears_fine : (ring : Ring) (u : Handshakes) (piece : List ℕ) → AreRising u → Fine (hears ring u input conn piece)
  hears_fine ring u piece is = by (held_under u input.0 conn.0)
    where
      by : (o : Option HeldConn) → Fine (hears_by ring u input conn piece o)
      by (Some held) = judges_fine ring (released u conn.0) held piece (ping_received ring (random_bytes held.nonce) (held.received ++ piece)) (released_rising u is)
      by None = is

-- ---- outputs

module _ (link : LinkId) where
  greeting_rising : (u : Handshakes) (handshake : LinkHandshake) → AreRising u → AreRising (greeting u link.0 handshake)
  greeting_rising u handshake is = record { held = is.held; joined = is.joined; links = with_rising link.0 handshake u.links is.links }

  stands_rising : (u : Handshakes) (handshake : LinkHandshake) (step : Step) → AreRising u → AreRising (stands u link handshake step)
  stands_rising u handshake step is = greeting_rising u (record handshake { step = step }) is

  wrong_rising : (u : Handshakes) → AreRising u → AreRising (counting_wrong u)
  wrong_rising u is = record { held = is.held; joined = is.joined; links = is.links }

  back_rising : (u : Handshakes) (rest : List ℕ) → AreRising u → AreRising (keeping_back u link rest)
  back_rising u [] is = is
  back_rising u (byte ∷ bytes) is = record { held = is.held; joined = is.joined; links = is.links }

  module _ (ring : Ring) (u : Handshakes) (is : AreRising u) where
    ends_fine : (handshake : LinkHandshake) (r : Received) → Fine (ends_by u link handshake r)
    ends_fine handshake received.More = stands_rising u handshake AwaitsPong is
    ends_fine handshake (received.Right len host) = back_rising u (drop len handshake.received) is
    ends_fine handshake received.Wrong = wrong_rising (stands u link handshake AwaitsPong) (stands_rising u handshake AwaitsPong is)

    pong_fine : (handshake : LinkHandshake) → Fine (awaits_pong ring u link handshake)
    pong_fine handshake = ends_fine handshake (pong_received ring (random_bytes handshake.salt) handshake.nonce handshake.received)

    pinged_fine : (handshake : LinkHandshake) (pushing : Pushing) (rest : List ℕ) → Fine (pinged ring u link handshake pushing rest)
    pinged_fine handshake Sent rest = pong_fine handshake
    pinged_fine handshake Waits rest = stands_rising u handshake (SendsPing rest) is
    pinged_fine handshake Fails rest = stands_rising u handshake (SendsPing rest) is

    ping_fine : (handshake : LinkHandshake) (rest : List ℕ) → Fine (sends_ping ring u link handshake rest)
    ping_fine handshake rest =
        always_bind (λ own r. AreRising r.1) (sends link.0 rest) (λ pushed. pinged ring u link handshake pushed.0 pushed.1)
        (always_any (λ own (x : Pushing × List ℕ). Fine (pinged ring u link handshake x.0 x.1)) (sends link.0 rest) (λ own (x : Pushing × List ℕ). pinged_fine handshake x.0 x.1))

    begins_fine : (handshake : LinkHandshake) (r : Received) → Fine (begins_by ring u link handshake r)
    begins_fine handshake received.More = stands_rising u handshake AwaitsHelo is
    begins_fine handshake (received.Right len nonce) = ping_fine (with_nonce handshake len nonce) (ping ring (random_bytes handshake.salt) nonce)
    begins_fine handshake received.Wrong = wrong_rising (stands u link handshake AwaitsHelo) (stands_rising u handshake AwaitsHelo is)

    step_fine : (handshake : LinkHandshake) (step : Step) → Fine (greets_by ring u link handshake step)
    step_fine handshake AwaitsHelo = begins_fine handshake (helo_received handshake.received)
    step_fine handshake (SendsPing rest) = ping_fine handshake rest
    step_fine handshake AwaitsPong = pong_fine handshake

  greets_fine : (ring : Option Ring) (u : Handshakes) (handshake : LinkHandshake) (bytes : List ℕ) → AreRising u → Fine (greets ring u link handshake bytes)
  greets_fine (Some ring) u handshake bytes is = step_fine ring u is (record handshake { received = handshake.received ++ bytes }) handshake.step
  greets_fine None u handshake bytes is = is

-- ---- each call

module _ (keys : Keys) (k : Handshakes) (is : AreRising k) where
  back_fine : (x : Happening) (link : LinkId) (bytes : List ℕ) (o : Option LinkHandshake) → Fine (brings_back keys k link bytes x o)
  back_fine x link bytes (Some handshake) =
      greets_fine link (ring_at keys.outputs handshake.output.0) (ungreeted k link.0) handshake bytes (record { held = is.held; joined = is.joined; links = without_rising link.0 k.links is.links })
  back_fine x link bytes None = is

  joined_fine : (input : InputId) (conn : ConnId) (o : Option Ring) → Fine (brings_joined o k input conn)
  joined_fine input conn (Some ring) = joins_fine input conn k is
  joined_fine input conn None = by (listens_at k input.0)
    where
      by : (b : Bool) → AreRising (if b then entered k input.0 conn.0 else k)
      by true = entered_rising input conn k is
      by false = is

  piece_fine : (input : InputId) (conn : ConnId) (piece : List ℕ) (o : Option Ring) → Fine (brings_piece o k input conn piece)
  piece_fine input conn piece (Some ring) = hears_fine input conn ring k piece is
  piece_fine input conn piece None = is

  brings_fine : (x : Happening) → Fine (brings keys k x)
  brings_fine (happening.Tick now) = is
  brings_fine (happening.Joined input conn) = joined_fine input conn (ring_at keys.inputs input.0)
  brings_fine (happening.Piece input conn piece) = piece_fine input conn piece (ring_at keys.inputs input.0)
  brings_fine (happening.Gone input conn) = left_rising input conn k is
  brings_fine (happening.Room link) = back_fine (happening.Room link) link [] (link_at k link.0)
  brings_fine (happening.Back link bytes) = back_fine (happening.Back link bytes) link bytes (link_at k link.0)
  brings_fine (happening.Broken link) = is
  brings_fine (happening.InputEnd input) = is
  brings_fine happening.Stop = is
  brings_fine happening.End = is
  brings_fine happening.Failed = is

  waits_fine : (until paused : ℕ) (o : Option KeptBytes) → Fine (waits_by keys k until paused o)
  waits_fine until paused (Some bytes) = record { held = is.held; joined = is.joined; links = is.links }
  waits_fine until paused None = λ brought. brings_fine brought

  dialed_fine : (output : ℕ) (o : Option Ring) (answer : Option ℕ) → Fine (dialed o k output answer)
  dialed_fine output (Some ring) (Some link) = λ a b. record { held = is.held; joined = is.joined; links = with_rising link (begun output (record { first = a; second = b })) k.links is.links }
  dialed_fine output (Some ring) None = is
  dialed_fine output None answer = is

  pushes_fine : (link : ℕ) (bytes : List ℕ) (b : Bool) → Fine (pushes_by k link bytes b)
  pushes_fine link bytes true = is
  pushes_fine link bytes false = λ answer. is

  secures_fine : (call : LoopCall) → Fine (secures keys k call)
  secures_fine (Start ends) = λ answer. record { held = is.held; joined = is.joined; links = is.links }
  secures_fine (Wait until paused) = waits_fine until paused (first_given paused k.kept)
  secures_fine (Dial output tag) = λ answer. dialed_fine output (ring_at keys.outputs output) answer
  secures_fine (Push link bytes) = pushes_fine link bytes (is_some (link_at k link))
  secures_fine (Close link) = λ answer. record { held = is.held; joined = is.joined; links = without_rising link k.links is.links }
  secures_fine (Reply conn bytes) = λ answer. is
  secures_fine (DropConn conn) = λ answer. record { held = without_rising conn k.held is.held; joined = without_rising conn k.joined is.joined; links = is.links }
  secures_fine Word = λ answer. is

  answers_fine : (call : LoopCall) → Fine (answers keys k call)
  answers_fine call = by (has_keys keys)
    where
      by : (b : Bool) → Fine (answers_by b keys k call)
      by true = secures_fine call
      by false = λ answer. is

  pub step_rising : (call : LoopCall) (answer : LoopAnswer call) (own : List LoopEntry) (v : Handshakes) → Execution (answers keys k call) own (Return (answer, v)) → AreRising v
  step_rising call answer own v way = always (λ own r. AreRising r.1) (answers keys k call) own (answer, v) (answers_fine call) way

pub are_rising : (keys : Keys) (k t : Handshakes) (below above : List LoopEntry) → AreRising k → Carries keys k below above t → AreRising t
are_rising keys k t below [] is (none, same) = subst AreRising (sym same) is
are_rising keys k t below (e ∷ es) is (own, rest, u, parts, way, more) = are_rising keys u t rest es (step_rising keys k is e.call e.answer own u way) more
