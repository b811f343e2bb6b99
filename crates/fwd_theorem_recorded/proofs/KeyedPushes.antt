-- The calls of a keyed loop: it pushes only over open links, and passes the end on.
use Rattle.std.proofs.Common.{◌≡◌, ◌≢◌, ⊎_elim, ℕ, zero, suc, ◌==◌, ◌&&◌, Bool, true, false, not, if◌then◌else◌, List, [], ◌∷◌, ◌++◌, length, drop, Option, Some, None, is_some, refl, sym, ap, ◌∙◌, subst}
use Rattle.std.proofs.lemmas.Bool.{cases_eq}
use Rattle.fwd_base.specs.declared.ids.InputId.{InputId}
use Rattle.fwd_base.specs.declared.ids.ConnId.{ConnId}
use Rattle.fwd_base.specs.declared.ids.LinkId.{LinkId}
use Rattle.fwd_outside.specs.Program.{entry, Return, Execution}
use Rattle.fwd_outside.specs.Loop.{LoopCall, LoopAnswer, LoopEntry, LoopProgram, Start, Wait, Dial, Push, Close, Reply, DropConn, Word, PushAnswer, Took, Again, Broke}
use Rattle.fwd_outside.specs.declared.happening.Happening.{Happening}
use Rattle.fwd_outside.specs.declared.happening.Happening.TheVariants as happening
use Rattle.fwd_handshake.specs.declared.ring.Ring.{Ring}
use Rattle.fwd_handshake.specs.declared.received.Received.{Received}
use Rattle.fwd_handshake.specs.declared.received.Received.TheVariants as received
use Rattle.fwd_handshake.specs.Judgement.{helo_received, ping_received, pong_received}
use Rattle.fwd_handshake.specs.Messages.{helo, ping, pong}
use Rattle.fwd_model.specs.Run.{is_end}
use Rattle.fwd_secure.specs.declared.keys.Keys.{Keys}
use Rattle.fwd_secure.specs.declared.handshakes.RandomBytes.{RandomBytes}
use Rattle.fwd_secure.specs.declared.handshakes.HeldConn.{HeldConn}
use Rattle.fwd_secure.specs.declared.handshakes.LinkHandshake.{LinkHandshake}
use Rattle.fwd_secure.specs.declared.handshakes.KeptBytes.{KeptBytes}
use Rattle.fwd_secure.specs.declared.handshakes.KeptBytes.TheVariants.{OfConn, OfLink}
use Rattle.fwd_secure.specs.declared.handshakes.Step.{Step}
use Rattle.fwd_secure.specs.declared.handshakes.Step.TheVariants.{AwaitsHelo, SendsPing, AwaitsPong}
use Rattle.fwd_secure.specs.declared.outputs.Pushing.{Pushing}
use Rattle.fwd_secure.specs.declared.outputs.Pushing.TheVariants.{Sent, Waits, Fails}
use Rattle.fwd_secure.specs.RandomBytes.{random_bytes}
use Rattle.fwd_secure.specs.Keys.{ring_at, has_keys}
use Rattle.fwd_secure.specs.Kept.{first_given}
use Rattle.fwd_secure.specs.Handshakes.{Handshakes, at, with_entry, without_entry, is_held, held_under, joined_at, is_joined_under, listens_at, released, entered, link_at, ungreeted}
use Rattle.fwd_secure.specs.Inputs.{Brings, drops, holds_or_drops, joins_by, joins, after_message, keeping_piece, enters_or_drops, judges, hears_by, hears}
use Rattle.fwd_secure.specs.Outputs.{pushed_on, pushes, sends, keeping_back, stands, ends_by, awaits_pong, pinged, sends_ping, with_nonce, begins_by, greets_by, greets}
use Rattle.fwd_secure.specs.Rules.{brings_joined, brings_piece, brings_back, brings, waits_by, begun, dialed, pushes_by, secures, answers_by}
use Rattle.fwd_secure.specs.Carried.{Carries}
use Rattle.fwd_record.specs.Links.{Links, AreRising, links_in, with_link, without_link, links_after, links_behind}
use Rattle.fwd_theorem_keys.proofs.Maps.{Rising, at_with_other, at_without_same, at_without_was, with_rising, without_rising}
use Rattle.fwd_theorem_keys.proofs.Steps.{Always, always, always_map, always_bind}
use Rattle.fwd_theorem_recorded.proofs.PlacedLinks.{IsOpen, IsPlaced, ArePlaced, IsLong, open_dialed, open_closed, open_new, long_after, rising_after}
use Rattle.fwd_theorem_recorded.proofs.RenamedStates.{LinkStates}
use Rattle.fwd_theorem_recorded.proofs.RunEvents.{IsPlainCall, ArePlainCalls}

-- the links whose handshake is under way are open
pub record AreGreetingOpen (so_far : Links) (links : LinkStates) : Type 0 where
  pub rising : Rising links
  pub are_open : (link : ℕ) (handshake : LinkHandshake) → at link links ≡ Some handshake → IsOpen so_far link

-- a call of a replay
abbrev pub IsReplayed : Links → (call : LoopCall) → LoopAnswer call → Type 0
IsReplayed so_far (Push link bytes) answer = IsOpen so_far link
IsReplayed so_far call answer = IsPlainCall call answer

abbrev pub AreReplayed : Links → List LoopEntry → Type 0
AreReplayed so_far [] = Unit {0}
AreReplayed so_far (e ∷ es) = IsReplayed so_far e.call e.answer × AreReplayed (links_after so_far e.call e.answer) es

replayed_both : (so_far : Links) (xs ys : List LoopEntry) → AreReplayed so_far xs → AreReplayed (links_behind so_far xs) ys → AreReplayed so_far (xs ++ ys)
replayed_both so_far [] ys first second = second
replayed_both so_far (e ∷ xs) ys first second = (first.0, replayed_both (links_after so_far e.call e.answer) xs ys first.1 second)

-- calls of an engine on open links
pub replayed_plain : (so_far : Links) (es : List LoopEntry) → ArePlainCalls es → ArePlaced so_far es → AreReplayed so_far es
replayed_plain so_far [] plain placed = tt
replayed_plain so_far (e ∷ es) plain placed = (by e.call e.answer plain.0 placed.0, replayed_plain (links_after so_far e.call e.answer) es plain.1 placed.1)
  where
    by : (call : LoopCall) (answer : LoopAnswer call) → IsPlainCall call answer → IsPlaced so_far call → IsReplayed so_far call answer
    by (Push link bytes) answer is has = has
    by call answer is has = is

-- ---- what an event becomes

module _ (so_far : Links) where
  -- a call that leaves the links as they are, or pushes over an open one
  abbrev IsAside : LoopCall → Type 0
  IsAside (Push link bytes) = IsOpen so_far link
  IsAside (Reply conn bytes) = Unit {0}
  IsAside (DropConn conn) = Unit {0}
  IsAside Word = Unit {0}
  IsAside call = ⊥

  abbrev AreAside : List LoopEntry → Type 0
  AreAside [] = Unit {0}
  AreAside (e ∷ es) = IsAside e.call × AreAside es

  aside_both : (xs ys : List LoopEntry) → AreAside xs → AreAside ys → AreAside (xs ++ ys)
  aside_both [] ys first second = second
  aside_both (e ∷ xs) ys first second = (first.0, aside_both xs ys first.1 second)

  aside_replayed : (es : List LoopEntry) → AreAside es → AreReplayed so_far es
  aside_replayed [] aside = tt
  aside_replayed (e ∷ es) aside = by e.call e.answer aside.0 (aside_replayed es aside.1)
    where
      by : (call : LoopCall) (answer : LoopAnswer call) → IsAside call → AreReplayed so_far es → AreReplayed so_far (entry call answer ∷ es)
      by (Push link bytes) answer is rest = (is, rest)
      by (Reply conn bytes) answer is rest = (tt, rest)
      by (DropConn conn) answer is rest = (tt, rest)
      by Word answer is rest = (tt, rest)
      by (Start ends) answer is rest = absurd is
      by (Wait until paused) answer is rest = absurd is
      by (Dial output tag) answer is rest = absurd is
      by (Close link) answer is rest = absurd is

  aside_links : (es : List LoopEntry) → AreAside es → links_behind so_far es ≡ so_far
  aside_links [] aside = refl
  aside_links (e ∷ es) aside = by e.call e.answer aside.0 (aside_links es aside.1)
    where
      by : (call : LoopCall) (answer : LoopAnswer call) → IsAside call → links_behind so_far es ≡ so_far → links_behind so_far (entry call answer ∷ es) ≡ so_far
      by (Push link bytes) answer is rest = rest
      by (Reply conn bytes) answer is rest = rest
      by (DropConn conn) answer is rest = rest
      by Word answer is rest = rest
      by (Start ends) answer is rest = absurd is
      by (Wait until paused) answer is rest = absurd is
      by (Dial output tag) answer is rest = absurd is
      by (Close link) answer is rest = absurd is

  -- the calls, the event and the state after it, unless the loop below brought the end
  pub record IsBrought (own : List LoopEntry) (r : Happening × Handshakes) : Type 0 where
    pub aside : AreAside own
    pub greeting : AreGreetingOpen so_far r.1.links
    pub unended : is_end r.0 ≡ false

  abbrev pub BringsAside : Brings → Type 0
  BringsAside p = Always IsBrought p

  -- after calls that are aside
  behind : (front : List LoopEntry) (p : Brings) → AreAside front → BringsAside p → Always (λ (own : List LoopEntry) (r : Happening × Handshakes). IsBrought (front ++ own) r) p
  behind front p first so =
      always_map IsBrought (λ (own : List LoopEntry) (r : Happening × Handshakes). IsBrought (front ++ own) r) p (λ own r is. record { aside = aside_both front own first is.aside; greeting = is.greeting; unended = is.unended }) so

  abbrev Greeting : Handshakes → Type 0
  Greeting k = AreGreetingOpen so_far k.links

  -- ---- inputs

  module _ (input : InputId) (conn : ConnId) where
    drops_aside : (k : Handshakes) → Greeting k → BringsAside (drops k input conn)
    drops_aside k is = λ answer. record { aside = (tt, tt); greeting = is; unended = refl }

    entered_greeting : (k : Handshakes) → Greeting k → Greeting (entered k input.0 conn.0)
    entered_greeting k is = by (is_some (joined_at k conn.0))
      where
        by : (b : Bool) → Greeting (if b then k else record k { joined = with_entry conn.0 input.0 k.joined })
        by true = is
        by false = is

    piece_greeting : (k : Handshakes) (rest : List ℕ) → Greeting k → Greeting (keeping_piece k input conn rest)
    piece_greeting k [] is = is
    piece_greeting k (byte ∷ bytes) is = is

    holds_aside : (k : Handshakes) (nonce : RandomBytes) (answer : Option (Unit {0})) → Greeting k → BringsAside (holds_or_drops k input conn nonce answer)
    holds_aside k nonce (Some done) is = record { aside = tt; greeting = is; unended = refl }
    holds_aside k nonce None is = drops_aside k is

    joins_aside : (k : Handshakes) → Greeting k → BringsAside (joins k input conn)
    joins_aside k is = by (is_held k conn.0) (joined_at k conn.0)
      where
        there : (b : Bool) → BringsAside (Return (if b then happening.Joined input conn else happening.Gone input conn, k))
        there true = record { aside = tt; greeting = is; unended = refl }
        there false = record { aside = tt; greeting = is; unended = refl }

        by : (b : Bool) (o : Option ℕ) → BringsAside (if b then Return (happening.Gone input conn, k) else joins_by k input conn o)
        by true o = record { aside = tt; greeting = is; unended = refl }
        by false (Some other) = there (other == input.0)
        by false None = λ a b answer. behind (entry Word a ∷ entry Word b ∷ entry (Reply conn.0 (helo (random_bytes (record { first = a; second = b })))) answer ∷ []) (holds_or_drops k input conn (record { first = a; second = b }) answer) (tt, (tt, (tt, tt))) (holds_aside k (record { first = a; second = b }) answer is)

    enters_aside : (k : Handshakes) (rest : List ℕ) (answer : Option (Unit {0})) → Greeting k → BringsAside (enters_or_drops k input conn rest answer)
    enters_aside k rest (Some done) is = record { aside = tt; greeting = piece_greeting (entered k input.0 conn.0) rest (entered_greeting k is); unended = refl }
    enters_aside k rest None is = drops_aside k is

    judges_aside : (ring : Ring) (k : Handshakes) (held : HeldConn) (piece : List ℕ) (r : Received) → Greeting k → BringsAside (judges ring k input conn held piece r)
    judges_aside ring k held piece received.More is = record { aside = tt; greeting = is; unended = refl }
    judges_aside ring k held piece (received.Right len salt) is =
        λ answer. behind (entry (Reply conn.0 (pong ring salt (random_bytes held.nonce))) answer ∷ []) (enters_or_drops k input conn (after_message len held.received piece) answer) (tt, tt) (enters_aside k (after_message len held.received piece) answer is)
    judges_aside ring k held piece received.Wrong is = drops_aside k is

    hears_aside : (ring : Ring) (k : Handshakes) (piece : List ℕ) → Greeting k → BringsAside (hears ring k input conn piece)
    hears_aside ring k piece is = by (held_under k input.0 conn.0)
      where
        passed : (b : Bool) → BringsAside (Return (if b then happening.Piece input conn piece else happening.Gone input conn, k))
        passed true = record { aside = tt; greeting = is; unended = refl }
        passed false = record { aside = tt; greeting = is; unended = refl }

        by : (o : Option HeldConn) → BringsAside (hears_by ring k input conn piece o)
        by (Some held) = judges_aside ring (released k conn.0) held piece (ping_received ring (random_bytes held.nonce) (held.received ++ piece)) is
        by None = passed (not (is_held k conn.0) && is_joined_under k input.0 conn.0)

    joined_aside : (k : Handshakes) (ring : Option Ring) → Greeting k → BringsAside (brings_joined ring k input conn)
    joined_aside k (Some ring) is = joins_aside k is
    joined_aside k None is = by (listens_at k input.0)
      where
        by : (b : Bool) → BringsAside (Return (happening.Joined input conn, if b then entered k input.0 conn.0 else k))
        by true = record { aside = tt; greeting = entered_greeting k is; unended = refl }
        by false = record { aside = tt; greeting = is; unended = refl }

    piece_aside : (k : Handshakes) (piece : List ℕ) (ring : Option Ring) → Greeting k → BringsAside (brings_piece ring k input conn piece)
    piece_aside k piece (Some ring) is = hears_aside ring k piece is
    piece_aside k piece None is = record { aside = tt; greeting = is; unended = refl }

  -- ---- outputs

  module _ (link : LinkId) (is_open : IsOpen so_far link.0) where
    abbrev IsPing : List LoopEntry → Pushing × List ℕ → Type 0
    IsPing own x = AreAside own

    pushed_aside : (go : List ℕ → LoopProgram (Pushing × List ℕ)) → ((rest : List ℕ) → Always IsPing (go rest)) → (rest : List ℕ) (answer : PushAnswer) → Always IsPing (pushed_on go rest answer)
    pushed_aside go more rest (Took n) = by (n == 0)
      where
        by : (b : Bool) → Always IsPing (if b then Return (Fails, rest) else go (drop n rest))
        by true = tt
        by false = more (drop n rest)
    pushed_aside go more rest Again = tt
    pushed_aside go more rest Broke = tt

    pushes_aside : (most : ℕ) (rest : List ℕ) → Always IsPing (pushes most link.0 rest)
    pushes_aside zero rest = tt
    pushes_aside (suc most) [] = tt
    pushes_aside (suc most) (byte ∷ rest) =
        λ answer.
        always_map IsPing (λ (own : List LoopEntry) (x : Pushing × List ℕ). IsOpen so_far link.0 × AreAside own) (pushed_on (pushes most link.0) (byte ∷ rest) answer) (λ own x aside. (is_open, aside))
        (pushed_aside (pushes most link.0) (pushes_aside most) (byte ∷ rest) answer)

    stands_greeting : (k : Handshakes) (handshake : LinkHandshake) (step : Step) → Greeting k → Greeting (stands k link handshake step)
    stands_greeting k handshake step is = record {
      rising = with_rising link.0 (record handshake { step = step }) k.links is.rising;
      are_open = λ other x there. ⊎_elim
          (λ (e : other ≡ link.0). subst (IsOpen so_far) (sym e) is_open)
          (λ (ne : other ≢ link.0). is.are_open other x (sym (at_with_other other link.0 (record handshake { step = step }) k.links ne) ∙ there))
          (cases_eq other link.0);
    }

    back_greeting : (k : Handshakes) (rest : List ℕ) → Greeting k → Greeting (keeping_back k link rest)
    back_greeting k [] is = is
    back_greeting k (byte ∷ bytes) is = is

    module _ (ring : Ring) (k : Handshakes) (is : Greeting k) where
      ends_aside : (handshake : LinkHandshake) (r : Received) → BringsAside (ends_by k link handshake r)
      ends_aside handshake received.More = record { aside = tt; greeting = stands_greeting k handshake AwaitsPong is; unended = refl }
      ends_aside handshake (received.Right len host) = record { aside = tt; greeting = back_greeting k (drop len handshake.received) is; unended = refl }
      ends_aside handshake received.Wrong = record { aside = tt; greeting = stands_greeting k handshake AwaitsPong is; unended = refl }

      pong_aside : (handshake : LinkHandshake) → BringsAside (awaits_pong ring k link handshake)
      pong_aside handshake = ends_aside handshake (pong_received ring (random_bytes handshake.salt) handshake.nonce handshake.received)

      pinged_aside : (handshake : LinkHandshake) (pushing : Pushing) (rest : List ℕ) → BringsAside (pinged ring k link handshake pushing rest)
      pinged_aside handshake Sent rest = pong_aside handshake
      pinged_aside handshake Waits rest = record { aside = tt; greeting = stands_greeting k handshake (SendsPing rest) is; unended = refl }
      pinged_aside handshake Fails rest = record { aside = tt; greeting = stands_greeting k handshake (SendsPing rest) is; unended = refl }

      ping_aside : (handshake : LinkHandshake) (rest : List ℕ) → BringsAside (sends_ping ring k link handshake rest)
      ping_aside handshake rest =
          let next : Pushing × List ℕ → Brings = λ pushed. pinged ring k link handshake pushed.0 pushed.1 in
          always_bind IsBrought (sends link.0 rest) next
          (always_map IsPing (λ (own : List LoopEntry) (x : Pushing × List ℕ). Always (λ (more : List LoopEntry) (y : Happening × Handshakes). IsBrought (own ++ more) y) (next x)) (sends link.0 rest)
          (λ own x aside. behind own (next x) aside (pinged_aside handshake x.0 x.1)) (pushes_aside (length rest) rest))

      begins_aside : (handshake : LinkHandshake) (r : Received) → BringsAside (begins_by ring k link handshake r)
      begins_aside handshake received.More = record { aside = tt; greeting = stands_greeting k handshake AwaitsHelo is; unended = refl }
      begins_aside handshake (received.Right len nonce) = ping_aside (with_nonce handshake len nonce) (ping ring (random_bytes handshake.salt) nonce)
      begins_aside handshake received.Wrong = record { aside = tt; greeting = stands_greeting k handshake AwaitsHelo is; unended = refl }

      step_aside : (handshake : LinkHandshake) (step : Step) → BringsAside (greets_by ring k link handshake step)
      step_aside handshake AwaitsHelo = begins_aside handshake (helo_received handshake.received)
      step_aside handshake (SendsPing rest) = ping_aside handshake rest
      step_aside handshake AwaitsPong = pong_aside handshake

    greets_aside : (ring : Option Ring) (k : Handshakes) (handshake : LinkHandshake) (bytes : List ℕ) → Greeting k → BringsAside (greets ring k link handshake bytes)
    greets_aside (Some ring) k handshake bytes is = step_aside ring k is (record handshake { received = handshake.received ++ bytes }) handshake.step
    greets_aside None k handshake bytes is = record { aside = tt; greeting = is; unended = refl }

  -- ---- an event of the loop below

  without_greeting : (k : Handshakes) (link : ℕ) → Greeting k → Greeting (ungreeted k link)
  without_greeting k link is = record {
    rising = without_rising link k.links is.rising;
    are_open = λ other x there. is.are_open other x (at_without_was other link k.links x is.rising there);
  }

  module _ (keys : Keys) (k : Handshakes) (is : Greeting k) where
    back_aside : (link : LinkId) (bytes : List ℕ) (x : Happening) (o : Option LinkHandshake) → is_end x ≡ false → at link.0 k.links ≡ o → BringsAside (brings_back keys k link bytes x o)
    back_aside link bytes x (Some handshake) unended there =
        greets_aside link (is.are_open link.0 handshake there) (ring_at keys.outputs handshake.output.0) (ungreeted k link.0) handshake bytes (without_greeting k link.0 is)
    back_aside link bytes x None unended there = record { aside = tt; greeting = is; unended = unended }

    event_aside : (x : Happening) → is_end x ≡ false → BringsAside (brings keys k x)
    event_aside (happening.Joined input conn) unended = joined_aside input conn k (ring_at keys.inputs input.0) is
    event_aside (happening.Piece input conn piece) unended = piece_aside input conn k piece (ring_at keys.inputs input.0) is
    event_aside (happening.Gone input conn) unended = record { aside = tt; greeting = is; unended = refl }
    event_aside (happening.Room link) unended = back_aside link [] (happening.Room link) (link_at k link.0) refl refl
    event_aside (happening.Back link bytes) unended = back_aside link bytes (happening.Back link bytes) (link_at k link.0) refl refl
    event_aside happening.End unended = absurd (cc unended)
    event_aside x unended = record { aside = tt; greeting = is; unended = unended }

-- ---- each call

-- a new link is open
abbrev IsNowOpen : Links → (call : LoopCall) → LoopAnswer call → Type 0
IsNowOpen so_far (Dial output tag) (Some link) = IsOpen (with_link so_far output (Some link)) link
IsNowOpen so_far call answer = Unit {0}

record IsOneReplayed (so_far : Links) (call : LoopCall) (own : List LoopEntry) (r : LoopAnswer call × Handshakes) : Type 0 where
  pub replayed : AreReplayed so_far own
  pub links : links_behind so_far own ≡ links_after so_far call r.0
  pub greeting : AreGreetingOpen (links_after so_far call r.0) r.1.links

abbrev Replays : Links → (call : LoopCall) → List LoopEntry → LoopAnswer call × Handshakes → Type 0
Replays so_far call own r = IsPlainCall call r.0 → IsPlaced so_far call → IsNowOpen so_far call r.0 → IsOneReplayed so_far call own r

-- a wait that gives the end
abbrev IsForEnd : (until paused : ℕ) → List LoopEntry → Happening × Handshakes → Type 0
IsForEnd until paused own r = is_end r.0 ≡ true → own ≡ entry (Wait until paused) happening.End ∷ []

module _ (keys : Keys) (k : Handshakes) (so_far : Links) (is : AreGreetingOpen so_far k.links) where
  event_answered : (until paused : ℕ) (x : Happening) → is_end x ≡ false → Always (λ (own : List LoopEntry) (r : Happening × Handshakes). Replays so_far (Wait until paused) (entry (Wait until paused) x ∷ own) r) (brings keys k x)
  event_answered until paused x unended =
      always_map (IsBrought so_far) (λ (own : List LoopEntry) (r : Happening × Handshakes). Replays so_far (Wait until paused) (entry (Wait until paused) x ∷ own) r) (brings keys k x)
      (λ own r brought plain placed now. record {
        replayed = (unended, aside_replayed so_far own brought.aside);
        links = aside_links so_far own brought.aside;
        greeting = brought.greeting;
      })
      (event_aside so_far keys k is x unended)

  wait_answered : (until paused : ℕ) (x : Happening) → Always (λ (own : List LoopEntry) (r : Happening × Handshakes). Replays so_far (Wait until paused) (entry (Wait until paused) x ∷ own) r) (brings keys k x)
  wait_answered until paused happening.End = λ plain. absurd (cc plain)
  wait_answered until paused x = event_answered until paused x refl

  waits_answered : (until paused : ℕ) (o : Option KeptBytes) → Always (Replays so_far (Wait until paused)) (waits_by keys k until paused o)
  waits_answered until paused (Some bytes) = λ plain placed now. record { replayed = tt; links = refl; greeting = is }
  waits_answered until paused None = λ x. wait_answered until paused x

  -- after a dial, with the handshake of the new link or without
  greeting_new : (output link : ℕ) (handshake : LinkHandshake) → IsOpen (with_link so_far output (Some link)) link → AreGreetingOpen (with_link so_far output (Some link)) (with_entry link handshake k.links)
  greeting_new output link handshake now = record {
    rising = with_rising link handshake k.links is.rising;
    are_open = λ other x there. ⊎_elim
        (λ (e : other ≡ link). subst (IsOpen (with_link so_far output (Some link))) (sym e) now)
        (λ (ne : other ≢ link). open_dialed so_far output link other (is.are_open other x (sym (at_with_other other link handshake k.links ne) ∙ there)))
        (cases_eq other link);
  }

  greeting_dialed : (output link : ℕ) → AreGreetingOpen (with_link so_far output (Some link)) k.links
  greeting_dialed output link = record { rising = is.rising; are_open = λ other x there. open_dialed so_far output link other (is.are_open other x there) }

  dial_answered : (output : ℕ) (tag : List ℕ) (ring : Option Ring) (answer : Option ℕ) → Always (λ (own : List LoopEntry) (r : Option ℕ × Handshakes). Replays so_far (Dial output tag) (entry (Dial output tag) answer ∷ own) r) (dialed ring k output answer)
  dial_answered output tag (Some ring) (Some link) =
      λ a b plain placed now. record { replayed = (tt, (tt, (tt, tt))); links = refl; greeting = greeting_new output link (begun output (record { first = a; second = b })) now }
  dial_answered output tag (Some ring) None = λ plain placed now. record { replayed = (tt, tt); links = refl; greeting = is }
  dial_answered output tag None (Some link) = λ plain placed now. record { replayed = (tt, tt); links = refl; greeting = greeting_dialed output link }
  dial_answered output tag None None = λ plain placed now. record { replayed = (tt, tt); links = refl; greeting = is }

  push_answered : (link : ℕ) (bytes : List ℕ) (b : Bool) → Always (Replays so_far (Push link bytes)) (pushes_by k link bytes b)
  push_answered link bytes true = λ plain placed now. record { replayed = tt; links = refl; greeting = is }
  push_answered link bytes false = λ answer plain placed now. record { replayed = (placed, tt); links = refl; greeting = is }

  greeting_closed : (link : ℕ) → AreGreetingOpen (without_link so_far link) (without_entry link k.links)
  greeting_closed link = record {
    rising = without_rising link k.links is.rising;
    are_open = λ other x there. open_closed so_far link other (λ same. gone (subst (λ (l : ℕ). at l (without_entry link k.links) ≡ Some x) (sym same) there)) (is.are_open other x (at_without_was other link k.links x is.rising there));
  }
    where
      gone : {x : LinkHandshake} → at link (without_entry link k.links) ≡ Some x → ⊥
      gone {x = x} there = none_some (sym (at_without_same link k.links is.rising) ∙ there)
        where
          none_some : None ≡ Some x → ⊥
          none_some e = cc e

  secures_answered : (call : LoopCall) → Always (Replays so_far call) (secures keys k call)
  secures_answered (Start ends) = λ answer plain placed now. record { replayed = (plain, tt); links = refl; greeting = is }
  secures_answered (Wait until paused) = waits_answered until paused (first_given paused k.kept)
  secures_answered (Dial output tag) = λ answer. dial_answered output tag (ring_at keys.outputs output) answer
  secures_answered (Push link bytes) = push_answered link bytes (is_some (link_at k link))
  secures_answered (Close link) = λ answer plain placed now. record { replayed = (tt, tt); links = refl; greeting = greeting_closed link }
  secures_answered (Reply conn bytes) = λ answer plain placed now. record { replayed = (tt, tt); links = refl; greeting = is }
  secures_answered (DropConn conn) = λ answer plain placed now. record { replayed = (tt, tt); links = refl; greeting = is }
  secures_answered Word = λ answer plain placed now. record { replayed = (tt, tt); links = refl; greeting = is }

  end_waited : (until paused : ℕ) (x : Happening) → Always (λ (own : List LoopEntry) (r : Happening × Handshakes). IsForEnd until paused (entry (Wait until paused) x ∷ own) r) (brings keys k x)
  end_waited until paused happening.End = λ ended. refl
  end_waited until paused x =
      always_map (IsBrought so_far) (λ (own : List LoopEntry) (r : Happening × Handshakes). IsForEnd until paused (entry (Wait until paused) x ∷ own) r) (brings keys k x) (λ own r brought ended. absurd (cc (sym brought.unended ∙ ended))) (event_aside so_far keys k is x refl)

  end_given : (until paused : ℕ) (o : Option KeptBytes) → Always (IsForEnd until paused) (waits_by keys k until paused o)
  end_given until paused (Some (OfConn input conn bytes)) = λ ended. absurd (cc ended)
  end_given until paused (Some (OfLink link bytes)) = λ ended. absurd (cc ended)
  end_given until paused None = λ x. end_waited until paused x

-- ---- all calls

now_open : (so_far : Links) (e : LoopEntry) (es : List LoopEntry) → IsLong so_far → AreRising 0 (so_far.links ++ links_in (e ∷ es)) → IsNowOpen so_far e.call e.answer
now_open so_far e es long rising = by e.call e.answer rising
  where
    by : (call : LoopCall) (answer : LoopAnswer call) → AreRising 0 (so_far.links ++ links_in (entry call answer ∷ es)) → IsNowOpen so_far call answer
    by (Dial output tag) (Some link) rising = open_new so_far output link (links_in es) long rising
    by (Dial output tag) None rising = tt
    by call answer rising = tt

module _ (keys : Keys) where
  -- with keys
  module _ (keyed : has_keys keys ≡ true) where
    pub keyed_replayed : (k t : Handshakes) (below above : List LoopEntry) (so_far : Links) → Carries keys k below above t → AreGreetingOpen so_far k.links → IsLong so_far → AreRising 0 (so_far.links ++ links_in above)
        → ArePlainCalls above → ArePlaced so_far above → AreReplayed so_far below × AreGreetingOpen (links_behind so_far above) t.links
    keyed_replayed k t below [] so_far carries is long rising plain placed =
        (subst (AreReplayed so_far) (sym carries.0) tt, subst (λ (u : Handshakes). AreGreetingOpen so_far u.links) (sym carries.1) is)
    keyed_replayed k t below (e ∷ es) so_far (own, rest, u, parts, way, more) is long rising plain placed =
        let one : IsOneReplayed so_far e.call own (e.answer, u) =
        always (Replays so_far e.call) (secures keys k e.call) own (e.answer, u) (secures_answered keys k so_far is e.call)
        (subst (λ (b : Bool). Execution (answers_by b keys k e.call) own (Return (e.answer, u))) keyed way) plain.0 placed.0 (now_open so_far e es long rising) in
        let later = keyed_replayed u t rest es (links_after so_far e.call e.answer) more one.greeting (long_after so_far e.call e.answer long) (rising_after so_far e es rising) plain.1 placed.1 in
        (subst (AreReplayed so_far) (sym parts) (replayed_both so_far own rest one.replayed (subst (λ (l : Links). AreReplayed l rest) (sym one.links) later.0)), later.1)

    pub keyed_end : (k t : Handshakes) (below : List LoopEntry) (until paused : ℕ) (so_far : Links) → AreGreetingOpen so_far k.links → Carries keys k below (entry (Wait until paused) happening.End ∷ []) t
        → below ≡ entry (Wait until paused) happening.End ∷ []
    keyed_end k t below until paused so_far is (own, rest, u, parts, way, more) =
        let one : own ≡ entry (Wait until paused) happening.End ∷ [] =
        always (IsForEnd until paused) (secures keys k (Wait until paused)) own (happening.End, u) (end_given keys k so_far is until paused (first_given paused k.kept))
        (subst (λ (b : Bool). Execution (answers_by b keys k (Wait until paused)) own (Return (happening.End, u))) keyed way) refl in
        parts ∙ ap (λ (l : List LoopEntry). l ++ rest) one ∙ ap (λ (l : List LoopEntry). entry (Wait until paused) happening.End ∷ l) more.0

  -- without keys each call is passed on
  module _ (unkeyed : has_keys keys ≡ false) where
    abbrev IsAlone : (call : LoopCall) → List LoopEntry → LoopAnswer call × Handshakes → Type 0
    IsAlone call own r = own ≡ entry call r.0 ∷ []

    passed_alone : (k : Handshakes) (call : LoopCall) → Always (IsAlone call) (answers_by false keys k call)
    passed_alone k call = λ answer. refl

    pub unkeyed_same : (k t : Handshakes) (below above : List LoopEntry) → Carries keys k below above t → below ≡ above
    unkeyed_same k t below [] carries = carries.0
    unkeyed_same k t below (e ∷ es) (own, rest, u, parts, way, more) =
        let one : own ≡ e ∷ [] =
        always (IsAlone e.call) (answers_by false keys k e.call) own (e.answer, u) (passed_alone k e.call)
        (subst (λ (b : Bool). Execution (answers_by b keys k e.call) own (Return (e.answer, u))) unkeyed way) in
        parts ∙ ap (λ (l : List LoopEntry). l ++ rest) one ∙ ap (λ (l : List LoopEntry). e ∷ l) (unkeyed_same u t rest es more)
