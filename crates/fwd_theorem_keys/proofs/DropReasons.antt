-- Why each rule asks the loop below to drop a connection.
use Rattle.std.proofs.Common.{◌≡◌, ℕ, zero, suc, Bool, true, false, if◌then◌else◌, eqb, List, [], ◌∷◌, ◌++◌, drop, length, Option, Some, None, refl, sym, ap, subst, ◌∙◌, append_assoc, append-nil}
use Rattle.std.specs.Prelude.{◌==◌, is_some}
use Rattle.std.proofs.lemmas.Bool.{eqb-true, eq-eqb}
use Rattle.fwd_base.specs.declared.ids.InputId.{InputId}
use Rattle.fwd_base.specs.declared.ids.ConnId.{ConnId}
use Rattle.fwd_base.specs.declared.ids.LinkId.{LinkId}
use Rattle.fwd_outside.specs.Program.{entry, Return, Execution}
use Rattle.fwd_outside.specs.Loop.{LoopCall, LoopAnswer, LoopEntry, Start, Wait, Dial, Push, Close, Reply, DropConn, Word, PushAnswer, Took, Again, Broke}
use Rattle.fwd_outside.specs.declared.happening.Happening.{Happening}
use Rattle.fwd_outside.specs.declared.happening.Happening.TheVariants as happening
use Rattle.fwd_handshake.specs.declared.ring.Ring.{Ring}
use Rattle.fwd_handshake.specs.declared.received.Received.{Received}
use Rattle.fwd_handshake.specs.declared.received.Received.TheVariants as verdict
use Rattle.fwd_handshake.specs.Judgement.{ping_received, helo_received, pong_received}
use Rattle.fwd_handshake.specs.Messages.{helo, ping, pong}
use Rattle.fwd_secure.specs.declared.keys.Keys.{Keys}
use Rattle.fwd_secure.specs.declared.handshakes.RandomBytes.{RandomBytes}
use Rattle.fwd_secure.specs.declared.handshakes.HeldConn.{HeldConn}
use Rattle.fwd_secure.specs.declared.handshakes.LinkHandshake.{LinkHandshake}
use Rattle.fwd_secure.specs.declared.handshakes.Step.{Step}
use Rattle.fwd_secure.specs.declared.handshakes.Step.TheVariants.{AwaitsHelo, SendsPing, AwaitsPong}
use Rattle.fwd_secure.specs.declared.handshakes.KeptBytes.{KeptBytes}
use Rattle.fwd_secure.specs.declared.outputs.Pushing.{Pushing}
use Rattle.fwd_secure.specs.declared.outputs.Pushing.TheVariants.{Sent, Waits, Fails}
use Rattle.fwd_secure.specs.Keys.{ring_at, has_keys}
use Rattle.fwd_secure.specs.Kept.{first_given}
use Rattle.fwd_secure.specs.RandomBytes.{random_bytes}
use Rattle.fwd_secure.specs.Handshakes.{Handshakes, no_handshakes, held_at, is_held, held_under, joined_at, released, link_at, ungreeted}
use Rattle.fwd_secure.specs.Inputs.{Brings, holds_or_drops, joins_by, joins, after_message, enters_or_drops, judges, hears_by, hears}
use Rattle.fwd_secure.specs.Outputs.{pushed_on, pushes, sends, ends_by, pinged, sends_ping, with_nonce, begins_by, greets_by, greets}
use Rattle.fwd_secure.specs.Rules.{brings_joined, brings_piece, brings_back, brings, waits_by, dialed, pushes_by, secures, answers_by, answers}
use Rattle.fwd_secure.specs.Carried.{Carries}
use Rattle.fwd_theorem_keys.specs.Traffic.{said_by, drops_in}
use Rattle.fwd_theorem_keys.specs.Streams.{Challenged}
use Rattle.fwd_theorem_keys.specs.Drops.{WhyDropped, Asked, ReplyBroke, WasWrong}
use Rattle.fwd_theorem_keys.proofs.Entries.{said_append, ended_append, conn_same}
use Rattle.fwd_theorem_keys.proofs.Asking.{Each, Asks, asks_each, asks_bind, each, Place, place}
use Rattle.fwd_theorem_keys.proofs.StreamStatus.{Held}
use Rattle.fwd_theorem_keys.proofs.StreamSteps.{under_some, input_is}
use Rattle.fwd_theorem_keys.proofs.StreamCalls.{status_of}

conn_is : (c d : ConnId) → c.0 ≡ d.0 → c ≡ d
conn_is c d is = ap (λ (n : ℕ). record { 0 = n }) is

-- a call that drops the connection
drop_is : (conn : ConnId) (call : LoopCall) (answer : LoopAnswer call) → drops_in conn call ≡ true → entry {C = LoopCall} {A = LoopAnswer} call answer ≡ entry (DropConn conn.0) tt
drop_is conn (DropConn c) answer is = ap (λ (n : ℕ). entry {C = LoopCall} {A = LoopAnswer} (DropConn n) tt) (eqb-true c conn.0 is)
drop_is conn (Start ends) answer is = absurd (cc is)
drop_is conn (Wait until paused) answer is = absurd (cc is)
drop_is conn (Dial output tag) answer is = absurd (cc is)
drop_is conn (Push link bytes) answer is = absurd (cc is)
drop_is conn (Close link) answer is = absurd (cc is)
drop_is conn (Reply c bytes) answer is = absurd (cc is)
drop_is conn Word answer is = absurd (cc is)

-- ---- programs that drop nothing

abbrev IsPushCall : LoopCall → Type 0
IsPushCall (Push link bytes) = Unit {0}
IsPushCall call = ⊥

push_drops_none : (conn : ConnId) (call : LoopCall) → IsPushCall call → drops_in conn call ≡ true → ⊥
push_drops_none conn (Push link bytes) is drop_it = cc drop_it
push_drops_none conn call is drop_it = is

pushes_ask : (most link : ℕ) (rest : List ℕ) → Asks IsPushCall (pushes most link rest)
pushes_ask zero link rest = tt
pushes_ask (suc most) link [] = tt
pushes_ask (suc most) link (byte ∷ rest) = (tt, by (pushes_ask most link))
  where
    go_on : ((left : List ℕ) → Asks IsPushCall (pushes most link left)) → (n : ℕ) (t : Bool) → Asks IsPushCall (if t then Return (Fails, byte ∷ rest) else pushes most link (drop n (byte ∷ rest)))
    go_on later n true = tt
    go_on later n false = later (drop n (byte ∷ rest))

    by : ((left : List ℕ) → Asks IsPushCall (pushes most link left)) → (answer : PushAnswer) → Asks IsPushCall (pushed_on (pushes most link) (byte ∷ rest) answer)
    by later (Took n) = go_on later n (n == 0)
    by later Again = tt
    by later Broke = tt

module _ (u : Handshakes) (link : LinkId) where
  ends_ask : (h : LinkHandshake) (r : Received) → Asks IsPushCall (ends_by u link h r)
  ends_ask h verdict.More = tt
  ends_ask h (verdict.Right len host) = tt
  ends_ask h verdict.Wrong = tt

  module _ (ring : Ring) where
    pinged_ask : (h : LinkHandshake) (pushing : Pushing) (rest : List ℕ) → Asks IsPushCall (pinged ring u link h pushing rest)
    pinged_ask h Sent rest = ends_ask h (pong_received ring (random_bytes h.salt) h.nonce h.received)
    pinged_ask h Waits rest = tt
    pinged_ask h Fails rest = tt

    ping_ask : (h : LinkHandshake) (rest : List ℕ) → Asks IsPushCall (sends_ping ring u link h rest)
    ping_ask h rest = asks_bind IsPushCall (sends link.0 rest) (λ pushed. pinged ring u link h pushed.0 pushed.1) (pushes_ask (length rest) link.0 rest) (λ (x : Pushing × List ℕ). pinged_ask h x.0 x.1)

    begins_ask : (h : LinkHandshake) (r : Received) → Asks IsPushCall (begins_by ring u link h r)
    begins_ask h verdict.More = tt
    begins_ask h (verdict.Right len nonce) = ping_ask (with_nonce h len nonce) (ping ring (random_bytes h.salt) nonce)
    begins_ask h verdict.Wrong = tt

    step_ask : (h : LinkHandshake) (step : Step) → Asks IsPushCall (greets_by ring u link h step)
    step_ask h AwaitsHelo = begins_ask h (helo_received h.received)
    step_ask h (SendsPing rest) = ping_ask h rest
    step_ask h AwaitsPong = ends_ask h (pong_received ring (random_bytes h.salt) h.nonce h.received)

  greets_ask : (ring : Option Ring) (h : LinkHandshake) (bytes : List ℕ) → Asks IsPushCall (greets ring u link h bytes)
  greets_ask (Some ring) h bytes = step_ask ring (record h { received = h.received ++ bytes }) h.step
  greets_ask None h bytes = tt

-- ---- the reasons

module _ (keys : Keys) (k : Handshakes) (b a above : List LoopEntry) (carries : Carries keys no_handshakes b a k) (conn : ConnId) where
  -- of a call after these of its rule
  abbrev Why : List LoopEntry → LoopEntry → Type 0
  Why before e = drops_in conn e.call ≡ true → WhyDropped keys conn (b ++ before) above

  broke : (before : List LoopEntry) (message : List ℕ) (c : ConnId) → eqb c.0 conn.0 ≡ true → WhyDropped keys conn (b ++ (before ++ entry (Reply c.0 message) None ∷ [])) above
  broke before message c is =
      ReplyBroke (b ++ before) message
      (sym (append_assoc b before (entry (Reply c.0 message) None ∷ [])) ∙ ap (λ (n : ℕ). (b ++ before) ++ entry (Reply n message) None ∷ []) (eqb-true c.0 conn.0 is))

  module _ (until paused : ℕ) where
    abbrev Fine : Happening → Brings → Type 0
    Fine x p = Each (λ before e. Why (entry (Wait until paused) x ∷ before) e) p

    module _ (i : InputId) (c : ConnId) where
      joins_why : Fine (happening.Joined i c) (joins k i c)
      joins_why = by (is_held k c.0) (joined_at k c.0)
        where
          answered : (x y : ℕ) (answer : Option (Unit {0}))
              → Each (λ before e. Why (entry (Wait until paused) (happening.Joined i c) ∷ entry Word x ∷ entry Word y ∷ entry (Reply c.0 (helo (random_bytes (record { first = x; second = y })))) answer ∷ before) e)
              (holds_or_drops k i c (record { first = x; second = y }) answer)
          answered x y (Some done) = tt
          answered x y None = λ answer. (broke (entry (Wait until paused) (happening.Joined i c) ∷ entry Word x ∷ entry Word y ∷ []) (helo (random_bytes (record { first = x; second = y }))) c, tt)

          by : (p : Bool) (o : Option ℕ) → Fine (happening.Joined i c) (if p then Return (happening.Gone i c, k) else joins_by k i c o)
          by true o = tt
          by false (Some other) = tt
          by false None = λ x. (λ is. absurd (cc is), λ y. (λ is. absurd (cc is), λ answer. (λ is. absurd (cc is), answered x y answer)))

      joined_why : (o : Option Ring) → Fine (happening.Joined i c) (brings_joined o k i c)
      joined_why (Some ring) = joins_why
      joined_why None = tt

      module _ (piece : List ℕ) where
        abbrev came : LoopEntry
        came = entry (Wait until paused) (happening.Piece i c piece)

        module _ (ring : Ring) (h : HeldConn) (held : Held keys ring i c ⊥ h b a) where
          said_then : said_by i c (held.challenged.since ++ came ∷ []) ≡ h.received ++ piece
          said_then =
              said_append i c held.challenged.since (came ∷ []) ∙ ap (λ (l : List ℕ). l ++ said_by i c (came ∷ [])) (sym held.received)
              ∙ ap (λ (t : Bool). h.received ++ ((if t then piece else []) ++ [])) (conn_same i c) ∙ ap (λ (l : List ℕ). h.received ++ l) (append-nil piece)

          abbrev challenged_then : Challenged keys i c (b ++ came ∷ []) a
          challenged_then = record {
            before = held.challenged.before;
            above_before = held.challenged.above_before;
            at = held.challenged.at;
            carries = held.challenged.carries;
            until = held.challenged.until;
            paused = held.challenged.paused;
            nonce = held.challenged.nonce;
            since = held.challenged.since ++ came ∷ [];
            above_since = held.challenged.above_since;
            below_is = ap (λ (l : List LoopEntry). l ++ came ∷ []) held.challenged.below_is ∙ append_assoc (held.challenged.before ++ _) held.challenged.since (came ∷ []);
            above_is = held.challenged.above_is;
            not_ended = ended_append i c held.challenged.since (came ∷ []) held.challenged.not_ended refl;
            not_dropped = held.challenged.not_dropped;
          }

          -- the bytes are wrong
          wrong : ring_at keys.inputs i.0 ≡ Some ring → ping_received ring (random_bytes h.nonce) (h.received ++ piece) ≡ verdict.Wrong → WhyDropped keys c (b ++ came ∷ []) above
          wrong keyed judged =
              WasWrong ring i b until paused piece a keyed refl challenged_then
              (subst (λ (n : RandomBytes). ping_received ring (random_bytes n) (said_by i c (held.challenged.since ++ came ∷ [])) ≡ verdict.Wrong) held.nonce
              (subst (λ (l : List ℕ). ping_received ring (random_bytes h.nonce) l ≡ verdict.Wrong) (sym said_then) judged))

        judges_why : (ring : Ring) → ring_at keys.inputs i.0 ≡ Some ring → (h : HeldConn) → held_at k c.0 ≡ Some h → h.input ≡ i → (r : Received) → ping_received ring (random_bytes h.nonce) (h.received ++ piece) ≡ r
            → Fine (happening.Piece i c piece) (judges ring (released k c.0) i c h piece r)
        judges_why ring keyed h is of verdict.More judged = tt
        judges_why ring keyed h is of (verdict.Right len salt) judged = λ answer. (λ drop_it. absurd (cc drop_it), by answer)
          where
            by : (answer : Option (Unit {0})) → Each (λ before e. Why (came ∷ entry (Reply c.0 (pong ring salt (random_bytes h.nonce))) answer ∷ before) e) (enters_or_drops (released k c.0) i c (after_message len h.received piece) answer)
            by (Some done) = tt
            by None = λ answer. (broke (came ∷ []) (pong ring salt (random_bytes h.nonce)) c, tt)
        judges_why ring keyed h is of verdict.Wrong judged = λ answer. (
          λ drop_it.
              subst (λ (d : ConnId). WhyDropped keys d (b ++ came ∷ []) above) (conn_is c conn (eqb-true c.0 conn.0 drop_it))
              (wrong ring h ((status_of keys ring i c ⊥ keyed b a k (λ lawful. absurd lawful) carries).held h is of) keyed judged),
          tt,
        )

        hears_why : (ring : Ring) → ring_at keys.inputs i.0 ≡ Some ring → Fine (happening.Piece i c piece) (hears ring k i c piece)
        hears_why ring keyed = by (held_under k i.0 c.0) refl
          where
            by : (o : Option HeldConn) → held_under k i.0 c.0 ≡ o → Fine (happening.Piece i c piece) (hears_by ring k i c piece o)
            by (Some h) is =
                let found = under_some i.0 (held_at k c.0) h is in
                judges_why ring keyed h found.0 (input_is h.input i found.1) (ping_received ring (random_bytes h.nonce) (h.received ++ piece)) refl
            by None is = tt

        piece_why : (o : Option Ring) → ring_at keys.inputs i.0 ≡ o → Fine (happening.Piece i c piece) (brings_piece o k i c piece)
        piece_why (Some ring) keyed = hears_why ring keyed
        piece_why None keyed = tt

    back_why : (x : Happening) (link : LinkId) (bytes : List ℕ) (o : Option LinkHandshake) → Fine x (brings_back keys k link bytes x o)
    back_why x link bytes (Some h) =
        asks_each (λ before e. Why (entry (Wait until paused) x ∷ before) e) IsPushCall (greets (ring_at keys.outputs h.output.0) (ungreeted k link.0) link h bytes)
        (λ before call answer is drop_it. absurd (push_drops_none conn call is drop_it)) (greets_ask (ungreeted k link.0) link (ring_at keys.outputs h.output.0) h bytes)
    back_why x link bytes None = tt

    brings_why : (x : Happening) → Fine x (brings keys k x)
    brings_why (happening.Tick now) = tt
    brings_why (happening.Joined i c) = joined_why i c (ring_at keys.inputs i.0)
    brings_why (happening.Piece i c piece) = piece_why i c piece (ring_at keys.inputs i.0) refl
    brings_why (happening.Gone i c) = tt
    brings_why (happening.Room link) = back_why (happening.Room link) link [] (link_at k link.0)
    brings_why (happening.Back link bytes) = back_why (happening.Back link bytes) link bytes (link_at k link.0)
    brings_why (happening.Broken link) = tt
    brings_why (happening.InputEnd i) = tt
    brings_why happening.Stop = tt
    brings_why happening.End = tt
    brings_why happening.Failed = tt

    waits_why : (o : Option KeptBytes) → Each Why (waits_by keys k until paused o)
    waits_why (Some bytes) = tt
    waits_why None = λ x. (λ is. absurd (cc is), brings_why x)

  module _ (call : LoopCall) (answer : LoopAnswer call) (after : List LoopEntry) (above_is : above ≡ a ++ entry call answer ∷ after) where
    -- the engine dropped it
    asked : drops_in conn call ≡ true → WhyDropped keys conn (b ++ []) above
    asked is =
        Asked a after k (subst (λ (l : List LoopEntry). Carries keys no_handshakes l a k) (sym (append-nil b)) carries)
        (above_is ∙ ap (λ (e : LoopEntry). a ++ e ∷ after) (drop_is conn call answer is))

  dialed_why : (output : ℕ) (tag : List ℕ) (o : Option Ring) (answer : Option ℕ) → Each (λ before e. Why (entry (Dial output tag) answer ∷ before) e) (dialed o k output answer)
  dialed_why output tag (Some ring) (Some link) = λ x. (λ is. absurd (cc is), λ y. (λ is. absurd (cc is), tt))
  dialed_why output tag (Some ring) None = tt
  dialed_why output tag None answer = tt

  pushed_why : (link : ℕ) (bytes : List ℕ) (t : Bool) → Each Why (pushes_by k link bytes t)
  pushed_why link bytes true = tt
  pushed_why link bytes false = λ answer. (λ is. absurd (cc is), tt)

  secures_why : (call : LoopCall) (answer : LoopAnswer call) (after : List LoopEntry) → above ≡ a ++ entry call answer ∷ after → Each Why (secures keys k call)
  secures_why (Start ends) answer after is = λ x. (λ drop_it. absurd (cc drop_it), tt)
  secures_why (Wait until paused) answer after is = waits_why until paused (first_given paused k.kept)
  secures_why (Dial output tag) answer after is = λ x. (λ drop_it. absurd (cc drop_it), dialed_why output tag (ring_at keys.outputs output) x)
  secures_why (Push link bytes) answer after is = pushed_why link bytes (is_some (link_at k link))
  secures_why (Close link) answer after is = λ x. (λ drop_it. absurd (cc drop_it), tt)
  secures_why (Reply c bytes) answer after is = λ x. (λ drop_it. absurd (cc drop_it), tt)
  secures_why (DropConn c) answer after is = λ x. (λ drop_it. asked (DropConn c) answer after is drop_it, tt)
  secures_why Word answer after is = λ x. (λ drop_it. absurd (cc drop_it), tt)

  answers_why : (call : LoopCall) (answer : LoopAnswer call) (after : List LoopEntry) → above ≡ a ++ entry call answer ∷ after → Each Why (answers keys k call)
  answers_why call answer after is = by (has_keys keys)
    where
      by : (t : Bool) → Each Why (answers_by t keys k call)
      by true = secures_why call answer after is
      by false = λ x. (λ drop_it. asked call answer after is drop_it, tt)

  pub step_why : (call : LoopCall) (answer : LoopAnswer call) (later : List LoopEntry) → above ≡ a ++ entry call answer ∷ later → (own : List LoopEntry) (v : Handshakes) → Execution (answers keys k call) own (Return (answer, v))
      → (before after : List LoopEntry) → own ≡ before ++ entry (DropConn conn.0) tt ∷ after → WhyDropped keys conn (b ++ before) above
  step_why call answer later is own v way before after own_is =
      each Why (answers keys k call) own (Return (answer, v)) before (entry (DropConn conn.0) tt) after (answers_why call answer later is) way own_is (same conn.0)
    where
      same : (n : ℕ) → eqb n n ≡ true
      same n = eq-eqb n n refl

pub why_dropped : (keys : Keys) (front rest above : List LoopEntry) (k : Handshakes) (conn : ConnId) → Carries keys no_handshakes (front ++ entry (DropConn conn.0) tt ∷ rest) above k → WhyDropped keys conn front above
why_dropped keys front rest above k conn carries =
    let p : Place keys front (entry (DropConn conn.0) tt) above = place keys (entry (DropConn conn.0) tt) front rest above k carries in
    subst (λ (l : List LoopEntry). WhyDropped keys conn l above) (sym p.front_is)
    (step_why keys p.at p.below_before p.above_before above p.carries conn p.call p.answer p.above_after p.above_is p.own p.state p.way p.before p.after p.own_is)
