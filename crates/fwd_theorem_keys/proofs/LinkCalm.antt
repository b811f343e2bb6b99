-- Events of connections and of other links change nothing for a link.
use Rattle.std.proofs.Common.{◌≡◌, ◌≢◌, ℕ, zero, suc, Bool, true, false, ◌&&◌, not, if◌then◌else◌, List, [], ◌∷◌, ◌++◌, drop, length, Option, Some, None, refl, sym, ap, ◌∙◌, append-nil}
use Rattle.std.specs.Prelude.{◌==◌, is_some}
use Rattle.std.proofs.lemmas.Bool.{ne_eqb}
use Rattle.fwd_base.specs.declared.ids.InputId.{InputId}
use Rattle.fwd_base.specs.declared.ids.ConnId.{ConnId}
use Rattle.fwd_base.specs.declared.ids.LinkId.{LinkId}
use Rattle.fwd_outside.specs.Program.{entry, Return}
use Rattle.fwd_outside.specs.Loop.{LoopEntry, Push, Reply, Word, PushAnswer, Took, Again, Broke}
use Rattle.fwd_outside.specs.declared.happening.Happening.{Happening}
use Rattle.fwd_outside.specs.declared.happening.Happening.TheVariants as happening
use Rattle.fwd_handshake.specs.declared.ring.Ring.{Ring}
use Rattle.fwd_handshake.specs.declared.received.Received.{Received}
use Rattle.fwd_handshake.specs.declared.received.Received.TheVariants as received
use Rattle.fwd_handshake.specs.Judgement.{ping_received, helo_received, pong_received}
use Rattle.fwd_handshake.specs.Messages.{helo, ping, pong}
use Rattle.fwd_secure.specs.declared.handshakes.HeldConn.{HeldConn}
use Rattle.fwd_secure.specs.declared.handshakes.LinkHandshake.{LinkHandshake}
use Rattle.fwd_secure.specs.declared.handshakes.Step.{Step}
use Rattle.fwd_secure.specs.declared.handshakes.Step.TheVariants.{AwaitsHelo, SendsPing, AwaitsPong}
use Rattle.fwd_secure.specs.declared.outputs.Pushing.{Pushing}
use Rattle.fwd_secure.specs.declared.outputs.Pushing.TheVariants.{Sent, Waits, Fails}
use Rattle.fwd_secure.specs.RandomBytes.{random_bytes}
use Rattle.fwd_secure.specs.Handshakes.{Handshakes, at, with_entry, is_held, held_under, joined_at, is_joined_under, holding, released, entered, listens_at, link_at, ungreeted, counting_wrong}
use Rattle.fwd_secure.specs.Inputs.{Brings, holds_or_drops, joins_by, joins, after_message, keeping_piece, enters_or_drops, judges, hears_by, hears}
use Rattle.fwd_secure.specs.Outputs.{pushed_on, pushes, sends, stands, keeping_back, ends_by, pinged, sends_ping, with_nonce, begins_by, greets_by, greets}
use Rattle.fwd_secure.specs.Rules.{brings_joined, brings_piece}
use Rattle.fwd_theorem_keys.specs.Traffic.{taken_of, taken_in, taken_on, back_on}
use Rattle.fwd_theorem_keys.proofs.Maps.{at_with_other, at_without_other}
use Rattle.fwd_theorem_keys.proofs.Steps.{Always, always_map, always_bind}
use Rattle.fwd_theorem_keys.proofs.Entries.{taken_append, back_append}

module _ (link : ℕ) where
  pub record Calm (o : Option LinkHandshake) (own : List LoopEntry) (r : Happening × Handshakes) : Type 0 where
    pub same : link_at r.1 link ≡ o
    pub taken : taken_on link own ≡ []
    pub back : back_on link own ≡ []

  -- ---- connections

  module _ (input : InputId) (conn : ConnId) where
    abbrev Fine : Handshakes → Brings → Type 0
    Fine u p = Always (Calm (link_at u link)) p

    calm : (u v : Handshakes) (own : List LoopEntry) (y : Happening) → v.links ≡ u.links → taken_on link own ≡ [] → back_on link own ≡ [] → Calm (link_at u link) own (y, v)
    calm u v own y links taken back = record { same = ap (λ (l : List (ℕ × LinkHandshake)). at link l) links; taken = taken; back = back }

    entered_links : (u : Handshakes) → (entered u input.0 conn.0).links ≡ u.links
    entered_links u = by (is_some (joined_at u conn.0))
      where
        by : (p : Bool) → (if p then u else record u { joined = with_entry conn.0 input.0 u.joined }).links ≡ u.links
        by true = refl
        by false = refl

    piece_links : (u : Handshakes) (rest : List ℕ) → (keeping_piece u input conn rest).links ≡ u.links
    piece_links u [] = refl
    piece_links u (byte ∷ bytes) = refl

    joins_calm : (u : Handshakes) → Fine u (joins u input conn)
    joins_calm u = by (is_held u conn.0) (joined_at u conn.0)
      where
        answered : (x y : ℕ) (answer : Option (Unit {0})) → Always (λ own r. Calm (link_at u link) (entry Word x ∷ entry Word y ∷ entry (Reply conn.0 (helo (random_bytes (record { first = x; second = y })))) answer ∷ own) r)
            (holds_or_drops u input conn (record { first = x; second = y }) answer)
        answered x y (Some done) = calm u (holding u conn.0 (record { input = input; nonce = record { first = x; second = y }; received = [] })) _ (happening.Gone input conn) refl refl refl
        answered x y None = λ answer. calm u u _ (happening.Gone input conn) refl refl refl

        by : (p : Bool) (o : Option ℕ) → Fine u (if p then Return (happening.Gone input conn, u) else joins_by u input conn o)
        by true o = calm u u [] (happening.Gone input conn) refl refl refl
        by false (Some other) = calm u u [] (if other == input.0 then happening.Joined input conn else happening.Gone input conn) refl refl refl
        by false None = answered

    pub joined_calm : (u : Handshakes) (o : Option Ring) → Fine u (brings_joined o u input conn)
    joined_calm u (Some ring) = joins_calm u
    joined_calm u None = by (listens_at u input.0)
      where
        by : (p : Bool) → Calm (link_at u link) [] (happening.Joined input conn, if p then entered u input.0 conn.0 else u)
        by true = calm u (entered u input.0 conn.0) [] (happening.Joined input conn) (entered_links u) refl refl
        by false = calm u u [] (happening.Joined input conn) refl refl refl

    judges_calm : (ring : Ring) (u : Handshakes) (held : HeldConn) (piece : List ℕ) (r : Received) → Fine u (judges ring (released u conn.0) input conn held piece r)
    judges_calm ring u held piece received.More = calm u (holding (released u conn.0) conn.0 (record held { received = held.received ++ piece })) [] (happening.Gone input conn) refl refl refl
    judges_calm ring u held piece (received.Right len salt) = λ answer. by answer
      where
        by : (answer : Option (Unit {0})) → Always (λ own r. Calm (link_at u link) (entry (Reply conn.0 (pong ring salt (random_bytes held.nonce))) answer ∷ own) r)
            (enters_or_drops (released u conn.0) input conn (after_message len held.received piece) answer)
        by (Some done) =
            calm u (keeping_piece (entered (released u conn.0) input.0 conn.0) input conn (after_message len held.received piece)) _ (happening.Joined input conn)
            (piece_links (entered (released u conn.0) input.0 conn.0) (after_message len held.received piece) ∙ entered_links (released u conn.0)) refl refl
        by None = λ answer. calm u (released u conn.0) _ (happening.Gone input conn) refl refl refl
    judges_calm ring u held piece received.Wrong = λ answer. calm u (released u conn.0) _ (happening.Gone input conn) refl refl refl

    hears_calm : (ring : Ring) (u : Handshakes) (piece : List ℕ) → Fine u (hears ring u input conn piece)
    hears_calm ring u piece = by (held_under u input.0 conn.0)
      where
        by : (o : Option HeldConn) → Fine u (hears_by ring u input conn piece o)
        by (Some held) = judges_calm ring u held piece (ping_received ring (random_bytes held.nonce) (held.received ++ piece))
        by None = calm u u [] (if not (is_held u conn.0) && is_joined_under u input.0 conn.0 then happening.Piece input conn piece else happening.Gone input conn) refl refl refl

    pub piece_calm : (u : Handshakes) (piece : List ℕ) (o : Option Ring) → Fine u (brings_piece o u input conn piece)
    piece_calm u piece (Some ring) = hears_calm ring u piece
    piece_calm u piece None = calm u u [] (happening.Piece input conn piece) refl refl refl

  -- ---- another link

  module _ (other : LinkId) (ne : link ≢ other.0) where
    abbrev AreOther : List LoopEntry → Type 0
    AreOther own = (taken_on link own ≡ []) × (back_on link own ≡ [])

    other_taken : (bytes : List ℕ) (answer : PushAnswer) → taken_in link (Push other.0 bytes) answer ≡ []
    other_taken bytes answer = ap (λ (t : Bool). if t then taken_of answer bytes else []) (ne_eqb other.0 link (λ is. ne (sym is)))

    one_more : (bytes : List ℕ) (answer : PushAnswer) (own : List LoopEntry) → AreOther own → AreOther (entry (Push other.0 bytes) answer ∷ own)
    one_more bytes answer own are = (ap (λ (l : List ℕ). l ++ taken_on link own) (other_taken bytes answer) ∙ are.0, are.1)

    sends_other : (most : ℕ) (rest : List ℕ) → Always (λ own x. AreOther own) (pushes most other.0 rest)
    sends_other zero rest = (refl, refl)
    sends_other (suc most) [] = (refl, refl)
    sends_other (suc most) (byte ∷ rest) = λ answer. by (sends_other most) answer
      where
        go_on : ((left : List ℕ) → Always (λ own x. AreOther own) (pushes most other.0 left)) → (n : ℕ) (t : Bool) → Always (λ own x. AreOther (entry (Push other.0 (byte ∷ rest)) (Took n) ∷ own)) (if t then Return (Fails, byte ∷ rest) else pushes most other.0 (drop n (byte ∷ rest)))
        go_on later n true = one_more (byte ∷ rest) (Took n) [] (refl, refl)
        go_on later n false = always_map (λ own x. AreOther own) (λ own x. AreOther (entry (Push other.0 (byte ∷ rest)) (Took n) ∷ own)) (pushes most other.0 (drop n (byte ∷ rest)))
            (λ own x are. one_more (byte ∷ rest) (Took n) own are) (later (drop n (byte ∷ rest)))

        by : ((left : List ℕ) → Always (λ own x. AreOther own) (pushes most other.0 left)) → (answer : PushAnswer) → Always (λ own x. AreOther (entry (Push other.0 (byte ∷ rest)) answer ∷ own)) (pushed_on (pushes most other.0) (byte ∷ rest) answer)
        by later (Took n) = go_on later n (n == 0)
        by later Again = one_more (byte ∷ rest) Again [] (refl, refl)
        by later Broke = one_more (byte ∷ rest) Broke [] (refl, refl)

    module _ (k : Handshakes) where
      abbrev u : Handshakes
      u = ungreeted k other.0

      module _ (own : List LoopEntry) (are : AreOther own) where
        at_end : (y : Happening) (v : Handshakes) → link_at v link ≡ link_at k link → Calm (link_at k link) (own ++ []) (y, v)
        at_end y v is = record {
          same = is;
          taken = taken_append link own [] ∙ append-nil (taken_on link own) ∙ are.0;
          back = back_append link own [] ∙ append-nil (back_on link own) ∙ are.1;
        }

        standing : (h : LinkHandshake) → at link (with_entry other.0 h u.links) ≡ link_at k link
        standing h = at_with_other link other.0 h u.links ne ∙ at_without_other link other.0 k.links ne

        kept_back : (rest : List ℕ) → Calm (link_at k link) (own ++ []) (happening.Room other, keeping_back u other rest)
        kept_back [] = at_end (happening.Room other) u (at_without_other link other.0 k.links ne)
        kept_back (byte ∷ bytes) = at_end (happening.Room other) (keeping_back u other (byte ∷ bytes)) (at_without_other link other.0 k.links ne)

        ends_calm : (h : LinkHandshake) (r : Received) → Always (λ more y. Calm (link_at k link) (own ++ more) y) (ends_by u other h r)
        ends_calm h received.More = at_end (happening.Room other) (stands u other h AwaitsPong) (standing (record h { step = AwaitsPong }))
        ends_calm h (received.Right len host) = kept_back (drop len h.received)
        ends_calm h received.Wrong = at_end (happening.Broken other) (counting_wrong (stands u other h AwaitsPong)) (standing (record h { step = AwaitsPong }))

        pinged_calm : (ring : Ring) (h : LinkHandshake) (pushing : Pushing) (rest : List ℕ) → Always (λ more y. Calm (link_at k link) (own ++ more) y) (pinged ring u other h pushing rest)
        pinged_calm ring h Sent rest = ends_calm h (pong_received ring (random_bytes h.salt) h.nonce h.received)
        pinged_calm ring h Waits rest = at_end (happening.Room other) (stands u other h (SendsPing rest)) (standing (record h { step = SendsPing rest }))
        pinged_calm ring h Fails rest = at_end (happening.Broken other) (stands u other h (SendsPing rest)) (standing (record h { step = SendsPing rest }))

      ping_calm : (ring : Ring) (h : LinkHandshake) (rest : List ℕ) → Always (Calm (link_at k link)) (sends_ping ring u other h rest)
      ping_calm ring h rest =
          always_bind (Calm (link_at k link)) (sends other.0 rest) (λ pushed. pinged ring u other h pushed.0 pushed.1)
          (always_map (λ own (x : Pushing × List ℕ). AreOther own) (λ own (x : Pushing × List ℕ). Always (λ more y. Calm (link_at k link) (own ++ more) y) (pinged ring u other h x.0 x.1)) (sends other.0 rest)
          (λ own (x : Pushing × List ℕ) are. pinged_calm own are ring h x.0 x.1) (sends_other (length rest) rest))

      begins_calm : (ring : Ring) (h : LinkHandshake) (r : Received) → Always (Calm (link_at k link)) (begins_by ring u other h r)
      begins_calm ring h received.More = at_end [] (refl, refl) (happening.Room other) (stands u other h AwaitsHelo) (standing [] (refl, refl) (record h { step = AwaitsHelo }))
      begins_calm ring h (received.Right len nonce) = ping_calm ring (with_nonce h len nonce) (ping ring (random_bytes h.salt) nonce)
      begins_calm ring h received.Wrong = at_end [] (refl, refl) (happening.Broken other) (counting_wrong (stands u other h AwaitsHelo)) (standing [] (refl, refl) (record h { step = AwaitsHelo }))

      step_calm : (ring : Ring) (h : LinkHandshake) (step : Step) → Always (Calm (link_at k link)) (greets_by ring u other h step)
      step_calm ring h AwaitsHelo = begins_calm ring h (helo_received h.received)
      step_calm ring h (SendsPing rest) = ping_calm ring h rest
      step_calm ring h AwaitsPong = ends_calm [] (refl, refl) h (pong_received ring (random_bytes h.salt) h.nonce h.received)

      pub greets_calm : (ring : Option Ring) (h : LinkHandshake) (bytes : List ℕ) → Always (Calm (link_at k link)) (greets ring (ungreeted k other.0) other h bytes)
      greets_calm (Some ring) h bytes = step_calm ring (record h { received = h.received ++ bytes }) h.step
      greets_calm None h bytes = at_end [] (refl, refl) (happening.Broken other) u (at_without_other link other.0 k.links ne)
