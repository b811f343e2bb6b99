-- The dial of a link of a keyed output, and what follows it.
use Rattle.std.proofs.Common.{◌≡◌, ◌⊎◌, inl, inr, ⊎_elim, ℕ, Bool, false, List, [], ◌∷◌, ◌++◌, drop, Option, Some, None, refl, sym, ap, subst, ◌∙◌, append_assoc, append-nil}
use Rattle.std.specs.Prelude.{is_some}
use Rattle.std.proofs.lemmas.List.{append_cancel_left}
use Rattle.std.proofs.lemmas.List.Folds.{list_any-append}
use Rattle.fwd_base.specs.declared.ids.LinkId.{LinkId}
use Rattle.fwd_outside.specs.Program.{entry, Return, Execution}
use Rattle.fwd_outside.specs.Loop.{LoopEntry, Dial, Push, Word, PushAnswer, Again}
use Rattle.fwd_outside.specs.NewLinks.{AreNewLinks}
use Rattle.fwd_handshake.specs.declared.ring.Ring.{Ring}
use Rattle.fwd_handshake.specs.declared.received.Received.{Received}
use Rattle.fwd_handshake.specs.declared.received.Received.TheVariants as verdict
use Rattle.fwd_handshake.specs.Judgement.{helo_received, pong_received}
use Rattle.fwd_handshake.specs.Members.{nonce_of}
use Rattle.fwd_handshake.specs.Messages.{ping}
use Rattle.fwd_secure.specs.declared.keys.Keys.{Keys}
use Rattle.fwd_secure.specs.declared.handshakes.RandomBytes.{RandomBytes}
use Rattle.fwd_secure.specs.declared.handshakes.LinkHandshake.{LinkHandshake}
use Rattle.fwd_secure.specs.declared.handshakes.Step.{Step}
use Rattle.fwd_secure.specs.declared.handshakes.Step.TheVariants.{AwaitsHelo, SendsPing, AwaitsPong}
use Rattle.fwd_secure.specs.Keys.{ring_at}
use Rattle.fwd_secure.specs.RandomBytes.{random_bytes}
use Rattle.fwd_secure.specs.Handshakes.{Handshakes, no_handshakes, link_at, greeting}
use Rattle.fwd_secure.specs.Outputs.{greets}
use Rattle.fwd_secure.specs.Rules.{begun, dialed, pushes_by, secures, answers, answers_by}
use Rattle.fwd_secure.specs.Carried.{Carries}
use Rattle.fwd_theorem_keys.specs.Traffic.{taken_on, back_on, closes_in, was_closed}
use Rattle.fwd_theorem_keys.specs.Links.{IsNotRight, IsUngreeted, NoHelo, NoPing, NoPong, Greets, Ungreeted, Greeted, GreetsFirst, WhyAgain, BelowToo, NotYet, PongIsRight, HasRoom, dial_calls}
use Rattle.fwd_theorem_keys.proofs.Maps.{at_with_same}
use Rattle.fwd_theorem_keys.proofs.Steps.{Always, always, Parts, parts}
use Rattle.fwd_theorem_keys.proofs.Entries.{neither}
use Rattle.fwd_theorem_keys.proofs.Judging.{nothing_right}
use Rattle.fwd_theorem_keys.proofs.RisingLists.{AreRising, none_rising, step_rising, are_rising}
use Rattle.fwd_theorem_keys.proofs.StreamCalls.{output_keyed}
use Rattle.fwd_theorem_keys.proofs.LinkStatus.{StepIs, LinkIs}
use Rattle.fwd_theorem_keys.proofs.LinkCalls.{AreOther, other_behind, later_link, StatusOf, Told}
use Rattle.fwd_secure.proofs.Carrying.{carries_more}

no_helo : IsNotRight (helo_received [])
no_helo len content is = nothing_right nonce_of len content is

-- the calls of a dial that gives a link, and the state after it
pub record Dials (k : Handshakes) (output : ℕ) (tag : List ℕ) (link : ℕ) (own : List LoopEntry) (v : Handshakes) : Type 0 where
  pub salt : RandomBytes
  pub calls : own ≡ entry (Dial output tag) (Some link) ∷ entry Word salt.first ∷ entry Word salt.second ∷ []
  pub state : v ≡ greeting k link (begun output salt)

module _ (keys : Keys) (ring : Ring) (output : ℕ) (keyed : ring_at keys.outputs output ≡ Some ring) (k : Handshakes) (tag : List ℕ) (link : ℕ) where
  abbrev IsDial : List LoopEntry → Option ℕ × Handshakes → Type 0
  IsDial own r = r.0 ≡ Some link → Dials k output tag link own r.1

  some_is : (m n : ℕ) → Some m ≡ Some n → m ≡ n
  some_is m n is = cc is

  begins_dial : (other x y : ℕ) → other ≡ link
      → Dials k output tag link (entry (Dial output tag) (Some other) ∷ entry Word x ∷ entry Word y ∷ []) (greeting k other (begun output (record { first = x; second = y })))
  begins_dial other x y same = record {
    salt = record { first = x; second = y };
    calls = ap (λ (n : ℕ). entry (Dial output tag) (Some n) ∷ entry Word x ∷ entry Word y ∷ []) same;
    state = ap (λ (n : ℕ). greeting k n (begun output (record { first = x; second = y }))) same;
  }

  dialed_always : (answer : Option ℕ) → Always (λ own r. IsDial (entry (Dial output tag) answer ∷ own) r) (dialed (Some ring) k output answer)
  dialed_always (Some other) = λ x y is. begins_dial other x y (some_is other link is)
  dialed_always None = λ is. absurd (cc is)

  pub dial_is : (own : List LoopEntry) (v : Handshakes) → Execution (answers keys k (Dial output tag)) own (Return (Some link, v)) → Dials k output tag link own v
  dial_is own v way =
      always IsDial (secures keys k (Dial output tag)) own (Some link, v)
      (λ answer. subst (λ (o : Option Ring). Always (λ own r. IsDial (entry (Dial output tag) answer ∷ own) r) (dialed o k output answer)) (sym keyed) (dialed_always answer))
      (subst (λ (t : Bool). Execution (answers_by t keys k (Dial output tag)) own (Return (Some link, v))) (output_keyed keys output ring keyed) way) refl

-- ---- since the dial

module _ (keys : Keys) (ring : Ring) (output : ℕ) (keyed : ring_at keys.outputs output ≡ Some ring) (tag : List ℕ) (link : ℕ) where
  abbrev id : LinkId
  id = record { 0 = link }

  -- `k` is the state at the end
  pub record Dialed (below before since : List LoopEntry) (k : Handshakes) : Type 0 where
    pub below_before : List LoopEntry
    pub salt : RandomBytes
    pub begins : Handshakes
    pub carries : Carries keys no_handshakes (below_before ++ dial_calls output tag link salt) (before ++ entry (Dial output tag) (Some link) ∷ []) begins
    pub below_since : List LoopEntry
    pub below_is : below ≡ below_before ++ entry (Dial output tag) (Some link) ∷ entry Word salt.first ∷ entry Word salt.second ∷ below_since
    pub rising : AreRising begins
    pub first : LinkIs ring output id salt (link_at begins link) [] [] [] (Told keys ring output id salt keyed begins [] [])
    pub goes_on : Carries keys begins below_since since k

  first_status : (at u : Handshakes) (salt : RandomBytes) → u ≡ greeting at link (begun output salt) → LinkIs ring output id salt (link_at u link) [] [] [] (Told keys ring output id salt keyed u [] [])
  first_status at_dial u salt is =
      subst (λ (o : Option LinkHandshake). LinkIs ring output id salt o [] [] [] (Told keys ring output id salt keyed u [] [])) (sym (ap (λ (s : Handshakes). link_at s link) is ∙ at_with_same link (begun output salt) at_dial.links))
      (record { of = refl; salted = refl; unused = refl; step = record { received = refl; taken_none = refl; not_right = no_helo } })

  pub dialed_from : (below before since : List LoopEntry) (k : Handshakes) → Carries keys no_handshakes below (before ++ entry (Dial output tag) (Some link) ∷ since) k → Dialed below before since k
  dialed_from below before since k carries = by p.second
    where
      p : Parts keys no_handshakes below before (entry (Dial output tag) (Some link) ∷ since) k
      p = parts keys no_handshakes below before (entry (Dial output tag) (Some link) ∷ since) k carries

      by : Carries keys p.at p.below_two (entry (Dial output tag) (Some link) ∷ since) k → Dialed below before since k
      by (own, rest, u, is, way, more) =
          let d : Dials p.at output tag link own u = dial_is keys ring output keyed p.at tag link own u way in
          record {
            below_before = p.below_one;
            salt = d.salt;
            begins = u;
            carries = subst (λ (c : List LoopEntry). Carries keys no_handshakes (p.below_one ++ c) (before ++ entry (Dial output tag) (Some link) ∷ []) u) d.calls
                (carries_more keys no_handshakes p.at u p.below_one own before (Dial output tag) (Some link) p.first way);
            below_since = rest;
            below_is = p.below_is ∙ ap (λ (c : List LoopEntry). p.below_one ++ c) (is ∙ ap (λ (c : List LoopEntry). c ++ rest) d.calls);
            rising = step_rising keys p.at (are_rising keys no_handshakes p.at p.below_one before none_rising p.first) (Dial output tag) (Some link) own u way;
            first = first_status p.at u d.salt d.state;
            goes_on = more;
          }

  module _ (salt : RandomBytes) (Room : Type 0) (below above : List LoopEntry) where
    abbrev IsAt : Option LinkHandshake → Type 0
    IsAt o = LinkIs ring output id salt o (back_on link below) (taken_on link below) (taken_on link above) Room

    ungreeted_by : (h : LinkHandshake) (step : Step) → StepIs ring output id salt step h (back_on link below) (taken_on link below) → IsUngreeted ring (random_bytes salt) link below
    ungreeted_by h AwaitsHelo is = NoHelo is.not_right is.taken_none
    ungreeted_by h (SendsPing rest) is = NoPing is.0.len h.nonce rest is.0.helo is.0.taken_front is.1
    ungreeted_by h AwaitsPong is = NoPong is.0.len h.nonce is.0.helo is.0.taken_all (subst (λ (s : List ℕ). IsNotRight (pong_received ring (random_bytes salt) h.nonce s)) is.0.received is.1)

    pub ungreeted_of : (h : LinkHandshake) → IsAt (Some h) → IsUngreeted ring (random_bytes salt) link below
    ungreeted_of h is = ungreeted_by h h.step is.step

    -- a status in the words of the statement
    pub greets_of : (o : Option LinkHandshake) → IsAt o → Greets ring (random_bytes salt) link below above
    greets_of (Some h) is = Ungreeted (ungreeted_of h is) is.unused
    greets_of None is = Greeted (record { len = is.len; nonce = is.nonce; size = is.size; host = is.host; helo = is.helo; pong = is.pong; taken = is.taken_all })

  module _ (below before since : List LoopEntry) (k : Handshakes) (d : Dialed below before since k) where
    pub others : AreNewLinks 0 below → AreOther link d.below_since
    others new =
        let all : AreOther link (entry Word d.salt.first ∷ entry Word d.salt.second ∷ d.below_since) =
        other_behind 0 d.below_before output tag link (entry Word d.salt.first ∷ entry Word d.salt.second ∷ d.below_since) (subst (AreNewLinks 0) d.below_is new) in
        all.1.1

    pub status : AreNewLinks 0 below → was_closed link since ≡ false → StatusOf keys ring output id d.salt keyed (Told keys ring output id d.salt keyed d.begins d.below_since since) k d.below_since since
    status new open_link = later_link keys ring output id d.salt keyed d.begins since d.below_since [] [] d.begins k d.rising d.first (refl, refl) (others new) open_link d.goes_on

    abbrev pub first_of : Greets ring (random_bytes d.salt) link d.below_since since → GreetsFirst keys ring output tag link below before since
    first_of greets = record {
      below_before = d.below_before;
      salt = d.salt;
      at = d.begins;
      carries = d.carries;
      below_since = d.below_since;
      below_is = d.below_is ∙ sym (append_assoc d.below_before (dial_calls output tag link d.salt) d.below_since);
      greets = greets;
    }

  -- ---- the statements

  pub greets_first : (below before since : List LoopEntry) (k : Handshakes) → Carries keys no_handshakes below (before ++ entry (Dial output tag) (Some link) ∷ since) k → AreNewLinks 0 below → was_closed link since ≡ false
      → GreetsFirst keys ring output tag link below before since
  greets_first below before since k carries new open_link =
      let d : Dialed below before since k = dialed_from below before since k carries in
      first_of below before since k d (greets_of d.salt (Told keys ring output id d.salt keyed d.begins d.below_since since) d.below_since since (link_at k link) (status below before since k d new open_link))

  -- `Again` on the link
  module _ (k : Handshakes) (own : List LoopEntry) (v : Handshakes) (bytes : List ℕ) where
    abbrev IsAgain : List LoopEntry → PushAnswer × Handshakes → Type 0
    IsAgain own r = r.0 ≡ Again → (own ≡ entry (Push link bytes) Again ∷ []) ⊎ ((h : LinkHandshake) × (link_at r.1 link ≡ Some h))

    again_always : (o : Option LinkHandshake) → link_at k link ≡ o → Always IsAgain (pushes_by k link bytes (is_some o))
    again_always (Some h) is = λ same. inr (h, is)
    again_always None is = λ answer same. inl (ap (λ (x : PushAnswer). entry (Push link bytes) x ∷ []) same)

    pub again_is : Execution (answers keys k (Push link bytes)) own (Return (Again, v)) → (own ≡ entry (Push link bytes) Again ∷ []) ⊎ ((h : LinkHandshake) × (link_at v link ≡ Some h))
    again_is way =
        always IsAgain (secures keys k (Push link bytes)) own (Again, v) (again_always (link_at k link) refl)
        (subst (λ (t : Bool). Execution (answers_by t keys k (Push link bytes)) own (Return (Again, v))) (output_keyed keys output ring keyed) way) refl

  module _ (below before since : List LoopEntry) (k : Handshakes) (bytes : List ℕ) where
    abbrev pushed : List LoopEntry
    pushed = since ++ entry (Push link bytes) Again ∷ []

    abbrev Answer : Type 0
    Answer = WhyAgain keys ring output tag link bytes below before pushed

    still_open : was_closed link since ≡ false → was_closed link pushed ≡ false
    still_open open_link = list_any-append (λ e. closes_in link e.call) since (entry (Push link bytes) Again ∷ []) ∙ neither (was_closed link since) false open_link refl

    module _ (new : AreNewLinks 0 below) (open_link : was_closed link since ≡ false) (d : Dialed below before pushed k) where
      under_way : (h : LinkHandshake) → link_at k link ≡ Some h → Answer
      under_way h is =
          let held : LinkIs ring output id d.salt (Some h) (back_on link d.below_since) (taken_on link d.below_since) (taken_on link pushed) (Told keys ring output id d.salt keyed d.begins d.below_since pushed) =
          subst (λ (o : Option LinkHandshake). LinkIs ring output id d.salt o (back_on link d.below_since) (taken_on link d.below_since) (taken_on link pushed) (Told keys ring output id d.salt keyed d.begins d.below_since pushed)) is
          (status below before pushed k d new (still_open open_link)) in
          let ungreeted : IsUngreeted ring (random_bytes d.salt) link d.below_since = ungreeted_of d.salt (Told keys ring output id d.salt keyed d.begins d.below_since pushed) d.below_since pushed h held in
          NotYet (first_of below before pushed k d (Ungreeted ungreeted held.unused)) ungreeted

      by_last : (middle last : List LoopEntry) → d.below_since ≡ middle ++ last → (u : Handshakes) → Carries keys u last (entry (Push link bytes) Again ∷ []) k → Answer
      by_last middle last parts_are u (own, rest, v, is, way, ends) =
          ⊎_elim (λ (calls : own ≡ entry (Push link bytes) Again ∷ []). BelowToo front (whole calls)) (λ (h : (h : LinkHandshake) × (link_at v link ≡ Some h)). under_way h.0 (ap (λ (s : Handshakes). link_at s link) ends.1 ∙ h.1)) (again_is u own v bytes way)
        where
          front : List LoopEntry
          front = d.below_before ++ entry (Dial output tag) (Some link) ∷ entry Word d.salt.first ∷ entry Word d.salt.second ∷ middle

          whole : own ≡ entry (Push link bytes) Again ∷ [] → below ≡ front ++ entry (Push link bytes) Again ∷ []
          whole calls =
              let last_is : last ≡ entry (Push link bytes) Again ∷ [] = is ∙ ap (λ (c : List LoopEntry). own ++ c) ends.0 ∙ append-nil own ∙ calls in
              d.below_is
              ∙ ap (λ (c : List LoopEntry). d.below_before ++ entry (Dial output tag) (Some link) ∷ entry Word d.salt.first ∷ entry Word d.salt.second ∷ c) (parts_are ∙ ap (λ (c : List LoopEntry). middle ++ c) last_is)
              ∙ sym (append_assoc d.below_before (entry (Dial output tag) (Some link) ∷ entry Word d.salt.first ∷ entry Word d.salt.second ∷ middle) (entry (Push link bytes) Again ∷ []))

      pub again_early : Answer
      again_early =
          let p : Parts keys d.begins d.below_since since (entry (Push link bytes) Again ∷ []) k = parts keys d.begins d.below_since since (entry (Push link bytes) Again ∷ []) k d.goes_on in
          by_last p.below_one p.below_two p.below_is p.at p.second

  pub again_before : (below before since : List LoopEntry) (k : Handshakes) (bytes : List ℕ) → Carries keys no_handshakes below (before ++ entry (Dial output tag) (Some link) ∷ (since ++ entry (Push link bytes) Again ∷ [])) k → AreNewLinks 0 below → was_closed link since ≡ false
      → Answer below before since k bytes
  again_before below before since k bytes carries new open_link =
      again_early below before since k bytes new open_link (dialed_from below before (since ++ entry (Push link bytes) Again ∷ []) k carries)

  -- a right PONG
  right_is : (r : Received) (m n : ℕ) (s t : List ℕ) → r ≡ verdict.Right m s → r ≡ verdict.Right n t → (m ≡ n) × (s ≡ t)
  right_is r m n s t one two = (cc (one, two), cc (one, two))

  left_none : (more rest : List ℕ) → more ++ rest ≡ [] → rest ≡ []
  left_none [] rest is = is
  left_none (x ∷ more) rest is = absurd (cc is)

  not_greeted : (salt : List ℕ) (below : List LoopEntry) → IsUngreeted ring salt link below → PongIsRight ring salt link below → ⊥
  not_greeted salt below (NoHelo off none) p = off p.len p.nonce p.helo
  not_greeted salt below (NoPing m n rest helo_was front left_over) p =
      let same = right_is (helo_received (back_on link below)) m p.len n p.nonce helo_was p.helo in
      let message : List ℕ = ping ring salt p.nonce in
      let whole : message ++ (p.more ++ rest) ≡ message ++ [] =
      sym (append_assoc message p.more rest) ∙ ap (λ (c : List ℕ). c ++ rest) (sym p.taken) ∙ front ∙ ap (ping ring salt) same.1 ∙ sym (append-nil message) in
      left_over (left_none p.more rest (append_cancel_left message (p.more ++ rest) [] whole))
  not_greeted salt below (NoPong m n helo_was taken_was off) p =
      let same = right_is (helo_received (back_on link below)) m p.len n p.nonce helo_was p.helo in
      off p.size p.host (ap (λ (c : ℕ). pong_received ring salt n (drop c (back_on link below))) same.0 ∙ ap (λ (c : List ℕ). pong_received ring salt c (drop p.len (back_on link below))) same.1 ∙ p.pong)

  room_by : (salt : RandomBytes) (Room : Type 0) (below above : List LoopEntry) (o : Option LinkHandshake) → IsAt salt Room below above o → PongIsRight ring (random_bytes salt) link below → Room
  room_by salt Room below above (Some h) is p = absurd (not_greeted (random_bytes salt) below (ungreeted_of salt Room below above h is) p)
  room_by salt Room below above None is p = is.room

  pub has_room : (below before since : List LoopEntry) (k : Handshakes) → Carries keys no_handshakes below (before ++ entry (Dial output tag) (Some link) ∷ since) k → AreNewLinks 0 below → was_closed link since ≡ false
      → (greets : GreetsFirst keys ring output tag link below before since) × (PongIsRight ring (random_bytes greets.salt) link greets.below_since → HasRoom keys ring (random_bytes greets.salt) link greets.at greets.below_since since)
  has_room below before since k carries new open_link =
      let d : Dialed below before since k = dialed_from below before since k carries in
      let Room : Type 0 = Told keys ring output id d.salt keyed d.begins d.below_since since in
      let now : StatusOf keys ring output id d.salt keyed Room k d.below_since since = status below before since k d new open_link in
      (first_of below before since k d (greets_of d.salt Room d.below_since since (link_at k link) now), room_by d.salt Room d.below_since since (link_at k link) now)
