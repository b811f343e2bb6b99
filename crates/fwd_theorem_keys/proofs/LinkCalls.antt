-- Every call on a keyed loop since the dial of a link, one after another.
use Rattle.std.proofs.Common.{◌≡◌, ◌≢◌, ⊎_elim, ℕ, ◌≤◌, Bool, true, false, if◌then◌else◌, eqb, List, [], ◌∷◌, ◌++◌, drop, Option, Some, None, refl, sym, ap, subst, ◌∙◌, append_assoc, append-nil, arith, ◌⊎◌, inl}
use Rattle.std.specs.Prelude.{is_some}
use Rattle.std.proofs.lemmas.Bool.{cases_eq, eq-eqb, ne_eqb}
use Rattle.std.proofs.lemmas.List.{drop-append-le}
use Rattle.fwd_base.specs.declared.ids.LinkId.{LinkId}
use Rattle.fwd_outside.specs.Program.{entry, Return, Execution}
use Rattle.fwd_outside.specs.Loop.{LoopCall, LoopAnswer, LoopEntry, Start, Wait, Dial, Push, Close, Reply, DropConn, Word, PushAnswer, Again}
use Rattle.fwd_outside.specs.NewLinks.{AreNewLinks, IsNewLink, greatest_by}
use Rattle.fwd_outside.specs.declared.happening.Happening.{Happening}
use Rattle.fwd_outside.specs.declared.happening.Happening.TheVariants as happening
use Rattle.fwd_handshake.specs.declared.ring.Ring.{Ring}
use Rattle.fwd_handshake.specs.Judgement.{helo_received, pong_received}
use Rattle.fwd_handshake.specs.Members.{nonce_of, host_of}
use Rattle.fwd_handshake.specs.Messages.{ping}
use Rattle.fwd_secure.specs.declared.keys.Keys.{Keys}
use Rattle.fwd_secure.specs.declared.handshakes.RandomBytes.{RandomBytes}
use Rattle.fwd_secure.specs.declared.handshakes.LinkHandshake.{LinkHandshake}
use Rattle.fwd_secure.specs.declared.handshakes.KeptBytes.{KeptBytes}
use Rattle.fwd_secure.specs.Keys.{ring_at}
use Rattle.fwd_secure.specs.Kept.{event_of, first_given}
use Rattle.fwd_secure.specs.RandomBytes.{random_bytes}
use Rattle.fwd_secure.specs.Handshakes.{Handshakes, at, listening, left, dropped, link_at, greeting, ungreeted, closed, without_given}
use Rattle.fwd_secure.specs.Inputs.{Brings}
use Rattle.fwd_secure.specs.Outputs.{greets}
use Rattle.fwd_secure.specs.Rules.{brings_joined, brings_piece, brings_back, brings, waits_by, begun, dialed, pushes_by, secures, answers, answers_by}
use Rattle.fwd_secure.specs.Carried.{Carries}
use Rattle.fwd_theorem_keys.specs.Traffic.{taken_of, taken_in, taken_on, back_bytes, back_on, closes_in, was_closed}
use Rattle.fwd_theorem_keys.proofs.Maps.{at_with_other, at_without_other}
use Rattle.fwd_theorem_keys.proofs.Steps.{Always, always, always_map}
use Rattle.fwd_theorem_keys.proofs.Entries.{taken_append, back_append, first_false, second_false, not_both}
use Rattle.fwd_theorem_keys.proofs.Judging.{right_within, right_longer}
use Rattle.fwd_theorem_keys.proofs.RisingLists.{AreRising, step_rising}
use Rattle.fwd_theorem_keys.proofs.StreamCalls.{output_keyed}
use Rattle.fwd_theorem_keys.proofs.LinkStatus.{Done, JustNow, LinkIs, at_bytes, greets_status}
use Rattle.fwd_secure.proofs.Carrying.{carries_more}
use Rattle.fwd_theorem_keys.specs.Links.{HasRoom}
use Rattle.fwd_theorem_keys.proofs.LinkCalm.{Calm, joined_calm, piece_calm, greets_calm}

link_is : (i j : LinkId) → i.0 ≡ j.0 → i ≡ j
link_is i j is = ap (λ (n : ℕ). record { 0 = n }) is

-- the link isn't given by a dial
abbrev pub IsOther : ℕ → (call : LoopCall) → LoopAnswer call → Type 0
IsOther link (Dial output tag) (Some other) = link ≢ other
IsOther link call answer = Unit {0}

abbrev pub AreOther : ℕ → List LoopEntry → Type 0
AreOther link [] = Unit {0}
AreOther link (e ∷ es) = IsOther link e.call e.answer × AreOther link es

pub other_left : (link : ℕ) (xs ys : List LoopEntry) → AreOther link (xs ++ ys) → AreOther link xs
other_left link [] ys all = tt
other_left link (x ∷ xs) ys all = (all.0, other_left link xs ys all.1)

pub other_right : (link : ℕ) (xs ys : List LoopEntry) → AreOther link (xs ++ ys) → AreOther link ys
other_right link [] ys all = all
other_right link (x ∷ xs) ys all = other_right link xs ys all.1

-- links that are greater than this one
is_other_by : (greatest link : ℕ) (call : LoopCall) (answer : LoopAnswer call) → link ≤ greatest → IsNewLink greatest call answer → IsOther link call answer × (link ≤ greatest_by greatest call answer)
is_other_by greatest link (Dial output tag) (Some other) le new = (λ same. omega (arith, le, new, same), omega (arith, le, new))
is_other_by greatest link (Dial output tag) None le new = (tt, le)
is_other_by greatest link (Start ends) answer le new = (tt, le)
is_other_by greatest link (Wait until paused) answer le new = (tt, le)
is_other_by greatest link (Push other bytes) answer le new = (tt, le)
is_other_by greatest link (Close other) answer le new = (tt, le)
is_other_by greatest link (Reply conn bytes) answer le new = (tt, le)
is_other_by greatest link (DropConn conn) answer le new = (tt, le)
is_other_by greatest link Word answer le new = (tt, le)

later_other : (greatest link : ℕ) (es : List LoopEntry) → link ≤ greatest → AreNewLinks greatest es → AreOther link es
later_other greatest link [] le new = tt
later_other greatest link (e ∷ es) le new =
    let one = is_other_by greatest link e.call e.answer le new.0 in
    (one.0, later_other (greatest_by greatest e.call e.answer) link es one.1 new.1)

pub other_behind : (greatest : ℕ) (front : List LoopEntry) (output : ℕ) (tag : List ℕ) (link : ℕ) (es : List LoopEntry) → AreNewLinks greatest (front ++ entry (Dial output tag) (Some link) ∷ es) → AreOther link es
other_behind greatest [] output tag link es new = later_other link link es (omega arith) new.1
other_behind greatest (e ∷ front) output tag link es new = other_behind (greatest_by greatest e.call e.answer) front output tag link es new.1

module _ (keys : Keys) (ring : Ring) (output : ℕ) (l : LinkId) (salt : RandomBytes) (keyed : ring_at keys.outputs output ≡ Some ring) where
  abbrev pub StatusOf : Type 0 → Handshakes → List LoopEntry → List LoopEntry → Type 0
  StatusOf Room k b a = LinkIs ring output l salt (link_at k l.0) (back_on l.0 b) (taken_on l.0 b) (taken_on l.0 a) Room

  abbrev Later : Type 0 → List LoopEntry → Type 0
  Later Earlier above = Earlier ⊎ JustNow ring output l salt above

  -- more calls, of which none is of the link
  longer : (Earlier : Type 0) (o : Option LinkHandshake) (b a own : List LoopEntry) (call : LoopCall) (answer : LoopAnswer call) → back_on l.0 own ≡ [] → taken_on l.0 own ≡ [] → taken_in l.0 call answer ≡ []
      → LinkIs ring output l salt o (back_on l.0 b) (taken_on l.0 b) (taken_on l.0 a) Earlier
      → LinkIs ring output l salt o (back_on l.0 (b ++ own)) (taken_on l.0 (b ++ own)) (taken_on l.0 (a ++ entry call answer ∷ [])) (Later Earlier (a ++ entry call answer ∷ []))
  longer Earlier o b a own call answer no_back no_taken none is =
      at_bytes ring output l salt o (back_on l.0 b) (back_on l.0 (b ++ own)) (taken_on l.0 b) (taken_on l.0 (b ++ own)) (taken_on l.0 a) (taken_on l.0 (a ++ entry call answer ∷ [])) (Later Earlier (a ++ entry call answer ∷ []))
      (back_append l.0 b own ∙ ap (λ (s : List ℕ). back_on l.0 b ++ s) no_back ∙ append-nil (back_on l.0 b))
      (taken_append l.0 b own ∙ ap (λ (s : List ℕ). taken_on l.0 b ++ s) no_taken ∙ append-nil (taken_on l.0 b))
      (taken_append l.0 a (entry call answer ∷ []) ∙ ap (λ (s : List ℕ). taken_on l.0 a ++ (s ++ [])) none ∙ append-nil (taken_on l.0 a))
      (above o is)
    where
      above : (o : Option LinkHandshake) → LinkIs ring output l salt o (back_on l.0 b) (taken_on l.0 b) (taken_on l.0 a) Earlier → LinkIs ring output l salt o (back_on l.0 b) (taken_on l.0 b) (taken_on l.0 a) (Later Earlier (a ++ entry call answer ∷ []))
      above (Some h) i = i
      above None i = record {
        len = i.len;
        nonce = i.nonce;
        size = i.size;
        host = i.host;
        helo = i.helo;
        pong = i.pong;
        taken_all = i.taken_all;
        room = inl i.room;
      }

  module _ (Earlier : Type 0) (k : Handshakes) (b a : List LoopEntry) (rising : AreRising k) (old : StatusOf Earlier k b a) where
    abbrev Then : Handshakes → List LoopEntry → List LoopEntry → Type 0
    Then v below above = StatusOf (Later Earlier above) v below above

    calm : (v : Handshakes) (own : List LoopEntry) (call : LoopCall) (answer : LoopAnswer call) → link_at v l.0 ≡ link_at k l.0 → back_on l.0 own ≡ [] → taken_on l.0 own ≡ [] → taken_in l.0 call answer ≡ []
        → Then v (b ++ own) (a ++ entry call answer ∷ [])
    calm v own call answer same no_back no_taken none =
        subst (λ (o : Option LinkHandshake). LinkIs ring output l salt o (back_on l.0 (b ++ own)) (taken_on l.0 (b ++ own)) (taken_on l.0 (a ++ entry call answer ∷ [])) (Later Earlier (a ++ entry call answer ∷ []))) (sym same)
        (longer Earlier (link_at k l.0) b a own call answer no_back no_taken none old)

    -- ---- a wait

    module _ (until paused : ℕ) where
      abbrev Turns : Happening → Brings → Type 0
      Turns x p = Always (λ own r. Then r.1 (b ++ entry (Wait until paused) x ∷ own) (a ++ entry (Wait until paused) r.0 ∷ [])) p

      same_event : (x : Happening) (v : Handshakes) → v.links ≡ k.links → back_bytes l.0 x ≡ [] → Turns x (Return (x, v))
      same_event x v links none = calm v (entry (Wait until paused) x ∷ []) (Wait until paused) x (ap (at l.0) links) (ap (λ (s : List ℕ). s ++ []) none) refl refl

      -- an event after which the link is as before
      calm_event : (x : Happening) (p : Brings) → back_bytes l.0 x ≡ [] → Always (Calm l.0 (link_at k l.0)) p → Turns x p
      calm_event x p none is =
          always_map (Calm l.0 (link_at k l.0)) (λ own r. Then r.1 (b ++ entry (Wait until paused) x ∷ own) (a ++ entry (Wait until paused) r.0 ∷ [])) p
          (λ own r c. calm r.1 (entry (Wait until paused) x ∷ own) (Wait until paused) r.0 c.same (ap (λ (s : List ℕ). s ++ back_on l.0 own) none ∙ c.back) c.taken refl) is

      -- an event of the link
      module _ (x : Happening) (bytes : List ℕ) (came : back_bytes l.0 x ≡ bytes) where
        arrives : (own : List LoopEntry) (r : Happening × Handshakes)
            → LinkIs ring output l salt (link_at r.1 l.0) ((back_on l.0 b ++ bytes) ++ back_on l.0 own) (taken_on l.0 b ++ taken_on l.0 own) (taken_on l.0 a) (Later Earlier (a ++ entry (Wait until paused) r.0 ∷ []))
            → Then r.1 (b ++ entry (Wait until paused) x ∷ own) (a ++ entry (Wait until paused) r.0 ∷ [])
        arrives own r is =
            at_bytes ring output l salt (link_at r.1 l.0) ((back_on l.0 b ++ bytes) ++ back_on l.0 own) (back_on l.0 (b ++ entry (Wait until paused) x ∷ own)) (taken_on l.0 b ++ taken_on l.0 own) (taken_on l.0 (b ++ entry (Wait until paused) x ∷ own))
            (taken_on l.0 a) (taken_on l.0 (a ++ entry (Wait until paused) r.0 ∷ [])) (Later Earlier (a ++ entry (Wait until paused) r.0 ∷ []))
            (back_append l.0 b (entry (Wait until paused) x ∷ own) ∙ ap (λ (s : List ℕ). back_on l.0 b ++ (s ++ back_on l.0 own)) came ∙ sym (append_assoc (back_on l.0 b) bytes (back_on l.0 own)))
            (taken_append l.0 b (entry (Wait until paused) x ∷ own))
            (taken_append l.0 a (entry (Wait until paused) r.0 ∷ []) ∙ append-nil (taken_on l.0 a))
            is

        own_event : (o : Option LinkHandshake) → link_at k l.0 ≡ o → Turns x (brings_back keys k l bytes x o)
        own_event (Some h) is =
            always_map (λ own r. LinkIs ring output l salt (link_at r.1 l.0) ((back_on l.0 b ++ bytes) ++ back_on l.0 own) (taken_on l.0 b ++ taken_on l.0 own) (taken_on l.0 a) (Later Earlier (a ++ entry (Wait until paused) r.0 ∷ [])))
            (λ own r. Then r.1 (b ++ entry (Wait until paused) x ∷ own) (a ++ entry (Wait until paused) r.0 ∷ [])) (greets (ring_at keys.outputs h.output.0) (ungreeted k l.0) l h bytes) arrives
            (greets_status ring output l salt Earlier keys keyed k rising.links until paused a (back_on l.0 b) (taken_on l.0 b) (taken_on l.0 a) bytes h
            (subst (λ (o : Option LinkHandshake). LinkIs ring output l salt o (back_on l.0 b) (taken_on l.0 b) (taken_on l.0 a) Earlier) is old))
        own_event None is =
            arrives [] (x, k) (subst (λ (o : Option LinkHandshake). LinkIs ring output l salt o ((back_on l.0 b ++ bytes) ++ []) (taken_on l.0 b ++ []) (taken_on l.0 a) (Later Earlier (a ++ entry (Wait until paused) x ∷ []))) (sym is)
            (more (subst (λ (o : Option LinkHandshake). LinkIs ring output l salt o (back_on l.0 b) (taken_on l.0 b) (taken_on l.0 a) Earlier) is old)))
          where
            more : Done ring output l salt (back_on l.0 b) (taken_on l.0 b) (taken_on l.0 a) Earlier → Done ring output l salt ((back_on l.0 b ++ bytes) ++ []) (taken_on l.0 b ++ []) (taken_on l.0 a) (Later Earlier (a ++ entry (Wait until paused) x ∷ []))
            more d = record {
              len = d.len;
              nonce = d.nonce;
              size = d.size;
              host = d.host;
              helo = ap helo_received (append-nil (back_on l.0 b ++ bytes)) ∙ right_longer nonce_of (back_on l.0 b) bytes d.len d.nonce d.helo;
              pong =
                  ap (λ (s : List ℕ). pong_received ring (random_bytes salt) d.nonce (drop d.len s)) (append-nil (back_on l.0 b ++ bytes))
                  ∙ ap (pong_received ring (random_bytes salt) d.nonce) (drop-append-le d.len (back_on l.0 b) bytes (right_within nonce_of (back_on l.0 b) d.len d.nonce d.helo))
                  ∙ right_longer (host_of ring (random_bytes salt) d.nonce) (drop d.len (back_on l.0 b)) bytes d.size d.host d.pong;
              taken_all = append-nil (taken_on l.0 b) ∙ d.taken_all;
              room = inl d.room;
            }

      other_event : (x : Happening) (other : LinkId) (bytes : List ℕ) (o : Option LinkHandshake) → l.0 ≢ other.0 → back_bytes l.0 x ≡ [] → Turns x (brings_back keys k other bytes x o)
      other_event x other bytes (Some h) ne none = calm_event x (greets (ring_at keys.outputs h.output.0) (ungreeted k other.0) other h bytes) none (greets_calm l.0 other ne k (ring_at keys.outputs h.output.0) h bytes)
      other_event x other bytes None ne none = same_event x k refl none

      room_event : (other : LinkId) → Turns (happening.Room other) (brings_back keys k other [] (happening.Room other) (link_at k other.0))
      room_event other = ⊎_elim own (λ (ne : l.0 ≢ other.0). other_event (happening.Room other) other [] (link_at k other.0) ne refl) (cases_eq l.0 other.0)
        where
          own : l.0 ≡ other.0 → Turns (happening.Room other) (brings_back keys k other [] (happening.Room other) (link_at k other.0))
          own same =
              subst (λ (m : LinkId). Turns (happening.Room m) (brings_back keys k m [] (happening.Room m) (link_at k m.0))) (link_is l other same)
              (own_event (happening.Room l) [] refl (link_at k l.0) refl)

      back_event : (other : LinkId) (bytes : List ℕ) → Turns (happening.Back other bytes) (brings_back keys k other bytes (happening.Back other bytes) (link_at k other.0))
      back_event other bytes =
          ⊎_elim own (λ (ne : l.0 ≢ other.0). other_event (happening.Back other bytes) other bytes (link_at k other.0) ne (ap (λ (t : Bool). if t then bytes else []) (ne_eqb other.0 l.0 (λ is. ne (sym is))))) (cases_eq l.0 other.0)
        where
          own : l.0 ≡ other.0 → Turns (happening.Back other bytes) (brings_back keys k other bytes (happening.Back other bytes) (link_at k other.0))
          own same =
              subst (λ (m : LinkId). Turns (happening.Back m bytes) (brings_back keys k m bytes (happening.Back m bytes) (link_at k m.0))) (link_is l other same)
              (own_event (happening.Back l bytes) bytes (ap (λ (t : Bool). if t then bytes else []) (eq-eqb l.0 l.0 refl)) (link_at k l.0) refl)

      brings_step : (x : Happening) → Turns x (brings keys k x)
      brings_step (happening.Tick now) = same_event (happening.Tick now) k refl refl
      brings_step (happening.Joined i c) = calm_event (happening.Joined i c) (brings_joined (ring_at keys.inputs i.0) k i c) refl (joined_calm l.0 i c k (ring_at keys.inputs i.0))
      brings_step (happening.Piece i c piece) = calm_event (happening.Piece i c piece) (brings_piece (ring_at keys.inputs i.0) k i c piece) refl (piece_calm l.0 i c k piece (ring_at keys.inputs i.0))
      brings_step (happening.Gone i c) = same_event (happening.Gone i c) (left k i.0 c.0) refl refl
      brings_step (happening.Room other) = room_event other
      brings_step (happening.Back other bytes) = back_event other bytes
      brings_step (happening.Broken other) = same_event (happening.Broken other) k refl refl
      brings_step (happening.InputEnd i) = same_event (happening.InputEnd i) k refl refl
      brings_step happening.Stop = same_event happening.Stop k refl refl
      brings_step happening.End = same_event happening.End k refl refl
      brings_step happening.Failed = same_event happening.Failed k refl refl

    -- ---- each call

    abbrev Rule : (call : LoopCall) → List LoopEntry → LoopAnswer call × Handshakes → Type 0
    Rule call own r = AreOther l.0 own → closes_in l.0 call ≡ false → Then r.1 (b ++ own) (a ++ entry call r.0 ∷ [])

    waits_step : (until paused : ℕ) (o : Option KeptBytes) → Always (Rule (Wait until paused)) (waits_by keys k until paused o)
    waits_step until paused (Some x) = λ others open_link. calm (without_given k paused) [] (Wait until paused) (event_of x) refl refl refl refl
    waits_step until paused None = λ x.
        always_map (λ own r. Then r.1 (b ++ entry (Wait until paused) x ∷ own) (a ++ entry (Wait until paused) r.0 ∷ [])) (λ own r. Rule (Wait until paused) (entry (Wait until paused) x ∷ own) r)
        (brings keys k x) (λ own r is others open_link. is) (brings_step until paused x)

    dials_step : (other_output : ℕ) (tag : List ℕ) (o : Option Ring) (answer : Option ℕ) → Always (λ own r. Rule (Dial other_output tag) (entry (Dial other_output tag) answer ∷ own) r) (dialed o k other_output answer)
    dials_step other_output tag (Some other) (Some link) = λ x y others open_link.
        calm (greeting k link (begun other_output (record { first = x; second = y }))) (entry (Dial other_output tag) (Some link) ∷ entry Word x ∷ entry Word y ∷ []) (Dial other_output tag) (Some link)
        (at_with_other l.0 link (begun other_output (record { first = x; second = y })) k.links (others.0)) refl refl refl
    dials_step other_output tag (Some other) None = λ others open_link. calm k (entry (Dial other_output tag) None ∷ []) (Dial other_output tag) None refl refl refl refl
    dials_step other_output tag None answer = λ others open_link. calm k (entry (Dial other_output tag) answer ∷ []) (Dial other_output tag) answer refl refl refl refl

    other_push : (link : ℕ) (bytes : List ℕ) (answer : PushAnswer) → l.0 ≢ link → taken_in l.0 (Push link bytes) answer ≡ []
    other_push link bytes answer ne = ap (λ (t : Bool). if t then taken_of answer bytes else []) (ne_eqb link l.0 (λ is. ne (sym is)))

    again_push : (link : ℕ) (bytes : List ℕ) → taken_in l.0 (Push link bytes) Again ≡ []
    again_push link bytes = by (eqb link l.0)
      where
        by : (t : Bool) → (if t then taken_of Again bytes else []) ≡ []
        by true = refl
        by false = refl

    -- a push of the engine that is passed on
    passed_push : (bytes : List ℕ) (answer : PushAnswer) → link_at k l.0 ≡ None → Then k (b ++ entry (Push l.0 bytes) answer ∷ []) (a ++ entry (Push l.0 bytes) answer ∷ [])
    passed_push bytes answer none =
        subst (λ (o : Option LinkHandshake). LinkIs ring output l salt o (back_on l.0 (b ++ entry (Push l.0 bytes) answer ∷ [])) (taken_on l.0 (b ++ entry (Push l.0 bytes) answer ∷ [])) (taken_on l.0 (a ++ entry (Push l.0 bytes) answer ∷ [])) (Later Earlier (a ++ entry (Push l.0 bytes) answer ∷ []))) (sym none)
        (more (subst (λ (o : Option LinkHandshake). LinkIs ring output l salt o (back_on l.0 b) (taken_on l.0 b) (taken_on l.0 a) Earlier) none old))
      where
        more : Done ring output l salt (back_on l.0 b) (taken_on l.0 b) (taken_on l.0 a) Earlier
            → Done ring output l salt (back_on l.0 (b ++ entry (Push l.0 bytes) answer ∷ [])) (taken_on l.0 (b ++ entry (Push l.0 bytes) answer ∷ [])) (taken_on l.0 (a ++ entry (Push l.0 bytes) answer ∷ [])) (Later Earlier (a ++ entry (Push l.0 bytes) answer ∷ []))
        more d =
            let calls : List LoopEntry = entry (Push l.0 bytes) answer ∷ [] in
            let same : back_on l.0 (b ++ calls) ≡ back_on l.0 b = back_append l.0 b calls ∙ append-nil (back_on l.0 b) in
            let message : List ℕ = ping ring (random_bytes salt) d.nonce in
            record {
              len = d.len;
              nonce = d.nonce;
              size = d.size;
              host = d.host;
              helo = ap helo_received same ∙ d.helo;
              pong = ap (λ (s : List ℕ). pong_received ring (random_bytes salt) d.nonce (drop d.len s)) same ∙ d.pong;
              taken_all =
                  taken_append l.0 b calls ∙ ap (λ (s : List ℕ). s ++ taken_on l.0 calls) d.taken_all ∙ append_assoc message (taken_on l.0 a) (taken_on l.0 calls)
                  ∙ ap (λ (s : List ℕ). message ++ s) (sym (taken_append l.0 a calls));
              room = inl d.room;
            }

    pushes_step : (link : ℕ) (bytes : List ℕ) (t : Bool) → is_some (link_at k link) ≡ t → Always (Rule (Push link bytes)) (pushes_by k link bytes t)
    pushes_step link bytes true is = λ others open_link. calm k [] (Push link bytes) Again refl refl refl (again_push link bytes)
    pushes_step link bytes false is = λ answer others open_link. ⊎_elim (own answer) (other answer) (cases_eq l.0 link)
      where
        none_of : (o : Option LinkHandshake) → is_some o ≡ false → o ≡ None
        none_of None e = refl
        none_of (Some h) e = absurd (cc e)

        own : (answer : PushAnswer) → l.0 ≡ link → Then k (b ++ entry (Push link bytes) answer ∷ []) (a ++ entry (Push link bytes) answer ∷ [])
        own answer same =
            subst (λ (n : ℕ). Then k (b ++ entry (Push n bytes) answer ∷ []) (a ++ entry (Push n bytes) answer ∷ [])) same
            (passed_push bytes answer (subst (λ (n : ℕ). link_at k n ≡ None) (sym same) (none_of (link_at k link) is)))

        other : (answer : PushAnswer) → l.0 ≢ link → Then k (b ++ entry (Push link bytes) answer ∷ []) (a ++ entry (Push link bytes) answer ∷ [])
        other answer ne =
            calm k (entry (Push link bytes) answer ∷ []) (Push link bytes) answer refl refl (ap (λ (s : List ℕ). s ++ []) (other_push link bytes answer ne)) (other_push link bytes answer ne)

    secures_step : (call : LoopCall) → Always (Rule call) (secures keys k call)
    secures_step (Start ends) = λ answer others open_link. calm (listening k ends) (entry (Start ends) answer ∷ []) (Start ends) answer refl refl refl refl
    secures_step (Wait until paused) = waits_step until paused (first_given paused k.kept)
    secures_step (Dial other_output tag) = λ answer. dials_step other_output tag (ring_at keys.outputs other_output) answer
    secures_step (Push link bytes) = pushes_step link bytes (is_some (link_at k link)) refl
    secures_step (Close link) = λ answer others open_link.
        calm (closed k link) (entry (Close link) answer ∷ []) (Close link) answer (at_without_other l.0 link k.links (λ same. not_both (eqb link l.0) (eq-eqb link l.0 (sym same)) open_link)) refl refl refl
    secures_step (Reply c bytes) = λ answer others open_link. calm k (entry (Reply c bytes) answer ∷ []) (Reply c bytes) answer refl refl refl refl
    secures_step (DropConn c) = λ answer others open_link. calm (dropped k c) (entry (DropConn c) answer ∷ []) (DropConn c) answer refl refl refl refl
    secures_step Word = λ answer others open_link. calm k (entry Word answer ∷ []) Word answer refl refl refl refl

    pub link_step : (call : LoopCall) (answer : LoopAnswer call) (own : List LoopEntry) (v : Handshakes) → AreOther l.0 own → closes_in l.0 call ≡ false → Execution (answers keys k call) own (Return (answer, v))
        → Then v (b ++ own) (a ++ entry call answer ∷ [])
    link_step call answer own v others open_link way =
        always (Rule call) (secures keys k call) own (answer, v) (secures_step call)
        (subst (λ (t : Bool). Execution (answers_by t keys k call) own (Return (answer, v))) (output_keyed keys output ring keyed) way) others open_link

  -- ---- one call after another

  module _ (begins : Handshakes) where
    abbrev pub Told : List LoopEntry → List LoopEntry → Type 0
    Told b a = HasRoom keys ring (random_bytes salt) l.0 begins b a

    longer_told : (b a own : List LoopEntry) (e : LoopEntry) → Told b a → Told (b ++ own) (a ++ e ∷ [])
    longer_told b a own e t = record {
      front = t.front;
      back = t.back ++ own;
      below_is = ap (λ (c : List LoopEntry). c ++ own) t.below_is ∙ append_assoc t.front t.back own;
      early = t.early;
      until = t.until;
      paused = t.paused;
      late = t.late ++ e ∷ [];
      above_is = ap (λ (c : List LoopEntry). c ++ e ∷ []) t.above_is ∙ append_assoc (t.early ++ _) t.late (e ∷ []);
      state = t.state;
      carries = t.carries;
      right = t.right;
    }

    settled_by : (o : Option LinkHandshake) (b a own : List LoopEntry) (e : LoopEntry) (v : Handshakes) → Carries keys begins (b ++ own) (a ++ e ∷ []) v
        → LinkIs ring output l salt o (back_on l.0 (b ++ own)) (taken_on l.0 (b ++ own)) (taken_on l.0 (a ++ e ∷ [])) (Later (Told b a) (a ++ e ∷ []))
        → LinkIs ring output l salt o (back_on l.0 (b ++ own)) (taken_on l.0 (b ++ own)) (taken_on l.0 (a ++ e ∷ [])) (Told (b ++ own) (a ++ e ∷ []))
    settled_by (Some h) b a own e v carries is = is
    settled_by None b a own e v carries d = record {
      len = d.len;
      nonce = d.nonce;
      size = d.size;
      host = d.host;
      helo = d.helo;
      pong = d.pong;
      taken_all = d.taken_all;
      room = ⊎_elim {C = Told (b ++ own) (a ++ e ∷ [])} (longer_told b a own e) just_now d.room;
    }
      where
        just_now : JustNow ring output l salt (a ++ e ∷ []) → Told (b ++ own) (a ++ e ∷ [])
        just_now j = record {
          front = b ++ own;
          back = [];
          below_is = sym (append-nil (b ++ own));
          early = j.2;
          until = j.0;
          paused = j.1;
          late = [];
          above_is = j.3 ∙ sym (append-nil (j.2 ++ entry (Wait (j.0) (j.1)) (happening.Room l) ∷ []));
          state = v;
          carries = subst (λ (c : List LoopEntry). Carries keys begins (b ++ own) c v) j.3 carries;
          right = record { len = d.len; nonce = d.nonce; size = d.size; host = d.host; helo = d.helo; pong = d.pong; more = taken_on l.0 (a ++ e ∷ []); taken = d.taken_all };
        }

    pub later_link : (above below b a : List LoopEntry) (k t : Handshakes) → AreRising k → StatusOf (Told b a) k b a → Carries keys begins b a k → AreOther l.0 below → was_closed l.0 above ≡ false → Carries keys k below above t
        → StatusOf (Told (b ++ below) (a ++ above)) t (b ++ below) (a ++ above)
    later_link [] below b a k t rising old carries others open_link (none, same) =
        let ends : StatusOf (Told b a) t b a = subst (λ (s : Handshakes). StatusOf (Told b a) s b a) (sym same) old in
        let at_below : StatusOf (Told (b ++ below) a) t (b ++ below) a = subst (λ (c : List LoopEntry). StatusOf (Told c a) t c a) (sym (ap (λ (c : List LoopEntry). b ++ c) none ∙ append-nil b)) ends in
        subst (λ (c : List LoopEntry). StatusOf (Told (b ++ below) c) t (b ++ below) c) (sym (append-nil a)) at_below
    later_link (e ∷ above) below b a k t rising old carries others open_link (own, rest, u, is, way, more) =
        let all : AreOther l.0 (own ++ rest) = subst (AreOther l.0) is others in
        let now : Carries keys begins (b ++ own) (a ++ e ∷ []) u = carries_more keys begins k u b own a e.call e.answer carries way in
        let next : StatusOf (Told (b ++ own) (a ++ e ∷ [])) u (b ++ own) (a ++ e ∷ []) =
        settled_by (link_at u l.0) b a own e u now (link_step (Told b a) k b a rising old e.call e.answer own u (other_left l.0 own rest all) (first_false (closes_in l.0 e.call) (was_closed l.0 above) open_link) way) in
        let ends : StatusOf (Told ((b ++ own) ++ rest) ((a ++ e ∷ []) ++ above)) t ((b ++ own) ++ rest) ((a ++ e ∷ []) ++ above) =
        later_link above rest (b ++ own) (a ++ e ∷ []) u t (step_rising keys k rising e.call e.answer own u way) next now (other_right l.0 own rest all) (second_false (closes_in l.0 e.call) (was_closed l.0 above) open_link) more in
        let at_below : StatusOf (Told (b ++ below) ((a ++ e ∷ []) ++ above)) t (b ++ below) ((a ++ e ∷ []) ++ above) =
        subst (λ (c : List LoopEntry). StatusOf (Told c ((a ++ e ∷ []) ++ above)) t c ((a ++ e ∷ []) ++ above)) (append_assoc b own rest ∙ ap (λ (c : List LoopEntry). b ++ c) (sym is)) ends in
        subst (λ (c : List LoopEntry). StatusOf (Told (b ++ below) c) t (b ++ below) c) (append_assoc a (e ∷ []) above) at_below
