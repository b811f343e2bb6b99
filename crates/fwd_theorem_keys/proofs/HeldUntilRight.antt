-- A connection that is held stays held until its stream begins rightly, unless it ends or is dropped.
use Rattle.std.proofs.Common.{◌≡◌, ◌≢◌, ◌⊎◌, inl, inr, ⊎_elim, ℕ, Bool, true, false, ◌&&◌, ◌||◌, not, if◌then◌else◌, eqb, List, [], ◌∷◌, ◌++◌, Option, Some, None, refl, sym, ap, subst, ◌∙◌, append_assoc, append-nil}
use Rattle.std.specs.Prelude.{◌==◌, is_some}
use Rattle.std.proofs.lemmas.List.Folds.{list_any-append}
use Rattle.std.proofs.lemmas.Bool.{eq-eqb}
use Rattle.fwd_base.specs.declared.ids.InputId.{InputId}
use Rattle.fwd_base.specs.declared.ids.ConnId.{ConnId}
use Rattle.fwd_base.specs.declared.ids.LinkId.{LinkId}
use Rattle.fwd_outside.specs.Program.{entry, Return}
use Rattle.fwd_outside.specs.Loop.{LoopCall, LoopAnswer, LoopEntry, Start, Wait, Dial, Push, Close, Reply, DropConn, Word, Again}
use Rattle.fwd_outside.specs.declared.happening.Happening.{Happening}
use Rattle.fwd_outside.specs.declared.happening.Happening.TheVariants as happening
use Rattle.fwd_handshake.specs.declared.ring.Ring.{Ring}
use Rattle.fwd_handshake.specs.declared.received.Received.{Received}
use Rattle.fwd_handshake.specs.declared.received.Received.TheVariants as verdict
use Rattle.fwd_handshake.specs.Judgement.{ping_received}
use Rattle.fwd_handshake.specs.Members.{salt_of}
use Rattle.fwd_handshake.specs.Messages.{helo, pong}
use Rattle.fwd_secure.specs.declared.keys.Keys.{Keys}
use Rattle.fwd_secure.specs.declared.handshakes.RandomBytes.{RandomBytes}
use Rattle.fwd_secure.specs.declared.handshakes.HeldConn.{HeldConn}
use Rattle.fwd_secure.specs.declared.handshakes.LinkHandshake.{LinkHandshake}
use Rattle.fwd_secure.specs.declared.handshakes.KeptBytes.{KeptBytes}
use Rattle.fwd_secure.specs.Keys.{ring_at}
use Rattle.fwd_secure.specs.Kept.{event_of, first_given}
use Rattle.fwd_secure.specs.RandomBytes.{random_bytes}
use Rattle.fwd_secure.specs.Handshakes.{Handshakes, at, with_entry, without_entry, held_at, is_held, held_under, joined_at, is_joined_under, holding, released, entered, listens_at, listening, left, dropped, link_at, greeting, ungreeted, closed, without_given}
use Rattle.fwd_secure.specs.Inputs.{Brings, holds_or_drops, joins_by, joins, after_message, keeping_piece, enters_or_drops, judges, hears_by, hears}
use Rattle.fwd_secure.specs.Outputs.{greets}
use Rattle.fwd_secure.specs.Rules.{brings_joined, brings_piece, brings_back, brings, waits_by, dialed, begun, pushes_by, secures}
use Rattle.fwd_secure.specs.Carried.{Carries}
use Rattle.fwd_theorem_keys.specs.Traffic.{is_conn, piece_bytes, said_by, ends_in, has_ended}
use Rattle.fwd_theorem_keys.proofs.Maps.{at_with_same, at_with_other, at_without_other}
use Rattle.fwd_theorem_keys.proofs.Steps.{Always, always_map}
use Rattle.fwd_theorem_keys.proofs.Entries.{not_both, said_append, conn_same, at_conn, includes_right}
use Rattle.fwd_theorem_keys.proofs.LinkEvents.{FromLink, greets_quiet, pushes_silent}
use Rattle.fwd_outside.specs.Program.{Execution}
use Rattle.fwd_secure.specs.Rules.{answers, answers_by}
use Rattle.fwd_theorem_keys.specs.Traffic.{Includes, was_dropped, drops_in}
use Rattle.fwd_theorem_keys.proofs.Steps.{always}
use Rattle.fwd_theorem_keys.proofs.Entries.{first_false, second_false, includes_left}
use Rattle.fwd_theorem_keys.proofs.Judging.{nothing_right}
use Rattle.fwd_theorem_keys.proofs.StreamSteps.{same_some, under_some, some_under}
use Rattle.fwd_theorem_keys.proofs.StreamCalls.{input_keyed}

module _ (input : InputId) (conn : ConnId) where
  split_ended : (xs ys : List LoopEntry) → has_ended input conn (xs ++ ys) ≡ false → (has_ended input conn xs ≡ false) × (has_ended input conn ys ≡ false)
  split_ended xs ys is =
      let both : (has_ended input conn xs || has_ended input conn ys) ≡ false = sym (list_any-append (λ e. ends_in input conn e.call e.answer) xs ys) ∙ is in
      (first_false (has_ended input conn xs) (has_ended input conn ys) both, second_false (has_ended input conn xs) (has_ended input conn ys) both)

split_dropped : (conn : ConnId) (xs ys : List LoopEntry) → was_dropped conn (xs ++ ys) ≡ false → (was_dropped conn xs ≡ false) × (was_dropped conn ys ≡ false)
split_dropped conn xs ys is =
    let both : (was_dropped conn xs || was_dropped conn ys) ≡ false = sym (list_any-append (λ e. drops_in conn e.call) xs ys) ∙ is in
    (first_false (was_dropped conn xs) (was_dropped conn ys) both, second_false (was_dropped conn xs) (was_dropped conn ys) both)

entered_held : (u : Handshakes) (i : InputId) (c : ConnId) → (entered u i.0 c.0).held ≡ u.held
entered_held u i c = by (is_some (joined_at u c.0))
  where
    by : (p : Bool) → (if p then u else record u { joined = with_entry c.0 i.0 u.joined }).held ≡ u.held
    by true = refl
    by false = refl

keeping_held : (u : Handshakes) (i : InputId) (c : ConnId) (rest : List ℕ) → (keeping_piece u i c rest).held ≡ u.held
keeping_held u i c [] = refl
keeping_held u i c (byte ∷ bytes) = refl

module _ (keys : Keys) (ring : Ring) (input : InputId) (conn : ConnId) (keyed : ring_at keys.inputs input.0 ≡ Some ring) (nonce : RandomBytes) where
  -- held since these calls
  pub record HeldSince (o : Option HeldConn) (s : List LoopEntry) : Type 0 where
    pub conn_held : HeldConn
    pub is : o ≡ Some conn_held
    pub of : conn_held.input ≡ input
    pub nonce_is : conn_held.nonce ≡ nonce
    pub said : conn_held.received ≡ said_by input conn s
    pub fresh : (conn_held.received ≡ []) ⊎ (ping_received ring (random_bytes conn_held.nonce) conn_held.received ≡ verdict.More)

  abbrev pub WasGiven : List LoopEntry → Type 0
  WasGiven t = (until paused : ℕ) × Includes (entry (Wait until paused) (happening.Joined input conn)) t

  abbrev pub Waiting : Handshakes → List LoopEntry → List LoopEntry → Type 0
  Waiting k s t = HeldSince (held_at k conn.0) s ⊎ WasGiven t

  module _ (k : Handshakes) (s t : List LoopEntry) (w : HeldSince (held_at k conn.0) s) where
    stay : (v : Handshakes) (own : List LoopEntry) (call : LoopCall) (answer : LoopAnswer call) → held_at v conn.0 ≡ held_at k conn.0 → said_by input conn own ≡ [] → Waiting v (s ++ own) (t ++ entry call answer ∷ [])
    stay v own call answer same silent = inl (record {
      conn_held = w.conn_held;
      is = same ∙ w.is;
      of = w.of;
      nonce_is = w.nonce_is;
      said = w.said ∙ sym (said_append input conn s own ∙ ap (λ (l : List ℕ). said_by input conn s ++ l) silent ∙ append-nil (said_by input conn s));
      fresh = w.fresh;
    })

    -- what is held at a number is of this connection, or the number is another
    one : (g : HeldConn) → held_at k conn.0 ≡ Some g → g ≡ w.conn_held
    one g is = same_some g w.conn_held (sym is ∙ w.is)

    apart : (i : InputId) (c : ConnId) (g : HeldConn) → is_conn input conn i c ≡ false → held_at k c.0 ≡ Some g → g.input.0 ≡ i.0 → conn.0 ≢ c.0
    apart i c g off is of same =
        let here : g ≡ w.conn_held = one g (subst (λ (n : ℕ). held_at k n ≡ Some g) (sym same) is) in
        let of_input : i.0 ≡ input.0 = sym of ∙ ap (λ (x : HeldConn). x.input.0) here ∙ ap (λ (j : InputId). j.0) w.of in
        let both : is_conn input conn i c ≡ true = rw (eq-eqb i.0 input.0 of_input, eq-eqb c.0 conn.0 (sym same)) refl in
        not_both (is_conn input conn i c) both off

    abbrev Ends : (call : LoopCall) → List LoopEntry → LoopAnswer call × Handshakes → Type 0
    Ends call own r = has_ended input conn own ≡ false → was_dropped conn own ≡ false → Waiting r.1 (s ++ own) (t ++ entry call r.0 ∷ [])

    module _ (until paused : ℕ) where
      abbrev Fine : Happening → Brings → Type 0
      Fine x p = Always (λ own r. Ends (Wait until paused) (entry (Wait until paused) x ∷ own) r) p

      stays : (x y : Happening) (own : List LoopEntry) (v : Handshakes) → held_at v conn.0 ≡ held_at k conn.0 → piece_bytes input conn x ≡ [] → said_by input conn own ≡ [] → Ends (Wait until paused) (entry (Wait until paused) x ∷ own) (y, v)
      stays x y own v same bytes silent = λ ended dropped. stay v (entry (Wait until paused) x ∷ own) (Wait until paused) y same (ap (λ (l : List ℕ). l ++ said_by input conn own) bytes ∙ silent)

      module _ (i : InputId) (c : ConnId) where
        joins_stay : Fine (happening.Joined i c) (joins k i c)
        joins_stay = by (is_held k c.0) (joined_at k c.0) refl
          where
            other : is_held k c.0 ≡ false → conn.0 ≢ c.0
            other off same = not_both (is_held k c.0) (subst (λ (n : ℕ). is_held k n ≡ true) same (ap is_some w.is)) off

            answered : is_held k c.0 ≡ false → (x y : ℕ) (answer : Option (Unit {0}))
                → Always (λ own r. Ends (Wait until paused) (entry (Wait until paused) (happening.Joined i c) ∷ entry Word x ∷ entry Word y ∷ entry (Reply c.0 (helo (random_bytes (record { first = x; second = y })))) answer ∷ own) r)
                (holds_or_drops k i c (record { first = x; second = y }) answer)
            answered off x y (Some done) =
                stays (happening.Joined i c) (happening.Gone i c) (entry Word x ∷ entry Word y ∷ entry (Reply c.0 (helo (random_bytes (record { first = x; second = y })))) (Some tt) ∷ [])
                (holding k c.0 (record { input = i; nonce = record { first = x; second = y }; received = [] }))
                (at_with_other conn.0 c.0 (record { input = i; nonce = record { first = x; second = y }; received = [] }) k.held (other off)) refl refl
            answered off x y None = λ answer.
                stays (happening.Joined i c) (happening.Gone i c) (entry Word x ∷ entry Word y ∷ entry (Reply c.0 (helo (random_bytes (record { first = x; second = y })))) None ∷ entry (DropConn c.0) answer ∷ []) k refl refl refl

            by : (p : Bool) (o : Option ℕ) → is_held k c.0 ≡ p → Fine (happening.Joined i c) (if p then Return (happening.Gone i c, k) else joins_by k i c o)
            by true o is = stays (happening.Joined i c) (happening.Gone i c) [] k refl refl refl
            by false (Some n) is = stays (happening.Joined i c) (if n == i.0 then happening.Joined i c else happening.Gone i c) [] k refl refl refl
            by false None is = answered is

        joined_stay : (o : Option Ring) → Fine (happening.Joined i c) (brings_joined o k i c)
        joined_stay (Some other) = joins_stay
        joined_stay None = by (listens_at k i.0)
          where
            by : (p : Bool) → Ends (Wait until paused) (entry (Wait until paused) (happening.Joined i c) ∷ []) (happening.Joined i c, if p then entered k i.0 c.0 else k)
            by true = stays (happening.Joined i c) (happening.Joined i c) [] (entered k i.0 c.0) (ap (at conn.0) (entered_held k i c)) refl refl
            by false = stays (happening.Joined i c) (happening.Joined i c) [] k refl refl refl

        module _ (off : is_conn input conn i c ≡ false) where
          module _ (piece : List ℕ) where
            none_of : piece_bytes input conn (happening.Piece i c piece) ≡ []
            none_of = ap (λ (p : Bool). if p then piece else []) off

            judges_stay : (other : Ring) (g : HeldConn) (r : Received) → conn.0 ≢ c.0 → Fine (happening.Piece i c piece) (judges other (released k c.0) i c g piece r)
            judges_stay other g verdict.More ne =
                stays (happening.Piece i c piece) (happening.Gone i c) [] (holding (released k c.0) c.0 (record g { received = g.received ++ piece }))
                (at_with_other conn.0 c.0 (record g { received = g.received ++ piece }) (without_entry c.0 k.held) ne ∙ at_without_other conn.0 c.0 k.held ne) none_of refl
            judges_stay other g (verdict.Right len salt) ne = λ answer. by answer
              where
                by : (answer : Option (Unit {0})) → Always (λ own r. Ends (Wait until paused) (entry (Wait until paused) (happening.Piece i c piece) ∷ entry (Reply c.0 (pong other salt (random_bytes g.nonce))) answer ∷ own) r)
                    (enters_or_drops (released k c.0) i c (after_message len g.received piece) answer)
                by (Some done) =
                    stays (happening.Piece i c piece) (happening.Joined i c) (entry (Reply c.0 (pong other salt (random_bytes g.nonce))) (Some tt) ∷ []) (keeping_piece (entered (released k c.0) i.0 c.0) i c (after_message len g.received piece))
                    (ap (at conn.0) (keeping_held (entered (released k c.0) i.0 c.0) i c (after_message len g.received piece) ∙ entered_held (released k c.0) i c) ∙ at_without_other conn.0 c.0 k.held ne) none_of refl
                by None = λ answer.
                    stays (happening.Piece i c piece) (happening.Gone i c) (entry (Reply c.0 (pong other salt (random_bytes g.nonce))) None ∷ entry (DropConn c.0) answer ∷ []) (released k c.0) (at_without_other conn.0 c.0 k.held ne) none_of refl
            judges_stay other g verdict.Wrong ne = λ answer.
                stays (happening.Piece i c piece) (happening.Gone i c) (entry (DropConn c.0) answer ∷ []) (released k c.0) (at_without_other conn.0 c.0 k.held ne) none_of refl

            piece_stay : (o : Option Ring) → Fine (happening.Piece i c piece) (brings_piece o k i c piece)
            piece_stay None = stays (happening.Piece i c piece) (happening.Piece i c piece) [] k refl none_of refl
            piece_stay (Some other) = by (held_under k i.0 c.0) refl
              where
                by : (o : Option HeldConn) → held_under k i.0 c.0 ≡ o → Fine (happening.Piece i c piece) (hears_by other k i c piece o)
                by (Some g) is =
                    let found = under_some i.0 (held_at k c.0) g is in
                    judges_stay other g (ping_received other (random_bytes g.nonce) (g.received ++ piece)) (apart i c g off found.0 found.1)
                by None is = stays (happening.Piece i c piece) (if not (is_held k c.0) && is_joined_under k i.0 c.0 then happening.Piece i c piece else happening.Gone i c) [] k refl none_of refl

          gone_stay : Fine (happening.Gone i c) (Return (happening.Gone i c, left k i.0 c.0))
          gone_stay = stays (happening.Gone i c) (happening.Gone i c) [] (left k i.0 c.0) (by (held_under k i.0 c.0) refl) refl refl
            where
              by : (o : Option HeldConn) → held_under k i.0 c.0 ≡ o → at conn.0 (if is_some o then without_entry c.0 k.held else k.held) ≡ held_at k conn.0
              by None is = refl
              by (Some g) is =
                  let found = under_some i.0 (held_at k c.0) g is in
                  at_without_other conn.0 c.0 k.held (apart i c g off found.0 found.1)

      -- ---- of the connection itself

      module _ (piece : List ℕ) where
        abbrev came : List LoopEntry → List LoopEntry
        came own = entry (Wait until paused) (happening.Piece input conn piece) ∷ own

        said_now : (own : List LoopEntry) → said_by input conn own ≡ [] → said_by input conn (s ++ came own) ≡ w.conn_held.received ++ piece
        said_now own silent =
            said_append input conn s (came own) ∙ ap (λ (l : List ℕ). l ++ said_by input conn (came own)) (sym w.said)
            ∙ ap (λ (p : Bool). w.conn_held.received ++ ((if p then piece else []) ++ said_by input conn own)) (conn_same input conn)
            ∙ ap (λ (l : List ℕ). w.conn_held.received ++ (piece ++ l)) silent ∙ ap (λ (l : List ℕ). w.conn_held.received ++ l) (append-nil piece)

        own_drop : (rest : List LoopEntry) → was_dropped conn (entry (DropConn conn.0) tt ∷ rest) ≡ false → ⊥
        own_drop rest is = not_both (eqb conn.0 conn.0) (eq-eqb conn.0 conn.0 refl) (first_false (eqb conn.0 conn.0) (was_dropped conn rest) is)

        judges_own : (r : Received) → ping_received ring (random_bytes w.conn_held.nonce) (w.conn_held.received ++ piece) ≡ r → Fine (happening.Piece input conn piece) (judges ring (released k conn.0) input conn w.conn_held piece r)
        judges_own verdict.More judged = λ ended dropped. inl (record {
          conn_held = record (w.conn_held) { received = w.conn_held.received ++ piece };
          is = at_with_same conn.0 (record (w.conn_held) { received = w.conn_held.received ++ piece }) (without_entry conn.0 k.held);
          of = w.of;
          nonce_is = w.nonce_is;
          said = sym (said_now [] refl);
          fresh = inr judged;
        })
        judges_own (verdict.Right len salt) judged = λ answer. by answer
          where
            by : (answer : Option (Unit {0})) → Always (λ own r. Ends (Wait until paused) (came (entry (Reply conn.0 (pong ring salt (random_bytes w.conn_held.nonce))) answer ∷ own)) r)
                (enters_or_drops (released k conn.0) input conn (after_message len w.conn_held.received piece) answer)
            by (Some done) = λ ended dropped. inr (until, paused, includes_right (entry (Wait until paused) (happening.Joined input conn)) t (entry (Wait until paused) (happening.Joined input conn) ∷ []) (inl refl))
            by None = λ answer ended dropped. absurd (own_drop [] dropped)
        judges_own verdict.Wrong judged = λ answer ended dropped. absurd (own_drop [] dropped)

        hears_own : Fine (happening.Piece input conn piece) (hears ring k input conn piece)
        hears_own =
            subst (λ (o : Option HeldConn). Fine (happening.Piece input conn piece) (hears_by ring k input conn piece o)) (sym (some_under input.0 (held_at k conn.0) w.conn_held w.is (ap (λ (i : InputId). i.0) w.of)))
            (judges_own (ping_received ring (random_bytes w.conn_held.nonce) (w.conn_held.received ++ piece)) refl)

      own_gone : Fine (happening.Gone input conn) (Return (happening.Gone input conn, left k input.0 conn.0))
      own_gone = λ ended dropped. absurd (not_both (is_conn input conn input conn) (conn_same input conn) (first_false (is_conn input conn input conn) false ended))

      back_stay : (x : Happening) (link : LinkId) (bytes : List ℕ) (o : Option LinkHandshake) → piece_bytes input conn x ≡ [] → Fine x (brings_back keys k link bytes x o)
      back_stay x link bytes (Some handshake) silent =
          always_map (FromLink input conn (ungreeted k link.0)) (λ own r. Ends (Wait until paused) (entry (Wait until paused) x ∷ own) r) (greets (ring_at keys.outputs handshake.output.0) (ungreeted k link.0) link handshake bytes)
          (λ own r from. stays x r.0 own r.1 (ap (at conn.0) from.held) silent (pushes_silent input conn own from.pushes))
          (greets_quiet input conn (ring_at keys.outputs handshake.output.0) (ungreeted k link.0) link handshake bytes)
      back_stay x link bytes None silent = stays x x [] k refl silent refl

      piece_by : (i : InputId) (c : ConnId) (piece : List ℕ) → Fine (happening.Piece i c piece) (brings_piece (ring_at keys.inputs i.0) k i c piece)
      piece_by i c piece =
          at_conn input conn (λ i c. Fine (happening.Piece i c piece) (brings_piece (ring_at keys.inputs i.0) k i c piece)) i c
          (subst (λ (o : Option Ring). Fine (happening.Piece input conn piece) (brings_piece o k input conn piece)) (sym keyed) (hears_own piece))
          (λ off. piece_stay i c off piece (ring_at keys.inputs i.0))

      gone_by : (i : InputId) (c : ConnId) → Fine (happening.Gone i c) (Return (happening.Gone i c, left k i.0 c.0))
      gone_by i c = at_conn input conn (λ i c. Fine (happening.Gone i c) (Return (happening.Gone i c, left k i.0 c.0))) i c own_gone (λ off. gone_stay i c off)

      brings_stay : (x : Happening) → Fine x (brings keys k x)
      brings_stay (happening.Tick now) = stays (happening.Tick now) (happening.Tick now) [] k refl refl refl
      brings_stay (happening.Joined i c) = joined_stay i c (ring_at keys.inputs i.0)
      brings_stay (happening.Piece i c piece) = piece_by i c piece
      brings_stay (happening.Gone i c) = gone_by i c
      brings_stay (happening.Room link) = back_stay (happening.Room link) link [] (link_at k link.0) refl
      brings_stay (happening.Back link bytes) = back_stay (happening.Back link bytes) link bytes (link_at k link.0) refl
      brings_stay (happening.Broken link) = stays (happening.Broken link) (happening.Broken link) [] k refl refl refl
      brings_stay (happening.InputEnd i) = stays (happening.InputEnd i) (happening.InputEnd i) [] k refl refl refl
      brings_stay happening.Stop = stays happening.Stop happening.Stop [] k refl refl refl
      brings_stay happening.End = stays happening.End happening.End [] k refl refl refl
      brings_stay happening.Failed = stays happening.Failed happening.Failed [] k refl refl refl

      waits_stay : (o : Option KeptBytes) → Always (Ends (Wait until paused)) (waits_by keys k until paused o)
      waits_stay (Some x) = λ ended dropped. stay (without_given k paused) [] (Wait until paused) (event_of x) refl refl
      waits_stay None = λ x. brings_stay x

    dials_stay : (output : ℕ) (tag : List ℕ) (o : Option Ring) (answer : Option ℕ) → Always (λ own r. Ends (Dial output tag) (entry (Dial output tag) answer ∷ own) r) (dialed o k output answer)
    dials_stay output tag (Some other) (Some link) = λ x y ended dropped.
        stay (greeting k link (begun output (record { first = x; second = y }))) (entry (Dial output tag) (Some link) ∷ entry Word x ∷ entry Word y ∷ []) (Dial output tag) (Some link) refl refl
    dials_stay output tag (Some other) None = λ ended dropped. stay k (entry (Dial output tag) None ∷ []) (Dial output tag) None refl refl
    dials_stay output tag None answer = λ ended dropped. stay k (entry (Dial output tag) answer ∷ []) (Dial output tag) answer refl refl

    pushes_stay : (link : ℕ) (bytes : List ℕ) (p : Bool) → Always (Ends (Push link bytes)) (pushes_by k link bytes p)
    pushes_stay link bytes true = λ ended dropped. stay k [] (Push link bytes) Again refl refl
    pushes_stay link bytes false = λ answer ended dropped. stay k (entry (Push link bytes) answer ∷ []) (Push link bytes) answer refl refl

    secures_stay : (call : LoopCall) → Always (Ends call) (secures keys k call)
    secures_stay (Start ends) = λ answer ended dropped. stay (listening k ends) (entry (Start ends) answer ∷ []) (Start ends) answer refl refl
    secures_stay (Wait until paused) = waits_stay until paused (first_given paused k.kept)
    secures_stay (Dial output tag) = λ answer. dials_stay output tag (ring_at keys.outputs output) answer
    secures_stay (Push link bytes) = pushes_stay link bytes (is_some (link_at k link))
    secures_stay (Close link) = λ answer ended dropped. stay (closed k link) (entry (Close link) answer ∷ []) (Close link) answer refl refl
    secures_stay (Reply c bytes) = λ answer ended dropped. stay k (entry (Reply c bytes) answer ∷ []) (Reply c bytes) answer refl refl
    secures_stay (DropConn c) = λ answer ended was. stay (dropped k c) (entry (DropConn c) answer ∷ []) (DropConn c) answer
        (at_without_other conn.0 c k.held (λ same. not_both (eqb c conn.0) (eq-eqb c conn.0 (sym same)) (first_false (eqb c conn.0) false was))) refl
    secures_stay Word = λ answer ended dropped. stay k (entry Word answer ∷ []) Word answer refl refl

    held_step : (call : LoopCall) (answer : LoopAnswer call) (own : List LoopEntry) (v : Handshakes) → has_ended input conn own ≡ false → was_dropped conn own ≡ false → Execution (answers keys k call) own (Return (answer, v))
        → Waiting v (s ++ own) (t ++ entry call answer ∷ [])
    held_step call answer own v ended dropped way =
        always (Ends call) (secures keys k call) own (answer, v) (secures_stay call)
        (subst (λ (p : Bool). Execution (answers_by p keys k call) own (Return (answer, v))) (input_keyed keys input.0 ring keyed) way) ended dropped

  waiting_step : (k : Handshakes) (s t : List LoopEntry) (call : LoopCall) (answer : LoopAnswer call) (own : List LoopEntry) (v : Handshakes) → has_ended input conn own ≡ false → was_dropped conn own ≡ false
      → Execution (answers keys k call) own (Return (answer, v)) → Waiting k s t → Waiting v (s ++ own) (t ++ entry call answer ∷ [])
  waiting_step k s t call answer own v ended dropped way (inl w) = held_step k s t w call answer own v ended dropped way
  waiting_step k s t call answer own v ended dropped way (inr given) = inr (given.0, given.1, includes_left (entry (Wait (given.0) (given.1)) (happening.Joined input conn)) t (entry call answer ∷ []) (given.2))

  later_waiting : (above below s t : List LoopEntry) (k u : Handshakes) → Waiting k s t → has_ended input conn below ≡ false → was_dropped conn below ≡ false → Carries keys k below above u → Waiting u (s ++ below) (t ++ above)
  later_waiting [] below s t k u w ended dropped (none, same) =
      let ends : Waiting u s t = subst (λ (x : Handshakes). Waiting x s t) (sym same) w in
      let at_below : Waiting u (s ++ below) t = subst (λ (l : List LoopEntry). Waiting u l t) (sym (ap (λ (l : List LoopEntry). s ++ l) none ∙ append-nil s)) ends in
      subst (λ (l : List LoopEntry). Waiting u (s ++ below) l) (sym (append-nil t)) at_below
  later_waiting (e ∷ above) below s t k u w ended dropped (own, rest, v, is, way, more) =
      let both_ended = split_ended input conn own rest (subst (λ (l : List LoopEntry). has_ended input conn l ≡ false) is ended) in
      let both_dropped = split_dropped conn own rest (subst (λ (l : List LoopEntry). was_dropped conn l ≡ false) is dropped) in
      let ends : Waiting u ((s ++ own) ++ rest) ((t ++ e ∷ []) ++ above) =
      later_waiting above rest (s ++ own) (t ++ e ∷ []) v u (waiting_step k s t e.call e.answer own v both_ended.0 both_dropped.0 way w) both_ended.1 both_dropped.1 more in
      let at_below : Waiting u (s ++ below) ((t ++ e ∷ []) ++ above) =
      subst (λ (l : List LoopEntry). Waiting u l ((t ++ e ∷ []) ++ above)) (append_assoc s own rest ∙ ap (λ (l : List LoopEntry). s ++ l) (sym is)) ends in
      subst (λ (l : List LoopEntry). Waiting u (s ++ below) l) (append_assoc t (e ∷ []) above) at_below

  more_right : (len : ℕ) (salt : List ℕ) → verdict.More ≡ verdict.Right len salt → ⊥
  more_right len salt is = cc is

  pub is_joined : (since above_since : List LoopEntry) (at_first k : Handshakes) (len : ℕ) (salt : List ℕ) → held_at at_first conn.0 ≡ Some (record { input = input; nonce = nonce; received = [] }) → Carries keys at_first since above_since k
      → has_ended input conn since ≡ false → was_dropped conn since ≡ false → ping_received ring (random_bytes nonce) (said_by input conn since) ≡ verdict.Right len salt → WasGiven above_since
  is_joined since above_since at_first k len salt first carries ended dropped right =
      ⊎_elim {C = WasGiven above_since} (λ (w : HeldSince (held_at k conn.0) since). absurd (still w)) (λ (given : WasGiven above_since). given)
      (later_waiting above_since since [] [] at_first k (inl (record { conn_held = record { input = input; nonce = nonce; received = [] }; is = first; of = refl; nonce_is = refl; said = refl; fresh = inl refl })) ended dropped carries)
    where
      still : HeldSince (held_at k conn.0) since → ⊥
      still w =
          let judged : ping_received ring (random_bytes w.conn_held.nonce) w.conn_held.received ≡ verdict.Right len salt =
          subst (λ (n : RandomBytes). ping_received ring (random_bytes n) w.conn_held.received ≡ verdict.Right len salt) (sym w.nonce_is)
          (subst (λ (l : List ℕ). ping_received ring (random_bytes nonce) l ≡ verdict.Right len salt) (sym w.said) right) in
          ⊎_elim {C = ⊥}
          (λ (none : w.conn_held.received ≡ []). nothing_right (salt_of ring (random_bytes w.conn_held.nonce)) len salt (subst (λ (l : List ℕ). ping_received ring (random_bytes w.conn_held.nonce) l ≡ verdict.Right len salt) none judged))
          (λ (more : ping_received ring (random_bytes w.conn_held.nonce) w.conn_held.received ≡ verdict.More). more_right len salt (sym more ∙ judged)) w.fresh
