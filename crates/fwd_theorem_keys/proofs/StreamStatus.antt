-- What the calls say of a connection of a keyed input, by the state of the keyed loop.
use Rattle.std.proofs.Common.{◌≡◌, ◌⊎◌, inl, inr, ⊎_elim, ℕ, Bool, true, false, if◌then◌else◌, List, [], ◌∷◌, ◌++◌, drop, Option, Some, None, refl, sym, ap, subst, ◌∙◌, append_assoc, append-nil}
use Rattle.std.proofs.lemmas.List.{drop-append-le}
use Rattle.fwd_base.specs.declared.ids.InputId.{InputId}
use Rattle.fwd_base.specs.declared.ids.ConnId.{ConnId}
use Rattle.fwd_outside.specs.Program.{entry}
use Rattle.fwd_outside.specs.Loop.{LoopCall, LoopAnswer, LoopEntry, Wait, Reply}
use Rattle.fwd_outside.specs.declared.happening.Happening.{Happening}
use Rattle.fwd_outside.specs.declared.happening.Happening.TheVariants as happening
use Rattle.fwd_handshake.specs.declared.ring.Ring.{Ring}
use Rattle.fwd_handshake.specs.declared.received.Received.TheVariants as verdict
use Rattle.fwd_handshake.specs.Judgement.{ping_received}
use Rattle.fwd_handshake.specs.Members.{salt_of}
use Rattle.fwd_handshake.specs.Messages.{pong}
use Rattle.fwd_secure.specs.declared.keys.Keys.{Keys}
use Rattle.fwd_secure.specs.declared.handshakes.HeldConn.{HeldConn}
use Rattle.fwd_secure.specs.declared.handshakes.KeptBytes.{KeptBytes}
use Rattle.fwd_secure.specs.RandomBytes.{random_bytes}
use Rattle.fwd_secure.specs.Handshakes.{Handshakes, held_at, joined_at}
use Rattle.fwd_theorem_keys.specs.Traffic.{is_conn, piece_bytes, said_in, said_by, has_ended, drops_in}
use Rattle.fwd_theorem_keys.specs.Streams.{Gives, Challenged, BeganRightly}
use Rattle.fwd_theorem_keys.proofs.Entries.{not_both, said_append, ended_append, dropped_append, neither, conn_same, includes_left}
use Rattle.fwd_theorem_keys.proofs.Judging.{right_within, right_longer}
use Rattle.fwd_theorem_keys.proofs.KeptOfConn.{has_kept, kept_bytes}

module _ (input : InputId) (conn : ConnId) where
  -- whether the event gives the connection, or bytes of it
  abbrev pub is_given : Happening → Bool
  is_given (happening.Joined i c) = is_conn input conn i c
  is_given (happening.Piece i c bytes) = is_conn input conn i c
  is_given _ = false

-- `Lawful` says that no event is of a paused input
module _ (keys : Keys) (ring : Ring) (input : InputId) (conn : ConnId) (Lawful : Type 0) where
  -- the connection is held: nothing of it was given
  pub record Held (h : HeldConn) (b a : List LoopEntry) : Type 0 where
    pub challenged : Challenged keys input conn b a
    pub nonce : h.nonce ≡ challenged.nonce
    pub received : h.received ≡ said_by input conn challenged.since
    pub fresh : (h.received ≡ []) ⊎ (ping_received ring (random_bytes h.nonce) h.received ≡ verdict.More)
    pub silent : Lawful → said_by input conn challenged.above_since ≡ []

  -- its stream began rightly, and these bytes of it weren't given yet
  pub record Began (rest : List ℕ) (b a : List LoopEntry) : Type 0 where
    pub began : BeganRightly keys ring input conn b a
    pub left : began.rest ≡ rest

  pub record Status (ho : Option HeldConn) (jo : Option ℕ) (kept : List KeptBytes) (b a : List LoopEntry) : Type 0 where
    pub held : (h : HeldConn) → ho ≡ Some h → h.input ≡ input → Held h b a
    pub free : Lawful → (h : HeldConn) → ho ≡ Some h → h.input ≡ input → has_kept input conn kept ≡ false
    pub alone : jo ≡ Some input.0 → ho ≡ None
    pub there : Lawful → (jo ≡ Some input.0) ⊎ (has_kept input conn kept ≡ true) → Began (kept_bytes input conn kept) b a

  abbrev pub StatusOf : Handshakes → List LoopEntry → List LoopEntry → Type 0
  StatusOf k b a = Status (held_at k conn.0) (joined_at k conn.0) k.kept b a

  -- ---- which calls say nothing of it

  abbrev pub gives_in : (call : LoopCall) → LoopAnswer call → Bool
  gives_in (Wait until paused) x = is_given input conn x
  gives_in call answer = false

  -- a call gives it
  abbrev pub GivesBy : (call : LoopCall) → LoopAnswer call → Type 0
  GivesBy (Wait until paused) x = Gives input conn x
  GivesBy call answer = ⊥

  given_is : (x : Happening) → Gives input conn x → is_given input conn x ≡ true
  given_is x (inl is) = subst (λ (y : Happening). is_given input conn y ≡ true) (sym is) (conn_same input conn)
  given_is x (inr is) = subst (λ (y : Happening). is_given input conn y ≡ true) (sym is.1) (conn_same input conn)

  pub not_given : (call : LoopCall) (answer : LoopAnswer call) → gives_in call answer ≡ false → GivesBy call answer → ⊥
  not_given (Wait until paused) x off gives = not_both (is_given input conn x) (given_is x gives) off
  not_given call answer off gives = gives

  bytes_silent : (x : Happening) → is_given input conn x ≡ false → piece_bytes input conn x ≡ []
  bytes_silent (happening.Piece i c bytes) off = ap (λ (t : Bool). if t then bytes else []) off
  bytes_silent (happening.Joined i c) off = refl
  bytes_silent (happening.Tick now) off = refl
  bytes_silent (happening.Gone i c) off = refl
  bytes_silent (happening.Room link) off = refl
  bytes_silent (happening.Back link bytes) off = refl
  bytes_silent (happening.Broken link) off = refl
  bytes_silent (happening.InputEnd i) off = refl
  bytes_silent happening.Stop off = refl
  bytes_silent happening.End off = refl
  bytes_silent happening.Failed off = refl

  pub said_silent : (call : LoopCall) (answer : LoopAnswer call) → gives_in call answer ≡ false → said_in input conn call answer ≡ []
  said_silent (Wait until paused) x off = bytes_silent x off
  said_silent call answer off = refl

  -- ---- one call more

  module _ (own : List LoopEntry) (call : LoopCall) (answer : LoopAnswer call) (lasts : has_ended input conn own ≡ false) (wanted : drops_in conn call ≡ false) (b a : List LoopEntry) where
    abbrev pub longer_challenged : Challenged keys input conn b a → Challenged keys input conn (b ++ own) (a ++ entry call answer ∷ [])
    longer_challenged c = record {
      before = c.before;
      above_before = c.above_before;
      at = c.at;
      carries = c.carries;
      until = c.until;
      paused = c.paused;
      nonce = c.nonce;
      since = c.since ++ own;
      above_since = c.above_since ++ entry call answer ∷ [];
      below_is = ap (λ (l : List LoopEntry). l ++ own) c.below_is ∙ append_assoc (c.before ++ _) c.since own;
      above_is = ap (λ (l : List LoopEntry). l ++ entry call answer ∷ []) c.above_is ∙ append_assoc (c.above_before ++ _) c.above_since (entry call answer ∷ []);
      not_ended = ended_append input conn c.since own c.not_ended lasts;
      not_dropped = dropped_append conn c.above_since (entry call answer ∷ []) c.not_dropped (neither (drops_in conn call) false wanted refl);
    }

    above_more : (l : List LoopEntry) → said_by input conn (l ++ entry call answer ∷ []) ≡ said_by input conn l ++ said_in input conn call answer
    above_more l = said_append input conn l (entry call answer ∷ []) ∙ ap (λ (s : List ℕ). said_by input conn l ++ s) (append-nil (said_in input conn call answer))

    longer_given : (r : BeganRightly keys ring input conn b a) (more : List ℕ) → said_in input conn call answer ++ more ≡ r.rest ++ said_by input conn own
        → said_by input conn (r.challenged.above_since ++ entry call answer ∷ []) ++ more ≡ drop r.len (said_by input conn (r.challenged.since ++ own))
    longer_given r more same =
        let given : List ℕ = said_by input conn r.challenged.above_since in
        let said : List ℕ = said_by input conn r.challenged.since in
        ap (λ (l : List ℕ). l ++ more) (above_more r.challenged.above_since)
        ∙ append_assoc given (said_in input conn call answer) more
        ∙ ap (λ (l : List ℕ). given ++ l) same
        ∙ sym (append_assoc given r.rest (said_by input conn own))
        ∙ ap (λ (l : List ℕ). l ++ said_by input conn own) r.given
        ∙ sym (drop-append-le r.len said (said_by input conn own) (right_within (salt_of ring (random_bytes r.challenged.nonce)) said r.len r.salt r.right))
        ∙ ap (drop r.len) (sym (said_append input conn r.challenged.since own))

    longer_right : (r : BeganRightly keys ring input conn b a) → ping_received ring (random_bytes r.challenged.nonce) (said_by input conn (r.challenged.since ++ own)) ≡ verdict.Right r.len r.salt
    longer_right r =
        subst (λ (l : List ℕ). ping_received ring (random_bytes r.challenged.nonce) l ≡ verdict.Right r.len r.salt) (sym (said_append input conn r.challenged.since own))
        (right_longer (salt_of ring (random_bytes r.challenged.nonce)) (said_by input conn r.challenged.since) (said_by input conn own) r.len r.salt r.right)

    -- the bytes of the connection that came below are given, or kept
    longer_rightly : (r : BeganRightly keys ring input conn b a) (more : List ℕ) → said_in input conn call answer ++ more ≡ r.rest ++ said_by input conn own
        → Began more (b ++ own) (a ++ entry call answer ∷ [])
    longer_rightly r more same = record {
      began = record {
        challenged = longer_challenged r.challenged;
        len = r.len;
        salt = r.salt;
        right = longer_right r;
        answered = includes_left (entry (Reply conn.0 (pong ring r.salt (random_bytes r.challenged.nonce))) (Some tt)) r.challenged.since own r.answered;
        rest = more;
        given = longer_given r more same;
      };
      left = refl;
    }

    pub longer_began : (rest more : List ℕ) → said_in input conn call answer ++ more ≡ rest ++ said_by input conn own → Began rest b a → Began more (b ++ own) (a ++ entry call answer ∷ [])
    longer_began rest more same is = longer_rightly is.began more (same ∙ ap (λ (l : List ℕ). l ++ said_by input conn own) (sym is.left))

    module _ (silent : said_by input conn own ≡ []) where
      pub longer_held : (Lawful → said_in input conn call answer ≡ []) → (h : HeldConn) → Held h b a → Held h (b ++ own) (a ++ entry call answer ∷ [])
      longer_held unsaid h is = record {
        challenged = longer_challenged is.challenged;
        nonce = is.nonce;
        received = is.received ∙ sym (said_append input conn is.challenged.since own ∙ ap (λ (l : List ℕ). said_by input conn is.challenged.since ++ l) silent ∙ append-nil (said_by input conn is.challenged.since));
        fresh = is.fresh;
        silent = λ lawful. above_more is.challenged.above_since ∙ ap (λ (l : List ℕ). l ++ said_in input conn call answer) (is.silent lawful) ∙ unsaid lawful;
      }

      pub quiet_began : said_in input conn call answer ≡ [] → (rest more : List ℕ) → more ≡ rest → Began rest b a → Began more (b ++ own) (a ++ entry call answer ∷ [])
      quiet_began unsaid rest more same is = longer_began rest more (ap (λ (l : List ℕ). l ++ more) unsaid ∙ same ∙ sym (append-nil rest) ∙ ap (λ (l : List ℕ). rest ++ l) (sym silent)) is

  -- ---- the next state

  -- nothing changed but that less may be held, joined or kept
  pub record Tame (k v : Handshakes) : Type 0 where
    pub held : (h : HeldConn) → held_at v conn.0 ≡ Some h → h.input ≡ input → held_at k conn.0 ≡ Some h
    pub joined : joined_at v conn.0 ≡ Some input.0 → joined_at k conn.0 ≡ Some input.0
    pub alone : joined_at v conn.0 ≡ Some input.0 → held_at v conn.0 ≡ None
    pub has : has_kept input conn v.kept ≡ true → has_kept input conn k.kept ≡ true
    pub bytes : kept_bytes input conn v.kept ≡ kept_bytes input conn k.kept

  pub record Quiet (own : List LoopEntry) (call : LoopCall) (answer : LoopAnswer call) : Type 0 where
    pub silent : said_by input conn own ≡ []
    pub lasts : has_ended input conn own ≡ false
    pub unsaid : said_in input conn call answer ≡ []
    pub wanted : drops_in conn call ≡ false

  pub record Next (b a : List LoopEntry) (v : Handshakes) (own : List LoopEntry) (call : LoopCall) (answer : LoopAnswer call) : Type 0 where
    pub status : StatusOf v (b ++ own) (a ++ entry call answer ∷ [])
    pub gives : Lawful → GivesBy call answer → BeganRightly keys ring input conn (b ++ own) (a ++ entry call answer ∷ [])

  not_true : (x y : Bool) → (x ≡ true → y ≡ true) → y ≡ false → x ≡ false
  not_true true y up off = absurd (not_both y (up refl) off)
  not_true false y up off = refl

  pub tame_status : (k v : Handshakes) (own b a : List LoopEntry) (call : LoopCall) (answer : LoopAnswer call) → StatusOf k b a → Tame k v → Quiet own call answer → StatusOf v (b ++ own) (a ++ entry call answer ∷ [])
  tame_status k v own b a call answer old tame quiet = record {
    held = λ h is of. longer_held own call answer quiet.lasts quiet.wanted b a quiet.silent (λ lawful. quiet.unsaid) h (old.held h (tame.held h is of) of);
    free = λ lawful h is of. not_true (has_kept input conn v.kept) (has_kept input conn k.kept) tame.has (old.free lawful h (tame.held h is of) of);
    alone = tame.alone;
    there = λ lawful some.
        quiet_began own call answer quiet.lasts quiet.wanted b a quiet.silent quiet.unsaid (kept_bytes input conn k.kept) (kept_bytes input conn v.kept) tame.bytes
        (old.there lawful (⊎_elim (λ (j : joined_at v conn.0 ≡ Some input.0). inl (tame.joined j)) (λ (h : has_kept input conn v.kept ≡ true). inr (tame.has h)) some));
  }

  -- nothing of the connection is given
  pub tame_next : (k v : Handshakes) (own b a : List LoopEntry) (call : LoopCall) (answer : LoopAnswer call) → StatusOf k b a → Tame k v
      → said_by input conn own ≡ [] → has_ended input conn own ≡ false → gives_in call answer ≡ false → drops_in conn call ≡ false → Next b a v own call answer
  tame_next k v own b a call answer old tame silent lasts ungiven wanted = record {
    status = tame_status k v own b a call answer old tame (record { silent = silent; lasts = lasts; unsaid = said_silent call answer ungiven; wanted = wanted });
    gives = λ lawful gives. absurd (not_given call answer ungiven gives);
  }

  -- the connection isn't there
  pub absent_status : (ho : Option HeldConn) (jo : Option ℕ) (kept : List KeptBytes) (b a : List LoopEntry)
      → ((h : HeldConn) → ho ≡ Some h → h.input ≡ input → ⊥) → (jo ≡ Some input.0 → ⊥) → (Lawful → has_kept input conn kept ≡ false) → Status ho jo kept b a
  absent_status ho jo kept b a unheld unjoined unkept = record {
    held = λ h is of. absurd (unheld h is of);
    free = λ lawful h is of. unkept lawful;
    alone = λ is. absurd (unjoined is);
    there = λ lawful some. absurd (⊎_elim unjoined (λ (has : has_kept input conn kept ≡ true). not_both (has_kept input conn kept) has (unkept lawful)) some);
  }
