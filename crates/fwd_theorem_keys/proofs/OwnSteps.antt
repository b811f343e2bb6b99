-- What the rules do with the events of a connection of a keyed input.
use Rattle.std.proofs.Common.{◌≡◌, inl, inr, ⊎_elim, ℕ, ◌≤◌, Bool, true, false, ◌&&◌, not, if◌then◌else◌, eqb, List, [], ◌∷◌, ◌++◌, drop, length, Option, Some, None, refl, sym, ap, subst, ◌∙◌, append-nil, arith}
use Rattle.std.specs.Prelude.{is_some}
use Rattle.std.proofs.lemmas.Bool.{eqb-true, eq-eqb}
use Rattle.fwd_base.specs.declared.ids.InputId.{InputId}
use Rattle.fwd_base.specs.declared.ids.ConnId.{ConnId}
use Rattle.fwd_outside.specs.Program.{entry, Return}
use Rattle.fwd_outside.specs.Loop.{LoopEntry, Wait, Reply, DropConn, Word}
use Rattle.fwd_outside.specs.declared.happening.Happening.{Happening}
use Rattle.fwd_outside.specs.declared.happening.Happening.TheVariants as happening
use Rattle.fwd_handshake.specs.declared.ring.Ring.{Ring}
use Rattle.fwd_handshake.specs.declared.received.Received.{Received}
use Rattle.fwd_handshake.specs.declared.received.Received.TheVariants as received
use Rattle.fwd_handshake.specs.Judgement.{ping_received}
use Rattle.fwd_handshake.specs.Members.{salt_of}
use Rattle.fwd_handshake.specs.Messages.{helo, pong}
use Rattle.fwd_secure.specs.declared.keys.Keys.{Keys}
use Rattle.fwd_secure.specs.declared.handshakes.RandomBytes.{RandomBytes}
use Rattle.fwd_secure.specs.declared.handshakes.HeldConn.{HeldConn}
use Rattle.fwd_secure.specs.declared.handshakes.KeptBytes.{KeptBytes}
use Rattle.fwd_secure.specs.declared.handshakes.KeptBytes.TheVariants.{OfConn}
use Rattle.fwd_secure.specs.RandomBytes.{random_bytes}
use Rattle.fwd_secure.specs.Handshakes.{Handshakes, no_handshakes, at, with_entry, without_entry, held_at, is_held, held_under, joined_at, is_input, is_joined_under, holding, released, entered, left}
use Rattle.fwd_secure.specs.Inputs.{Brings, holds_or_drops, joins_by, joins, after_message, keeping_piece, enters_or_drops, judges, hears_by, hears}
use Rattle.fwd_secure.specs.Carried.{Carries}
use Rattle.fwd_theorem_keys.specs.Traffic.{piece_bytes, said_by, has_ended}
use Rattle.fwd_theorem_keys.specs.Streams.{Gives, Challenged}
use Rattle.fwd_theorem_keys.proofs.Maps.{at_with_same, at_without_same}
use Rattle.fwd_theorem_keys.proofs.Steps.{Always}
use Rattle.fwd_theorem_keys.proofs.Entries.{not_both, said_append, conn_same, includes_right}
use Rattle.fwd_theorem_keys.proofs.Judging.{right_later, drop_later}
use Rattle.fwd_theorem_keys.proofs.RisingLists.{AreRising}
use Rattle.fwd_theorem_keys.proofs.KeptOfConn.{has_kept, kept_bytes, none_bytes, bytes_append, bytes_own}
use Rattle.fwd_theorem_keys.proofs.StreamStatus.{Held, Began, Status, StatusOf, longer_challenged, longer_began, tame_status, absent_status}
use Rattle.fwd_theorem_keys.proofs.StreamSteps.{same_some, none_some, under_some, some_under, input_is, IsNext, Fine, tame_self, quiet}

-- the status at another state that looks the same
at_view : (keys : Keys) (ring : Ring) (input : InputId) (conn : ConnId) (Lawful : Type 0) (ho go : Option HeldConn) (jo io : Option ℕ) (kept : List KeptBytes) (b a : List LoopEntry)
    → go ≡ ho → io ≡ jo → Status keys ring input conn Lawful ho jo kept b a → Status keys ring input conn Lawful go io kept b a
at_view keys ring input conn Lawful ho go jo io kept b a same_held same_joined is =
    subst (λ (o : Option HeldConn). Status keys ring input conn Lawful o io kept b a) (sym same_held) (subst (λ (o : Option ℕ). Status keys ring input conn Lawful ho o kept b a) (sym same_joined) is)

module _ (input : InputId) (conn : ConnId) where
  keeping_held : (u : Handshakes) (rest : List ℕ) → (keeping_piece u input conn rest).held ≡ u.held
  keeping_held u [] = refl
  keeping_held u (byte ∷ bytes) = refl

  keeping_joined : (u : Handshakes) (rest : List ℕ) → (keeping_piece u input conn rest).joined ≡ u.joined
  keeping_joined u [] = refl
  keeping_joined u (byte ∷ bytes) = refl

  keeping_bytes : (u : Handshakes) (rest : List ℕ) → kept_bytes input conn (keeping_piece u input conn rest).kept ≡ kept_bytes input conn u.kept ++ rest
  keeping_bytes u [] = sym (append-nil (kept_bytes input conn u.kept))
  keeping_bytes u (byte ∷ bytes) = bytes_append input conn u.kept (OfConn input conn (byte ∷ bytes)) ∙ ap (λ (l : List ℕ). kept_bytes input conn u.kept ++ l) (bytes_own input conn (byte ∷ bytes))

  entered_held : (u : Handshakes) → (entered u input.0 conn.0).held ≡ u.held
  entered_held u = by (is_some (joined_at u conn.0))
    where
      by : (p : Bool) → (if p then u else record u { joined = with_entry conn.0 input.0 u.joined }).held ≡ u.held
      by true = refl
      by false = refl

  entered_kept : (u : Handshakes) → (entered u input.0 conn.0).kept ≡ u.kept
  entered_kept u = by (is_some (joined_at u conn.0))
    where
      by : (p : Bool) → (if p then u else record u { joined = with_entry conn.0 input.0 u.joined }).kept ≡ u.kept
      by true = refl
      by false = refl

module _ (keys : Keys) (ring : Ring) (input : InputId) (conn : ConnId) (Lawful : Type 0) (k : Handshakes) (b a : List LoopEntry) (rising : AreRising k) (old : StatusOf keys ring input conn Lawful k b a)
    (carries : Carries keys no_handshakes b a k) (until paused : ℕ) (unkept : Lawful → has_kept input conn k.kept ≡ false) where
  abbrev Now : Handshakes → (x : Happening) → (own : List LoopEntry) → (y : Happening) → Type 0
  Now v x own y = IsNext keys ring input conn Lawful k b a rising old v (entry (Wait until paused) x ∷ own) (Wait until paused) y

  abbrev Turns : Happening → Brings → Type 0
  Turns x p = Fine keys ring input conn Lawful k b a rising old until paused x p

  nothing_kept : Lawful → kept_bytes input conn k.kept ≡ []
  nothing_kept lawful = none_bytes input conn k.kept (unkept lawful)

  -- ---- it connects

  -- it is challenged
  module _ (x y : ℕ) where
    abbrev nonce : RandomBytes
    nonce = record { first = x; second = y }

    abbrev newly : HeldConn
    newly = record { input = input; nonce = nonce; received = [] }

    abbrev calls : List LoopEntry
    calls = entry (Wait until paused) (happening.Joined input conn) ∷ entry Word x ∷ entry Word y ∷ entry (Reply conn.0 (helo (random_bytes nonce))) (Some tt) ∷ []

    new_held : Held keys ring input conn Lawful newly (b ++ calls) (a ++ entry (Wait until paused) (happening.Gone input conn) ∷ [])
    new_held = record {
      challenged = record {
        before = b;
        above_before = a;
        at = k;
        carries = carries;
        until = until;
        paused = paused;
        nonce = nonce;
        since = [];
        above_since = [];
        below_is = sym (append-nil (b ++ calls));
        above_is = sym (append-nil (a ++ entry (Wait until paused) (happening.Gone input conn) ∷ []));
        not_ended = refl;
        not_dropped = refl;
      };
      nonce = refl;
      received = refl;
      fresh = inl refl;
      silent = λ lawful. refl;
    }

    challenged_next : joined_at k conn.0 ≡ None → Now (holding k conn.0 newly) (happening.Joined input conn) (entry Word x ∷ entry Word y ∷ entry (Reply conn.0 (helo (random_bytes nonce))) (Some tt) ∷ []) (happening.Gone input conn)
    challenged_next none = record {
      status =
          at_view keys ring input conn Lawful (Some newly) (at conn.0 (with_entry conn.0 newly k.held)) None (joined_at k conn.0) k.kept (b ++ calls) (a ++ entry (Wait until paused) (happening.Gone input conn) ∷ [])
          (at_with_same conn.0 newly k.held) none (record {
            held = λ h is of. subst (λ (g : HeldConn). Held keys ring input conn Lawful g (b ++ calls) (a ++ entry (Wait until paused) (happening.Gone input conn) ∷ [])) (same_some newly h is) new_held;
            free = λ lawful h is of. unkept lawful;
            alone = λ is. absurd (none_some input.0 is);
            there = λ lawful some. absurd (⊎_elim (none_some input.0) (λ (has : has_kept input conn k.kept ≡ true). not_both (has_kept input conn k.kept) has (unkept lawful)) some);
          });
      gives = λ lawful gives. absurd (cc_gone gives);
    }
      where
        cc_gone : Gives input conn (happening.Gone input conn) → ⊥
        cc_gone (inl is) = cc is
        cc_gone (inr is) = let same = is.1 in cc same

  pub joins_own : Turns (happening.Joined input conn) (joins k input conn)
  joins_own = by (is_held k conn.0) (joined_at k conn.0) refl
    where
      gone_now : (own : List LoopEntry) → said_by input conn own ≡ [] → has_ended input conn own ≡ false → Now k (happening.Joined input conn) own (happening.Gone input conn)
      gone_now own silent lasts =
          quiet keys ring input conn Lawful k b a rising old until paused (happening.Joined input conn) (happening.Gone input conn) own k (tame_self keys ring input conn Lawful k b a rising old) refl refl silent lasts refl

      there : (other : ℕ) (p : Bool) → joined_at k conn.0 ≡ Some other → eqb other input.0 ≡ p
          → Now k (happening.Joined input conn) [] (if p then happening.Joined input conn else happening.Gone input conn)
      there other true is same =
          let of_input : joined_at k conn.0 ≡ Some input.0 = is ∙ ap Some (eqb-true other input.0 same) in
          let began : Lawful → Began keys ring input conn Lawful (kept_bytes input conn k.kept) (b ++ entry (Wait until paused) (happening.Joined input conn) ∷ []) (a ++ entry (Wait until paused) (happening.Joined input conn) ∷ []) = λ lawful.
          longer_began keys ring input conn Lawful (entry (Wait until paused) (happening.Joined input conn) ∷ []) (Wait until paused) (happening.Joined input conn) refl refl b a
          (kept_bytes input conn k.kept) (kept_bytes input conn k.kept) (sym (append-nil (kept_bytes input conn k.kept))) (old.there lawful (inl of_input)) in
          record {
            status = tame_status keys ring input conn Lawful k k (entry (Wait until paused) (happening.Joined input conn) ∷ []) b a (Wait until paused) (happening.Joined input conn) old
                (tame_self keys ring input conn Lawful k b a rising old) (record { silent = refl; lasts = refl; unsaid = refl; wanted = refl });
            gives = λ lawful gives. (began lawful).began;
          }
      there other false is same = gone_now [] refl refl

      answered : joined_at k conn.0 ≡ None → (x y : ℕ) (answer : Option (Unit {0}))
          → Always (λ own r. Now r.1 (happening.Joined input conn) (entry Word x ∷ entry Word y ∷ entry (Reply conn.0 (helo (random_bytes (record { first = x; second = y })))) answer ∷ own) r.0)
          (holds_or_drops k input conn (record { first = x; second = y }) answer)
      answered none x y (Some done) = challenged_next x y none
      answered none x y None = λ answer. gone_now (entry Word x ∷ entry Word y ∷ entry (Reply conn.0 (helo (random_bytes (record { first = x; second = y })))) None ∷ entry (DropConn conn.0) answer ∷ []) refl refl

      by : (p : Bool) (o : Option ℕ) → joined_at k conn.0 ≡ o → Turns (happening.Joined input conn) (if p then Return (happening.Gone input conn, k) else joins_by k input conn o)
      by true o is = gone_now [] refl refl
      by false (Some other) is = there other (eqb other input.0) is refl
      by false None is = λ x y answer. answered is x y answer

  -- ---- bytes come

  module _ (piece : List ℕ) where
    abbrev came : List LoopEntry → List LoopEntry
    came own = entry (Wait until paused) (happening.Piece input conn piece) ∷ own

    piece_said : (own : List LoopEntry) → said_by input conn own ≡ [] → said_by input conn (came own) ≡ piece
    piece_said own silent =
        ap (λ (t : Bool). (if t then piece else []) ++ said_by input conn own) (conn_same input conn) ∙ ap (λ (l : List ℕ). piece ++ l) silent ∙ append-nil piece

    -- of a connection that is held
    module _ (h : HeldConn) (is : held_at k conn.0 ≡ Some h) (of : h.input ≡ input) where
      was : Held keys ring input conn Lawful h b a
      was = old.held h is of

      unjoined : joined_at k conn.0 ≡ Some input.0 → ⊥
      unjoined j = none_some h (sym (old.alone j) ∙ is)

      not_kept : Lawful → has_kept input conn k.kept ≡ true → ⊥
      not_kept lawful has = not_both (has_kept input conn k.kept) has (unkept lawful)

      module _ (own : List LoopEntry) (y : Happening) (silent : said_by input conn own ≡ []) (lasts : has_ended input conn own ≡ false) where
        said_since : said_by input conn (was.challenged.since ++ came own) ≡ h.received ++ piece
        said_since = said_append input conn was.challenged.since (came own) ∙ ap (λ (l : List ℕ). l ++ said_by input conn (came own)) (sym was.received) ∙ ap (λ (l : List ℕ). h.received ++ l) (piece_said own silent)

        abbrev now_challenged : Challenged keys input conn (b ++ came own) (a ++ entry (Wait until paused) y ∷ [])
        now_challenged = longer_challenged keys ring input conn Lawful (came own) (Wait until paused) y lasts refl b a was.challenged

        silent_above : piece_bytes input conn y ≡ [] → Lawful → said_by input conn now_challenged.above_since ≡ []
        silent_above unsaid lawful =
            said_append input conn was.challenged.above_since (entry (Wait until paused) y ∷ []) ∙ ap (λ (l : List ℕ). l ++ said_by input conn (entry (Wait until paused) y ∷ [])) (was.silent lawful)
            ∙ append-nil (piece_bytes input conn y) ∙ unsaid

      -- more is wanted
      more_next : ping_received ring (random_bytes h.nonce) (h.received ++ piece) ≡ received.More
          → Now (holding (released k conn.0) conn.0 (record h { received = h.received ++ piece })) (happening.Piece input conn piece) [] (happening.Gone input conn)
      more_next more = record {
        status =
            at_view keys ring input conn Lawful (Some longer) (at conn.0 (with_entry conn.0 longer (without_entry conn.0 k.held))) (joined_at k conn.0) (joined_at k conn.0) k.kept (b ++ came []) (a ++ entry (Wait until paused) (happening.Gone input conn) ∷ [])
            (at_with_same conn.0 longer (without_entry conn.0 k.held)) refl (record {
              held = λ g is_g of_g. subst (λ (f : HeldConn). Held keys ring input conn Lawful f (b ++ came []) (a ++ entry (Wait until paused) (happening.Gone input conn) ∷ [])) (same_some longer g is_g) now_held;
              free = λ lawful g is_g of_g. unkept lawful;
              alone = λ j. absurd (unjoined j);
              there = λ lawful some. absurd (⊎_elim unjoined (not_kept lawful) some);
            });
        gives = λ lawful gives. absurd (not_gone gives);
      }
        where
          longer : HeldConn
          longer = record h { received = h.received ++ piece }

          not_gone : Gives input conn (happening.Gone input conn) → ⊥
          not_gone (inl e) = cc e
          not_gone (inr e) = let same = e.1 in cc same

          now_held : Held keys ring input conn Lawful longer (b ++ came []) (a ++ entry (Wait until paused) (happening.Gone input conn) ∷ [])
          now_held = record {
            challenged = now_challenged [] (happening.Gone input conn) refl refl;
            nonce = was.nonce;
            received = sym (said_since [] (happening.Gone input conn) refl refl);
            fresh = inr more;
            silent = silent_above [] (happening.Gone input conn) refl refl refl;
          }

      -- it is dropped
      dropped_next : (own : List LoopEntry) → Now (released k conn.0) (happening.Piece input conn piece) own (happening.Gone input conn)
      dropped_next own = record {
        status =
            absent_status keys ring input conn Lawful (at conn.0 (without_entry conn.0 k.held)) (joined_at k conn.0) k.kept (b ++ came own) (a ++ entry (Wait until paused) (happening.Gone input conn) ∷ [])
            (λ g is_g of_g. none_some g (sym (at_without_same conn.0 k.held rising.held) ∙ is_g)) unjoined unkept;
        gives = λ lawful gives. absurd (not_gone gives);
      }
        where
          not_gone : Gives input conn (happening.Gone input conn) → ⊥
          not_gone (inl e) = cc e
          not_gone (inr e) = let same = e.1 in cc same

      -- the PING is right, and the PONG was taken
      module _ (len : ℕ) (salt : List ℕ) (right : ping_received ring (random_bytes h.nonce) (h.received ++ piece) ≡ received.Right len salt) where
        rest_is : after_message len h.received piece ≡ drop len (h.received ++ piece)
        rest_is = drop_later h.received piece len (⊎_elim (λ (none : h.received ≡ []). rw none (omega arith)) (λ (more : ping_received ring (random_bytes h.nonce) h.received ≡ received.More). below more) was.fresh)
          where
            below : ping_received ring (random_bytes h.nonce) h.received ≡ received.More → length h.received ≤ len
            below more = omega (arith, right_later (salt_of ring (random_bytes h.nonce)) h.received piece len salt more right)

        abbrev own : List LoopEntry
        own = entry (Reply conn.0 (pong ring salt (random_bytes h.nonce))) (Some tt) ∷ []

        abbrev after_it : Handshakes
        after_it = keeping_piece (entered (released k conn.0) input.0 conn.0) input conn (after_message len h.received piece)

        kept_then : Lawful → kept_bytes input conn after_it.kept ≡ after_message len h.received piece
        kept_then lawful =
            keeping_bytes input conn (entered (released k conn.0) input.0 conn.0) (after_message len h.received piece)
            ∙ ap (λ (l : List KeptBytes). kept_bytes input conn l ++ after_message len h.received piece) (entered_kept input conn (released k conn.0))
            ∙ ap (λ (l : List ℕ). l ++ after_message len h.received piece) (nothing_kept lawful)

        held_then : held_at after_it conn.0 ≡ None
        held_then =
            ap (at conn.0) (keeping_held input conn (entered (released k conn.0) input.0 conn.0) (after_message len h.received piece) ∙ entered_held input conn (released k conn.0))
            ∙ at_without_same conn.0 k.held rising.held

        began : Lawful → Began keys ring input conn Lawful (kept_bytes input conn after_it.kept) (b ++ came own) (a ++ entry (Wait until paused) (happening.Joined input conn) ∷ [])
        began lawful = record {
          began = record {
            challenged = now_challenged own (happening.Joined input conn) refl refl;
            len = len;
            salt = salt;
            right = subst (λ (n : RandomBytes). ping_received ring (random_bytes n) (said_by input conn (was.challenged.since ++ came own)) ≡ received.Right len salt) was.nonce
                (subst (λ (l : List ℕ). ping_received ring (random_bytes h.nonce) l ≡ received.Right len salt) (sym (said_since own (happening.Joined input conn) refl refl)) right);
            answered = includes_right _ was.challenged.since (came own) (inr (inl (ap (λ (n : RandomBytes). entry (Reply conn.0 (pong ring salt (random_bytes n))) (Some tt)) was.nonce)));
            rest = after_message len h.received piece;
            given =
                ap (λ (l : List ℕ). l ++ after_message len h.received piece) (silent_above own (happening.Joined input conn) refl refl refl lawful)
                ∙ rest_is ∙ ap (drop len) (sym (said_since own (happening.Joined input conn) refl refl));
          };
          left = sym (kept_then lawful);
        }

        begun_next : Now after_it (happening.Piece input conn piece) own (happening.Joined input conn)
        begun_next = record {
          status = record {
            held = λ g is_g of_g. absurd (none_some g (sym held_then ∙ is_g));
            free = λ lawful g is_g of_g. absurd (none_some g (sym held_then ∙ is_g));
            alone = λ j. held_then;
            there = λ lawful some. began lawful;
          };
          gives = λ lawful gives. (began lawful).began;
        }

      judges_own : (r : Received) → ping_received ring (random_bytes h.nonce) (h.received ++ piece) ≡ r → Turns (happening.Piece input conn piece) (judges ring (released k conn.0) input conn h piece r)
      judges_own received.More judged = more_next judged
      judges_own (received.Right len salt) judged = λ answer. by answer
        where
          by : (answer : Option (Unit {0})) → Always (λ own r. Now r.1 (happening.Piece input conn piece) (entry (Reply conn.0 (pong ring salt (random_bytes h.nonce))) answer ∷ own) r.0)
              (enters_or_drops (released k conn.0) input conn (after_message len h.received piece) answer)
          by (Some done) = begun_next len salt judged
          by None = λ answer. dropped_next (entry (Reply conn.0 (pong ring salt (random_bytes h.nonce))) None ∷ entry (DropConn conn.0) answer ∷ [])
      judges_own received.Wrong judged = λ answer. dropped_next (entry (DropConn conn.0) answer ∷ [])

    -- of one that isn't
    module _ (free : held_under k input.0 conn.0 ≡ None) where
      not_held : (h : HeldConn) → held_at k conn.0 ≡ Some h → h.input ≡ input → ⊥
      not_held h is of = none_some h (sym free ∙ some_under input.0 (held_at k conn.0) h is (ap (λ (i : InputId). i.0) of))

      is_held_none : held_at k conn.0 ≡ None → is_held k conn.0 ≡ false
      is_held_none is = ap is_some is

      passed : (p : Bool) → (not (is_held k conn.0) && is_joined_under k input.0 conn.0) ≡ p
          → Now k (happening.Piece input conn piece) [] (if p then happening.Piece input conn piece else happening.Gone input conn)
      passed true is =
          let began : Lawful → Began keys ring input conn Lawful (kept_bytes input conn k.kept) (b ++ came []) (a ++ entry (Wait until paused) (happening.Piece input conn piece) ∷ []) = λ lawful.
          longer_began keys ring input conn Lawful (came []) (Wait until paused) (happening.Piece input conn piece) refl refl b a (kept_bytes input conn k.kept) (kept_bytes input conn k.kept) (same_bytes lawful) (old.there lawful (inl there)) in
          record {
            status = record {
              held = λ h is_h of_h. absurd (not_held h is_h of_h);
              free = λ lawful h is_h of_h. unkept lawful;
              alone = old.alone;
              there = λ lawful some. began lawful;
            };
            gives = λ lawful gives. (began lawful).began;
          }
        where
          second : (p q : Bool) → (p && q) ≡ true → q ≡ true
          second true q e = e
          second false q e = absurd (cc e)

          input_some : (o : Option ℕ) → is_input input.0 o ≡ true → o ≡ Some input.0
          input_some None e = absurd (cc e)
          input_some (Some other) e = ap Some (eqb-true other input.0 e)

          there : joined_at k conn.0 ≡ Some input.0
          there = input_some (joined_at k conn.0) (second (not (is_held k conn.0)) (is_joined_under k input.0 conn.0) is)

          same_bytes : Lawful → piece_bytes input conn (happening.Piece input conn piece) ++ kept_bytes input conn k.kept ≡ kept_bytes input conn k.kept ++ said_by input conn (came [])
          same_bytes lawful =
              ap (λ (l : List ℕ). piece_bytes input conn (happening.Piece input conn piece) ++ l) (nothing_kept lawful)
              ∙ sym (ap (λ (l : List ℕ). l ++ said_by input conn (came [])) (nothing_kept lawful))
      passed false is = record {
        status = absent_status keys ring input conn Lawful (held_at k conn.0) (joined_at k conn.0) k.kept (b ++ came []) (a ++ entry (Wait until paused) (happening.Gone input conn) ∷ []) not_held unjoined unkept;
        gives = λ lawful gives. absurd (not_gone gives);
      }
        where
          not_gone : Gives input conn (happening.Gone input conn) → ⊥
          not_gone (inl e) = cc e
          not_gone (inr e) = let same = e.1 in cc same

          unjoined : joined_at k conn.0 ≡ Some input.0 → ⊥
          unjoined j =
              let unheld : is_held k conn.0 ≡ false = is_held_none (old.alone j) in
              let here : is_joined_under k input.0 conn.0 ≡ true = ap (is_input input.0) j ∙ eq-eqb input.0 input.0 refl in
              let both : (not (is_held k conn.0) && is_joined_under k input.0 conn.0) ≡ true = rw (unheld, here) refl in
              not_both (not (is_held k conn.0) && is_joined_under k input.0 conn.0) both is

    pub hears_own : Turns (happening.Piece input conn piece) (hears ring k input conn piece)
    hears_own = by (held_under k input.0 conn.0) refl
      where
        by : (o : Option HeldConn) → held_under k input.0 conn.0 ≡ o → Turns (happening.Piece input conn piece) (hears_by ring k input conn piece o)
        by (Some h) is =
            let found = under_some input.0 (held_at k conn.0) h is in
            judges_own h found.0 (input_is h.input input found.1) (ping_received ring (random_bytes h.nonce) (h.received ++ piece)) refl
        by None is = passed is (not (is_held k conn.0) && is_joined_under k input.0 conn.0) refl

  -- ---- it ends

  pub gone_own : Turns (happening.Gone input conn) (Return (happening.Gone input conn, left k input.0 conn.0))
  gone_own = record {
    status = absent_status keys ring input conn Lawful (held_at (left k input.0 conn.0) conn.0) (joined_at (left k input.0 conn.0) conn.0) k.kept (b ++ entry (Wait until paused) (happening.Gone input conn) ∷ []) (a ++ entry (Wait until paused) (happening.Gone input conn) ∷ [])
        (unheld (is_some (held_under k input.0 conn.0)) refl) (unjoined (is_joined_under k input.0 conn.0) refl) unkept;
    gives = λ lawful gives. absurd (not_gone gives);
  }
    where
      not_gone : Gives input conn (happening.Gone input conn) → ⊥
      not_gone (inl e) = cc e
      not_gone (inr e) = let same = e.1 in cc same

      unheld : (p : Bool) → is_some (held_under k input.0 conn.0) ≡ p → (h : HeldConn) → at conn.0 (if p then without_entry conn.0 k.held else k.held) ≡ Some h → h.input ≡ input → ⊥
      unheld true is h found of = none_some h (sym (at_without_same conn.0 k.held rising.held) ∙ found)
      unheld false is h found of =
          not_both (is_some (held_under k input.0 conn.0)) (ap is_some (some_under input.0 (held_at k conn.0) h found (ap (λ (i : InputId). i.0) of))) is

      unjoined : (p : Bool) → is_joined_under k input.0 conn.0 ≡ p → at conn.0 (if p then without_entry conn.0 k.joined else k.joined) ≡ Some input.0 → ⊥
      unjoined true is found = none_some input.0 (sym (at_without_same conn.0 k.joined rising.joined) ∙ found)
      unjoined false is found = not_both (is_joined_under k input.0 conn.0) (ap (is_input input.0) found ∙ eq-eqb input.0 input.0 refl) is
