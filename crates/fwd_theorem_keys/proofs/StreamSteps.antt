-- What each rule does to a connection of a keyed input.
use Rattle.std.proofs.Common.{◌≡◌, ◌≢◌, ⊎_elim, ℕ, Bool, true, false, ◌&&◌, not, cond, if◌then◌else◌, eqb, List, [], ◌∷◌, ◌++◌, Option, Some, None, refl, sym, ap, subst, ◌∙◌}
use Rattle.std.specs.Prelude.{◌==◌, is_some}
use Rattle.std.proofs.lemmas.Bool.{cases_eq, eqb-true, eq-eqb}
use Rattle.fwd_base.specs.declared.ids.InputId.{InputId}
use Rattle.fwd_base.specs.declared.ids.ConnId.{ConnId}
use Rattle.fwd_outside.specs.Program.{entry, Return}
use Rattle.fwd_outside.specs.Loop.{LoopCall, LoopAnswer, LoopEntry, Wait, Reply, Word}
use Rattle.fwd_outside.specs.declared.happening.Happening.{Happening}
use Rattle.fwd_outside.specs.declared.happening.Happening.TheVariants as happening
use Rattle.fwd_handshake.specs.declared.ring.Ring.{Ring}
use Rattle.fwd_handshake.specs.declared.received.Received.{Received}
use Rattle.fwd_handshake.specs.declared.received.Received.TheVariants as received
use Rattle.fwd_handshake.specs.Judgement.{ping_received}
use Rattle.fwd_handshake.specs.Messages.{helo, pong}
use Rattle.fwd_secure.specs.declared.keys.Keys.{Keys}
use Rattle.fwd_secure.specs.declared.handshakes.HeldConn.{HeldConn}
use Rattle.fwd_secure.specs.declared.handshakes.KeptBytes.TheVariants.{OfConn}
use Rattle.fwd_secure.specs.RandomBytes.{random_bytes}
use Rattle.fwd_secure.specs.Handshakes.{Handshakes, at, with_entry, without_entry, held_at, is_held, if_under, held_under, joined_at, is_joined_under, holding, released, entered, listens_at, left}
use Rattle.fwd_secure.specs.Inputs.{Brings, holds_or_drops, joins_by, joins, after_message, keeping_piece, enters_or_drops, judges, hears_by, hears}
use Rattle.fwd_secure.specs.Rules.{brings_joined, brings_piece}
use Rattle.fwd_theorem_keys.specs.Traffic.{is_conn, piece_bytes, said_by, is_gone, has_ended}
use Rattle.fwd_theorem_keys.proofs.Maps.{at_with_same, at_with_other, at_without_was, at_without_none}
use Rattle.fwd_theorem_keys.proofs.Steps.{Always}
use Rattle.fwd_theorem_keys.proofs.Entries.{neither, not_both}
use Rattle.fwd_theorem_keys.proofs.RisingLists.{AreRising}
use Rattle.fwd_theorem_keys.proofs.KeptOfConn.{has_kept, kept_bytes, has_more, bytes_more}
use Rattle.fwd_theorem_keys.proofs.StreamStatus.{is_given, StatusOf, Tame, Next, tame_next}

pub same_some : {X : Type 0} (x y : X) → Some x ≡ Some y → x ≡ y
same_some x y is = cc is

pub none_some : {X : Type 0} (x : X) → None ≡ Some x → ⊥
none_some x is = cc is

-- a connection that is held under an input
pub under_some : (n : ℕ) (o : Option HeldConn) (h : HeldConn) → if_under n o ≡ Some h → (o ≡ Some h) × (h.input.0 ≡ n)
under_some n None h is = absurd (none_some h is)
under_some n (Some x) h is = by (eqb x.input.0 n) refl is
  where
    by : (b : Bool) → eqb x.input.0 n ≡ b → cond b (Some x) None ≡ Some h → (Some x ≡ Some h) × (h.input.0 ≡ n)
    by true same i = (i, subst (λ (y : HeldConn). y.input.0 ≡ n) (same_some x h i) (eqb-true x.input.0 n same))
    by false same i = absurd (none_some h i)

pub some_under : (n : ℕ) (o : Option HeldConn) (h : HeldConn) → o ≡ Some h → h.input.0 ≡ n → if_under n o ≡ Some h
some_under n o h is of = ap (if_under n) is ∙ ap (λ (b : Bool). cond {A = Option HeldConn} b (Some h) None) (eq-eqb h.input.0 n of)

pub input_is : (i j : InputId) → i.0 ≡ j.0 → i ≡ j
input_is i j is = ap (λ (n : ℕ). record { 0 = n }) is

module _ (keys : Keys) (ring : Ring) (input : InputId) (conn : ConnId) (Lawful : Type 0) (k : Handshakes) (b a : List LoopEntry) (rising : AreRising k) (old : StatusOf keys ring input conn Lawful k b a) where
  abbrev pub IsTame : Handshakes → Type 0
  IsTame v = Tame keys ring input conn Lawful k v

  abbrev pub IsNext : Handshakes → List LoopEntry → (call : LoopCall) → LoopAnswer call → Type 0
  IsNext v own call answer = Next keys ring input conn Lawful b a v own call answer

  -- ---- states

  pub tame_same : (v : Handshakes) → v.held ≡ k.held → v.joined ≡ k.joined → (has_kept input conn v.kept ≡ true → has_kept input conn k.kept ≡ true) → kept_bytes input conn v.kept ≡ kept_bytes input conn k.kept → IsTame v
  tame_same v held joined has bytes = record {
    held = λ h is of. subst (λ (l : List (ℕ × HeldConn)). at conn.0 l ≡ Some h) held is;
    joined = λ is. subst (λ (l : List (ℕ × ℕ)). at conn.0 l ≡ Some input.0) joined is;
    alone = λ is. subst (λ (l : List (ℕ × HeldConn)). at conn.0 l ≡ None) (sym held) (old.alone (subst (λ (l : List (ℕ × ℕ)). at conn.0 l ≡ Some input.0) joined is));
    has = has;
    bytes = bytes;
  }

  pub tame_self : IsTame k
  tame_self = tame_same k refl refl (λ is. is) refl

  pub tame_released : (c : ConnId) → IsTame (released k c.0)
  tame_released c = record {
    held = λ h is of. at_without_was conn.0 c.0 k.held h rising.held is;
    joined = λ is. is;
    alone = λ is. at_without_none conn.0 c.0 k.held rising.held (old.alone is);
    has = λ is. is;
    bytes = refl;
  }

  pub tame_left : (i : InputId) (c : ConnId) → IsTame (left k i.0 c.0)
  tame_left i c = by (is_some (held_under k i.0 c.0)) (is_joined_under k i.0 c.0)
    where
      held_was : (p : Bool) (h : HeldConn) → at conn.0 (if p then without_entry c.0 k.held else k.held) ≡ Some h → held_at k conn.0 ≡ Some h
      held_was true h is = at_without_was conn.0 c.0 k.held h rising.held is
      held_was false h is = is

      held_none : (p : Bool) → held_at k conn.0 ≡ None → at conn.0 (if p then without_entry c.0 k.held else k.held) ≡ None
      held_none true is = at_without_none conn.0 c.0 k.held rising.held is
      held_none false is = is

      joined_was : (q : Bool) → at conn.0 (if q then without_entry c.0 k.joined else k.joined) ≡ Some input.0 → joined_at k conn.0 ≡ Some input.0
      joined_was true is = at_without_was conn.0 c.0 k.joined input.0 rising.joined is
      joined_was false is = is

      by : (p q : Bool) → IsTame (record k { held = if p then without_entry c.0 k.held else k.held; joined = if q then without_entry c.0 k.joined else k.joined })
      by p q = record {
        held = λ h is of. held_was p h is;
        joined = joined_was q;
        alone = λ is. held_none p (old.alone (joined_was q is));
        has = λ is. is;
        bytes = refl;
      }

  -- an event of another connection, or of another input
  module _ (i : InputId) (c : ConnId) (off : is_conn input conn i c ≡ false) where
    not_own : conn.0 ≡ c.0 → i.0 ≡ input.0 → ⊥
    not_own of_conn of_input =
        let both : is_conn input conn i c ≡ true = rw (eq-eqb i.0 input.0 of_input, eq-eqb c.0 conn.0 (sym of_conn)) refl in
        not_both (is_conn input conn i c) both off

    tame_holding : (u : Handshakes) (h : HeldConn) → IsTame u → h.input ≡ i → (conn.0 ≡ c.0 → joined_at u conn.0 ≡ Some input.0 → ⊥) → IsTame (holding u c.0 h)
    tame_holding u h tame of free = record {
      held = λ g is of_g. ⊎_elim (λ (same : conn.0 ≡ c.0). absurd (own g is of_g same)) (λ (ne : conn.0 ≢ c.0). tame.held g (sym (at_with_other conn.0 c.0 h u.held ne) ∙ is) of_g) (cases_eq conn.0 c.0);
      joined = tame.joined;
      alone = λ is. ⊎_elim (λ (same : conn.0 ≡ c.0). absurd (free same is)) (λ (ne : conn.0 ≢ c.0). at_with_other conn.0 c.0 h u.held ne ∙ tame.alone is) (cases_eq conn.0 c.0);
      has = tame.has;
      bytes = tame.bytes;
    }
      where
        own : (g : HeldConn) → at conn.0 (with_entry c.0 h u.held) ≡ Some g → g.input ≡ input → conn.0 ≡ c.0 → ⊥
        own g is of_g same =
            let here : at c.0 (with_entry c.0 h u.held) ≡ Some g = subst (λ (n : ℕ). at n (with_entry c.0 h u.held) ≡ Some g) same is in
            let one : h ≡ g = same_some h g (sym (at_with_same c.0 h u.held) ∙ here) in
            not_own same (ap (λ (j : InputId). j.0) (sym of ∙ ap (λ (x : HeldConn). x.input) one ∙ of_g))

    tame_entered : (u : Handshakes) → IsTame u → IsTame (entered u i.0 c.0)
    tame_entered u tame = by (is_some (joined_at u c.0))
      where
        was : at conn.0 (with_entry c.0 i.0 u.joined) ≡ Some input.0 → joined_at u conn.0 ≡ Some input.0
        was is = ⊎_elim own (λ (ne : conn.0 ≢ c.0). sym (at_with_other conn.0 c.0 i.0 u.joined ne) ∙ is) (cases_eq conn.0 c.0)
          where
            own : conn.0 ≡ c.0 → joined_at u conn.0 ≡ Some input.0
            own same =
                let here : at c.0 (with_entry c.0 i.0 u.joined) ≡ Some input.0 = subst (λ (n : ℕ). at n (with_entry c.0 i.0 u.joined) ≡ Some input.0) same is in
                absurd (not_own same (same_some i.0 input.0 (sym (at_with_same c.0 i.0 u.joined) ∙ here)))

        by : (p : Bool) → IsTame (if p then u else record u { joined = with_entry c.0 i.0 u.joined })
        by true = tame
        by false = record { held = tame.held; joined = λ is. tame.joined (was is); alone = λ is. tame.alone (was is); has = tame.has; bytes = tame.bytes }

    tame_keeping : (u : Handshakes) (rest : List ℕ) → IsTame u → IsTame (keeping_piece u i c rest)
    tame_keeping u [] tame = tame
    tame_keeping u (byte ∷ bytes) tame = record {
      held = tame.held;
      joined = tame.joined;
      alone = tame.alone;
      has = λ is. tame.has (has_more input conn u.kept (OfConn i c (byte ∷ bytes)) off is);
      bytes = bytes_more input conn u.kept (OfConn i c (byte ∷ bytes)) off ∙ tame.bytes;
    }

  -- ---- a wait on the loop below

  module _ (until paused : ℕ) where
    abbrev pub Fine : Happening → Brings → Type 0
    Fine x p = Always (λ own r. IsNext r.1 (entry (Wait until paused) x ∷ own) (Wait until paused) r.0) p

    -- nothing of the connection came, and nothing is given
    pub quiet : (x y : Happening) (own : List LoopEntry) (v : Handshakes) → IsTame v → piece_bytes input conn x ≡ [] → is_gone input conn x ≡ false → said_by input conn own ≡ [] → has_ended input conn own ≡ false
        → is_given input conn y ≡ false → IsNext v (entry (Wait until paused) x ∷ own) (Wait until paused) y
    quiet x y own v tame bytes lasts silent own_lasts ungiven =
        tame_next keys ring input conn Lawful k v (entry (Wait until paused) x ∷ own) b a (Wait until paused) y old tame
        (ap (λ (l : List ℕ). l ++ said_by input conn own) bytes ∙ silent) (neither (is_gone input conn x) (has_ended input conn own) lasts own_lasts) ungiven refl

    pub same_event : (x : Happening) → piece_bytes input conn x ≡ [] → is_gone input conn x ≡ false → is_given input conn x ≡ false → Fine x (Return (x, k))
    same_event x bytes lasts ungiven = quiet x x [] k tame_self bytes lasts refl refl ungiven

    -- ---- of another connection

    module _ (i : InputId) (c : ConnId) (off : is_conn input conn i c ≡ false) where
      off_bytes : (piece : List ℕ) → piece_bytes input conn (happening.Piece i c piece) ≡ []
      off_bytes piece = ap (λ (t : Bool). if t then piece else []) off

      joins_other : Fine (happening.Joined i c) (joins k i c)
      joins_other = by (is_held k c.0) (joined_at k c.0) refl
        where
          there : (p : Bool) → IsNext k (entry (Wait until paused) (happening.Joined i c) ∷ []) (Wait until paused) (if p then happening.Joined i c else happening.Gone i c)
          there true = quiet (happening.Joined i c) (happening.Joined i c) [] k tame_self refl refl refl refl off
          there false = quiet (happening.Joined i c) (happening.Gone i c) [] k tame_self refl refl refl refl refl

          answered : joined_at k c.0 ≡ None → (x y : ℕ) (answer : Option (Unit {0}))
              → Always (λ own r. IsNext r.1 (entry (Wait until paused) (happening.Joined i c) ∷ entry Word x ∷ entry Word y ∷ entry (Reply c.0 (helo (random_bytes (record { first = x; second = y })))) answer ∷ own) (Wait until paused) r.0)
              (holds_or_drops k i c (record { first = x; second = y }) answer)
          answered none x y (Some done) =
              quiet (happening.Joined i c) (happening.Gone i c) _ (holding k c.0 (record { input = i; nonce = record { first = x; second = y }; received = [] }))
              (tame_holding i c off k (record { input = i; nonce = record { first = x; second = y }; received = [] }) tame_self refl
              (λ same is. none_some input.0 (sym none ∙ subst (λ (n : ℕ). joined_at k n ≡ Some input.0) same is)))
              refl refl refl refl refl
          answered none x y None = λ answer. quiet (happening.Joined i c) (happening.Gone i c) _ k tame_self refl refl refl refl refl

          by : (p : Bool) (o : Option ℕ) → joined_at k c.0 ≡ o → Fine (happening.Joined i c) (if p then Return (happening.Gone i c, k) else joins_by k i c o)
          by true o is = quiet (happening.Joined i c) (happening.Gone i c) [] k tame_self refl refl refl refl refl
          by false (Some other) is = there (other == i.0)
          by false None is = λ x y answer. answered is x y answer

      pub joined_other : (o : Option Ring) → Fine (happening.Joined i c) (brings_joined o k i c)
      joined_other (Some other) = joins_other
      joined_other None = by (listens_at k i.0)
        where
          by : (p : Bool) → IsNext (if p then entered k i.0 c.0 else k) (entry (Wait until paused) (happening.Joined i c) ∷ []) (Wait until paused) (happening.Joined i c)
          by true = quiet (happening.Joined i c) (happening.Joined i c) [] (entered k i.0 c.0) (tame_entered i c off k tame_self) refl refl refl refl off
          by false = quiet (happening.Joined i c) (happening.Joined i c) [] k tame_self refl refl refl refl off

      module _ (piece : List ℕ) where
        judges_other : (other : Ring) (h : HeldConn) (r : Received) → held_at k c.0 ≡ Some h → h.input ≡ i → Fine (happening.Piece i c piece) (judges other (released k c.0) i c h piece r)
        judges_other other h received.More is of =
            quiet (happening.Piece i c piece) (happening.Gone i c) [] (holding (released k c.0) c.0 (record h { received = h.received ++ piece }))
            (tame_holding i c off (released k c.0) (record h { received = h.received ++ piece }) (tame_released c) of
            (λ same j. none_some h (sym (old.alone j) ∙ subst (λ (n : ℕ). held_at k n ≡ Some h) (sym same) is)))
            (off_bytes piece) refl refl refl refl
        judges_other other h (received.Right len salt) is of = λ answer. by answer
          where
            by : (answer : Option (Unit {0})) → Always (λ own r. IsNext r.1 (entry (Wait until paused) (happening.Piece i c piece) ∷ entry (Reply c.0 (pong other salt (random_bytes h.nonce))) answer ∷ own) (Wait until paused) r.0)
                (enters_or_drops (released k c.0) i c (after_message len h.received piece) answer)
            by (Some done) =
                quiet (happening.Piece i c piece) (happening.Joined i c) _ (keeping_piece (entered (released k c.0) i.0 c.0) i c (after_message len h.received piece))
                (tame_keeping i c off (entered (released k c.0) i.0 c.0) (after_message len h.received piece) (tame_entered i c off (released k c.0) (tame_released c)))
                (off_bytes piece) refl refl refl off
            by None = λ answer. quiet (happening.Piece i c piece) (happening.Gone i c) _ (released k c.0) (tame_released c) (off_bytes piece) refl refl refl refl
        judges_other other h received.Wrong is of = λ answer. quiet (happening.Piece i c piece) (happening.Gone i c) _ (released k c.0) (tame_released c) (off_bytes piece) refl refl refl refl

        hears_other : (other : Ring) → Fine (happening.Piece i c piece) (hears other k i c piece)
        hears_other other = by (held_under k i.0 c.0) refl
          where
            passed : (p : Bool) → IsNext k (entry (Wait until paused) (happening.Piece i c piece) ∷ []) (Wait until paused) (if p then happening.Piece i c piece else happening.Gone i c)
            passed true = quiet (happening.Piece i c piece) (happening.Piece i c piece) [] k tame_self (off_bytes piece) refl refl refl off
            passed false = quiet (happening.Piece i c piece) (happening.Gone i c) [] k tame_self (off_bytes piece) refl refl refl refl

            by : (o : Option HeldConn) → held_under k i.0 c.0 ≡ o → Fine (happening.Piece i c piece) (hears_by other k i c piece o)
            by (Some h) is =
                let found = under_some i.0 (held_at k c.0) h is in
                judges_other other h (ping_received other (random_bytes h.nonce) (h.received ++ piece)) found.0 (input_is h.input i found.1)
            by None is = passed (not (is_held k c.0) && is_joined_under k i.0 c.0)

        pub piece_other : (o : Option Ring) → Fine (happening.Piece i c piece) (brings_piece o k i c piece)
        piece_other (Some other) = hears_other other
        piece_other None = quiet (happening.Piece i c piece) (happening.Piece i c piece) [] k tame_self (off_bytes piece) refl refl refl off

      pub gone_other : Fine (happening.Gone i c) (Return (happening.Gone i c, left k i.0 c.0))
      gone_other = quiet (happening.Gone i c) (happening.Gone i c) [] (left k i.0 c.0) (tame_left i c) refl off refl refl refl
