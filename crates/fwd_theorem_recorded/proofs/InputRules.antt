-- The rules of keyed inputs don't look at links.
use Rattle.std.proofs.Common.{◌≡◌, ℕ, ◌==◌, ◌&&◌, Bool, true, false, not, if◌then◌else◌, List, [], ◌∷◌, ◌++◌, Option, Some, None, is_some, refl, sym, ap, ◌∙◌}
use Rattle.std.proofs.lemmas.List.{map-append}
use Rattle.fwd_base.specs.declared.ids.InputId.{InputId}
use Rattle.fwd_base.specs.declared.ids.ConnId.{ConnId}
use Rattle.fwd_outside.specs.Program.{Return}
use Rattle.fwd_outside.specs.declared.happening.Happening.{Happening}
use Rattle.fwd_outside.specs.declared.happening.Happening.TheVariants as happening
use Rattle.fwd_handshake.specs.declared.ring.Ring.{Ring}
use Rattle.fwd_handshake.specs.declared.received.Received.{Received}
use Rattle.fwd_handshake.specs.declared.received.Received.TheVariants as received
use Rattle.fwd_handshake.specs.Judgement.{ping_received}
use Rattle.fwd_secure.specs.declared.handshakes.RandomBytes.{RandomBytes}
use Rattle.fwd_secure.specs.declared.handshakes.HeldConn.{HeldConn}
use Rattle.fwd_secure.specs.declared.handshakes.KeptBytes.{KeptBytes}
use Rattle.fwd_secure.specs.declared.handshakes.KeptBytes.TheVariants.{OfConn}
use Rattle.fwd_secure.specs.RandomBytes.{random_bytes}
use Rattle.fwd_secure.specs.Handshakes.{Handshakes, is_held, held_under, joined_at, is_joined_under, holding, released, entered, with_entry}
use Rattle.fwd_secure.specs.Inputs.{Brings, drops, holds_or_drops, joins_by, joins, after_message, keeping_piece, enters_or_drops, judges, hears_by, hears}
use Rattle.fwd_theorem_links.specs.DialedLinks.{KeepsApart}
use Rattle.fwd_theorem_links.specs.RenamedLinks.{renamed_event}
use Rattle.fwd_theorem_recorded.proofs.LoopSimulation.{LoopSimulates}
use Rattle.fwd_theorem_recorded.proofs.RenamedStates.{LinkStates, AreRenamed, with_others, kept_append, renamed_keeping}
use Rattle.fwd_theorem_recorded.specs.RenamedHandshakes.{renamed_kept}

module _ (rename : ℕ → ℕ) (IsDialed : ℕ → Type 0) (apart : KeepsApart rename IsDialed) where
  -- an answer and the state after it, and the same by the other numbers
  pub record AreAlike {X Y : Type 0} (Same : X → Y → Type 0) (one : X × Handshakes) (other : Y × Handshakes) : Type 0 where
    pub answer : Same one.0 other.0
    pub others : LinkStates
    pub state : other.1 ≡ with_others rename IsDialed apart one.1 others
    pub renamed : AreRenamed rename IsDialed apart one.1.links one.1.kept others

  abbrev pub IsRenamedEvent : Happening → Happening → Type 0
  IsRenamedEvent x y = y ≡ renamed_event rename x

  abbrev pub BringsAlike : Brings → Brings → Type 0
  BringsAlike p q = LoopSimulates rename IsDialed (AreAlike IsRenamedEvent) p q

  abbrev IsState : Handshakes → LinkStates → Type 0
  IsState k others = AreRenamed rename IsDialed apart k.links k.kept others

  abbrev Other : Handshakes → LinkStates → Handshakes
  Other k others = with_others rename IsDialed apart k others

  pub brings_alike : (x : Happening) (k other : Handshakes) (others : LinkStates) → other ≡ Other k others → IsState k others → BringsAlike (Return (x, k)) (Return (renamed_event rename x, other))
  brings_alike x k other others state is = ((renamed_event rename x, other), refl, record { answer = refl; others = others; state = state; renamed = is })

  module _ (input : InputId) (conn : ConnId) where
    abbrev gone : Happening
    gone = happening.Gone input conn

    drops_alike : (k : Handshakes) (others : LinkStates) → IsState k others → BringsAlike (drops k input conn) (drops (Other k others) input conn)
    drops_alike k others is = (_, refl, λ answer dialed. brings_alike gone k (Other k others) others refl is)

    pub entered_same : (k : Handshakes) (others : LinkStates) → entered (Other k others) input.0 conn.0 ≡ Other (entered k input.0 conn.0) others
    entered_same k others = by (is_some (joined_at k conn.0))
      where
        by : (b : Bool) → (if b then Other k others else record (Other k others) { joined = with_entry conn.0 input.0 k.joined }) ≡ Other (if b then k else record k { joined = with_entry conn.0 input.0 k.joined }) others
        by true = refl
        by false = refl

    pub entered_is : (k : Handshakes) (others : LinkStates) → IsState k others → IsState (entered k input.0 conn.0) others
    entered_is k others is = by (is_some (joined_at k conn.0))
      where
        by : (b : Bool) → IsState (if b then k else record k { joined = with_entry conn.0 input.0 k.joined }) others
        by true = is
        by false = is

    piece_same : (k : Handshakes) (others : LinkStates) (rest : List ℕ) → keeping_piece (Other k others) input conn rest ≡ Other (keeping_piece k input conn rest) others
    piece_same k others [] = refl
    piece_same k others (byte ∷ bytes) =
        ap (λ (kept : List KeptBytes). record (Other k others) { kept = kept }) (sym (map-append (renamed_kept rename) k.kept (OfConn input conn (byte ∷ bytes) ∷ [])))

    piece_is : (k : Handshakes) (others : LinkStates) (rest : List ℕ) → IsState k others → IsState (keeping_piece k input conn rest) others
    piece_is k others [] is = is
    piece_is k others (byte ∷ bytes) is =
        renamed_keeping rename IsDialed apart k.links k.kept others is (k.kept ++ OfConn input conn (byte ∷ bytes) ∷ [])
        (kept_append rename IsDialed apart k.kept (OfConn input conn (byte ∷ bytes) ∷ []) is.kept_dialed (tt, tt))

    holds_alike : (k : Handshakes) (others : LinkStates) (nonce : RandomBytes) (answer : Option (Unit {0})) → IsState k others
        → BringsAlike (holds_or_drops k input conn nonce answer) (holds_or_drops (Other k others) input conn nonce answer)
    holds_alike k others nonce (Some done) is =
        let held : HeldConn = record { input = input; nonce = nonce; received = [] } in
        brings_alike gone (holding k conn.0 held) (Other (holding k conn.0 held) others) others refl is
    holds_alike k others nonce None is = drops_alike k others is

    pub joins_alike : (k : Handshakes) (others : LinkStates) → IsState k others → BringsAlike (joins k input conn) (joins (Other k others) input conn)
    joins_alike k others is = by (is_held k conn.0) (joined_at k conn.0)
      where
        there : (b : Bool) → BringsAlike (Return (if b then happening.Joined input conn else gone, k)) (Return (if b then happening.Joined input conn else gone, Other k others))
        there true = brings_alike (happening.Joined input conn) k (Other k others) others refl is
        there false = brings_alike gone k (Other k others) others refl is

        by : (b : Bool) (o : Option ℕ) → BringsAlike (if b then Return (gone, k) else joins_by k input conn o) (if b then Return (gone, Other k others) else joins_by (Other k others) input conn o)
        by true o = brings_alike gone k (Other k others) others refl is
        by false (Some other) = there (other == input.0)
        by false None = (_, refl, λ a given. (_, refl, λ b given2. (_, refl, λ answer given3. holds_alike k others (record { first = a; second = b }) answer is)))

    enters_alike : (k : Handshakes) (others : LinkStates) (rest : List ℕ) (answer : Option (Unit {0})) → IsState k others
        → BringsAlike (enters_or_drops k input conn rest answer) (enters_or_drops (Other k others) input conn rest answer)
    enters_alike k others rest (Some done) is =
        let now = entered k input.0 conn.0 in
        brings_alike (happening.Joined input conn) (keeping_piece now input conn rest) (keeping_piece (entered (Other k others) input.0 conn.0) input conn rest) others
        (ap (λ (u : Handshakes). keeping_piece u input conn rest) (entered_same k others) ∙ piece_same now others rest) (piece_is now others rest (entered_is k others is))
    enters_alike k others rest None is = drops_alike k others is

    judges_alike : (ring : Ring) (k : Handshakes) (others : LinkStates) (held : HeldConn) (piece : List ℕ) (r : Received) → IsState k others
        → BringsAlike (judges ring k input conn held piece r) (judges ring (Other k others) input conn held piece r)
    judges_alike ring k others held piece received.More is =
        let more : HeldConn = record held { received = held.received ++ piece } in
        brings_alike gone (holding k conn.0 more) (Other (holding k conn.0 more) others) others refl is
    judges_alike ring k others held piece (received.Right len salt) is =
        (_, refl, λ answer given. enters_alike k others (after_message len held.received piece) answer is)
    judges_alike ring k others held piece received.Wrong is = drops_alike k others is

    pub hears_alike : (ring : Ring) (k : Handshakes) (others : LinkStates) (piece : List ℕ) → IsState k others → BringsAlike (hears ring k input conn piece) (hears ring (Other k others) input conn piece)
    hears_alike ring k others piece is = by (held_under k input.0 conn.0)
      where
        passed : (b : Bool) → BringsAlike (Return (if b then happening.Piece input conn piece else gone, k)) (Return (if b then happening.Piece input conn piece else gone, Other k others))
        passed true = brings_alike (happening.Piece input conn piece) k (Other k others) others refl is
        passed false = brings_alike gone k (Other k others) others refl is

        by : (o : Option HeldConn) → BringsAlike (hears_by ring k input conn piece o) (hears_by ring (Other k others) input conn piece o)
        by (Some held) =
            judges_alike ring (released k conn.0) others held piece (ping_received ring (random_bytes held.nonce) (held.received ++ piece)) is
        by None = passed (not (is_held k conn.0) && is_joined_under k input.0 conn.0)
