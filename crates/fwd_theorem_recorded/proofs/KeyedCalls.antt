-- The rules of a keyed loop, with other numbers of links.
use Rattle.std.proofs.Common.{◌≡◌, ℕ, Bool, true, false, if◌then◌else◌, List, [], not, Option, Some, None, is_some, option_map, refl, sym, ap, subst}
use Rattle.fwd_base.specs.declared.ids.InputId.{InputId}
use Rattle.fwd_base.specs.declared.ids.ConnId.{ConnId}
use Rattle.fwd_base.specs.declared.ids.LinkId.{LinkId}
use Rattle.fwd_outside.specs.Program.{Return}
use Rattle.fwd_outside.specs.Loop.{LoopCall, LoopAnswer, Start, Wait, Dial, Push, Close, Reply, DropConn, Word, Again}
use Rattle.fwd_outside.specs.declared.happening.Happening.{Happening}
use Rattle.fwd_outside.specs.declared.happening.Happening.TheVariants as happening
use Rattle.fwd_handshake.specs.declared.ring.Ring.{Ring}
use Rattle.fwd_secure.specs.declared.keys.Keys.{Keys}
use Rattle.fwd_secure.specs.declared.handshakes.LinkHandshake.{LinkHandshake}
use Rattle.fwd_secure.specs.declared.handshakes.KeptBytes.{KeptBytes}
use Rattle.fwd_secure.specs.declared.handshakes.KeptBytes.TheVariants.{OfConn, OfLink}
use Rattle.fwd_secure.specs.Keys.{ring_at, has_keys}
use Rattle.fwd_secure.specs.Kept.{is_of_conn, is_of_link, first_given, event_of}
use Rattle.fwd_secure.specs.Handshakes.{Handshakes, at, listening, listens_at, entered, left, dropped, link_at, greeting, ungreeted, closed, without_given, without_entry}
use Rattle.fwd_secure.specs.Inputs.{Brings}
use Rattle.fwd_secure.specs.Rules.{Answers, brings_joined, brings_piece, brings_back, brings, waits_by, begun, dialed, pushes_by, secures, answers_by, answers}
use Rattle.fwd_theorem_links.specs.DialedLinks.{KeepsApart}
use Rattle.fwd_theorem_links.specs.RenamedLinks.{renamed_link, renamed_event, renamed_loop_call, renamed_loop_answer}
use Rattle.fwd_theorem_recorded.specs.RenamedHandshakes.{renamed_kept}
use Rattle.fwd_theorem_recorded.proofs.LoopSimulation.{LinkIsDialed, LoopSimulates}
use Rattle.fwd_theorem_recorded.proofs.RenamedStates.{LinkStates, AreRenamed, with_others, renamed_keeping, renamed_with, renamed_without, kept_filter, kept_without, first_same, without_given_same, without_conn_same, without_link_same}
use Rattle.fwd_theorem_recorded.proofs.InputRules.{AreAlike, BringsAlike, brings_alike, entered_same, entered_is, joins_alike, hears_alike}
use Rattle.fwd_theorem_recorded.proofs.OutputRules.{greets_alike}

module _ (rename : ℕ → ℕ) (IsDialed : ℕ → Type 0) (apart : KeepsApart rename IsDialed) where
  abbrev IsState : Handshakes → LinkStates → Type 0
  IsState k others = AreRenamed rename IsDialed apart k.links k.kept others

  abbrev Other : Handshakes → LinkStates → Handshakes
  Other k others = with_others rename IsDialed apart k others

  abbrev FromEvent : Brings → Brings → Type 0
  FromEvent p q = BringsAlike rename IsDialed apart p q

  -- ---- what an event becomes

  module _ (keys : Keys) (k : Handshakes) (others : LinkStates) (is : IsState k others) where
    passed : (x : Happening) → FromEvent (Return (x, k)) (Return (renamed_event rename x, Other k others))
    passed x = brings_alike rename IsDialed apart x k (Other k others) others refl is

    joined_by : (input : InputId) (conn : ConnId) (ring : Option Ring) → FromEvent (brings_joined ring k input conn) (brings_joined ring (Other k others) input conn)
    joined_by input conn (Some ring) = joins_alike rename IsDialed apart input conn k others is
    joined_by input conn None = by (listens_at k input.0)
      where
        by : (b : Bool) → FromEvent (Return (happening.Joined input conn, if b then entered k input.0 conn.0 else k)) (Return (happening.Joined input conn, if b then entered (Other k others) input.0 conn.0 else Other k others))
        by true =
            brings_alike rename IsDialed apart (happening.Joined input conn) (entered k input.0 conn.0) (entered (Other k others) input.0 conn.0) others
            (entered_same rename IsDialed apart input conn k others) (entered_is rename IsDialed apart input conn k others is)
        by false = passed (happening.Joined input conn)

    piece_by : (input : InputId) (conn : ConnId) (piece : List ℕ) (ring : Option Ring) → FromEvent (brings_piece ring k input conn piece) (brings_piece ring (Other k others) input conn piece)
    piece_by input conn piece (Some ring) = hears_alike rename IsDialed apart input conn ring k others piece is
    piece_by input conn piece None = passed (happening.Piece input conn piece)

    back_by : (link : LinkId) (bytes : List ℕ) (x : Happening) (o : Option LinkHandshake) → at link.0 k.links ≡ o
        → FromEvent (brings_back keys k link bytes x o) (brings_back keys (Other k others) (renamed_link rename link) bytes (renamed_event rename x) o)
    back_by link bytes x (Some handshake) there =
        greets_alike rename IsDialed apart link (is.dialed link.0 handshake there) (ring_at keys.outputs handshake.output.0) (ungreeted k link.0) (without_entry (rename link.0) others) handshake bytes
        (renamed_without rename IsDialed apart k.links k.kept others is link.0)
    back_by link bytes x None there = passed x

    from_link : (link : LinkId) (bytes : List ℕ) (x : Happening)
        → FromEvent (brings_back keys k link bytes x (link_at k link.0)) (brings_back keys (Other k others) (renamed_link rename link) bytes (renamed_event rename x) (link_at (Other k others) (rename link.0)))
    from_link link bytes x =
        subst (λ (o : Option LinkHandshake). FromEvent (brings_back keys k link bytes x (link_at k link.0)) (brings_back keys (Other k others) (renamed_link rename link) bytes (renamed_event rename x) o)) (sym (is.same link.0))
        (back_by link bytes x (link_at k link.0) refl)

    event_alike : (x : Happening) → FromEvent (brings keys k x) (brings keys (Other k others) (renamed_event rename x))
    event_alike (happening.Tick now) = passed (happening.Tick now)
    event_alike (happening.Joined input conn) = joined_by input conn (ring_at keys.inputs input.0)
    event_alike (happening.Piece input conn piece) = piece_by input conn piece (ring_at keys.inputs input.0)
    event_alike (happening.Gone input conn) =
        brings_alike rename IsDialed apart (happening.Gone input conn) (left k input.0 conn.0) (left (Other k others) input.0 conn.0) others refl is
    event_alike (happening.Room link) = from_link link [] (happening.Room link)
    event_alike (happening.Back link bytes) = from_link link bytes (happening.Back link bytes)
    event_alike (happening.Broken link) = passed (happening.Broken link)
    event_alike (happening.InputEnd input) = passed (happening.InputEnd input)
    event_alike happening.Stop = passed happening.Stop
    event_alike happening.End = passed happening.End
    event_alike happening.Failed = passed happening.Failed

    -- ---- waits

    event_same : (b : KeptBytes) → event_of (renamed_kept rename b) ≡ renamed_event rename (event_of b)
    event_same (OfConn input conn bytes) = refl
    event_same (OfLink link bytes) = refl

    waits_alike : (until paused : ℕ) (o : Option KeptBytes) → FromEvent (waits_by keys k until paused o) (waits_by keys (Other k others) until paused (option_map (renamed_kept rename) o))
    waits_alike until paused (Some b) =
        subst (λ (x : Happening). FromEvent (Return (event_of b, without_given k paused)) (Return (x, without_given (Other k others) paused))) (sym (event_same b))
        (brings_alike rename IsDialed apart (event_of b) (without_given k paused) (without_given (Other k others) paused) others
        (ap (λ (kept : List KeptBytes). record (Other k others) { kept = kept }) (without_given_same rename IsDialed apart paused k.kept))
        (renamed_keeping rename IsDialed apart k.links k.kept others is (without_given k paused).kept (kept_without rename IsDialed apart paused k.kept is.kept_dialed)))
    waits_alike until paused None = (_, refl, λ x given. event_alike x)

  -- ---- each call

  abbrev pub AnswersAlike : (call : LoopCall) → Answers call → Answers (renamed_loop_call rename call) → Type 0
  AnswersAlike call p q = LoopSimulates rename IsDialed (AreAlike rename IsDialed apart (λ (x : LoopAnswer call) (y : LoopAnswer (renamed_loop_call rename call)). y ≡ renamed_loop_answer rename call x)) p q

  answer_alike : (call : LoopCall) (x : LoopAnswer call) (k other : Handshakes) (others : LinkStates) → other ≡ Other k others → IsState k others → AnswersAlike call (Return (x, k)) (Return (renamed_loop_answer rename call x, other))
  answer_alike call x k other others state is = ((renamed_loop_answer rename call x, other), refl, record { answer = refl; others = others; state = state; renamed = is })

  module _ (keys : Keys) (k : Handshakes) (others : LinkStates) (is : IsState k others) where
    dialed_alike : (output : ℕ) (tag : List ℕ) (ring : Option Ring) (answer : Option ℕ) → LinkIsDialed rename IsDialed (Dial output tag) answer
        → AnswersAlike (Dial output tag) (dialed ring k output answer) (dialed ring (Other k others) output (option_map rename answer))
    dialed_alike output tag (Some ring) (Some link) given = (
      _,
      refl,
      λ a given2. (
        _,
        refl,
        λ b given3.
            let handshake = begun output (record { first = a; second = b }) in
            answer_alike (Dial output tag) (Some link) (greeting k link handshake) (greeting (Other k others) (rename link) handshake) _ refl (renamed_with rename IsDialed apart k.links k.kept others is link handshake given),
      ),
    )
    dialed_alike output tag (Some ring) None given = answer_alike (Dial output tag) None k (Other k others) others refl is
    dialed_alike output tag None answer given = answer_alike (Dial output tag) answer k (Other k others) others refl is

    pushes_alike : (link : ℕ) (bytes : List ℕ) (b : Bool) → AnswersAlike (Push link bytes) (pushes_by k link bytes b) (pushes_by (Other k others) (rename link) bytes b)
    pushes_alike link bytes true = answer_alike (Push link bytes) Again k (Other k others) others refl is
    pushes_alike link bytes false = (_, refl, λ answer given. answer_alike (Push link bytes) answer k (Other k others) others refl is)

    secures_alike : (call : LoopCall) → AnswersAlike call (secures keys k call) (secures keys (Other k others) (renamed_loop_call rename call))
    secures_alike (Start ends) = (_, refl, λ answer given. answer_alike (Start ends) answer (listening k ends) (listening (Other k others) ends) others refl is)
    secures_alike (Wait until paused) =
        subst (λ (o : Option KeptBytes). AnswersAlike (Wait until paused) (secures keys k (Wait until paused)) (waits_by keys (Other k others) until paused o)) (sym (first_same rename IsDialed apart paused k.kept))
        (waits_alike keys k others is until paused (first_given paused k.kept))
    secures_alike (Dial output tag) = (_, refl, λ answer given. dialed_alike output tag (ring_at keys.outputs output) answer given)
    secures_alike (Push link bytes) =
        subst (λ (o : Option LinkHandshake). AnswersAlike (Push link bytes) (secures keys k (Push link bytes)) (pushes_by (Other k others) (rename link) bytes (is_some o))) (sym (is.same link))
        (pushes_alike link bytes (is_some (link_at k link)))
    secures_alike (Close link) =
        let kept : List KeptBytes = (closed k link).kept in
        let without = renamed_without rename IsDialed apart k.links k.kept others is link in (
          _,
          refl,
          λ answer given.
              answer_alike (Close link) answer (closed k link) (closed (Other k others) (rename link)) (without_entry (rename link) others)
              (ap (λ (left : List KeptBytes). record (Other k others) { links = without_entry (rename link) others; kept = left }) (without_link_same rename IsDialed apart link k.kept is.kept_dialed))
              (renamed_keeping rename IsDialed apart (without_entry link k.links) k.kept (without_entry (rename link) others) without kept (kept_filter rename IsDialed apart (λ bytes. not (is_of_link link bytes)) k.kept is.kept_dialed)),
        )
    secures_alike (Reply conn bytes) = (_, refl, λ answer given. answer_alike (Reply conn bytes) answer k (Other k others) others refl is)
    secures_alike (DropConn conn) = (
      _,
      refl,
      λ answer given.
          answer_alike (DropConn conn) answer (dropped k conn) (dropped (Other k others) conn) others
          (ap (λ (left : List KeptBytes). record (Other (dropped k conn) others) { kept = left }) (without_conn_same rename IsDialed apart conn k.kept is.kept_dialed))
          (renamed_keeping rename IsDialed apart k.links k.kept others is (dropped k conn).kept (kept_filter rename IsDialed apart (λ bytes. not (is_of_conn conn bytes)) k.kept is.kept_dialed)),
    )
    secures_alike Word = (_, refl, λ answer given. answer_alike Word answer k (Other k others) others refl is)

    pub answers_alike : (call : LoopCall) → AnswersAlike call (answers keys k call) (answers keys (Other k others) (renamed_loop_call rename call))
    answers_alike call = by (has_keys keys)
      where
        by : (b : Bool) → AnswersAlike call (answers_by b keys k call) (answers_by b keys (Other k others) (renamed_loop_call rename call))
        by true = secures_alike call
        by false = (_, refl, λ answer given. answer_alike call answer k (Other k others) others refl is)
