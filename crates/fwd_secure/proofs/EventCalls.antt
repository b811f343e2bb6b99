-- The calls of the rules of a start, of an event and of a dial, and of each call with keys or without.
use Rattle.std.proofs.Common.{◌≡◌, ℕ, Bool, true, false, if◌then◌else◌, List, [], Option, Some, None, is_some, option_map, Result, Ok, Err, OnOk, refl, sym, ◌∙◌, ap, subst}
use Rattle.fwd_base.specs.declared.ids.InputId.{InputId}
use Rattle.fwd_base.specs.declared.ids.ConnId.{ConnId}
use Rattle.fwd_base.specs.declared.ids.LinkId.{LinkId}
use Rattle.fwd_outside.specs.Program.{Return}
use Rattle.fwd_outside.specs.Log.{LogGrew, Completes, RunsProgram, log_of_call}
use Rattle.fwd_outside.specs.Loop.{LoopCall, LoopAnswer, LoopLog, LoopProgram, Start, Dial, MayOccur, loop_outcome}
use Rattle.fwd_outside.specs.declared.ends.Ends.{Ends}
use Rattle.fwd_outside.specs.declared.happening.Happening.{Happening}
use Rattle.fwd_outside.specs.declared.happening.Happening.TheVariants as happening
use Rattle.fwd_handshake.specs.declared.ring.Ring.{Ring}
use Rattle.fwd_secure.specs.declared.keys.Keys.{Keys}
use Rattle.fwd_secure.specs.declared.handshakes.RandomBytes.{RandomBytes}
use Rattle.fwd_secure.specs.declared.handshakes.LinkHandshake.{LinkHandshake}
use Rattle.fwd_secure.specs.Keys.{ring_at}
use Rattle.fwd_secure.specs.Handshakes.{Handshakes, listening, listens_at, entered, left, link_at, greeting, ungreeted}
use Rattle.fwd_secure.specs.Outcome.{with_state}
use Rattle.fwd_secure.specs.Readable.{IsReadable}
use Rattle.fwd_secure.specs.Inputs.{draws, joins, hears}
use Rattle.fwd_secure.specs.Outputs.{greets}
use Rattle.fwd_secure.specs.Rules.{brings_joined, brings_piece, brings_back, brings, begun, begins, dialed, answers_by}
use Rattle.fwd_secure.proofs.RuleSteps.{passed_on, returned, stopped, at_state, by_program, is_returned, goes_on, goes_behind, stopped_after, stopped_inside}

-- ---- start

-- after a start it is known to which inputs peers connect
abbrev pub after_start : Bool → Handshakes → Ends → Handshakes
after_start true k ends = listening k ends
after_start false k ends = k

pub start_passes : (keyed : Bool) (keys : Keys) (k u : Handshakes) (a b : LoopLog) (ends : Ends) (o : Option (Option (Unit {0}))) → u ≡ after_start keyed k ends
    → LogGrew a b (log_of_call (Start ends) o) → RunsProgram a b (answers_by keyed keys k (Start ends)) (with_state o u)
start_passes true keys k u a b ends o is grew =
    subst (λ (x : Handshakes). RunsProgram a b (answers_by true keys k (Start ends)) (with_state o x)) (sym is) (passed_on a b (Start ends) (listening k ends) o grew)
start_passes false keys k u a b ends o is grew =
    subst (λ (x : Handshakes). RunsProgram a b (answers_by false keys k (Start ends)) (with_state o x)) (sym is) (passed_on a b (Start ends) k o grew)

-- ---- a peer connects, and bytes of a connection

module _ (k : Handshakes) (input : InputId) (conn : ConnId) where
  abbrev learned : Bool → Handshakes
  learned listens = if listens then entered k input.0 conn.0 else k

  pub joined_keyed : (a b : LoopLog) (o : Option Ring) (r : Option (Happening × Handshakes)) → is_some o ≡ true → RunsProgram a b (joins k input conn) r → RunsProgram a b (brings_joined o k input conn) r
  joined_keyed a b (Some ring) r is runs = runs
  joined_keyed a b None r is runs = absurd (cc is)

  pub joined_unkeyed : (a : LoopLog) (o : Option Ring) (u : Handshakes) (listens : Bool) → is_some o ≡ false → listens_at k input.0 ≡ listens → u ≡ learned listens
      → RunsProgram a a (brings_joined o k input conn) (Some (happening.Joined input conn, u))
  joined_unkeyed a (Some ring) u listens is hears same = absurd (cc is)
  joined_unkeyed a None u listens is hears same =
      at_state a a (brings_joined None k input conn) (happening.Joined input conn) (happening.Joined input conn) (learned (listens_at k input.0)) u refl (same ∙ ap learned (sym hears))
      (returned a (happening.Joined input conn, learned (listens_at k input.0)))

  pub piece_keyed : (a b : LoopLog) (o : Option Ring) (ring : Ring) (piece : List ℕ) (r : Option (Happening × Handshakes)) → Some ring ≡ o → RunsProgram a b (hears ring k input conn piece) r
      → RunsProgram a b (brings_piece o k input conn piece) r
  piece_keyed a b o ring piece r is runs = by_program a b (hears ring k input conn piece) (brings_piece o k input conn piece) r (ap (λ (x : Option Ring). brings_piece x k input conn piece) (sym is)) runs

  pub piece_unkeyed : (a : LoopLog) (o : Option Ring) (piece : List ℕ) → None ≡ o → RunsProgram a a (brings_piece o k input conn piece) (Some (happening.Piece input conn piece, k))
  piece_unkeyed a o piece is = is_returned a (brings_piece o k input conn piece) (happening.Piece input conn piece, k) (ap (λ (x : Option Ring). brings_piece x k input conn piece) (sym is))

-- ---- an event of the loop below

module _ (keys : Keys) (k : Handshakes) where
  -- the same event
  pub event_as : (a b : LoopLog) (x y : Happening) (r : Option (Happening × Handshakes)) → x ≡ y → RunsProgram a b (brings keys k y) r → RunsProgram a b (brings keys k x) r
  event_as a b x y r is runs = by_program a b (brings keys k y) (brings keys k x) r (ap (brings keys k) is) runs

  pub gone_brings : (a : LoopLog) (x : Happening) (input : InputId) (conn : ConnId) (u : Handshakes) → x ≡ happening.Gone input conn → u ≡ left k input.0 conn.0 → RunsProgram a a (brings keys k x) (Some (happening.Gone input conn, u))
  gone_brings a x input conn u is same =
      event_as a a x (happening.Gone input conn) (Some (happening.Gone input conn, u)) is
      (at_state a a (brings keys k (happening.Gone input conn)) (happening.Gone input conn) (happening.Gone input conn) (left k input.0 conn.0) u refl same (returned a (happening.Gone input conn, left k input.0 conn.0)))

  -- any other event is passed on
  pub others_pass : (a : LoopLog) (x : Happening) → ((input : InputId) (conn : ConnId) → x ≡ happening.Joined input conn → ⊥) → ((input : InputId) (conn : ConnId) (bytes : List ℕ) → x ≡ happening.Piece input conn bytes → ⊥)
      → ((input : InputId) (conn : ConnId) → x ≡ happening.Gone input conn → ⊥) → ((link : LinkId) → x ≡ happening.Room link → ⊥) → ((link : LinkId) (bytes : List ℕ) → x ≡ happening.Back link bytes → ⊥)
      → RunsProgram a a (brings keys k x) (Some (x, k))
  others_pass a (happening.Joined input conn) not_joined not_piece not_gone not_room not_back = absurd (not_joined input conn refl)
  others_pass a (happening.Piece input conn bytes) not_joined not_piece not_gone not_room not_back = absurd (not_piece input conn bytes refl)
  others_pass a (happening.Gone input conn) not_joined not_piece not_gone not_room not_back = absurd (not_gone input conn refl)
  others_pass a (happening.Room link) not_joined not_piece not_gone not_room not_back = absurd (not_room link refl)
  others_pass a (happening.Back link bytes) not_joined not_piece not_gone not_room not_back = absurd (not_back link bytes refl)
  others_pass a (happening.Tick now) not_joined not_piece not_gone not_room not_back = returned a (happening.Tick now, k)
  others_pass a (happening.Broken link) not_joined not_piece not_gone not_room not_back = returned a (happening.Broken link, k)
  others_pass a (happening.InputEnd input) not_joined not_piece not_gone not_room not_back = returned a (happening.InputEnd input, k)
  others_pass a happening.Stop not_joined not_piece not_gone not_room not_back = returned a (happening.Stop, k)
  others_pass a happening.End not_joined not_piece not_gone not_room not_back = returned a (happening.End, k)
  others_pass a happening.Failed not_joined not_piece not_gone not_room not_back = returned a (happening.Failed, k)

  module _ (link : LinkId) (bytes : List ℕ) (x : Happening) where
    -- the handshake of the link is under way
    pub back_greets : (a b : LoopLog) (handshake : LinkHandshake) (u : Handshakes) (came : List ℕ) (r : Option (Happening × Handshakes)) → Some handshake ≡ link_at k link.0 → u ≡ ungreeted k link.0 → came ≡ bytes
        → RunsProgram a b (greets (ring_at keys.outputs handshake.output.0) u link handshake came) r → RunsProgram a b (brings_back keys k link bytes x (link_at k link.0)) r
    back_greets a b handshake u came r is without same runs =
        by_program a b (brings_back keys k link bytes x (Some handshake)) (brings_back keys k link bytes x (link_at k link.0)) r (ap (brings_back keys k link bytes x) (sym is))
        (subst (λ (l : List ℕ). RunsProgram a b (greets (ring_at keys.outputs handshake.output.0) (ungreeted k link.0) link handshake l) r) same
        (subst (λ (h : Handshakes). RunsProgram a b (greets (ring_at keys.outputs handshake.output.0) h link handshake came) r) without runs))

    -- it is not
    pub back_passes : (a : LoopLog) (u : Handshakes) → None ≡ link_at k link.0 → u ≡ k → RunsProgram a a (brings_back keys k link bytes x (link_at k link.0)) (Some (x, u))
    back_passes a u is same =
        at_state a a (brings_back keys k link bytes x (link_at k link.0)) x x k u refl same
        (is_returned a (brings_back keys k link bytes x (link_at k link.0)) (x, k) (ap (brings_back keys k link bytes x) (sym is)))

-- what a loop brings can be read
pub readable : (endless : Bool) (paused : ℕ) (x : Happening) → MayOccur endless paused x → IsReadable x
readable endless paused (happening.Piece input conn bytes) may = may.2
readable endless paused x may = tt

-- ---- dial

module _ (keys : Keys) (k : Handshakes) (output : ℕ) (tag : List ℕ) (a b : LoopLog) where
  -- what follows the answer of the loop below
  pub dial_answered : (c : LoopLog) (answer : Option ℕ) (r : Option (Option ℕ × Handshakes)) → LogGrew a b (log_of_call (Dial output tag) (Some answer))
      → RunsProgram b c (dialed (ring_at keys.outputs output) k output answer) r → RunsProgram a c (answers_by true keys k (Dial output tag)) r
  dial_answered c answer r grew runs = goes_on a b c (Dial output tag) answer (dialed (ring_at keys.outputs output) k output) r grew runs

  pub dial_unanswered : LogGrew a b (log_of_call (Dial output tag) None) → RunsProgram a b (answers_by true keys k (Dial output tag)) None
  dial_unanswered grew = stopped a b (answers_by true keys k (Dial output tag)) grew

module _ (k : Handshakes) (output : ℕ) where
  -- without a link, the answer is passed on
  pub dialed_refused : (a : LoopLog) (o : Option Ring) → RunsProgram a a (dialed o k output None) (Some (None, k))
  dialed_refused a (Some ring) = returned a (None, k)
  dialed_refused a None = returned a (None, k)

  pub dialed_keyed : (a b : LoopLog) (o : Option Ring) (link : ℕ) (r : Option (Option ℕ × Handshakes)) → is_some o ≡ true → RunsProgram a b (begins k output link) r → RunsProgram a b (dialed o k output (Some link)) r
  dialed_keyed a b (Some ring) link r is runs = runs
  dialed_keyed a b None link r is runs = absurd (cc is)

  -- the handshake begins
  abbrev begins_with : ℕ → RandomBytes → LoopProgram (Option ℕ × Handshakes)
  begins_with link salt = Return (Some link, greeting k link (begun output salt))

  pub salt_undrawn : (a b : LoopLog) (link : ℕ) → RunsProgram a b draws None → RunsProgram a b (begins k output link) None
  salt_undrawn a b link runs = stopped_inside a b draws (begins_with link) runs

  pub begun_in_vain : (a b : LoopLog) (link : ℕ) (salt : RandomBytes) → Completes a b draws salt → RunsProgram a b (begins k output link) None
  begun_in_vain a b link salt drawn = stopped_after a b draws salt (begins_with link) drawn

  pub handshake_begun : {E : Type 0} (a b : LoopLog) (link : ℕ) (salt : RandomBytes) (nonce received : List ℕ) (r : Result (Unit {0}) E) (u : Handshakes) → Completes a b draws salt → nonce ≡ [] → received ≡ []
      → OnOk r (u ≡ greeting k link (record (begun output salt) { nonce = nonce; received = received }))
      → RunsProgram a b (begins k output link) (with_state (option_map (λ (_ : Unit {0}). Some link) (loop_outcome r)) u)
  handshake_begun a b link salt nonce received (Ok done) u drawn no_nonce nothing is =
      let stands : u ≡ greeting k link (begun output salt) = is ∙ ap (λ (l : List ℕ). greeting k link (record (begun output salt) { nonce = l; received = received })) no_nonce
      ∙ ap (λ (l : List ℕ). greeting k link (record (begun output salt) { nonce = []; received = l })) nothing in
      goes_behind a b b draws salt (begins_with link) (Some (Some link, u)) drawn
      (at_state b b (begins_with link salt) (Some link) (Some link) (greeting k link (begun output salt)) u refl stands (returned b (Some link, greeting k link (begun output salt))))
  handshake_begun a b link salt nonce received (Err e) u drawn no_nonce nothing is = begun_in_vain a b link salt drawn

-- ---- each call, with keys or without

module _ (keys : Keys) (k : Handshakes) (call : LoopCall) (a b : LoopLog) where
  pub call_keyed : (keyed : Bool) (r : Option (LoopAnswer call × Handshakes)) → keyed ≡ true → RunsProgram a b (answers_by true keys k call) r → RunsProgram a b (answers_by keyed keys k call) r
  call_keyed keyed r is runs = subst (λ (x : Bool). RunsProgram a b (answers_by x keys k call) r) (sym is) runs

  pub call_unkeyed : (keyed : Bool) (o : Option (LoopAnswer call)) → keyed ≡ false → LogGrew a b (log_of_call call o) → RunsProgram a b (answers_by keyed keys k call) (with_state o k)
  call_unkeyed keyed o is grew = subst (λ (x : Bool). RunsProgram a b (answers_by x keys k call) (with_state o k)) (sym is) (passed_on a b call k o grew)
