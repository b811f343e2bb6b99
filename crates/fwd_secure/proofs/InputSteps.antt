-- The calls of the rules of keyed inputs.
use Rattle.std.proofs.Common.{◌≡◌, ℕ, ◌++◌, Bool, true, false, cond, List, [], Option, Some, None, refl, sym, ◌∙◌, ap, subst}
use Rattle.std.specs.Prelude.{◌==◌}
use Rattle.std.proofs.lemmas.Bool.{eqb-true}
use Rattle.fwd_base.specs.declared.ids.InputId.{InputId}
use Rattle.fwd_base.specs.declared.ids.ConnId.{ConnId}
use Rattle.fwd_outside.specs.Program.{Return, Ask}
use Rattle.fwd_outside.specs.Log.{LogGrew, Completes, RunsProgram, log_of_call}
use Rattle.fwd_outside.specs.Loop.{LoopLog, LoopProgram, Reply, DropConn, Word}
use Rattle.fwd_outside.specs.declared.happening.Happening.{Happening}
use Rattle.fwd_outside.specs.declared.happening.Happening.TheVariants.{Gone}
use Rattle.fwd_outside.proofs.Executions.{call_logged}
use Rattle.fwd_handshake.specs.declared.ring.Ring.{Ring}
use Rattle.fwd_handshake.specs.declared.received.Received.{Received}
use Rattle.fwd_handshake.specs.declared.received.Received.TheVariants.{Right}
use Rattle.fwd_handshake.specs.Messages.{helo, pong}
use Rattle.fwd_handshake.specs.Judgement.{ping_received}
use Rattle.fwd_secure.specs.declared.handshakes.RandomBytes.{RandomBytes}
use Rattle.fwd_secure.specs.declared.handshakes.HeldConn.{HeldConn}
use Rattle.fwd_secure.specs.RandomBytes.{random_bytes}
use Rattle.fwd_secure.specs.Handshakes.{Handshakes, is_held, held_at, if_under, held_under, released, holding}
use Rattle.fwd_secure.specs.Inputs.{Brings, draws, drops, holds_or_drops, challenges, after_message, enters_or_drops, judges, hears_by, hears}
use Rattle.fwd_secure.proofs.RuleSteps.{at_state, by_program, returned, unasked, goes_on, goes_behind, stopped, stopped_after, stopped_inside}

-- ---- words

abbrev pub second_word : ℕ → LoopProgram RandomBytes
second_word first = Ask Word (λ second. Return (record { first = first; second = second }))

module _ (a b c : LoopLog) (first : ℕ) (one : LogGrew a b (log_of_call Word (Some first))) where
  -- no second word came
  pub one_drawn : LogGrew b c (log_of_call Word None) → RunsProgram a c draws None
  one_drawn none = goes_on a b c Word first second_word None one (stopped b c (second_word first) none)

  pub both_drawn : (second : ℕ) → LogGrew b c (log_of_call Word (Some second)) → RunsProgram a c draws (Some (record { first = first; second = second }))
  both_drawn second two =
      goes_on a b c Word first second_word (Some (record { first = first; second = second })) one (call_logged Word second (λ second. Return (record { first = first; second = second })) two)

-- ---- a peer connects

pub conn_dropped : (a b : LoopLog) (k : Handshakes) (input : InputId) (conn : ConnId) → LogGrew a b (log_of_call (DropConn conn.0) (Some tt)) → RunsProgram a b (drops k input conn) (Some (Gone input conn, k))
conn_dropped a b k input conn grew = call_logged (DropConn conn.0) tt (λ _. Return (Gone input conn, k)) grew

abbrev pub sends_helo : Handshakes → InputId → ConnId → RandomBytes → Brings
sends_helo k input conn nonce = Ask (Reply conn.0 (helo (random_bytes nonce))) (holds_or_drops k input conn nonce)

-- no words came
pub no_words : (a b : LoopLog) (k : Handshakes) (input : InputId) (conn : ConnId) → RunsProgram a b draws None → RunsProgram a b (challenges k input conn) None
no_words a b k input conn runs = stopped_inside a b draws (sends_helo k input conn) runs

module _ (a b : LoopLog) (k : Handshakes) (input : InputId) (conn : ConnId) (nonce : RandomBytes) (drawn : Completes a b draws nonce) where
  -- there was no memory for the HELO
  pub no_helo : RunsProgram a b (challenges k input conn) None
  no_helo = stopped_after a b draws nonce (sends_helo k input conn) drawn

  module _ (c : LoopLog) (message : List ℕ) (is : message ≡ helo (random_bytes nonce)) where
    sent : (answer : Option (Option (Unit {0}))) → LogGrew b c (log_of_call (Reply conn.0 message) answer) → LogGrew b c (log_of_call (Reply conn.0 (helo (random_bytes nonce))) answer)
    sent answer grew = subst (λ (m : List ℕ). LogGrew b c (log_of_call (Reply conn.0 m) answer)) is grew

    pub helo_unanswered : LogGrew b c (log_of_call (Reply conn.0 message) None) → RunsProgram a c (challenges k input conn) None
    helo_unanswered grew = goes_behind a b c draws nonce (sends_helo k input conn) None drawn (stopped b c (sends_helo k input conn nonce) (sent None grew))

    pub helo_answered : (d : LoopLog) (answer : Option (Unit {0})) (r : Option (Happening × Handshakes)) → LogGrew b c (log_of_call (Reply conn.0 message) (Some answer))
        → RunsProgram c d (holds_or_drops k input conn nonce answer) r → RunsProgram a d (challenges k input conn) r
    helo_answered d answer r grew runs =
        goes_behind a b d draws nonce (sends_helo k input conn) r drawn (goes_on b c d (Reply conn.0 (helo (random_bytes nonce))) answer (holds_or_drops k input conn nonce) r (sent (Some answer) grew) runs)

    -- the connection took the HELO: it is held, or there was no memory for that
    pub helo_taken : (u : Handshakes) → u ≡ holding k conn.0 (record { input = input; nonce = nonce; received = [] }) → LogGrew b c (log_of_call (Reply conn.0 message) (Some (Some tt)))
        → RunsProgram a c (challenges k input conn) (Some (Gone input conn, u))
    helo_taken u is_held grew =
        let held : Handshakes = holding k conn.0 (record { input = input; nonce = nonce; received = [] }) in
        helo_answered c (Some tt) (Some (Gone input conn, u)) grew (at_state c c (holds_or_drops k input conn nonce (Some tt)) (Gone input conn) (Gone input conn) held u refl is_held (returned c (Gone input conn, held)))

    pub helo_in_vain : LogGrew b c (log_of_call (Reply conn.0 message) (Some (Some tt))) → RunsProgram a c (challenges k input conn) None
    helo_in_vain grew = helo_answered c (Some tt) None grew (unasked c (holds_or_drops k input conn nonce (Some tt)))

-- ---- bytes come

same_conn : (x y : HeldConn) → Some x ≡ Some y → x ≡ y
same_conn x y is = cc is

-- a connection that is held under an input is of that input
under_is : (input : InputId) (o : Option HeldConn) (held : HeldConn) → if_under input.0 o ≡ Some held → held.input ≡ input
under_is input None held is = absurd (cc is)
under_is input (Some x) held is = by (x.input.0 == input.0) refl is
  where
    by : (b : Bool) → (x.input.0 == input.0) ≡ b → cond b (Some x) None ≡ Some held → held.input ≡ input
    by true same i =
        let number : x.input.0 ≡ input.0 = eqb-true x.input.0 input.0 same in
        let of_x : x.input ≡ input = ap (λ (n : ℕ). record { 0 = n }) number in
        subst (λ (h : HeldConn). h.input ≡ input) (same_conn x held i) of_x
    by false same i = absurd (cc i)

module _ (ring : Ring) (k : Handshakes) (input : InputId) (conn : ConnId) (piece : List ℕ) where
  pub judges_as : (held : HeldConn) (stream : List ℕ) (r : Received) → stream ≡ held.received ++ piece → r ≡ ping_received ring (random_bytes held.nonce) stream
      → judges ring k input conn held piece (ping_received ring (random_bytes held.nonce) (held.received ++ piece)) ≡ judges ring k input conn held piece r
  judges_as held stream r same is = ap (judges ring k input conn held piece) (ap (ping_received ring (random_bytes held.nonce)) (sym same) ∙ sym is)

  -- a right PING is answered with the PONG
  pub right_answers : (held : HeldConn) (len : ℕ) (salt message rest : List ℕ) → message ≡ pong ring salt (random_bytes held.nonce) → rest ≡ after_message len held.received piece
      → judges ring k input conn held piece (Right len salt) ≡ Ask (Reply conn.0 message) (enters_or_drops k input conn rest)
  right_answers held len salt message rest of_message of_rest =
      ap (λ (m : List ℕ). Ask (Reply conn.0 m) (enters_or_drops k input conn (after_message len held.received piece))) (sym of_message)
      ∙ ap (λ (l : List ℕ). Ask (Reply conn.0 message) (enters_or_drops k input conn l)) (sym of_rest)

  pub hears_as : (o : Option HeldConn) → o ≡ held_under k input.0 conn.0 → hears ring k input conn piece ≡ hears_by ring k input conn piece o
  hears_as o is = ap (hears_by ring k input conn piece) (sym is)

  -- the bytes of a held connection are judged with it
  pub hears_held : (a b : LoopLog) (held : HeldConn) (u : Handshakes) (bytes : List ℕ) (r : Option (Happening × Handshakes)) → Some held ≡ held_under k input.0 conn.0 → u ≡ released k conn.0 → bytes ≡ piece
      → RunsProgram a b (judges ring u held.input conn held bytes (ping_received ring (random_bytes held.nonce) (held.received ++ bytes))) r → RunsProgram a b (hears ring k input conn piece) r
  hears_held a b held u bytes r is without same runs =
      let at_released : RunsProgram a b (judges ring (released k conn.0) held.input conn held bytes (ping_received ring (random_bytes held.nonce) (held.received ++ bytes))) r =
      subst (λ (x : Handshakes). RunsProgram a b (judges ring x held.input conn held bytes (ping_received ring (random_bytes held.nonce) (held.received ++ bytes))) r) without runs in
      let at_input : RunsProgram a b (judges ring (released k conn.0) input conn held bytes (ping_received ring (random_bytes held.nonce) (held.received ++ bytes))) r =
      subst (λ (x : InputId). RunsProgram a b (judges ring (released k conn.0) x conn held bytes (ping_received ring (random_bytes held.nonce) (held.received ++ bytes))) r) (under_is input (held_at k conn.0) held (sym is)) at_released in
      by_program a b (hears_by ring k input conn piece (Some held)) (hears ring k input conn piece) r (hears_as (Some held) is)
      (subst (λ (x : List ℕ). RunsProgram a b (judges ring (released k conn.0) input conn held x (ping_received ring (random_bytes held.nonce) (held.received ++ x))) r) same at_input)
