-- What is read from a connection, or from a standard input, is what came over it.
use Rattle.std.proofs.Common.{◌≡◌, ℕ, ◌&&◌, Bool, true, false, cond, List, [], ◌∷◌, ◌++◌, Option, Some, None, refl, sym, ◌∙◌, ap, subst}
use Rattle.std.specs.Prelude.{All, ◌==◌}
use Rattle.std.specs.Option.{option_map_or}
use Rattle.std.proofs.lemmas.Bool.{and_parts, eq-eqb, eqb-true}
use Rattle.std.proofs.lemmas.List.{append-nil}
use Rattle.std.proofs.lemmas.List.Elements.{All-head, All-tail}
use Rattle.fwd_base.specs.declared.ids.ConnId.{ConnId}
use Rattle.fwd_base.specs.declared.ids.InputId.{InputId}
use Rattle.fwd_outside.specs.declared.happening.Happening.{Happening}
use Rattle.fwd_outside.specs.declared.happening.Happening.TheVariants as happening
use Rattle.fwd_settings.specs.declared.settings_types.AllSettings.{AllSettings}
use Rattle.fwd_settings.specs.declared.settings_types.InputSet.{InputSet}
use Rattle.fwd_settings.specs.declared.settings_types.InputKind.{InputKind}
use Rattle.fwd_settings.specs.declared.settings_types.InputKind.TheVariants as input_kind
use Rattle.fwd_model.specs.Fact.{Fact, History, Stream, LineStream, MessageStream, Standard, Happened, Disconnected}
use Rattle.fwd_model.specs.Settings.{input_at, hears_peers, accepts_connections_at}
use Rattle.fwd_model.specs.Streams.{is_input, joined_by, left_by, input_of, is_joined, stream_by, stream_at, stream_of, same_stream, is_stream, is_of_conn, said_more, emptied_if, said}
use Rattle.fwd_theorem_steps.specs.Streams.{brought_over, came_over, ends_connection, is_input_end, stream_to}

-- ---- streams of peers

-- a stream of this connection's peer
pub data IsOfPeer (conn : ℕ) (stream : Stream) : Type 0 where
  Lines : stream ≡ LineStream conn → IsOfPeer conn stream
  Messages : stream ≡ MessageStream conn → IsOfPeer conn stream

of_peer : (kind : InputKind) (conn : ℕ) (stream : Stream) → stream_to kind conn ≡ Some stream → IsOfPeer conn stream
of_peer (input_kind.Tcp host port) conn stream is = let same : stream ≡ LineStream conn = cc is in Lines same
of_peer (input_kind.Forward host port) conn stream is = let same : stream ≡ MessageStream conn = cc is in Messages same
of_peer (input_kind.Tail paths from_head) conn stream is = absurd (cc is)
of_peer input_kind.Stdin conn stream is = absurd (cc is)

no_joined : (input conn : ℕ) (stream : Stream) → IsOfPeer conn stream → (at : ℕ) (set : Option InputSet) → is_stream stream (stream_at input at false set) ≡ false
no_joined input conn stream of at None = refl
no_joined input conn stream of at (Some set) = by set.kind
  where
    stdin : (b : Bool) → IsOfPeer conn stream → is_stream stream (cond b (Some (Standard input)) None) ≡ false
    stdin true (Lines same) = ap (λ (x : Stream). is_stream x (Some (Standard input))) same
    stdin true (Messages same) = ap (λ (x : Stream). is_stream x (Some (Standard input))) same
    stdin false of = refl

    by : (kind : InputKind) → is_stream stream (stream_by input at false kind) ≡ false
    by (input_kind.Tcp host port) = refl
    by (input_kind.Forward host port) = refl
    by (input_kind.Tail paths from_head) = refl
    by input_kind.Stdin = stdin (at == 0) of

-- bytes of another connection aren't of this stream
other_conn : (input conn : ℕ) (stream : Stream) → IsOfPeer conn stream → (at : ℕ) → (at == conn) ≡ false → (joined : Bool) (set : Option InputSet) → is_stream stream (stream_at input at joined set) ≡ false
other_conn input conn stream of at apart joined None = refl
other_conn input conn stream of at apart false (Some set) = no_joined input conn stream of at (Some set)
other_conn input conn stream of at apart true (Some set) = by set.kind of
  where
    stdin : (b : Bool) → IsOfPeer conn stream → is_stream stream (cond b (Some (Standard input)) None) ≡ false
    stdin true (Lines same) = ap (λ (x : Stream). is_stream x (Some (Standard input))) same
    stdin true (Messages same) = ap (λ (x : Stream). is_stream x (Some (Standard input))) same
    stdin false of = refl

    by : (kind : InputKind) → IsOfPeer conn stream → is_stream stream (stream_by input at true kind) ≡ false
    by (input_kind.Tcp host port) (Lines same) = ap (λ (x : Stream). is_stream x (Some (LineStream at))) same ∙ apart
    by (input_kind.Tcp host port) (Messages same) = ap (λ (x : Stream). is_stream x (Some (LineStream at))) same
    by (input_kind.Forward host port) (Lines same) = ap (λ (x : Stream). is_stream x (Some (MessageStream at))) same
    by (input_kind.Forward host port) (Messages same) = ap (λ (x : Stream). is_stream x (Some (MessageStream at))) same ∙ apart
    by (input_kind.Tail paths from_head) of = refl
    by input_kind.Stdin of = stdin (at == 0) of

own_conn : (conn : ℕ) (stream : Stream) → IsOfPeer conn stream → is_of_conn conn stream ≡ true
own_conn conn stream (Lines same) = ap (is_of_conn conn) same ∙ eq-eqb conn conn refl
own_conn conn stream (Messages same) = ap (is_of_conn conn) same ∙ eq-eqb conn conn refl

module _ (s : AllSettings) (conn : ℕ) (stream : Stream) (of : IsOfPeer conn stream) where
  -- ---- of a connection that isn't joined nothing is kept

  joined_none : (b : Bool) (input : ℕ) (before : Option ℕ) → joined_by b input before ≡ None → before ≡ None
  joined_none true input None is = refl
  joined_none true input (Some other) is = is
  joined_none false input before is = is

  piece_none : (h : History) (input at : ℕ) (bytes : List ℕ) → input_of s h conn ≡ None → said s h stream ≡ [] → said_more (is_stream stream (stream_of s h input at)) bytes (said s h stream) ≡ []
  piece_none h input at bytes none empty = by (at == conn) refl
    where
      by : (b : Bool) → (at == conn) ≡ b → said_more (is_stream stream (stream_of s h input at)) bytes (said s h stream) ≡ []
      by false apart = ap (λ (b : Bool). said_more b bytes (said s h stream)) (other_conn input conn stream of at apart (is_joined s h input at) (input_at s input)) ∙ empty
      by true same =
          let is : input_of s h at ≡ None = ap (input_of s h) (eqb-true at conn same) ∙ none in
          let off : is_joined s h input at ≡ false = ap (is_input input) is in
          let none_of : is_stream stream (stream_of s h input at) ≡ false = ap (λ (b : Bool). is_stream stream (stream_at input at b (input_at s input))) off ∙ no_joined input conn stream of at (input_at s input) in
          ap (λ (b : Bool). said_more b bytes (said s h stream)) none_of ∙ empty

  emptied : (b : Bool) (before : List ℕ) → (b ≡ false → before ≡ []) → emptied_if b before ≡ []
  emptied true before is = refl
  emptied false before is = is refl

  emptied_both : (a b : Bool) (before : List ℕ) → a ≡ true → b ≡ true → emptied_if (a && b) before ≡ []
  emptied_both true true before one two = refl
  emptied_both true false before one two = absurd (cc two)
  emptied_both false b before one two = absurd (cc one)

  gone_none : (h : History) (input at : ℕ) → (input_of s h conn ≡ None → said s h stream ≡ []) → left_by (at == conn) input (input_of s h conn) ≡ None
      → emptied_if (is_joined s h input at && is_of_conn at stream) (said s h stream) ≡ []
  gone_none h input at before none = by (at == conn) refl none
    where
      leaves : (o : Option ℕ) → input_of s h conn ≡ o → (is_input input o ≡ true → is_joined s h input at ≡ true) → is_of_conn at stream ≡ true → left_by true input o ≡ None
          → emptied_if (is_joined s h input at && is_of_conn at stream) (said s h stream) ≡ []
      leaves None is on own none = emptied (is_joined s h input at && is_of_conn at stream) (said s h stream) (λ _. before is)
      leaves (Some other) is on own none = left (is_input input (Some other)) refl none
        where
          left : (b : Bool) → is_input input (Some other) ≡ b → cond b None (Some other) ≡ None → emptied_if (is_joined s h input at && is_of_conn at stream) (said s h stream) ≡ []
          left true joined none = emptied_both (is_joined s h input at) (is_of_conn at stream) (said s h stream) (on joined) own
          left false joined none = absurd (cc none)

      by : (b : Bool) → (at == conn) ≡ b → left_by b input (input_of s h conn) ≡ None → emptied_if (is_joined s h input at && is_of_conn at stream) (said s h stream) ≡ []
      by false apart none = emptied (is_joined s h input at && is_of_conn at stream) (said s h stream) (λ _. before none)
      by true same none =
          let is = eqb-true at conn same in
          leaves (input_of s h conn) refl (λ joined. ap (λ (c : ℕ). is_input input (input_of s h c)) is ∙ joined) (ap (λ (c : ℕ). is_of_conn c stream) is ∙ own_conn conn stream of) none

  dropped_none : (h : History) (at : ℕ) → (input_of s h conn ≡ None → said s h stream ≡ []) → cond (at == conn) None (input_of s h conn) ≡ None → emptied_if (is_of_conn at stream) (said s h stream) ≡ []
  dropped_none h at before none = by (at == conn) refl none
    where
      by : (b : Bool) → (at == conn) ≡ b → cond b None (input_of s h conn) ≡ None → emptied_if (is_of_conn at stream) (said s h stream) ≡ []
      by true same none = ap (λ (b : Bool). emptied_if b (said s h stream)) (ap (λ (c : ℕ). is_of_conn c stream) (eqb-true at conn same) ∙ own_conn conn stream of)
      by false apart none = emptied (is_of_conn at stream) (said s h stream) (λ _. before none)

  no_standard : (input : ℕ) → IsOfPeer conn stream → same_stream (Standard input) stream ≡ false
  no_standard input (Lines same) = ap (same_stream (Standard input)) same
  no_standard input (Messages same) = ap (same_stream (Standard input)) same

  pub nothing_kept : (h : History) → input_of s h conn ≡ None → said s h stream ≡ []
  nothing_kept [] none = refl
  nothing_kept (fact ∷ h) none = by fact none (nothing_kept h)
    where
      events : (brought : Happening) → input_of s (Happened brought ∷ h) conn ≡ None → (input_of s h conn ≡ None → said s h stream ≡ []) → said s (Happened brought ∷ h) stream ≡ []
      events (happening.Joined input other) none before = before (joined_none (other.0 == conn && accepts_connections_at s input.0) input.0 (input_of s h conn) none)
      events (happening.Piece input other bytes) none before = piece_none h input.0 other.0 bytes none (before none)
      events (happening.Gone input other) none before = gone_none h input.0 other.0 before none
      events (happening.InputEnd input) none before = ap (λ (b : Bool). emptied_if b (said s h stream)) (no_standard input.0 of) ∙ before none
      events brought none before = before none

      by : (f : Fact) → input_of s (f ∷ h) conn ≡ None → (input_of s h conn ≡ None → said s h stream ≡ []) → said s (f ∷ h) stream ≡ []
      by (Happened brought) none before = events brought none before
      by (Disconnected other) none before = dropped_none h other before none
      by f none before = before none

-- ---- a connection that lasts

no_and : (a : Bool) → (a && false) ≡ false
no_and true = refl
no_and false = refl

added : (b : Bool) (bytes before : List ℕ) → said_more b bytes before ≡ before ++ cond b bytes []
added true bytes before = refl
added false bytes before = sym (append-nil before)

flipped : (a b : ℕ) (c : Bool) → (a == b) ≡ c → (b == a) ≡ c
flipped a b true is = eq-eqb b a (sym (eqb-true a b is))
flipped a b false is = by (b == a) refl
  where
    by : (c : Bool) → (b == a) ≡ c → (b == a) ≡ false
    by true on = absurd (cc (sym is ∙ eq-eqb a b (sym (eqb-true b a on))))
    by false on = on

hears : (kind : InputKind) (conn : ℕ) (stream : Stream) → stream_to kind conn ≡ Some stream → hears_peers kind ≡ true
hears (input_kind.Tcp host port) conn stream is = refl
hears (input_kind.Forward host port) conn stream is = refl
hears (input_kind.Tail paths from_head) conn stream is = absurd (cc is)
hears input_kind.Stdin conn stream is = absurd (cc is)

read_as : (kind : InputKind) (input conn : ℕ) (stream : Stream) → stream_to kind conn ≡ Some stream → stream_by input conn true kind ≡ Some stream
read_as (input_kind.Tcp host port) input conn stream is = is
read_as (input_kind.Forward host port) input conn stream is = is
read_as (input_kind.Tail paths from_head) input conn stream is = absurd (cc is)
read_as input_kind.Stdin input conn stream is = absurd (cc is)

itself : (conn : ℕ) (stream : Stream) → IsOfPeer conn stream → is_stream stream (Some stream) ≡ true
itself conn stream (Lines same) = ap (λ (x : Stream). is_stream x (Some x)) same ∙ eq-eqb conn conn refl
itself conn stream (Messages same) = ap (λ (x : Stream). is_stream x (Some x)) same ∙ eq-eqb conn conn refl

other_peer : (conn : ℕ) (stream : Stream) → IsOfPeer conn stream → (at : ℕ) → (at == conn) ≡ false → is_of_conn at stream ≡ false
other_peer conn stream (Lines same) at apart = ap (is_of_conn at) same ∙ flipped at conn false apart
other_peer conn stream (Messages same) at apart = ap (is_of_conn at) same ∙ flipped at conn false apart

module _ (s : AllSettings) (input : InputId) (conn : ConnId) (set : InputSet) (stream : Stream) (at : input_at s input.0 ≡ Some set) (kind : stream_to set.kind conn.0 ≡ Some stream) where
  of : IsOfPeer conn.0 stream
  of = of_peer set.kind conn.0 stream kind

  pub record Lasts (h later : History) : Type 0 where
    pub joined : input_of s h conn.0 ≡ Some input.0
    pub came : said s h stream ≡ came_over input.0 conn.0 later

  abbrev Stays : Fact → Type 0
  Stays fact = ends_connection input.0 conn.0 fact ≡ false

  module _ (h later : History) (was : Lasts h later) where
    stays_joined : (b : Bool) (i : ℕ) → joined_by b i (input_of s h conn.0) ≡ Some input.0
    stays_joined true i = ap (joined_by true i) was.joined
    stays_joined false i = was.joined

    -- the same bytes as before
    same_came : (fact : Fact) → brought_over input.0 conn.0 fact ≡ [] → came_over input.0 conn.0 later ≡ came_over input.0 conn.0 (fact ∷ later)
    same_came fact none = sym (append-nil (came_over input.0 conn.0 later)) ∙ ap (λ (l : List ℕ). came_over input.0 conn.0 later ++ l) (sym none)

    is_of_it : (i c : ℕ) → is_stream stream (stream_of s h i c) ≡ (i == input.0 && c == conn.0)
    is_of_it i c = by (c == conn.0) refl
      where
        mine : (c ≡ conn.0) → (b : Bool) → (i == input.0) ≡ b → is_stream stream (stream_of s h i c) ≡ b
        mine same true is =
            let joined : is_joined s h i c ≡ true = ap (λ (k : ℕ). is_input i (input_of s h k)) same ∙ (ap (is_input i) was.joined ∙ flipped i input.0 true is) in
            let found : input_at s i ≡ Some set = ap (input_at s) (eqb-true i input.0 is) ∙ at in
            let stream_is : stream_of s h i c ≡ Some stream =
            ap (λ (b : Bool). stream_at i c b (input_at s i)) joined
            ∙ (ap (λ (o : Option InputSet). stream_at i c true o) found ∙ (ap (λ (k : ℕ). stream_by i k true set.kind) same ∙ read_as set.kind i conn.0 stream kind))
            in
            ap (is_stream stream) stream_is ∙ itself conn.0 stream of
        mine same false is =
            let off : is_joined s h i c ≡ false = ap (λ (k : ℕ). is_input i (input_of s h k)) same ∙ (ap (is_input i) was.joined ∙ flipped i input.0 false is) in
            ap (λ (b : Bool). is_stream stream (stream_at i c b (input_at s i))) off ∙ no_joined i conn.0 stream of c (input_at s i)

        by : (b : Bool) → (c == conn.0) ≡ b → is_stream stream (stream_of s h i c) ≡ (i == input.0 && c == conn.0)
        by true is = mine (eqb-true c conn.0 is) (i == input.0) refl ∙ (sym (and_on (i == input.0)) ∙ ap (λ (b : Bool). i == input.0 && b) (sym is))
          where
            and_on : (a : Bool) → (a && true) ≡ a
            and_on true = refl
            and_on false = refl
        by false apart = other_conn i conn.0 stream of c apart (is_joined s h i c) (input_at s i) ∙ (sym (no_and (i == input.0)) ∙ ap (λ (b : Bool). i == input.0 && b) (sym apart))

    piece_lasts : (i : InputId) (c : ConnId) (bytes : List ℕ) → Lasts (Happened (happening.Piece i c bytes) ∷ h) (Happened (happening.Piece i c bytes) ∷ later)
    piece_lasts i c bytes = record {
      joined = was.joined;
      came =
          ap (λ (b : Bool). said_more b bytes (said s h stream)) (is_of_it i.0 c.0)
          ∙ (added (i.0 == input.0 && c.0 == conn.0) bytes (said s h stream) ∙ ap (λ (l : List ℕ). l ++ cond (i.0 == input.0 && c.0 == conn.0) bytes []) was.came);
    }

    gone_lasts : (i : InputId) (c : ConnId) → Stays (Happened (happening.Gone i c)) → Lasts (Happened (happening.Gone i c) ∷ h) (Happened (happening.Gone i c) ∷ later)
    gone_lasts i c stays = by (c.0 == conn.0) refl stays
      where
        not_left : (b : Bool) → (i.0 == input.0) ≡ b → b ≡ false → left_by true i.0 (input_of s h conn.0) ≡ Some input.0
        not_left true is off = absurd (cc off)
        not_left false is off = ap (λ (o : Option ℕ). left_by true i.0 o) was.joined ∙ ap (λ (b : Bool). cond b None (Some input.0)) (flipped i.0 input.0 false is)

        not_joined : (c.0 ≡ conn.0) → (i.0 == input.0) ≡ false → is_joined s h i.0 c.0 ≡ false
        not_joined same is = ap (λ (k : ℕ). is_input i.0 (input_of s h k)) same ∙ (ap (is_input i.0) was.joined ∙ flipped i.0 input.0 false is)

        keeps : (is_joined s h i.0 c.0 && is_of_conn c.0 stream) ≡ false → emptied_if (is_joined s h i.0 c.0 && is_of_conn c.0 stream) (said s h stream) ≡ came_over input.0 conn.0 (Happened (happening.Gone i c) ∷ later)
        keeps off = ap (λ (b : Bool). emptied_if b (said s h stream)) off ∙ (was.came ∙ same_came (Happened (happening.Gone i c)) refl)

        by : (b : Bool) → (c.0 == conn.0) ≡ b → (b && (i.0 == input.0)) ≡ false → Lasts (Happened (happening.Gone i c) ∷ h) (Happened (happening.Gone i c) ∷ later)
        by true is off = record {
          joined = ap (λ (b : Bool). left_by b i.0 (input_of s h conn.0)) is ∙ not_left (i.0 == input.0) refl off;
          came = keeps (ap (λ (b : Bool). b && is_of_conn c.0 stream) (not_joined (eqb-true c.0 conn.0 is) off));
        }
        by false is off = record {
          joined = ap (λ (b : Bool). left_by b i.0 (input_of s h conn.0)) is ∙ was.joined;
          came = keeps (ap (λ (b : Bool). is_joined s h i.0 c.0 && b) (other_peer conn.0 stream of c.0 is) ∙ no_and (is_joined s h i.0 c.0));
        }

    dropped_lasts : (c : ℕ) → Stays (Disconnected c) → Lasts (Disconnected c ∷ h) (Disconnected c ∷ later)
    dropped_lasts c stays = record {
      joined = ap (λ (b : Bool). cond b None (input_of s h conn.0)) stays ∙ was.joined;
      came = ap (λ (b : Bool). emptied_if b (said s h stream)) (other_peer conn.0 stream of c stays) ∙ (was.came ∙ same_came (Disconnected c) refl);
    }

    event_lasts : (x : Happening) → Stays (Happened x) → Lasts (Happened x ∷ h) (Happened x ∷ later)
    event_lasts (happening.Joined i c) stays = record { joined = stays_joined (c.0 == conn.0 && accepts_connections_at s i.0) i.0; came = was.came ∙ same_came (Happened (happening.Joined i c)) refl }
    event_lasts (happening.Piece i c bytes) stays = piece_lasts i c bytes
    event_lasts (happening.Gone i c) stays = gone_lasts i c stays
    event_lasts (happening.InputEnd i) stays = record {
      joined = was.joined;
      came = ap (λ (b : Bool). emptied_if b (said s h stream)) (no_standard s conn.0 stream of i.0 of) ∙ (was.came ∙ same_came (Happened (happening.InputEnd i)) refl);
    }
    event_lasts x stays = record { joined = was.joined; came = was.came ∙ sym (append-nil (came_over input.0 conn.0 later)) }

    fact_lasts : (fact : Fact) → Stays fact → Lasts (fact ∷ h) (fact ∷ later)
    fact_lasts (Happened x) stays = event_lasts x stays
    fact_lasts (Disconnected c) stays = dropped_lasts c stays
    fact_lasts fact stays = record { joined = was.joined; came = was.came ∙ sym (append-nil (came_over input.0 conn.0 later)) }

  begins : (before : History) → input_of s before conn.0 ≡ None → Lasts (Happened (happening.Joined input conn) ∷ before) []
  begins before none =
      let accepts : accepts_connections_at s input.0 ≡ true = ap (λ (o : Option InputSet). option_map_or (λ (one : InputSet). hears_peers one.kind) o false) at ∙ hears set.kind conn.0 stream kind in
      let joins : (conn.0 == conn.0 && accepts_connections_at s input.0) ≡ true = ap (λ (b : Bool). b && accepts_connections_at s input.0) (eq-eqb conn.0 conn.0 refl) ∙ accepts in
      record { joined = ap (λ (b : Bool). joined_by b input.0 (input_of s before conn.0)) joins ∙ ap (joined_by true input.0) none; came = nothing_kept s conn.0 stream of before none }

  pub lasts_since : (later before : History) → input_of s before conn.0 ≡ None → All Stays later → Lasts (later ++ Happened (happening.Joined input conn) ∷ before) later
  lasts_since [] before none stays = begins before none
  lasts_since (fact ∷ later) before none stays =
      fact_lasts (later ++ Happened (happening.Joined input conn) ∷ before) later (lasts_since later before none (All-tail Stays fact later stays)) fact (All-head Stays fact later stays)

  pub came_since : (later before : History) → input_of s before conn.0 ≡ None → All Stays later → said s (later ++ Happened (happening.Joined input conn) ∷ before) stream ≡ came_over input.0 conn.0 later
  came_since later before none stays = (lasts_since later before none stays).came

-- an end of a connection ends it
pub left_by_end : (s : AllSettings) (h : History) (input conn : ℕ) (fact : Fact) → input_of s h conn ≡ Some input → ends_connection input conn fact ≡ true → input_of s (fact ∷ h) conn ≡ None
left_by_end s h input conn (Happened (happening.Gone i c)) joined ends =
    let parts = and_parts (c.0 == conn) (i.0 == input) ends in
    let same : (input == i.0) ≡ true = flipped i.0 input true parts.1 in
    ap (λ (b : Bool). left_by b i.0 (input_of s h conn)) parts.0 ∙ (ap (left_by true i.0) joined ∙ ap (λ (b : Bool). cond b None (Some input)) same)
left_by_end s h input conn (Disconnected c) joined ends = ap (λ (b : Bool). cond b None (input_of s h conn)) ends
left_by_end s h input conn (Happened x) joined ends = absurd (cc ends)
left_by_end s h input conn fact joined ends = absurd (cc ends)

-- ---- the standard input

module _ (s : AllSettings) (input : ℕ) (set : InputSet) (at : input_at s input ≡ Some set) (kind : set.kind ≡ input_kind.Stdin) where
  abbrev GoesOn : Fact → Type 0
  GoesOn fact = is_input_end input fact ≡ false

  of_standard : (h : History) (i c : ℕ) → is_stream (Standard input) (stream_of s h i c) ≡ (i == input && c == 0)
  of_standard h i c = by (i == input) refl
    where
      by_conn : (b : Bool) → is_stream (Standard input) (cond b (Some (Standard input)) None) ≡ b
      by_conn true = eq-eqb input input refl
      by_conn false = refl

      not_by_conn : (b : Bool) → (i == input) ≡ false → is_stream (Standard input) (cond b (Some (Standard i)) None) ≡ false
      not_by_conn true apart = apart
      not_by_conn false apart = refl

      other : (joined : Bool) (o : Option InputSet) → (i == input) ≡ false → is_stream (Standard input) (stream_at i c joined o) ≡ false
      other joined None apart = refl
      other joined (Some one) apart = by_kind joined one.kind
        where
          by_kind : (joined : Bool) (k : InputKind) → is_stream (Standard input) (stream_by i c joined k) ≡ false
          by_kind true (input_kind.Tcp host port) = refl
          by_kind false (input_kind.Tcp host port) = refl
          by_kind true (input_kind.Forward host port) = refl
          by_kind false (input_kind.Forward host port) = refl
          by_kind joined (input_kind.Tail paths from_head) = refl
          by_kind joined input_kind.Stdin = not_by_conn (c == 0) apart

      by : (b : Bool) → (i == input) ≡ b → is_stream (Standard input) (stream_of s h i c) ≡ (b && c == 0)
      by false apart = other (is_joined s h i c) (input_at s i) apart
      by true same =
          let is : i ≡ input = eqb-true i input same in
          subst (λ (k : ℕ). is_stream (Standard input) (stream_of s h k c) ≡ (c == 0)) (sym is)
          (ap (λ (o : Option InputSet). is_stream (Standard input) (stream_at input c (is_joined s h input c) o)) at
          ∙ (ap (λ (k : InputKind). is_stream (Standard input) (stream_by input c (is_joined s h input c) k)) kind ∙ by_conn (c == 0)))

  fact_came : (fact : Fact) (h later : History) → said s h (Standard input) ≡ came_over input 0 later → GoesOn fact → said s (fact ∷ h) (Standard input) ≡ came_over input 0 (fact ∷ later)
  fact_came (Happened x) h later was on = by x on
    where
      by : (y : Happening) → GoesOn (Happened y) → said s (Happened y ∷ h) (Standard input) ≡ came_over input 0 (Happened y ∷ later)
      by (happening.Piece i c bytes) on =
          ap (λ (b : Bool). said_more b bytes (said s h (Standard input))) (of_standard h i.0 c.0)
          ∙ (added (i.0 == input && c.0 == 0) bytes (said s h (Standard input)) ∙ ap (λ (l : List ℕ). l ++ cond (i.0 == input && c.0 == 0) bytes []) was)
      by (happening.Gone i c) on = ap (λ (b : Bool). emptied_if b (said s h (Standard input))) (no_and (is_joined s h i.0 c.0)) ∙ (was ∙ sym (append-nil (came_over input 0 later)))
      by (happening.InputEnd i) on = ap (λ (b : Bool). emptied_if b (said s h (Standard input))) on ∙ (was ∙ sym (append-nil (came_over input 0 later)))
      by y on = was ∙ sym (append-nil (came_over input 0 later))
  fact_came (Disconnected c) h later was on = was ∙ sym (append-nil (came_over input 0 later))
  fact_came fact h later was on = was ∙ sym (append-nil (came_over input 0 later))

  came_after : (later before : History) → said s before (Standard input) ≡ [] → All GoesOn later → said s (later ++ before) (Standard input) ≡ came_over input 0 later
  came_after [] before none on = none
  came_after (fact ∷ later) before none on = fact_came fact (later ++ before) later (came_after later before none (All-tail GoesOn fact later on)) (All-head GoesOn fact later on)

  pub came_from_start : (h : History) → All GoesOn h → said s h (Standard input) ≡ came_over input 0 h
  came_from_start [] on = refl
  came_from_start (fact ∷ h) on = fact_came fact h h (came_from_start h (All-tail GoesOn fact h on)) (All-head GoesOn fact h on)

  pub came_since_end : (later before : History) (end : InputId) → end.0 ≡ input → All GoesOn later → said s (later ++ Happened (happening.InputEnd end) ∷ before) (Standard input) ≡ came_over input 0 later
  came_since_end later before end same on = came_after later (Happened (happening.InputEnd end) ∷ before) (ap (λ (b : Bool). emptied_if b (said s before (Standard input))) (eq-eqb end.0 input same)) on
