-- The replies of a step.
use Rattle.std.proofs.Common.{◌≡◌, ⊎_elim, ℕ, Bool, true, List, [], ◌∷◌, ◌++◌, append-nil, Option, Some, None, refl, sym, ◌∙◌, ap, subst, arith}
use Rattle.std.specs.Prelude.{Contains}
use Rattle.std.proofs.lemmas.List.Elements.{Contains-append_cases}
use Rattle.fwd_base.specs.declared.ids.ConnId.{ConnId}
use Rattle.fwd_base.specs.declared.ids.InputId.{InputId}
use Rattle.fwd_outside.specs.Program.{entry, Return, Execution}
use Rattle.fwd_outside.specs.Loop.{Reply, DropConn}
use Rattle.fwd_outside.specs.declared.happening.Happening.{Happening}
use Rattle.fwd_outside.specs.declared.happening.Happening.TheVariants as happening
use Rattle.fwd_wire.specs.Message.{MessageContent}
use Rattle.fwd_settings.specs.declared.settings_types.AllSettings.{AllSettings}
use Rattle.fwd_model.specs.Fact.{History, Stream, LineStream, MessageStream, Standard, Happened}
use Rattle.fwd_model.specs.Trace.{Call, Action, TraceEntry, OnLoop, Note}
use Rattle.fwd_model.specs.Streams.{stream_of, said}
use Rattle.fwd_model.specs.Batches.{piece_batch}
use Rattle.fwd_model.specs.Messages.{completed_messages, becomes_malformed, reply_of}
use Rattle.fwd_model.specs.Acceptance.{ingests}
use Rattle.fwd_model.specs.InputActions.{accepts_stream, pieces}
use Rattle.fwd_model.specs.StepActions.{handles, step}
use Rattle.fwd_theorem_trace.proofs.Members.{deeper, either}
use Rattle.fwd_theorem_trace.proofs.Streams.{IsOwn, own_stream}
use Rattle.fwd_theorem_delivery.specs.Replies.{replied_by, replies_in, ReadEnds, GoesOn, BreaksOff, IsRefused, ReplyBroke, AnswersRead, ReadsMessages}
use Rattle.fwd_theorem_delivery.proofs.SilentActions.{is_silent, AreSilent, IsSilent, still_takes, still_happens}
use Rattle.fwd_theorem_delivery.proofs.CallSequences.{MakesCalls, HoldsAlong, makes_so, still_makes, made_along, made_end}
use Rattle.fwd_theorem_delivery.proofs.ReplyLists.{order_behind}
use Rattle.fwd_theorem_delivery.proofs.ReadReplies.{Answered, Ended, makes_reads}

abbrev pub Any : {R : Type 0} → R → List TraceEntry → Type 0
Any x now = Unit {0}

-- the fact of an event
abbrev pub event_entry : Happening → TraceEntry
event_entry brought = entry (Note (Happened brought)) tt

-- a reply to one of a read's messages, given the entries before it, satisfies P
abbrev pub IsDueOver : AllSettings → (List TraceEntry → Call → Type 0) → History → InputId → ConnId → List ℕ → List TraceEntry → Type 0
IsDueOver s P h input conn bytes start =
    (now : List TraceEntry) (earlier : List MessageContent) (m : MessageContent) (later : List MessageContent) (asked : List ℕ) → completed_messages (said s h (MessageStream conn.0)) bytes ≡ earlier ++ m ∷ later → reply_of m ≡ Some asked
    → Answered s input.0 conn.0 start now (earlier ++ m ∷ []) earlier [] → P now (OnLoop (Reply conn.0 asked))

module _ (s : AllSettings) (P : List TraceEntry → Call → Type 0) (holds : (before : List TraceEntry) (call : Call) → is_silent call ≡ true → P before call)
    (hangs : (before : List TraceEntry) (conn : ℕ) → P before (OnLoop (DropConn conn))) (h : History) where
  quiet : {R : Type 0} (es : List TraceEntry) (p : Action R) → IsSilent p → MakesCalls P Any es p
  quiet {R = R} es p still =
      makes_so P (λ (x : R) (now : List TraceEntry). (own : List TraceEntry) × (now ≡ es ++ own) × AreSilent own) Any es p (λ x now is. tt) (still_makes P es p holds still)

  pub makes_wire : (input : InputId) (conn : ConnId) (bytes : List ℕ) (start : List TraceEntry) (at : History) → stream_of s h input.0 conn.0 ≡ Some (MessageStream conn.0)
      → IsDueOver s P h input conn bytes start
      → MakesCalls P (λ (x : History) (now : List TraceEntry). Ended s input.0 conn.0 (completed_messages (said s h (MessageStream conn.0)) bytes) (becomes_malformed (said s h (MessageStream conn.0)) bytes) start now) start
      (pieces s h input.0 conn.0 bytes at)
  unfolding pieces
  makes_wire input conn bytes start at over due =
      let all : List MessageContent = completed_messages (said s h (MessageStream conn.0)) bytes in
      let breaks : Bool = becomes_malformed (said s h (MessageStream conn.0)) bytes in
      subst (λ (stream : Option Stream). MakesCalls P (λ (x : History) (now : List TraceEntry). Ended s input.0 conn.0 all breaks start now) start (accepts_stream s h input.0 bytes stream at)) (sym over)
      (makes_reads s P holds input.0 conn.0 (λ before. hangs before conn.0) all start due breaks [] all start at refl
      (record { own = []; is = sym (append-nil start); came = refl; rest = []; taken = refl; replies = refl; broken = refl; drops = refl }))

  makes_hears : (input : InputId) (conn : ConnId) (bytes : List ℕ) (start : List TraceEntry) (at : History) (stream : Option Stream) → stream_of s h input.0 conn.0 ≡ stream → IsOwn conn.0 stream
      → (stream_of s h input.0 conn.0 ≡ Some (MessageStream conn.0) → IsDueOver s P h input conn bytes start) → MakesCalls P Any start (accepts_stream s h input.0 bytes stream at)
  unfolding pieces
  makes_hears input conn bytes start at None is own due = tt
  makes_hears input conn bytes start at (Some (LineStream other)) is own due =
      quiet start (ingests s (piece_batch s h input.0 (LineStream other) bytes) at) (still_takes s (piece_batch s h input.0 (LineStream other) bytes) at)
  makes_hears input conn bytes start at (Some (MessageStream other)) is own due =
      let over : stream_of s h input.0 conn.0 ≡ Some (MessageStream conn.0) = is ∙ ap (λ (n : ℕ). Some (MessageStream n)) own in
      subst (λ (stream : Option Stream). MakesCalls P Any start (accepts_stream s h input.0 bytes stream at)) is
      (makes_so P (λ (x : History) (now : List TraceEntry). Ended s input.0 conn.0 (completed_messages (said s h (MessageStream conn.0)) bytes) (becomes_malformed (said s h (MessageStream conn.0)) bytes) start now) Any start
      (pieces s h input.0 conn.0 bytes at) (λ x now end. tt) (makes_wire input conn bytes start at over (due over)))
  makes_hears input conn bytes start at (Some (Standard reader)) is own due =
      quiet start (ingests s (piece_batch s h input.0 (Standard reader) bytes) at) (still_takes s (piece_batch s h input.0 (Standard reader) bytes) at)

  pub makes_happens : (brought : Happening) (start : List TraceEntry) (at : History)
      → ((input : InputId) (conn : ConnId) (bytes : List ℕ) → brought ≡ happening.Piece input conn bytes → stream_of s h input.0 conn.0 ≡ Some (MessageStream conn.0) → IsDueOver s P h input conn bytes start)
      → MakesCalls P Any start (handles s h brought at)
  unfolding pieces
  makes_happens (happening.Piece input conn bytes) start at due =
      makes_hears input conn bytes start at (stream_of s h input.0 conn.0) refl (own_stream s h input.0 conn.0) (due input conn bytes refl)
  makes_happens brought start at due = quiet start (handles s h brought at) (still_happens s h brought at (λ input conn bytes is. absurd (cc is)))

-- ---- a step that reads messages

ends_behind : (s : AllSettings) (input conn : ℕ) (breaks : Bool) (left : List MessageContent) (brought : Happening) (own : List TraceEntry) → ReadEnds s input conn breaks left own
    → ReadEnds s input conn breaks left (event_entry brought ∷ own)
ends_behind s input conn breaks left brought own (GoesOn none goes whole drops) = GoesOn none goes whole drops
ends_behind s input conn breaks left brought own (BreaksOff none off noted whole drops) = BreaksOff none off (deeper _ _ _ noted) whole drops
ends_behind s input conn breaks left brought own (IsRefused m more why is noted whole drops) = IsRefused m more why is (deeper _ _ _ noted) whole drops
ends_behind s input conn breaks left brought own (ReplyBroke bytes before after is whole none drops) =
    ReplyBroke bytes (event_entry brought ∷ before) after (ap (λ (l : List TraceEntry). event_entry brought ∷ l) is) whole none drops

pub answers_piece : (s : AllSettings) (h new : History) (input : InputId) (conn : ConnId) (bytes : List ℕ) (entries : List TraceEntry) → stream_of s h input.0 conn.0 ≡ Some (MessageStream conn.0)
    → Execution (step s (happening.Piece input conn bytes) h) entries (Return new) → AnswersRead s h input.0 conn.0 bytes entries
unfolding step
answers_piece s h new input conn bytes entries over way =
    let brought : Happening = happening.Piece input conn bytes in
    let all : List MessageContent = completed_messages (said s h (MessageStream conn.0)) bytes in
    let breaks : Bool = becomes_malformed (said s h (MessageStream conn.0)) bytes in
    let P : List TraceEntry → Call → Type 0 = λ before call. Unit {0} in
    let Q : History → List TraceEntry → Type 0 = λ x now. Ended s input.0 conn.0 all breaks (event_entry brought ∷ []) now in
    let end : Ended s input.0 conn.0 all breaks (event_entry brought ∷ []) entries =
    made_end P Q [] (step s brought h) entries new
    (tt, λ answer. makes_wire s P (λ before call is. tt) (λ before other. tt) h input conn bytes (event_entry brought ∷ []) (Happened brought ∷ h) over (λ now earlier m later asked is asks at. tt)) way in
    subst (λ (es : List TraceEntry). AnswersRead s h input.0 conn.0 bytes es) (sym end.is)
    (record {
      answered = end.answered;
      left = end.left;
      messages = end.messages;
      taken = order_behind (Happened brought) _ _ end.taken;
      replies = end.replies;
      ends = ends_behind s input.0 conn.0 breaks end.left brought end.own end.ends;
    })

-- ---- the replies of any step

abbrev IsOnlyFrom : AllSettings → History → Happening → Call → Type 0
IsOnlyFrom s h brought (OnLoop (Reply conn bytes)) = ReadsMessages s h brought conn
IsOnlyFrom s h brought call = Unit {0}

only_still : (s : AllSettings) (h : History) (brought : Happening) (call : Call) → is_silent call ≡ true → IsOnlyFrom s h brought call
only_still s h brought (OnLoop (Reply conn bytes)) is = absurd (cc is)
only_still s h brought call is = tt

only_one : (s : AllSettings) (h : History) (brought : Happening) (call : Call) (conn : ℕ) (bytes : List ℕ) → IsOnlyFrom s h brought call → Contains (replied_by call) (conn, bytes)
    → ReadsMessages s h brought conn
only_one s h brought (OnLoop (Reply other more)) conn bytes is has =
    ⊎_elim (λ (same : (other, more) ≡ (conn, bytes)). subst (λ (n : ℕ). ReadsMessages s h brought n) (ap (λ (p : ℕ × List ℕ). p.0) same) is) (λ (none : Contains [] (conn, bytes)). absurd (omega (arith, none.1)))
    (either (other, more) [] (conn, bytes) has)
only_one s h brought call conn bytes is has = absurd (omega (arith, has.1))

only_along : (s : AllSettings) (h : History) (brought : Happening) (es entries : List TraceEntry) (conn : ℕ) (bytes : List ℕ) → HoldsAlong (λ before call. IsOnlyFrom s h brought call) es entries
    → Contains (replies_in entries) (conn, bytes) → ReadsMessages s h brought conn
only_along s h brought es [] conn bytes along has = absurd (omega (arith, has.1))
only_along s h brought es (e ∷ entries) conn bytes along has =
    ⊎_elim (λ (now : Contains (replied_by e.call) (conn, bytes)). only_one s h brought e.call conn bytes along.0 now)
    (λ (later : Contains (replies_in entries) (conn, bytes)). only_along s h brought (es ++ e ∷ []) entries conn bytes along.1 later)
    (Contains-append_cases (replied_by e.call) (replies_in entries) (conn, bytes) has)

pub brings_messages : (s : AllSettings) (h : History) (brought : Happening) (conn : ℕ) (bytes : List ℕ) (entries : List TraceEntry) (left : Action History) → Execution (step s brought h) entries left
    → Contains (replies_in entries) (conn, bytes) → ReadsMessages s h brought conn
unfolding step
brings_messages s h brought conn bytes entries left way has =
    let P : List TraceEntry → Call → Type 0 = λ before call. IsOnlyFrom s h brought call in
    only_along s h brought [] entries conn bytes
    (made_along P Any [] (step s brought h) entries left (
      tt,
      λ answer.
          makes_happens s P (λ before call is. only_still s h brought call is) (λ before other. tt) h brought (event_entry brought ∷ []) (Happened brought ∷ h)
          (λ input own piece is over now earlier m later asked messages asks at. record { input = input; bytes = piece; is = is; over = over }),
    ) way) has
