-- The replies to messages of the forward protocol, in the calls and facts of a step and of a run.
use Rattle.std.specs.Prelude.{◌≡◌, ℕ, Bool, true, false, List, [], ◌∷◌, ◌++◌, map, Contains, Option, Some, None}
use Rattle.fwd_base.specs.declared.ids.InputId.{InputId}
use Rattle.fwd_outside.specs.Program.{entry}
use Rattle.fwd_outside.specs.Loop.{Reply, DropConn}
use Rattle.fwd_outside.specs.declared.happening.Happening.{Happening}
use Rattle.fwd_outside.specs.declared.happening.Happening.TheVariants as happening
use Rattle.fwd_wire.specs.Message.{MessageContent}
use Rattle.fwd_settings.specs.declared.settings_types.AllSettings.{AllSettings}
use Rattle.fwd_model.specs.Fact.{Fact, History, MessageStream, Batch, Placement, Reason, Happened, Malformed, Accepted, Refused}
use Rattle.fwd_model.specs.Trace.{Call, Answer, TraceEntry, OnLoop, Note, history_after_call}
use Rattle.fwd_model.specs.Streams.{stream_of, said}
use Rattle.fwd_model.specs.Messages.{completed_messages, becomes_malformed, message_batch, reply_of}
use Rattle.fwd_model.specs.Notes.{is_empty}
use Rattle.fwd_theorem_trace.specs.Past.{Past, logged, past_after}
use Rattle.fwd_theorem_trace.specs.Events.{events_only}

-- ---- calls and facts, in order

-- the connection that a call replies to, and the bytes
abbrev pub replied_by : Call → List (ℕ × List ℕ)
replied_by (OnLoop (Reply conn bytes)) = (conn, bytes) ∷ []
replied_by call = []

abbrev pub replies_in : List TraceEntry → List (ℕ × List ℕ)
replies_in [] = []
replies_in (e ∷ es) = replied_by e.call ++ replies_in es

abbrev pub broken_with : ℕ → Option (Unit {0}) → List ℕ
broken_with conn None = conn ∷ []
broken_with conn (Some done) = []

-- the connection on which a reply failed
abbrev pub broken_by : (call : Call) → Answer call → List ℕ
broken_by (OnLoop (Reply conn bytes)) answer = broken_with conn answer
broken_by call answer = []

abbrev pub broken_in : List TraceEntry → List ℕ
broken_in [] = []
broken_in (e ∷ es) = broken_by e.call e.answer ++ broken_in es

-- the connection that a call drops
abbrev pub dropped_by : Call → List ℕ
dropped_by (OnLoop (DropConn conn)) = conn ∷ []
dropped_by call = []

abbrev pub drops_in : List TraceEntry → List ℕ
drops_in [] = []
drops_in (e ∷ es) = dropped_by e.call ++ drops_in es

-- the logged facts, the oldest first
abbrev pub facts_in : List TraceEntry → List Fact
facts_in [] = []
facts_in (e ∷ es) = history_after_call e.call [] ++ facts_in es

-- ---- messages

abbrev pub asked_for : Option (List ℕ) → List (List ℕ)
asked_for None = []
asked_for (Some bytes) = bytes ∷ []

-- the replies that messages ask for, in order
abbrev pub asked_by : List MessageContent → List (List ℕ)
asked_by [] = []
asked_by (m ∷ ms) = asked_for (reply_of m) ++ asked_by ms

-- the same, as replies to one connection
abbrev pub replies_to : ℕ → List MessageContent → List (ℕ × List ℕ)
replies_to conn ms = map (λ (bytes : List ℕ). (conn, bytes)) (asked_by ms)

-- A batch was taken, by the facts logged after it, the oldest first: it has no events, or it was
-- accepted. `rest` are the facts after that.
pub data WasTaken (during : List Fact) (b : Batch) (rest : List Fact) : Type 0 where
  IsEmpty : is_empty b.events ≡ true → rest ≡ during → WasTaken during b rest
  IsAccepted : (before : List Fact) (place : Placement) → during ≡ before ++ Accepted b place ∷ rest
      → WasTaken during b rest

-- batches were taken in order, each by a fact of its own
abbrev pub TakenInOrder : List Fact → List Batch → Type 0
TakenInOrder during [] = Unit {0}
TakenInOrder during (b ∷ bs) = (rest : List Fact) × WasTaken during b rest × TakenInOrder rest bs

-- ---- a step

-- Why no further messages of a read are answered. All were answered, and the connection goes on; or the
-- bytes after them are invalid, which is counted; or the next one was refused; or the last reply failed.
-- In all but the first case the connection is dropped.
pub data ReadEnds (s : AllSettings) (input conn : ℕ) (breaks : Bool) (left : List MessageContent)
    (entries : List TraceEntry) : Type 0 where
  GoesOn : left ≡ [] → breaks ≡ false → broken_in entries ≡ [] → drops_in entries ≡ []
      → ReadEnds s input conn breaks left entries
  BreaksOff : left ≡ [] → breaks ≡ true → Contains (facts_in entries) (Malformed input)
      → broken_in entries ≡ [] → drops_in entries ≡ conn ∷ [] → ReadEnds s input conn breaks left entries
  IsRefused : (m : MessageContent) (more : List MessageContent) (why : Reason) → left ≡ m ∷ more
      → Contains (facts_in entries) (Refused (message_batch s input m) why) → broken_in entries ≡ []
      → drops_in entries ≡ conn ∷ [] → ReadEnds s input conn breaks left entries
  ReplyBroke : (bytes : List ℕ) (before after : List TraceEntry)
      → entries ≡ before ++ entry (OnLoop (Reply conn bytes)) None ∷ after → broken_in before ≡ []
      → replies_in after ≡ []
      → drops_in entries ≡ conn ∷ [] → ReadEnds s input conn breaks left entries

-- The calls and facts of a step on a read of an input's connection, after that history. The first
-- messages that end in the read were taken, the replies that they ask for were sent, and no others.
pub record AnswersRead (s : AllSettings) (h : History) (input conn : ℕ) (bytes : List ℕ)
    (entries : List TraceEntry) : Type 0 where
  pub answered : List MessageContent
  pub left : List MessageContent
  pub messages : completed_messages (said s h (MessageStream conn)) bytes ≡ answered ++ left
  pub taken : TakenInOrder (facts_in entries) (map (message_batch s input) answered)
  pub replies : replies_in entries ≡ replies_to conn answered
  pub ends : ReadEnds s input conn (becomes_malformed (said s h (MessageStream conn)) bytes) left entries

-- an event is a read of this connection, which sends messages
pub record ReadsMessages (s : AllSettings) (h : History) (brought : Happening) (conn : ℕ) : Type 0 where
  pub input : InputId
  pub bytes : List ℕ
  pub is : brought ≡ happening.Piece input (record { 0 = conn }) bytes
  pub over : stream_of s h input.0 conn ≡ Some (MessageStream conn)

-- ---- a run

-- A reply is due given the entries before it. The last event is a read of this connection, in which a
-- message ends that asks for the reply. Since then this message was taken, each message before it in the
-- read was taken and answered, in order, no reply failed, and no connection was dropped.
pub record IsDueReply (s : AllSettings) (past : Past) (conn : ℕ) (bytes : List ℕ) : Type 0 where
  pub older : Past
  pub input : InputId
  pub piece : List ℕ
  pub during : List TraceEntry
  pub is : past ≡ past_after
      (entry (Note (Happened (happening.Piece input (record { 0 = conn }) piece))) tt ∷ older) during
  pub last : events_only (facts_in during) ≡ []
  pub over : stream_of s (logged older) input.0 conn ≡ Some (MessageStream conn)
  pub earlier : List MessageContent
  pub message : MessageContent
  pub later : List MessageContent
  pub messages : completed_messages (said s (logged older) (MessageStream conn)) piece
      ≡ earlier ++ message ∷ later
  pub asks : reply_of message ≡ Some bytes
  pub taken : TakenInOrder (facts_in during) (map (message_batch s input.0) (earlier ++ message ∷ []))
  pub replies : replies_in during ≡ replies_to conn earlier
  pub whole : broken_in during ≡ []
  pub drops : drops_in during ≡ []
