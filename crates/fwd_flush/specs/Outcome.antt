-- The outcome of a flush as a function of the events of its own dial and link.
use Rattle.std.specs.Prelude.{◌≡◌, ℕ, ◌<◌, ◌==◌, ◌&&◌, not, Bool, true, false, if◌then◌else◌, List, [], ◌∷◌, ◌++◌, length, take, Option, Some, None}
use Rattle.std.specs.List.{list_any}
use Rattle.fwd_outside.specs.Program.{Return, Execution}
use Rattle.fwd_outside.specs.Loop.{LoopCall, LoopAnswer, LoopEntry, LoopProgram, Dial, Push, Close, PushAnswer, Took, Again, Broke}
use Rattle.fwd_table.specs.declared.outcome.Answer.{Answer}
use Rattle.fwd_table.specs.declared.outcome.Answer.TheVariants.{Good, Retry, Bad}
use Rattle.fwd_flush.specs.declared.judgement.Judged.{Judged}
use Rattle.fwd_flush.specs.declared.judgement.Judged.TheVariants.{More, Right, Wrong, Fatal}
use Rattle.fwd_flush.specs.declared.stage.Stage.{Stage}
use Rattle.fwd_flush.specs.declared.stage.Stage.TheVariants.{Opening, Writing, AwaitingAck, Ended}
use Rattle.fwd_flush.specs.FlushProgram.{Progress, Delivery, polls, backs, breaks}

-- an event of a flush
pub data Event : Type 0 where
  -- the dial gave a link, or was refused
  Dialed : (link : Option ℕ) → Event
  -- a push of these bytes had this answer
  Pushed : (bytes : List ℕ) → (answer : PushAnswer) → Event
  -- bytes of a reply arrived
  Replied : (bytes : List ℕ) → Event
  -- the link broke
  LinkBroke : Event

abbrev pub taken_of : Event → List ℕ
taken_of (Pushed bytes (Took n)) = take n bytes
taken_of e = []

-- the bytes that the pushes took, concatenated
abbrev pub bytes_pushed : List Event → List ℕ
bytes_pushed [] = []
bytes_pushed (e ∷ es) = taken_of e ++ bytes_pushed es

abbrev pub replied_in : Event → List ℕ
replied_in (Replied bytes) = bytes
replied_in e = []

-- all bytes of the reply
abbrev pub bytes_replied : List Event → List ℕ
bytes_replied [] = []
bytes_replied (e ∷ es) = replied_in e ++ bytes_replied es

abbrev pub is_empty : List ℕ → Bool
is_empty [] = true
is_empty (b ∷ bytes) = false

-- the dial was refused, a push broke or took nothing of a non-empty payload, or the link broke
abbrev pub fails : Event → Bool
fails (Dialed None) = true
fails (Dialed (Some link)) = false
fails (Pushed bytes (Took n)) = n == 0 && not (is_empty bytes)
fails (Pushed bytes Again) = false
fails (Pushed bytes Broke) = true
fails (Replied bytes) = false
fails LinkBroke = true

abbrev pub gives_link : Event → Bool
gives_link (Dialed (Some link)) = true
gives_link e = false

-- the flush has a link, and the whole payload was taken
abbrev pub is_whole : Delivery → List Event → Bool
is_whole d events = list_any gives_link events && length (bytes_pushed events) == length d.payload

abbrev pub by_reply : Judged → Option Answer
by_reply More = None
by_reply Right = Some Good
by_reply Wrong = Some Retry
by_reply Fatal = Some Bad

-- What these events decide, if no shorter prefix did: RETRY if one of them fails; else, once the whole
-- payload was taken, OK, or by the reply if one is wanted; else nothing.
abbrev pub decided : Delivery → List Event → Option Answer
decided d events =
    if list_any fails events then Some Retry
    else if is_whole d events
    then (if d.wanted then by_reply (d.judged (bytes_replied events)) else Some Good) else None

abbrev pub else_by : Option Answer → Option Answer → Option Answer
else_by (Some answer) later = Some answer
else_by None later = later

abbrev pub outcome_behind : Delivery → List Event → List Event → Option Answer
outcome_behind d before [] = decided d before
outcome_behind d before (e ∷ es) = else_by (decided d before) (outcome_behind d (before ++ e ∷ []) es)

-- the outcome of a flush: the first decision; none while the flush is in flight
abbrev pub flush_outcome : Delivery → List Event → Option Answer
flush_outcome d events = outcome_behind d [] events

abbrev pub answer_in : Stage → Option Answer
answer_in Opening = None
answer_in (Writing link) = None
answer_in (AwaitingAck link) = None
answer_in (Ended answer) = Some answer

-- the event of a call of a flush
abbrev pub event_of_call : (call : LoopCall) → LoopAnswer call → List Event
event_of_call (Dial output tag) link = Dialed link ∷ []
event_of_call (Push link bytes) answer = Pushed bytes answer ∷ []
event_of_call call answer = []

abbrev pub events_of : List LoopEntry → List Event
events_of [] = []
events_of (e ∷ es) = event_of_call e.call e.answer ++ events_of es

-- what may happen to a started flush
pub data Occurrence : Type 0 where
  Room : Occurrence
  Back : (bytes : List ℕ) → Occurrence
  Broken : Occurrence

abbrev pub program_at : Delivery → Occurrence → Progress → LoopProgram Progress
program_at d Room p = polls d p
program_at d (Back bytes) p = backs d bytes p
program_at d Broken p = breaks p

abbrev pub events_of_occurrence : Occurrence → List Event
events_of_occurrence Room = []
events_of_occurrence (Back bytes) = Replied bytes ∷ []
events_of_occurrence Broken = LinkBroke ∷ []

-- such turns, each with the calls that the flush made in it
abbrev pub Occurrences : Type 0
Occurrences = List (Occurrence × List LoopEntry)

-- these turns lead from one progress to another
abbrev pub Reaches : Delivery → Progress → Occurrences → Progress → Type 0
Reaches d first [] last = last ≡ first
Reaches d first ((turn, es) ∷ turns) last =
    (next : Progress) × Execution (program_at d turn first) es (Return next) × Reaches d next turns last

-- nothing failed, the flush has a link, and the reply is kept if one is wanted
pub record IsUnbroken (d : Delivery) (events : List Event) (p : Progress) : Type 0 where
  pub unbroken : list_any fails events ≡ false
  pub linked : list_any gives_link events ≡ true
  pub kept : d.wanted ≡ true → p.reply ≡ bytes_replied events

-- what the stage of a started flush says about its events
abbrev pub IsAt : Delivery → List Event → Progress → Stage → Type 0
IsAt d events p Opening = ⊥
IsAt d events p (Writing link) = IsUnbroken d events p × (p.taken < length d.payload)
IsAt d events p (AwaitingAck link) = IsUnbroken d events p × (p.taken ≡ length d.payload) × (d.wanted ≡ true)
IsAt d events p (Ended Good) = p.taken ≡ length d.payload
IsAt d events p (Ended Retry) = Unit {0}
IsAt d events p (Ended Bad) = (p.taken ≡ length d.payload) × (d.wanted ≡ true) × (d.judged p.reply ≡ Fatal)

-- The progress of a flush represents its events: its outcome is that of the events, and `taken` counts what
-- its pushes took, which is a prefix of the payload.
pub record ProgressRepresents (d : Delivery) (events : List Event) (p : Progress) : Type 0 where
  pub answered : flush_outcome d events ≡ answer_in p.stage
  pub counted : p.taken ≡ length (bytes_pushed events)
  pub rest : List ℕ
  pub beginning : bytes_pushed events ++ rest ≡ d.payload
  pub at : IsAt d events p p.stage

-- the links that dials of these calls gave, and those that were closed
abbrev pub opened_by : (call : LoopCall) → LoopAnswer call → List ℕ
opened_by (Dial output tag) (Some link) = link ∷ []
opened_by call answer = []

abbrev pub opened : List LoopEntry → List ℕ
opened [] = []
opened (e ∷ es) = opened_by e.call e.answer ++ opened es

abbrev pub closed_by : LoopCall → List ℕ
closed_by (Close link) = link ∷ []
closed_by call = []

abbrev pub closed : List LoopEntry → List ℕ
closed [] = []
closed (e ∷ es) = closed_by e.call ++ closed es

-- A flush in flight has its link and hasn't closed it. An ended one has closed its link, once.
abbrev pub HasLink : List LoopEntry → Stage → Type 0
HasLink calls Opening = ⊥
HasLink calls (Writing link) = (opened calls ≡ link.0 ∷ []) × (closed calls ≡ [])
HasLink calls (AwaitingAck link) = (opened calls ≡ link.0 ∷ []) × (closed calls ≡ [])
HasLink calls (Ended answer) = closed calls ≡ opened calls

-- the events of these turns in order, and the calls made in them
abbrev pub events_and_calls : Occurrences → List Event
events_and_calls [] = []
events_and_calls ((turn, es) ∷ turns) = (events_of_occurrence turn ++ events_of es) ++ events_and_calls turns

abbrev pub calls_of : Occurrences → List LoopEntry
calls_of [] = []
calls_of ((turn, es) ∷ turns) = es ++ calls_of turns

-- What holds for a flush since its start. Besides, one that ended OK or ERROR has sent the whole payload,
-- and ERROR comes only if a reply is wanted and the reply is fatal.
pub record IsFlush (d : Delivery) (events : List Event) (calls : List LoopEntry) (p : Progress) : Type 0 where
  pub answered : flush_outcome d events ≡ answer_in p.stage
  pub counted : p.taken ≡ length (bytes_pushed events)
  pub rest : List ℕ
  pub beginning : bytes_pushed events ++ rest ≡ d.payload
  pub whole : p.stage ≡ Ended Good → bytes_pushed events ≡ d.payload
  pub fatal : p.stage ≡ Ended Bad
      → (bytes_pushed events ≡ d.payload) × (d.wanted ≡ true) × (d.judged p.reply ≡ Fatal)
  pub link : HasLink calls p.stage
