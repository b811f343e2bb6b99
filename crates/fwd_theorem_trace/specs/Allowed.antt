-- When each entry of a run may occur, given the entries before it.
use Rattle.std.specs.Prelude.{◌≡◌, ◌⊎◌, ℕ, ◌+◌, ◌<◌, ◌≤◌, nat_lt, true, false, List, [], ◌∷◌, length, Contains, Option, Some, None}
use Rattle.fwd_base.specs.Limits.{longest_wait, largest_batch, numbers_end}
use Rattle.fwd_outside.specs.Program.{entry}
use Rattle.fwd_outside.specs.Loop.{LoopCall, Wait, Dial, DropConn}
use Rattle.fwd_outside.specs.declared.happening.Happening.{Happening}
use Rattle.fwd_outside.specs.declared.happening.Happening.TheVariants as happening
use Rattle.fwd_keeper.specs.Keeper.{KeeperCall, Get, Put, FailAt}
use Rattle.fwd_settings.specs.declared.settings_types.AllSettings.{AllSettings}
use Rattle.fwd_model.specs.Fact.{Fact, History, Batch, Placement, NoChunk, NewChunk, AppendedTo, Reason, TooLarge, NoNumber, NotStored, Route, Outcome, FlushStarted, InFlight, Retries, Delivered, Failed, Exhausted, Evicted, Happened, Resumed, Saved, Polled, Disconnected, Malformed, Found, Offered, Accepted, Refused, ChunkClosed, Sent, OnRoute, MarkStarted, Marked, Removed, FileLeft, IoFailed}
use Rattle.fwd_model.specs.Trace.{Call, OnLoop, OnDisk, OnFiles, OnKeeper, Note}
use Rattle.fwd_model.specs.Settings.{saturating_plus, outputs_for}
use Rattle.fwd_model.specs.Clock.{clock, stopped}
use Rattle.fwd_model.specs.FollowedFiles.{settled}
use Rattle.fwd_model.specs.Chunks.{ChunkInfo, chunks_of, open_chunk, next, is_closed, encoded}
use Rattle.fwd_model.specs.Routes.{owes}
use Rattle.fwd_model.specs.Payloads.{tag_of_chunk}
use Rattle.fwd_model.specs.Limits.{paused}
use Rattle.fwd_model.specs.Dispatch.{may_start}
use Rattle.fwd_model.specs.Notes.{is_empty}
use Rattle.fwd_model.specs.KeptOffsets.{Tracked, tracked, kept_at, to_put}
use Rattle.fwd_theorem_trace.specs.Past.{Past, logged, last_event, last_fact, last_call}

-- only recovered files are logged, numbered by their positions from 1 on
abbrev pub IsLoading : History → Type 0
IsLoading [] = Unit {0}
IsLoading (Found number stream name bytes ∷ h) = (number ≡ length h + 1) × IsLoading h
IsLoading (fact ∷ h) = ⊥

-- recovered files, and after them the offsets from which reading resumes
abbrev pub IsStart : History → Type 0
IsStart (Resumed input index place ∷ h) = IsStart h
IsStart h = IsLoading h

-- a chunk has this number
pub record IsChunk (h : History) (number : ℕ) : Type 0 where
  pub chunk : ChunkInfo
  pub stands : Contains (chunks_of h) chunk
  pub is : chunk.number ≡ number

-- no chunk of its input and tag is open, and this is the next number
pub record StartsChunk (b : Batch) (chunk : ℕ) (h : History) : Type 0 where
  pub none : open_chunk h b.input b.tag ≡ None
  pub next_one : chunk ≡ next h
  pub left : nat_lt (next h) numbers_end ≡ true

-- this is the open chunk of its input and tag
pub record AppendsTo (b : Batch) (chunk : ℕ) (h : History) : Type 0 where
  pub chunk_open : ChunkInfo
  pub is : open_chunk h b.input b.tag ≡ Some chunk_open
  pub number : chunk_open.number ≡ chunk

-- it has events, an output matches it, and it isn't too large
pub record IsToStore (s : AllSettings) (b : Batch) : Type 0 where
  pub some : is_empty b.events ≡ false
  pub wanted : is_empty (outputs_for s b.tag) ≡ false
  pub fits : length (encoded b.events) ≤ largest_batch

-- it was just offered to a chunk, which was in this state before
pub record WasOffered (Stood : Batch → ℕ → History → Type 0) (b : Batch) (chunk : ℕ)
    (h : History) : Type 0 where
  pub before : History
  pub is : h ≡ Offered chunk b ∷ before
  pub stood : Stood b chunk before

-- it was offered, and a call failed
pub record StoreFailed (b : Batch) (h : History) : Type 0 where
  pub chunk : ℕ
  pub before : History
  pub is : h ≡ IoFailed ∷ Offered chunk b ∷ before

abbrev pub AcceptAllowed : AllSettings → Batch → Placement → History → Type 0
AcceptAllowed s b NoChunk h = (is_empty b.events ≡ false) × (is_empty (outputs_for s b.tag) ≡ true)
AcceptAllowed s b (NewChunk chunk) h = IsToStore s b × WasOffered StartsChunk b chunk h
AcceptAllowed s b (AppendedTo chunk) h = IsToStore s b × WasOffered AppendsTo b chunk h

abbrev pub RefuseAllowed : AllSettings → Batch → Reason → History → Type 0
RefuseAllowed s b TooLarge h = largest_batch < length (encoded b.events)
RefuseAllowed s b NoNumber h = (open_chunk h b.input b.tag ≡ None) × (nat_lt (next h) numbers_end ≡ false)
RefuseAllowed s b NotStored h = StoreFailed b h

abbrev pub OutcomeAllowed : AllSettings → Route → Outcome → History → Type 0
OutcomeAllowed s r (FlushStarted events) h = (is_closed h r.chunk ≡ true) × (may_start s h r ≡ true)
OutcomeAllowed s r (InFlight progress) h = is_closed h r.chunk ≡ true
OutcomeAllowed s r (Retries word) h = is_closed h r.chunk ≡ true
OutcomeAllowed s r Delivered h = is_closed h r.chunk ≡ true
OutcomeAllowed s r Failed h = is_closed h r.chunk ≡ true
OutcomeAllowed s r Exhausted h = is_closed h r.chunk ≡ true
OutcomeAllowed s r Evicted h = is_closed h r.chunk ≡ true

-- a closed chunk that is pending for no output
pub record IsFinished (s : AllSettings) (chunk : ℕ) (h : History) : Type 0 where
  pub shut : is_closed h chunk ≡ true
  pub owed : owes s h chunk ≡ false

-- this is the settled offset of a followed file with this database and path, and isn't kept yet
pub record PutAllowed (s : AllSettings) (db path : List ℕ) (place : ℕ) (h : History) : Type 0 where
  pub file : Tracked
  pub among : Contains (tracked s) file
  pub of : (file.db ≡ db) × (file.path ≡ path)
  pub new : to_put (settled s h file.input file.index) (kept_at h file.input file.index) ≡ Some place

-- a put of this offset of this followed file just succeeded
pub record WasSaved (s : AllSettings) (input index place : ℕ) (past : Past) : Type 0 where
  pub file : Tracked
  pub among : Contains (tracked s) file
  pub of : (file.input ≡ input) × (file.index ≡ index)
  pub before : Past
  pub is : past ≡ entry (OnKeeper (Put file.db file.path place)) (Some tt) ∷ before

-- a wait just returned it, or it is the first `Stop`
abbrev pub EventAllowed : AllSettings → Happening → Past → Type 0
EventAllowed s brought past =
    (last_event past ≡ Some brought) ⊎ ((brought ≡ happening.Stop) × (stopped s (logged past) ≡ None))

abbrev pub FactAllowed : AllSettings → Fact → Past → Type 0
FactAllowed s (Happened brought) past = EventAllowed s brought past
FactAllowed s (Resumed input index place) past = IsStart (logged past)
FactAllowed s (Saved input index place) past = WasSaved s input index place past
FactAllowed s (Polled input index long bytes) past = Unit {0}
FactAllowed s (Disconnected conn) past = last_call past ≡ Some (OnLoop (DropConn conn))
FactAllowed s (Malformed input) past = Unit {0}
FactAllowed s (Found number stream name bytes) past =
    (number ≡ length (logged past) + 1) × IsLoading (logged past)
FactAllowed s (Offered chunk b) past =
    IsToStore s b × (StartsChunk b chunk (logged past) ⊎ AppendsTo b chunk (logged past))
FactAllowed s (Accepted b place) past = AcceptAllowed s b place (logged past)
FactAllowed s (Refused b why) past = RefuseAllowed s b why (logged past)
FactAllowed s (ChunkClosed chunk) past = IsChunk (logged past) chunk
FactAllowed s (Sent output bytes) past = Unit {0}
FactAllowed s (OnRoute r outcome) past = OutcomeAllowed s r outcome (logged past)
FactAllowed s (MarkStarted r) past = is_closed (logged past) r.chunk ≡ true
FactAllowed s (Marked r) past = is_closed (logged past) r.chunk ≡ true
FactAllowed s (Removed chunk) past = IsFinished s chunk (logged past)
FactAllowed s (FileLeft chunk) past = IsFinished s chunk (logged past)
FactAllowed s IoFailed past = Unit {0}

-- directly after the beginning of a flush, for its output and the tag of its chunk
abbrev pub DialAllowed : ℕ → List ℕ → Past → Option Fact → Type 0
DialAllowed output tag past (Some (OnRoute r (FlushStarted events))) =
    (output ≡ r.output) × (tag ≡ tag_of_chunk (logged past) r.chunk)
DialAllowed output tag past other = ⊥

abbrev pub LoopCallAllowed : AllSettings → LoopCall → Past → Type 0
LoopCallAllowed s (Wait until mask) past =
    (until ≡ saturating_plus (clock (logged past)) longest_wait) × (mask ≡ paused s (logged past))
LoopCallAllowed s (Dial output tag) past = DialAllowed output tag past (last_fact past)
LoopCallAllowed s call past = Unit {0}

-- offsets are got at the start, and put later
abbrev pub KeeperCallAllowed : AllSettings → KeeperCall → Past → Type 0
KeeperCallAllowed s (Get db path) past = IsStart (logged past)
KeeperCallAllowed s (Put db path place) past = PutAllowed s db path place (logged past)
KeeperCallAllowed s (FailAt number) past = ⊥

abbrev pub IsAllowed : AllSettings → Call → Past → Type 0
IsAllowed s (OnLoop call) past = LoopCallAllowed s call past
IsAllowed s (OnDisk call) past = Unit {0}
IsAllowed s (OnFiles call) past = Unit {0}
IsAllowed s (OnKeeper call) past = KeeperCallAllowed s call past
IsAllowed s (Note fact) past = FactAllowed s fact past

-- each entry is allowed
abbrev pub Allowed : AllSettings → Past → Type 0
Allowed s [] = Unit {0}
Allowed s (e ∷ past) = IsAllowed s e.call past × Allowed s past
