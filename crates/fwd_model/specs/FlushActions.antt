-- Actions of a flush: it starts, goes on at an event of its link, and its outcome decides what happens to
-- the route.
use Rattle.std.specs.Prelude.{ℕ, ◌-◌, ◌==◌, ◌&&◌, Bool, if◌then◌else◌, List, [], ◌∷◌, length, Option, Some, None}
use Rattle.fwd_outside.specs.Program.{Return, Ask, bind}
use Rattle.fwd_outside.specs.Loop.{Word}
use Rattle.fwd_event.specs.declared.event.Event.{Event}
use Rattle.fwd_event.specs.EventPrefix.{events_in}
use Rattle.fwd_chunk.specs.declared.kept.Kept.{Kept}
use Rattle.fwd_chunk.specs.declared.kept.Kept.TheVariants.{InFile, Adopted, InMemory}
use Rattle.fwd_chunk.specs.Kept.{size_of}
use Rattle.fwd_chunk.specs.Content.{read_content_program}
use Rattle.fwd_table.specs.Outcomes.{may_retry}
use Rattle.fwd_table.specs.declared.outcome.Answer.{Answer}
use Rattle.fwd_table.specs.declared.outcome.Answer.TheVariants.{Good, Retry, Bad}
use Rattle.fwd_flush.specs.declared.stage.Stage.{Stage}
use Rattle.fwd_flush.specs.declared.stage.Stage.TheVariants.{Opening, Writing, AwaitingAck, Ended}
use Rattle.fwd_flush.specs.FlushProgram.{Progress, Delivery, not_started, starts, polls, backs, breaks}
use Rattle.fwd_settings.specs.declared.settings_types.AllSettings.{AllSettings}
use Rattle.fwd_model.specs.Fact.{History, Route, Sent, OnRoute, FlushStarted, InFlight, Retries, Delivered, Failed, Exhausted, IoFailed}
use Rattle.fwd_model.specs.Trace.{Action, OnLoop}
use Rattle.fwd_model.specs.DeviceActions.{on_loop, on_disk}
use Rattle.fwd_model.specs.Settings.{output_at, retries_at}
use Rattle.fwd_model.specs.Chunks.{records}
use Rattle.fwd_model.specs.ChunkStorage.{kept_of}
use Rattle.fwd_model.specs.Routes.{tries, flight, route_on_link}
use Rattle.fwd_model.specs.Payloads.{delivery, tag_of_chunk}
use Rattle.fwd_model.specs.Dispatch.{due_routes, may_start}
use Rattle.fwd_model.specs.Notes.{note_then, note}
use Rattle.fwd_model.specs.ResolveActions.{marks_or_removes}

-- The outcome of a flush. After a RETRY the route waits for a random time, or its retries are exhausted.
unfoldable pub retries : AllSettings → Route → History → Action History
retries s r h =
    if may_retry (retries_at (output_at s r.output)) (tries h r)
    then Ask (OnLoop Word) (λ word. note (OnRoute r (Retries word)) h)
    else note_then (OnRoute r Exhausted) h (marks_or_removes s r)

abbrev pub applies_answer : AllSettings → Route → Answer → History → Action History
applies_answer s r Good h = note_then (OnRoute r Delivered) h (marks_or_removes s r)
applies_answer s r Retry h = retries s r h
applies_answer s r Bad h = note_then (OnRoute r Failed) h (marks_or_removes s r)

-- a flush that hasn't ended is still in flight
abbrev pub notes_stage : AllSettings → Route → Progress → Stage → History → Action History
notes_stage s r progress Opening h = note (OnRoute r (InFlight progress)) h
notes_stage s r progress (Writing link) h = note (OnRoute r (InFlight progress)) h
notes_stage s r progress (AwaitingAck link) h = note (OnRoute r (InFlight progress)) h
notes_stage s r progress (Ended answer) h = applies_answer s r answer h

unfoldable pub stands : AllSettings → Route → Progress → History → Action History
stands s r progress h = notes_stage s r progress progress.stage h

-- count the bytes that the link took since, then log the flush's progress or outcome
unfoldable pub notes_calls : AllSettings → Route → ℕ → Progress → History → Action History
notes_calls s r before progress h =
    note_then (Sent r.output (progress.taken - before)) h (stands s r progress)

-- start a flush of these events
unfoldable pub starts_with : AllSettings → Route → List Event → History → Action History
starts_with s r events h =
    note_then (OnRoute r (FlushStarted events)) h
    (λ at. bind (on_loop (starts (delivery s at r) r.output (tag_of_chunk at r.chunk) not_started))
    (λ progress. notes_calls s r 0 progress at))

-- whether a read returned as many bytes as the chunk has, and all of them are events
abbrev pub is_complete_read : ℕ → List ℕ → Bool
is_complete_read kept bytes = length bytes == kept && (events_in bytes).1 == kept

-- What follows the read of a chunk's content. If it failed or returned something else, the route stays idle.
-- It keeps its due time and its tries, so that the next dispatch reads again.
abbrev pub after_read : AllSettings → Route → ℕ → History → Option (List ℕ) → Action History
after_read s r kept h None = note IoFailed h
after_read s r kept h (Some bytes) =
    if is_complete_read kept bytes then starts_with s r (events_in bytes).0 h else Return h

-- start a flush of a chunk's events, which are read from its file first, if it has one
abbrev pub begins_as : AllSettings → Route → Option Kept → History → Action History
begins_as s r None h = Return h
begins_as s r (Some (InMemory content)) h = starts_with s r (records h r.chunk) h
begins_as s r (Some (InFile head)) h =
    bind (on_disk (read_content_program (InFile head))) (after_read s r (size_of (InFile head)) h)
begins_as s r (Some (Adopted head)) h =
    bind (on_disk (read_content_program (Adopted head))) (after_read s r (size_of (Adopted head)) h)

unfoldable pub starts_flush : AllSettings → Route → History → Action History
starts_flush s r h = begins_as s r (kept_of s h r.chunk) h

-- start a flush of a due route, if it may start now
unfoldable pub starts_if_allowed : AllSettings → Route → History → Action History
starts_if_allowed s r h = if may_start s h r then starts_flush s r h else Return h

abbrev pub starts_each : AllSettings → List Route → History → Action History
starts_each s [] h = Return h
starts_each s (r ∷ rs) h = bind (starts_if_allowed s r h) (starts_each s rs)

-- The routes of a dispatch are those that are due when it begins. It skips one that isn't idle any more at
-- its turn.
unfoldable pub walk : AllSettings → History → Action History
walk s h = starts_each s (due_routes s h) h

-- continue a flush at an event of its link
abbrev pub goes_on : AllSettings → (Delivery → Progress → Action Progress) → Route → Option Progress → History
    → Action History
goes_on s go r None h = Return h
goes_on s go r (Some progress) h =
    bind (go (delivery s h r) progress) (λ now. notes_calls s r progress.taken now h)

abbrev pub resumes : AllSettings → (Delivery → Progress → Action Progress) → Option Route → History
    → Action History
resumes s go None h = Return h
resumes s go (Some r) h = goes_on s go r (flight h r) h

unfoldable pub at_room : AllSettings → ℕ → History → Action History
at_room s link h = resumes s (λ d p. on_loop (polls d p)) (route_on_link h link) h

unfoldable pub at_reply : AllSettings → ℕ → List ℕ → History → Action History
at_reply s link bytes h = resumes s (λ d p. on_loop (backs d bytes p)) (route_on_link h link) h

unfoldable pub at_break : AllSettings → ℕ → History → Action History
at_break s link h = resumes s (λ d p. on_loop (breaks p)) (route_on_link h link) h
