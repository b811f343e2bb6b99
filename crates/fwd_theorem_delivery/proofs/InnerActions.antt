-- Actions that resolve, close and send log facts about existing chunks, and no others.
use Rattle.std.proofs.Common.{ℕ, ◌-◌, nat_le, Bool, List, [], ◌∷◌, Option, Some, None}
use Rattle.fwd_base.specs.Limits.{full_chunk}
use Rattle.fwd_event.specs.declared.event.Event.{Event}
use Rattle.fwd_event.specs.EventPrefix.{events_in}
use Rattle.fwd_outside.specs.Program.{Return, Ask, bind}
use Rattle.fwd_outside.specs.Loop.{Word}
use Rattle.fwd_table.specs.Outcomes.{may_retry}
use Rattle.fwd_table.specs.declared.outcome.Answer.{Answer}
use Rattle.fwd_table.specs.declared.outcome.Answer.TheVariants.{Good, Retry, Bad}
use Rattle.fwd_flush.specs.declared.stage.Stage.{Stage}
use Rattle.fwd_flush.specs.declared.stage.Stage.TheVariants.{Opening, Writing, AwaitingAck, Ended}
use Rattle.fwd_flush.specs.FlushProgram.{Progress, Delivery, not_started, starts, polls, backs, breaks}
use Rattle.fwd_chunk.specs.declared.kept.Kept.{Kept}
use Rattle.fwd_chunk.specs.declared.kept.Kept.TheVariants.{InFile, Adopted, InMemory}
use Rattle.fwd_chunk.specs.Kept.{size_of}
use Rattle.fwd_chunk.specs.Content.{read_content_program}
use Rattle.fwd_store.specs.Store.{drops as removes, settle_for_program}
use Rattle.fwd_settings.specs.declared.settings_types.AllSettings.{AllSettings}
use Rattle.fwd_model.specs.Fact.{History, Route, FlushStarted, InFlight, Retries, Delivered, Failed, Exhausted, Evicted, ChunkClosed, Sent, OnRoute, MarkStarted, Marked, Removed, FileLeft, IoFailed}
use Rattle.fwd_model.specs.Trace.{Action, OnLoop}
use Rattle.fwd_model.specs.DeviceActions.{on_loop, on_disk}
use Rattle.fwd_model.specs.Settings.{output_at, output_name, retries_at}
use Rattle.fwd_model.specs.Chunks.{ChunkInfo, open_chunks, size, records as records_of}
use Rattle.fwd_model.specs.ChunkStorage.{kept_of, mark_position}
use Rattle.fwd_model.specs.Routes.{owes, tries, flight, route_on_link}
use Rattle.fwd_model.specs.Payloads.{delivery, tag_of_chunk}
use Rattle.fwd_model.specs.Limits.{evicted_at}
use Rattle.fwd_model.specs.Dispatch.{due_routes, may_start}
use Rattle.fwd_model.specs.Notes.{note_then, note}
use Rattle.fwd_model.specs.ResolveActions.{dropped, drops, after_mark, marks_at, records, marks_or_removes}
use Rattle.fwd_model.specs.CloseActions.{loses, closes_chunk, closes_if_full, closes_each, closes_all}
use Rattle.fwd_model.specs.FlushActions.{retries, applies_answer, notes_stage, stands, notes_calls, starts_with, is_complete_read, after_read, begins_as, starts_flush, starts_if_allowed, starts_each, walk, goes_on, resumes, at_room, at_reply, at_break}
use Rattle.fwd_theorem_delivery.proofs.Results.{Yields, gives_behind, gives_if}
use Rattle.fwd_theorem_delivery.proofs.FactSuffix.{AddsInner, later_nothing, later_only, later_note, later_then}

module _ (s : AllSettings) where
  -- ---- resolving

  calm_dropped : (chunk : ℕ) (h : History) (answer : Option (Unit {0})) → Yields (AddsInner h) (dropped chunk h answer)
  calm_dropped chunk h (Some done) = later_only (Removed chunk) h tt
  calm_dropped chunk h None = later_note IoFailed h (note (FileLeft chunk)) tt (later_only (FileLeft chunk) (IoFailed ∷ h) tt)

  calm_drops : (chunk : ℕ) (h : History) → Yields (AddsInner h) (drops s chunk h)
  unfolding drops
  calm_drops chunk h = gives_behind (AddsInner h) (on_disk (removes (kept_of s h chunk))) (dropped chunk h) (calm_dropped chunk h)

  calm_recorded : (r : Route) (h : History) (answer : Option Bool) → Yields (AddsInner h) (after_mark r h answer)
  calm_recorded r h (Some done) = later_only (Marked r) h tt
  calm_recorded r h None = later_only IoFailed h tt

  calm_records_at : (r : Route) (kept : Option Kept) (place : Option ℕ) (h : History) → Yields (AddsInner h) (marks_at s r kept place h)
  calm_records_at r kept None h = later_nothing h
  calm_records_at r kept (Some place) h =
      let records_it : Action (Option Bool) = on_disk (settle_for_program kept (output_name s r.output) s.service.full) in
      later_note (MarkStarted r) h (λ at. bind records_it (after_mark r at)) tt (gives_behind (AddsInner (MarkStarted r ∷ h)) records_it (after_mark r (MarkStarted r ∷ h)) (calm_recorded r (MarkStarted r ∷ h)))

  calm_records : (r : Route) (h : History) → Yields (AddsInner h) (records s r h)
  unfolding records
  calm_records r h = calm_records_at r (kept_of s h r.chunk) (mark_position (output_name s r.output) (kept_of s h r.chunk)) h

  calm_settles : (r : Route) (h : History) → Yields (AddsInner h) (marks_or_removes s r h)
  unfolding marks_or_removes
  calm_settles r h = gives_if (AddsInner h) (owes s h r.chunk) (records s r h) (drops s r.chunk h) (λ _. calm_records r h) (λ _. calm_drops r.chunk h)

  -- ---- closing

  calm_loses : (rs : List Route) (h : History) → Yields (AddsInner h) (loses s rs h)
  calm_loses [] h = later_nothing h
  calm_loses (r ∷ rs) h =
      let at : History = OnRoute r Evicted ∷ h in
      later_note (OnRoute r Evicted) h (λ at. bind (marks_or_removes s r at) (loses s rs)) tt (later_then at (marks_or_removes s r at) (loses s rs) (calm_settles r at) (calm_loses rs))

  pub calm_shuts : (chunk : ℕ) (h : History) → Yields (AddsInner h) (closes_chunk s chunk h)
  unfolding closes_chunk
  calm_shuts chunk h = later_note (ChunkClosed chunk) h (λ at. loses s (evicted_at s at chunk) at) tt (calm_loses (evicted_at s (ChunkClosed chunk ∷ h) chunk) (ChunkClosed chunk ∷ h))

  pub calm_fills : (chunk : ℕ) (h : History) → Yields (AddsInner h) (closes_if_full s chunk h)
  unfolding closes_if_full
  calm_fills chunk h = gives_if (AddsInner h) (nat_le full_chunk (size h chunk)) (closes_chunk s chunk h) (Return h) (λ _. calm_shuts chunk h) (λ _. later_nothing h)

  calm_closes : (cs : List ChunkInfo) (h : History) → Yields (AddsInner h) (closes_each s cs h)
  calm_closes [] h = later_nothing h
  calm_closes (c ∷ cs) h = later_then h (closes_chunk s c.number h) (closes_each s cs) (calm_shuts c.number h) (calm_closes cs)

  pub calm_closes_all : (h : History) → Yields (AddsInner h) (closes_all s h)
  unfolding closes_all
  calm_closes_all h = calm_closes (open_chunks h) h

  -- ---- flushes

  calm_retries : (r : Route) (h : History) → Yields (AddsInner h) (retries s r h)
  unfolding retries
  calm_retries r h =
      gives_if (AddsInner h) (may_retry (retries_at (output_at s r.output)) (tries h r)) (Ask (OnLoop Word) (λ word. note (OnRoute r (Retries word)) h)) (note_then (OnRoute r Exhausted) h (marks_or_removes s r))
      (λ _ word. later_only (OnRoute r (Retries word)) h tt) (λ _. later_note (OnRoute r Exhausted) h (marks_or_removes s r) tt (calm_settles r (OnRoute r Exhausted ∷ h)))

  calm_answers_by : (r : Route) (answer : Answer) (h : History) → Yields (AddsInner h) (applies_answer s r answer h)
  calm_answers_by r Good h = later_note (OnRoute r Delivered) h (marks_or_removes s r) tt (calm_settles r (OnRoute r Delivered ∷ h))
  calm_answers_by r Retry h = calm_retries r h
  calm_answers_by r Bad h = later_note (OnRoute r Failed) h (marks_or_removes s r) tt (calm_settles r (OnRoute r Failed ∷ h))

  calm_stands_in : (r : Route) (progress : Progress) (stage : Stage) (h : History) → Yields (AddsInner h) (notes_stage s r progress stage h)
  calm_stands_in r progress Opening h = later_only (OnRoute r (InFlight progress)) h tt
  calm_stands_in r progress (Writing link) h = later_only (OnRoute r (InFlight progress)) h tt
  calm_stands_in r progress (AwaitingAck link) h = later_only (OnRoute r (InFlight progress)) h tt
  calm_stands_in r progress (Ended answer) h = calm_answers_by r answer h

  calm_stands : (r : Route) (progress : Progress) (h : History) → Yields (AddsInner h) (stands s r progress h)
  unfolding stands
  calm_stands r progress h = calm_stands_in r progress progress.stage h

  calm_lands : (r : Route) (before : ℕ) (progress : Progress) (h : History) → Yields (AddsInner h) (notes_calls s r before progress h)
  unfolding notes_calls
  calm_lands r before progress h =
      let at : History = Sent r.output (progress.taken - before) ∷ h in
      later_note (Sent r.output (progress.taken - before)) h (stands s r progress) tt (calm_stands r progress at)

  calm_begins_with : (r : Route) (events : List Event) (h : History) → Yields (AddsInner h) (starts_with s r events h)
  unfolding starts_with
  calm_begins_with r events h =
      let flies : History → Action Progress = λ at. on_loop (starts (delivery s at r) r.output (tag_of_chunk at r.chunk) not_started) in
      let at : History = OnRoute r (FlushStarted events) ∷ h in
      later_note (OnRoute r (FlushStarted events)) h (λ at. bind (flies at) (λ progress. notes_calls s r 0 progress at)) tt
      (gives_behind (AddsInner at) (flies at) (λ progress. notes_calls s r 0 progress at) (λ progress. calm_lands r 0 progress at))

  calm_read_behind : (r : Route) (kept : ℕ) (h : History) (bytes : Option (List ℕ)) → Yields (AddsInner h) (after_read s r kept h bytes)
  calm_read_behind r kept h None = later_only IoFailed h tt
  calm_read_behind r kept h (Some bytes) =
      gives_if (AddsInner h) (is_complete_read kept bytes) (starts_with s r (events_in bytes).0 h) (Return h) (λ _. calm_begins_with r (events_in bytes).0 h) (λ _. later_nothing h)

  calm_begins_as : (r : Route) (kept : Option Kept) (h : History) → Yields (AddsInner h) (begins_as s r kept h)
  calm_begins_as r None h = later_nothing h
  calm_begins_as r (Some (InMemory content)) h = calm_begins_with r (records_of h r.chunk) h
  calm_begins_as r (Some (InFile head)) h = gives_behind (AddsInner h) (on_disk (read_content_program (InFile head))) (after_read s r (size_of (InFile head)) h) (calm_read_behind r (size_of (InFile head)) h)
  calm_begins_as r (Some (Adopted head)) h = gives_behind (AddsInner h) (on_disk (read_content_program (Adopted head))) (after_read s r (size_of (Adopted head)) h) (calm_read_behind r (size_of (Adopted head)) h)

  calm_begins : (r : Route) (h : History) → Yields (AddsInner h) (starts_flush s r h)
  unfolding starts_flush
  calm_begins r h = calm_begins_as r (kept_of s h r.chunk) h

  calm_turn : (r : Route) (h : History) → Yields (AddsInner h) (starts_if_allowed s r h)
  unfolding starts_if_allowed
  calm_turn r h = gives_if (AddsInner h) (may_start s h r) (starts_flush s r h) (Return h) (λ _. calm_begins r h) (λ _. later_nothing h)

  calm_turns : (rs : List Route) (h : History) → Yields (AddsInner h) (starts_each s rs h)
  calm_turns [] h = later_nothing h
  calm_turns (r ∷ rs) h = later_then h (starts_if_allowed s r h) (starts_each s rs) (calm_turn r h) (calm_turns rs)

  pub calm_walk : (h : History) → Yields (AddsInner h) (walk s h)
  unfolding walk
  calm_walk h = calm_turns (due_routes s h) h

  calm_goes_on : (go : Delivery → Progress → Action Progress) (r : Route) (at : Option Progress) (h : History) → Yields (AddsInner h) (goes_on s go r at h)
  calm_goes_on go r None h = later_nothing h
  calm_goes_on go r (Some progress) h = gives_behind (AddsInner h) (go (delivery s h r) progress) (λ now. notes_calls s r progress.taken now h) (λ now. calm_lands r progress.taken now h)

  calm_resumes : (go : Delivery → Progress → Action Progress) (r : Option Route) (h : History) → Yields (AddsInner h) (resumes s go r h)
  calm_resumes go None h = later_nothing h
  calm_resumes go (Some r) h = calm_goes_on go r (flight h r) h

  pub calm_has_room : (link : ℕ) (h : History) → Yields (AddsInner h) (at_room s link h)
  unfolding at_room
  calm_has_room link h = calm_resumes (λ d p. on_loop (polls d p)) (route_on_link h link) h

  pub calm_comes_back : (link : ℕ) (bytes : List ℕ) (h : History) → Yields (AddsInner h) (at_reply s link bytes h)
  unfolding at_reply
  calm_comes_back link bytes h = calm_resumes (λ d p. on_loop (backs d bytes p)) (route_on_link h link) h

  pub calm_has_broken : (link : ℕ) (h : History) → Yields (AddsInner h) (at_break s link h)
  unfolding at_break
  calm_has_broken link h = calm_resumes (λ d p. on_loop (breaks p)) (route_on_link h link) h
