-- What each action does to the history: its entries are allowed, and they keep an invariant.
use Rattle.std.proofs.Common.{◌≡◌, ℕ, zero, suc, ◌+◌, ◌-◌, ◌&&◌, min, nat_lt, Bool, true, false, cond, List, [], ◌∷◌, length, drop, Option, Some, None, refl, sym, subst}
use Rattle.std.specs.Prelude.{Contains, ◌==◌, nat_le}
use Rattle.std.proofs.lemmas.Bool.{and_parts}
use Rattle.fwd_base.specs.Limits.{full_chunk}
use Rattle.fwd_base.specs.declared.ids.LinkId.{LinkId}
use Rattle.fwd_event.specs.declared.event.Event.{Event}
use Rattle.fwd_event.specs.EventPrefix.{events_in}
use Rattle.fwd_outside.specs.Program.{entry, Return, Ask, bind}
use Rattle.fwd_outside.specs.Loop.{LoopCall, LoopProgram, Dial, Push, Close, Word, PushAnswer, Took, Again, Broke}
use Rattle.fwd_outside.specs.Disk.{DiskProgram}
use Rattle.fwd_outside.specs.Files.{FilesProgram}
use Rattle.fwd_table.specs.Outcomes.{may_retry}
use Rattle.fwd_table.specs.declared.outcome.Answer.{Answer as Answered}
use Rattle.fwd_table.specs.declared.outcome.Answer.TheVariants.{Good, Retry, Bad}
use Rattle.fwd_chunk.specs.declared.kept.Kept.{Kept}
use Rattle.fwd_chunk.specs.declared.kept.Kept.TheVariants.{InFile, Adopted, InMemory}
use Rattle.fwd_chunk.specs.Kept.{size_of}
use Rattle.fwd_chunk.specs.Content.{read_content_program}
use Rattle.fwd_store.specs.Store.{drops as removes, settle_for_program}
use Rattle.fwd_flush.specs.declared.judgement.Judged.{Judged}
use Rattle.fwd_flush.specs.declared.judgement.Judged.TheVariants.{More, Right, Wrong, Fatal}
use Rattle.fwd_flush.specs.declared.stage.Stage.{Stage}
use Rattle.fwd_flush.specs.declared.stage.Stage.TheVariants.{Opening, Writing, AwaitingAck, Ended}
use Rattle.fwd_flush.specs.FlushProgram.{Progress, Delivery, link_in, ends, continues_by, confirms_payload, pushed_on, pushes, writes, dialed_on, not_started, starts, with_reply_bytes, polls_in, polls, backs_in, backs, breaks_in, breaks}
use Rattle.fwd_settings.specs.declared.settings_types.AllSettings.{AllSettings}
use Rattle.fwd_model.specs.Fact.{Fact, History, Route, FlushStarted, InFlight, Retries, Delivered, Failed, Exhausted, Evicted, ChunkClosed, Sent, OnRoute, MarkStarted, Marked, Removed, FileLeft, IoFailed}
use Rattle.fwd_model.specs.Trace.{Call, Answer, Action, OnLoop, OnDisk, OnFiles, OnKeeper, Note}
use Rattle.fwd_model.specs.DeviceActions.{on_loop, on_disk, on_files}
use Rattle.fwd_model.specs.Settings.{output_at, output_name, retries_at}
use Rattle.fwd_model.specs.Chunks.{ChunkInfo, open_chunks, is_closed, size, records as records_of}
use Rattle.fwd_model.specs.ChunkStorage.{kept_of, mark_position}
use Rattle.fwd_model.specs.Routes.{owes, tries, flight, route_on_link, is_idle}
use Rattle.fwd_model.specs.Payloads.{delivery, tag_of_chunk}
use Rattle.fwd_model.specs.Limits.{evicted_at}
use Rattle.fwd_model.specs.Dispatch.{due_routes, may_start, has_place, fits}
use Rattle.fwd_model.specs.Notes.{note_then, note}
use Rattle.fwd_model.specs.ResolveActions.{dropped, drops, after_mark, marks_at, records, marks_or_removes}
use Rattle.fwd_model.specs.CloseActions.{loses, closes_chunk, closes_if_full, closes_each, closes_all}
use Rattle.fwd_model.specs.FlushActions.{retries, applies_answer, notes_stage, stands, notes_calls, starts_with, is_complete_read, after_read, begins_as, starts_flush, starts_if_allowed, starts_each, walk, goes_on, resumes, at_room, at_reply, at_break}
use Rattle.fwd_theorem_trace.specs.Past.{Past, logged}
use Rattle.fwd_theorem_trace.specs.Allowed.{IsChunk, IsFinished, FactAllowed, IsAllowed, Allowed}
use Rattle.fwd_theorem_trace.proofs.Members.{here, deeper}
use Rattle.fwd_theorem_trace.proofs.Traversal.{Traverses, Extends, walks_bind, walks_if}
use Rattle.fwd_theorem_trace.proofs.Persistence.{shut_since, chunk_since, open_is_chunk, idle_is_shut, lost_is_shut, shut_now, flight_shut}

-- facts about existing chunks, and bytes handed to outputs
abbrev pub IsInnerFact : Fact → Type 0
IsInnerFact (ChunkClosed chunk) = Unit {0}
IsInnerFact (Sent output bytes) = Unit {0}
IsInnerFact (OnRoute r outcome) = Unit {0}
IsInnerFact (MarkStarted r) = Unit {0}
IsInnerFact (Marked r) = Unit {0}
IsInnerFact (Removed chunk) = Unit {0}
IsInnerFact (FileLeft chunk) = Unit {0}
IsInnerFact IoFailed = Unit {0}
IsInnerFact fact = ⊥

-- calls on an existing link
abbrev pub IsOnLink : LoopCall → Type 0
IsOnLink (Push link bytes) = Unit {0}
IsOnLink (Close link) = Unit {0}
IsOnLink call = ⊥

abbrev pub IsInnerLoop : LoopCall → Type 0
IsInnerLoop (Dial output tag) = Unit {0}
IsInnerLoop Word = Unit {0}
IsInnerLoop call = IsOnLink call

abbrev pub IsInner : Call → Type 0
IsInner (OnLoop call) = IsInnerLoop call
IsInner (OnDisk call) = Unit {0}
IsInner (OnFiles call) = Unit {0}
IsInner (OnKeeper call) = ⊥
IsInner (Note fact) = IsInnerFact fact

-- ---- programs on an existing link

abbrev pub OnLinks : {R : Type 0} → LoopProgram R → Type 0
OnLinks (Return x) = Unit {0}
OnLinks (Ask call go) = IsOnLink call × ((answer : _) → OnLinks (go answer))

links_if : (b : Bool) (p q : LoopProgram Progress) → OnLinks p → OnLinks q → OnLinks (cond b p q)
links_if true p q first second = first
links_if false p q first second = second

links_goes_by : (link : LinkId) (p : Progress) (j : Judged) → OnLinks (continues_by link p j)
links_goes_by link p More = tt
links_goes_by link p Right = (tt, λ _. tt)
links_goes_by link p Wrong = (tt, λ _. tt)
links_goes_by link p Fatal = (tt, λ _. tt)

links_confirms : (d : Delivery) (link : LinkId) (p : Progress) → OnLinks (confirms_payload d link p)
unfolding confirms_payload
links_confirms d link p = links_if d.wanted (continues_by link p (d.judged p.reply)) (ends link Good p) (links_goes_by link p (d.judged p.reply)) (tt, λ _. tt)

links_pushed_on : (go : Progress → LoopProgram Progress) (link : LinkId) (rest : List ℕ) (p : Progress) (answer : PushAnswer) → ((now : Progress) → OnLinks (go now)) → OnLinks (pushed_on go link rest p answer)
links_pushed_on go link rest p (Took n) more =
    let now : Progress = record p { taken = p.taken + min n (length rest) } in
    links_if (n == 0) (ends link Retry p) (go now) (tt, λ _. tt) (more now)
links_pushed_on go link rest p Again more = tt
links_pushed_on go link rest p Broke more = (tt, λ _. tt)

links_pushes : (left : ℕ) (d : Delivery) (link : LinkId) (p : Progress) → OnLinks (pushes left d link p)
links_pushes zero d link p = links_confirms d link p
links_pushes (suc left) d link p =
    let rest : List ℕ = drop p.taken d.payload in
    links_if (nat_lt p.taken (length d.payload)) (Ask (Push link.0 rest) (pushed_on (pushes left d link) link rest p)) (confirms_payload d link p)
    (tt, λ answer. links_pushed_on (pushes left d link) link rest p answer (links_pushes left d link)) (links_confirms d link p)

links_writes : (d : Delivery) (link : LinkId) (p : Progress) → OnLinks (writes d link p)
unfolding writes
links_writes d link p = links_pushes (length d.payload) d link p

pub links_dialed_on : (d : Delivery) (p : Progress) (answer : Option ℕ) → OnLinks (dialed_on d p answer)
links_dialed_on d p None = tt
links_dialed_on d p (Some number) = let link : LinkId = record { 0 = number } in links_writes d link (record p { stage = Writing link })

links_polls_in : (d : Delivery) (p : Progress) (stage : Stage) → OnLinks (polls_in d p stage)
links_polls_in d p (Writing link) = links_writes d link p
links_polls_in d p stage = tt

pub links_polls : (d : Delivery) (p : Progress) → OnLinks (polls d p)
unfolding polls
links_polls d p = links_polls_in d p p.stage

links_backs_in : (d : Delivery) (bytes : List ℕ) (p : Progress) (stage : Stage) → OnLinks (backs_in d bytes p stage)
links_backs_in d bytes p (AwaitingAck link) = links_confirms d link (with_reply_bytes d bytes p)
links_backs_in d bytes p stage = tt

pub links_backs : (d : Delivery) (bytes : List ℕ) (p : Progress) → OnLinks (backs d bytes p)
unfolding backs
links_backs d bytes p = links_backs_in d bytes p p.stage

links_breaks_in : (p : Progress) (link : Option LinkId) → OnLinks (breaks_in p link)
links_breaks_in p (Some link) = (tt, λ _. tt)
links_breaks_in p None = tt

pub links_breaks : (p : Progress) → OnLinks (breaks p)
unfolding breaks
links_breaks p = links_breaks_in p (link_in p.stage)

-- what each allowed entry keeps
abbrev pub IsKept : AllSettings → (Call → Type 0) → (Past → Type 0) → Type 0
IsKept s IsOne K = (call : Call) (answer : Answer call) (past : Past) → IsOne call → IsAllowed s call past → K past → K (entry call answer ∷ past)

module _ (s : AllSettings) (K : Past → Type 0) (stable : IsKept s IsInner K) where
  abbrev pub Now : Past → Type 0
  Now past = Allowed s past × K past

  -- the action returns the history so far, and K is kept
  abbrev pub ReturnsHistory : Past → Action History → Type 0
  ReturnsHistory past p = Traverses (Allowed s) (λ (h : History) (now : Past). (h ≡ logged now) × K now) past p

  -- the action logs nothing, and K is kept
  abbrev pub LogsNothing : {R : Type 0} → Past → Action R → Type 0
  LogsNothing {R = R} past p = Traverses (Allowed s) (λ (x : R) (now : Past). (logged now ≡ logged past) × K now) past p

  on : (call : Call) (answer : Answer call) (past : Past) → IsInner call → IsAllowed s call past → Now past → Now (entry call answer ∷ past)
  on call answer past inner due now = ((due, now.0), stable call answer past inner due now.1)

  deed : (fact : Fact) (past : Past) (next : History → Action History) → IsInnerFact fact → FactAllowed s fact past → Now past
      → ((answer : Unit {0}) → Now (entry (Note fact) answer ∷ past) → ReturnsHistory (entry (Note fact) answer ∷ past) (next (fact ∷ logged past))) → ReturnsHistory past (note_then fact (logged past) next)
  deed fact past next inner due now more = (now.0, λ answer. more answer (on (Note fact) answer past inner due now))

  only : (fact : Fact) (past : Past) → IsInnerFact fact → FactAllowed s fact past → Now past → ReturnsHistory past (note fact (logged past))
  only fact past inner due now = deed fact past (λ h. Return h) inner due now (λ answer then. (then.0, (refl, then.1)))

  nothing : (past : Past) → Now past → ReturnsHistory past (Return (logged past))
  nothing past now = (now.0, (refl, now.1))

  pub tells_then : (past : Past) (p : Action History) (next : History → Action History) → ReturnsHistory past p
      → ((now : Past) → Extends past now → Now now → ReturnsHistory now (next (logged now))) → ReturnsHistory past (bind p next)
  tells_then past p next first second =
      let M : History → Past → Type 0 = λ (h : History) (now : Past). (h ≡ logged now) × K now in
      walks_bind (Allowed s) M M past p next first (λ h now grown due is. subst (λ (x : History). ReturnsHistory now (next x)) (sym is.0) (second now grown (due, is.1)))

  pub tells_behind : {R : Type 0} (past : Past) (p : Action R) (next : R → History → Action History) → LogsNothing past p
      → ((x : R) (now : Past) → Extends past now → Now now → logged now ≡ logged past → ReturnsHistory now (next x (logged now))) → ReturnsHistory past (bind p (λ (x : R). next x (logged past)))
  tells_behind {R = R} past p next first second =
      walks_bind (Allowed s) (λ (x : R) (now : Past). (logged now ≡ logged past) × K now) (λ (h : History) (now : Past). (h ≡ logged now) × K now) past p (λ (x : R). next x (logged past)) first
      (λ x now grown due is. subst (λ (h : History). ReturnsHistory now (next x h)) is.0 (second x now grown (due, is.1) is.0))

  tells_if : (b : Bool) (past : Past) (p q : Action History) → (b ≡ true → ReturnsHistory past p) → (b ≡ false → ReturnsHistory past q) → ReturnsHistory past (cond b p q)
  tells_if b past p q first second = walks_if (Allowed s) (λ (h : History) (now : Past). (h ≡ logged now) × K now) b past p q first second

  pub disk_rests : {R : Type 0} (p : DiskProgram R) (past : Past) → Now past → LogsNothing past (on_disk p)
  disk_rests (Return x) past now = (now.0, (refl, now.1))
  disk_rests (Ask call go) past now = (now.0, λ answer. disk_rests (go answer) (entry (OnDisk call) answer ∷ past) (on (OnDisk call) answer past tt tt now))

  pub files_rests : {R : Type 0} (p : FilesProgram R) (past : Past) → Now past → LogsNothing past (on_files p)
  files_rests (Return x) past now = (now.0, (refl, now.1))
  files_rests (Ask call go) past now = (now.0, λ answer. files_rests (go answer) (entry (OnFiles call) answer ∷ past) (on (OnFiles call) answer past tt tt now))

  link_rests : {R : Type 0} (p : LoopProgram R) (past : Past) → OnLinks p → Now past → LogsNothing past (on_loop p)
  link_rests (Return x) past links now = (now.0, (refl, now.1))
  link_rests (Ask (Push link bytes) go) past links now = (now.0, λ answer. link_rests (go answer) (entry (OnLoop (Push link bytes)) answer ∷ past) (links.1 answer) (on (OnLoop (Push link bytes)) answer past tt tt now))
  link_rests (Ask (Close link) go) past links now = (now.0, λ answer. link_rests (go answer) (entry (OnLoop (Close link)) answer ∷ past) (links.1 answer) (on (OnLoop (Close link)) answer past tt tt now))
  link_rests (Ask call go) past links now = absurd links.0

  -- ---- resolving

  tells_dropped : (chunk : ℕ) (past : Past) (answer : Option (Unit {0})) → IsFinished s chunk (logged past) → Now past → ReturnsHistory past (dropped chunk (logged past) answer)
  tells_dropped chunk past (Some done) is now = only (Removed chunk) past tt is now
  tells_dropped chunk past None is now =
      deed IoFailed past (note (FileLeft chunk)) tt tt now (λ answer then. only (FileLeft chunk) (entry (Note IoFailed) answer ∷ past) tt (record { shut = is.shut; owed = is.owed }) then)

  done_still : (chunk : ℕ) (h now : History) → now ≡ h → IsFinished s chunk h → IsFinished s chunk now
  done_still chunk h now same is = subst (IsFinished s chunk) (sym same) is

  tells_drops : (chunk : ℕ) (past : Past) → IsFinished s chunk (logged past) → Now past → ReturnsHistory past (drops s chunk (logged past))
  unfolding drops
  tells_drops chunk past is now =
      tells_behind past (on_disk (removes (kept_of s (logged past) chunk))) (λ answer h. dropped chunk h answer) (disk_rests (removes (kept_of s (logged past) chunk)) past now)
      (λ answer later grown then same. tells_dropped chunk later answer (done_still chunk (logged past) (logged later) same is) then)

  tells_recorded : (r : Route) (past : Past) (answer : Option Bool) → is_closed (logged past) r.chunk ≡ true → Now past → ReturnsHistory past (after_mark r (logged past) answer)
  tells_recorded r past (Some done) shut now = only (Marked r) past tt shut now
  tells_recorded r past None shut now = only IoFailed past tt tt now

  tells_records_at : (r : Route) (kept : Option Kept) (place : Option ℕ) (past : Past) → is_closed (logged past) r.chunk ≡ true → Now past → ReturnsHistory past (marks_at s r kept place (logged past))
  tells_records_at r kept None past shut now = nothing past now
  tells_records_at r kept (Some place) past shut now =
      deed (MarkStarted r) past (λ at. bind (on_disk (settle_for_program kept (output_name s r.output) s.service.full)) (after_mark r at)) tt shut now
      (λ answer then.
      let at : Past = entry (Note (MarkStarted r)) answer ∷ past in
      tells_behind at (on_disk (settle_for_program kept (output_name s r.output) s.service.full)) (λ answer h. after_mark r h answer) (disk_rests (settle_for_program kept (output_name s r.output) s.service.full) at then)
      (λ answer later grown still same. tells_recorded r later answer (shut_since at later r.chunk grown shut) still))

  tells_records : (r : Route) (past : Past) → is_closed (logged past) r.chunk ≡ true → Now past → ReturnsHistory past (records s r (logged past))
  unfolding records
  tells_records r past shut now = tells_records_at r (kept_of s (logged past) r.chunk) (mark_position (output_name s r.output) (kept_of s (logged past) r.chunk)) past shut now

  pub tells_settles : (r : Route) (past : Past) → is_closed (logged past) r.chunk ≡ true → Now past → ReturnsHistory past (marks_or_removes s r (logged past))
  unfolding marks_or_removes
  tells_settles r past shut now =
      tells_if (owes s (logged past) r.chunk) past (records s r (logged past)) (drops s r.chunk (logged past))
      (λ yes. tells_records r past shut now) (λ no. tells_drops r.chunk past (record { shut = shut; owed = no }) now)

  -- ---- closing

  pub tells_loses : (rs : List Route) (past : Past) → ((r : Route) → Contains rs r → is_closed (logged past) r.chunk ≡ true) → Now past → ReturnsHistory past (loses s rs (logged past))
  tells_loses [] past shut now = nothing past now
  tells_loses (r ∷ rs) past shut now =
      deed (OnRoute r Evicted) past (λ at. bind (marks_or_removes s r at) (loses s rs)) tt (shut r (here r rs)) now
      (λ answer then.
      let at : Past = entry (Note (OnRoute r Evicted)) answer ∷ past in
      tells_then at (marks_or_removes s r (logged at)) (loses s rs) (tells_settles r at (shut r (here r rs)) then)
      (λ later grown still. tells_loses rs later (λ q has. shut_since at later q.chunk grown (shut q (deeper r rs q has))) still))

  pub tells_shuts : (chunk : ℕ) (past : Past) → IsChunk (logged past) chunk → Now past → ReturnsHistory past (closes_chunk s chunk (logged past))
  unfolding closes_chunk
  tells_shuts chunk past is now =
      deed (ChunkClosed chunk) past (λ at. loses s (evicted_at s at chunk) at) tt is now
      (λ answer then.
      tells_loses (evicted_at s (ChunkClosed chunk ∷ logged past) chunk) (entry (Note (ChunkClosed chunk)) answer ∷ past)
      (λ r has. lost_is_shut s (ChunkClosed chunk ∷ logged past) chunk (shut_now chunk (logged past)) r has) then)

  pub tells_fills : (chunk : ℕ) (past : Past) → IsChunk (logged past) chunk → Now past → ReturnsHistory past (closes_if_full s chunk (logged past))
  unfolding closes_if_full
  tells_fills chunk past is now =
      tells_if (nat_le full_chunk (size (logged past) chunk)) past (closes_chunk s chunk (logged past)) (Return (logged past)) (λ yes. tells_shuts chunk past is now) (λ no. nothing past now)

  tells_closes : (cs : List ChunkInfo) (past : Past) → ((c : ChunkInfo) → Contains cs c → IsChunk (logged past) c.number) → Now past → ReturnsHistory past (closes_each s cs (logged past))
  tells_closes [] past are now = nothing past now
  tells_closes (c ∷ cs) past are now =
      tells_then past (closes_chunk s c.number (logged past)) (closes_each s cs) (tells_shuts c.number past (are c (here c cs)) now)
      (λ later grown then. tells_closes cs later (λ d has. chunk_later past later d grown (are d (deeper c cs d has))) then)
    where
      chunk_later : (past now : Past) (d : ChunkInfo) → Extends past now → IsChunk (logged past) d.number → IsChunk (logged now) d.number
      chunk_later past now d grown is = record { chunk = is.chunk; stands = chunk_since past now is.chunk grown is.stands; is = is.is }

  pub tells_closes_all : (past : Past) → Now past → ReturnsHistory past (closes_all s (logged past))
  unfolding closes_all
  tells_closes_all past now = tells_closes (open_chunks (logged past)) past (λ c has. open_is_chunk (logged past) c has) now

  -- ---- flushes

  tells_retries : (r : Route) (past : Past) → is_closed (logged past) r.chunk ≡ true → Now past → ReturnsHistory past (retries s r (logged past))
  unfolding retries
  tells_retries r past shut now =
      tells_if (may_retry (retries_at (output_at s r.output)) (tries (logged past) r)) past (Ask (OnLoop Word) (λ word. note (OnRoute r (Retries word)) (logged past))) (note_then (OnRoute r Exhausted) (logged past) (marks_or_removes s r))
      (λ yes. (now.0, λ word. only (OnRoute r (Retries word)) (entry (OnLoop Word) word ∷ past) tt shut (on (OnLoop Word) word past tt tt now)))
      (λ no. deed (OnRoute r Exhausted) past (marks_or_removes s r) tt shut now (λ answer then. tells_settles r (entry (Note (OnRoute r Exhausted)) answer ∷ past) shut then))

  tells_answers_by : (r : Route) (answer : Answered) (past : Past) → is_closed (logged past) r.chunk ≡ true → Now past → ReturnsHistory past (applies_answer s r answer (logged past))
  tells_answers_by r Good past shut now = deed (OnRoute r Delivered) past (marks_or_removes s r) tt shut now (λ answer then. tells_settles r (entry (Note (OnRoute r Delivered)) answer ∷ past) shut then)
  tells_answers_by r Retry past shut now = tells_retries r past shut now
  tells_answers_by r Bad past shut now = deed (OnRoute r Failed) past (marks_or_removes s r) tt shut now (λ answer then. tells_settles r (entry (Note (OnRoute r Failed)) answer ∷ past) shut then)

  tells_stands_in : (r : Route) (progress : Progress) (stage : Stage) (past : Past) → is_closed (logged past) r.chunk ≡ true → Now past → ReturnsHistory past (notes_stage s r progress stage (logged past))
  tells_stands_in r progress Opening past shut now = only (OnRoute r (InFlight progress)) past tt shut now
  tells_stands_in r progress (Writing link) past shut now = only (OnRoute r (InFlight progress)) past tt shut now
  tells_stands_in r progress (AwaitingAck link) past shut now = only (OnRoute r (InFlight progress)) past tt shut now
  tells_stands_in r progress (Ended answer) past shut now = tells_answers_by r answer past shut now

  tells_stands : (r : Route) (progress : Progress) (past : Past) → is_closed (logged past) r.chunk ≡ true → Now past → ReturnsHistory past (stands s r progress (logged past))
  unfolding stands
  tells_stands r progress past shut now = tells_stands_in r progress progress.stage past shut now

  tells_lands : (r : Route) (before : ℕ) (progress : Progress) (past : Past) → is_closed (logged past) r.chunk ≡ true → Now past → ReturnsHistory past (notes_calls s r before progress (logged past))
  unfolding notes_calls
  tells_lands r before progress past shut now =
      deed (Sent r.output (progress.taken - before)) past (stands s r progress) tt tt now
      (λ answer then. tells_stands r progress (entry (Note (Sent r.output (progress.taken - before))) answer ∷ past) shut then)

  starts_rests : (d : Delivery) (output : ℕ) (tag : List ℕ) (past : Past) → IsAllowed s (OnLoop (Dial output tag)) past → Now past → LogsNothing past (on_loop (starts d output tag not_started))
  unfolding starts
  starts_rests d output tag past due now =
      (now.0, λ answer. link_rests (dialed_on d not_started answer) (entry (OnLoop (Dial output tag)) answer ∷ past) (links_dialed_on d not_started answer) (on (OnLoop (Dial output tag)) answer past tt due now))

  tells_begins_with : (r : Route) (events : List Event) (past : Past) → is_closed (logged past) r.chunk ≡ true → may_start s (logged past) r ≡ true → Now past → ReturnsHistory past (starts_with s r events (logged past))
  unfolding starts_with
  tells_begins_with r events past shut may now =
      deed (OnRoute r (FlushStarted events)) past (λ at. bind (on_loop (starts (delivery s at r) r.output (tag_of_chunk at r.chunk) not_started)) (λ progress. notes_calls s r 0 progress at)) tt (shut, may) now
      (λ answer then.
      let at : Past = entry (Note (OnRoute r (FlushStarted events))) answer ∷ past in
      tells_behind at (on_loop (starts (delivery s (logged at) r) r.output (tag_of_chunk (logged at) r.chunk) not_started)) (λ progress h. notes_calls s r 0 progress h)
      (starts_rests (delivery s (logged at) r) r.output (tag_of_chunk (logged at) r.chunk) at (refl, refl) then)
      (λ progress later grown still same. tells_lands r 0 progress later (shut_since at later r.chunk grown shut) still))

  tells_read_behind : (r : Route) (kept : ℕ) (past : Past) (bytes : Option (List ℕ)) → is_closed (logged past) r.chunk ≡ true → may_start s (logged past) r ≡ true → Now past → ReturnsHistory past (after_read s r kept (logged past) bytes)
  tells_read_behind r kept past None shut may now = only IoFailed past tt tt now
  tells_read_behind r kept past (Some bytes) shut may now =
      tells_if (is_complete_read kept bytes) past (starts_with s r (events_in bytes).0 (logged past)) (Return (logged past)) (λ yes. tells_begins_with r (events_in bytes).0 past shut may now) (λ no. nothing past now)

  tells_begins_read : (r : Route) (kept : Kept) (past : Past) → is_closed (logged past) r.chunk ≡ true → may_start s (logged past) r ≡ true → Now past
      → ReturnsHistory past (bind (on_disk (read_content_program kept)) (after_read s r (size_of kept) (logged past)))
  tells_begins_read r kept past shut may now =
      tells_behind past (on_disk (read_content_program kept)) (λ bytes h. after_read s r (size_of kept) h bytes) (disk_rests (read_content_program kept) past now)
      (λ bytes later grown then same. tells_read_behind r (size_of kept) later bytes (shut_since past later r.chunk grown shut) (subst (λ (h : History). may_start s h r ≡ true) (sym same) may) then)

  tells_begins_as : (r : Route) (kept : Option Kept) (past : Past) → is_closed (logged past) r.chunk ≡ true → may_start s (logged past) r ≡ true → Now past → ReturnsHistory past (begins_as s r kept (logged past))
  tells_begins_as r None past shut may now = nothing past now
  tells_begins_as r (Some (InMemory content)) past shut may now = tells_begins_with r (records_of (logged past) r.chunk) past shut may now
  tells_begins_as r (Some (InFile head)) past shut may now = tells_begins_read r (InFile head) past shut may now
  tells_begins_as r (Some (Adopted head)) past shut may now = tells_begins_read r (Adopted head) past shut may now

  tells_begins : (r : Route) (past : Past) → is_closed (logged past) r.chunk ≡ true → may_start s (logged past) r ≡ true → Now past → ReturnsHistory past (starts_flush s r (logged past))
  unfolding starts_flush
  tells_begins r past shut may now = tells_begins_as r (kept_of s (logged past) r.chunk) past shut may now

  tells_turn : (r : Route) (past : Past) → Now past → ReturnsHistory past (starts_if_allowed s r (logged past))
  unfolding starts_if_allowed
  tells_turn r past now =
      tells_if (may_start s (logged past) r) past (starts_flush s r (logged past)) (Return (logged past))
      (λ may. tells_begins r past (idle_is_shut s (logged past) r (and_parts (is_idle s (logged past) r) (has_place s (logged past) r && fits s (logged past) r) may).0) may now) (λ no. nothing past now)

  tells_turns : (rs : List Route) (past : Past) → Now past → ReturnsHistory past (starts_each s rs (logged past))
  tells_turns [] past now = nothing past now
  tells_turns (r ∷ rs) past now = tells_then past (starts_if_allowed s r (logged past)) (starts_each s rs) (tells_turn r past now) (λ later grown then. tells_turns rs later then)

  pub tells_walk : (past : Past) → Now past → ReturnsHistory past (walk s (logged past))
  unfolding walk
  tells_walk past now = tells_turns (due_routes s (logged past)) past now

  tells_goes_on : (go : Delivery → Progress → LoopProgram Progress) (r : Route) (past : Past) (at : Option Progress) → flight (logged past) r ≡ at
      → ((d : Delivery) (p : Progress) → OnLinks (go d p)) → Now past → ReturnsHistory past (goes_on s (λ d p. on_loop (go d p)) r at (logged past))
  tells_goes_on go r past None is links now = nothing past now
  tells_goes_on go r past (Some progress) is links now =
      tells_behind past (on_loop (go (delivery s (logged past) r) progress)) (λ p h. notes_calls s r progress.taken p h) (link_rests (go (delivery s (logged past) r) progress) past (links (delivery s (logged past) r) progress) now)
      (λ p later grown then same. tells_lands r progress.taken p later (shut_since past later r.chunk grown (flight_shut s past r progress now.0 is)) then)

  tells_resumes : (go : Delivery → Progress → LoopProgram Progress) (r : Option Route) (past : Past) → ((d : Delivery) (p : Progress) → OnLinks (go d p)) → Now past
      → ReturnsHistory past (resumes s (λ d p. on_loop (go d p)) r (logged past))
  tells_resumes go None past links now = nothing past now
  tells_resumes go (Some r) past links now = tells_goes_on go r past (flight (logged past) r) refl links now

  pub tells_has_room : (link : ℕ) (past : Past) → Now past → ReturnsHistory past (at_room s link (logged past))
  unfolding at_room
  tells_has_room link past now = tells_resumes (λ d p. polls d p) (route_on_link (logged past) link) past links_polls now

  pub tells_comes_back : (link : ℕ) (bytes : List ℕ) (past : Past) → Now past → ReturnsHistory past (at_reply s link bytes (logged past))
  unfolding at_reply
  tells_comes_back link bytes past now = tells_resumes (λ d p. backs d bytes p) (route_on_link (logged past) link) past (λ d p. links_backs d bytes p) now

  pub tells_has_broken : (link : ℕ) (past : Past) → Now past → ReturnsHistory past (at_break s link (logged past))
  unfolding at_break
  tells_has_broken link past now = tells_resumes (λ d p. breaks p) (route_on_link (logged past) link) past (λ d p. links_breaks p) now
