-- The results of a store call that takes a batch, and the facts and calls after it.
use Rattle.std.proofs.Common.{◌≡◌, ◌≢◌, ℕ, ◌≤◌, ◌<◌, Bool, true, false, not, inl, inr, List, [], ◌∷◌, length, Option, Some, None, refl, sym, ◌∙◌, ap, subst, arith}
use Rattle.std.specs.Prelude.{◌==◌, ◌&&◌, ◌↔◌, nat_lt, if◌then◌else◌, option_map, is_some, find, All, IsTrue, Result, Ok, Err}
use Rattle.std.specs.List.{list_any}
use Rattle.std.specs.FinMap as map
use Rattle.std.specs.Str.{bytes_eq}
use Rattle.std.proofs.lemmas.Bool.{cases_Bool, eq-eqb, lt-ltb, le-ltb}
use Rattle.std.proofs.lemmas.List.Elements.{All-head, All-tail}
use Rattle.fwd_base.specs.Limits.{largest_batch, numbers_end}
use Rattle.fwd_base.specs.declared.ids.ChunkId.{ChunkId}
use Rattle.fwd_outside.specs.Program.{Return, Execution, bind}
use Rattle.fwd_outside.specs.Log.{LogGrew, Completes as DidOne, IsBegun as BeganOne}
use Rattle.fwd_outside.proofs.LogGrowth.{grew_none}
use Rattle.fwd_outside.specs.Disk.{DiskLog, DiskEntry, DiskProgram}
use Rattle.fwd_outside.specs.declared.home.Home.{Home}
use Rattle.fwd_event.specs.Event.{AreEvents}
use Rattle.fwd_chunk.specs.declared.kept.Kept.{Kept}
use Rattle.fwd_chunk.specs.declared.kept.Kept.TheVariants.{InFile, Adopted, InMemory}
use Rattle.fwd_chunk.specs.Kept.{after_append, size_of}
use Rattle.fwd_settings.specs.declared.settings_types.AllSettings.{AllSettings}
use Rattle.fwd_store.specs.OpenChunk.{Opened, open_for, is_for, without}
use Rattle.fwd_store.specs.StoreState.{Stored}
use Rattle.fwd_store.specs.Store.{IsSound as IsStoreSound, CanGrow, chunk_for, has_no_number, accept_program, append_to_program, begins_as, sealed, with_new, with_kept, new_kept, new_name, after_failed_append, AcceptsBatch, AbandonsBatch}
use Rattle.fwd_store.specs.declared.answer.Accepted.{Accepted as Answer}
use Rattle.fwd_store.specs.declared.answer.StoreRefusal.{StoreRefusal}
use Rattle.fwd_store.specs.declared.answer.StoreRefusal.TheVariants.{DiskFailed, NoNumber}
use Rattle.fwd_model.specs.Fact.{History, Batch, AppendedTo, Offered, Accepted, Refused, ChunkClosed, IoFailed, NotStored, NoNumber as NoneLeft}
use Rattle.fwd_model.specs.Settings.{home_at, names_for}
use Rattle.fwd_model.specs.Chunks.{ChunkInfo, next, is_closed, is_from, open_chunks, open_chunk, size, encoded}
use Rattle.fwd_model.specs.ChunkStorage.{kept_of, name_for}
use Rattle.fwd_model.specs.Trace.{Action}
use Rattle.fwd_model.specs.CallLogs.{CallLogs, Leads, IsBegun}
use Rattle.fwd_model.specs.DeviceActions.{on_disk}
use Rattle.fwd_model.specs.Notes.{note_then}
use Rattle.fwd_model.specs.Refines.{CompletedWith}
use Rattle.fwd_model.specs.Acceptance.{Acceptance, taken, ends_refused, refuses, finishes_append, finishes_create, appends, starts_chunk, stores}
use Rattle.fwd_model.proofs.Actions.{fact_noted, goes_on as then_goes_on, begun_trans}
use Rattle.fwd_model.proofs.Refinement.{completes_idle, completes_bind}
use Rattle.fwd_engine_state.specs.StateRepresents.{StateRepresents, is_open}
use Rattle.fwd_engine_state.specs.declared.state.State.{State}
use Rattle.fwd_engine_state.proofs.ChunksAndAttempts.{open_is, open_given}
use Rattle.fwd_engine_state.proofs.ChunkOrder.{next_least}
use Rattle.fwd_engine_state.proofs.OtherFacts.{state_after_other_fact as state_stays}
use Rattle.fwd_engine_state.proofs.StreamSteps as input_streams
use Rattle.fwd_engine_state.proofs.FileSteps as followed_files
use Rattle.fwd_engine_state.specs.StoreRepresents.{StoreRepresents}
use Rattle.fwd_engine_state.proofs.OpenChunks.{numbered, opened_without_shut}
use Rattle.fwd_engine_state.proofs.ChunkMap.{same_number}
use Rattle.fwd_engine_state.proofs.RemovedChunks.{store_after_close}
use Rattle.fwd_engine_state.proofs.AcceptedBatches.{IsHanded, chunk_is, calls_appends, calls_begins, store_after_begin, kept_new, store_after_append, store_after_used_number, store_after_offer}
use Rattle.fwd_engine_state.specs.HistoryInvariant.{IsSound}
use Rattle.fwd_engine_state.specs.PartsRepresent.{PartsRepresent, PartsRepresentIdle, IsClosing}
use Rattle.fwd_engine_state.specs.RefinesAction.{with_disk}
use Rattle.fwd_engine_state.specs.declared.parts.Parts.{Parts}
use Rattle.fwd_engine_state.proofs.InvariantSteps.{sound_after_begin, sound_after_append, sound_after_fact, sound_any}
use Rattle.fwd_engine_chunks.proofs.ResolutionLemmas.{disk_completed, disk_begun}
use Rattle.fwd_engine_chunks.specs.BatchOutcome.{IsEncoded, StoreIsAhead, place_of, behind, StoreHasTaken, goes_on, failed_history, WasOpen, refuses_after_fault}

-- ---- actions

-- no disk call was made
pub no_disk_call : {R : Type 0} (others : CallLogs) (old new : DiskLog) (p : Action R) → LogGrew old new [] → Leads (with_disk old others) (with_disk new others) p p
no_disk_call others old new p grew = record {
  entries = [];
  asked = record { loop = grew_none others.loop; disk = grew; files = grew_none others.files; keeper = grew_none others.keeper };
  way = refl;
}

-- what the parts represent after a batch was accepted or refused
abbrev pub RepresentsBatch : AllSettings → Parts → Bool → Acceptance → Type 0
RepresentsBatch s parts was_taken a = (a.taken ≡ was_taken) × PartsRepresentIdle s parts a.history

pub taken_behind : (s : AllSettings) (parts : Parts) (a b : CallLogs) (p : Action History) → CompletedWith (λ (now : History). PartsRepresentIdle s parts now) a b p → CompletedWith (RepresentsBatch s parts true) a b (bind p taken)
taken_behind s parts a b p acted =
    completes_bind (λ (now : History). PartsRepresentIdle s parts now) (RepresentsBatch s parts true) b p taken acted (λ now shows. completes_idle (RepresentsBatch s parts true) b (record { history = now; taken = true }) (refl, shows))

pub given_up_behind : (s : AllSettings) (parts : Parts) (a b : CallLogs) (p : Action History) → CompletedWith (λ (now : History). PartsRepresentIdle s parts now) a b p → CompletedWith (RepresentsBatch s parts false) a b (bind p ends_refused)
given_up_behind s parts a b p acted =
    completes_bind (λ (now : History). PartsRepresentIdle s parts now) (RepresentsBatch s parts false) b p ends_refused acted (λ now shows. completes_idle (RepresentsBatch s parts false) b (record { history = now; taken = false }) (refl, shows))

-- ---- open chunks

found_any : (input : ℕ) (tag : List ℕ) (cs : List ChunkInfo) (c : ChunkInfo) → find (λ (c : ChunkInfo). is_from input c.input && bytes_eq c.tag tag) cs ≡ Some c → list_any (λ (d : ChunkInfo). d.number == c.number) cs ≡ true
found_any input tag [] c found = absurd (cc found)
found_any input tag (d ∷ cs) c found = elim (cases_Bool (is_from input d.input && bytes_eq d.tag tag)) [
  | inl is ↦ let same : d ≡ c = cc (rw is at found) in rw (eq-eqb d.number c.number (ap (λ (x : ChunkInfo). x.number) same)) refl
  | inr isnt ↦ elim (cases_Bool (d.number == c.number)) [
    | inl same ↦ rw same refl
    | inr differs ↦ rw differs (found_any input tag cs c (rw isnt at found))
  ]
]

-- the chunk that accepts a batch is among the open ones
pub open_found : (h : History) (input : ℕ) (tag : List ℕ) (c : ChunkInfo) → open_chunk h input tag ≡ Some c → is_open h c.number ≡ true
open_found h input tag c found = found_any input tag (open_chunks h) c found

-- an open chunk accepts batches
pub open_grows : (store : Stored) (input : ℕ) (tag : List ℕ) (n : ℕ) → IsStoreSound store → chunk_for store input tag ≡ Some n → CanGrow (map.get store.chunks n)
open_grows store input tag n sound is = found store.opened sound.each is
  where
    found : (opened : List Opened) → All (λ (o : Opened). CanGrow (map.get store.chunks o.chunk)) opened → open_for opened input tag ≡ Some n → CanGrow (map.get store.chunks n)
    found [] all none = absurd (cc none)
    found (o ∷ os) all here =
        by (is_for input tag o) here (All-head (λ (o : Opened). CanGrow (map.get store.chunks o.chunk)) o os all) (found os (All-tail (λ (o : Opened). CanGrow (map.get store.chunks o.chunk)) o os all))
      where
        by : (b : Bool) → (if b then Some o.chunk else open_for os input tag) ≡ Some n → CanGrow (map.get store.chunks o.chunk) → (open_for os input tag ≡ Some n → CanGrow (map.get store.chunks n)) → CanGrow (map.get store.chunks n)
        by true e can rest = let same : o.chunk ≡ n = cc e in subst (λ (k : ℕ). CanGrow (map.get store.chunks k)) same can
        by false e can rest = rest e

not_adopted : (o : Option Kept) → CanGrow o → (head : _) → o ≢ Some (Adopted head)
not_adopted None can head is = absurd can
not_adopted (Some (InFile other)) can head is = absurd (cc is)
not_adopted (Some (Adopted other)) can head is = absurd can
not_adopted (Some (InMemory content)) can head is = absurd (cc is)

-- ---- numbers

pub some_left : (b : Bool) (failed_history : Type 0) (short : Type 0) → (failed_history ↔ (short × IsTrue b)) → short → (failed_history → ⊥) → b ≡ false
some_left true failed_history short is few not = absurd (not (is.1 (few, refl)))
some_left false failed_history short is few not = refl

-- if a new chunk is needed and a number is left for it
new_number : (next : ℕ) (o : Option ℕ) → o ≡ None → ((next == numbers_end) && not (is_some o)) ≡ false → (next == numbers_end) ≡ false
new_number next o none failed_history = elim (cases_Bool (next == numbers_end)) [
  | inl same ↦ absurd (cc (rw (none, same) at failed_history))
  | inr differs ↦ differs
]

below_past : (n : ℕ) → n ≤ numbers_end → (n == numbers_end) ≡ false → nat_lt n numbers_end ≡ true
below_past n within differs = lt-ltb n numbers_end (strictly n numbers_end within differs)
  where
    strictly : (n past : ℕ) → n ≤ past → (n == past) ≡ false → n < past
    strictly n past within differs = elim (cases_Bool (n == past)) [
      | inl same ↦ absurd (cc (sym differs ∙ same))
      | inr isnt ↦ omega (arith, within, apart n past differs)
    ]
      where
        apart : (n past : ℕ) → (n == past) ≡ false → n ≢ past
        apart n past differs same = cc (sym differs ∙ eq-eqb n past same)

-- ---- the calls for a batch

course_open : (s : AllSettings) (h : History) (b : Batch) (c : ChunkInfo) → open_chunk h b.input b.tag ≡ Some c
    → stores s b (open_chunk h b.input b.tag) h ≡ note_then (Offered c.number b) h (λ at. bind (on_disk (append_to_program (kept_of s h c.number) (encoded b.events) s.service.full)) (finishes_append s b c.number at))
unfolding appends
course_open s h b c is = rw is refl

course_new : (s : AllSettings) (h : History) (b : Batch) → open_chunk h b.input b.tag ≡ None → nat_lt (next h) numbers_end ≡ true
    → stores s b (open_chunk h b.input b.tag) h ≡ note_then (Offered (next h) b) h (λ at. bind (on_disk (begins_as (name_for s b.input (next h)) b.tag (home_at s b.input) (encoded b.events) (names_for s b.tag))) (finishes_create s b (next h) at))
unfolding starts_chunk
course_new s h b none failed_history = rw (none, failed_history) refl

course_none : (s : AllSettings) (h : History) (b : Batch) → open_chunk h b.input b.tag ≡ None → nat_lt (next h) numbers_end ≡ false
    → stores s b (open_chunk h b.input b.tag) h ≡ refuses b NoneLeft h
course_none s h b none past = rw (none, past) refl

-- ---- an append that failed

-- the store closed the chunk itself, and may close it again
sealed_again : (s : AllSettings) (store : Stored) (h : History) (n : ℕ) → StoreRepresents s store (ChunkClosed n ∷ h) → StoreRepresents s (sealed store n) (ChunkClosed n ∷ h)
sealed_again s store h n held = record {
  root = held.root;
  full = held.full;
  next = held.next;
  opened = ap (without n) held.opened ∙ opened_without_shut n (ChunkClosed n ∷ h) (rw (eq-eqb n n refl) refl);
  chunks = held.chunks;
}

-- the chunk that has to close after the failure
pub closing_failed : (s : AllSettings) (old new : Parts) (h : History) (b : Batch) (n : ℕ) → StoreIsAhead s old h (ChunkClosed n ∷ Offered n b ∷ h) → is_open h n ≡ true
    → new.input_streams ≡ old.input_streams → new.followed_files ≡ old.followed_files → new.store ≡ old.store
    → StateRepresents s new.state (Refused b NotStored ∷ IoFailed ∷ Offered n b ∷ h) None → IsClosing s new (Refused b NotStored ∷ IoFailed ∷ Offered n b ∷ h) n
closing_failed s old new h b n ahead opened hears follows holds state =
    let offered = Offered n b ∷ h in
    let last = Refused b NotStored ∷ IoFailed ∷ offered in
    let again : StoreRepresents s (sealed old.store n) (ChunkClosed n ∷ offered) = sealed_again s old.store offered n ahead.store in
    let closed : StoreRepresents s (sealed old.store n) (ChunkClosed n ∷ last) = record { root = again.root; full = again.full; next = again.next; opened = again.opened; chunks = again.chunks } in
    record {
      state = state;
      input_streams = rw hears (input_streams.streams_after_other_fact s old.input_streams (IoFailed ∷ offered) (Refused b NotStored) refl (input_streams.streams_after_other_fact s old.input_streams offered IoFailed refl (input_streams.streams_after_other_fact s old.input_streams h (Offered n b) refl ahead.input_streams)));
      followed_files = rw follows (followed_files.files_after_other_fact s old.followed_files (IoFailed ∷ offered) (Refused b NotStored) refl (followed_files.files_after_other_fact s old.followed_files offered IoFailed refl (followed_files.files_after_other_fact s old.followed_files h (Offered n b) refl ahead.followed_files)));
      store = rw holds closed;
      sound = sound_any s last (Some n) (sound_after_fact s (IoFailed ∷ offered) None (Refused b NotStored) refl (sound_after_fact s offered None IoFailed refl (sound_after_fact s h None (Offered n b) refl ahead.sound)));
      still = open_is h n opened;
      given = omega arith;
    }

-- ---- the results of the store

-- what the parts represent if only the state has to record an accepted batch
pub represents_accepted : (s : AllSettings) (parts : Parts) (state : State) (h : History) (b : Batch) (a : Answer) → StoreIsAhead s parts h (behind b h a) → StoreHasTaken s h b a
    → (StateRepresents s parts.state (Offered a.chunk.0 b ∷ h) None → StateRepresents s state (behind b h a) None) → PartsRepresent s (record parts { state = state }) (behind b h a) None (Some a.chunk.0)
represents_accepted s parts state h b a ahead has notes = record {
  state = notes (state_stays s parts.state h None (Offered a.chunk.0 b) refl ahead.state);
  input_streams = input_streams.streams_after_other_fact s parts.input_streams (Offered a.chunk.0 b ∷ h) (Accepted b (place_of a)) refl (input_streams.streams_after_other_fact s parts.input_streams h (Offered a.chunk.0 b) refl ahead.input_streams);
  followed_files = followed_files.files_after_other_fact s parts.followed_files (Offered a.chunk.0 b ∷ h) (Accepted b (place_of a)) refl (followed_files.files_after_other_fact s parts.followed_files h (Offered a.chunk.0 b) refl ahead.followed_files);
  store = ahead.store;
  sound = has.sound;
}

-- a batch for a store that represents a history, with a number left if one is needed
pub record IsGiven (s : AllSettings) (h : History) (b : Batch) (state : State) (old : Stored) (stream : List ℕ) (home : Home) (bytes : List ℕ) (outputs : List (List ℕ)) : Type 0 where
  pub stands : StateRepresents s state h None
  pub held : StoreRepresents s old h
  pub sound : IsSound s h None
  pub store_sound : IsStoreSound old
  pub handed : IsHanded s b stream home bytes outputs
  pub is_encoded : IsEncoded b.events bytes
  pub number : has_no_number old b.input b.tag ≡ false

-- the calls of the store's `accept`
abbrev pub calls_of : Stored → Batch → List ℕ → Home → List ℕ → List (List ℕ) → DiskProgram (Option (Unit {0}))
calls_of old b stream home bytes outputs = accept_program old b.input stream b.tag home bytes outputs

short_enough : (bytes : List ℕ) → length bytes ≤ largest_batch → nat_lt largest_batch (length bytes) ≡ false
short_enough bytes short = le-ltb _ _ short

-- the calls if a chunk begins, and if one grows
record Calls (s : AllSettings) (h : History) (b : Batch) (chunk : ℕ) (calls : DiskProgram (Option (Unit {0}))) (next : History → Option (Unit {0}) → Action Acceptance) : Type 0 where
  course : stores s b (open_chunk h b.input b.tag) h ≡ note_then (Offered chunk b) h (λ at. bind (on_disk calls) (next at))

calls_new : (s : AllSettings) (h : History) (b : Batch) (state : State) (old : Stored) (stream : List ℕ) (home : Home) (bytes : List ℕ) (outputs : List (List ℕ))
    → IsGiven s h b state old stream home bytes outputs → open_chunk h b.input b.tag ≡ None → Calls s h b (next h) (calls_of old b stream home bytes outputs) (finishes_create s b (next h))
calls_new s h b state old stream home bytes outputs is none =
    let at : chunk_for old b.input b.tag ≡ None = chunk_is s old h b.input b.tag is.held ∙ ap (option_map numbered) none in
    let failed_history : (next h == numbers_end) ≡ false = ap (λ (n : ℕ). n == numbers_end) (sym is.held.next) ∙ new_number old.next (chunk_for old b.input b.tag) at is.number in
    let below : nat_lt (next h) numbers_end ≡ true = below_past (next h) (subst (λ (n : ℕ). n ≤ numbers_end) is.held.next is.store_sound.numbers) failed_history in
    let calls = calls_begins s old h b stream home bytes outputs is.handed (short_enough bytes is.is_encoded.short) none failed_history is.held in
    record { course = rw calls (course_new s h b none below) }

calls_open : (s : AllSettings) (h : History) (b : Batch) (state : State) (old : Stored) (stream : List ℕ) (home : Home) (bytes : List ℕ) (outputs : List (List ℕ)) (c : ChunkInfo)
    → IsGiven s h b state old stream home bytes outputs → open_chunk h b.input b.tag ≡ Some c → Calls s h b c.number (calls_of old b stream home bytes outputs) (finishes_append s b c.number)
calls_open s h b state old stream home bytes outputs c is found =
    let calls = calls_appends s old h b stream home bytes outputs c is.handed (short_enough bytes is.is_encoded.short) found is.held in
    record { course = rw calls (course_open s h b c found) }

-- they were made, with this result
led : (s : AllSettings) (h : History) (b : Batch) (chunk : ℕ) (calls : DiskProgram (Option (Unit {0}))) (next : History → Option (Unit {0}) → Action Acceptance) (others : CallLogs) (before now : DiskLog) (x : Option (Unit {0}))
    → Calls s h b chunk calls next → DidOne before now calls x
    → Leads (with_disk before others) (with_disk now others) (stores s b (open_chunk h b.input b.tag) h) (next (Offered chunk b ∷ h) x)
led s h b chunk calls next others before now x is did =
    rw is.course
    (then_goes_on (fact_noted (with_disk before others) (Offered chunk b) (λ _. bind (on_disk calls) (next (Offered chunk b ∷ h))))
    (disk_completed others before now calls x (next (Offered chunk b ∷ h)) did))

began : (s : AllSettings) (h : History) (b : Batch) (chunk : ℕ) (calls : DiskProgram (Option (Unit {0}))) (next : History → Option (Unit {0}) → Action Acceptance) (others : CallLogs) (before now : DiskLog)
    → Calls s h b chunk calls next → BeganOne before now calls → IsBegun (with_disk before others) (with_disk now others) (stores s b (open_chunk h b.input b.tag) h)
began s h b chunk calls next others before now is begun =
    rw is.course
    (begun_trans (fact_noted (with_disk before others) (Offered chunk b) (λ _. bind (on_disk calls) (next (Offered chunk b ∷ h))))
    (disk_begun others before now calls (next (Offered chunk b ∷ h)) begun))

-- ---- the store accepted the batch

pub record TookBatch (s : AllSettings) (h : History) (b : Batch) (new : Stored) (a : Answer) (others : CallLogs) (before now : DiskLog) : Type 0 where
  pub leads : Leads (with_disk before others) (with_disk now others) (stores s b (open_chunk h b.input b.tag) h) (goes_on s b h a)
  pub holds : StoreRepresents s new (behind b h a)
  pub has : StoreHasTaken s h b a

took_new : (s : AllSettings) (h : History) (b : Batch) (state : State) (old : Stored) (stream : List ℕ) (home : Home) (bytes : List ℕ) (outputs : List (List ℕ)) (others : CallLogs) (before now : DiskLog)
    → IsGiven s h b state old stream home bytes outputs → open_chunk h b.input b.tag ≡ None → DidOne before now (calls_of old b stream home bytes outputs) (Some tt)
    → TookBatch s h b (with_new old b.input b.tag (new_kept (new_name old stream) b.tag home bytes outputs)) (record { chunk = record { 0 = old.next }; size = length bytes; fresh = true }) others before now
took_new s h b state old stream home bytes outputs others before now is none did =
    subst (λ (n : ℕ). TookBatch s h b (with_new old b.input b.tag (new_kept (new_name old stream) b.tag home bytes outputs)) (record { chunk = record { 0 = n }; size = length bytes; fresh = true }) others before now)
    (sym is.held.next)
    (record {
      leads = led s h b (next h) (calls_of old b stream home bytes outputs) (finishes_create s b (next h)) others before now (Some tt) (calls_new s h b state old stream home bytes outputs is none) did;
      holds = store_after_begin s old h b (new_kept (new_name old stream) b.tag home bytes outputs) fresh (kept_new s old h b stream home bytes outputs is.handed is.held) is.held;
      has = record {
        sound = sound_after_begin s h b (next h) (omega arith) (subst (AreEvents b.events) is.is_encoded.encoding is.is_encoded.are) is.sound;
        bytes = rw (eq-eqb (next h) (next h) refl, (is.sound.untouched (next h) (omega arith)).1) (ap length is.is_encoded.encoding);
        still = fresh;
        given = omega arith;
        sizes = (record { first = next_least h; behind = is.stands.numbers; given = omega arith; fresh = is.stands.fresh (next h) (omega arith) }, ap length (sym is.is_encoded.encoding));
      };
    })
  where
    fresh : is_closed h (next h) ≡ false
    fresh = (is.stands.fresh (next h) (omega arith)).0

took_open : (s : AllSettings) (h : History) (b : Batch) (state : State) (old : Stored) (stream : List ℕ) (home : Home) (bytes : List ℕ) (outputs : List (List ℕ)) (others : CallLogs) (before now : DiskLog) (c : ChunkInfo) (kept : Kept)
    → IsGiven s h b state old stream home bytes outputs → open_chunk h b.input b.tag ≡ Some c → DidOne before now (calls_of old b stream home bytes outputs) (Some tt) → map.get old.chunks c.number ≡ Some kept
    → TookBatch s h b (with_kept old c.number (after_append kept bytes)) (record { chunk = record { 0 = c.number }; size = size_of (after_append kept bytes); fresh = false }) others before now
took_open s h b state old stream home bytes outputs others before now c kept is found did got =
    record {
      leads = led s h b n (calls_of old b stream home bytes outputs) (finishes_append s b n) others before now (Some tt) (calls_open s h b state old stream home bytes outputs c is found) did;
      holds = rw is.is_encoded.encoding (store_after_append s old h b n kept below got is.held);
      has = record {
        sound = sound;
        bytes = long;
        still = open_is h n opened;
        given = omega arith;
        sizes = (omega arith, long);
      };
    }
  where
    n : ℕ
    n = c.number

    opened : is_open h n ≡ true
    opened = open_found h b.input b.tag c found

    below : n < next h
    below = open_given h n is.stands.numbers opened

    can : CanGrow (kept_of s h n)
    can = subst CanGrow (is.held.chunks n) (open_grows old b.input b.tag n is.store_sound (chunk_is s old h b.input b.tag is.held ∙ ap (option_map numbered) found))

    sound : IsSound s (Accepted b (AppendedTo n) ∷ Offered n b ∷ h) (Some n)
    sound = sound_after_append s h b n below (not_adopted (kept_of s h n) can) (subst (AreEvents b.events) is.is_encoded.encoding is.is_encoded.are) is.sound

    long : size_of (after_append kept bytes) ≡ size (Accepted b (AppendedTo n) ∷ Offered n b ∷ h) n
    long = ap (λ (l : List ℕ). size_of (after_append kept l)) is.is_encoded.encoding ∙ sound.sized n (after_append kept (encoded b.events)) (rw (eq-eqb n n refl, sym (is.held.chunks n) ∙ got) refl)

pub took : (s : AllSettings) (h : History) (b : Batch) (state : State) (old new : Stored) (stream : List ℕ) (home : Home) (bytes : List ℕ) (outputs : List (List ℕ)) (others : CallLogs) (before now : DiskLog) (a : Answer)
    → IsGiven s h b state old stream home bytes outputs → DidOne before now (calls_of old b stream home bytes outputs) (Some tt)
    → AcceptsBatch old new (chunk_for old b.input b.tag) b.input stream b.tag home bytes outputs a → TookBatch s h b new a others before now
took s h b state old new stream home bytes outputs others before now a is did answer =
    by (open_chunk h b.input b.tag) refl (subst (λ (o : Option ℕ). AcceptsBatch old new o b.input stream b.tag home bytes outputs a) (chunk_is s old h b.input b.tag is.held) answer)
  where
    by : (o : Option ChunkInfo) → open_chunk h b.input b.tag ≡ o → AcceptsBatch old new (option_map numbered o) b.input stream b.tag home bytes outputs a → TookBatch s h b new a others before now
    by None none took_so = rw (took_so.0, took_so.1) (took_new s h b state old stream home bytes outputs others before now is none did)
    by (Some c) found took_so = rw (took_so.2, took_so.3) (took_open s h b state old stream home bytes outputs others before now c took_so.0 is found did took_so.1)

-- ---- a disk call failed

pub record FailedBatch (s : AllSettings) (h : History) (b : Batch) (new : Stored) (closed : Option ChunkId) (others : CallLogs) (before now : DiskLog) : Type 0 where
  pub leads : Leads (with_disk before others) (with_disk now others) (stores s b (open_chunk h b.input b.tag) h) (refuses_after_fault s b h closed)
  pub holds : StoreRepresents s new (failed_history b h closed)
  pub opened : WasOpen h closed

-- a chunk in memory makes no calls, so none fails
never_fails : (before now : DiskLog) → DidOne {R = Option (Unit {0})} before now (Return (Some tt)) None → ⊥
never_fails before now did = so did.entries did.way
  where
    so : (es : List DiskEntry) → Execution {R = Option (Unit {0})} (Return (Some tt)) es (Return None) → ⊥
    so [] way = cc way
    so (e ∷ es) way = absurd way

in_file : (old : Stored) (n : ℕ) (batch : List ℕ) (full : Bool) (before now : DiskLog) (o : Option Kept) → CanGrow o → DidOne before now (append_to_program o batch full) None → after_failed_append old n o ≡ sealed old n
in_file old n batch full before now None can did = absurd can
in_file old n batch full before now (Some (InFile head)) can did = refl
in_file old n batch full before now (Some (Adopted head)) can did = absurd can
in_file old n batch full before now (Some (InMemory content)) can did = absurd (never_fails before now did)

pub failed : (s : AllSettings) (h : History) (b : Batch) (state : State) (old new : Stored) (stream : List ℕ) (home : Home) (bytes : List ℕ) (outputs : List (List ℕ)) (others : CallLogs) (before now : DiskLog) (closed : Option ChunkId)
    → IsGiven s h b state old stream home bytes outputs → DidOne before now (calls_of old b stream home bytes outputs) None
    → AbandonsBatch before now old new (chunk_for old b.input b.tag) (DiskFailed closed) → FailedBatch s h b new closed others before now
failed s h b state old new stream home bytes outputs others before now closed is did answer =
    by (open_chunk h b.input b.tag) refl (subst (λ (o : Option ℕ). AbandonsBatch before now old new o (DiskFailed closed)) (chunk_is s old h b.input b.tag is.held) answer)
  where
    by : (o : Option ChunkInfo) → open_chunk h b.input b.tag ≡ o → AbandonsBatch before now old new (option_map numbered o) (DiskFailed closed) → FailedBatch s h b new closed others before now
    by None none gave = rw (gave.0, gave.1) (record {
      leads = led s h b (next h) (calls_of old b stream home bytes outputs) (finishes_create s b (next h)) others before now None (calls_new s h b state old stream home bytes outputs is none) did;
      holds = store_after_used_number s old h b is.held;
      opened = tt;
    })
    by (Some c) found gave =
        let n = c.number in
        let opened : is_open h n ≡ true = open_found h b.input b.tag c found in
        let below : n < next h = open_given h n is.stands.numbers opened in
        let can = open_grows old b.input b.tag n is.store_sound (chunk_is s old h b.input b.tag is.held ∙ ap (option_map numbered) found) in
        let calls = calls_appends s old h b stream home bytes outputs c is.handed (short_enough bytes is.is_encoded.short) found is.held in
        let can_now : CanGrow (kept_of s h n) = subst CanGrow (is.held.chunks n) can in
        let closes : after_failed_append old n (map.get old.chunks n) ≡ sealed old n =
        ap (after_failed_append old n) (is.held.chunks n) ∙ in_file old n (encoded b.events) s.service.full before now (kept_of s h n) can_now (subst (λ (p : DiskProgram (Option (Unit {0}))). DidOne before now p None) calls did) in
        rw (gave.0, gave.1 ∙ closes) (record {
          leads = led s h b n (calls_of old b stream home bytes outputs) (finishes_append s b n) others before now None (calls_open s h b state old stream home bytes outputs c is found) did;
          holds = store_after_close s old (Offered n b ∷ h) n (store_after_offer s old h b n below is.held);
          opened = opened;
        })

-- ---- memory ran out

pub only_began : (s : AllSettings) (h : History) (b : Batch) (state : State) (old : Stored) (stream : List ℕ) (home : Home) (bytes : List ℕ) (outputs : List (List ℕ)) (others : CallLogs) (before now : DiskLog)
    → IsGiven s h b state old stream home bytes outputs → BeganOne before now (calls_of old b stream home bytes outputs)
    → IsBegun (with_disk before others) (with_disk now others) (stores s b (open_chunk h b.input b.tag) h)
only_began s h b state old stream home bytes outputs others before now is begun = by (open_chunk h b.input b.tag) refl
  where
    by : (o : Option ChunkInfo) → open_chunk h b.input b.tag ≡ o → IsBegun (with_disk before others) (with_disk now others) (stores s b (open_chunk h b.input b.tag) h)
    by None none = began s h b (next h) (calls_of old b stream home bytes outputs) (finishes_create s b (next h)) others before now (calls_new s h b state old stream home bytes outputs is none) begun
    by (Some c) found = began s h b c.number (calls_of old b stream home bytes outputs) (finishes_append s b c.number) others before now (calls_open s h b state old stream home bytes outputs c is found) begun

-- ---- no number is left

both_so : (a b : Bool) → (a && b) ≡ true → (a ≡ true) × (b ≡ true)
both_so true b is = (refl, is)
both_so false b is = absurd (cc is)

none_numbered : (o : Option ChunkInfo) → not (is_some (option_map numbered o)) ≡ true → o ≡ None
none_numbered None is = refl
none_numbered (Some c) is = absurd (cc is)

pub none_left : (s : AllSettings) (h : History) (b : Batch) (old : Stored) → StoreRepresents s old h → has_no_number old b.input b.tag ≡ true → stores s b (open_chunk h b.input b.tag) h ≡ refuses b NoneLeft h
none_left s h b old held none =
    let parts = both_so (old.next == numbers_end) (not (is_some (chunk_for old b.input b.tag))) none in
    let chunk : open_chunk h b.input b.tag ≡ None = none_numbered (open_chunk h b.input b.tag) (ap (λ (o : Option ℕ). not (is_some o)) (sym (chunk_is s old h b.input b.tag held)) ∙ parts.1) in
    let past : next h ≡ numbers_end = sym held.next ∙ same_number old.next numbers_end parts.0 in
    course_none s h b chunk (ap (λ (n : ℕ). nat_lt n numbers_end) past ∙ le-ltb numbers_end numbers_end (omega arith))

-- ---- which result it was

pub taken_isnt : (r : Result Answer StoreRefusal) (a : Answer) → r ≡ Ok a → r ≡ Err NoNumber → ⊥
taken_isnt r a is other = cc (sym is ∙ other)

pub refused_isnt : (r : Result Answer StoreRefusal) (e why : StoreRefusal) → r ≡ Err e → e ≡ why → why ≢ NoNumber → r ≡ Err NoNumber → ⊥
refused_isnt r e why is so differs other = differs (sym so ∙ same e NoNumber (sym is ∙ other))
  where
    same : (x y : StoreRefusal) → ◌≡◌ {A = Result Answer StoreRefusal} (Err x) (Err y) → x ≡ y
    same x y is = cc is

pub refused_so : (r : Result Answer StoreRefusal) (e why : StoreRefusal) → r ≡ Err e → e ≡ why → r ≡ Err why
refused_so r e why is so = is ∙ ap (λ (x : StoreRefusal). erring x) so
  where
    erring : StoreRefusal → Result Answer StoreRefusal
    erring x = Err x
