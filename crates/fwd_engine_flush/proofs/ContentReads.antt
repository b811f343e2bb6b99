-- What a flush begins with: the tag of its chunk, and the content that was read.
use Rattle.std.proofs.Common.{◌≡◌, ℕ, ◌+◌, ◌<◌, true, false, inl, inr, List, [], ◌∷◌, length, take, map, Option, Some, None, Result, Ok, Err, refl, sym, ◌∙◌, ap, subst, arith}
use Rattle.std.specs.Prelude.{◌==◌, filter, find, is_some}
use Rattle.std.specs.Option.{option_map_or}
use Rattle.std.proofs.lemmas.Bool.{cases_Bool, cases_eq, eq-eqb, eqb-true, ne_eqb}
use Rattle.std.proofs.Math.Seq.{take-length}
use Rattle.fwd_outside.specs.Program.{Return, Execution, bind}
use Rattle.fwd_outside.specs.Log.{LogGrew, Leads as LeadsOne, Completes as DidOne}
use Rattle.fwd_outside.proofs.LogGrowth.{grew_none}
use Rattle.fwd_outside.specs.Disk.{DiskLog, DiskEntry, DiskProgram}
use Rattle.fwd_base.specs.declared.memory.Memory.{Memory as NoMemory}
use Rattle.fwd_event.specs.declared.event.Event.{Event}
use Rattle.fwd_event.specs.Event.{AreEvents}
use Rattle.fwd_event.specs.EventPrefix.{events_in}
use Rattle.fwd_event.proofs.EventPrefix.{whole_prefix_of, all_events}
use Rattle.fwd_chunk.specs.declared.kept.Kept.{Kept}
use Rattle.fwd_chunk.specs.declared.kept.Kept.TheVariants.{InFile, Adopted, InMemory}
use Rattle.fwd_chunk.specs.declared.content.PartErr.TheVariants.{DiskFailed, Damaged, Memory}
use Rattle.fwd_chunk.specs.Kept.{size_of}
use Rattle.fwd_chunk.specs.Content.{ReadReturns, read_content_program, HasRecordedLength}
use Rattle.fwd_payload.specs.Content.{MadeOf}
use Rattle.fwd_settings.specs.declared.settings_types.AllSettings.{AllSettings}
use Rattle.fwd_table.specs.Rows.{row_at, has_row}
use Rattle.fwd_table.specs.Row.{Row}
use Rattle.fwd_model.specs.Fact.{History, Route, IoFailed}
use Rattle.fwd_model.specs.Trace.{Action}
use Rattle.fwd_model.specs.CallLogs.{CallLogs, Leads, IsBegun}
use Rattle.fwd_model.specs.DeviceActions.{on_disk}
use Rattle.fwd_model.specs.Notes.{note}
use Rattle.fwd_model.specs.Chunks.{ChunkInfo, chunks_of, next, records}
use Rattle.fwd_model.specs.ChunkStorage.{kept_of}
use Rattle.fwd_model.specs.Routes.{is_owed, row_of, rows_of}
use Rattle.fwd_model.specs.Payloads.{tag_of_chunk}
use Rattle.fwd_model.specs.FlushActions.{is_complete_read, after_read, starts_with, begins_as, starts_flush}
use Rattle.fwd_engine_state.specs.Views.{chunk_id}
use Rattle.fwd_engine_state.specs.StateRepresents.{NumbersRise}
use Rattle.fwd_engine_state.proofs.PendingRows.{no_row}
use Rattle.fwd_engine_state.proofs.ChunkOrder.{none_before}
use Rattle.fwd_engine_state.specs.HistoryInvariant.{IsSound}
use Rattle.fwd_engine_state.specs.RefinesAction.{with_disk}
use Rattle.fwd_engine_chunks.proofs.ResolutionLemmas.{disk_completed, disk_begun}

-- ---- the tag

tag_in : (s : AllSettings) (h : History) (k least past : ℕ) (cs : List ChunkInfo) → NumbersRise least past cs → has_row (chunk_id k) (map (row_of s h) (filter (is_owed s h) cs)) ≡ true
    → option_map_or (λ (row : Row). row.tag) (row_at (chunk_id k) (map (row_of s h) (filter (is_owed s h) cs))) [] ≡ option_map_or (λ (c : ChunkInfo). c.tag) (find (λ (c : ChunkInfo). c.number == k) cs) []
tag_in s h k least past [] rise has = refl
tag_in s h k least past (c ∷ cs) rise has = elim (cases_eq c.number k) [
  | inl same ↦
      let here : (c.number == k) ≡ true = eq-eqb c.number k same in
      let below : k < c.number + 1 = omega (arith, same) in
      elim (cases_Bool (is_owed s h c)) [
        | inl is ↦ rw (is, here) refl
        | inr isnt ↦ absurd (cc (sym (no_row s h k cs (none_before (c.number + 1) past k cs rise.2 below)) ∙ rw isnt at has))
      ]
  | inr differs ↦
      let apart : (c.number == k) ≡ false = ne_eqb c.number k differs in
      elim (cases_Bool (is_owed s h c)) [
        | inl is ↦ rw (is, apart) (tag_in s h k (c.number + 1) past cs rise.2 (rw (is, apart) at has))
        | inr isnt ↦ rw (isnt, apart) (tag_in s h k (c.number + 1) past cs rise.2 (rw isnt at has))
      ]
]

-- a chunk's row has its tag
pub tag_there : (s : AllSettings) (h : History) (k : ℕ) → NumbersRise 0 (next h) (chunks_of h) → has_row (chunk_id k) (rows_of s h) ≡ true
    → option_map_or (λ (row : Row). row.tag) (row_at (chunk_id k) (rows_of s h)) [] ≡ tag_of_chunk h k
tag_there s h k rise has = tag_in s h k 0 (next h) (chunks_of h) rise has

-- ---- the content

pub held : {T : Type 0} (o : Option T) → is_some o ≡ true → (x : T) × (o ≡ Some x)
held None is = absurd (cc is)
held (Some x) is = (x, refl)

pub begins_is : (s : AllSettings) (r : Route) (h : History) (o : Option Kept) → kept_of s h r.chunk ≡ o → starts_flush s r h ≡ begins_as s r o h
unfolding starts_flush
begins_is s r h o is = ap (λ (x : Option Kept). begins_as s r x h) is

-- no call was made, and the content is there
unasked : {R S : Type 0} (others : CallLogs) (old new : DiskLog) (x : R) (left : DiskProgram R) (p : Action S) → LeadsOne old new (Return x) left → Leads (with_disk old others) (with_disk new others) p p
unasked {R = R} others old new x left p leads = by leads.entries leads.grew leads.way
  where
    by : (es : List DiskEntry) → LogGrew old new es → Execution (Return x) es left → Leads (with_disk old others) (with_disk new others) p p
    by [] grew way = record {
      entries = [];
      asked = record { loop = grew_none others.loop; disk = grew; files = grew_none others.files; keeper = grew_none others.keeper };
      way = refl;
    }
    by (e ∷ es) grew way = absurd way

given : {R : Type 0} (old new : DiskLog) (x y : R) → DidOne old new (Return x) y → x ≡ y
given {R = R} old new x y did = by did.entries did.way
  where
    by : (es : List DiskEntry) → Execution (Return x) es (Return y) → x ≡ y
    by [] way = cc way
    by (e ∷ es) way = absurd way

-- bytes that encode events, with the size of the chunk
whole_is : (kept : ℕ) (b : List ℕ) (es : List Event) → length b ≡ kept → AreEvents es b → is_complete_read kept b ≡ true
whole_is kept b es long are =
    let all : (events_in b).1 ≡ length b = ap (λ (x : List Event × ℕ). x.1) (all_events es b are) in
    rw (eq-eqb (length b) kept long, eq-eqb (events_in b).1 kept (all ∙ long)) refl

-- content that encodes events is handed over as these
pub encoding_begins : (s : AllSettings) (r : Route) (h : History) (b : List ℕ) (es : List Event) → AreEvents es b → after_read s r (length b) h (Some b) ≡ starts_with s r es h
encoding_begins s r h b es are =
    let whole : is_complete_read (length b) b ≡ true = whole_is (length b) b es refl are in
    let same : (events_in b).0 ≡ es = ap (λ (x : List Event × ℕ). x.0) (all_events es b are) in
    rw whole (ap (λ (events : List Event). starts_with s r events h) same)

-- content that is no list of events isn't handed over
pub no_encoding_waits : (s : AllSettings) (r : Route) (h : History) (b : List ℕ) → ((es : List Event) → AreEvents es b → ⊥) → after_read s r (length b) h (Some b) ≡ Return h
no_encoding_waits s r h b none = elim (cases_Bool ((events_in b).1 == length b)) [
  | inl all ↦
      let long : (events_in b).1 ≡ length b = eqb-true (events_in b).1 (length b) all in
      let are : AreEvents (events_in b).0 (take (length b) b) = subst (λ (n : ℕ). AreEvents (events_in b).0 (take n b)) long (whole_prefix_of b).are in
      absurd (none (events_in b).0 (subst (AreEvents (events_in b).0) (take-length b) are))
  | inr torn ↦ rw (eq-eqb (length b) (length b) refl, torn) refl
]

-- the content of a file is read first
abbrev from_file : AllSettings → Route → History → Kept → Action History
from_file s r h kept = bind (on_disk (read_content_program kept)) (after_read s r (size_of kept) h)

file_leads : (others : CallLogs) (old new : DiskLog) (s : AllSettings) (r : Route) (h : History) (kept : Kept) (bytes read : List ℕ)
    → DidOne old new (read_content_program kept) (Some read) → HasRecordedLength (size_of kept) read (Ok bytes) → Leads (with_disk old others) (with_disk new others) (from_file s r h kept) (after_read s r (length bytes) h (Some bytes))
file_leads others old new s r h kept bytes read did are =
    let to : after_read s r (size_of kept) h (Some read) ≡ after_read s r (length bytes) h (Some bytes) =
    ap (λ (n : ℕ). after_read s r n h (Some read)) (sym are.1) ∙ ap (λ (b : List ℕ). after_read s r (length b) h (Some b)) (sym are.0) in
    subst (λ (q : Action History). Leads (with_disk old others) (with_disk new others) (from_file s r h kept) q) to (disk_completed others old new (read_content_program kept) (Some read) (after_read s r (size_of kept) h) did)

file_damaged : (others : CallLogs) (old new : DiskLog) (s : AllSettings) (r : Route) (h : History) (kept : Kept) (all got : ℕ) (read : List ℕ)
    → DidOne old new (read_content_program kept) (Some read) → HasRecordedLength (size_of kept) read (Err (Damaged all got)) → Leads (with_disk old others) (with_disk new others) (from_file s r h kept) (Return h)
file_damaged others old new s r h kept all got read did are =
    let short : (length read == size_of kept) ≡ false = ne_eqb (length read) (size_of kept) (λ e. are.2 (are.1 ∙ e)) in
    let to : after_read s r (size_of kept) h (Some read) ≡ Return h = rw short refl in
    subst (λ (q : Action History). Leads (with_disk old others) (with_disk new others) (from_file s r h kept) q) to (disk_completed others old new (read_content_program kept) (Some read) (after_read s r (size_of kept) h) did)

-- content in memory needs no read
in_memory : (old new : DiskLog) (kept bytes : List ℕ) → DidOne old new (Return (Some kept)) (Some bytes) → kept ≡ bytes
in_memory old new kept bytes did = let e : Some kept ≡ Some bytes = given old new (Some kept) (Some bytes) did in cc e

-- the content was read
pub content_leads : (others : CallLogs) (old new : DiskLog) (s : AllSettings) (r : Route) (h : History) (kept : Kept) (bytes : List ℕ) → kept_of s h r.chunk ≡ Some kept → IsSound s h None
    → ReadReturns old new (read_content_program kept) (HasRecordedLength (size_of kept)) (Ok bytes) → Leads (with_disk old others) (with_disk new others) (starts_flush s r h) (after_read s r (length bytes) h (Some bytes))
content_leads others old new s r h (InFile head) bytes is sound gives = rw (begins_is s r h (Some (InFile head)) is) (file_leads others old new s r h (InFile head) bytes gives.0 gives.1 gives.2)
content_leads others old new s r h (Adopted head) bytes is sound gives = rw (begins_is s r h (Some (Adopted head)) is) (file_leads others old new s r h (Adopted head) bytes gives.0 gives.1 gives.2)
content_leads others old new s r h (InMemory kept) bytes is sound gives =
    let same : kept ≡ bytes = in_memory old new kept gives.0 gives.1 ∙ sym gives.2.0 in
    let own : AreEvents (records h r.chunk) bytes = subst (AreEvents (records h r.chunk)) same (sound.memory r.chunk kept is) in
    rw (begins_is s r h (Some (InMemory kept)) is)
    (subst (λ (q : Action History). Leads (with_disk old others) (with_disk new others) (starts_with s r (records h r.chunk) h) q) (sym (encoding_begins s r h bytes (records h r.chunk) own))
    (unasked others old new (Some kept) (Return (Some gives.0)) (starts_with s r (records h r.chunk) h) gives.1))

-- a read failed
pub content_failed : (others : CallLogs) (old new : DiskLog) (s : AllSettings) (r : Route) (h : History) (kept : Kept) → kept_of s h r.chunk ≡ Some kept
    → ReadReturns {T = List ℕ} old new (read_content_program kept) (HasRecordedLength (size_of kept)) (Err DiskFailed) → Leads (with_disk old others) (with_disk new others) (starts_flush s r h) (note IoFailed h)
content_failed others old new s r h (InFile head) is gives =
    rw (begins_is s r h (Some (InFile head)) is) (disk_completed others old new (read_content_program (InFile head)) None (after_read s r (size_of (InFile head)) h) gives)
content_failed others old new s r h (Adopted head) is gives =
    rw (begins_is s r h (Some (Adopted head)) is) (disk_completed others old new (read_content_program (Adopted head)) None (after_read s r (size_of (Adopted head)) h) gives)
content_failed others old new s r h (InMemory kept) is gives = absurd (cc (given old new (Some kept) None gives))

-- fewer bytes were read, which can't be for content in memory
pub content_damaged : (others : CallLogs) (old new : DiskLog) (s : AllSettings) (r : Route) (h : History) (kept : Kept) (all got : ℕ) → kept_of s h r.chunk ≡ Some kept
    → ReadReturns {T = List ℕ} old new (read_content_program kept) (HasRecordedLength (size_of kept)) (Err (Damaged all got)) → Leads (with_disk old others) (with_disk new others) (starts_flush s r h) (Return h)
content_damaged others old new s r h (InFile head) all got is gives = rw (begins_is s r h (Some (InFile head)) is) (file_damaged others old new s r h (InFile head) all got gives.0 gives.1 gives.2)
content_damaged others old new s r h (Adopted head) all got is gives = rw (begins_is s r h (Some (Adopted head)) is) (file_damaged others old new s r h (Adopted head) all got gives.0 gives.1 gives.2)
content_damaged others old new s r h (InMemory kept) all got is gives =
    absurd (gives.2.2 (gives.2.1 ∙ ap length (sym (in_memory old new kept gives.0 gives.1))))

-- memory ran out
pub content_began : (others : CallLogs) (old new : DiskLog) (s : AllSettings) (r : Route) (h : History) (kept : Kept) → kept_of s h r.chunk ≡ Some kept
    → ReadReturns {T = List ℕ} old new (read_content_program kept) (HasRecordedLength (size_of kept)) (Err Memory) → IsBegun (with_disk old others) (with_disk new others) (starts_flush s r h)
content_began others old new s r h (InFile head) is gives = rw (begins_is s r h (Some (InFile head)) is) (disk_begun others old new (read_content_program (InFile head)) (after_read s r (size_of (InFile head)) h) (gives.0, gives.1))
content_began others old new s r h (Adopted head) is gives = rw (begins_is s r h (Some (Adopted head)) is) (disk_begun others old new (read_content_program (Adopted head)) (after_read s r (size_of (Adopted head)) h) (gives.0, gives.1))
content_began others old new s r h (InMemory kept) is gives = (starts_flush s r h, unasked others old new (Some kept) gives.0 (starts_flush s r h) gives.1)

-- a property of what is made of events implies each weaker one
pub made_more : {T : Type 0} (content : List ℕ) (made : Result (Option T) NoMemory) (P Q : List Event → T → Type 0) → ((es : List Event) (x : T) → P es x → Q es x) → MadeOf content P made → MadeOf content Q made
made_more content (Ok (Some x)) P Q more is = (is.0, is.1, more is.0 x is.2)
made_more content (Ok None) P Q more is = is
made_more content (Err e) P Q more is = tt
