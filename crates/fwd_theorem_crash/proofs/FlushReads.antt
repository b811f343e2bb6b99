-- What is read from a chunk's file before a flush of it begins is what was accepted into the chunk.
use Rattle.std.proofs.Common.{◌≡◌, ⊎_elim, ℕ, ◌+◌, ◌&&◌, Bool, true, false, List, [], ◌∷◌, ◌++◌, length, take, drop, Option, Some, None, refl, sym, ◌∙◌, ap, subst, append_assoc, append-nil, take-append-drop, if◌then◌else◌}
use Rattle.std.specs.Prelude.{Contains, filter}
use Rattle.std.specs.Option.{option_map_or}
use Rattle.std.proofs.lemmas.Bool.{and_parts, eqb-true}
use Rattle.std.proofs.lemmas.List.{take_at}
use Rattle.fwd_event.specs.declared.event.Event.{Event}
use Rattle.fwd_event.specs.EventPrefix.{events_in}
use Rattle.fwd_outside.specs.AtCrashPoints.{HoldsThroughout}
use Rattle.fwd_outside.proofs.CrashPointLemmas.{holds_weaker}
use Rattle.fwd_outside.specs.declared.home.Home.TheVariants.{Disk}
use Rattle.fwd_outside.specs.File.{FileState, IsPostCrash, FileInvariant, content as content_of_file}
use Rattle.fwd_outside.specs.DiskStates.{Files}
use Rattle.fwd_outside.specs.DiskStates as disk
use Rattle.fwd_outside.proofs.Invariant.{AllInvariant, read_is_post_crash_state}
use Rattle.fwd_chunk.specs.declared.append.ChunkHead.{ChunkHead}
use Rattle.fwd_chunk.specs.Layout.{part, meta_length}
use Rattle.fwd_chunk.specs.declared.kept.Kept.{Kept as Held}
use Rattle.fwd_chunk.specs.declared.kept.Kept.TheVariants.{InFile, Adopted, InMemory}
use Rattle.fwd_chunk.specs.Content.{read_content_program}
use Rattle.fwd_chunk.proofs.ContentAnswers.{holds_reads}
use Rattle.fwd_table.specs.Row.{Row}
use Rattle.fwd_table.specs.Rows.{is_row_of, row_at, waits_for}
use Rattle.fwd_settings.specs.declared.settings_types.AllSettings.{AllSettings}
use Rattle.fwd_model.specs.Fact.{History, Route, OnRoute, FlushStarted}
use Rattle.fwd_model.specs.Trace.{Note}
use Rattle.fwd_model.specs.DeviceActions.{on_disk}
use Rattle.fwd_model.specs.Chunks.{ChunkInfo, chunks_of, content, size, offered_events, records, encoded}
use Rattle.fwd_model.specs.ChunkStorage.{kept_of}
use Rattle.fwd_model.specs.Routes.{is_owed, home_of, row_of, rows_of, is_idle}
use Rattle.fwd_model.specs.Dispatch.{may_start, has_place, fits}
use Rattle.fwd_theorem_trace.specs.Past.{Past, logged}
use Rattle.fwd_theorem_trace.specs.Allowed.{Allowed}
use Rattle.fwd_theorem_trace.proofs.Members.{from_filter, from_find, from_map}
use Rattle.fwd_theorem_trace.proofs.Invariant.{sound as sound_past}
use Rattle.fwd_theorem_crash.specs.CrashPoint.{CrashPoint, crash_point, LeadsTo}
use Rattle.fwd_theorem_crash.specs.ChunkFile.{IsIntact}
use Rattle.fwd_theorem_crash.specs.Safety.{IsSafe}
use Rattle.fwd_theorem_crash.specs.FlushEvents.{chunk_events}
use Rattle.fwd_theorem_crash.proofs.OrderInvariant.{head_of, FitsHead, NamesAll, PendingFile, InOrder}
use Rattle.fwd_theorem_crash.proofs.FileContents.{found_content}
use Rattle.fwd_theorem_crash.proofs.Lookups.{same_head, one_chunk}
use Rattle.fwd_theorem_crash.proofs.Safety.{order_safe}
use Rattle.fwd_theorem_crash.proofs.PlainFacts.{plain_order, plain_room}
use Rattle.fwd_theorem_crash.proofs.RunTraversal.{after}
use Rattle.fwd_theorem_crash.proofs.DiskPoints.{HoldsAfter, with_all, Ordered, Safe, Kept, Came, runs}

-- the chunk of a startable route is pending
pub owed_to_start : (s : AllSettings) (h : History) (r : Route) → may_start s h r ≡ true → (c : ChunkInfo) × Contains (chunks_of h) c × (c.number ≡ r.chunk) × (is_owed s h c ≡ true)
owed_to_start s h r may = by (row_at (record { 0 = r.chunk }) (rows_of s h)) refl
  where
    idle : is_idle s h r ≡ true
    idle = (and_parts (is_idle s h r) (has_place s h r && fits s h r) may).0

    by : (at : Option Row) → row_at (record { 0 = r.chunk }) (rows_of s h) ≡ at → (c : ChunkInfo) × Contains (chunks_of h) c × (c.number ≡ r.chunk) × (is_owed s h c ≡ true)
    by None is = absurd (cc (subst (λ (o : Option Row). option_map_or (waits_for (record { 0 = r.output })) o false ≡ true) is idle))
    by (Some row) is =
        let found = from_find (is_row_of (record { 0 = r.chunk })) (rows_of s h) row is in
        let number : row.chunk.0 ≡ r.chunk = eqb-true row.chunk.0 r.chunk found.1 in
        let made = from_map (row_of s h) (filter (is_owed s h) (chunks_of h)) row found.0 in
        let kept = from_filter (is_owed s h) (chunks_of h) made.0 made.1 in
        (made.0, kept.0, ap (λ (x : Row). x.chunk.0) made.2 ∙ number, kept.1)

-- a list that begins with another
begins_so : (long short more : List ℕ) (n : ℕ) → take n long ≡ short ++ more → take (length short) long ≡ short
begins_so long short more n is =
    let long_is : long ≡ (short ++ more) ++ drop n long = sym (take-append-drop n long) ∙ ap (λ (l : List ℕ). l ++ drop n long) is in
    ap (λ (l : List ℕ). take (length short) l) (long_is ∙ append_assoc short more (drop n long)) ∙ take_at short (more ++ drop n long) (length short) refl

-- what a read finds in a file, if each post-crash state of it exists
image_of_file : (P : Option (List ℕ) → Type 0) (file : FileState) → FileInvariant file → (P None → ⊥) → ((image : Option (List ℕ)) → IsPostCrash file image → P image) → P (Some file.bytes)
image_of_file P file sound none images = by file.there refl (images (content_of_file file) (read_is_post_crash_state file sound))
  where
    by : (b : Bool) → file.there ≡ b → P (content_of_file file) → P (Some file.bytes)
    by true is has = subst P (ap (λ (t : Bool). if t then Some file.bytes else None) is) has
    by false is has = absurd (none (subst P (ap (λ (t : Bool). if t then Some file.bytes else None) is) has))

-- the content is at the position that is read
pub content_stands : (s : AllSettings) (h : History) (c : ChunkInfo) (head : ChunkHead) (bytes : List ℕ) → IsIntact s h c (Some bytes) → FitsHead head bytes → head.size ≡ size h c.number → part bytes (24 + head.meta) head.size ≡ content h c.number
content_stands s h c head bytes whole fits sized =
    let found = found_content bytes whole.chunk whole.found in
    let body : List ℕ = drop (24 + meta_length bytes) bytes in
    let starts : take (length (content h c.number)) body ≡ content h c.number =
    ⊎_elim (λ (is : whole.chunk.content ≡ content h c.number). begins_so body (content h c.number) [] found.0 (sym found.1 ∙ is ∙ sym (append-nil (content h c.number))))
    (λ (is : whole.chunk.content ≡ content h c.number ++ encoded (offered_events h c.number)). begins_so body (content h c.number) (encoded (offered_events h c.number)) found.0 (sym found.1 ∙ is)) whole.content in
    ap (λ (k : ℕ). take head.size (drop (24 + k) bytes)) fits.meta ∙ ap (λ (k : ℕ). take k body) sized ∙ starts

-- what is read from the file of a pending chunk
filed_stands : (s : AllSettings) (h : History) (c : ChunkInfo) (files : Files) (sound : AllInvariant files) (filed : PendingFile s h c files) → part (files filed.head.name).bytes (24 + filed.head.meta) filed.head.size ≡ content h c.number
filed_stands s h c files sound filed =
    content_stands s h c filed.head (files filed.head.name).bytes (image_of_file (IsIntact s h c) (files filed.head.name) (sound filed.head.name) (λ none. none) filed.images)
    (image_of_file (NamesAll filed.head) (files filed.head.name) (sound filed.head.name) (λ none. none) filed.names) filed.sized

reads_head : (files : Files) (h : History) (one head : ChunkHead) (n chunk : ℕ) → one ≡ head → n ≡ chunk → part (files one.name).bytes (24 + one.meta) one.size ≡ content h n → part (files head.name).bytes (24 + head.meta) head.size ≡ content h chunk
reads_head files h one head n chunk same number is = subst (λ (x : ChunkHead). part (files x.name).bytes (24 + x.meta) x.size ≡ content h chunk) same (is ∙ ap (content h) number)

module _ (s : AllSettings) (first : Files) (r : Route) (m : CrashPoint) (kept : Kept s first m) where
  abbrev h : History
  h = logged m.past

  -- a flush with these events may begin here
  abbrev pub MayBegin : List Event → CrashPoint → Type 0
  MayBegin events end = (answer : Unit {0}) → Kept s first (after end (Note (OnRoute r (FlushStarted events))) answer)

  begins_there : (events : List Event) (end : CrashPoint) → logged end.past ≡ h → (Allowed s end.past → Allowed s m.past × (end.files ≡ m.files)) → (Allowed s end.past → events ≡ chunk_events (kept_of s h r.chunk) h r) → MayBegin events end
  begins_there events end same dues right answer due =
      let is = dues due.1 in
      let was = kept is.0 in
      let order = subst (λ (files : Files). InOrder s first h files) (sym is.1) was.order in
      subst (λ (x : History). Ordered s first (OnRoute r (FlushStarted events) ∷ x) end.files) (sym same)
      (record { order = plain_order s first (OnRoute r (FlushStarted events)) h end.files tt order; room = plain_room (OnRoute r (FlushStarted events)) h tt was.room; hands = (right due.1, was.hands) })

  -- for a chunk in memory
  pub memory_begins : (bytes : List ℕ) → kept_of s h r.chunk ≡ Some (InMemory bytes) → MayBegin (records h r.chunk) m
  memory_begins bytes held = begins_there (records h r.chunk) m refl (λ due. (due, refl)) (λ due. ap (λ (k : Option Held). chunk_events k h r) (sym held))

  module _ (may : may_start s h r ≡ true) (head : ChunkHead) (held : head_of (kept_of s h r.chunk) ≡ Some head) where
    its_content : Allowed s m.past → part (m.files head.name).bytes (24 + head.meta) head.size ≡ content h r.chunk
    its_content due =
        let was = kept due in
        let sound = sound_past s m.past due in
        let own = owed_to_start s h r may in
        let home = was.order.home r.chunk head held in
        let one : home.of ≡ own.0 = one_chunk s h home.of own.0 sound home.among own.1 (home.is ∙ sym own.2) in
        let filed = was.order.owed own.0 own.1 own.3 (subst (λ (c : ChunkInfo). home_of s c.input ≡ Disk) one home.home) in
        let is_head : filed.head ≡ head = same_head (kept_of s h r.chunk) filed.head head (subst (λ (n : ℕ). head_of (kept_of s h n) ≡ Some filed.head) own.2 filed.held) held in
        reads_head m.files h filed.head head own.0.number r.chunk is_head own.2 (filed_stands s h own.0 m.files was.order.sound filed)

    abbrev Same : Files → Type 0
    Same now = now ≡ m.files

    abbrev Gave : Option (List ℕ) → Files → Type 0
    Gave answer last = (bytes : List ℕ) → answer ≡ Some bytes → bytes ≡ part (m.files head.name).bytes (24 + head.meta) head.size

    abbrev Read : Option (List ℕ) → CrashPoint → Type 0
    Read answer end = (logged end.past ≡ h) × (Kept s first end × ((bytes : List ℕ) → answer ≡ Some bytes → MayBegin (events_in bytes).0 end))

    safe_there : Allowed s m.past → (past : Past) (now : Files) → logged past ≡ h → Same now → IsSafe s first (crash_point past now)
    safe_there due past now same stays =
        order_safe s first past now (subst (λ (x : History). InOrder s first x now) (sym same) (subst (λ (files : Files). InOrder s first h files) (sym stays) (kept due).order))

    read_end : (in_file : chunk_events (kept_of s h r.chunk) h r ≡ (events_in (content h r.chunk)).0) (answer : Option (List ℕ)) (end : CrashPoint) → Came s first m (HoldsAfter Same Gave) answer end → Read answer end
    read_end in_file answer end came = (
      came.0,
      (
        λ due.
            let is = came.1 due in
            subst (λ (x : History). Ordered s first x end.files) (sym came.0) (subst (λ (files : Files). Ordered s first h files) (sym is.1.going) (kept is.0)),
        λ bytes given.
            begins_there (events_in bytes).0 end came.0 (λ due. let is = came.1 due in (is.0, is.1.going))
            (λ due. let is = came.1 due in ap (λ (l : List ℕ). (events_in l).0) (is.1.ended bytes given ∙ its_content is.0) ∙ sym in_file),
      ),
    )

    reads_by : (kept_as : Held) → kept_of s h r.chunk ≡ Some kept_as → chunk_events (Some kept_as) h r ≡ (events_in (content h r.chunk)).0 → ((due : Allowed s m.past) → HoldsThroughout disk.DiskTransition Same Gave m.files (read_content_program kept_as))
        → HoldsThroughout LeadsTo (Safe s first) Read m (on_disk (read_content_program kept_as))
    reads_by kept_as is in_file calls =
        holds_weaker LeadsTo (Safe s first) (Safe s first) (Came s first m (HoldsAfter Same Gave)) Read m (on_disk (read_content_program kept_as)) (λ end safe. safe)
        (read_end (ap (λ (k : Option Held). chunk_events k h r) is ∙ in_file))
        (runs s first m Same (HoldsAfter Same Gave) safe_there (read_content_program kept_as) (λ due. with_all Same Gave (read_content_program kept_as) m.files (kept due).order.sound (calls due)))

  pub file_begins : may_start s h r ≡ true → (head : ChunkHead) → kept_of s h r.chunk ≡ Some (InFile head)
      → HoldsThroughout LeadsTo (Safe s first) (λ answer end. (logged end.past ≡ h) × (Kept s first end × ((bytes : List ℕ) → answer ≡ Some bytes → MayBegin (events_in bytes).0 end))) m (on_disk (read_content_program (InFile head)))
  file_begins may head is = reads_by may head (ap head_of is) (InFile head) is refl (λ due. holds_reads head.name (24 + head.meta) head.size m.files)

  pub found_begins : may_start s h r ≡ true → (head : ChunkHead) → kept_of s h r.chunk ≡ Some (Adopted head)
      → HoldsThroughout LeadsTo (Safe s first) (λ answer end. (logged end.past ≡ h) × (Kept s first end × ((bytes : List ℕ) → answer ≡ Some bytes → MayBegin (events_in bytes).0 end))) m (on_disk (read_content_program (Adopted head)))
  found_begins may head is = reads_by may head (ap head_of is) (Adopted head) is refl (λ due. holds_reads head.name (24 + head.meta) head.size m.files)
