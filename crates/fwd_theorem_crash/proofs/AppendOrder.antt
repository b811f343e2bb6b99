-- The order invariant while a batch is appended to an open chunk, and afterwards.
use Rattle.std.proofs.Common.{◌≡◌, ◌≢◌, ◌⊎◌, inl, inr, ⊎_elim, ℕ, ◌+◌, ◌<◌, ◌≤◌, ◌&&◌, Bool, true, false, not, cond, List, [], ◌∷◌, ◌++◌, append-nil, length, Option, Some, None, refl, sym, ◌∙◌, ap, subst, arith, length-append}
use Rattle.std.specs.Prelude.{Contains, ◌==◌, IsUtf8}
use Rattle.std.specs.Str.{bytes_eq}
use Rattle.std.proofs.lemmas.Bool.{cond-true, cond-false, eq-eqb, ne_eqb, and_parts}
use Rattle.std.proofs.lemmas.List.Elements.{Contains-append_left}
use Rattle.std.proofs.lemmas.Slice.Eq.{bytes_eq-Decides}
use Rattle.fwd_base.specs.Limits.{numbers_end, longest_tag}
use Rattle.fwd_outside.specs.declared.home.Home.TheVariants.{Disk}
use Rattle.fwd_event.specs.declared.event.Event.{Event}
use Rattle.fwd_event.specs.Event.{AreEvents}
use Rattle.fwd_event.proofs.EventLists.{are_more, events_same}
use Rattle.fwd_outside.specs.File.{FileState, IsPostCrash, whole}
use Rattle.fwd_outside.specs.DiskStates.{Files}
use Rattle.fwd_outside.specs.PostCrash.{AllPostCrash, OthersUnchanged}
use Rattle.fwd_outside.proofs.Invariant.{AllInvariant, sound_whole, read_is_post_crash_state}
use Rattle.fwd_chunk.specs.declared.append.ChunkHead.{ChunkHead}
use Rattle.fwd_chunk.specs.Layout.{HasParts, AreOutputs, unrecorded, new_meta}
use Rattle.fwd_chunk.specs.Append.{LeavesOldOrNew, DurableIn, committed_head}
use Rattle.fwd_chunk.specs.declared.kept.Kept.{Kept}
use Rattle.fwd_chunk.specs.declared.kept.Kept.TheVariants.{InFile, Adopted, InMemory}
use Rattle.fwd_chunk.specs.Kept.{file_of_optional}
use Rattle.fwd_settings.specs.declared.settings_types.AllSettings.{AllSettings}
use Rattle.fwd_settings.specs.Requirements.{MeetsRequirements}
use Rattle.fwd_model.specs.Fact.{History, Batch, AppendedTo, Offered, Accepted}
use Rattle.fwd_model.specs.Settings.{outputs_for, output_name, names_for}
use Rattle.fwd_model.specs.RecoveredFile.{is_marked_done}
use Rattle.fwd_model.specs.Notes.{is_empty}
use Rattle.fwd_model.specs.Chunks.{ChunkInfo, chunks_of, open_chunks, open_chunk, is_from, is_closed, next, content, offered_events, encoded}
use Rattle.fwd_model.specs.ChunkStorage.{kept_of, name_for, grown_by}
use Rattle.fwd_model.specs.Routes.{route, is_owed, home_of}
use Rattle.fwd_theorem_trace.specs.Sound.{Sound}
use Rattle.fwd_theorem_trace.proofs.Members.{from_find, from_filter, off_where_not}
use Rattle.fwd_theorem_crash.specs.RecordedOutcomes.{is_recorded}
use Rattle.fwd_theorem_crash.specs.ChunkFile.{RepresentsChunk, IsIntact}
use Rattle.fwd_theorem_crash.specs.Safety.{AccountsFor, IsHeld}
use Rattle.fwd_theorem_crash.proofs.OrderInvariant.{head_of, NamesAll, IsOpen, PendingFile, InOrder}
use Rattle.fwd_theorem_crash.proofs.Lookups.{head_held, same_head, one_chunk}
use Rattle.fwd_theorem_crash.proofs.OutcomeMetadata.{done_unrecorded, is_among}
use Rattle.fwd_theorem_crash.proofs.HeadMetadata.{fits_head}
use Rattle.fwd_model.proofs.Outputs.{names_are}
use Rattle.fwd_theorem_crash.proofs.EncodedEvents.{AreWritten}
use Rattle.fwd_theorem_crash.proofs.FileContents.{IsNewChunk, new_holds, new_named, settled_image, parts_were}
use Rattle.fwd_theorem_crash.proofs.UnchangedChunks.{one_name, IsUnchanged, of_behind, moved_order}

-- ---- the file of an open chunk has events, and no outcome

some_events : (events : List Event) → (length events == 0) ≡ false → is_empty events ≡ false
some_events [] some = absurd (cc (sym (eq-eqb 0 0 refl) ∙ some))
some_events (e ∷ events) some = refl

some_more : (events more : List Event) → is_empty events ≡ false → is_empty (events ++ more) ≡ false
some_more [] more some = absurd (cc some)
some_more (e ∷ events) more some = refl

module _ (s : AllSettings) (h : History) (c : ChunkInfo) (head : ChunkHead) (files : Files) (at_work : IsOpen s h c head files) (images : AllPostCrash head.name (IsIntact s h c) files) where
  abbrev meta : List ℕ
  meta = new_meta c.tag (names_for s c.tag)

  abbrev bytes : List ℕ
  bytes = at_work.settled.bytes

  its_image : IsPostCrash (files head.name) (Some bytes)
  its_image = subst (λ (f : FileState). IsPostCrash f (Some bytes)) (sym at_work.settled.state) (read_is_post_crash_state (whole bytes) (sound_whole bytes))

  its_whole : RepresentsChunk s h c bytes
  its_whole = images (Some bytes) its_image

  its_parts : HasParts 2 bytes meta (content h c.number)
  its_parts = subst (λ (mark : ℕ). HasParts mark bytes meta (content h c.number)) at_work.mark at_work.settled.parts

  pub has_events : is_empty at_work.events ≡ false
  has_events =
      let were = parts_were c.tag (unrecorded (names_for s c.tag)) (content h c.number) bytes its_whole.chunk its_parts its_whole.found in
      let same : were.readable.events ≡ at_work.events = events_same were.readable.events at_work.events (content h c.number) were.readable.are at_work.are in
      subst (λ (es : List Event). is_empty es ≡ false) same (some_events were.readable.events were.readable.some)

  none_done : (name : List ℕ) → is_marked_done name (Some its_whole.chunk) ≡ false
  none_done name =
      let were = parts_were c.tag (unrecorded (names_for s c.tag)) (content h c.number) bytes its_whole.chunk its_parts its_whole.found in
      ap (is_among name) (were.done_are ∙ done_unrecorded (names_for s c.tag))

  pub none_recorded : (output : ℕ) → Contains (outputs_for s c.tag) output → is_recorded s h (route c.number output) ≡ true → ⊥
  none_recorded output has is = absurd (cc (sym (its_whole.recorded output has is) ∙ none_done (output_name s output)))

  pub long_meta : head.meta ≡ length (new_meta c.tag (names_for s c.tag))
  long_meta = (settled_image head meta (content h c.number) files at_work.settled (Some bytes) its_image).3

-- a file of mark 2 with the metadata of a new one represents the chunk, if none of its outcomes is
-- recorded
holds_made : (s : AllSettings) (h : History) (c : ChunkInfo) (all bytes : List ℕ) → IsNewChunk c.tag all bytes → (all ≡ content h c.number) ⊎ (all ≡ content h c.number ++ encoded (offered_events h c.number))
    → ((output : ℕ) → Contains (outputs_for s c.tag) output → is_recorded s h (route c.number output) ≡ true → ⊥) → RepresentsChunk s h c bytes
holds_made s h c all bytes made is none = record {
  chunk = made.chunk;
  found = made.found;
  tag = made.tag;
  content = ⊎_elim (λ (old : all ≡ content h c.number). inl (made.content ∙ old)) (λ (new : all ≡ content h c.number ++ encoded (offered_events h c.number)). inr (made.content ∙ new)) is;
  recorded = λ output has is. absurd (none output has is);
  no_other = λ output has is. absurd (cc (sym (made.none (output_name s output)) ∙ is));
}

-- ---- while the batch is being appended

module _ (s : AllSettings) (h0 h : History) (b : Batch) (c : ChunkInfo) (head : ChunkHead) (files : Files) (outputs : AreOutputs (names_for s c.tag)) (text : IsUtf8 c.tag) (short : length c.tag ≤ longest_tag) (events : List Event) (are : AreEvents events (encoded b.events))
    (at_work : IsOpen s h0 c head files) (before : AllPostCrash head.name (IsIntact s h0 c) files) (has : content h c.number ≡ content h0 c.number) (more : offered_events h c.number ≡ b.events)
    (done : (output : ℕ) → is_recorded s h (route c.number output) ≡ is_recorded s h0 (route c.number output)) where
  abbrev new_metadata : List ℕ
  new_metadata = new_meta c.tag (names_for s c.tag)

  abbrev old : List ℕ
  old = content h0 c.number

  some_then : is_empty at_work.events ≡ false
  some_then = has_events s h0 c head files at_work before

  none_since : (output : ℕ) → Contains (outputs_for s c.tag) output → is_recorded s h (route c.number output) ≡ true → ⊥
  none_since output in_them is = none_recorded s h0 c head files at_work before output in_them (sym (done output) ∙ is)

  of_mark : (bytes all : List ℕ) → HasParts head.mark bytes new_metadata all → HasParts 2 bytes new_metadata all
  of_mark bytes all parts = subst (λ (mark : ℕ). HasParts mark bytes new_metadata all) at_work.mark parts

  either_holds : (image : Option (List ℕ)) → LeavesOldOrNew head.mark new_metadata old (old ++ encoded b.events) image → IsIntact s h c image
  either_holds None either_one = either_one
  either_holds (Some bytes) (inl parts) =
      holds_made s h c old bytes (new_holds c.tag (names_for s c.tag) at_work.events old bytes text short outputs at_work.are some_then (of_mark bytes old parts)) (inl (sym has)) none_since
  either_holds (Some bytes) (inr parts) =
      holds_made s h c (old ++ encoded b.events) bytes
      (new_holds c.tag (names_for s c.tag) (at_work.events ++ events) (old ++ encoded b.events) bytes text short outputs (are_more at_work.events events old (encoded b.events) at_work.are are) (some_more at_work.events events some_then) (of_mark bytes (old ++ encoded b.events) parts))
      (inr (sym (ap (λ (l : List ℕ). l ++ encoded (offered_events h c.number)) has ∙ ap (λ (es : List Event). old ++ encoded es) more))) none_since

  one_named : (bytes all : List ℕ) → HasParts head.mark bytes new_metadata all → NamesAll head (Some bytes)
  one_named bytes all parts =
      fits_head head c.tag (unrecorded (names_for s c.tag)) all bytes (new_named head c.tag (names_for s c.tag) all bytes (of_mark bytes all parts) (long_meta s h0 c head files at_work before) at_work.outputs)

  either_named : (image : Option (List ℕ)) → LeavesOldOrNew head.mark new_metadata old (old ++ encoded b.events) image → NamesAll head image
  either_named None either_one = absurd either_one
  either_named (Some bytes) (inl parts) = one_named bytes old parts
  either_named (Some bytes) (inr parts) = one_named bytes (old ++ encoded b.events) parts

  pub either_whole : (now : Files) → AllPostCrash head.name (LeavesOldOrNew head.mark (new_meta c.tag (names_for s c.tag)) (content h0 c.number) (content h0 c.number ++ encoded b.events)) now
      → AllPostCrash head.name (IsIntact s h c) now × AllPostCrash head.name (NamesAll head) now
  either_whole now leaves = (λ image is. either_holds image (leaves image is), λ image is. either_named image (leaves image is))

-- ---- the open chunk of an input and tag

module _ (s : AllSettings) (h : History) (b : Batch) (c : ChunkInfo) (is_open : open_chunk h b.input b.tag ≡ Some c) where
  pub open_among : Contains (open_chunks h) c
  open_among = (from_find (λ (d : ChunkInfo). is_from b.input d.input && bytes_eq d.tag b.tag) (open_chunks h) c is_open).0

  pub open_tag : c.tag ≡ b.tag
  open_tag =
      let test = (from_find (λ (d : ChunkInfo). is_from b.input d.input && bytes_eq d.tag b.tag) (open_chunks h) c is_open).1 in
      (bytes_eq-Decides c.tag b.tag).0 (and_parts (is_from b.input c.input) (bytes_eq c.tag b.tag) test).1

  pub open_is_chunk : Contains (chunks_of h) c
  open_is_chunk = (from_filter (λ (d : ChunkInfo). not (is_closed h d.number)) (chunks_of h) c open_among).0

  pub open_not_shut : is_closed h c.number ≡ false
  open_not_shut = off_where_not (is_closed h c.number) (from_filter (λ (d : ChunkInfo). not (is_closed h d.number)) (chunks_of h) c open_among).1

module _ (s : AllSettings) (first : Files) (h : History) (b : Batch) (c : ChunkInfo) (files : Files) (sound : Sound s h) (order : InOrder s first h files) (is_open : open_chunk h b.input b.tag ≡ Some c) where
  abbrev n : ℕ
  n = c.number

  abbrev offered : History
  offered = Offered n b ∷ h

  abbrev grown : History
  grown = Accepted b (AppendedTo n) ∷ offered

  other_number : (m : ℕ) → m ≢ n → (n == m) ≡ false
  other_number m ne = ne_eqb n m (λ e. ne (sym e))

  grown_alike : (m : ℕ) → m ≢ n → IsUnchanged s h grown m
  grown_alike m ne = record {
    has = cond-false (n == m) (content h m ++ encoded b.events) (content h m) (other_number m ne);
    more = cond-false (n == m) [] (offered_events offered m) (other_number m ne) ∙ cond-false (n == m) b.events (offered_events h m) (other_number m ne);
    closed = refl;
    done = λ _. refl;
    begun = λ _. refl;
    ended = λ _. refl;
  }

  grown_kept : (m : ℕ) → m ≢ n → kept_of s grown m ≡ kept_of s h m
  grown_kept m ne = cond-false (n == m) (grown_by (encoded b.events) (kept_of s h m)) (kept_of s h m) (other_number m ne)

  kept_now : kept_of s grown n ≡ grown_by (encoded b.events) (kept_of s h n)
  kept_now = cond-true (n == n) (grown_by (encoded b.events) (kept_of s h n)) (kept_of s h n) (eq-eqb n n refl)

  content_now : content grown n ≡ content h n ++ encoded b.events
  content_now = cond-true (n == n) (content h n ++ encoded b.events) (content h n) (eq-eqb n n refl)

  among : Contains (chunks_of h) c
  among = open_is_chunk s h b c is_open

  no_more : (d : ChunkInfo) → Contains (chunks_of grown) d → Contains (chunks_of h) d
  no_more d has = subst (λ (cs : List ChunkInfo). Contains cs d) (append-nil (chunks_of h)) has

  no_fewer : (d : ChunkInfo) → Contains (chunks_of h) d → Contains (chunks_of grown) d
  no_fewer d has = Contains-append_left (chunks_of h) [] d has

  its_chunk : (d : ChunkInfo) → Contains (chunks_of grown) d → d.number ≡ n → d ≡ c
  its_chunk d has one = one_chunk s h d c sound (no_more d has) among one

  -- a chunk that is kept in a file still is
  grown_held : (kept : Option Kept) → file_of_optional (grown_by (encoded b.events) kept) ≡ file_of_optional kept
  grown_held None = refl
  grown_held (Some (InFile head)) = refl
  grown_held (Some (Adopted head)) = refl
  grown_held (Some (InMemory all)) = refl

  held_still : (chunk : ℕ) (name : List ℕ) → file_of_optional (kept_of s h chunk) ≡ Some name → file_of_optional (kept_of s grown chunk) ≡ Some name
  held_still chunk name at = by (n == chunk) refl
    where
      by : (t : Bool) → (n == chunk) ≡ t → file_of_optional (cond (n == chunk) (grown_by (encoded b.events) (kept_of s h chunk)) (kept_of s h chunk)) ≡ Some name
      by true is = ap file_of_optional (cond-true (n == chunk) (grown_by (encoded b.events) (kept_of s h chunk)) (kept_of s h chunk) is) ∙ grown_held (kept_of s h chunk) ∙ at
      by false is = ap file_of_optional (cond-false (n == chunk) (grown_by (encoded b.events) (kept_of s h chunk)) (kept_of s h chunk) is) ∙ at

  grown_of : (name bytes : List ℕ) → AccountsFor s first h name bytes → AccountsFor s first grown name bytes
  grown_of name bytes is =
      of_behind s first (Accepted b (AppendedTo n)) offered name bytes (append-nil (chunks_of h)) (λ chunk at. IsHeld chunk (held_still chunk name at))
      (of_behind s first (Offered n b) h name bytes refl (λ chunk at. IsHeld chunk at) is)

  -- ---- in memory

  module _ (no_head : head_of (kept_of s h c.number) ≡ None) where
    no_head_now : head_of (kept_of s grown n) ≡ None
    no_head_now = ap head_of kept_now ∙ by (kept_of s h n) no_head
      where
        by : (kept : Option Kept) → head_of kept ≡ None → head_of (grown_by (encoded b.events) kept) ≡ None
        by None is = refl
        by (Some (InFile head)) is = absurd (cc is)
        by (Some (Adopted head)) is = absurd (cc is)
        by (Some (InMemory all)) is = refl

    no_file_now : (name : List ℕ) → file_of_optional (kept_of s grown n) ≡ Some name → ⊥
    no_file_now name is = let held = head_held (kept_of s grown n) name is in absurd (cc (sym no_head_now ∙ held.1))

    pub grown_memory : InOrder s first (Accepted b (AppendedTo c.number) ∷ Offered c.number b ∷ h) files
    grown_memory =
        moved_order s first h grown files files n (λ name. ⊥) (record {
          sound = order.sound;
          same = λ name off. refl;
          apart = λ m name ne is no. no;
          was = λ d has ne. no_more d has;
          stays = no_fewer;
          alike = grown_alike;
          kept = grown_kept;
          held = no_file_now;
          home = λ head is. absurd (cc (sym no_head_now ∙ is));
          filed = λ d has one is home. absurd (not_filed d (its_chunk d has one) is home);
          later = omega arith;
          free = λ root under input chunk le lt no. no;
          others = λ name bytes is. grown_of name bytes (order.others name bytes is);
        }) order
      where
        not_filed : (d : ChunkInfo) → d ≡ c → is_owed s h d ≡ true → home_of s d.input ≡ Disk → ⊥
        not_filed d same is home =
            let filed = order.owed c among (subst (λ (x : ChunkInfo). is_owed s h x ≡ true) same is) (subst (λ (x : ChunkInfo). home_of s x.input ≡ Disk) same home) in
            absurd (cc (sym no_head ∙ filed.held))

  -- ---- in a file

  module _ (head : ChunkHead) (kept : kept_of s h c.number ≡ Some (InFile head)) where
    held : head_of (kept_of s h n) ≡ Some head
    held = ap head_of kept

    home : home_of s c.input ≡ Disk
    home =
        let at_home = order.home n head held in
        subst (λ (d : ChunkInfo). home_of s d.input ≡ Disk) (one_chunk s h at_home.of c sound at_home.among among at_home.is) at_home.home

    filed : PendingFile s h c files
    filed = order.owed c among (sound.owed c (open_among s h b c is_open)) home

    same_one : filed.head ≡ head
    same_one = same_head (kept_of s h n) filed.head head filed.held held

    pub open_at_work : IsOpen s h c head files
    open_at_work = subst (λ (x : ChunkHead). IsOpen s h c x files) same_one (filed.at_work (open_not_shut s h b c is_open))

    pub open_images : AllPostCrash head.name (IsIntact s h c) files
    open_images = subst (λ (x : ChunkHead). AllPostCrash x.name (IsIntact s h c) files) same_one filed.images

    module _ (now : Files) (outputs : AreOutputs (names_for s c.tag)) (text : IsUtf8 c.tag) (short : length c.tag ≤ longest_tag) (events : List Event) (are : AreEvents events (encoded b.events)) (same : OthersUnchanged head.name files now)
        (settled : DurableIn (committed_head head (head.size + length (encoded b.events))) (new_meta c.tag (names_for s c.tag)) (content h c.number ++ encoded b.events) now) (all : AllInvariant now) where
      abbrev IsIts : List ℕ → Type 0
      IsIts other = other ≡ head.name

      abbrev now_head : ChunkHead
      now_head = committed_head head (head.size + length (encoded b.events))

      abbrev meta_of : List ℕ
      meta_of = new_meta c.tag (names_for s c.tag)

      abbrev content_of : List ℕ
      content_of = content h n ++ encoded b.events

      in_file : kept_of s grown n ≡ Some (InFile now_head)
      in_file = kept_now ∙ ap (grown_by (encoded b.events)) kept

      events_are : AreEvents (open_at_work.events ++ events) content_of
      events_are = are_more open_at_work.events events (content h n) (encoded b.events) open_at_work.are are

      some : is_empty (open_at_work.events ++ events) ≡ false
      some = some_more open_at_work.events events (has_events s h c head files open_at_work open_images)

      two_of : (bytes : List ℕ) → HasParts head.mark bytes meta_of content_of → HasParts 2 bytes meta_of content_of
      two_of bytes parts = subst (λ (mark : ℕ). HasParts mark bytes meta_of content_of) open_at_work.mark parts

      holds_now : (bytes : List ℕ) → HasParts head.mark bytes meta_of content_of → RepresentsChunk s grown c bytes
      holds_now bytes parts =
          holds_made s grown c content_of bytes (new_holds c.tag (names_for s c.tag) (open_at_work.events ++ events) content_of bytes text short outputs events_are some (two_of bytes parts)) (inl (sym content_now))
          (none_recorded s h c head files open_at_work open_images)

      filed_now : PendingFile s grown c now
      filed_now = record {
        root = filed.root;
        path = filed.path;
        under = filed.under;
        named = filed.named;
        head = now_head;
        held = ap head_of in_file;
        name = ap (λ (x : ChunkHead). x.name) (sym same_one) ∙ filed.name;
        sized = ap (λ (k : ℕ). k + length (encoded b.events)) (ap (λ (x : ChunkHead). x.size) (sym same_one) ∙ filed.sized) ∙ sym (length-append (content h n) (encoded b.events)) ∙ ap (λ (l : List ℕ). length l) (sym content_now);
        images = λ image is. let one = settled_image now_head meta_of content_of now settled image is in subst (IsIntact s grown c) (sym one.1) (holds_now one.0 one.2);
        names = λ image is.
            let one = settled_image now_head meta_of content_of now settled image is in
            subst (NamesAll now_head) (sym one.1) (fits_head now_head c.tag (unrecorded (names_for s c.tag)) content_of one.0 (new_named now_head c.tag (names_for s c.tag) content_of one.0 (two_of one.0 one.2) one.3 open_at_work.outputs));
        at_work = λ off. record {
          kept = in_file;
          mark = open_at_work.mark;
          outputs = open_at_work.outputs;
          settled = subst (λ (l : List ℕ). DurableIn now_head meta_of l now) (sym content_now) settled;
          events = open_at_work.events ++ events;
          are = subst (AreEvents (open_at_work.events ++ events)) (sym content_now) events_are;
        };
      }

      grown_in_file : InOrder s first grown now
      grown_in_file =
          moved_order s first h grown files now n IsIts (record {
            sound = all;
            same = same;
            apart = its_apart;
            was = λ d has ne. no_more d has;
            stays = no_fewer;
            alike = grown_alike;
            kept = grown_kept;
            held = λ name is. same_bytes name head.name (sym is ∙ ap file_of_optional in_file);
            home = λ at is. record { of = c; among = no_fewer c among; is = refl; home = home };
            filed = λ d has one is at_home. subst (λ (x : ChunkInfo). PendingFile s grown x now) (sym (its_chunk d has one)) filed_now;
            later = omega arith;
            free = its_free;
            others = others;
          }) order
        where
          same_bytes : (x y : List ℕ) → Some x ≡ Some y → x ≡ y
          same_bytes x y e = cc e

          in_its_file : file_of_optional (kept_of s h n) ≡ Some head.name
          in_its_file = ap file_of_optional kept

          its_apart : (m : ℕ) (other : List ℕ) → m ≢ n → file_of_optional (kept_of s h m) ≡ Some other → IsIts other → ⊥
          its_apart m other ne is one = ne (order.differ m n head.name (is ∙ ap (λ (l : List ℕ). Some l) one) in_its_file)

          its_free : (root : List ℕ) → s.service.path ≡ Some root → (input chunk : ℕ) → next grown ≤ chunk → chunk < numbers_end → IsIts (name_for s input chunk) → ⊥
          its_free root under input chunk le lt one = (order.free root under input chunk (omega (arith, le)) lt).unheld n (in_its_file ∙ ap (λ (l : List ℕ). Some l) (sym one))

          others : (other bytes : List ℕ) → IsPostCrash (now other) (Some bytes) → AccountsFor s first grown other bytes
          others other bytes is =
              ⊎_elim (λ (one : other ≡ head.name). IsHeld n (ap file_of_optional in_file ∙ ap (λ (l : List ℕ). Some l) (sym one)))
              (λ (ne : other ≢ head.name). grown_of other bytes (order.others other bytes (subst (λ (f : FileState). IsPostCrash f (Some bytes)) (same other ne) is))) (one_name other head.name)

-- ---- if the settings are sound

module _ (s : AllSettings) (first : Files) (sane : MeetsRequirements s) where
  pub grown_order : (h : History) (b : Batch) (c : ChunkInfo) (files now : Files) (head : ChunkHead) → Sound s h → InOrder s first h files → open_chunk h b.input b.tag ≡ Some c → IsUtf8 b.tag → length b.tag ≤ longest_tag
      → AreWritten b.events (encoded b.events) → kept_of s h c.number ≡ Some (InFile head) → OthersUnchanged head.name files now
      → DurableIn (committed_head head (head.size + length (encoded b.events))) (new_meta c.tag (names_for s c.tag)) (content h c.number ++ encoded b.events) now → AllInvariant now
      → InOrder s first (Accepted b (AppendedTo c.number) ∷ Offered c.number b ∷ h) now
  grown_order h b c files now head sound order is_open text short written kept same settled all =
      let tag = open_tag s h b c is_open in
      grown_in_file s first h b c files sound order is_open head kept now (names_are s sane c.tag) (subst IsUtf8 (sym tag) text) (subst (λ (t : List ℕ). length t ≤ longest_tag) (sym tag) short) written.written_as written.are same settled all
