-- The order invariant after a chunk begins with a batch, and after a batch that no chunk came of.
use Rattle.std.proofs.Common.{◌≡◌, ◌≢◌, ◌⊎◌, inl, inr, ⊎_elim, ℕ, ◌+◌, ◌<◌, ◌≤◌, nat_lt, true, false, List, [], ◌∷◌, ◌++◌, length, unwrap_or, Some, None, refl, sym, ◌∙◌, ap, subst, arith}
use Rattle.std.specs.Prelude.{Contains, ◌==◌, IsUtf8}
use Rattle.std.proofs.lemmas.Bool.{cond-true, cond-false, eq-eqb, ne_eqb, ltb-true}
use Rattle.std.proofs.lemmas.List.Elements.{Contains-append_left, Contains-append_right, Contains-append_cases}
use Rattle.fwd_base.specs.Limits.{numbers_end, longest_tag}
use Rattle.fwd_outside.specs.declared.home.Home.{Home}
use Rattle.fwd_outside.specs.declared.home.Home.TheVariants.{Disk, Ram}
use Rattle.fwd_event.specs.declared.event.Event.{Event}
use Rattle.fwd_event.specs.Event.{AreEvents}
use Rattle.fwd_outside.specs.File.{FileState, IsPostCrash}
use Rattle.fwd_outside.specs.DiskStates.{Files}
use Rattle.fwd_outside.specs.PostCrash.{AllPostCrash, OthersUnchanged, WholeOrAbsent}
use Rattle.fwd_outside.proofs.Invariant.{AllInvariant}
use Rattle.fwd_chunk.specs.declared.append.ChunkHead.{ChunkHead}
use Rattle.fwd_chunk.specs.Layout.{AreOutputs, unrecorded, new_meta, new_file}
use Rattle.fwd_chunk.specs.Append.{new_head, DurableIn}
use Rattle.fwd_chunk.specs.declared.kept.Kept.TheVariants.{InFile, InMemory}
use Rattle.fwd_chunk.specs.Kept.{file_of_optional}
use Rattle.fwd_chunk.proofs.Digits.{same_name}
use Rattle.fwd_store.specs.Store.{new_kept}
use Rattle.fwd_backlog.specs.declared.listed_file.Listed.{Listed}
use Rattle.fwd_backlog.specs.Listing.{path_of, IsNamed}
use Rattle.fwd_settings.specs.declared.settings_types.AllSettings.{AllSettings}
use Rattle.fwd_settings.specs.Requirements.{MeetsRequirements}
use Rattle.fwd_model.specs.Fact.{History, Batch, NewChunk, Offered, Accepted}
use Rattle.fwd_model.specs.Settings.{home_at, input_name, output_name, names_for}
use Rattle.fwd_model.specs.Chunks.{ChunkInfo, chunks_of, chunk_at, next, content, offered_events, encoded}
use Rattle.fwd_model.specs.ChunkStorage.{kept_of, name_for, created_with}
use Rattle.fwd_model.specs.Routes.{home_of}
use Rattle.fwd_model.specs.Notes.{is_empty}
use Rattle.fwd_theorem_trace.specs.Sound.{Sound}
use Rattle.fwd_theorem_trace.specs.Allowed.{IsToStore}
use Rattle.fwd_theorem_trace.proofs.Members.{here, deeper, either}
use Rattle.fwd_theorem_crash.specs.ChunkFile.{RepresentsChunk, IsIntact}
use Rattle.fwd_theorem_crash.specs.Safety.{AccountsFor, IsHeld, IsPlaced}
use Rattle.fwd_theorem_crash.proofs.OrderInvariant.{head_of, NamesAll, PendingFile, InOrder}
use Rattle.fwd_theorem_crash.proofs.HeadMetadata.{fits_head}
use Rattle.fwd_model.proofs.Outputs.{names_are}
use Rattle.fwd_theorem_crash.proofs.StorageFolder.{stored_under}
use Rattle.fwd_theorem_crash.proofs.StreamNames.{new_path}
use Rattle.fwd_theorem_crash.proofs.EncodedEvents.{AreWritten, written_some}
use Rattle.fwd_theorem_crash.proofs.FileContents.{IsNewChunk, new_holds, new_named, settled_image}
use Rattle.fwd_theorem_crash.proofs.UnchangedChunks.{one_name, IsUnchanged, of_still, of_behind, left_still, moved_order}
use Rattle.fwd_theorem_crash.proofs.UnusedNumbers.{content_unused, recorded_unused, no_chunk_next, no_head_next, no_file_next, find_none_more}

-- the chunk that begins with a batch
abbrev pub begun_chunk : ℕ → Batch → ChunkInfo
begun_chunk n b = record { number = n; input = Some b.input; tag = b.tag }

module _ (s : AllSettings) (first : Files) (h : History) (b : Batch) (files : Files) (sound : Sound s h) (order : InOrder s first h files) where
  abbrev n : ℕ
  n = next h

  abbrev its_name : List ℕ
  its_name = name_for s b.input n

  -- it was offered, and it exists
  abbrev offered : History
  offered = Offered n b ∷ h

  abbrev begun : History
  begun = Accepted b (NewChunk n) ∷ offered

  abbrev new : ChunkInfo
  new = begun_chunk n b

  other_number : (m : ℕ) → m ≢ n → (n == m) ≡ false
  other_number m ne = ne_eqb n m (λ e. ne (sym e))

  offered_alike : (m : ℕ) → m ≢ n → IsUnchanged s h offered m
  offered_alike m ne = record { has = refl; more = cond-false (n == m) b.events (offered_events h m) (other_number m ne); closed = refl; done = λ _. refl; begun = λ _. refl; ended = λ _. refl }

  begun_alike : (m : ℕ) → m ≢ n → IsUnchanged s h begun m
  begun_alike m ne = record {
    has = cond-false (n == m) (content h m ++ encoded b.events) (content h m) (other_number m ne);
    more = cond-false (n == m) [] (offered_events offered m) (other_number m ne) ∙ cond-false (n == m) b.events (offered_events h m) (other_number m ne);
    closed = refl;
    done = λ _. refl;
    begun = λ _. refl;
    ended = λ _. refl;
  }

  begun_kept : (m : ℕ) → m ≢ n → kept_of s begun m ≡ kept_of s h m
  begun_kept m ne = cond-false (n == m) (Some (created_with s b n)) (kept_of s h m) (other_number m ne)

  kept_now : kept_of s begun n ≡ Some (new_kept its_name b.tag (home_at s b.input) (encoded b.events) (names_for s b.tag))
  kept_now = cond-true (n == n) (Some (created_with s b n)) (kept_of s h n) (eq-eqb n n refl)

  content_now : content begun n ≡ encoded b.events
  content_now = cond-true (n == n) (content h n ++ encoded b.events) (content h n) (eq-eqb n n refl) ∙ ap (λ (l : List ℕ). l ++ encoded b.events) (content_unused h n sound.fresh)

  -- ---- its chunk is the added one

  begun_or_old : (c : ChunkInfo) → Contains (chunks_of begun) c → Contains (chunks_of h) c ⊎ (new ≡ c)
  begun_or_old c has =
      ⊎_elim (λ (old : Contains (chunks_of h) c). inl old) (λ (one : Contains (new ∷ []) c). ⊎_elim (λ (same : new ≡ c). inr same) (λ (none : Contains [] c). absurd (omega (arith, none.1))) (either new [] c one))
      (Contains-append_cases (chunks_of h) (new ∷ []) c has)

  begun_was : (c : ChunkInfo) → Contains (chunks_of begun) c → c.number ≢ n → Contains (chunks_of h) c
  begun_was c has ne = ⊎_elim (λ (old : Contains (chunks_of h) c). old) (λ (same : new ≡ c). absurd (ne (ap (λ (d : ChunkInfo). d.number) (sym same)))) (begun_or_old c has)

  begun_is : (c : ChunkInfo) → Contains (chunks_of begun) c → c.number ≡ n → new ≡ c
  begun_is c has one = ⊎_elim (λ (old : Contains (chunks_of h) c). let lt = sound.below c old in absurd (omega (arith, lt, one))) (λ (same : new ≡ c). same) (begun_or_old c has)

  begun_among : Contains (chunks_of begun) new
  begun_among = Contains-append_right (chunks_of h) (new ∷ []) new (here new [])

  -- ---- what accounts for the other files

  not_next : (chunk : ℕ) (name : List ℕ) → file_of_optional (kept_of s h chunk) ≡ Some name → chunk ≢ n
  not_next chunk name at one = no_file_next s first h files sound order name (subst (λ (m : ℕ). file_of_optional (kept_of s h m) ≡ Some name) one at)

  begun_of : (name bytes : List ℕ) → AccountsFor s first h name bytes → AccountsFor s first begun name bytes
  begun_of name bytes is =
      of_still s first h begun name bytes (λ f has. deeper (Accepted b (NewChunk n)) offered f (deeper (Offered n b) h f has)) (λ chunk was. left_still s (Accepted b (NewChunk n)) offered chunk name (left_still s (Offered n b) h chunk name was)) none
      (λ chunk at. IsHeld chunk (ap file_of_optional (begun_kept chunk (not_next chunk name at)) ∙ at)) is
    where
      none : (chunk : ℕ) (other : Batch) → Contains h (Offered chunk other) → chunk_at h chunk ≡ None → chunk_at begun chunk ≡ None
      none chunk other logged is =
          let lt : chunk < n = sound.fresh (Offered chunk other) logged in
          find_none_more (λ (c : ChunkInfo). c.number == chunk) (chunks_of h) new is (ne_eqb n chunk (λ e. omega (arith, lt, e)))

  offered_of : (name bytes : List ℕ) → AccountsFor s first h name bytes → AccountsFor s first offered name bytes
  offered_of name bytes is = of_behind s first (Offered n b) h name bytes refl (λ chunk at. IsHeld chunk at) is

  -- ---- in memory

  module _ (ram : home_at s b.input ≡ Ram) where
    in_memory : kept_of s begun n ≡ Some (InMemory (encoded b.events))
    in_memory = kept_now ∙ ap (λ (place : Home). Some (new_kept its_name b.tag place (encoded b.events) (names_for s b.tag))) ram

    pub begun_memory : InOrder s first (Accepted b (NewChunk (next h)) ∷ Offered (next h) b ∷ h) files
    begun_memory =
        moved_order s first h begun files files n (λ name. ⊥) (record {
          sound = order.sound;
          same = λ name off. refl;
          apart = λ m name ne is no. no;
          was = begun_was;
          stays = λ c has. Contains-append_left (chunks_of h) (new ∷ []) c has;
          alike = begun_alike;
          kept = begun_kept;
          held = λ name is. absurd (cc (sym (ap file_of_optional in_memory) ∙ is));
          home = λ head is. absurd (cc (sym (ap head_of in_memory) ∙ is));
          filed = λ c has one is home. absurd (not_filed c (begun_is c has one) home);
          later = omega arith;
          free = λ root under input chunk le lt no. no;
          others = λ name bytes is. begun_of name bytes (order.others name bytes is);
        }) order
      where
        not_filed : (c : ChunkInfo) → new ≡ c → home_of s c.input ≡ Disk → ⊥
        not_filed c same home =
            let disk : home_at s b.input ≡ Disk = ap (λ (d : ChunkInfo). home_of s d.input) same ∙ home in
            absurd (cc (sym ram ∙ disk))

  -- ---- in a file

  module _ (now : Files) (disk : home_at s b.input ≡ Disk) (root : List ℕ) (under : s.service.path ≡ Some root) (left : nat_lt (next h) numbers_end ≡ true) (same : OthersUnchanged (name_for s b.input (next h)) files now) (all : AllInvariant now) where
    abbrev IsIts : List ℕ → Type 0
    IsIts other = other ≡ its_name

    small : n < numbers_end
    small = ltb-true n numbers_end left

    its_apart : (m : ℕ) (other : List ℕ) → m ≢ n → file_of_optional (kept_of s h m) ≡ Some other → IsIts other → ⊥
    its_apart m other ne is one = (order.free root under b.input n (omega arith) small).unheld m (is ∙ ap (λ (l : List ℕ). Some l) one)

    its_free : (root' : List ℕ) → s.service.path ≡ Some root' → (input chunk : ℕ) → n + 1 ≤ chunk → chunk < numbers_end → IsIts (name_for s input chunk) → ⊥
    its_free root' under' input chunk le lt one =
        let equal : chunk ≡ n = same_name (unwrap_or s.service.path []) (input_name s input) (input_name s b.input) chunk n (omega (arith, lt)) (omega (arith, small)) one in
        omega (arith, equal, le)

    old_image : (other bytes : List ℕ) → other ≢ its_name → IsPostCrash (now other) (Some bytes) → AccountsFor s first h other bytes
    old_image other bytes ne is = order.others other bytes (subst (λ (f : FileState). IsPostCrash f (Some bytes)) (same other ne) is)

    -- no chunk came of it
    unplaced_in_file : AllPostCrash (name_for s b.input (next h)) (WholeOrAbsent (new_file b.tag (encoded b.events) (names_for s b.tag))) now → InOrder s first (Offered (next h) b ∷ h) now
    unplaced_in_file images =
        moved_order s first h offered files now n IsIts (record {
          sound = all;
          same = same;
          apart = its_apart;
          was = λ c has ne. has;
          stays = λ c has. has;
          alike = offered_alike;
          kept = λ m ne. refl;
          held = λ name is. absurd (no_file_next s first h files sound order name is);
          home = λ head is. absurd (no_head_next s first h files sound order head is);
          filed = λ c has one is home. let lt = sound.below c has in absurd (omega (arith, lt, one));
          later = omega arith;
          free = λ root' under' input chunk le lt one. its_free root' under' input chunk (omega (arith, le)) lt one;
          others = others;
        }) order
      where
        same_bytes : (x y : List ℕ) → Some x ≡ Some y → x ≡ y
        same_bytes x y e = cc e

        placed : (other bytes : List ℕ) → other ≡ its_name → WholeOrAbsent (new_file b.tag (encoded b.events) (names_for s b.tag)) (Some bytes) → AccountsFor s first offered other bytes
        placed other bytes one (inl is) = IsPlaced n b (here (Offered n b) h) (no_chunk_next s h sound) one (same_bytes bytes (new_file b.tag (encoded b.events) (names_for s b.tag)) is)
        placed other bytes one (inr is) = absurd (cc is)

        others : (other bytes : List ℕ) → IsPostCrash (now other) (Some bytes) → AccountsFor s first offered other bytes
        others other bytes is =
            ⊎_elim (λ (one : other ≡ its_name). placed other bytes one (images (Some bytes) (subst (λ (f : FileState). IsPostCrash f (Some bytes)) (ap now one) is)))
            (λ (ne : other ≢ its_name). offered_of other bytes (old_image other bytes ne is)) (one_name other its_name)

    abbrev its_head : ChunkHead
    its_head = new_head its_name b.tag (encoded b.events) (names_for s b.tag)

    in_file : kept_of s begun n ≡ Some (InFile its_head)
    in_file = kept_now ∙ ap (λ (place : Home). Some (new_kept its_name b.tag place (encoded b.events) (names_for s b.tag))) disk

    module _ (path : Listed) (named : IsNamed path) (is_path : name_for s b.input (next h) ≡ path_of root path) (outputs : AreOutputs (names_for s b.tag)) (text : IsUtf8 b.tag) (short : length b.tag ≤ longest_tag)
        (events : List Event) (are : AreEvents events (encoded b.events)) (some : is_empty events ≡ false)
        (settled : DurableIn (new_head (name_for s b.input (next h)) b.tag (encoded b.events) (names_for s b.tag)) (new_meta b.tag (names_for s b.tag)) (encoded b.events) now) where
      holds_new : (bytes : List ℕ) → IsNewChunk b.tag (encoded b.events) bytes → RepresentsChunk s begun new bytes
      holds_new bytes made = record {
        chunk = made.chunk;
        found = made.found;
        tag = made.tag;
        content = inl (made.content ∙ sym content_now);
        recorded = λ output has is. absurd (cc (sym (recorded_unused s h n output sound.fresh) ∙ is));
        no_other = λ output has is. absurd (cc (sym (made.none (output_name s output)) ∙ is));
      }

      its_images : AllPostCrash its_name (IsIntact s begun new) now
      its_images image is =
          let one = settled_image its_head (new_meta b.tag (names_for s b.tag)) (encoded b.events) now settled image is in
          subst (IsIntact s begun new) (sym one.1) (holds_new one.0 (new_holds b.tag (names_for s b.tag) events (encoded b.events) one.0 text short outputs are some one.2))

      its_names : AllPostCrash its_name (NamesAll its_head) now
      its_names image is =
          let one = settled_image its_head (new_meta b.tag (names_for s b.tag)) (encoded b.events) now settled image is in
          subst (NamesAll its_head) (sym one.1) (fits_head its_head b.tag (unrecorded (names_for s b.tag)) (encoded b.events) one.0 (new_named its_head b.tag (names_for s b.tag) (encoded b.events) one.0 one.2 one.3 refl))

      filed_new : PendingFile s begun new now
      filed_new = record {
        root = root;
        path = path;
        under = under;
        named = named;
        head = its_head;
        held = ap head_of in_file;
        name = is_path;
        sized = ap (λ (l : List ℕ). length l) (sym content_now);
        images = its_images;
        names = its_names;
        at_work = λ off. record {
          kept = in_file;
          mark = refl;
          outputs = refl;
          settled = subst (λ (l : List ℕ). DurableIn its_head (new_meta b.tag (names_for s b.tag)) l now) (sym content_now) settled;
          events = events;
          are = subst (AreEvents events) (sym content_now) are;
        };
      }

      begun_in_file : InOrder s first begun now
      begun_in_file =
          moved_order s first h begun files now n IsIts (record {
            sound = all;
            same = same;
            apart = its_apart;
            was = begun_was;
            stays = λ c has. Contains-append_left (chunks_of h) (new ∷ []) c has;
            alike = begun_alike;
            kept = begun_kept;
            held = λ name is. same_bytes name its_name (sym is ∙ ap file_of_optional in_file);
            home = λ head is. record { of = new; among = begun_among; is = refl; home = disk };
            filed = λ c has one is home. subst (λ (d : ChunkInfo). PendingFile s begun d now) (begun_is c has one) filed_new;
            later = omega arith;
            free = λ root' under' input chunk le lt one. its_free root' under' input chunk (omega (arith, le)) lt one;
            others = others;
          }) order
        where
          same_bytes : (x y : List ℕ) → Some x ≡ Some y → x ≡ y
          same_bytes x y e = cc e

          others : (other bytes : List ℕ) → IsPostCrash (now other) (Some bytes) → AccountsFor s first begun other bytes
          others other bytes is =
              ⊎_elim (λ (one : other ≡ its_name). IsHeld n (ap file_of_optional in_file ∙ ap (λ (l : List ℕ). Some l) (sym one))) (λ (ne : other ≢ its_name). begun_of other bytes (old_image other bytes ne is)) (one_name other its_name)

-- ---- if the settings are sound

module _ (s : AllSettings) (first : Files) (sane : MeetsRequirements s) (h : History) (b : Batch) (files : Files) (sound : Sound s h) (order : InOrder s first h files) (left : nat_lt (next h) numbers_end ≡ true) where
  pub begun_order : (now : Files) → IsToStore s b → IsUtf8 b.tag → length b.tag ≤ longest_tag → AreWritten b.events (encoded b.events) → home_at s b.input ≡ Disk → OthersUnchanged (name_for s b.input (next h)) files now
      → DurableIn (new_head (name_for s b.input (next h)) b.tag (encoded b.events) (names_for s b.tag)) (new_meta b.tag (names_for s b.tag)) (encoded b.events) now → AllInvariant now
      → InOrder s first (Accepted b (NewChunk (next h)) ∷ Offered (next h) b ∷ h) now
  begun_order now store text short written disk same settled all =
      let under = stored_under s sane b.input disk in
      let path = new_path s sane under.0 under.1 b.input (next h) (ltb-true (next h) numbers_end left) in
      begun_in_file s first h b files sound order now disk under.0 under.1 left same all path.0 path.1 path.2 (names_are s sane b.tag) text short written.written_as written.are (written_some b.events (encoded b.events) written store.some) settled

  pub unplaced_order : (now : Files) → home_at s b.input ≡ Disk → OthersUnchanged (name_for s b.input (next h)) files now → AllPostCrash (name_for s b.input (next h)) (WholeOrAbsent (new_file b.tag (encoded b.events) (names_for s b.tag))) now → AllInvariant now
      → InOrder s first (Offered (next h) b ∷ h) now
  unplaced_order now disk same images all = let under = stored_under s sane b.input disk in unplaced_in_file s first h b files sound order now disk under.0 under.1 left same all images
