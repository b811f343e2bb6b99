-- A batch is appended to an open chunk: each crash point is safe, and the order invariant holds
-- afterwards.
use Rattle.std.proofs.Common.{◌≡◌, inr, ℕ, ◌+◌, ◌≤◌, Bool, true, false, List, ◌∷◌, ◌++◌, length, Option, Some, None, IsSome, refl, sym, ◌∙◌, ap, subst, arith}
use Rattle.std.specs.Prelude.{Contains, ◌==◌, nat_le, IsUtf8}
use Rattle.std.specs.Str.{bytes_eq}
use Rattle.std.proofs.lemmas.Bool.{eq-eqb, cond-true, and_parts}
use Rattle.std.proofs.lemmas.Slice.Eq.{bytes_eq-Decides}
use Rattle.fwd_base.specs.Limits.{full_chunk, longest_file, longest_tag}
use Rattle.fwd_outside.specs.Program.{bind}
use Rattle.fwd_outside.specs.AtCrashPoints.{HoldsThroughout}
use Rattle.fwd_outside.proofs.CrashPointLemmas.{holds_bind}
use Rattle.fwd_outside.specs.declared.home.Home.TheVariants.{Disk}
use Rattle.fwd_outside.specs.File.{FileState, IsPostCrash, whole}
use Rattle.fwd_outside.specs.DiskStates.{Files}
use Rattle.fwd_outside.specs.DiskStates as disk
use Rattle.fwd_outside.specs.PostCrash.{AllPostCrash, OthersUnchanged}
use Rattle.fwd_outside.proofs.Invariant.{sound_whole, read_is_post_crash_state}
use Rattle.fwd_chunk.specs.declared.append.ChunkHead.{ChunkHead}
use Rattle.fwd_chunk.specs.Layout.{new_meta}
use Rattle.fwd_chunk.specs.Append.{KeepsOldOrNew, DurableIn, committed_head}
use Rattle.fwd_chunk.proofs.Creation.{length-new_meta, are_short}
use Rattle.fwd_chunk.specs.declared.kept.Kept.{Kept as Held}
use Rattle.fwd_chunk.specs.declared.kept.Kept.TheVariants.{InFile, Adopted, InMemory}
use Rattle.fwd_chunk.specs.Kept.{file_of_optional, appends as appends_kept}
use Rattle.fwd_store.specs.Store.{append_to_program}
use Rattle.fwd_store.proofs.CrashPoints.{holds_appends}
use Rattle.fwd_settings.specs.declared.settings_types.AllSettings.{AllSettings}
use Rattle.fwd_settings.specs.Requirements.{MeetsRequirements}
use Rattle.fwd_model.specs.Fact.{History, Batch, AppendedTo, NotStored, Offered, Accepted, Refused, ChunkClosed, IoFailed}
use Rattle.fwd_model.specs.Trace.{Action, Note}
use Rattle.fwd_model.specs.DeviceActions.{on_disk}
use Rattle.fwd_model.specs.Settings.{names_for}
use Rattle.fwd_model.specs.Chunks.{ChunkInfo, chunks_of, open_chunks, open_chunk, is_from, is_closed, content, size, offered_events, encoded}
use Rattle.fwd_model.specs.ChunkStorage.{kept_of}
use Rattle.fwd_model.specs.Routes.{route, home_of}
use Rattle.fwd_model.specs.Notes.{note_then}
use Rattle.fwd_model.specs.CloseActions.{closes_if_full, closes_chunk}
use Rattle.fwd_model.specs.Acceptance.{Acceptance, taken, ends_refused, finishes_append, appends}
use Rattle.fwd_theorem_trace.specs.Past.{Past, logged}
use Rattle.fwd_theorem_trace.specs.Allowed.{Allowed, IsToStore}
use Rattle.fwd_theorem_trace.specs.Sound.{Sound}
use Rattle.fwd_theorem_trace.proofs.Members.{from_find}
use Rattle.fwd_theorem_trace.proofs.Invariant.{sound as sound_past}
use Rattle.fwd_theorem_crash.specs.CrashPoint.{CrashPoint, crash_point, LeadsTo}
use Rattle.fwd_theorem_crash.specs.RecordedOutcomes.{is_recorded}
use Rattle.fwd_theorem_crash.specs.ChunkFile.{IsIntact}
use Rattle.fwd_theorem_crash.specs.FlushEvents.{FlushesSendTheirChunks}
use Rattle.fwd_theorem_crash.specs.Safety.{IsHeld, IsSafe}
use Rattle.fwd_theorem_crash.proofs.OrderInvariant.{head_of, NamesAll, IsOpen, PendingFile, InOrder, HaveRoom}
use Rattle.fwd_theorem_crash.proofs.Lookups.{same_head, one_chunk}
use Rattle.fwd_theorem_crash.proofs.Safety.{local_safe, order_safe, changed_order}
use Rattle.fwd_theorem_crash.proofs.PlainFacts.{plain_order, plain_room, offers_order, offers_room}
use Rattle.fwd_theorem_crash.proofs.FileContents.{settled_image}
use Rattle.fwd_theorem_crash.proofs.Room.{RoomBut, room_all, room_shut, room_grown, open_of}
use Rattle.fwd_theorem_crash.proofs.WritableBatches.{IsWritable, writable_are}
use Rattle.fwd_model.proofs.Outputs.{names_are}
use Rattle.fwd_theorem_crash.proofs.AppendOrder.{grown_order, grown_memory, either_whole}
use Rattle.fwd_theorem_crash.proofs.RunTraversal.{after, TakenBy}
use Rattle.fwd_theorem_crash.proofs.DiskPoints.{HoldsAfter, with_all, Ordered, Safe, Kept, Came, safe_now, runs, notes}

module _ (s : AllSettings) (settings : MeetsRequirements s) (full : s.service.full ≡ true) (first : Files) (b : Batch) (c : ChunkInfo) (m : CrashPoint) (store : IsToStore s b) (writable : IsWritable b)
    (found : open_chunk (logged m.past) b.input b.tag ≡ Some c) (kept : Kept s first m) where
  abbrev h : History
  h = logged m.past

  abbrev n : ℕ
  n = c.number

  abbrev g : History
  g = Offered n b ∷ h

  abbrev Took : Acceptance → CrashPoint → Type 0
  Took a end = (a.history ≡ logged end.past) × Kept s first end

  abbrev Taken : CrashPoint → Action Acceptance → Type 0
  Taken at p = TakenBy (Safe s first) (Kept s first) at p

  abbrev Fills : Type 0
  Fills =
      (end : CrashPoint) → Safe s first end → (nat_le full_chunk (size (logged end.past) n) ≡ false → Kept s first end) → ((answer : Unit {0}) → Kept s first (after end (Note (ChunkClosed n)) answer))
      → Taken end (bind (closes_if_full s n (logged end.past)) taken)

  abbrev Shuts : Type 0
  Shuts = (end : CrashPoint) → Safe s first end → ((answer : Unit {0}) → Kept s first (after end (Note (ChunkClosed n)) answer)) → Taken end (bind (closes_chunk s n (logged end.past)) ends_refused)

  among_open : Contains (open_chunks h) c
  among_open = (from_find _ (open_chunks h) c found).0

  among : Contains (chunks_of h) c
  among = (open_of h c among_open).0

  off : is_closed h n ≡ false
  off = (open_of h c among_open).1

  same_tag : c.tag ≡ b.tag
  same_tag = (bytes_eq-Decides c.tag b.tag).0 (and_parts (is_from b.input c.input) (bytes_eq c.tag b.tag) (from_find _ (open_chunks h) c found).1).1

  short_tag : length c.tag ≤ longest_tag
  short_tag = subst (λ (tag : List ℕ). length tag ≤ longest_tag) (sym same_tag) writable.short

  text_of : IsUtf8 c.tag
  text_of = subst IsUtf8 (sym same_tag) writable.text

  module _ (fills_on : Fills) (shuts_on : Shuts) (offered : Unit {0}) where
    abbrev at : CrashPoint
    at = after m (Note (Offered n b)) offered

    record Here : Type 0 where
      sound : Sound s h
      was : Ordered s first h m.files
      order : InOrder s first g m.files

    here_now : Allowed s m.past → Here
    here_now due =
        let sound = sound_past s m.past due in
        let was = kept due in
        record { sound = sound; was = was; order = offers_order s first h m.files n b sound was.order (inr (c, among_open, refl)) }

    accepted : (end : CrashPoint) → logged end.past ≡ g → Safe s first end → (Allowed s end.past → Allowed s m.past × InOrder s first (Accepted b (AppendedTo n) ∷ g) end.files)
        → Taken end (finishes_append s b n g (Some tt))
    accepted end same safe behind =
        notes s first Took (Accepted b (AppendedTo n)) g end (λ k. bind (closes_if_full s n k) taken) same safe
        (λ answer.
        let last : CrashPoint = after end (Note (Accepted b (AppendedTo n))) answer in
        let k : History = Accepted b (AppendedTo n) ∷ logged end.past in
        let hands_at : Allowed s m.past → FlushesSendTheirChunks s (logged end.past) = λ due. subst (FlushesSendTheirChunks s) (sym same) (kept due).hands in
        let order : Allowed s last.past → InOrder s first k end.files = λ due. subst (λ (x : History). InOrder s first (Accepted b (AppendedTo n) ∷ x) end.files) (sym same) (behind due.1).1 in
        fills_on last (λ due. order_safe s first last.past end.files (order due))
        (λ small due. record { order = order due; room = room_all n k (subst (λ (x : History). RoomBut n (Accepted b (AppendedTo n) ∷ x)) (sym same) (room_grown n b h (kept (behind due.1).0).room)) small; hands = hands_at (behind due.1).0 })
        (λ more due.
        record { order = plain_order s first (ChunkClosed n) k end.files tt (order due.1); room = room_shut n k (subst (λ (x : History). RoomBut n (Accepted b (AppendedTo n) ∷ x)) (sym same) (room_grown n b h (kept (behind due.1.1).0).room)); hands = hands_at (behind due.1.1).0 }))

    -- ---- in memory

    in_memory : head_of (kept_of s h n) ≡ None → Taken at (finishes_append s b n g (Some tt))
    in_memory none =
        accepted at refl (λ due. order_safe s first at.past m.files (here_now due.1).order)
        (λ due. let x = here_now due.1 in (due.1, grown_memory s first h b c m.files x.sound x.was.order found none))

    -- ---- in a file

    module _ (head : ChunkHead) (held : head_of (kept_of s h n) ≡ Some head) where
      home_disk : Here → home_of s c.input ≡ Disk
      home_disk x =
          let home = x.was.order.home n head held in
          subst (λ (d : ChunkInfo). home_of s d.input ≡ Disk) (one_chunk s h home.of c x.sound home.among among home.is) home.home

      filed : (x : Here) → PendingFile s h c m.files
      filed x = x.was.order.owed c among (x.sound.owed c among_open) (home_disk x)

      open_head : (x : Here) → IsOpen s h c head m.files
      open_head x = subst (λ (one : ChunkHead). IsOpen s h c one m.files) (same_head (kept_of s h n) (filed x).head head (filed x).held held) ((filed x).at_work off)

    module _ (head : ChunkHead) (in_it : kept_of s h n ≡ Some (InFile head)) where
      held : head_of (kept_of s h n) ≡ Some head
      held = ap head_of in_it

      abbrev meta : List ℕ
      meta = new_meta c.tag (names_for s c.tag)

      abbrev batch : List ℕ
      batch = encoded b.events

      abbrev Going : Files → Type 0
      Going now = KeepsOldOrNew head meta (content h n) (content h n ++ batch) m.files now

      abbrev Ended : Option (Unit {0}) → Files → Type 0
      Ended answer last = IsSome answer → DurableIn (committed_head head (head.size + length batch)) meta (content h n ++ batch) last

      abbrev Over : Option (Unit {0}) → Files → Type 0
      Over answer last = HoldsAfter Going Ended answer last

      images_of : (x : Here) → AllPostCrash head.name (IsIntact s h c) m.files
      images_of x = subst (λ (one : ChunkHead). AllPostCrash one.name (IsIntact s h c) m.files) (same_head (kept_of s h n) (filed head held x).head head (filed head held x).held held) (filed head held x).images

      extra_now : offered_events g n ≡ b.events
      extra_now = cond-true (n == n) b.events (offered_events h n) (eq-eqb n n refl)

      -- a history that says of the chunk what this one says while the batch is being appended
      abbrev Recordings : History → Type 0
      Recordings k = (output : ℕ) → is_recorded s k (route n output) ≡ is_recorded s h (route n output)

      both : Here → (k : History) → content k n ≡ content h n → offered_events k n ≡ b.events → Recordings k → (now : Files) → Going now → AllPostCrash head.name (IsIntact s k c) now × AllPostCrash head.name (NamesAll head) now
      both x k has more same now going = either_whole s h k b c head m.files (names_are s settings c.tag) text_of short_tag (writable_are b writable store.fits).written_as (writable_are b writable store.fits).are (open_head head held x) (images_of x) has more same now going.0

      safe_at : Here → (k : History) (past : Past) (now : Files) → logged past ≡ k → InOrder s first k m.files → kept_of s k n ≡ Some (InFile head) → ((d : ChunkInfo) → Contains (chunks_of k) d → d.number ≡ n → d ≡ c)
          → AllPostCrash head.name (IsIntact s k c) now → OthersUnchanged head.name m.files now → IsSafe s first (crash_point past now)
      safe_at x k past now same order in_file_now only images but =
          let held_now : file_of_optional (kept_of s k n) ≡ Some head.name = ap file_of_optional in_file_now in
          local_safe s first past m.files now head.name (subst (λ (y : History). InOrder s first y m.files) (sym same) order) but
          (λ d d_among owed home d_held image is.
          let number : d.number ≡ n = order.differ d.number n head.name (subst (λ (y : History). file_of_optional (kept_of s y d.number) ≡ Some head.name) same d_held) held_now in
          let one : d ≡ c = only d (subst (λ (y : History). Contains (chunks_of y) d) same d_among) number in
          subst (λ (y : History). IsIntact s y d image) (sym same) (subst (λ (e : ChunkInfo). IsIntact s k e image) (sym one) (images image is)))
          (λ bytes is. IsHeld n (subst (λ (y : History). file_of_optional (kept_of s y n) ≡ Some head.name) (sym same) held_now))

      only_one : (x : Here) (d : ChunkInfo) → Contains (chunks_of h) d → d.number ≡ n → d ≡ c
      only_one x d d_among number = one_chunk s h d c x.sound d_among among number

      offers_safe : Allowed s m.past → (past : Past) (now : Files) → logged past ≡ g → Going now → IsSafe s first (crash_point past now)
      offers_safe due past now same going =
          let x = here_now due in
          safe_at x g past now same x.order in_it (only_one x) (both x g refl extra_now (λ output. refl) now going).0 going.1

      fits : (x : Here) → 24 + head.meta + head.size + length batch ≤ longest_file
      fits x =
          let at_work = open_head head held x in
          let file = at_work.settled in
          let image = settled_image head meta (content h n) m.files file (Some file.bytes) (subst (λ (f : FileState). IsPostCrash f (Some file.bytes)) (sym file.state) (read_is_post_crash_state (whole file.bytes) (sound_whole file.bytes))) in
          let outputs = names_are s settings c.tag in
          let small = x.was.room c among_open in
          omega (arith, store.fits, image.3, image.4, small, length-new_meta c.tag (names_for s c.tag) short_tag outputs.few (are_short (names_for s c.tag) outputs))

      calls : Allowed s at.past → HoldsThroughout disk.DiskTransition Going Over m.files (appends_kept (InFile head) batch s.service.full)
      calls due =
          let x = here_now due.1 in
          subst (λ (f : Bool). HoldsThroughout disk.DiskTransition Going Over m.files (appends_kept (InFile head) batch f)) (sym full)
          (with_all Going Ended (appends_kept (InFile head) batch true) m.files x.was.order.sound (holds_appends head meta (content h n) batch m.files (fits x) (open_head head held x).settled))

      -- after a failed append
      abbrev failed : History
      failed = Refused b NotStored ∷ IoFailed ∷ g

      behind : (answer : Option (Unit {0})) (end : CrashPoint) → Came s first at Over answer end → Taken end (finishes_append s b n g answer)
      behind (Some done) end came =
          accepted end came.0 (λ due. let is = came.1 due in offers_safe is.0.1 end.past end.files came.0 is.1.going)
          (λ due.
          let is = came.1 due in
          let x = here_now is.0.1 in
          (is.0.1, grown_order s first settings h b c m.files end.files head x.sound x.was.order found writable.text writable.short (writable_are b writable store.fits) in_it is.1.going.1 (is.1.ended refl) is.1.sound))
      behind None end came =
          notes s first Took IoFailed g end (λ k. note_then (Refused b NotStored) k (λ last. bind (closes_chunk s n last) ends_refused)) came.0 (λ due. let is = came.1 due in offers_safe is.0.1 end.past end.files came.0 is.1.going)
          (λ answer.
          let faulted : CrashPoint = after end (Note IoFailed) answer in
          let faulted_is : logged faulted.past ≡ IoFailed ∷ g = ap (λ (y : History). IoFailed ∷ y) came.0 in
          notes s first Took (Refused b NotStored) (logged faulted.past) faulted (λ last. bind (closes_chunk s n last) ends_refused) refl
          (λ due.
          let is = came.1 due.1 in
          let x = here_now is.0.1 in
          safe_at x (IoFailed ∷ g) faulted.past end.files faulted_is (plain_order s first IoFailed g m.files tt x.order) in_it (only_one x) (both x (IoFailed ∷ g) refl extra_now (λ output. refl) end.files is.1.going).0 is.1.going.1)
          (λ more.
          let refused : CrashPoint = after faulted (Note (Refused b NotStored)) more in
          let refused_is : logged refused.past ≡ failed = ap (λ (y : History). Refused b NotStored ∷ y) faulted_is in
          let order : (x : Here) → InOrder s first failed m.files = λ x. plain_order s first (Refused b NotStored) (IoFailed ∷ g) m.files tt (plain_order s first IoFailed g m.files tt x.order) in
          shuts_on refused
          (λ due.
          let is = came.1 due.1.1 in
          let x = here_now is.0.1 in
          safe_at x failed refused.past end.files refused_is (order x) in_it (only_one x) (both x failed refl extra_now (λ output. refl) end.files is.1.going).0 is.1.going.1)
          (λ last due.
          let is = came.1 due.1.1.1 in
          let x = here_now is.0.1 in
          let closed : InOrder s first (ChunkClosed n ∷ failed) m.files = plain_order s first (ChunkClosed n) failed m.files tt (order x) in
          let images = both x (ChunkClosed n ∷ failed) refl extra_now (λ output. refl) end.files is.1.going in
          let room : HaveRoom (ChunkClosed n ∷ failed) = plain_room (ChunkClosed n) failed tt (plain_room (Refused b NotStored) (IoFailed ∷ g) tt (plain_room IoFailed g tt (offers_room h n b x.was.room))) in
          let sound : Sound s (ChunkClosed n ∷ failed) = subst (Sound s) (ap (λ (y : History). ChunkClosed n ∷ y) refused_is) (sound_past s (after refused (Note (ChunkClosed n)) last).past due) in
          subst (λ (y : History). Ordered s first (ChunkClosed n ∷ y) end.files) (sym refused_is)
          (record { order = changed_order s first (ChunkClosed n ∷ failed) m.files end.files c head sound closed among (cond-true (n == n) true (is_closed failed n) (eq-eqb n n refl)) held is.1.going.1 is.1.sound images.0 images.1; room = room; hands = x.was.hands }))))

      in_file : Taken at (bind (on_disk (appends_kept (InFile head) batch s.service.full)) (finishes_append s b n g))
      in_file =
          holds_bind LeadsTo (Safe s first) (Came s first at Over) Took at (on_disk (appends_kept (InFile head) batch s.service.full)) (finishes_append s b n g)
          (runs s first at Going Over (λ due past now same going. offers_safe due.1 past now same going) (appends_kept (InFile head) batch s.service.full) calls) behind

    -- a recovered chunk takes no batches
    not_found : (head : ChunkHead) → kept_of s h n ≡ Some (Adopted head) → Here → ⊥
    not_found head is x =
        let at_work = open_head head (ap head_of is) x in
        absurd (cc (sym is ∙ at_work.kept))

    found_one : (head : ChunkHead) → kept_of s h n ≡ Some (Adopted head) → Taken at (finishes_append s b n g (Some tt))
    found_one head is =
        accepted at refl (λ due. absurd (not_found head is (here_now due.1))) (λ due. absurd (not_found head is (here_now due.1)))

    by_kept : (held : Option Held) → kept_of s h n ≡ held → Taken at (bind (on_disk (append_to_program held (encoded b.events) s.service.full)) (finishes_append s b n g))
    by_kept None is = in_memory (ap head_of is)
    by_kept (Some (InMemory content)) is = in_memory (ap head_of is)
    by_kept (Some (InFile head)) is = in_file head is
    by_kept (Some (Adopted head)) is = found_one head is

  pub appends_well : Fills → Shuts → Taken m (appends s b n h)
  unfolding appends
  appends_well fills_on shuts_on =
      notes s first Took (Offered n b) h m (λ k. bind (on_disk (append_to_program (kept_of s h n) (encoded b.events) s.service.full)) (finishes_append s b n k)) refl (safe_now s first m kept)
      (λ answer. by_kept fills_on shuts_on answer (kept_of s h n) refl)
