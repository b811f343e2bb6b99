-- A chunk begins with a batch: each crash point is safe, and the order invariant holds afterwards.
use Rattle.std.proofs.Common.{◌≡◌, ◌≢◌, inl, inr, ℕ, ◌≤◌, ◌<◌, nat_lt, true, false, List, ◌∷◌, length, Option, Some, None, IsSome, refl, sym, subst, arith}
use Rattle.std.specs.Prelude.{Contains, nat_le}
use Rattle.std.proofs.lemmas.Bool.{ltb-true}
use Rattle.fwd_base.specs.Limits.{numbers_end, full_chunk}
use Rattle.fwd_outside.specs.Program.{bind}
use Rattle.fwd_outside.specs.AtCrashPoints.{HoldsThroughout}
use Rattle.fwd_outside.proofs.CrashPointLemmas.{holds_bind}
use Rattle.fwd_outside.specs.declared.home.Home.{Home}
use Rattle.fwd_outside.specs.declared.home.Home.TheVariants.{Disk, Ram}
use Rattle.fwd_outside.specs.File.{whole}
use Rattle.fwd_outside.specs.DiskStates.{Files}
use Rattle.fwd_outside.specs.DiskStates as disk
use Rattle.fwd_outside.specs.PostCrash.{WholeOrAbsent}
use Rattle.fwd_chunk.specs.Layout.{new_meta, new_file}
use Rattle.fwd_chunk.specs.Append.{IsCreatedAtomically, DurableIn, new_head}
use Rattle.fwd_chunk.proofs.Creation.{length-new_meta, are_short}
use Rattle.fwd_chunk.specs.Kept.{file_of_optional}
use Rattle.fwd_store.specs.Store.{begins_as}
use Rattle.fwd_store.proofs.CrashPoints.{holds_begins, placed_settled}
use Rattle.fwd_settings.specs.declared.settings_types.AllSettings.{AllSettings}
use Rattle.fwd_settings.specs.Requirements.{MeetsRequirements}
use Rattle.fwd_model.specs.Fact.{History, Batch, NewChunk, NotStored, Offered, Accepted, Refused, ChunkClosed, IoFailed}
use Rattle.fwd_model.specs.Trace.{Action, Note}
use Rattle.fwd_model.specs.DeviceActions.{on_disk}
use Rattle.fwd_model.specs.Settings.{home_at, names_for}
use Rattle.fwd_model.specs.Chunks.{chunk_at, open_chunk, next, size, encoded}
use Rattle.fwd_model.specs.ChunkStorage.{kept_of, name_for}
use Rattle.fwd_model.specs.CloseActions.{closes_if_full}
use Rattle.fwd_model.specs.Acceptance.{Acceptance, taken, ends_refused, finishes_create, refuses, starts_chunk}
use Rattle.fwd_theorem_trace.specs.Past.{Past, logged}
use Rattle.fwd_theorem_trace.specs.Allowed.{Allowed, IsToStore}
use Rattle.fwd_theorem_trace.specs.Sound.{Sound}
use Rattle.fwd_theorem_trace.proofs.Members.{here}
use Rattle.fwd_theorem_trace.proofs.Invariant.{sound as sound_past}
use Rattle.fwd_theorem_crash.specs.CrashPoint.{CrashPoint, crash_point, LeadsTo}
use Rattle.fwd_theorem_crash.specs.FlushEvents.{FlushesSendTheirChunks}
use Rattle.fwd_theorem_crash.specs.Safety.{AccountsFor, IsPlaced, IsSafe}
use Rattle.fwd_theorem_crash.proofs.OrderInvariant.{InOrder, HaveRoom}
use Rattle.fwd_theorem_crash.proofs.Safety.{local_safe, order_safe}
use Rattle.fwd_theorem_crash.proofs.PlainFacts.{plain_order, plain_room, offers_order, offers_room}
use Rattle.fwd_theorem_crash.proofs.Room.{RoomBut, room_all, room_shut, room_begun, no_chunk}
use Rattle.fwd_theorem_crash.proofs.WritableBatches.{IsWritable, writable_are}
use Rattle.fwd_theorem_crash.proofs.StorageFolder.{stored_under}
use Rattle.fwd_model.proofs.Outputs.{names_are}
use Rattle.fwd_theorem_crash.proofs.NewChunkOrder.{begun_order, begun_memory, unplaced_order}
use Rattle.fwd_theorem_crash.proofs.RunTraversal.{after, TakenBy}
use Rattle.fwd_theorem_crash.proofs.DiskPoints.{HoldsAfter, with_all, Ordered, Safe, Kept, Came, safe_now, runs, notes}

module _ (s : AllSettings) (settings : MeetsRequirements s) (first : Files) (b : Batch) (m : CrashPoint) (store : IsToStore s b) (writable : IsWritable b)
    (none : open_chunk (logged m.past) b.input b.tag ≡ None) (left : nat_lt (next (logged m.past)) numbers_end ≡ true) (kept : Kept s first m) where
  abbrev h : History
  h = logged m.past

  abbrev n : ℕ
  n = next h

  abbrev name : List ℕ
  name = name_for s b.input n

  abbrev names : List (List ℕ)
  names = names_for s b.tag

  abbrev bytes : List ℕ
  bytes = new_file b.tag (encoded b.events) names

  abbrev g : History
  g = Offered n b ∷ h

  abbrev Took : Acceptance → CrashPoint → Type 0
  Took a end = (a.history ≡ logged end.past) × Kept s first end

  abbrev Taken : CrashPoint → Action Acceptance → Type 0
  Taken at p = TakenBy (Safe s first) (Kept s first) at p

  abbrev Fills : Type 0
  Fills =
      (end : CrashPoint) → Safe s first end → (nat_le full_chunk (size (logged end.past) n) ≡ false → Kept s first end) → ((answer : Unit {0}) → Kept s first (after end (Note (ChunkClosed n)) answer))
      → Taken end (bind (closes_if_full s n (logged end.past)) taken)

  module _ (fills_on : Fills) (offered : Unit {0}) where
    abbrev at : CrashPoint
    at = after m (Note (Offered n b)) offered

    record Here : Type 0 where
      sound : Sound s h
      was : Ordered s first h m.files
      order : InOrder s first g m.files

    here_now : Allowed s m.past → Here
    here_now due =
        let sound = sound_past s m.past due in
        let was = kept due in
        record { sound = sound; was = was; order = offers_order s first h m.files n b sound was.order (inl refl) }

    at_kept : Kept s first at
    at_kept due = let x = here_now due.1 in record { order = x.order; room = offers_room h n b x.was.room; hands = x.was.hands }

    -- after the acceptance
    accepted : (end : CrashPoint) → logged end.past ≡ g → Safe s first end → (Allowed s end.past → Allowed s m.past × InOrder s first (Accepted b (NewChunk n) ∷ g) end.files)
        → Taken end (finishes_create s b n g (Some tt))
    accepted end same safe behind =
        notes s first Took (Accepted b (NewChunk n)) g end (λ k. bind (closes_if_full s n k) taken) same safe
        (λ answer.
        let last : CrashPoint = after end (Note (Accepted b (NewChunk n))) answer in
        let k : History = Accepted b (NewChunk n) ∷ logged end.past in
        let hands_at : Allowed s m.past → FlushesSendTheirChunks s (logged end.past) = λ due. subst (FlushesSendTheirChunks s) (sym same) (kept due).hands in
        let order : Allowed s last.past → InOrder s first k end.files = λ due. subst (λ (x : History). InOrder s first (Accepted b (NewChunk n) ∷ x) end.files) (sym same) (behind due.1).1 in
        fills_on last (λ due. order_safe s first last.past end.files (order due))
        (λ small due. record { order = order due; room = room_all n k (subst (λ (x : History). RoomBut n (Accepted b (NewChunk n) ∷ x)) (sym same) (room_begun n b h (kept (behind due.1).0).room)) small; hands = hands_at (behind due.1).0 })
        (λ more due.
        record { order = plain_order s first (ChunkClosed n) k end.files tt (order due.1); room = room_shut n k (subst (λ (x : History). RoomBut n (Accepted b (NewChunk n) ∷ x)) (sym same) (room_begun n b h (kept (behind due.1.1).0).room)); hands = hands_at (behind due.1.1).0 }))

    -- ---- in memory

    in_memory : home_at s b.input ≡ Ram → Taken at (finishes_create s b n g (Some tt))
    in_memory ram =
        accepted at refl (safe_now s first at at_kept)
        (λ due. let x = here_now due.1 in (due.1, begun_memory s first h b m.files x.sound x.was.order ram))

    -- ---- in a file

    module _ (disk_home : home_at s b.input ≡ Disk) where
      root : (root : List ℕ) × (s.service.path ≡ Some root)
      root = stored_under s settings b.input disk_home

      lt : n < numbers_end
      lt = ltb-true n numbers_end left

      abbrev Going : Files → Type 0
      Going now = IsCreatedAtomically name bytes m.files now

      abbrev Ended : Option (Unit {0}) → Files → Type 0
      Ended answer last = IsSome answer → last name ≡ whole bytes

      abbrev Behind : Option (Unit {0}) → Files → Type 0
      Behind answer last = HoldsAfter Going Ended answer last

      safe_at : (k : History) (past : Past) (now : Files) → Sound s h → logged past ≡ k → InOrder s first k m.files → Contains k (Offered n b) → chunk_at k n ≡ None → ((chunk : ℕ) → file_of_optional (kept_of s k chunk) ≢ Some name) → Going now → IsSafe s first (crash_point past now)
      safe_at k past now sound same order offers unbegun unheld going =
          local_safe s first past m.files now name (subst (λ (x : History). InOrder s first x m.files) (sym same) order) going.1
          (λ c among owed home held image is. absurd (unheld c.number (subst (λ (x : History). file_of_optional (kept_of s x c.number) ≡ Some name) same held)))
          (λ left_bytes is. subst (λ (x : History). AccountsFor s first x name left_bytes) (sym same) (by left_bytes (going.0 (Some left_bytes) is)))
        where
          by : (left_bytes : List ℕ) → WholeOrAbsent bytes (Some left_bytes) → AccountsFor s first k name left_bytes
          by left_bytes (inl is) = IsPlaced n b offers unbegun refl (cc is)
          by left_bytes (inr is) = absurd (cc is)

      offers_safe : Allowed s m.past → (past : Past) (now : Files) → logged past ≡ g → Going now → IsSafe s first (crash_point past now)
      offers_safe due past now same going =
          let x = here_now due in
          safe_at g past now x.sound same x.order (here (Offered n b) h) (no_chunk s h n x.sound (omega arith)) (x.was.order.free root.0 root.1 b.input n (omega arith) lt).unheld going

      calls : Allowed s at.past → HoldsThroughout disk.DiskTransition Going Behind m.files (begins_as name b.tag Disk (encoded b.events) names)
      calls due =
          let x = here_now due.1 in
          with_all Going Ended (begins_as name b.tag Disk (encoded b.events) names) m.files x.was.order.sound
          (holds_begins name b.tag (encoded b.events) names m.files (x.was.order.free root.0 root.1 b.input n (omega arith) lt).none)

      settled : (last : Files) → last name ≡ whole bytes → DurableIn (new_head name b.tag (encoded b.events) names) (new_meta b.tag names) (encoded b.events) last
      settled last is =
          let outputs = names_are s settings b.tag in
          placed_settled name b.tag (encoded b.events) names last writable.short outputs
          (omega (arith, store.fits, length-new_meta b.tag names writable.short outputs.few (are_short names outputs))) is

      behind : (answer : Option (Unit {0})) (end : CrashPoint) → Came s first at Behind answer end → Taken end (finishes_create s b n g answer)
      behind (Some done) end came =
          accepted end came.0 (λ due. let is = came.1 due in offers_safe is.0.1 end.past end.files came.0 is.1.going)
          (λ due.
          let is = came.1 due in
          let x = here_now is.0.1 in
          (is.0.1, begun_order s first settings h b m.files x.sound x.was.order left end.files store writable.text writable.short (writable_are b writable store.fits) disk_home is.1.going.1 (settled end.files (is.1.ended refl)) is.1.sound))
      behind None end came =
          notes s first Took IoFailed g end (λ k. refuses b NotStored k) came.0 (λ due. let is = came.1 due in offers_safe is.0.1 end.past end.files came.0 is.1.going)
          (λ answer.
          let order : Allowed s end.past → InOrder s first (logged end.past) end.files = λ due.
          let is = came.1 due in
          let x = here_now is.0.1 in
          subst (λ (y : History). InOrder s first y end.files) (sym came.0) (unplaced_order s first settings h b m.files x.sound x.was.order left end.files disk_home is.1.going.1 is.1.going.0 is.1.sound) in
          let room : Allowed s end.past → HaveRoom (logged end.past) = λ due. subst HaveRoom (sym came.0) (offers_room h n b (kept (came.1 due).0.1).room) in
          let hands : Allowed s end.past → FlushesSendTheirChunks s (logged end.past) = λ due. subst (FlushesSendTheirChunks s) (sym came.0) (kept (came.1 due).0.1).hands in
          let faulted : CrashPoint = after end (Note IoFailed) answer in
          let faulted_kept : Kept s first faulted = λ due. record { order = plain_order s first IoFailed (logged end.past) end.files tt (order due.1); room = plain_room IoFailed (logged end.past) tt (room due.1); hands = hands due.1 } in
          notes s first Took (Refused b NotStored) (logged faulted.past) faulted ends_refused refl (safe_now s first faulted faulted_kept)
          (λ more.
          let refused : Kept s first (after faulted (Note (Refused b NotStored)) more) = λ due.
          let was = faulted_kept due.1 in
          record { order = plain_order s first (Refused b NotStored) (logged faulted.past) end.files tt was.order; room = plain_room (Refused b NotStored) (logged faulted.past) tt was.room; hands = was.hands } in
          (safe_now s first (after faulted (Note (Refused b NotStored)) more) refused, (refl, refused))))

      in_file : Taken at (bind (on_disk (begins_as name b.tag Disk (encoded b.events) names)) (finishes_create s b n g))
      in_file =
          holds_bind LeadsTo (Safe s first) (Came s first at Behind) Took at (on_disk (begins_as name b.tag Disk (encoded b.events) names)) (finishes_create s b n g)
          (runs s first at Going Behind (λ due past now same going. offers_safe due.1 past now same going) (begins_as name b.tag Disk (encoded b.events) names) calls) behind

    by_home : (home : Home) → home_at s b.input ≡ home → Taken at (bind (on_disk (begins_as name b.tag home (encoded b.events) names)) (finishes_create s b n g))
    by_home Ram is = in_memory is
    by_home Disk is = in_file is

  pub begins_well : Fills → Taken m (starts_chunk s b n h)
  unfolding starts_chunk
  begins_well fills_on =
      notes s first Took (Offered n b) h m (λ k. bind (on_disk (begins_as name b.tag (home_at s b.input) (encoded b.events) names)) (finishes_create s b n k)) refl (safe_now s first m kept)
      (λ answer. by_home fills_on answer (home_at s b.input) refl)
