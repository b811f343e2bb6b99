-- A chunk begins with a batch.
use Rattle.std.proofs.Common.{◌≡◌, ◌≢◌, ℕ, ◌+◌, ◌<◌, ◌≤◌, nat_lt, true, false, List, [], ◌∷◌, ◌++◌, length, unwrap_or, Option, Some, None, IsSome, refl, sym, ◌∙◌, ap, subst, arith}
use Rattle.std.specs.Prelude.{◌==◌, nat_le}
use Rattle.std.proofs.lemmas.Bool.{cond-true, cond-false, eq-eqb, ne_eqb, ltb-true}
use Rattle.fwd_base.specs.Limits.{numbers_end, full_chunk}
use Rattle.fwd_outside.specs.Program.{bind}
use Rattle.fwd_outside.specs.AtCrashPoints.{HoldsThroughout}
use Rattle.fwd_outside.proofs.CrashPointLemmas.{holds_bind}
use Rattle.fwd_outside.specs.declared.home.Home.{Home}
use Rattle.fwd_outside.specs.declared.home.Home.TheVariants.{Disk, Ram}
use Rattle.fwd_outside.specs.File.{FileState, whole}
use Rattle.fwd_outside.specs.DiskStates.{Files, DiskTransition}
use Rattle.fwd_outside.specs.PostCrash.{OthersUnchanged}
use Rattle.fwd_chunk.specs.declared.append.ChunkHead.{ChunkHead}
use Rattle.fwd_chunk.specs.Layout.{part, new_meta, new_file}
use Rattle.fwd_chunk.specs.Append.{IsCreatedAtomically, new_head}
use Rattle.fwd_chunk.specs.Kept.{file_of_optional}
use Rattle.fwd_chunk.proofs.Digits.{same_name}
use Rattle.fwd_store.specs.Store.{begins_as, new_kept}
use Rattle.fwd_store.proofs.CrashPoints.{holds_begins}
use Rattle.fwd_settings.specs.declared.settings_types.AllSettings.{AllSettings}
use Rattle.fwd_settings.specs.Requirements.{MeetsRequirements}
use Rattle.fwd_model.specs.Fact.{History, Batch, NewChunk, NotStored, Offered, Accepted, Refused, ChunkClosed, IoFailed}
use Rattle.fwd_model.specs.Trace.{Action, Note}
use Rattle.fwd_model.specs.DeviceActions.{on_disk}
use Rattle.fwd_model.specs.Settings.{home_at, input_name, names_for}
use Rattle.fwd_model.specs.Chunks.{next, content, size, encoded}
use Rattle.fwd_model.specs.ChunkStorage.{created_with, kept_of, name_for}
use Rattle.fwd_model.specs.CloseActions.{closes_if_full}
use Rattle.fwd_model.specs.Acceptance.{Acceptance, taken, ends_refused, finishes_create, refuses, starts_chunk}
use Rattle.fwd_theorem_trace.specs.Past.{logged}
use Rattle.fwd_theorem_trace.specs.Allowed.{Allowed}
use Rattle.fwd_theorem_trace.specs.Sound.{Sound}
use Rattle.fwd_theorem_trace.proofs.Invariant.{sound as sound_past}
use Rattle.fwd_theorem_crash.specs.CrashPoint.{CrashPoint, LeadsTo}
use Rattle.fwd_theorem_crash.proofs.OrderInvariant.{head_of}
use Rattle.fwd_theorem_crash.proofs.UnusedNumbers.{content_unused}
use Rattle.fwd_theorem_crash.proofs.StorageFolder.{stored_under}
use Rattle.fwd_theorem_crash.proofs.RunTraversal.{after, TakenBy}
use Rattle.fwd_theorem_content.proofs.KeptContent.{HasContent, FilesHaveContents, carried, moved, memory_changed}
use Rattle.fwd_theorem_content.proofs.Histories.{kept_unused}
use Rattle.fwd_theorem_content.proofs.FileBytes.{part_new}
use Rattle.fwd_theorem_content.proofs.FileEffects.{Anything, holds_at_end}
use Rattle.fwd_theorem_content.proofs.Points.{InOrder, Hands, Kept, Came, hands_now, hands_after, plain_kept, runs, notes}

-- ---- what the history says of chunks after the beginning of one

module _ (s : AllSettings) (h : History) (b : Batch) (sound : Sound s h) where
  abbrev new : ℕ
  new = next h

  abbrev its_name : List ℕ
  its_name = name_for s b.input new

  abbrev batch : List ℕ
  batch = encoded b.events

  abbrev offered : History
  offered = Offered new b ∷ h

  abbrev begun : History
  begun = Accepted b (NewChunk new) ∷ offered

  other_number : (m : ℕ) → m ≢ new → (new == m) ≡ false
  other_number m ne = ne_eqb new m (λ e. ne (sym e))

  begun_kept : (m : ℕ) → m ≢ new → kept_of s begun m ≡ kept_of s h m
  begun_kept m ne = cond-false (new == m) (Some (created_with s b new)) (kept_of s h m) (other_number m ne)

  begun_has : (m : ℕ) → m ≢ new → content begun m ≡ content h m
  begun_has m ne = cond-false (new == m) (content h m ++ batch) (content h m) (other_number m ne)

  kept_now : (home : Home) → home_at s b.input ≡ home → kept_of s begun new ≡ Some (new_kept its_name b.tag home batch (names_for s b.tag))
  kept_now home is =
      cond-true (new == new) (Some (created_with s b new)) (kept_of s h new) (eq-eqb new new refl) ∙ ap (λ (place : Home). Some (new_kept its_name b.tag place batch (names_for s b.tag))) is

  content_now : content begun new ≡ batch
  content_now = cond-true (new == new) (content h new ++ batch) (content h new) (eq-eqb new new refl) ∙ ap (λ (l : List ℕ). l ++ batch) (content_unused h new sound.fresh)

  pub begun_in_memory : (files : Files) → home_at s b.input ≡ Ram → FilesHaveContents s h files → FilesHaveContents s begun files
  begun_in_memory files ram order = memory_changed s h begun files new (ap head_of (kept_now Ram ram)) (ap file_of_optional (kept_now Ram ram)) begun_kept begun_has (omega arith) order

  module _ (files now : Files) (root : List ℕ) (under : s.service.path ≡ Some root) (small : next h < numbers_end) (same : OthersUnchanged (name_for s b.input (next h)) files now) (order : FilesHaveContents s h files) where
    abbrev IsIts : List ℕ → Type 0
    IsIts other = other ≡ its_name

    its_apart : (m : ℕ) (other : List ℕ) → m ≢ new → file_of_optional (kept_of s h m) ≡ Some other → IsIts other → ⊥
    its_apart m other ne is one = (order.free root under b.input new (omega arith) small).unheld m (is ∙ ap (λ (l : List ℕ). Some l) one)

    its_free : (root' : List ℕ) → s.service.path ≡ Some root' → (input chunk : ℕ) → new + 1 ≤ chunk → chunk < numbers_end → IsIts (name_for s input chunk) → ⊥
    its_free root' under' input chunk le lt one =
        let equal : chunk ≡ new = same_name (unwrap_or s.service.path []) (input_name s input) (input_name s b.input) chunk new (omega (arith, lt)) (omega (arith, small)) one in
        omega (arith, equal, le)

    -- no chunk came of it
    pub unplaced_in_file : FilesHaveContents s offered now
    unplaced_in_file =
        moved s h offered files now new IsIts (record {
          same = same;
          apart = its_apart;
          kept = λ m ne. refl;
          has = λ m ne. refl;
          held = λ name is. let none : kept_of s h new ≡ None = kept_unused s h new sound.fresh in absurd (cc (sym (ap file_of_optional none) ∙ is));
          own = λ head is. let none : kept_of s h new ≡ None = kept_unused s h new sound.fresh in absurd (cc (sym (ap head_of none) ∙ is));
          later = omega arith;
          free = λ root' under' input chunk le lt one. its_free root' under' input chunk (omega (arith, le)) lt one;
        }) order

    abbrev its_head : ChunkHead
    its_head = new_head its_name b.tag batch (names_for s b.tag)

    pub begun_in_file : home_at s b.input ≡ Disk → now (name_for s b.input (next h)) ≡ whole (new_file b.tag (encoded b.events) (names_for s b.tag)) → FilesHaveContents s begun now
    begun_in_file disk placed =
        moved s h begun files now new IsIts (record {
          same = same;
          apart = its_apart;
          kept = begun_kept;
          has = begun_has;
          held = λ name is. let both : Some name ≡ Some its_name = sym is ∙ ap file_of_optional (kept_now Disk disk) in cc both;
          own = λ one is.
              let both : Some one ≡ Some its_head = sym is ∙ ap head_of (kept_now Disk disk) in
              let head_is : one ≡ its_head = cc both in
              subst (λ (x : ChunkHead). HasContent x (content begun new) now) (sym head_is) there;
          later = omega arith;
          free = λ root' under' input chunk le lt one. its_free root' under' input chunk (omega (arith, le)) lt one;
        }) order
      where
        there : HasContent its_head (content begun new) now
        there = ap (λ (f : FileState). part f.bytes (24 + length (new_meta b.tag (names_for s b.tag))) (length batch)) placed ∙ part_new b.tag batch (names_for s b.tag) ∙ sym content_now

-- ---- the action

module _ (s : AllSettings) (settings : MeetsRequirements s) (b : Batch) (m : CrashPoint) (left : nat_lt (next (logged m.past)) numbers_end ≡ true) (kept : Kept s m) where
  abbrev h : History
  h = logged m.past

  abbrev n : ℕ
  n = next h

  abbrev name : List ℕ
  name = name_for s b.input n

  abbrev names : List (List ℕ)
  names = names_for s b.tag

  abbrev bytes : List ℕ
  bytes = new_file b.tag (encoded b.events) names

  abbrev g : History
  g = Offered n b ∷ h

  abbrev Took : Acceptance → CrashPoint → Type 0
  Took a end = (a.history ≡ logged end.past) × Kept s end

  abbrev Taken : CrashPoint → Action Acceptance → Type 0
  Taken at p = TakenBy (Hands s) (Kept s) at p

  abbrev Fills : Type 0
  Fills =
      (end : CrashPoint) → Hands s end → (nat_le full_chunk (size (logged end.past) n) ≡ false → Kept s end) → ((answer : Unit {0}) → Kept s (after end (Note (ChunkClosed n)) answer))
      → Taken end (bind (closes_if_full s n (logged end.past)) taken)

  lt : n < numbers_end
  lt = ltb-true n numbers_end left

  module _ (fills_on : Fills) (answer : Unit {0}) where
    abbrev at : CrashPoint
    at = after m (Note (Offered n b)) answer

    at_kept : Kept s at
    at_kept due = let was = kept due.1 in record { contents = carried s h g m.files (record { kept = λ k. refl; has = λ k. refl; later = omega arith }) was.contents; hands = was.hands }

    at_hands : Hands s at
    at_hands = hands_now s at at_kept

    accepted : (end : CrashPoint) → logged end.past ≡ g → Hands s end → (Allowed s end.past → FilesHaveContents s (Accepted b (NewChunk n) ∷ g) end.files) → Taken end (finishes_create s b n g (Some tt))
    accepted end same hands behind =
        notes s Took (Accepted b (NewChunk n)) g end (λ k. bind (closes_if_full s n k) taken) same hands
        (λ noted.
        let last : CrashPoint = after end (Note (Accepted b (NewChunk n))) noted in
        let order : Kept s last = λ due. record { contents = subst (λ (x : History). FilesHaveContents s (Accepted b (NewChunk n) ∷ x) end.files) (sym same) (behind due.1); hands = hands due.1 } in
        fills_on last (hands_now s last order) (λ small. order) (λ more. plain_kept s (ChunkClosed n) more last tt order))

    in_memory : home_at s b.input ≡ Ram → Taken at (finishes_create s b n g (Some tt))
    in_memory ram = accepted at refl at_hands (λ due. begun_in_memory s h b (sound_past s m.past due.1) m.files ram (kept due.1).contents)

    module _ (disk_home : home_at s b.input ≡ Disk) where
      root : (root : List ℕ) × (s.service.path ≡ Some root)
      root = stored_under s settings b.input disk_home

      abbrev Going : Files → Type 0
      Going now = IsCreatedAtomically name bytes m.files now

      abbrev Ended : Option (Unit {0}) → Files → Type 0
      Ended reply last = IsSome reply → last name ≡ whole bytes

      abbrev Over : Option (Unit {0}) → Files → Type 0
      Over reply last = Going last × Ended reply last

      calls : Allowed s at.past → HoldsThroughout DiskTransition Anything (λ reply now. Over reply now) m.files (begins_as name b.tag Disk (encoded b.events) names)
      calls due =
          holds_at_end Going Ended m.files (begins_as name b.tag Disk (encoded b.events) names)
          (holds_begins name b.tag (encoded b.events) names m.files ((kept due.1).contents.free root.0 root.1 b.input n (omega arith) lt).none)

      behind : (reply : Option (Unit {0})) (end : CrashPoint) → Came s at Over reply end → Taken end (finishes_create s b n g reply)
      behind (Some done) end came =
          accepted end came.0 (hands_after s at Over at_hands (Some done) end came)
          (λ due.
          let is = came.1 due in
          begun_in_file s h b (sound_past s m.past is.0.1) m.files end.files root.0 root.1 lt is.1.0.1 (kept is.0.1).contents disk_home (is.1.1 refl))
      behind None end came =
          let hands : Hands s end = hands_after s at Over at_hands None end came in
          let order : Kept s end = λ due.
          let is = came.1 due in
          subst (λ (x : History). InOrder s x end.files) (sym came.0)
          (record { contents = unplaced_in_file s h b (sound_past s m.past is.0.1) m.files end.files root.0 root.1 lt is.1.0.1 (kept is.0.1).contents; hands = (kept is.0.1).hands }) in
          notes s Took IoFailed g end (λ k. refuses b NotStored k) came.0 hands
          (λ noted.
          let faulted : CrashPoint = after end (Note IoFailed) noted in
          let faulted_kept : Kept s faulted = plain_kept s IoFailed noted end tt order in
          notes s Took (Refused b NotStored) (logged faulted.past) faulted ends_refused refl (hands_now s faulted faulted_kept)
          (λ more.
          let refused : Kept s (after faulted (Note (Refused b NotStored)) more) = plain_kept s (Refused b NotStored) more faulted tt faulted_kept in
          (hands_now s (after faulted (Note (Refused b NotStored)) more) refused, (refl, refused))))

      in_file : Taken at (bind (on_disk (begins_as name b.tag Disk (encoded b.events) names)) (finishes_create s b n g))
      in_file =
          holds_bind LeadsTo (Hands s) (λ reply end. Came s at Over reply end) Took at (on_disk (begins_as name b.tag Disk (encoded b.events) names)) (finishes_create s b n g)
          (runs s at Over at_hands (begins_as name b.tag Disk (encoded b.events) names) calls) behind

    by_home : (home : Home) → home_at s b.input ≡ home → Taken at (bind (on_disk (begins_as name b.tag home (encoded b.events) names)) (finishes_create s b n g))
    by_home Ram is = in_memory is
    by_home Disk is = in_file is

  pub begins_well : Fills → Taken m (starts_chunk s b n h)
  unfolding starts_chunk
  begins_well fills_on =
      notes s Took (Offered n b) h m (λ k. bind (on_disk (begins_as name b.tag (home_at s b.input) (encoded b.events) names)) (finishes_create s b n k)) refl (hands_now s m kept)
      (λ answer. by_home fills_on answer (home_at s b.input) refl)
