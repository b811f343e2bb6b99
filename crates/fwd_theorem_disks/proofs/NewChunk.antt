-- A chunk begins with a batch.
use Rattle.std.proofs.Common.{◌≡◌, ◌≢◌, ℕ, ◌+◌, ◌<◌, ◌≤◌, nat_lt, true, false, List, ◌∷◌, ◌++◌, length, Option, Some, None, IsSome, refl, sym, ◌∙◌, ap, subst, arith, length-append}
use Rattle.std.specs.Prelude.{◌==◌, nat_le}
use Rattle.std.proofs.lemmas.Bool.{cond-true, cond-false, eq-eqb, ne_eqb, ltb-true}
use Rattle.fwd_base.specs.Limits.{numbers_end, full_chunk}
use Rattle.fwd_outside.specs.Program.{Return, bind}
use Rattle.fwd_outside.specs.AtCrashPoints.{HoldsThroughout}
use Rattle.fwd_outside.proofs.CrashPointLemmas.{holds_bind}
use Rattle.fwd_outside.specs.declared.home.Home.{Home}
use Rattle.fwd_outside.specs.declared.home.Home.TheVariants.{Disk, Ram}
use Rattle.fwd_outside.specs.File.{FileState, absent, whole}
use Rattle.fwd_outside.specs.Disk.{places}
use Rattle.fwd_outside.specs.DiskStates.{Files, DiskTransition}
use Rattle.fwd_outside.specs.PostCrash.{OthersUnchanged}
use Rattle.fwd_chunk.specs.declared.append.ChunkHead.{ChunkHead}
use Rattle.fwd_chunk.specs.Layout.{new_header, new_meta, new_file}
use Rattle.fwd_chunk.specs.Append.{IsCreatedAtomically, create_program, new_head}
use Rattle.fwd_chunk.specs.Kept.{file_of_optional}
use Rattle.fwd_store.specs.Store.{begins_as, new_kept}
use Rattle.fwd_store.proofs.CrashPoints.{holds_begins}
use Rattle.fwd_settings.specs.declared.settings_types.AllSettings.{AllSettings}
use Rattle.fwd_settings.specs.Requirements.{MeetsRequirements}
use Rattle.fwd_model.specs.Fact.{History, Batch, NewChunk, NotStored, Offered, Accepted, Refused, ChunkClosed, IoFailed}
use Rattle.fwd_model.specs.Trace.{Action, Note}
use Rattle.fwd_model.specs.DeviceActions.{on_disk}
use Rattle.fwd_model.specs.Settings.{home_at, names_for}
use Rattle.fwd_model.specs.Chunks.{next, size, encoded}
use Rattle.fwd_model.specs.ChunkStorage.{created_with, kept_of, name_for}
use Rattle.fwd_model.specs.CloseActions.{closes_if_full}
use Rattle.fwd_model.specs.Acceptance.{Acceptance, taken, ends_refused, finishes_create, refuses, starts_chunk}
use Rattle.fwd_theorem_trace.specs.Past.{Past, logged}
use Rattle.fwd_theorem_trace.specs.Allowed.{Allowed}
use Rattle.fwd_theorem_trace.specs.Sound.{Sound}
use Rattle.fwd_theorem_trace.proofs.Invariant.{sound as sound_past}
use Rattle.fwd_theorem_crash.specs.CrashPoint.{CrashPoint, LeadsTo}
use Rattle.fwd_theorem_crash.proofs.OrderInvariant.{head_of}
use Rattle.fwd_theorem_crash.proofs.StorageFolder.{stored_under}
use Rattle.fwd_theorem_crash.proofs.RunTraversal.{after, TakenBy}
use Rattle.fwd_theorem_content.proofs.Histories.{kept_unused}
use Rattle.fwd_theorem_content.proofs.FileEffects.{Anything, holds_at_end}
use Rattle.fwd_theorem_content.proofs.NewChunk.{begun_in_memory, unplaced_in_file, begun_in_file}
use Rattle.fwd_theorem_disks.proofs.MemFiles.{mem}
use Rattle.fwd_theorem_disks.proofs.Fits.{Fits, end_of, fits_same, stand_moved, stand_in_memory}
use Rattle.fwd_theorem_disks.proofs.Pairs.{Has, MemGoes, goes_both, mem_then, Done}
use Rattle.fwd_theorem_disks.proofs.Points.{Shows, Keeps, Came, keeps_noted, plain_kept, runs, notes}

-- ---- how chunks are kept after the beginning of one

-- a new file is as long as its head says
new_long : (tag batch : List ℕ) (outputs : List (List ℕ)) → 24 + length (new_meta tag outputs) + length batch ≤ length (new_file tag batch outputs)
new_long tag batch outputs =
    let meta : List ℕ = new_meta tag outputs in
    let header : List ℕ = new_header (length meta) (length batch) in
    let count : length (new_file tag batch outputs) ≡ 24 + (length meta + length batch) = length-append header (meta ++ batch) ∙ ap (λ (n : ℕ). 24 + n) (length-append meta batch) in
    omega (arith, count)

module _ (s : AllSettings) (h : History) (b : Batch) (sound : Sound s h) where
  abbrev new : ℕ
  new = next h

  abbrev its_name : List ℕ
  its_name = name_for s b.input new

  abbrev batch : List ℕ
  batch = encoded b.events

  abbrev offered : History
  offered = Offered new b ∷ h

  abbrev begun : History
  begun = Accepted b (NewChunk new) ∷ offered

  begun_kept : (m : ℕ) → m ≢ new → kept_of s begun m ≡ kept_of s h m
  begun_kept m ne = cond-false (new == m) (Some (created_with s b new)) (kept_of s h m) (ne_eqb new m (λ e. ne (sym e)))

  kept_now : (home : Home) → home_at s b.input ≡ home → kept_of s begun new ≡ Some (new_kept its_name b.tag home batch (names_for s b.tag))
  kept_now home is =
      cond-true (new == new) (Some (created_with s b new)) (kept_of s h new) (eq-eqb new new refl) ∙ ap (λ (place : Home). Some (new_kept its_name b.tag place batch (names_for s b.tag))) is

  pub fits_in_memory : (live other : Files) → home_at s b.input ≡ Ram → Fits s h live other → Fits s begun live other
  fits_in_memory live other ram fits = record {
    live_has = begun_in_memory s h b sound live ram fits.live_has;
    mem_has = begun_in_memory s h b sound other ram fits.mem_has;
    stand = stand_in_memory s h begun other new begun_kept (ap head_of (kept_now Ram ram)) fits.stand;
  }

  module _ (live other now then : Files) (root : List ℕ) (under : s.service.path ≡ Some root) (small : next h < numbers_end) (one : OthersUnchanged (name_for s b.input (next h)) live now) (two : OthersUnchanged (name_for s b.input (next h)) other then) (fits : Fits s h live other) where
    -- no chunk is kept in the file
    apart : (m : ℕ) (name : List ℕ) → file_of_optional (kept_of s h m) ≡ Some name → then name ≡ other name
    apart m name is = two name (λ same. (fits.mem_has.free root under b.input new (omega arith) small).unheld m (is ∙ ap (λ (l : List ℕ). Some l) same))

    -- no chunk came of it
    pub fits_unplaced : Fits s offered now then
    fits_unplaced = record {
      live_has = unplaced_in_file s h b sound live now root under small one fits.live_has;
      mem_has = unplaced_in_file s h b sound other then root under small two fits.mem_has;
      stand = stand_moved s h offered other then new (λ m ne. refl) (λ m name ne is. apart m name is)
          (λ head is. let none : kept_of s h new ≡ None = kept_unused s h new sound.fresh in let no : None ≡ Some head = sym (ap head_of none) ∙ is in absurd (cc no)) fits.stand;
    }

    abbrev its_head : ChunkHead
    its_head = new_head its_name b.tag batch (names_for s b.tag)

    abbrev IsPlaced : Files → Type 0
    IsPlaced files = files (name_for s b.input (next h)) ≡ whole (new_file b.tag (encoded b.events) (names_for s b.tag))

    pub fits_begun : home_at s b.input ≡ Disk → IsPlaced now → IsPlaced then → Fits s begun now then
    fits_begun disk placed also = record {
      live_has = begun_in_file s h b sound live now root under small one fits.live_has disk placed;
      mem_has = begun_in_file s h b sound other then root under small two fits.mem_has disk also;
      stand = stand_moved s h begun other then new begun_kept (λ m name ne is. apart m name is)
          (λ head is.
          let both : Some head ≡ Some its_head = sym is ∙ ap head_of (kept_now Disk disk) in
          let same : head ≡ its_head = cc both in
          let has : Has its_name (end_of its_head) then = record {
            there = ap (λ (f : FileState). f.there) also;
            bytes = subst (λ (f : FileState). end_of its_head ≤ length f.bytes) (sym also) (new_long b.tag batch (names_for s b.tag));
          } in
          subst (λ (x : ChunkHead). Has x.name (end_of x) then) (sym same) has) fits.stand;
    }

-- ---- the action

module _ (s : AllSettings) (settings : MeetsRequirements s) (base : Past) (b : Batch) (m : CrashPoint) (left : nat_lt (next (logged m.past)) numbers_end ≡ true) (keeps : Keeps s base m) where
  abbrev h : History
  h = logged m.past

  abbrev n : ℕ
  n = next h

  abbrev name : List ℕ
  name = name_for s b.input n

  abbrev names : List (List ℕ)
  names = names_for s b.tag

  abbrev bytes : List ℕ
  bytes = new_file b.tag (encoded b.events) names

  abbrev g : History
  g = Offered n b ∷ h

  abbrev stood : Files
  stood = mem keeps.shows.since

  abbrev Took : Acceptance → CrashPoint → Type 0
  Took a end = (a.history ≡ logged end.past) × Keeps s base end

  abbrev Taken : CrashPoint → Action Acceptance → Type 0
  Taken at p = TakenBy (Shows s base) (Keeps s base) at p

  abbrev Fills : Type 0
  Fills =
      (end : CrashPoint) → Shows s base end → (nat_le full_chunk (size (logged end.past) n) ≡ false → Keeps s base end) → ((answer : Unit {0}) → Keeps s base (after end (Note (ChunkClosed n)) answer))
      → Taken end (bind (closes_if_full s n (logged end.past)) taken)

  lt : n < numbers_end
  lt = ltb-true n numbers_end left

  module _ (fills_on : Fills) (answer : Unit {0}) where
    abbrev at : CrashPoint
    at = after m (Note (Offered n b)) answer

    abbrev at_keeps : Keeps s base at
    at_keeps = keeps_noted s base (Offered n b) answer m h refl keeps.shows (λ due. fits_same s h g m.files stood (record { kept = λ k. refl; has = λ k. refl; later = omega arith }) (keeps.fits due))

    accepted : (end : CrashPoint) → logged end.past ≡ g → (shows : Shows s base end) → (Allowed s end.past → Fits s (Accepted b (NewChunk n) ∷ g) end.files (mem shows.since)) → Taken end (finishes_create s b n g (Some tt))
    accepted end same shows fits =
        notes s base Took (Accepted b (NewChunk n)) g end (λ k. bind (closes_if_full s n k) taken) same shows
        (λ noted.
        let last : CrashPoint = after end (Note (Accepted b (NewChunk n))) noted in
        let order : Keeps s base last = keeps_noted s base (Accepted b (NewChunk n)) noted end g (sym same) shows fits in
        fills_on last order.shows (λ small. order) (λ more. plain_kept s base (ChunkClosed n) more last tt order))

    in_memory : home_at s b.input ≡ Ram → Taken at (finishes_create s b n g (Some tt))
    in_memory ram = accepted at refl at_keeps.shows (λ due. fits_in_memory s h b (sound_past s m.past due.1) m.files stood ram (keeps.fits due.1))

    module _ (disk_home : home_at s b.input ≡ Disk) where
      root : (root : List ℕ) × (s.service.path ≡ Some root)
      root = stored_under s settings b.input disk_home

      abbrev Going : (first now : Files) → Type 0
      Going first now = IsCreatedAtomically name bytes first now

      abbrev Ended : Option (Unit {0}) → Files → Type 0
      Ended reply last = IsSome reply → last name ≡ whole bytes

      abbrev Begun : Files → Option (Unit {0}) → Files → Type 0
      Begun first reply last = Going first last × Ended reply last

      abbrev Over : Option (Unit {0}) → Files → Files → Type 0
      Over reply now other = Begun m.files reply now × (Begun stood reply other × Done reply other)

      calls : (first : Files) → first name ≡ absent → HoldsThroughout DiskTransition Anything (λ reply now. Begun first reply now) first (begins_as name b.tag Disk (encoded b.events) names)
      calls first new = holds_at_end (Going first) Ended first (begins_as name b.tag Disk (encoded b.events) names) (holds_begins name b.tag (encoded b.events) names first new)

      goes : (first : Files) → first name ≡ absent → MemGoes Done first (begins_as name b.tag Disk (encoded b.events) names)
      goes first new =
          mem_then Done Done (create_program name b.tag (encoded b.events) names) (λ _. Return (Some tt)) first
          (mem_then Done Done (places name bytes) (λ _. Return (Some (new_head name b.tag (encoded b.events) names))) first (λ answer. (new, tt)) (λ x now is. tt) (λ now is. tt)) (λ x now is. tt) (λ now is. tt)

      free_in : (fits : Fits s h m.files stood) → (m.files name ≡ absent) × (stood name ≡ absent)
      free_in fits = ((fits.live_has.free root.0 root.1 b.input n (omega arith) lt).none, (fits.mem_has.free root.0 root.1 b.input n (omega arith) lt).none)

      behind : (reply : Option (Unit {0})) (end : CrashPoint) → Came s base at Over reply end → Taken end (finishes_create s b n g reply)
      behind (Some done) end came =
          accepted end came.same came.shows
          (λ due.
          let is = came.did due in
          let was = came.dues due in
          fits_begun s h b (sound_past s m.past was.1) m.files stood end.files (mem came.shows.since) root.0 root.1 lt is.0.0.1 is.1.0.0.1 (keeps.fits was.1) disk_home (is.0.1 refl) (is.1.0.1 refl))
      behind None end came =
          notes s base Took IoFailed g end (λ k. refuses b NotStored k) came.same came.shows
          (λ noted.
          let faulted : CrashPoint = after end (Note IoFailed) noted in
          let unplaced : Allowed s end.past → Fits s g end.files (mem came.shows.since) = λ due.
          let is = came.did due in
          let was = came.dues due in
          fits_unplaced s h b (sound_past s m.past was.1) m.files stood end.files (mem came.shows.since) root.0 root.1 lt is.0.0.1 is.1.0.0.1 (keeps.fits was.1) in
          let end_keeps : Keeps s base end = record { shows = came.shows; fits = λ due. subst (λ (x : History). Fits s x end.files (mem came.shows.since)) (sym came.same) (unplaced due) } in
          let faulted_keeps : Keeps s base faulted = plain_kept s base IoFailed noted end tt end_keeps in
          notes s base Took (Refused b NotStored) (logged faulted.past) faulted ends_refused refl faulted_keeps.shows
          (λ more.
          let refused : Keeps s base (after faulted (Note (Refused b NotStored)) more) = plain_kept s base (Refused b NotStored) more faulted tt faulted_keeps in
          (refused.shows, (refl, refused))))

      in_file : Taken at (bind (on_disk (begins_as name b.tag Disk (encoded b.events) names)) (finishes_create s b n g))
      in_file =
          holds_bind LeadsTo (Shows s base) (λ reply end. Came s base at Over reply end) Took at (on_disk (begins_as name b.tag Disk (encoded b.events) names)) (finishes_create s b n g)
          (runs s base at Over (begins_as name b.tag Disk (encoded b.events) names) at_keeps.shows
          (λ due.
          let free = free_in (keeps.fits due.1) in
          goes_both (Begun m.files) (Begun stood) Done (begins_as name b.tag Disk (encoded b.events) names) m.files stood (calls m.files free.0) (calls stood free.1) (goes stood free.1))) behind

    by_home : (home : Home) → home_at s b.input ≡ home → Taken at (bind (on_disk (begins_as name b.tag home (encoded b.events) names)) (finishes_create s b n g))
    by_home Ram is = in_memory is
    by_home Disk is = in_file is

  pub begins_well : Fills → Taken m (starts_chunk s b n h)
  unfolding starts_chunk
  begins_well fills_on =
      notes s base Took (Offered n b) h m (λ k. bind (on_disk (begins_as name b.tag (home_at s b.input) (encoded b.events) names)) (finishes_create s b n k)) refl keeps.shows
      (λ answer. by_home fills_on answer (home_at s b.input) refl)
