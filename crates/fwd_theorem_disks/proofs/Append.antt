-- A batch is appended to an open chunk.
use Rattle.std.proofs.Common.{◌≡◌, ◌≢◌, ℕ, ◌+◌, true, false, List, ◌∷◌, length, Option, Some, None, refl, sym, ◌∙◌, ap, subst, arith}
use Rattle.std.specs.Prelude.{◌==◌, nat_le}
use Rattle.std.proofs.lemmas.Bool.{cond-true, cond-false, eq-eqb, ne_eqb}
use Rattle.fwd_base.specs.Limits.{full_chunk}
use Rattle.fwd_outside.specs.Program.{bind}
use Rattle.fwd_outside.proofs.CrashPointLemmas.{holds_bind}
use Rattle.fwd_outside.specs.DiskStates.{Files}
use Rattle.fwd_chunk.specs.declared.append.ChunkHead.{ChunkHead}
use Rattle.fwd_chunk.specs.Append.{committed_head}
use Rattle.fwd_chunk.specs.declared.kept.Kept.{Kept}
use Rattle.fwd_chunk.specs.declared.kept.Kept.TheVariants.{InFile, Adopted, InMemory}
use Rattle.fwd_chunk.specs.Kept.{file_of_optional, appends as appends_kept}
use Rattle.fwd_store.specs.Store.{append_to_program}
use Rattle.fwd_settings.specs.declared.settings_types.AllSettings.{AllSettings}
use Rattle.fwd_model.specs.Fact.{History, Batch, AppendedTo, NotStored, Offered, Accepted, Refused, ChunkClosed, IoFailed}
use Rattle.fwd_model.specs.Trace.{Action, Note}
use Rattle.fwd_model.specs.DeviceActions.{on_disk}
use Rattle.fwd_model.specs.Chunks.{ChunkInfo, open_chunks, open_chunk, is_closed, content, size, encoded}
use Rattle.fwd_model.specs.ChunkStorage.{grown_by, kept_of}
use Rattle.fwd_model.specs.Notes.{note_then}
use Rattle.fwd_model.specs.CloseActions.{closes_if_full, closes_chunk}
use Rattle.fwd_model.specs.Acceptance.{Acceptance, taken, ends_refused, finishes_append, appends}
use Rattle.fwd_theorem_trace.specs.Past.{Past, logged}
use Rattle.fwd_theorem_trace.specs.Allowed.{Allowed}
use Rattle.fwd_theorem_trace.proofs.Members.{from_find}
use Rattle.fwd_theorem_crash.specs.CrashPoint.{CrashPoint, LeadsTo}
use Rattle.fwd_theorem_crash.proofs.OrderInvariant.{head_of}
use Rattle.fwd_theorem_crash.proofs.Room.{open_of}
use Rattle.fwd_theorem_crash.proofs.RunTraversal.{after, TakenBy}
use Rattle.fwd_theorem_content.proofs.Histories.{found_closed}
use Rattle.fwd_theorem_content.proofs.FileEffects.{HasBytes, Leaves, Stands, StandsWith, append_leaves}
use Rattle.fwd_theorem_content.proofs.Append.{offered_same, grown_in_memory, grown_in_file, failed_in_file}
use Rattle.fwd_theorem_disks.proofs.MemFiles.{mem}
use Rattle.fwd_theorem_disks.proofs.Fits.{Fits, end_of, fits_same, stand_changed, stand_in_memory}
use Rattle.fwd_theorem_disks.proofs.Pairs.{Has, HasBy, goes_both, append_goes}
use Rattle.fwd_theorem_disks.proofs.Points.{Shows, Keeps, Came, keeps_noted, shows_noted, plain_kept, runs, notes}

-- ---- how chunks are kept after an append

module _ (s : AllSettings) (h : History) (b : Batch) (n : ℕ) where
  abbrev batch : List ℕ
  batch = encoded b.events

  abbrev offered : History
  offered = Offered n b ∷ h

  abbrev grown : History
  grown = Accepted b (AppendedTo n) ∷ offered

  grown_kept : kept_of s grown n ≡ grown_by batch (kept_of s h n)
  grown_kept = cond-true (n == n) (grown_by batch (kept_of s h n)) (kept_of s h n) (eq-eqb n n refl)

  still_kept : (m : ℕ) → m ≢ n → kept_of s grown m ≡ kept_of s offered m
  still_kept m ne = cond-false (n == m) (grown_by batch (kept_of s h m)) (kept_of s h m) (ne_eqb n m (λ e. ne (sym e)))

  no_head : (kept : Option Kept) → head_of kept ≡ None → head_of (grown_by batch kept) ≡ None
  no_head None none = refl
  no_head (Some (InFile head)) none = absurd (cc none)
  no_head (Some (Adopted head)) none = absurd (cc none)
  no_head (Some (InMemory bytes)) none = refl

  pub fits_in_memory : (live other : Files) → head_of (kept_of s h n) ≡ None → Fits s offered live other → Fits s grown live other
  fits_in_memory live other none fits = record {
    live_has = grown_in_memory s h b n live none fits.live_has;
    mem_has = grown_in_memory s h b n other none fits.mem_has;
    stand = stand_in_memory s offered grown other n still_kept (ap head_of grown_kept ∙ no_head (kept_of s h n) none) fits.stand;
  }

  module _ (head : ChunkHead) (in_it : kept_of s h n ≡ Some (InFile head)) (live other now then : Files) where
    abbrev longer : ChunkHead
    longer = committed_head head (head.size + length batch)

    held : file_of_optional (kept_of s offered n) ≡ Some head.name
    held = ap file_of_optional in_it

    abbrev Before : (first now : Files) → Type 0
    Before first now = HasBytes head.name first (λ bytes. Stands head (content h n) bytes) now

    abbrev After : (first now : Files) → Type 0
    After first now = HasBytes head.name first (λ bytes. StandsWith head (content h n) batch bytes) now

    pub fits_grown : After live now → After other then → Has head.name (end_of head + length batch) then → Fits s offered live other → Fits s grown now then
    fits_grown one two long fits = record {
      live_has = grown_in_file s h b n head in_it live now one fits.live_has;
      mem_has = grown_in_file s h b n head in_it other then two fits.mem_has;
      stand = stand_changed s offered grown other then n head.name held two.same still_kept
          (λ it is.
          let both : Some it ≡ Some longer = sym is ∙ ap head_of (grown_kept ∙ ap (grown_by batch) in_it) in
          let same : it ≡ longer = cc both in
          let more : end_of head + length batch ≡ end_of longer = omega arith in
          let has : Has head.name (end_of longer) then = subst (λ (k : ℕ). Has head.name k then) more long in
          subst (λ (x : ChunkHead). Has x.name (end_of x) then) (sym same) has) fits.mem_has fits.stand;
    }

    pub fits_failed : Before live now → Before other then → Has head.name (end_of head) then → Fits s offered live other → Fits s (Refused b NotStored ∷ IoFailed ∷ offered) now then
    fits_failed one two long fits = record {
      live_has = failed_in_file s h b n head in_it live now one fits.live_has;
      mem_has = failed_in_file s h b n head in_it other then two fits.mem_has;
      stand = stand_changed s offered (Refused b NotStored ∷ IoFailed ∷ offered) other then n head.name held two.same (λ m ne. refl)
          (λ it is.
          let both : Some it ≡ Some head = sym is ∙ ap head_of in_it in
          let same : it ≡ head = cc both in
          subst (λ (x : ChunkHead). Has x.name (end_of x) then) (sym same) long) fits.mem_has fits.stand;
    }

-- ---- the action

module _ (s : AllSettings) (base : Past) (b : Batch) (c : ChunkInfo) (m : CrashPoint) (found : open_chunk (logged m.past) b.input b.tag ≡ Some c) (keeps : Keeps s base m) where
  abbrev h : History
  h = logged m.past

  abbrev n : ℕ
  n = c.number

  abbrev g : History
  g = Offered n b ∷ h

  abbrev stood : Files
  stood = mem keeps.shows.since

  abbrev Took : Acceptance → CrashPoint → Type 0
  Took a end = (a.history ≡ logged end.past) × Keeps s base end

  abbrev Taken : CrashPoint → Action Acceptance → Type 0
  Taken at p = TakenBy (Shows s base) (Keeps s base) at p

  abbrev Fills : Type 0
  Fills =
      (end : CrashPoint) → Shows s base end → (nat_le full_chunk (size (logged end.past) n) ≡ false → Keeps s base end) → ((answer : Unit {0}) → Keeps s base (after end (Note (ChunkClosed n)) answer))
      → Taken end (bind (closes_if_full s n (logged end.past)) taken)

  abbrev Shuts : Type 0
  Shuts = (end : CrashPoint) → Shows s base end → ((answer : Unit {0}) → Keeps s base (after end (Note (ChunkClosed n)) answer)) → Taken end (bind (closes_chunk s n (logged end.past)) ends_refused)

  off : is_closed h n ≡ false
  off = (open_of h c (from_find _ (open_chunks h) c found).0).1

  module _ (fills_on : Fills) (shuts_on : Shuts) (answer : Unit {0}) where
    abbrev at : CrashPoint
    at = after m (Note (Offered n b)) answer

    abbrev at_keeps : Keeps s base at
    at_keeps = keeps_noted s base (Offered n b) answer m h refl keeps.shows (λ due. fits_same s h g m.files stood (offered_same s h b n) (keeps.fits due))

    accepted : (end : CrashPoint) → logged end.past ≡ g → (shows : Shows s base end) → (Allowed s end.past → Fits s (Accepted b (AppendedTo n) ∷ g) end.files (mem shows.since)) → Taken end (finishes_append s b n g (Some tt))
    accepted end same shows fits =
        notes s base Took (Accepted b (AppendedTo n)) g end (λ k. bind (closes_if_full s n k) taken) same shows
        (λ noted.
        let last : CrashPoint = after end (Note (Accepted b (AppendedTo n))) noted in
        let order : Keeps s base last = keeps_noted s base (Accepted b (AppendedTo n)) noted end g (sym same) shows fits in
        fills_on last order.shows (λ small. order) (λ more. plain_kept s base (ChunkClosed n) more last tt order))

    in_memory : head_of (kept_of s h n) ≡ None → Taken at (finishes_append s b n g (Some tt))
    in_memory none = accepted at refl at_keeps.shows (λ due. fits_in_memory s h b n m.files stood none (at_keeps.fits due))

    module _ (head : ChunkHead) (in_it : kept_of s h n ≡ Some (InFile head)) where
      abbrev Live : Option (Unit {0}) → Files → Type 0
      Live reply now = Leaves head.name m.files (λ bytes. Stands head (content h n) bytes) (λ bytes. StandsWith head (content h n) (encoded b.events) bytes) reply now

      abbrev Mem : Option (Unit {0}) → Files → Type 0
      Mem reply now = Leaves head.name stood (λ bytes. Stands head (content h n) bytes) (λ bytes. StandsWith head (content h n) (encoded b.events) bytes) reply now

      abbrev Long : Option (Unit {0}) → Files → Type 0
      Long reply now = HasBy head.name (end_of head) (end_of head + length (encoded b.events)) reply now

      abbrev Over : Option (Unit {0}) → Files → Files → Type 0
      Over reply now other = Live reply now × (Mem reply other × Long reply other)

      behind : (reply : Option (Unit {0})) (end : CrashPoint) → Came s base at Over reply end → Taken end (finishes_append s b n g reply)
      behind (Some done) end came =
          accepted end came.same came.shows
          (λ due. let is = came.did due in fits_grown s h b n head in_it m.files stood end.files (mem came.shows.since) is.0 is.1.0 is.1.1 (at_keeps.fits (came.dues due)))
      behind None end came =
          notes s base Took IoFailed g end (λ k. note_then (Refused b NotStored) k (λ last. bind (closes_chunk s n last) ends_refused)) came.same came.shows
          (λ noted.
          let faulted : CrashPoint = after end (Note IoFailed) noted in
          let shows : Shows s base faulted = shows_noted s base IoFailed noted end came.shows in
          notes s base Took (Refused b NotStored) (logged faulted.past) faulted (λ last. bind (closes_chunk s n last) ends_refused) refl shows
          (λ more.
          let refused : CrashPoint = after faulted (Note (Refused b NotStored)) more in
          let order : Keeps s base refused = keeps_noted s base (Refused b NotStored) more faulted (IoFailed ∷ g) (ap (λ (x : History). IoFailed ∷ x) (sym came.same)) shows
          (λ due. let is = came.did due.1 in fits_failed s h b n head in_it m.files stood end.files (mem came.shows.since) is.0 is.1.0 is.1.1 (at_keeps.fits (came.dues due.1))) in
          shuts_on refused order.shows (λ last. plain_kept s base (ChunkClosed n) last refused tt order)))

      in_file : Taken at (bind (on_disk (appends_kept (InFile head) (encoded b.events) s.service.full)) (finishes_append s b n g))
      in_file =
          holds_bind LeadsTo (Shows s base) (λ reply end. Came s base at Over reply end) Took at (on_disk (appends_kept (InFile head) (encoded b.events) s.service.full)) (finishes_append s b n g)
          (runs s base at Over (appends_kept (InFile head) (encoded b.events) s.service.full) at_keeps.shows
          (λ due.
          let fits = at_keeps.fits due in
          let held : head_of (kept_of s h n) ≡ Some head = ap head_of in_it in
          goes_both Live Mem Long (appends_kept (InFile head) (encoded b.events) s.service.full) m.files stood
          (append_leaves head (content h n) (encoded b.events) m.files s.service.full (fits.live_has.has n head held))
          (append_leaves head (content h n) (encoded b.events) stood s.service.full (fits.mem_has.has n head held))
          (append_goes head (encoded b.events) s.service.full stood (fits.stand n head held)))) behind

    by_kept : (held : Option Kept) → kept_of s h n ≡ held → Taken at (bind (on_disk (append_to_program held (encoded b.events) s.service.full)) (finishes_append s b n g))
    by_kept None is = in_memory (ap head_of is)
    by_kept (Some (InMemory bytes)) is = in_memory (ap head_of is)
    by_kept (Some (InFile head)) is = in_file head is
    by_kept (Some (Adopted head)) is = let no : true ≡ false = sym (found_closed s h n head is) ∙ off in absurd (cc no)

  pub appends_well : Fills → Shuts → Taken m (appends s b n h)
  unfolding appends
  appends_well fills_on shuts_on =
      notes s base Took (Offered n b) h m (λ k. bind (on_disk (append_to_program (kept_of s h n) (encoded b.events) s.service.full)) (finishes_append s b n k)) refl keeps.shows
      (λ answer. by_kept fills_on shuts_on answer (kept_of s h n) refl)
