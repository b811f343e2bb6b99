-- A batch is appended to an open chunk.
use Rattle.std.proofs.Common.{◌≡◌, ◌≢◌, ℕ, ◌+◌, true, false, List, ◌∷◌, ◌++◌, length, Option, Some, None, refl, sym, ◌∙◌, ap, subst, arith, le_refl}
use Rattle.std.specs.Prelude.{◌==◌, nat_le}
use Rattle.std.proofs.lemmas.Bool.{cond-true, cond-false, eq-eqb, ne_eqb}
use Rattle.fwd_base.specs.Limits.{full_chunk}
use Rattle.fwd_outside.specs.Program.{bind}
use Rattle.fwd_outside.proofs.CrashPointLemmas.{holds_bind}
use Rattle.fwd_outside.specs.DiskStates.{Files}
use Rattle.fwd_chunk.specs.declared.append.ChunkHead.{ChunkHead}
use Rattle.fwd_chunk.specs.Append.{committed_head}
use Rattle.fwd_chunk.specs.declared.kept.Kept.{Kept as Held}
use Rattle.fwd_chunk.specs.declared.kept.Kept.TheVariants.{InFile, Adopted, InMemory}
use Rattle.fwd_chunk.specs.Kept.{file_of_optional, appends as appends_kept}
use Rattle.fwd_store.specs.Store.{append_to_program}
use Rattle.fwd_settings.specs.declared.settings_types.AllSettings.{AllSettings}
use Rattle.fwd_model.specs.Fact.{History, Batch, AppendedTo, NotStored, Offered, Accepted, Refused, ChunkClosed, IoFailed}
use Rattle.fwd_model.specs.Trace.{Action, Note}
use Rattle.fwd_model.specs.DeviceActions.{on_disk}
use Rattle.fwd_model.specs.Chunks.{ChunkInfo, open_chunks, open_chunk, next, is_closed, content, size, encoded}
use Rattle.fwd_model.specs.ChunkStorage.{grown_by, kept_of}
use Rattle.fwd_model.specs.Notes.{note_then}
use Rattle.fwd_model.specs.CloseActions.{closes_if_full, closes_chunk}
use Rattle.fwd_model.specs.Acceptance.{Acceptance, taken, ends_refused, finishes_append, appends}
use Rattle.fwd_theorem_trace.specs.Past.{logged}
use Rattle.fwd_theorem_trace.specs.Allowed.{Allowed}
use Rattle.fwd_theorem_trace.proofs.Members.{from_find}
use Rattle.fwd_theorem_crash.specs.CrashPoint.{CrashPoint, LeadsTo}
use Rattle.fwd_theorem_crash.proofs.OrderInvariant.{head_of}
use Rattle.fwd_theorem_crash.proofs.Room.{open_of}
use Rattle.fwd_theorem_crash.proofs.RunTraversal.{after, TakenBy}
use Rattle.fwd_theorem_content.proofs.KeptContent.{HasContent, FilesHaveContents, KeepsTheSame, carried, file_changed, memory_changed}
use Rattle.fwd_theorem_content.proofs.Histories.{found_closed}
use Rattle.fwd_theorem_content.proofs.FileEffects.{HasBytes, Leaves, Stands, StandsWith, append_leaves}
use Rattle.fwd_theorem_content.proofs.Points.{Hands, Kept, Came, hands_now, hands_after, plain_kept, runs, notes}

-- ---- what the history says of chunks after an append

module _ (s : AllSettings) (h : History) (b : Batch) (n : ℕ) where
  abbrev batch : List ℕ
  batch = encoded b.events

  abbrev offered : History
  offered = Offered n b ∷ h

  abbrev grown : History
  grown = Accepted b (AppendedTo n) ∷ offered

  abbrev failed : History
  failed = Refused b NotStored ∷ IoFailed ∷ offered

  pub offered_same : KeepsTheSame s h offered
  offered_same = record { kept = λ m. refl; has = λ m. refl; later = omega arith }

  grown_kept : kept_of s grown n ≡ grown_by batch (kept_of s h n)
  grown_kept = cond-true (n == n) (grown_by batch (kept_of s h n)) (kept_of s h n) (eq-eqb n n refl)

  grown_content : content grown n ≡ content h n ++ batch
  grown_content = cond-true (n == n) (content h n ++ batch) (content h n) (eq-eqb n n refl)

  other_number : (m : ℕ) → m ≢ n → (n == m) ≡ false
  other_number m ne = ne_eqb n m (λ e. ne (sym e))

  still_kept : (m : ℕ) → m ≢ n → kept_of s grown m ≡ kept_of s offered m
  still_kept m ne = cond-false (n == m) (grown_by batch (kept_of s h m)) (kept_of s h m) (other_number m ne)

  still_has : (m : ℕ) → m ≢ n → content grown m ≡ content offered m
  still_has m ne = cond-false (n == m) (content h m ++ batch) (content h m) (other_number m ne)

  no_head : (kept : Option Held) → head_of kept ≡ None → head_of (grown_by batch kept) ≡ None
  no_head None none = refl
  no_head (Some (InFile head)) none = absurd (cc none)
  no_head (Some (Adopted head)) none = absurd (cc none)
  no_head (Some (InMemory bytes)) none = refl

  no_file : (kept : Option Held) → head_of kept ≡ None → file_of_optional (grown_by batch kept) ≡ None
  no_file None none = refl
  no_file (Some (InFile head)) none = absurd (cc none)
  no_file (Some (Adopted head)) none = absurd (cc none)
  no_file (Some (InMemory bytes)) none = refl

  pub grown_in_memory : (files : Files) → head_of (kept_of s h n) ≡ None → FilesHaveContents s offered files → FilesHaveContents s grown files
  grown_in_memory files none order =
      memory_changed s offered grown files n (ap head_of grown_kept ∙ no_head (kept_of s h n) none) (ap file_of_optional grown_kept ∙ no_file (kept_of s h n) none) still_kept still_has (le_refl (next offered)) order

  module _ (head : ChunkHead) (in_it : kept_of s h n ≡ Some (InFile head)) (files now : Files) where
    abbrev longer : ChunkHead
    longer = committed_head head (head.size + length batch)

    kept_now : kept_of s grown n ≡ Some (InFile longer)
    kept_now = grown_kept ∙ ap (grown_by batch) in_it

    held : file_of_optional (kept_of s offered n) ≡ Some head.name
    held = ap file_of_optional in_it

    pub grown_in_file : HasBytes head.name files (λ bytes. StandsWith head (content h n) batch bytes) now → FilesHaveContents s offered files → FilesHaveContents s grown now
    grown_in_file left order =
        file_changed s offered grown files now n head.name held (record {
          same = left.same;
          kept = still_kept;
          has = still_has;
          held = λ other is. let both : Some other ≡ Some head.name = sym is ∙ ap file_of_optional kept_now in cc both;
          own = λ one is.
              let both : Some one ≡ Some longer = sym is ∙ ap head_of kept_now in
              let same : one ≡ longer = cc both in
              subst (λ (x : ChunkHead). HasContent x (content grown n) now) (sym same) (left.here.1 ∙ sym grown_content);
          later = le_refl (next offered);
        }) order

    pub failed_in_file : HasBytes head.name files (λ bytes. Stands head (content h n) bytes) now → FilesHaveContents s offered files → FilesHaveContents s failed now
    failed_in_file left order =
        file_changed s offered failed files now n head.name held (record {
          same = left.same;
          kept = λ m ne. refl;
          has = λ m ne. refl;
          held = λ other is. let both : Some other ≡ Some head.name = sym is ∙ held in cc both;
          own = λ one is.
              let both : Some one ≡ Some head = sym is ∙ ap head_of in_it in
              let same : one ≡ head = cc both in
              subst (λ (x : ChunkHead). HasContent x (content h n) now) (sym same) left.here;
          later = le_refl (next offered);
        }) order

-- ---- the action

module _ (s : AllSettings) (b : Batch) (c : ChunkInfo) (m : CrashPoint) (found : open_chunk (logged m.past) b.input b.tag ≡ Some c) (kept : Kept s m) where
  abbrev h : History
  h = logged m.past

  abbrev n : ℕ
  n = c.number

  abbrev g : History
  g = Offered n b ∷ h

  abbrev Took : Acceptance → CrashPoint → Type 0
  Took a end = (a.history ≡ logged end.past) × Kept s end

  abbrev Taken : CrashPoint → Action Acceptance → Type 0
  Taken at p = TakenBy (Hands s) (Kept s) at p

  abbrev Fills : Type 0
  Fills =
      (end : CrashPoint) → Hands s end → (nat_le full_chunk (size (logged end.past) n) ≡ false → Kept s end) → ((answer : Unit {0}) → Kept s (after end (Note (ChunkClosed n)) answer))
      → Taken end (bind (closes_if_full s n (logged end.past)) taken)

  abbrev Shuts : Type 0
  Shuts = (end : CrashPoint) → Hands s end → ((answer : Unit {0}) → Kept s (after end (Note (ChunkClosed n)) answer)) → Taken end (bind (closes_chunk s n (logged end.past)) ends_refused)

  off : is_closed h n ≡ false
  off = (open_of h c (from_find _ (open_chunks h) c found).0).1

  module _ (fills_on : Fills) (shuts_on : Shuts) (answer : Unit {0}) where
    abbrev at : CrashPoint
    at = after m (Note (Offered n b)) answer

    at_kept : Kept s at
    at_kept due = let was = kept due.1 in record { contents = carried s h g m.files (offered_same s h b n) was.contents; hands = was.hands }

    at_hands : Hands s at
    at_hands = hands_now s at at_kept

    accepted : (end : CrashPoint) → logged end.past ≡ g → Hands s end → (Allowed s end.past → FilesHaveContents s (Accepted b (AppendedTo n) ∷ g) end.files) → Taken end (finishes_append s b n g (Some tt))
    accepted end same hands behind =
        notes s Took (Accepted b (AppendedTo n)) g end (λ k. bind (closes_if_full s n k) taken) same hands
        (λ noted.
        let last : CrashPoint = after end (Note (Accepted b (AppendedTo n))) noted in
        let order : Kept s last = λ due. record { contents = subst (λ (x : History). FilesHaveContents s (Accepted b (AppendedTo n) ∷ x) end.files) (sym same) (behind due.1); hands = hands due.1 } in
        fills_on last (hands_now s last order) (λ small. order) (λ more. plain_kept s (ChunkClosed n) more last tt order))

    in_memory : head_of (kept_of s h n) ≡ None → Taken at (finishes_append s b n g (Some tt))
    in_memory none = accepted at refl at_hands (λ due. grown_in_memory s h b n m.files none (at_kept due).contents)

    module _ (head : ChunkHead) (in_it : kept_of s h n ≡ Some (InFile head)) where
      abbrev Over : Option (Unit {0}) → Files → Type 0
      Over reply now = Leaves head.name m.files (λ bytes. Stands head (content h n) bytes) (λ bytes. StandsWith head (content h n) (encoded b.events) bytes) reply now

      behind : (reply : Option (Unit {0})) (end : CrashPoint) → Came s at Over reply end → Taken end (finishes_append s b n g reply)
      behind (Some done) end came =
          accepted end came.0 (hands_after s at Over at_hands (Some done) end came)
          (λ due. let is = came.1 due in grown_in_file s h b n head in_it m.files end.files is.1 (at_kept is.0).contents)
      behind None end came =
          let hands : Hands s end = hands_after s at Over at_hands None end came in
          notes s Took IoFailed g end (λ k. note_then (Refused b NotStored) k (λ last. bind (closes_chunk s n last) ends_refused)) came.0 hands
          (λ noted.
          let faulted : CrashPoint = after end (Note IoFailed) noted in
          notes s Took (Refused b NotStored) (logged faulted.past) faulted (λ last. bind (closes_chunk s n last) ends_refused) refl (λ due. hands due.1)
          (λ more.
          let refused : CrashPoint = after faulted (Note (Refused b NotStored)) more in
          let order : Kept s refused = λ due.
          let is = came.1 due.1.1 in
          record { contents = subst (λ (x : History). FilesHaveContents s (Refused b NotStored ∷ IoFailed ∷ x) end.files) (sym came.0) (failed_in_file s h b n head in_it m.files end.files is.1 (at_kept is.0).contents); hands = hands due.1.1 } in
          shuts_on refused (hands_now s refused order) (λ last. plain_kept s (ChunkClosed n) last refused tt order)))

      in_file : Taken at (bind (on_disk (appends_kept (InFile head) (encoded b.events) s.service.full)) (finishes_append s b n g))
      in_file =
          holds_bind LeadsTo (Hands s) (λ reply end. Came s at Over reply end) Took at (on_disk (appends_kept (InFile head) (encoded b.events) s.service.full)) (finishes_append s b n g)
          (runs s at Over at_hands (appends_kept (InFile head) (encoded b.events) s.service.full)
          (λ due. append_leaves head (content h n) (encoded b.events) m.files s.service.full ((at_kept due).contents.has n head (ap head_of in_it)))) behind

    by_kept : (held : Option Held) → kept_of s h n ≡ held → Taken at (bind (on_disk (append_to_program held (encoded b.events) s.service.full)) (finishes_append s b n g))
    by_kept None is = in_memory (ap head_of is)
    by_kept (Some (InMemory bytes)) is = in_memory (ap head_of is)
    by_kept (Some (InFile head)) is = in_file head is
    by_kept (Some (Adopted head)) is = let no : true ≡ false = sym (found_closed s h n head is) ∙ off in absurd (cc no)

  pub appends_well : Fills → Shuts → Taken m (appends s b n h)
  unfolding appends
  appends_well fills_on shuts_on =
      notes s Took (Offered n b) h m (λ k. bind (on_disk (append_to_program (kept_of s h n) (encoded b.events) s.service.full)) (finishes_append s b n k)) refl (hands_now s m kept)
      (λ answer. by_kept fills_on shuts_on answer (kept_of s h n) refl)
