-- Loading from a disk whose files are all durable changes no file.
use Rattle.std.proofs.Common.{◌≡◌, ◌≢◌, ◌⊎◌, inl, inr, ℕ, true, false, List, [], ◌∷◌, ◌++◌, Option, Some, None, refl, sym, ◌∙◌, ap, subst}
use Rattle.fwd_outside.specs.Program.{and_then, Execution}
use Rattle.fwd_outside.specs.AtCrashPoints.{AtCrashPoints, HoldsThroughout}
use Rattle.fwd_outside.proofs.CrashPointLemmas.{holds_moments}
use Rattle.fwd_outside.proofs.AndThen.{holds_and_then}
use Rattle.fwd_outside.specs.Disk.{DiskEntry, DiskProgram, syncs, reads, lists}
use Rattle.fwd_outside.specs.File.{FileState, whole, absent}
use Rattle.fwd_outside.specs.DiskStates.{Files, SyncTransition, OnFile, DiskTransition}
use Rattle.fwd_chunk.specs.Check.{enough_bytes}
use Rattle.fwd_backlog.specs.declared.listed_file.Listed.{Listed}
use Rattle.fwd_backlog.specs.Listing.{folder_of, path_of, chunks_in, list_folders_program, list_files_program, in_order}
use Rattle.fwd_backlog.specs.declared.file_read.FileRead.{FileRead}
use Rattle.fwd_backlog.specs.LoadProgram.{file_read, read_synced_program, read_files_program, load_program}
use Rattle.fwd_backlog.specs.Recovered.{AreDurable}
use Rattle.fwd_backlog.proofs.LoadInvariant.{one_or_other}

-- a sync of such a file leaves it unchanged
still_synced : (answer : Option (Unit {0})) (now during after : FileState) → (now ≡ absent) ⊎ ((bytes : List ℕ) × (now ≡ whole bytes)) → SyncTransition answer now during after → (during ≡ now) × (after ≡ now)
still_synced (Some done) now during after (inl is) synced = let no : false ≡ true = ap (λ (s : FileState). s.there) (sym is) ∙ synced.0 in absurd (cc no)
still_synced (Some done) now during after (inr stands) synced = (synced.1, synced.2 ∙ ap (λ (s : FileState). whole s.bytes) stands.1 ∙ sym stands.1)
still_synced None now during after fresh same = same

module _ (first : Files) (fresh : AreDurable first) where
  still_on : (name : List ℕ) (answer : Option (Unit {0})) (now during after : Files) → now ≡ first → OnFile name (SyncTransition answer) now during after → (during ≡ first) × (after ≡ first)
  still_on name answer now during after same steps = (λ i n. (at n (one_or_other name n)).0 i, λ i n. (at n (one_or_other name n)).1 i)
    where
      at : (n : List ℕ) → (n ≡ name) ⊎ (n ≢ name) → (during n ≡ first n) × (after n ≡ first n)
      at n (inl is) =
          let here = subst (λ (f : Files). (f name ≡ absent) ⊎ ((bytes : List ℕ) × (f name ≡ whole bytes))) (sym same) (fresh name) in
          let both = still_synced answer (now name) (during name) (after name) here steps.file in
          subst (λ (m : List ℕ). (during m ≡ first m) × (after m ≡ first m)) (sym is) (both.0 ∙ ap (λ (f : Files). f name) same, both.1 ∙ ap (λ (f : Files). f name) same)
      at n (inr ne) = (steps.others_during n ne ∙ ap (λ (f : Files). f n) same, steps.others n ne ∙ ap (λ (f : Files). f n) same)

  abbrev Stays : {R : Type 0} → Files → DiskProgram (Option R) → Type 0
  Stays now program = HoldsThroughout DiskTransition (λ files. files ≡ first) (λ r files. files ≡ first) now program

  stays_then : {R S : Type 0} (now : Files) (p : DiskProgram (Option R)) (next : R → DiskProgram (Option S)) → Stays now p → ((x : R) (end : Files) → end ≡ first → Stays end (next x)) → Stays now (and_then p next)
  stays_then now p next stays more = holds_and_then DiskTransition (λ files. files ≡ first) (λ r files. files ≡ first) (λ r files. files ≡ first) now p next stays (λ x end same. more x end same) (λ end same. (same, same))

  stays_syncs : (name : List ℕ) (now : Files) → now ≡ first → Stays now (syncs name)
  stays_syncs name now same = (same, λ answer during after steps. let both = still_on name answer now during after same steps in (both.0, (both.1, both.1)))

  stays_reads : (name : List ℕ) (at len : ℕ) (now : Files) → now ≡ first → Stays now (reads name at len)
  stays_reads name at len now same = (same, λ answer during after steps. (steps.1.0 ∙ same, (steps.1.1 ∙ same, steps.1.1 ∙ same)))

  stays_lists : (folder : List ℕ) (now : Files) → now ≡ first → Stays now (lists folder)
  stays_lists folder now same = (same, λ answer during after steps. (steps.1.0 ∙ same, (steps.1.1 ∙ same, steps.1.1 ∙ same)))

  stays_folders : (root : List ℕ) (streams : List (List ℕ)) (files : List Listed) (now : Files) → now ≡ first → Stays now (list_folders_program root streams files)
  stays_folders root [] files now same = (same, same)
  stays_folders root (stream ∷ streams) files now same =
      stays_then now (lists (folder_of root stream)) (λ names. list_folders_program root streams (files ++ chunks_in stream names)) (stays_lists (folder_of root stream) now same)
      (λ names end still. stays_folders root streams (files ++ chunks_in stream names) end still)

  stays_reading : (root : List ℕ) (files : List Listed) (read : List FileRead) (now : Files) → now ≡ first → Stays now (read_files_program root files read)
  stays_reading root [] read now same = (same, same)
  stays_reading root (file ∷ files) read now same =
      stays_then now (read_synced_program (path_of root file)) (λ bytes. read_files_program root files (read ++ file_read file bytes ∷ []))
      (stays_then now (syncs (path_of root file)) (λ _. reads (path_of root file) 0 enough_bytes) (stays_syncs (path_of root file) now same) (λ done end still. stays_reads (path_of root file) 0 enough_bytes end still))
      (λ bytes end still. stays_reading root files (read ++ file_read file bytes ∷ []) end still)

  stays_loads : (root : List ℕ) (now : Files) → now ≡ first → Stays now (load_program root)
  stays_loads root now same =
      stays_then now (list_files_program root) (λ files. read_files_program root (in_order files) [])
      (stays_then now (lists root) (λ streams. list_folders_program root streams []) (stays_lists root now same) (λ streams end still. stays_folders root streams [] end still))
      (λ listed end still. stays_reading root (in_order listed) [] end still)

pub nothing_changes : (root : List ℕ) (files : Files) (entries : List DiskEntry) (left : DiskProgram (Option (List FileRead))) → AreDurable files → Execution (load_program root) entries left → AtCrashPoints DiskTransition (λ now. now ≡ files) files entries
nothing_changes root files entries left fresh way =
    holds_moments DiskTransition (λ now. now ≡ files) (λ r now. now ≡ files) files (load_program root) (stays_loads files fresh root files refl) entries left way
