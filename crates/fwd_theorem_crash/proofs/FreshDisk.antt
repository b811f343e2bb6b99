-- The results of loading on a disk without unsynced state: no file changes, and each file that is read
-- has a name that a disk may list.
use Rattle.std.proofs.Common.{◌≡◌, ◌≢◌, ◌⊎◌, inl, inr, ℕ, false, true, List, [], ◌∷◌, ◌++◌, get_or, All, Option, Some, None, refl, sym, ◌∙◌, ap, subst}
use Rattle.std.specs.List.{AllByRecursion}
use Rattle.std.proofs.lemmas.List.Elements.{All-nil, All-head, All-tail, All-contains, All-contains_itself}
use Rattle.fwd_outside.specs.Program.{Program, Return, Ask, and_then}
use Rattle.fwd_outside.specs.AtCrashPoints.{TransitionsOf, HoldsThroughout}
use Rattle.fwd_outside.proofs.CrashPointLemmas.{holds_weaker}
use Rattle.fwd_outside.proofs.AndThen.{holds_and_then}
use Rattle.fwd_outside.specs.Disk.{DiskCall, DiskAnswer, DiskProgram, IsFileName, syncs, reads, lists}
use Rattle.fwd_outside.specs.File.{FileState, whole, absent}
use Rattle.fwd_outside.specs.DiskStates.{Files, SyncTransition, OnFile}
use Rattle.fwd_outside.specs.DiskStates as disk
use Rattle.fwd_outside.proofs.Invariant.{AllInvariant, sound_whole, sound_gone}
use Rattle.fwd_chunk.specs.Check.{enough_bytes}
use Rattle.fwd_backlog.specs.declared.listed_file.Listed.{Listed}
use Rattle.fwd_backlog.specs.declared.file_read.FileRead.{FileRead}
use Rattle.fwd_backlog.specs.Listing.{folder_of, path_of, chunks_in, list_folders_program, list_files_program, in_order, IsNamed}
use Rattle.fwd_backlog.specs.LoadProgram.{file_read, read_synced_program, read_files_program, load_program}
use Rattle.fwd_backlog.specs.Recovered.{AreDurable}
use Rattle.fwd_backlog.proofs.Names.{same_files}
use Rattle.fwd_backlog.proofs.ListableNames.{more_named}
use Rattle.fwd_backlog.proofs.LoadInvariant.{AllKept, kept_first, one_or_other}
use Rattle.fwd_backlog.proofs.LoadInvariant as keeping
use Rattle.fwd_backlog.proofs.LoadedFiles.{IsLoaded, goes_loads}
use Rattle.fwd_theorem_crash.specs.CrashPoint.{HasNames, IsNaming}

-- ---- programs with two invariants, and stronger steps

module _ {C : Type 0} {A : C → Type 0} {S : Type 0} (Steps : TransitionsOf C A S) where
  pub holds_both : {R : Type 0} (P P2 : S → Type 0) (Q Q2 : R → S → Type 0) (s : S) (p : Program C A R)
      → HoldsThroughout Steps P Q s p → HoldsThroughout Steps P2 Q2 s p → HoldsThroughout Steps (λ now. P now × P2 now) (λ x now. Q x now × Q2 x now) s p
  holds_both P P2 Q Q2 s (Return x) one two = ((one.0, two.0), (one.1, two.1))
  holds_both P P2 Q Q2 s (Ask call go) one two = (
    (one.0, two.0),
    λ answer during after steps.
        let here = one.1 answer during after steps in
        let there = two.1 answer during after steps in
        ((here.0, there.0), holds_both P P2 Q Q2 after (go answer) here.1 there.1),
  )

  pub holds_for : (Fewer : TransitionsOf C A S) → ((call : C) (answer : A call) (old during new : S) → Fewer call answer old during new → Steps call answer old during new)
      → {R : Type 0} (P : S → Type 0) (Q : R → S → Type 0) (s : S) (p : Program C A R) → HoldsThroughout Steps P Q s p → HoldsThroughout Fewer P Q s p
  holds_for Fewer more P Q s (Return x) holds = holds
  holds_for Fewer more P Q s (Ask call go) holds = (
    holds.0,
    λ answer during after steps. let went = holds.1 answer during after (more call answer s during after steps) in (went.0, holds_for Fewer more P Q after (go answer) went.1),
  )

-- a call on a disk that lists file names
abbrev pub DiskSteps : TransitionsOf DiskCall DiskAnswer Files
DiskSteps call answer old during new = IsNaming call answer × disk.DiskTransition call answer old during new

-- ---- no unsynced state

-- a sync of such a file changes nothing
still_synced : (answer : Option (Unit {0})) (now during after : FileState) → (now ≡ absent) ⊎ ((bytes : List ℕ) × (now ≡ whole bytes)) → SyncTransition answer now during after → (during ≡ now) × (after ≡ now)
still_synced (Some done) now during after (inl is) synced = let no : false ≡ true = ap (λ (s : FileState). s.there) (sym is) ∙ synced.0 in absurd (cc no)
still_synced (Some done) now during after (inr stands) synced = (synced.1, synced.2 ∙ ap (λ (s : FileState). whole s.bytes) stands.1 ∙ sym stands.1)
still_synced None now during after fresh same = same

pub sound_fresh : (first : Files) → AreDurable first → AllInvariant first
sound_fresh first fresh name = elim (fresh name) [
  | inl is ↦ subst (λ (s : FileState). AllInvariant (λ n. s)) (sym is) (λ n. sound_gone) name
  | inr stands ↦ subst (λ (s : FileState). AllInvariant (λ n. s)) (sym stands.1) (λ n. sound_whole stands.0) name
]

all_push : {X : Type 0} (P : X → Type 0) (xs : List X) (x : X) → AllByRecursion P xs → P x → AllByRecursion P (xs ++ x ∷ [])
all_push P [] x all p = (p, tt)
all_push P (y ∷ ys) x all p = (all.0, all_push P ys x all.1 p)

-- a file that was read has a name that a disk may list
abbrev pub HasName : FileRead → Type 0
HasName read = IsNamed read.file

in_order_named : (files : List Listed) → All IsNamed files → All IsNamed (in_order files)
in_order_named files named k d lt =
    let file = get_or (in_order files) k d in
    All-contains IsNamed files file named ((same_files files file).0 (All-contains_itself (in_order files) k d lt))

-- no file changed, and the value, if there is one, has this property
abbrev pub StillWith : Files → {R : Type 0} → (R → Type 0) → Option R → Files → Type 0
StillWith first P (Some x) now = (now ≡ first) × P x
StillWith first P None now = now ≡ first

-- all files were listed and read in order, and have names that a disk may list
pub record IsGiven (root : List ℕ) (first : Files) (read : List FileRead) : Type 0 where
  pub loaded : IsLoaded root first read
  pub named : AllByRecursion HasName read

module _ (first : Files) (fresh : AreDurable first) where
  abbrev With : {R : Type 0} → (R → Type 0) → Option R → Files → Type 0
  With P r now = StillWith first P r now

  abbrev Goes : {R : Type 0} → (R → Type 0) → Files → DiskProgram (Option R) → Type 0
  Goes P now program = HoldsThroughout DiskSteps (λ files. files ≡ first) (With P) now program

  goes_then : {R S : Type 0} (P : R → Type 0) (Q : S → Type 0) (now : Files) (p : DiskProgram (Option R)) (next : R → DiskProgram (Option S))
      → Goes P now p → ((x : R) (end : Files) → end ≡ first → P x → Goes Q end (next x)) → Goes Q now (and_then p next)
  goes_then P Q now p next goes more = holds_and_then DiskSteps (λ files. files ≡ first) (With P) (With Q) now p next goes (λ x end h. more x end h.0 h.1) (λ end h. (h, h))

  still_on : (name : List ℕ) (answer : Option (Unit {0})) (now during after : Files) → now ≡ first → OnFile name (SyncTransition answer) now during after → (during ≡ first) × (after ≡ first)
  still_on name answer now during after same steps = (λ i n. (at n (one_or_other name n)).0 i, λ i n. (at n (one_or_other name n)).1 i)
    where
      at : (n : List ℕ) → (n ≡ name) ⊎ (n ≢ name) → (during n ≡ first n) × (after n ≡ first n)
      at n (inl is) =
          let here = subst (λ (f : Files). (f name ≡ absent) ⊎ ((bytes : List ℕ) × (f name ≡ whole bytes))) (sym same) (fresh name) in
          let both = still_synced answer (now name) (during name) (after name) here steps.file in
          subst (λ (m : List ℕ). (during m ≡ first m) × (after m ≡ first m)) (sym is) (both.0 ∙ ap (λ (f : Files). f name) same, both.1 ∙ ap (λ (f : Files). f name) same)
      at n (inr ne) = (steps.others_during n ne ∙ ap (λ (f : Files). f n) same, steps.others n ne ∙ ap (λ (f : Files). f n) same)

  with_any : {R : Type 0} (answer : Option R) (now : Files) → now ≡ first → With (λ _. Unit {0}) answer now
  with_any (Some x) now same = (same, tt)
  with_any None now same = same

  goes_syncs : (name : List ℕ) (now : Files) → now ≡ first → Goes (λ _. Unit {0}) now (syncs name)
  goes_syncs name now same = (same, λ answer during after steps. let both = still_on name answer now during after same steps.1 in (both.0, (both.1, with_any answer after both.1)))

  goes_reads : (name : List ℕ) (at len : ℕ) (now : Files) → now ≡ first → Goes (λ _. Unit {0}) now (reads name at len)
  goes_reads name at len now same = (same, λ answer during after steps. (steps.1.1.0 ∙ same, (steps.1.1.1 ∙ same, with_any answer after (steps.1.1.1 ∙ same))))

  with_names : (answer : Option (List (List ℕ))) (now : Files) → now ≡ first → HasNames answer → With (All IsFileName) answer now
  with_names (Some names) now same are = (same, are.each)
  with_names None now same are = same

  goes_lists : (folder : List ℕ) (now : Files) → now ≡ first → Goes (All IsFileName) now (lists folder)
  goes_lists folder now same = (same, λ answer during after steps. (steps.1.1.0 ∙ same, (steps.1.1.1 ∙ same, with_names answer after (steps.1.1.1 ∙ same) steps.0)))

  module _ (root : List ℕ) where
    goes_folders : (streams : List (List ℕ)) (files : List Listed) (now : Files) → now ≡ first → All IsFileName streams → All IsNamed files → Goes (All IsNamed) now (list_folders_program root streams files)
    goes_folders [] files now same are named = (same, (same, named))
    goes_folders (stream ∷ streams) files now same are named =
        goes_then (All IsFileName) (All IsNamed) now (lists (folder_of root stream)) (λ names. list_folders_program root streams (files ++ chunks_in stream names)) (goes_lists (folder_of root stream) now same)
        (λ names end still each.
        goes_folders streams (files ++ chunks_in stream names) end still (All-tail IsFileName stream streams are)
        (more_named stream names files (files ++ chunks_in stream names) (All-head IsFileName stream streams are) each named refl))

    goes_files : (now : Files) → now ≡ first → Goes (All IsNamed) now (list_files_program root)
    goes_files now same =
        goes_then (All IsFileName) (All IsNamed) now (lists root) (λ streams. list_folders_program root streams []) (goes_lists root now same)
        (λ streams end still each. goes_folders streams [] end still each (All-nil IsNamed))

    goes_synced : (path : List ℕ) (now : Files) → now ≡ first → Goes (λ _. Unit {0}) now (read_synced_program path)
    goes_synced path now same =
        goes_then (λ _. Unit {0}) (λ _. Unit {0}) now (syncs path) (λ _. reads path 0 enough_bytes) (goes_syncs path now same) (λ done end still any. goes_reads path 0 enough_bytes end still)

    goes_reading : (files : List Listed) (so_far : List FileRead) (now : Files) → now ≡ first → All IsNamed files → AllByRecursion HasName so_far → Goes (AllByRecursion HasName) now (read_files_program root files so_far)
    goes_reading [] so_far now same named have = (same, (same, have))
    goes_reading (file ∷ files) so_far now same named have =
        goes_then (λ _. Unit {0}) (AllByRecursion HasName) now (read_synced_program (path_of root file)) (λ bytes. read_files_program root files (so_far ++ file_read file bytes ∷ []))
        (goes_synced (path_of root file) now same)
        (λ bytes end still any.
        goes_reading files (so_far ++ file_read file bytes ∷ []) end still (All-tail IsNamed file files named)
        (all_push HasName so_far (file_read file bytes) have (All-head IsNamed file files named)))

    goes_named : (now : Files) → now ≡ first → Goes (AllByRecursion HasName) now (load_program root)
    goes_named now same =
        goes_then (All IsNamed) (AllByRecursion HasName) now (list_files_program root) (λ files. read_files_program root (in_order files) []) (goes_files now same)
        (λ listed end still named. goes_reading (in_order listed) [] end still (in_order_named listed named) tt)

    with_given : (r : Option (List FileRead)) (now : Files) → With (AllByRecursion HasName) r now → keeping.With first (IsLoaded root first) r now → With (IsGiven root first) r now
    with_given (Some read) now names loaded = (names.0, record { loaded = loaded.1; named = names.1 })
    with_given None now names loaded = names

    -- what is read from such a disk
    pub reads_fresh : HoldsThroughout DiskSteps (λ files. files ≡ first) (StillWith first (IsGiven root first)) first (load_program root)
    reads_fresh =
        let kept = holds_for disk.DiskTransition DiskSteps (λ call answer old during new steps. steps.1) (AllKept first) (keeping.With first (IsLoaded root first)) first (load_program root) (goes_loads root first first (kept_first first (sound_fresh first fresh))) in
        let both = holds_both DiskSteps (λ files. files ≡ first) (AllKept first) (With (AllByRecursion HasName)) (keeping.With first (IsLoaded root first)) first (load_program root) (goes_named first refl) kept in
        holds_weaker DiskSteps (λ files. (files ≡ first) × AllKept first files) (λ files. files ≡ first)
        (λ r files. With (AllByRecursion HasName) r files × keeping.With first (IsLoaded root first) r files) (With (IsGiven root first)) first (load_program root) (λ now h. h.0) (λ r now h. with_given r now h.0 h.1) both
