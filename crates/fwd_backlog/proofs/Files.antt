-- How files are read.
use Rattle.std.proofs.Common.{◌≡◌, ℕ, zero, suc, ◌+◌, ◌-◌, ◌≤◌, List, [], ◌∷◌, ◌++◌, length, take, drop, All, Some, Result, Ok, Err, IsErrAnd, refl, sym, ◌∙◌, ap, subst, arith}
use Rattle.std.specs.List.{AllZip}
use Rattle.std.proofs.lemmas.List.{take_all, length-drop}
use Rattle.std.proofs.lemmas.List.Elements.{All-nil, All-cons}
use Rattle.fwd_outside.specs.Program.{Return, with_value}
use Rattle.fwd_outside.specs.Log.{Leads, Completes}
use Rattle.fwd_outside.proofs.Executions.{no_call_made, leads_inside, leads_trans}
use Rattle.fwd_outside.specs.Disk.{DiskLog, Read, syncs, reads}
use Rattle.fwd_chunk.specs.declared.chunk.Found.{Found}
use Rattle.fwd_chunk.specs.Check.{enough_bytes}
use Rattle.fwd_backlog.specs.declared.error.LoadErr.{LoadErr}
use Rattle.fwd_backlog.specs.declared.error.LoadErr.TheVariants.{Memory}
use Rattle.fwd_backlog.specs.declared.listed_file.Listed.{Listed}
use Rattle.fwd_backlog.specs.declared.load.Backlog.{Backlog}
use Rattle.fwd_backlog.specs.LoadResult.{StopsWith, LoadReturns, Loads}
use Rattle.fwd_backlog.specs.Serial.{next_number}
use Rattle.fwd_backlog.specs.Listing.{list_files_program, in_order}
use Rattle.fwd_backlog.specs.declared.file_read.FileRead.{FileRead}
use Rattle.fwd_backlog.specs.LoadProgram.{read_synced_program, read_files_program, load_program, IsDescriptionOf, IsBacklog}
use Rattle.fwd_backlog.specs.Groups.{ReadsGroup, HasShortMeta, IsChecked}
use Rattle.fwd_backlog.proofs.Calls.{asks_unfailed, goes, stops, stops_after, rests, given_err, loaded_err}
use Rattle.fwd_backlog.proofs.GroupRead.{files_unfailed}

-- the sync of a file, and then its read
module _ (a b : DiskLog) (path : List ℕ) where
  pub sync_stopped : (e : LoadErr) (r : Result (List ℕ) LoadErr) → IsErrAnd r (λ x. x ≡ e) → StopsWith a b (syncs path) e → LoadReturns a b (read_synced_program path) r
  sync_stopped e r is stopped =
      given_err a b (read_synced_program path) e r is
      (stops a a b (read_synced_program path) (syncs path) (λ _. reads path 0 enough_bytes) (no_call_made a (read_synced_program path)) (λ _. asks_unfailed (Read path 0 enough_bytes) (λ answer. Return answer)) e stopped)

  synced : Completes a b (syncs path) (Some tt) → Leads a b (read_synced_program path) (reads path 0 enough_bytes)
  synced did = goes a a b (read_synced_program path) (syncs path) (λ _. reads path 0 enough_bytes) (no_call_made a (read_synced_program path)) tt did

  pub read_stopped : (c : DiskLog) (e : LoadErr) (r : Result (List ℕ) LoadErr) → IsErrAnd r (λ x. x ≡ e) → Completes a b (syncs path) (Some tt) → StopsWith b c (reads path 0 enough_bytes) e → LoadReturns a c (read_synced_program path) r
  read_stopped c e r is did stopped = given_err a c (read_synced_program path) e r is (stops_after a b c (read_synced_program path) (reads path 0 enough_bytes) (synced did) e stopped)

  pub synced_read : (c : DiskLog) (bytes : List ℕ) → Completes a b (syncs path) (Some tt) → Completes b c (reads path 0 enough_bytes) (Some bytes) → Completes a c (read_synced_program path) (Some bytes)
  synced_read c bytes did read = leads_trans (synced did) read

all_zip_append : {A B : Type 0} (R : A → B → Type 0) (xs us : List A) (ys vs : List B) → AllZip R xs ys → AllZip R us vs → AllZip R (xs ++ us) (ys ++ vs)
all_zip_append R [] us [] vs all more = more
all_zip_append R [] us (y ∷ ys) vs all more = absurd all
all_zip_append R (x ∷ xs) us [] vs all more = absurd all
all_zip_append R (x ∷ xs) us (y ∷ ys) vs all more = (all.0, all_zip_append R xs us ys vs all.1 more)

-- The files so far were read, with these descriptions; `left` is left to read.
pub record IsReadTo (a b : DiskLog) (root : List ℕ) (files left : List Listed) (found : List Found) : Type 0 where
  pub read : List FileRead
  pub each : AllZip IsChecked read found
  pub calls : Leads a b (read_files_program root files []) (read_files_program root left read)

drop_none : (n : ℕ) → drop {A = Listed} n [] ≡ []
drop_none zero = refl
drop_none (suc n) = refl

pub none_read : (a : DiskLog) (root : List ℕ) (files : List Listed) (found : List Found) → found ≡ [] → IsReadTo a a root files files found
none_read a root files found none = record { read = []; each = subst (λ (l : List Found). AllZip IsChecked [] l) (sym none) tt; calls = no_call_made a (read_files_program root files []) }

pub all_read : (a b : DiskLog) (root : List ℕ) (files : List Listed) (at : ℕ) (found : List Found) → length files ≤ at → IsReadTo a b root files (drop at files) found → Loads a b (read_files_program root files []) (AllZip IsChecked) (Ok found)
all_read a b root files at found le so_far =
    let none : drop at files ≡ [] = drop_all files at le in
    (so_far.read, subst (λ (l : List Listed). Leads a b (read_files_program root files []) (read_files_program root l so_far.read)) none so_far.calls, so_far.each)
  where
    drop_all : (l : List Listed) (n : ℕ) → length l ≤ n → drop n l ≡ []
    drop_all [] n le = drop_none n
    drop_all (x ∷ l) zero le = absurd (omega arith)
    drop_all (x ∷ l) (suc n) le = drop_all l n (omega arith)

-- the rest, as a part of the list
pub rest_is : (files : List Listed) (at : ℕ) → take (length files - at) (drop at files) ≡ drop at files
rest_is files at = take_all (length files - at) (drop at files) (omega (arith, length-drop at files))

-- one more group
module _ (a b c : DiskLog) (root : List ℕ) (files rest : List Listed) (at : ℕ) (found : List Found) (is : rest ≡ drop at files) (so_far : IsReadTo a b root files (drop at files) found) where
  at_group : Leads a b (read_files_program root files []) (read_files_program root rest so_far.read)
  at_group = subst (λ (l : List Listed). Leads a b (read_files_program root files []) (read_files_program root l so_far.read)) (sym is) so_far.calls

  pub group_failed : (e : LoadErr) (r : Result (List Found) LoadErr) → IsErrAnd r (λ x. x ≡ e) → ReadsGroup b c root rest (Err e) → Loads a c (read_files_program root files []) (AllZip IsChecked) r
  group_failed e r is_err reads =
      loaded_err a c (read_files_program root files []) (AllZip IsChecked) e r is_err
      (stops_after a b c (read_files_program root files []) (read_files_program root rest so_far.read) at_group e (reads so_far.read))

  past_group : (group : List FileRead) → ReadsGroup b c root rest (Ok group) → Leads a c (read_files_program root files []) (read_files_program root (drop (length group) rest) (so_far.read ++ group))
  past_group group reads = leads_trans at_group (reads.1 so_far.read)

  pub group_lost : (group : List FileRead) (r : Result (List Found) LoadErr) → IsErrAnd r (λ x. x ≡ Memory) → ReadsGroup b c root rest (Ok group) → Loads a c (read_files_program root files []) (AllZip IsChecked) r
  group_lost group r is_err reads =
      loaded_err a c (read_files_program root files []) (AllZip IsChecked) Memory r is_err
      (rests a c (read_files_program root files []) (read_files_program root (drop (length group) rest) (so_far.read ++ group)) (past_group group reads) (files_unfailed root (drop (length group) rest) (so_far.read ++ group)))

  pub group_found : (group : List FileRead) (more after : List Found) (next : ℕ) → ReadsGroup b c root rest (Ok group) → AllZip IsChecked group more → after ≡ found ++ more → next ≡ at + length group
      → IsReadTo a c root files (drop next files) after
  group_found group more after next reads each grown is_next =
      let left : drop (length group) rest ≡ drop next files = ap (drop (length group)) is ∙ dropped at (length group) files ∙ ap (λ (n : ℕ). drop n files) (sym is_next) in
      record {
        read = so_far.read ++ group;
        each = subst (λ (l : List Found). AllZip IsChecked (so_far.read ++ group) l) (sym grown) (all_zip_append IsChecked so_far.read group found more so_far.each each);
        calls = subst (λ (l : List Listed). Leads a c (read_files_program root files []) (read_files_program root l (so_far.read ++ group))) left (past_group group reads);
      }
    where
      dropped : (m n : ℕ) (l : List Listed) → drop n (drop m l) ≡ drop (m + n) l
      dropped zero n l = let e : n ≡ 0 + n = omega arith in ap (λ (k : ℕ). drop k l) e
      dropped (suc m) n [] = drop_none n ∙ sym (drop_none (suc m + n))
      dropped (suc m) n (x ∷ l) = let e : suc (m + n) ≡ suc m + n = omega arith in dropped m n l ∙ ap (λ (k : ℕ). drop k (x ∷ l)) e

-- checked files have descriptions, and short metadata
found_of_checked : (read : List FileRead) (found : List Found) → AllZip IsChecked read found → AllZip IsDescriptionOf read found
found_of_checked [] [] h = tt
found_of_checked [] (f ∷ found) h = absurd h
found_of_checked (r ∷ read) [] h = absurd h
found_of_checked (r ∷ read) (f ∷ found) h = (h.0.found_of, found_of_checked read found h.1)

short_of_checked : (read : List FileRead) (found : List Found) → AllZip IsChecked read found → All HasShortMeta found
short_of_checked [] [] h = All-nil HasShortMeta
short_of_checked [] (f ∷ found) h = absurd h
short_of_checked (r ∷ read) [] h = absurd h
short_of_checked (r ∷ read) (f ∷ found) h = All-cons HasShortMeta f found h.0.meta (short_of_checked read found h.1)

pub all_short : (a b : DiskLog) (root : List ℕ) (files : List Listed) (found : List Found) → Loads a b (read_files_program root files []) (AllZip IsChecked) (Ok found) → All HasShortMeta found
all_short a b root files found load_program = short_of_checked load_program.0 found load_program.2

-- all was listed
module _ (a b : DiskLog) (root : List ℕ) (listed : List Listed) (did : Completes a b (list_files_program root) (Some listed)) where
  reached : Leads a b (load_program root) (read_files_program root (in_order listed) [])
  reached = leads_inside (with_value (λ files. read_files_program root (in_order files) [])) did

  pub loading_unordered : (r : Result Backlog LoadErr) → IsErrAnd r (λ x. x ≡ Memory) → Loads a b (load_program root) IsBacklog r
  loading_unordered r is = loaded_err a b (load_program root) IsBacklog Memory r is (rests a b (load_program root) (read_files_program root (in_order listed) []) reached (files_unfailed root (in_order listed) []))

-- and then files were read
module _ (a b c : DiskLog) (root : List ℕ) (listed : List Listed) (did : Completes a b (list_files_program root) (Some listed)) where
  pub loading_stopped : (files : List Listed) (e : LoadErr) (r : Result Backlog LoadErr) → files ≡ in_order listed → IsErrAnd r (λ x. x ≡ e) → StopsWith b c (read_files_program root files []) e → Loads a c (load_program root) IsBacklog r
  loading_stopped files e r ordered is stopped =
      let here = subst (λ (l : List Listed). StopsWith b c (read_files_program root l []) e) ordered stopped in
      loaded_err a c (load_program root) IsBacklog e r is (stops_after a b c (load_program root) (read_files_program root (in_order listed) []) (reached a b root listed did) e here)

  pub loading_done : (files : List Listed) (found : List Found) (next : ℕ) → files ≡ in_order listed → Loads b c (read_files_program root files []) (AllZip IsChecked) (Ok found) → next ≡ next_number found
      → Loads a c (load_program root) IsBacklog (Ok (record { found = found; next = next }))
  loading_done files found next ordered loads_files is_next =
      let read = subst (λ (l : List Listed). Completes b c (read_files_program root l []) (Some loads_files.0)) ordered loads_files.1 in
      (loads_files.0, leads_trans (reached a b root listed did) read, record { found = found_of_checked loads_files.0 found loads_files.2; next = is_next })

-- the listing stopped
pub listing_stopped : (a b : DiskLog) (root : List ℕ) (e : LoadErr) (r : Result Backlog LoadErr) → IsErrAnd r (λ x. x ≡ e) → StopsWith a b (list_files_program root) e → Loads a b (load_program root) IsBacklog r
listing_stopped a b root e r is stopped =
    loaded_err a b (load_program root) IsBacklog e r is (stops a a b (load_program root) (list_files_program root) (λ files. read_files_program root (in_order files) []) (no_call_made a (load_program root)) (λ files. files_unfailed root (in_order files) []) e stopped)
