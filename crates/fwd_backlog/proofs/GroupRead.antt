-- How a group of files is read.
use Rattle.std.proofs.Common.{◌≡◌, ◌≢◌, ℕ, ◌+◌, ◌<◌, ◌≤◌, List, [], ◌∷◌, ◌++◌, append_assoc, length, get_or, drop, Some, None, Result, Ok, Err, IsErrAnd, sym, ◌∙◌, ap, subst, arith}
use Rattle.std.proofs.lemmas.List.{append-nil, drop_more, length-append}
use Rattle.fwd_outside.specs.Program.{Return, and_then}
use Rattle.fwd_outside.specs.Log.{Leads, Completes}
use Rattle.fwd_outside.proofs.Executions.{no_call_made}
use Rattle.fwd_outside.specs.Disk.{DiskLog, Sync}
use Rattle.fwd_backlog.specs.declared.error.LoadErr.{LoadErr}
use Rattle.fwd_backlog.specs.declared.error.LoadErr.TheVariants.{Memory}
use Rattle.fwd_backlog.specs.declared.file_read.FileRead.{FileRead}
use Rattle.fwd_backlog.specs.declared.listed_file.Listed.{Listed}
use Rattle.fwd_backlog.specs.LoadResult.{StopsWith}
use Rattle.fwd_backlog.specs.Listing.{path_of}
use Rattle.fwd_backlog.specs.LoadProgram.{file_read, read_synced_program, read_files_program}
use Rattle.fwd_backlog.specs.Groups.{ReadsGroup}
use Rattle.fwd_backlog.proofs.Calls.{asks_unfailed, goes, stops, rests}

-- reading files doesn't begin with a failure
pub files_unfailed : (root : List ℕ) (files : List Listed) (so_far : List FileRead) → read_files_program root files so_far ≢ Return None
files_unfailed root [] so_far = λ same. cc same
files_unfailed root (file ∷ files) so_far = asks_unfailed (Sync (path_of root file)) _

-- These files were read, and `left` is left to read.
pub record IsGroupTo (a b : DiskLog) (root : List ℕ) (files left : List Listed) (group : List FileRead) : Type 0 where
  pub calls : (so_far : List FileRead) → Leads a b (read_files_program root files so_far) (read_files_program root left (so_far ++ group))

pub group_begun : (a : DiskLog) (root : List ℕ) (files : List Listed) (group : List FileRead) → group ≡ [] → IsGroupTo a a root files files group
group_begun a root files group none = record {
  calls = λ so_far.
      let same : so_far ≡ so_far ++ group = sym (append-nil so_far) ∙ ap (λ (l : List FileRead). so_far ++ l) (sym none) in
      subst (λ (l : List FileRead). Leads a a (read_files_program root files so_far) (read_files_program root files l)) same (no_call_made a (read_files_program root files so_far));
}

-- a group that stopped
failed : (a c : DiskLog) (root : List ℕ) (files : List Listed) (e : LoadErr) (r : Result (List FileRead) LoadErr) → IsErrAnd r (λ x. x ≡ e)
    → ((so_far : List FileRead) → StopsWith a c (read_files_program root files so_far) e) → ReadsGroup a c root files r
failed a c root files e (Ok x) is stopped = absurd is
failed a c root files e (Err x) is stopped = λ so_far. subst (λ (y : LoadErr). StopsWith a c (read_files_program root files so_far) y) (sym is) (stopped so_far)

-- one more file
module _ (a b c : DiskLog) (root : List ℕ) (files : List Listed) (i : ℕ) (file : Listed) (group : List FileRead) (lt : i < length files) (is : file ≡ get_or files i file)
    (read : IsGroupTo a b root files (drop i files) group) where
  here : drop i files ≡ file ∷ drop (i + 1) files
  here = drop_more files i file lt ∙ ap (λ (f : Listed). f ∷ drop (i + 1) files) (sym is)

  abbrev Next : List FileRead → List ℕ → List FileRead
  Next so_far bytes = (so_far ++ group) ++ file_read file bytes ∷ []

  at_file : (so_far : List FileRead) → Leads a b (read_files_program root files so_far) (and_then (read_synced_program (path_of root file)) (λ bytes. read_files_program root (drop (i + 1) files) (Next so_far bytes)))
  at_file so_far = subst (λ (l : List Listed). Leads a b (read_files_program root files so_far) (read_files_program root l (so_far ++ group))) here (read.calls so_far)

  past_file : (bytes : List ℕ) → Completes b c (read_synced_program (path_of root file)) (Some bytes) → (so_far : List FileRead) → Leads a c (read_files_program root files so_far) (read_files_program root (drop (i + 1) files) (Next so_far bytes))
  past_file bytes did so_far = goes a b c (read_files_program root files so_far) (read_synced_program (path_of root file)) (λ bytes. read_files_program root (drop (i + 1) files) (Next so_far bytes)) (at_file so_far) bytes did

  pub group_more : (bytes : List ℕ) (after : List FileRead) → Completes b c (read_synced_program (path_of root file)) (Some bytes) → after ≡ group ++ file_read file bytes ∷ [] → IsGroupTo a c root files (drop (i + 1) files) after
  group_more bytes after did grown = record {
    calls = λ so_far.
        let same : Next so_far bytes ≡ so_far ++ after = append_assoc so_far group (file_read file bytes ∷ []) ∙ ap (λ (l : List FileRead). so_far ++ l) (sym grown) in
        subst (λ (l : List FileRead). Leads a c (read_files_program root files so_far) (read_files_program root (drop (i + 1) files) l)) same (past_file bytes did so_far);
  }

  pub group_stopped : (e : LoadErr) (r : Result (List FileRead) LoadErr) → IsErrAnd r (λ x. x ≡ e) → StopsWith b c (read_synced_program (path_of root file)) e → ReadsGroup a c root files r
  group_stopped e r is_err stopped = failed a c root files e r is_err (λ so_far.
      stops a b c (read_files_program root files so_far) (read_synced_program (path_of root file)) (λ bytes. read_files_program root (drop (i + 1) files) (Next so_far bytes)) (at_file so_far)
      (λ bytes. files_unfailed root (drop (i + 1) files) (Next so_far bytes)) e stopped)

  pub group_unkept : (bytes : List ℕ) (r : Result (List FileRead) LoadErr) → IsErrAnd r (λ x. x ≡ Memory) → Completes b c (read_synced_program (path_of root file)) (Some bytes) → ReadsGroup a c root files r
  group_unkept bytes r is_err did = failed a c root files Memory r is_err (λ so_far.
      rests a c (read_files_program root files so_far) (read_files_program root (drop (i + 1) files) (Next so_far bytes)) (past_file bytes did so_far) (files_unfailed root (drop (i + 1) files) (Next so_far bytes)))

-- `i` files were read
pub group_read : (a b : DiskLog) (root : List ℕ) (files : List Listed) (i : ℕ) (group : List FileRead) → i ≤ length files → length group ≡ i → IsGroupTo a b root files (drop i files) group → ReadsGroup a b root files (Ok group)
group_read a b root files i group le same read =
    (omega arith, λ so_far. subst (λ (n : ℕ). Leads a b (read_files_program root files so_far) (read_files_program root (drop n files) (so_far ++ group))) (sym same) (read.calls so_far))

pub one_longer : (group after : List FileRead) (read : FileRead) (i : ℕ) → length group ≡ i → after ≡ group ++ read ∷ [] → length after ≡ i + 1
one_longer group after read i count grown = omega (arith, ap length grown, length-append group (read ∷ []))
