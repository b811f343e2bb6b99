-- Recovered chunks fit the longest file that is read.
use Rattle.std.proofs.Common.{◌≡◌, ℕ, List, [], ◌∷◌, length, All, Result, Ok, Err, IfOk, ap, subst, arith}
use Rattle.std.specs.List.{AllZip}
use Rattle.std.proofs.lemmas.List.Elements.{All-nil, All-cons}
use Rattle.fwd_outside.specs.Disk.{DiskLog}
use Rattle.fwd_chunk.specs.declared.chunk.Brief.{Brief}
use Rattle.fwd_chunk.specs.declared.chunk.Found.{Found}
use Rattle.fwd_chunk.specs.declared.chunk.Seen.{Seen}
use Rattle.fwd_chunk.specs.Check.{IsCheckResult}
use Rattle.fwd_chunk.proofs.HeaderFacts.{read_fits}
use Rattle.fwd_backlog.specs.declared.error.LoadErr.{LoadErr}
use Rattle.fwd_backlog.specs.declared.load.Backlog.{Backlog}
use Rattle.fwd_backlog.specs.LoadResult.{Loads}
use Rattle.fwd_backlog.specs.declared.file_read.FileRead.{FileRead}
use Rattle.fwd_backlog.specs.LoadProgram.{load_program, IsDescriptionOf, IsBacklog}
use Rattle.fwd_backlog.specs.Recovered.{FitsFile}

one_fits : (read : FileRead) (found : Found) → IsDescriptionOf read found → FitsFile found
one_fits read found is brief is_whole =
    let whole = subst (λ (x : Seen). IsCheckResult read.bytes x) is_whole is.seen in
    let meta : brief.meta ≡ whole.0.meta = ap (λ (b : Brief). b.meta) whole.2 in
    let size : brief.size ≡ length whole.0.content = ap (λ (b : Brief). b.size) whole.2 in
    let fits = read_fits read.bytes whole.0 whole.1 in
    omega arith

all_fit : (read : List FileRead) (found : List Found) → AllZip IsDescriptionOf read found → All FitsFile found
all_fit [] [] are = All-nil FitsFile
all_fit [] (f ∷ found) are = absurd are
all_fit (r ∷ read) [] are = absurd are
all_fit (r ∷ read) (f ∷ found) are = All-cons FitsFile f found (one_fits r f are.0) (all_fit read found are.1)

pub loaded_fit : (a b : DiskLog) (root : List ℕ) (r : Result Backlog LoadErr) → Loads a b (load_program root) IsBacklog r → IfOk r (λ backlog. All FitsFile backlog.found)
loaded_fit a b root (Ok backlog) loaded = all_fit loaded.0 backlog.found loaded.2.found
loaded_fit a b root (Err e) loaded = tt
