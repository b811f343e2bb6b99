-- The change that a write makes to the files.
use Rattle.std.proofs.Common.{◌≡◌, ℕ, Bool, true, false, if◌then◌else◌, Option, Some, None, Result, Ok, Err, OnOk, List, refl, sym, ◌∙◌, ap}
use Rattle.std.specs.Str.{bytes_eq}
use Rattle.std.proofs.lemmas.Slice.Eq.{bytes_eq-Decides}
use Rattle.fwd_base.specs.declared.memory.Memory.{Memory}
use Rattle.fwd_outside.specs.File.{overwritten}
use Rattle.fwd_disk_mem.specs.FileTable.{MemFile, found, SetAt}
use Rattle.fwd_disk_mem.specs.declared.entry.MemEntry.TheVariants.{WriteAt}
use Rattle.fwd_disk_mem.specs.Entry.{Changes, written_over}

one_name : (old new : List MemFile) (name : List ℕ) (at : ℕ) (bytes : List ℕ) (f : Option (List ℕ)) → found old name ≡ f
    → ((o : List ℕ) → found old name ≡ Some o → SetAt old new name (Some (overwritten o at bytes))) → (found old name ≡ None → new ≡ old)
    → Changes old new (WriteAt name at bytes true)
one_name old new name at bytes (Some o) is there absent n = by (bytes_eq name n) refl (there o is n)
  where
    by : (b : Bool) → bytes_eq name n ≡ b → found new n ≡ (if b then Some (overwritten o at bytes) else found old n) → found new n ≡ (if b then written_over at bytes (found old n) else found old n)
    by true e set = set ∙ ap (written_over at bytes) (sym is ∙ ap (found old) ((bytes_eq-Decides name n).0 e))
    by false e set = set
one_name old new name at bytes None is there absent n = by (bytes_eq name n) refl
  where
    same : found new n ≡ found old n
    same = ap (λ (l : List MemFile). found l n) (absent is)

    by : (b : Bool) → bytes_eq name n ≡ b → found new n ≡ (if b then written_over at bytes (found old n) else found old n)
    by true e = let none : found old n ≡ None = ap (found old) (sym ((bytes_eq-Decides name n).0 e)) ∙ is in same ∙ none ∙ sym (ap (written_over at bytes) none)
    by false e = same

pub wrote_changes : (r : Result (Unit {0}) Memory) (old new : List MemFile) (name : List ℕ) (at : ℕ) (bytes : List ℕ)
    → OnOk r ((o : List ℕ) → found old name ≡ Some o → SetAt old new name (Some (overwritten o at bytes))) → OnOk r (found old name ≡ None → new ≡ old)
    → OnOk r (Changes old new (WriteAt name at bytes true))
wrote_changes (Err e) old new name at bytes there absent = tt
wrote_changes (Ok x) old new name at bytes there absent = one_name old new name at bytes (found old name) refl there absent
