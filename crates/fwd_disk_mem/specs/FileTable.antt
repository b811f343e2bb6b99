-- Files by their names.
use Rattle.std.specs.Prelude.{◌≡◌, ℕ, if◌then◌else◌, Option, Some, None, List, [], ◌∷◌, Vec}
use Rattle.std.specs.Str.{bytes_eq}

-- a file with its name
pub record MemFile : Type 0 where
  pub name : List ℕ
  pub bytes : List ℕ

-- the file of an entry
abbrev pub file_of : {Z : Type 0} → Vec ℕ Z × List ℕ → MemFile
file_of entry = record { name = entry.0.items; bytes = entry.1 }

-- the bytes of the file of this name; `None` if there is none
abbrev pub found : List MemFile → List ℕ → Option (List ℕ)
found [] name = None
found (file ∷ files) name = if bytes_eq file.name name then Some file.bytes else found files name

-- the file of one name is this, and the others are unchanged
abbrev pub SetAt : List MemFile → List MemFile → List ℕ → Option (List ℕ) → Type 0
SetAt old new name file = (n : List ℕ) → found new n ≡ (if bytes_eq name n then file else found old n)
