-- What a table of open files has.
use Rattle.std.specs.Prelude.{ℕ, List, ◌≡◌, ◌<◌, length, HoldsAt}
use Rattle.fwd_live.specs.declared.open_files.OpenFile.{OpenFile}

-- the file with this index has the name
abbrev pub HasNameAt : List ℕ → List OpenFile → ℕ → Type 0
HasNameAt name files index = (index < length files) × HoldsAt (λ it. it.name ≡ name) files index
