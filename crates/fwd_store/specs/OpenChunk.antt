-- The open chunks, in the order of opening.
use Rattle.std.specs.Prelude.{ℕ, ◌<◌, All, Bool, not, ◌==◌, ◌&&◌, if◌then◌else◌, List, [], ◌∷◌, filter, Option, Some, None}
use Rattle.std.specs.Str.{bytes_eq}

-- an open chunk: its number, and its input and tag
pub record Opened : Type 0 where
  pub input : ℕ
  pub tag : List ℕ
  pub chunk : ℕ

abbrev pub is_for : ℕ → List ℕ → Opened → Bool
is_for input tag o = (input == o.input) && bytes_eq tag o.tag

-- the open chunk of an input and a tag
abbrev pub open_for : List Opened → ℕ → List ℕ → Option ℕ
open_for [] input tag = None
open_for (o ∷ os) input tag = if is_for input tag o then Some o.chunk else open_for os input tag

-- all open chunks but the one of this number
abbrev pub without : ℕ → List Opened → List Opened
without n opened = filter (λ o. not (o.chunk == n)) opened

-- the chunk that was opened first
abbrev pub first_of : List Opened → Option ℕ
first_of [] = None
first_of (o ∷ os) = Some o.chunk

-- the numbers rise
abbrev pub NumbersRise : List Opened → Type 0
NumbersRise [] = Unit {0}
NumbersRise (o ∷ os) = All (λ p. o.chunk < p.chunk) os × NumbersRise os

-- the open chunks, and the room for more
pub record OpenList : Type 0 where
  pub list : List Opened
  pub spare : ℕ
