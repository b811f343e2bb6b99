-- Which runs of a schedule put files on their disks.
use Rattle.std.specs.Prelude.{◌≡◌, List, [], ◌∷◌, All}
use Rattle.fwd_script.specs.declared.schedule.Life.{Life}

-- only the first
abbrev pub OnlyFirstHasFiles : List Life → Type 0
OnlyFirstHasFiles [] = Unit {0}
OnlyFirstHasFiles (first ∷ later) = All (λ (life : Life). life.store ≡ []) later
