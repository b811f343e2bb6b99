-- The abstract state of a store.
use Rattle.std.specs.Prelude.{ℕ, Bool, List, Option}
use Rattle.std.specs.Ordering.{nat_cmp}
use Rattle.std.specs.FinMap as map
use Rattle.fwd_chunk.specs.declared.kept.Kept.{Kept}
use Rattle.fwd_store.specs.OpenChunk.{Opened}

-- chunks by number
abbrev pub KeptMap : Type 0
KeptMap = map.FinMap nat_cmp Kept

-- the chunks, and the room for more
pub record KeptMapWithRoom : Type 0 where
  pub list : KeptMap
  pub spare : ℕ

-- The folder of the files; whether each append is synced; the number of the next new chunk; the chunks by
-- number; and the open chunks, in the order of opening.
pub record Stored : Type 0 where
  pub root : Option (List ℕ)
  pub full : Bool
  pub next : ℕ
  pub chunks : KeptMap
  pub opened : List Opened
