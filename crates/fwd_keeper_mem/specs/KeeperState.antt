-- The abstract state of a keeper in memory.
use Rattle.std.specs.Prelude.{ℕ, List}
use Rattle.fwd_keeper.specs.Keeper.{KeeperGiven}
use Rattle.fwd_keeper_mem.specs.declared.mem_keeper.KeeperNote.{KeeperNote}

pub record KeeperState : Type 0 where
  -- the first offsets
  pub given : KeeperGiven
  -- the record, the oldest entry first
  pub notes : List KeeperNote
  -- the number of failed calls
  pub faults : ℕ
