-- The abstract state of a sink in memory.
use Rattle.std.specs.Prelude.{ℕ, List}
use Rattle.fwd_files_mem.specs.declared.sink.SinkNote.{SinkNote}

pub record SinkState : Type 0 where
  -- the writes, the oldest first
  pub notes : List SinkNote
  -- the numbers of the writes that fail, from 1, in order
  pub fails : List ℕ
  -- the number of failed writes
  pub faults : ℕ
