-- The abstract state of a script.
use Rattle.std.specs.Prelude.{ℕ, Bool, List}
use Rattle.fwd_script.specs.declared.schedule.Planned.{Planned}
use Rattle.fwd_script.specs.declared.schedule.Given.{Given}
use Rattle.fwd_script_loop.specs.declared.call_record.LoopNote.{LoopNote}

pub record ScriptState : Type 0 where
  -- the lines and the answers of the run
  pub lines : List Planned
  pub answers : List Given
  -- whether the run has a cut
  pub crashes : Bool
  -- the number of the first lines whose changes of files were removed
  pub changed : ℕ
  -- the calls, the oldest first, without starts that failed
  pub notes : List LoopNote
  -- the number of events returned, which stops at 2^64 - 1
  pub brought : ℕ
  -- the greatest number of a link
  pub greatest : ℕ
  -- whether it is to fail at its start
  pub fails_to_start : Bool
  -- the number of failed calls
  pub faults : ℕ
