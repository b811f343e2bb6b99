use Rattle.fwd_table_rows.specs.declared.sums.ByOutput.TheVariants.{Flights, FlyingBytes, WaitingBytes}
use Rattle.fwd_table_rows.specs.Sums.{Over, Memory, FilesUp, FoundUp, Unowed, Rows}
use Rattle.std.proofs.Common.{arith}
use Rattle.fwd_table_rows.proofs.sums.Sums.shift.Goals as goal

pub shift_routes-requires-clause-can : goal.shift_routes-requires-clause-can
shift_routes-requires-clause-can c key below = c.requires (Over Flights) key below

pub shift_routes-requires-2-clause-can : goal.shift_routes-requires-2-clause-can
shift_routes-requires-2-clause-can c key below = c.requires (Over FlyingBytes) key below

pub shift_routes-requires-3-clause-can : goal.shift_routes-requires-3-clause-can
shift_routes-requires-3-clause-can c key below = c.requires (Over WaitingBytes) key below

pub shift_memory-requires-clause-can : goal.shift_memory-requires-clause-can
shift_memory-requires-clause-can c key below = c.requires Memory key below

pub shift-self-requires : goal.shift-self-requires
shift-self-requires c = rw c.files_part.ensures (c.requires FilesUp 0 (omega arith))

pub shift-self-requires-2 : goal.shift-self-requires-2
shift-self-requires-2 c = rw c.found_part.ensures (c.requires FoundUp 0 (omega arith))

pub shift-self-requires-3 : goal.shift-self-requires-3
shift-self-requires-3 c = rw c.unowed_part.ensures (c.requires Unowed 0 (omega arith))

pub shift-self-requires-4 : goal.shift-self-requires-4
shift-self-requires-4 c = c.requires Rows 0 (omega arith)
