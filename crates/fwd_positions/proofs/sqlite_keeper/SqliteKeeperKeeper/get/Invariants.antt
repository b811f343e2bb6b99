use Rattle.fwd_outside.specs.Program.{entry}
use Rattle.fwd_keeper.specs.Keeper.{Get}
use Rattle.fwd_positions.proofs.sqlite_keeper.SqliteKeeperKeeper.get.Given as goal

abbrev pub ghost-then : goal.ghost-then
ghost-then a = entry (Get a._note.now.0.now a._note.now.1.now) a._note.now.2
