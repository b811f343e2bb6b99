use Rattle.fwd_positions.proofs.sqlite_keeper.SqliteKeeper.new.Given as goal

abbrev pub ghost-new : goal.ghost-new
ghost-new g a = g.given
