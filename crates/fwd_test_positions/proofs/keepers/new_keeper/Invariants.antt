use Rattle.std.proofs.Common.{[]}
use Rattle.fwd_test_positions.proofs.keepers.new_keeper.Given as goal

abbrev pub ghost-new : goal.ghost-new
ghost-new a = []
