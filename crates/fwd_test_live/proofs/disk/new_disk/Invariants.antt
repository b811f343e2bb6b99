use base.Stored.{gnil}
use Rattle.std.proofs.Common.{[]}
use Rattle.fwd_test_live.proofs.disk.new_disk.Given as goal

abbrev pub ghost-new : goal.ghost-new
ghost-new a = record { files = []; round = gnil }
