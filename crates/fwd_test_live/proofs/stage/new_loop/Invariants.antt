use base.Stored.{gnil}
use Rattle.std.proofs.Common.{[]}
use Rattle.fwd_test_live.proofs.stage.new_loop.Given as goal

abbrev pub ghost-new : goal.ghost-new
ghost-new a = record { happenings = []; places = []; dials = []; pushes = []; replies = []; words = []; round = gnil }
