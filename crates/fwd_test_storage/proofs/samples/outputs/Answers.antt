use Rattle.std.proofs.Common.{List, ℕ, sym, subst}
use Rattle.fwd_chunk.specs.Layout.{AreOutputs}
use Rattle.fwd_test_storage.proofs.Holding.{names_of_one}
use Rattle.fwd_test_storage.proofs.samples.outputs.Goals as goal

pub returns : goal.returns
returns c = names_of_one c.new-names.result _ c.push.new.self c.new-names.ensures c.in_ok-from_slice.ensures c.in_ok-push.ensures.ok
