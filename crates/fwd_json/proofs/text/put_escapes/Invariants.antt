use Rattle.std.proofs.Common.{◌≡◌, ◌++◌, length}
use Rattle.fwd_json.specs.Text.{escapes}
use Rattle.fwd_json.proofs.text.put_escapes.Given as goal

abbrev pub invariant-runs : goal.invariant-runs
invariant-runs l = l.out ++ escapes l.rest ≡ l.fn.out ++ escapes l.bytes

abbrev pub decreases-runs : goal.decreases-runs
decreases-runs l = length l.rest
