use Rattle.std.proofs.Common.{◌≡◌, ◌≤◌, ◌-◌, length, take}
use Rattle.fwd_json.specs.Text.{escapes}
use Rattle.fwd_json.proofs.text.plain_run.Given as goal

abbrev pub invariant-lanes : goal.invariant-lanes
invariant-lanes l = record {
  within : l.run ≤ length l.bytes;
  plain : escapes (take l.run l.bytes) ≡ take l.run l.bytes;
}

abbrev pub decreases-lanes : goal.decreases-lanes
decreases-lanes l = length l.bytes - l.run

abbrev pub invariant-bytes : goal.invariant-bytes
invariant-bytes l = record {
  within : l.run ≤ length l.bytes;
  plain : escapes (take l.run l.bytes) ≡ take l.run l.bytes;
}

abbrev pub decreases-bytes : goal.decreases-bytes
decreases-bytes l = length l.bytes - l.run
