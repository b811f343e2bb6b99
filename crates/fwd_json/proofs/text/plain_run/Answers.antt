use Rattle.std.proofs.Common.{◌≤◌, ◌+◌, length, subst, arith}
use Rattle.std.specs.Bool.{OnTrue}
use Rattle.json.specs.Written.{PlainBetween}
use Rattle.fwd_json.proofs.TextLoops.{plain_more, plain_wide}
use Rattle.fwd_json.proofs.text.plain_run.Goals as goal

pub lanes-preserved : goal.lanes-preserved
lanes-preserved c =
    let room : c.lanes.run + 16 ≤ length c.args.bytes.now = omega (arith, c.lanes-test.true) in
    record {
      within = room;
      plain = plain_wide c.args.bytes.now c.lanes.run 16 room c.lanes.invariant.plain (subst (λ b. OnTrue b (PlainBetween c.args.bytes.now c.lanes.run (c.lanes.run + 16))) c.if-are_plain.true c.are_plain.ensures);
    }

pub bytes-preserved : goal.bytes-preserved
bytes-preserved c = record {
  within = omega (arith, c.bytes-test.true);
  plain = plain_more c.args.bytes.now c.bytes.run c.bytes-test.true c.bytes.invariant.plain (c.is_plain.ensures c.if-is_plain.true);
}
