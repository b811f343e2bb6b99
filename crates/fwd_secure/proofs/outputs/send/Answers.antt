use Rattle.std.proofs.Common.{◌≡◌, ◌-◌, length, drop, length-drop, refl, arith}
use Rattle.std.proofs.lemmas.List.{length-take}
use Rattle.fwd_outside.proofs.Executions.{no_call_made}
use Rattle.fwd_secure.specs.Outputs.{sends}
use Rattle.fwd_secure.proofs.PingPushes.{all_sent, refused, waits, broke, took_none, took_some}
use Rattle.fwd_secure.proofs.outputs.send.Goals as goal

pub pushing-init : goal.pushing-init
pushing-init g c = record {
  led = (length c.args.bytes.now, omega arith, no_call_made _ (sends c.args.link.0 c.args.bytes.now));
  within = omega arith;
  later = omega arith;
  same = refl;
}

pub returns-in-Took-eq0-clause-calls : goal.returns-in-Took-eq0-clause-calls
returns-in-Took-eq0-clause-calls g c =
    let led = c.pushing.invariant.led in
    let none : c.in-Took-eq0.field-0 ≡ 0 = omega arith in
    took_none _ _ _ c.args.link.0 led.0 c.pushing.taken c.args.bytes.now led.1 led.2 c.pushing-test.true (rw none at c.in-Took-eq0.ensures.call_log)

pub pushing-preserved : goal.pushing-preserved
pushing-preserved g c = record {
  led =
      let led = c.pushing.invariant.led in
      took_some _ _ _ c.args.link.0 led.0 c.pushing.taken c.args.bytes.now led.1 led.2 c.pushing-test.true c.in-Took.more c.in-Took.more-test.1 c.in-Took.ensures.within c.in-Took.ensures.call_log;
  within = omega (arith, c.in-Took.ensures.within, length-take (length c.args.bytes.now - c.pushing.taken) (drop c.pushing.taken c.args.bytes.now), length-drop c.pushing.taken c.args.bytes.now);
  later = omega (arith, c.pushing.invariant.later, c.in-Took.ensures.cause.later);
  same = cc (c.in-Took.ensures.same, c.pushing.invariant.same);
}

pub returns-in-Again-clause-calls : goal.returns-in-Again-clause-calls
returns-in-Again-clause-calls g c =
    let led = c.pushing.invariant.led in
    waits _ _ _ c.args.link.0 led.0 c.pushing.taken c.args.bytes.now led.1 led.2 c.pushing-test.true c.in-Again.ensures.call_log

pub returns-in-Broken-clause-calls : goal.returns-in-Broken-clause-calls
returns-in-Broken-clause-calls g c =
    let led = c.pushing.invariant.led in
    broke _ _ _ c.args.link.0 led.0 c.pushing.taken c.args.bytes.now led.1 led.2 c.pushing-test.true c.in-Broken.ensures.call_log

pub returns-in-Memory-clause-calls : goal.returns-in-Memory-clause-calls
returns-in-Memory-clause-calls g c =
    let led = c.pushing.invariant.led in
    refused _ _ _ c.args.link.0 led.0 c.pushing.taken c.args.bytes.now led.1 led.2 c.in-Memory.ensures.call_log

pub returns-clause-calls : goal.returns-clause-calls
returns-clause-calls g c =
    let led = c.pushing.invariant.led in
    all_sent _ _ c.args.link.0 led.0 c.pushing.taken c.args.bytes.now led.2 c.pushing-test.false
