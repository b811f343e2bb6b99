use Rattle.std.proofs.Common.{◌≡◌, ◌≤◌, ℕ, length, refl, arith, subst}
use Rattle.fwd_outside.proofs.LogGrowth.{grew_none}
use Rattle.fwd_flush.specs.FlushProgram.{pushes, writes}
use Rattle.fwd_flush.specs.Calls.{Advances}
use Rattle.fwd_flush.proofs.Steps.{advanced_by_none}
use Rattle.fwd_flush.proofs.Pushes.{refused, waits, broke, took_none, took_some, all_taken}
use Rattle.fwd_flush.proofs.rest.push_rest.Goals as goal

pub pushing-init : goal.pushing-init
unfolding writes
pushing-init g c = record {
  led = λ d p same from. (
    length d.payload,
    rw same (omega arith),
    subst (λ (n : ℕ). Advances (g.L.Loop.call_log c.args.outside.now) (g.L.Loop.call_log c.args.outside.now) (pushes (length d.payload) d c.args.link p) (pushes (length d.payload) d c.args.link (record p { taken = n })) p (record p { taken = n })) from
        (advanced_by_none _ p (grew_none _)),
  );
  later = omega arith;
  same = refl;
}

pub returns-in-Took-eq0-clause-calls : goal.returns-in-Took-eq0-clause-calls
returns-in-Took-eq0-clause-calls g c d p same from =
    let led = c.pushing.invariant.led d p same from in
    let none : c.in-Took-eq0.field-0 ≡ 0 = omega arith in
    took_none _ _ _ _ led.0 d c.args.link p (record p { taken = c.pushing.taken }) c.args.payload.now same c.pushing-test.true led.1 led.2 (rw none at c.in-Took-eq0.ensures.call_log)

pub pushing-preserved : goal.pushing-preserved
pushing-preserved g c = record {
  led = λ d p same from.
      let led = c.pushing.invariant.led d p same from in
      took_some _ _ _ _ led.0 d c.args.link p (record p { taken = c.pushing.taken }) c.args.payload.now same c.pushing-test.true led.1 led.2 c.in-Took.more c.in-Took.more-test.1 c.in-Took.ensures.within c.in-Took.ensures.call_log;
  later = omega (arith, c.pushing.invariant.later, c.in-Took.ensures.cause.later);
  same = cc (c.in-Took.ensures.same, c.pushing.invariant.same);
}

pub returns-in-Again-clause-calls : goal.returns-in-Again-clause-calls
returns-in-Again-clause-calls g c d p same from =
    let led = c.pushing.invariant.led d p same from in
    waits _ _ _ _ led.0 d c.args.link p (record p { taken = c.pushing.taken }) c.args.payload.now same c.pushing-test.true led.1 led.2 c.in-Again.ensures.call_log

pub returns-in-Broken-clause-calls : goal.returns-in-Broken-clause-calls
returns-in-Broken-clause-calls g c d p same from =
    let led = c.pushing.invariant.led d p same from in
    broke _ _ _ _ led.0 d c.args.link p (record p { taken = c.pushing.taken }) c.args.payload.now same c.pushing-test.true led.1 led.2 c.in-Broken.ensures.call_log

pub returns-in-Memory-clause-calls : goal.returns-in-Memory-clause-calls
returns-in-Memory-clause-calls g c d p same from =
    let led = c.pushing.invariant.led d p same from in
    refused _ _ _ _ led.0 d c.args.link p (record p { taken = c.pushing.taken }) c.args.payload.now same c.pushing-test.true led.1 led.2 c.in-Memory.ensures.call_log

pub returns-clause-calls : goal.returns-clause-calls
returns-clause-calls g c d p same from =
    let led = c.pushing.invariant.led d p same from in
    let none : length d.payload ≤ c.pushing.taken = rw same c.pushing-test.false in
    rw (all_taken led.0 d c.args.link (record p { taken = c.pushing.taken }) none) at led.2
