use Rattle.std.proofs.Common.{◌<◌, ◌+◌, ◌∙◌, sym, ap, length, map, drop, arith}
use Rattle.std.specs.Prelude.{option_and_then}
use Rattle.std.proofs.Math.Seq.{map-set_same}
use Rattle.fwd_filters.specs.Step.{through}
use Rattle.fwd_filters.specs.Prepared.{kind_of, remaining_of}
use Rattle.fwd_filters.proofs.Prepared.{leads, onwards}
use Rattle.fwd_filters.proofs.prepared_filter.apply_all.Goals as goal

pub returns-in_err-event-clause-same : goal.returns-in_err-event-clause-same
returns-in_err-event-clause-same c =
    map-set_same kind_of c.loop-i.filters.items c.loop-i.i c.apply_one.new.filter c.index_mut.result.now (c.apply_one.ensures.same ∙ ap kind_of c.index_mut.ensures.value)
    ∙ c.loop-i.invariant.same

pub returns-in-Dropped-clause-after : goal.returns-in-Dropped-clause-after
returns-in-Dropped-clause-after c =
    let filters = c.args.filters.now.items in
    let i = c.loop-i.i in
    let within : i < length filters = omega (arith, c.loop-i-test.true, c.len-i-end.ensures) in
    let here = leads kind_of c.loop-i.filters.items filters i c.index_mut.result.now c.loop-i.invariant.same within c.index_mut.ensures.value in
    ap (option_and_then (through (drop (i + 1) (map kind_of filters)))) (ap remaining_of (sym c.in-Dropped.is))
    ∙ onwards (map kind_of filters) _ _ _ c.loop-i.left c.args.event (remaining_of c.in_ok-event.field-0) here c.in_ok-event.ensures.after c.loop-i.invariant.rest

pub loop-i-preserved : goal.loop-i-preserved
loop-i-preserved c =
    let filters = c.args.filters.now.items in
    let i = c.loop-i.i in
    let within : i < length filters = omega (arith, c.loop-i-test.true, c.len-i-end.ensures) in
    let here = leads kind_of c.loop-i.filters.items filters i c.index_mut.result.now c.loop-i.invariant.same within c.index_mut.ensures.value in
    record {
      rest =
          ap (option_and_then (through (drop (i + 1) (map kind_of filters)))) (ap remaining_of (sym c.in-Left.is))
          ∙ onwards (map kind_of filters) _ _ _ c.loop-i.left c.args.event (remaining_of c.in_ok-event.field-0) here c.in_ok-event.ensures.after c.loop-i.invariant.rest;
      same =
          map-set_same kind_of c.loop-i.filters.items i c.apply_one.new.filter c.index_mut.result.now (c.apply_one.ensures.same ∙ ap kind_of c.index_mut.ensures.value)
          ∙ c.loop-i.invariant.same;
    }
