use Rattle.std.proofs.Common.{◌≡◌, ◌∙◌, sym, ap, length, None, rules, arith}
use Rattle.std.specs.Prelude.{get_or}
use Rattle.fwd_value.specs.Keys.{has_key}
use Rattle.fwd_parser.proofs.LentFields.{no_field, its_moment, taken_out, place_within}
use Rattle.fwd_parser.proofs.lent_fields.take_moment.Goals as goal

pub returns-in_err-place-clause-moment : goal.returns-in_err-place-clause-moment
returns-in_err-place-clause-moment c =
    let none : c.from_residual.result ≡ None = search rules in
    let place = sym (c.place_of.ensures c.args.floats c.args.types.now) ∙ c.in_err-place.was in
    rw none (sym (no_field c.args.floats c.args.types.now c.args.rule.now c.args.groups.now.items (rw c.as_slice.ensures.value at place)))

pub index-requires : goal.index-requires
index-requires c =
    let place = rw c.as_slice.ensures.value at (sym (c.place_of.ensures c.args.floats c.args.types.now) ∙ c.in_ok-place.was) in
    omega (arith, place_within c.args.floats c.args.types.now (has_key c.args.rule.now.key) c.args.groups.now.items c.in_ok-place.place place, c.as_slice.ensures.len, ap length c.as_slice.ensures.value)

pub returns-in_err-moment-clause-moment : goal.returns-in_err-moment-clause-moment
returns-in_err-moment-clause-moment c =
    let none : c.from_residual-in_err-moment.result ≡ None = search rules in
    let place = rw c.as_slice.ensures.value at (sym (c.place_of.ensures c.args.floats c.args.types.now) ∙ c.in_ok-place.was) in
    let within = place_within c.args.floats c.args.types.now (has_key c.args.rule.now.key) c.args.groups.now.items c.in_ok-place.place place in
    let here : c.index.result.now ≡ get_or c.args.groups.now.items c.in_ok-place.place c.index.result.now = search rules in
    rw none (sym (its_moment c.args.floats c.args.types.now c.args.rule.now c.args.groups.now.items c.in_ok-place.place c.index.result.now place within here ∙ sym (rw c.as_slice-2.ensures at c.group_moment.ensures) ∙ c.in_err-moment.was))

pub remove-requires : goal.remove-requires
remove-requires c =
    let place = rw c.as_slice.ensures.value at (sym (c.place_of.ensures c.args.floats c.args.types.now) ∙ c.in_ok-place.was) in
    omega (arith, place_within c.args.floats c.args.types.now (has_key c.args.rule.now.key) c.args.groups.now.items c.in_ok-place.place place, c.as_slice.ensures.len, ap length c.as_slice.ensures.value)

pub returns-then-not-rule-clause-moment : goal.returns-then-not-rule-clause-moment
returns-then-not-rule-clause-moment c =
    let place = rw c.as_slice.ensures.value at (sym (c.place_of.ensures c.args.floats c.args.types.now) ∙ c.in_ok-place.was) in
    let within = place_within c.args.floats c.args.types.now (has_key c.args.rule.now.key) c.args.groups.now.items c.in_ok-place.place place in
    let here : c.index.result.now ≡ get_or c.args.groups.now.items c.in_ok-place.place c.index.result.now = search rules in
    sym (its_moment c.args.floats c.args.types.now c.args.rule.now c.args.groups.now.items c.in_ok-place.place c.index.result.now place within here ∙ sym (rw c.as_slice-2.ensures at c.group_moment.ensures) ∙ c.in_ok-moment.was)

pub returns-then-not-rule-clause-found : goal.returns-then-not-rule-clause-found
returns-then-not-rule-clause-found c =
    let place = rw c.as_slice.ensures.value at (sym (c.place_of.ensures c.args.floats c.args.types.now) ∙ c.in_ok-place.was) in
    let gone = taken_out c.args.floats c.args.types.now c.args.rule.now c.args.groups.now.items c.in_ok-place.place place in
    rw (c.if-not-rule.true, c.remove.ensures.items) gone

pub returns-else-not-rule-clause-moment : goal.returns-else-not-rule-clause-moment
returns-else-not-rule-clause-moment c =
    let place = rw c.as_slice.ensures.value at (sym (c.place_of.ensures c.args.floats c.args.types.now) ∙ c.in_ok-place.was) in
    let within = place_within c.args.floats c.args.types.now (has_key c.args.rule.now.key) c.args.groups.now.items c.in_ok-place.place place in
    let here : c.index.result.now ≡ get_or c.args.groups.now.items c.in_ok-place.place c.index.result.now = search rules in
    sym (its_moment c.args.floats c.args.types.now c.args.rule.now c.args.groups.now.items c.in_ok-place.place c.index.result.now place within here ∙ sym (rw c.as_slice-2.ensures at c.group_moment.ensures) ∙ c.in_ok-moment.was)
