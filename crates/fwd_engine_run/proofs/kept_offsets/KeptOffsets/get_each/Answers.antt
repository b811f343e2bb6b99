use Rattle.std.proofs.Common.{◌≡◌, ◌<◌, ◌≤◌, ◌+◌, ℕ, List, length, drop, get_or, Ok, Some, refl, ◌∙◌, ap, subst, arith}
use Rattle.std.specs.Prelude.{slice_get}
use Rattle.std.proofs.lemmas.Option.{slice_get_read, slice_get_within}
use Rattle.fwd_model.specs.KeptOffsets.{tracked, gets}
use Rattle.fwd_model.proofs.Actions.{stays}
use Rattle.fwd_engine_run.specs.declared.kept_offsets.KeptOffset.{KeptOffset}
use Rattle.fwd_engine_run.proofs.OneOffset.{gets_end}
use Rattle.fwd_engine_run.proofs.Rows.{get_on, get_fails, get_ends, all_got}
use Rattle.fwd_engine_run.proofs.kept_offsets.KeptOffsets.get_each.Goals as goal

-- the row of this index
read : (rows items : List KeptOffset) (i : ℕ) (row : KeptOffset) → items ≡ rows → i < length items → row ≡ get_or items i row → slice_get rows i ≡ Some row
read rows items i row same within is = subst (λ (l : List KeptOffset). slice_get l i ≡ Some row) same (slice_get_read items (length items) i row refl within is)

pub loop-row-init : goal.loop-row-init
loop-row-init g c = (omega arith, λ others s h failed next at start keeps. (h, at, start, stays _ _))

pub loop-row-preserved : goal.loop-row-preserved
loop-row-preserved g c = (
  (let x = c.loop-row.invariant.0 in let y = c.in_ok-get.ensures.cause.later in omega arith),
  λ others s h failed next at start keeps.
      let so_far = c.loop-row.invariant.1 others s h failed next at start keeps in
      let i = c.loop-row.row-index in
      let count = keeps.count in
      let here = read c.args.self.now.rows.items c.as_slice-row-items.result.now i c.row-item.result c.as_slice-row-items.ensures.value (omega arith) c.row-item.is in
      let within : i < length (tracked s) = omega (arith, count, slice_get_within c.args.self.now.rows.items i c.row-item.result here) in
      get_on s i failed next within _ _ _ (gets s (tracked s) failed next h) so_far.0 c.args.self.now c.row-item.result here keeps so_far.3 c.get.new.engine c.get.result
      (λ t is. c.get.ensures.gets others s so_far.0 t failed (λ now. gets s (drop (i + 1) (tracked s)) failed next now) so_far.1 so_far.2 is) (c.in_ok-get.was ∙ ap Ok c.in-All.is),
)

pub returns-in-Failed-clause-gets : goal.returns-in-Failed-clause-gets
returns-in-Failed-clause-gets g c others s h failed next at start keeps =
    let so_far = c.loop-row.invariant.1 others s h failed next at start keeps in
    let i = c.loop-row.row-index in
    let count = keeps.count in
    let here = read c.args.self.now.rows.items c.as_slice-row-items.result.now i c.row-item.result c.as_slice-row-items.ensures.value (omega arith) c.row-item.is in
    let within : i < length (tracked s) = omega (arith, count, slice_get_within c.args.self.now.rows.items i c.row-item.result here) in
    get_fails s i failed next within _ _ _ (gets s (tracked s) failed next h) so_far.0 c.args.self.now c.row-item.result here keeps so_far.3 c.get.new.engine c.get.result
    (λ t is. c.get.ensures.gets others s so_far.0 t failed (λ now. gets s (drop (i + 1) (tracked s)) failed next now) so_far.1 so_far.2 is) (c.in_ok-get.was ∙ ap Ok c.in-Failed.is)

pub returns-in_err-get-clause-gets : goal.returns-in_err-get-clause-gets
returns-in_err-get-clause-gets g c others s h failed next at start keeps =
    let so_far = c.loop-row.invariant.1 others s h failed next at start keeps in
    let i = c.loop-row.row-index in
    let count = keeps.count in
    let here = read c.args.self.now.rows.items c.as_slice-row-items.result.now i c.row-item.result c.as_slice-row-items.ensures.value (omega arith) c.row-item.is in
    let within : i < length (tracked s) = omega (arith, count, slice_get_within c.args.self.now.rows.items i c.row-item.result here) in
    gets_end _ _ s failed next (gets s (tracked s) failed next h) _ _ c.from_residual.result c.from_residual.ensures.1
    (get_ends s i failed next within _ _ _ (gets s (tracked s) failed next h) so_far.0 c.args.self.now c.row-item.result here keeps so_far.3 c.get.new.engine c.get.result
    (λ t is. c.get.ensures.gets others s so_far.0 t failed (λ now. gets s (drop (i + 1) (tracked s)) failed next now) so_far.1 so_far.2 is) c.in_err-get.field-0.0 c.in_err-get.was)

pub returns-clause-gets : goal.returns-clause-gets
returns-clause-gets g c others s h failed next at start keeps =
    let so_far = c.loop-row.invariant.1 others s h failed next at start keeps in
    let count = keeps.count in
    let long = ap length c.as_slice-row-items.ensures.value in
    let past : length (tracked s) ≤ c.loop-row.row-index = omega (arith, count, long) in
    (so_far.0, so_far.1, so_far.2, all_got _ _ s failed next (gets s (tracked s) failed next h) c.loop-row.row-index so_far.0 past so_far.3)
