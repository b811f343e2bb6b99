use Rattle.std.proofs.Common.{◌≡◌, ℕ, List, length, map, ◌∙◌, ap, subst, refl, arith}
use Rattle.std.specs.Prelude.{slice_get, Some}
use Rattle.std.proofs.lemmas.Option.{slice_get_read}
use Rattle.fwd_settings.specs.declared.settings_types.InputSet.{InputSet}
use Rattle.fwd_model.specs.KeptOffsets.{tracked}
use Rattle.fwd_engine_run.specs.OneOffset.{new_row}
use Rattle.fwd_engine_run.proofs.TrackedFiles.{all_from}
use Rattle.fwd_engine_run.proofs.NewRows.{input_pushed}
use Rattle.fwd_engine_run.proofs.Rows.{keeps_new}
use Rattle.fwd_engine_run.proofs.kept_offsets.KeptOffsets.of.Goals as goal

pub loop-at-preserved : goal.loop-at-preserved
loop-at-preserved c =
    let items = c.as_slice-set-items.result.now in
    let at = c.loop-at.at in
    let read : slice_get items at ≡ Some c.set-item.result = slice_get_read items (length items) at c.set-item.result refl (omega arith) c.set-item.is in
    input_pushed c.args.settings.now c.loop-at.rows.items c.push_tracked.new.rows.items at c.set-item.result
    (subst (λ (l : List InputSet). slice_get l at ≡ Some c.set-item.result) c.as_slice-set-items.ensures read) c.in_ok-push_tracked.ensures c.loop-at.invariant

pub returns : goal.returns
unfolding tracked
returns c =
    let items = c.as_slice-set-items.result.now in
    let long = ap length c.as_slice-set-items.ensures in
    let all : c.loop-at.at ≡ length c.args.settings.now.inputs = omega (arith, long, c.loop-at-test.false, c.loop-at.auto.at-end) in
    keeps_new c.args.settings.now (record { rows = c.loop-at.rows }) (c.loop-at.invariant ∙ ap (λ (n : ℕ). map new_row (all_from c.args.settings.now 0 n)) all)
