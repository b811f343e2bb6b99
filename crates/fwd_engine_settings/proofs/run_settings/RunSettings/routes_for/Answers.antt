use Rattle.std.proofs.Common.{◌≡◌, ◌<◌, ◌≤◌, ◌∙◌, sym, length, map, ap, List, arith}
use Rattle.fwd_settings.specs.declared.settings_types.AllSettings.{AllSettings}
use Rattle.fwd_settings.specs.declared.settings_types.OutputSet.{OutputSet}
use Rattle.fwd_route.specs.GlobTest.{matching_outputs}
use Rattle.fwd_model.specs.Notes.{is_empty}
use Rattle.fwd_table.specs.Routes.{routes_to}
use Rattle.fwd_engine_settings.proofs.RouteMask.{routes_for, mask_none, mask_yes, mask_no, mask_all, mask_zero}
use Rattle.fwd_engine_settings.proofs.run_settings.RunSettings.routes_for.Goals as goal
use Rattle.fwd_engine_settings.proofs.run_settings.RunSettings.routes_for.Goals.{then-glob_matches, else-glob_matches}

pub loop-i-init : goal.loop-i-init
loop-i-init c = mask_none c.as_slice-output-items.result.now c.args.tag.now

pub loop-i-preserved : goal.loop-i-preserved
loop-i-preserved c =
    let outputs = c.as_slice-output-items.result.now in
    let tag = c.args.tag.now in
    let i = c.loop-i.i in
    let less : i < length outputs = omega (arith, c.loop-i-test.true) in
    let within : i < 64 = omega (arith, less, c.self.invariant.0.few_outputs, ap length c.as_slice-output-items.ensures) in
    elim c.if-glob_matches.branch [
      | then-glob_matches w ↦ rw w.mask-is (mask_yes i outputs tag c.loop-i.mask c.output-item.result within less c.output-item.is (sym c.glob_matches.ensures ∙ w.if-glob_matches.true) c.loop-i.invariant)
      | else-glob_matches w ↦ rw w.mask-is (mask_no i outputs tag c.loop-i.mask c.output-item.result less c.output-item.is (sym c.glob_matches.ensures ∙ w.if-glob_matches.false) c.loop-i.invariant)
    ]

pub returns : goal.returns
returns c =
    let outputs = c.as_slice-output-items.result.now in
    let tag = c.args.tag.now in
    let all : length outputs ≤ c.loop-i.i = omega (arith, c.loop-i-test.false) in
    let within : c.loop-i.i ≤ 64 = omega (arith, c.self.invariant.0.few_outputs, ap length c.as_slice-output-items.ensures) in
    let whole : routes_to c.loop-i.mask ≡ routes_for outputs tag = mask_all c.loop-i.i outputs tag c.loop-i.mask within all c.loop-i.invariant in
    let none = mask_zero c.loop-i.i outputs tag c.loop-i.mask within all c.loop-i.invariant in
    let same : outputs ≡ c.args.self.now.outputs = c.as_slice-output-items.ensures ∙ ap (λ (s : AllSettings). s.outputs) c.self.view_is in
    record {
      routes = whole ∙ ap (λ (l : List OutputSet). routes_for l tag) same;
      none = none ∙ ap (λ (l : List OutputSet). is_empty (matching_outputs (map (λ (o : OutputSet). o.glob) l) tag)) same;
    }
