use Rattle.std.proofs.Common.{◌≡◌, sym, ap, subst, ◌∙◌, arith}
use Rattle.fwd_model.specs.Settings.{output_name}
use Rattle.fwd_engine_settings.proofs.OutputNames.{names_below, names_none, names_more, names_same}
use Rattle.fwd_engine_settings.proofs.run_settings.RunSettings.names_of.Goals as goal
use Rattle.fwd_engine_settings.proofs.run_settings.RunSettings.names_of.Goals.{then-is_set+in_ok-from_slice+in_ok-push, else-is_set}

pub loop-output-init : goal.loop-output-init
loop-output-init c = c.new-names.ensures ∙ names_none (output_name c.args.self.now) c.args.routes

pub loop-output-preserved : goal.loop-output-preserved
loop-output-preserved c =
    let n = c.loop-output.output in
    let name = output_name c.args.self.now in
    elim c.if-is_set.branch [
      | then-is_set+in_ok-from_slice+in_ok-push w ↦
          rw (w.names-is, w.in_ok-push.ensures.ok, w.in_ok-from_slice.ensures, w.output_name-name.ensures)
          (names_more name c.args.routes n c.loop-output.names (sym c.is_set.ensures ∙ w.if-is_set.true) c.loop-output.invariant)
      | else-is_set w ↦ rw w.names-is (names_same name c.args.routes n c.loop-output.names (sym c.is_set.ensures ∙ w.if-is_set.false) c.loop-output.invariant)
    ]

pub returns : goal.returns
returns c =
    let test = c.loop-output-test.false in
    let end = c.loop-output.auto.output-end in
    let all : c.loop-output.output ≡ 64 = omega (arith, test, end) in
    c.loop-output.invariant ∙ ap (names_below (output_name c.args.self.now) c.args.routes) all
