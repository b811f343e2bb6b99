use Rattle.std.proofs.Common.{◌≡◌, ℕ, Bool, List, [], ◌∷◌, ◌++◌, length, map, filter, sym, ◌∙◌, ap, arith, Vec, Global}
use Rattle.std.specs.List.{range_with_len}
use Rattle.std.proofs.lemmas.List.{map_push}
use Rattle.fwd_base.specs.declared.ids.OutputId.{OutputId}
use Rattle.fwd_model.specs.Routes.{route, is_idle}
use Rattle.fwd_engine_chunks.proofs.Scans.{number_more, number_same}
use Rattle.fwd_engine_chunks.proofs.eviction.idle_outputs.Goals as goal
use Rattle.fwd_engine_chunks.proofs.eviction.idle_outputs.Goals.{then-is_idle+in_ok-push, else-is_idle}

pub loop-number-preserved : goal.loop-number-preserved
loop-number-preserved c h out stands =
    let s = c.args.run.now in
    let p : ℕ → Bool = λ output. is_idle s h (route c.args.chunk.0 output) in
    let answered = c.is_idle.ensures s h out stands in
    let before = c.loop-number.invariant h out stands in
    elim c.if-is_idle.branch [
      | then-is_idle+in_ok-push w ↦
          ap (λ (v : Vec OutputId Global). map (λ (output : OutputId). output.0) v.items) w.outputs-is
          ∙ ap (map (λ (output : OutputId). output.0)) w.in_ok-push.ensures.items
          ∙ map_push (λ (output : OutputId). output.0) c.loop-number.outputs.items _
          ∙ ap (λ (l : List ℕ). l ++ c.loop-number.number ∷ []) before
          ∙ sym (number_more p c.loop-number.number (sym answered ∙ w.if-is_idle.true))
      | else-is_idle w ↦
          ap (λ (v : Vec OutputId Global). map (λ (output : OutputId). output.0) v.items) w.outputs-is
          ∙ before
          ∙ sym (number_same p c.loop-number.number (sym answered ∙ w.if-is_idle.false))
    ]

pub returns : goal.returns
returns c h out stands =
    let test = c.loop-number-test.false in
    let end = c.loop-number.auto.number-end in
    let long = c.outputs-number-end.ensures in
    let all : c.loop-number.number ≡ length c.args.run.now.outputs = omega (arith, test, end, long) in
    c.loop-number.invariant h out stands ∙ ap (λ (n : ℕ). filter (λ output. is_idle c.args.run.now h (route c.args.chunk.0 output)) (range_with_len 0 n)) all
