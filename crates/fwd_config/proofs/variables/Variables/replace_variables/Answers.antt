use Rattle.std.proofs.Common.{◌<◌, List, ℕ, ◌++◌, length, inr, refl, sym, ◌∙◌, ap, append_assoc, arith}
use Rattle.fwd_config.specs.Variables.{replace_variables, has_open_brace}
use Rattle.fwd_config.specs.Representation.{value_of}
use Rattle.fwd_config.proofs.Replacement.{opening_is, replaced_name, closed_name, open_name}
use Rattle.fwd_config.proofs.variables.Variables.replace_variables.Goals as goal

pub returns-then-end-named : goal.returns-then-end-named
returns-then-end-named c =
    let opens = opening_is c.loop-rest.rest.now c.in-Some.named.now c.in-Some.ensures.cases.0 c.in-Some.ensures.cases.1 in
    inr (refl, sym c.loop-rest.invariant.1 ∙ ap has_open_brace opens ∙ open_name c.in-Some.named.now c.index_of-end.result c.index_of-end.ensures.place (omega arith))

pub loop-rest-preserved-in-Some : goal.loop-rest-preserved-in-Some
loop-rest-preserved-in-Some c =
    let values = value_of c.args.self.now in
    let some : c.index_of-end.result < length c.in-Some.named.now = omega arith in
    let opens = opening_is c.loop-rest.rest.now c.in-Some.named.now c.in-Some.ensures.cases.0 c.in-Some.ensures.cases.1 in
    let name = replaced_name c.in-Some.named.now c.index_of-end.result c.index_of-end.ensures.place values some in
    let closed = closed_name c.in-Some.named.now c.index_of-end.result c.index_of-end.ensures.place some in (
      rw (c.in_ok-extend_from_slice.ensures.ok, c.get.ensures, append_assoc)
          (ap (λ (l : List ℕ). c.loop-rest.text ++ l) (sym name ∙ sym (ap (replace_variables values) opens)) ∙ c.loop-rest.invariant.0),
      sym closed ∙ sym (ap has_open_brace opens) ∙ c.loop-rest.invariant.1,
    )
