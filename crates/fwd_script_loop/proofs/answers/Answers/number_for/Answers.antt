use Rattle.std.proofs.Common.{◌≡◌, ◌-◌, ◌^◌, ◌<◌, Bool, Option, true, false, ltb, length, unwrap_or, refl, ap, ◌∙◌, sym, arith}
use Rattle.std.proofs.lemmas.Bool.{le-ltb, lt-ltb}
use Rattle.fwd_script_loop.specs.AnswerQueues.{lane_of}
use Rattle.fwd_script_loop.proofs.AnswerSteps.{dialed_when}
use Rattle.fwd_script_loop.proofs.answers.Answers.number_for.Goals as goal
use Rattle.fwd_script_loop.proofs.answers.Answers.number_for.Goals.{else-taken-via-then-taken+else-given-lt18446744073709551615, else-taken-via-else-taken}

pub returns-then-given-lt18446744073709551615-clause-answer : goal.returns-then-given-lt18446744073709551615-clause-answer
returns-then-given-lt18446744073709551615-clause-answer c = λ p stands.
    let lane = lane_of c.args.self.now.dials.lanes c.args.output in
    let counted : c.len-given.result ≡ length p.links = omega (arith, ap length stands.links, c.args.self.now.links.ok.0) in
    let less : c.len-given.result < 2 ^ 64 - 1 = omega arith in
    dialed_when p c.args.output c.len-given.result lane true true (stands.dials c.args.output) counted
    (sym c.if-taken.true ∙ c.unwrap_or-taken.ensures ∙ ap (λ (o : Option Bool). unwrap_or o true) c.next.ensures)
    (sym (lt-ltb c.len-given.result (2 ^ 64 - 1) less))

pub returns-else-taken-clause-answer : goal.returns-else-taken-clause-answer
returns-else-taken-clause-answer c = λ p stands.
    let lane = lane_of c.args.self.now.dials.lanes c.args.output in
    let counted : c.len-given.result ≡ length p.links = omega (arith, ap length stands.links, c.args.self.now.links.ok.0) in
    elim c.else-taken.branch [
      | else-taken-via-then-taken+else-given-lt18446744073709551615 w ↦
          dialed_when p c.args.output c.len-given.result lane true false (stands.dials c.args.output) counted
          (sym w.if-taken.true ∙ c.unwrap_or-taken.ensures ∙ ap (λ (o : Option Bool). unwrap_or o true) c.next.ensures)
          (sym (le-ltb c.len-given.result (2 ^ 64 - 1) w.if-given-lt18446744073709551615.false))
      | else-taken-via-else-taken w ↦
          dialed_when p c.args.output c.len-given.result lane false (ltb c.len-given.result (2 ^ 64 - 1)) (stands.dials c.args.output) counted
          (sym w.if-taken.false ∙ c.unwrap_or-taken.ensures ∙ ap (λ (o : Option Bool). unwrap_or o true) c.next.ensures)
          refl
    ]
