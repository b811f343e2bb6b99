use Rattle.std.proofs.Common.{◌≡◌, ℕ, suc, ◌/◌, ◌%◌, ◌↔◌, Bool, false, true, ◌&&◌, nat_eq, refl, sym, ap, ◌∙◌, add-one, true≢false, eq-eqb, IsTrue}
use Rattle.std.proofs.lemmas.Bool.{eqb-true}
use lib.Ieee.{Format}
use Rattle.fwd_float.specs.Ratio.{IsExact}
use Rattle.fwd_float.specs.Shortest.{digits_below}
use Rattle.fwd_float.proofs.Quotients.{below_next, exact_next}
use Rattle.fwd_float.proofs.shortest.Cut.next.Goals.{then-self, else-self}
use Rattle.fwd_float.proofs.shortest.Cut.next.Goals as goal

still_exact : (f : Format) (s q l : ℕ) (exact r : Bool) → l ≡ digits_below f s q % 10 → IsTrue exact ↔ IsExact f s q → r ≡ (exact && nat_eq l 0) → IsTrue r ↔ IsExact f s (suc q)
still_exact f s q l false r at is e = (λ t. absurd (true≢false (sym t ∙ e)), λ h. absurd (true≢false (sym (is.1 ((exact_next f s q).0 h).1))))
still_exact f s q l true r at is e = (λ t. (exact_next f s q).1 (sym at ∙ eqb-true _ _ (sym e ∙ t), is.0 refl), λ h. e ∙ eq-eqb l 0 (at ∙ ((exact_next f s q).0 h).0))

pub returns-clause-cut : goal.returns-clause-cut
returns-clause-cut c f s cut =
    let q = c.args.self.before in
    let d = rw add-one at cut.digits in
    let r : c.if-self.result ≡ (c.args.self.exact && nat_eq c.args.self.last 0) =
    elim c.if-self.branch [
      | then-self w ↦ w.result-is ∙ sym (ap (λ b. b && nat_eq c.args.self.last 0) w.if-self.true)
      | else-self w ↦ w.result-is ∙ w.if-self.false ∙ sym (ap (λ b. b && nat_eq c.args.self.last 0) w.if-self.false)
    ] in
    rw add-one (record {
      digits = rw add-one (ap (λ x. x / 10) d ∙ sym (below_next f s (suc q)));
      last = ap (λ x. x % 10) d;
      exact = still_exact f s q c.args.self.last c.args.self.exact c.if-self.result cut.last cut.exact r;
    })
