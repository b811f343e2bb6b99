use Rattle.std.proofs.Common.{◌≡◌, ℕ, ◌*◌, ◌/◌, ◌<◌, ◌≤◌, Bool, true, false, cond, not, nat_le, nat_lt, refl, sym, ap, ◌∙◌, inl, inr, arith}
use Rattle.std.proofs.lemmas.Bool.{cases_lt, lt-ltb, le-ltb, lt-leb, le-leb}
use Rattle.std.specs.declared.cmp.Ordering.TheVariants.{Less, Equal, Greater}
use Rattle.std.proofs.Math.Nat.{le-div_iff_mul-le, div-lt_iff_lt-mul}
use Rattle.fwd_float.proofs.ratio.Ratio.is_at_least.Goals.{in-Less, in_default}
use Rattle.fwd_float.proofs.ratio.Ratio.is_at_least.Goals as goal

at_least : (a u n : ℕ) → 0 < u → nat_le n (a / u) ≡ not (nat_lt a (u * n))
at_least a u n U =
    elim (cases_lt a (u * n)) [
      | inl l ↦ (let q : a / u < n = (div-lt_iff_lt-mul U).1 (omega arith) in rw (lt-ltb a (u * n) l, lt-leb n (a / u) q) refl)
      | inr g ↦ (let q : n ≤ a / u = (le-div_iff_mul-le U).1 (omega arith) in rw (le-ltb a (u * n) g, le-leb n (a / u) q) refl)
    ]

less : (x y : Bool) → cond x Less (cond y Equal Greater) ≡ Less → x ≡ true
less true y e = refl
less false true e = cc
less false false e = cc

not_less : (x y : Bool) → ¬ (cond x Less (cond y Equal Greater) ≡ Less) → x ≡ false
not_less true y e = absurd (e refl)
not_less false y e = refl

pub returns : goal.returns
returns c =
    let is = at_least c.args.self.now.above c.args.self.now.under c.args.n c.requires.some in
    elim c.match-matches.branch [
      | in-Less w ↦ ap not w.matches-is ∙ sym (is ∙ ap not (less _ _ (sym c.compare.ensures ∙ w.in-Less.is)))
      | in_default w ↦ ap not w.matches-is ∙ sym (is ∙ ap not (not_less _ _ (λ e. w.in_default.not-Less (c.compare.ensures ∙ e))))
    ]
