use Rattle.std.proofs.Common.{◌≡◌, Bool, true, false, eqb, IsTrue, refl, ◌∙◌, ap}
use Rattle.std.proofs.Math.Bool.{not}
use Rattle.std.specs.List.{list_any}
use Rattle.fwd_route.proofs.Stars.{none_is_plain, plain_has_none}
use Rattle.fwd_route.proofs.is_plain.Goals as goal

not_false : (b : Bool) → IsTrue (not b) → b ≡ false
not_false true is = absurd (cc (is))
not_false false is = refl

pub returns : goal.returns
returns c =
    let value : c.contains.result ≡ list_any (λ y. eqb y 42) c.args.glob.now = c.contains.ensures.value in (
      λ yes. none_is_plain c.args.glob.now (cc (value, not_false c.contains.result yes)),
      λ plain. ap not (value ∙ plain_has_none c.args.glob.now plain),
    )
