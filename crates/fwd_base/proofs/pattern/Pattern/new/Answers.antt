use Rattle.std.proofs.Common.{◌≡◌, inl, inr, sym, subst, ◌∙◌, arith}
use Rattle.std.specs.Str.{IsUtf8}
use Rattle.regex.specs.Patterns.{Reads, Refuses}
use Rattle.regex.specs.Failures.{IsPattern, IsRightKind}
use Rattle.fwd_base.specs.Pattern.{translated, options}
use Rattle.fwd_base.proofs.Translation.{IsUtf8-translated}
use Rattle.fwd_base.proofs.pattern.Pattern.new.Goals as goal

pub returns-in_default-clause-refused : goal.returns-in_default-clause-refused
returns-in_default-clause-refused c = λ _.
    inl (λ text_is. c.in_default.ensures.cases.0 (subst IsUtf8 (sym (c.as_slice.ensures ∙ c.in_ok-translated.ensures)) (IsUtf8-translated c.args.text.now text_is)))

pub returns-in-Err-Syntax-clause-refused : goal.returns-in-Err-Syntax-clause-refused
unfolding Reads Refuses
returns-in-Err-Syntax-clause-refused c = λ _.
    inr (λ pattern.
    let source : c.in-Ok.source.now ≡ translated c.args.text.now = c.in-Ok.ensures.cases.0 ∙ c.as_slice.ensures ∙ c.in_ok-translated.ensures in
    let reads = (subst (IsPattern options) (sym source) pattern).2 in
    let refused = c.in-Err-Syntax.ensures.refused _ c.in-Err-Syntax.field-0-is in
    let kind = subst (IsRightKind options c.in-Ok.source.now) c.in-Err-Syntax.field-0-is c.in-Err-Syntax.ensures.kind in
    grind (arith, refused, kind, reads))
