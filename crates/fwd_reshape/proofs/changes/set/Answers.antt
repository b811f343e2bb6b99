use Rattle.std.proofs.Common.{◌≡◌, ◌∙◌, ap, [], ◌∷◌, ◌++◌, None, Some}
use Rattle.std.specs.Prelude.{position}
use Rattle.fwd_value.specs.Val.{Val}
use Rattle.fwd_value.specs.View.{val_of}
use Rattle.fwd_value.specs.Keys.{has_key}
use Rattle.fwd_value.proofs.FirstMatch.{none_found, found}
use Rattle.fwd_reshape.proofs.Places.{first_changed-at}
use Rattle.fwd_reshape.proofs.changes.set.Goals as goal

pub returns-in_default : goal.returns-in_default
returns-in_default c =
    let nowhere : position (has_key c.args.key.now) c.args.body ≡ None = cc in
    rw (none_found (has_key c.args.key.now) c.args.body nowhere)
    (c.in_ok-push.ensures.ok ∙ ap (λ (k : Val). c.args.body ++ (k, val_of c.args.value) ∷ []) c.in_ok-text.ensures)

pub returns : goal.returns
returns c =
    let test = has_key c.args.key.now in
    let here : position test c.args.body ≡ Some c.in-Some.at = cc in
    let there = c.set_value.ensures.there in
    rw (found test c.args.body c.in-Some.at _ here there)
    (c.set_value.ensures.edited ∙ first_changed-at test (λ p. (p.0, val_of c.args.value)) c.args.body c.in-Some.at _ here there)
