use Rattle.std.proofs.Common.{◌≡◌, ◌∙◌, sym, ap, set, None, Some}
use Rattle.std.specs.Prelude.{position}
use Rattle.fwd_value.specs.Val.{Val, text}
use Rattle.fwd_value.specs.Keys.{has_key}
use Rattle.fwd_value.proofs.FirstMatch.{none_found}
use Rattle.fwd_reshape.proofs.Places.{first_changed-at, first_changed-none}
use Rattle.fwd_reshape.proofs.changes.rename_first.Goals as goal

pub returns-in_default : goal.returns-in_default
returns-in_default c =
    let nowhere : position (has_key c.args.key.now) c.args.body ≡ None = cc in
    sym (first_changed-none (has_key c.args.key.now) (λ p. (text c.args.to.now, p.1)) c.args.body (none_found (has_key c.args.key.now) c.args.body nowhere))

pub returns : goal.returns
returns c =
    let test = has_key c.args.key.now in
    let here : position test c.args.body ≡ Some c.in-Some.at = cc in
    c.set_key.ensures.edited ∙ ap (λ (k : Val). set c.args.body c.in-Some.at (k, c.set_key.ensures.value)) c.in_ok-text.ensures
    ∙ first_changed-at test (λ p. (text c.args.to.now, p.1)) c.args.body c.in-Some.at _ here c.set_key.ensures.there
