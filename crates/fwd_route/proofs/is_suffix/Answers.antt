use Rattle.std.proofs.lemmas.Bool.Decides.{Decides-eqb}
use Rattle.std.proofs.lemmas.Slice.Eq.{ends_is}
use Rattle.fwd_route.proofs.is_suffix.Goals as goal

pub returns : goal.returns
returns c =
    let same = ends_is Decides-eqb c.args.text.now c.args.end.now c.ends_with.result c.ends_with.ensures.value in
    (λ yes. (_, same.0 yes), λ ended. same.1 ended.0 ended.1)
