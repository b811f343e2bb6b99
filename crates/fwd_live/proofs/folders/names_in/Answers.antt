use Rattle.std.proofs.Common.{sym, subst, List, ℕ, All, IfSome, Option}
use Rattle.std.proofs.lemmas.List.Elements.{All-push}
use Rattle.fwd_outside.specs.Disk.{IsFileName}
use Rattle.fwd_live.proofs.folders.names_in.Goals as goal

pub loop-entry-preserved-in_ok-push : goal.loop-entry-preserved-in_ok-push
loop-entry-preserved-in_ok-push c =
    let is_name = subst (λ (o : Option (List ℕ)). IfSome o IsFileName) c.in-Some-2.is c.in_ok-name.ensures in
    subst (λ (l : List (List ℕ)). All IsFileName l) (sym c.in_ok-push.ensures.items)
    (All-push IsFileName c.loop-entry.names.items c.in-Some-2.name c.loop-entry.invariant is_name)
