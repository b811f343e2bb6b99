-- Growth of call logs composes.
use Rattle.std.proofs.Common.{List, [], ◌++◌, Option, Some, None, refl, sym, ◌∙◌, ap, append_assoc}
use Rattle.std.proofs.lemmas.List.{append-nil}
use Rattle.fwd_outside.specs.Log.{LogGrew}

pub grew_none : {G X : Type 0} (a : Option (G × List X)) → LogGrew a a []
grew_none (Some a) = (refl, sym (append-nil a.1))
grew_none None = tt

pub grew_trans : {G X : Type 0} (a b c : Option (G × List X)) (xs ys : List X) → LogGrew a b xs → LogGrew b c ys → LogGrew a c (xs ++ ys)
grew_trans (Some a) (Some b) (Some c) xs ys g h = (h.0 ∙ g.0, h.1 ∙ ap (λ (l : List _). l ++ ys) g.1 ∙ append_assoc a.1 xs ys)
grew_trans None None None xs ys g h = tt
grew_trans (Some a) None c xs ys g h = absurd g
grew_trans None (Some b) c xs ys g h = absurd g
grew_trans (Some a) (Some b) None xs ys g h = absurd h
grew_trans None None (Some c) xs ys g h = absurd h
