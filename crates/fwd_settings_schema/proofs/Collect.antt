-- Lists that are built item by item.
use Rattle.std.proofs.Common.{◌≡◌, List, [], ◌∷◌, ◌++◌, Option, Some, None, refl, ap, ◌∙◌}
use Rattle.std.specs.List.{filter_map, cons_option, last_or}

cons_first : {Y : Type 0} (o : Option Y) (xs ys : List Y) → cons_option o (xs ++ ys) ≡ cons_option o xs ++ ys
cons_first None xs ys = refl
cons_first (Some y) xs ys = refl

pub collects : {X Y : Type 0} (f : X → Option Y) (xs : List X) (x : X) → filter_map f (xs ++ x ∷ []) ≡ filter_map f xs ++ filter_map f (x ∷ [])
collects f [] x = refl
collects f (y ∷ xs) x = ap (cons_option (f y)) (collects f xs x) ∙ cons_first (f y) (filter_map f xs) (filter_map f (x ∷ []))

pub last_behind : {Y : Type 0} (o : Option Y) (xs ys : List Y) → last_or o (xs ++ ys) ≡ last_or (last_or o xs) ys
last_behind o [] ys = refl
last_behind o (x ∷ xs) ys = last_behind (Some x) xs ys

pub last_collects : {X Y : Type 0} (f : X → Option Y) (xs : List X) (x : X) → last_or None (filter_map f (xs ++ x ∷ [])) ≡ last_or (last_or None (filter_map f xs)) (filter_map f (x ∷ []))
last_collects f xs x = ap (last_or None) (collects f xs x) ∙ last_behind None (filter_map f xs) (filter_map f (x ∷ []))
