-- The depth of a record after pairs of it were moved.
use Rattle.std.proofs.Common.{◌≡◌, ℕ, suc, ◌+◌, ◌≤◌, ◌∙◌, sym, ap, cond, max, leb, Bool, true, false, ◌&&◌, not, List, [], ◌∷◌, ◌++◌, map, filter, refl, arith}
use Rattle.std.specs.List.{list_all}
use Rattle.std.proofs.lemmas.Bool.Decides.{nat_tests}
use Rattle.fwd_value.specs.Val.{Val, nil, truth, whole, text, bin, float32, float64, ext, list, mapping, entries_of}
use Rattle.fwd_value.specs.Limits.{nesting, entry_nestings}
use Rattle.fwd_value.specs.Keys.{Record, has_key}
use Rattle.fwd_reshape.specs.Moves.{is_matched, moved_key, moved, fits, gathered, pairs_of, without_first, lifted_out}
use Rattle.fwd_reshape.specs.declared.rules.NestRule.{NestRule}
use Rattle.fwd_reshape.specs.declared.rules.LiftRule.{LiftRule}

abbrev pub deep : Record → ℕ
deep body = entry_nestings (entries_of body)

deep-append : (xs ys : Record) → deep (xs ++ ys) ≡ max (deep xs) (deep ys)
deep-append [] ys = omega arith
deep-append (x ∷ xs) ys = omega (arith, deep-append xs ys)

nesting-moved_key : (remove add : List ℕ) (k : Val) → nesting (moved_key remove add k) ≡ nesting k
nesting-moved_key remove add nil = refl
nesting-moved_key remove add (truth b) = refl
nesting-moved_key remove add (whole n) = refl
nesting-moved_key remove add (text s) = refl
nesting-moved_key remove add (bin s) = refl
nesting-moved_key remove add (float32 n) = refl
nesting-moved_key remove add (float64 n) = refl
nesting-moved_key remove add (ext t s) = refl
nesting-moved_key remove add (list vs) = refl
nesting-moved_key remove add (mapping es) = refl

deep-moved : (remove add : List ℕ) (xs : Record) → deep (moved remove add xs) ≡ deep xs
deep-moved remove add [] = refl
deep-moved remove add (x ∷ xs) = omega (arith, nesting-moved_key remove add x.0, deep-moved remove add xs)

-- a matched pair may be nested one less deep
abbrev pub pair_fits : List (List ℕ) → Val × Val → Bool
pair_fits wildcards p = leb (nesting p.0) (cond (is_matched wildcards p.0) 61 62) && leb (nesting p.1) (cond (is_matched wildcards p.0) 61 62)

abbrev left : List (List ℕ) → Record → Record
left wildcards body = filter (λ p. not (is_matched wildcards p.0)) body

abbrev taken : List (List ℕ) → Record → Record
taken wildcards body = filter (λ p. is_matched wildcards p.0) body

fits_taken : (k v l t : ℕ) → ((leb k 61 && leb v 61) && leb (max l (suc t)) 62) ≡ leb (max l (suc (max k (max v t)))) 62
fits_taken k v l t = grind (arith, nat_tests)

fits_left : (k v l t : ℕ) → ((leb k 62 && leb v 62) && leb (max l (suc t)) 62) ≡ leb (max (max k (max v l)) (suc t)) 62
fits_left k v l t = grind (arith, nat_tests)

fits_more : (wildcards : List (List ℕ)) (p : Val × Val) (body : Record) (b : Bool) → is_matched wildcards p.0 ≡ b
    → list_all (pair_fits wildcards) body ≡ leb (max (deep (left wildcards body)) (suc (deep (taken wildcards body)))) 62
    → list_all (pair_fits wildcards) (p ∷ body) ≡ leb (max (deep (left wildcards (p ∷ body))) (suc (deep (taken wildcards (p ∷ body))))) 62
fits_more wildcards p body true e again = rw (e, again) (fits_taken (nesting p.0) (nesting p.1) (deep (left wildcards body)) (deep (taken wildcards body)))
fits_more wildcards p body false e again = rw (e, again) (fits_left (nesting p.0) (nesting p.1) (deep (left wildcards body)) (deep (taken wildcards body)))

all_fit : (wildcards : List (List ℕ)) (body : Record) → list_all (pair_fits wildcards) body ≡ leb (max (deep (left wildcards body)) (suc (deep (taken wildcards body)))) 62
all_fit wildcards [] = refl
all_fit wildcards (p ∷ body) = fits_more wildcards p body _ refl (all_fit wildcards body)

fits_map : (l t : ℕ) → leb (suc (max l (max 0 (max (suc t) 0)))) 63 ≡ leb (max l (suc t)) 62
fits_map l t = grind (arith, nat_tests)

pub fits-gathered : (rule : NestRule) (body : Record) → fits (gathered rule body) ≡ list_all (pair_fits rule.wildcards) body
fits-gathered rule body =
    let rest = left rule.wildcards body in
    let gone = taken rule.wildcards body in
    rw (deep-append rest _, deep-moved rule.remove_prefix rule.add_prefix gone, all_fit rule.wildcards body) (fits_map (deep rest) (deep gone))

pub pairs_of-entries_of : (xs : Record) → pairs_of (entries_of xs) ≡ xs
pairs_of-entries_of [] = refl
pairs_of-entries_of (x ∷ xs) = ap (λ (l : Record). x ∷ l) (pairs_of-entries_of xs)

fits_both : (l t : ℕ) → leb (suc (max l t)) 63 ≡ (leb l 62 && leb t 62)
fits_both l t = grind (arith, nat_tests)

pub fits-lifted_out : (rule : LiftRule) (es body : Record) → fits (lifted_out rule (entries_of es) body) ≡ (leb (deep (without_first (has_key rule.under) body)) 62 && leb (deep es) 62)
fits-lifted_out rule es body =
    rw (pairs_of-entries_of es, deep-append (without_first (has_key rule.under) body) _, deep-moved rule.remove_prefix rule.add_prefix es) (fits_both (deep (without_first (has_key rule.under) body)) (deep es))
