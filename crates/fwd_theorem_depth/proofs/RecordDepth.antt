-- The depth of the pairs of a record.
use Rattle.std.proofs.Common.{◌≡◌, ℕ, zero, suc, ◌≤◌, max, cond, Bool, true, false, List, [], ◌∷◌, ◌++◌, filter, take, drop, remove, Option, Some, None, IfSome, arith}
use Rattle.fwd_value.specs.Val.{Val, entries_of}
use Rattle.fwd_value.specs.Limits.{nesting, entry_nestings}
use Rattle.fwd_value.specs.Keys.{Record, has_key, key}

abbrev pub deep : Record → ℕ
deep body = entry_nestings (entries_of body)

abbrev pub pair_deep : Val × Val → ℕ
pair_deep p = max (nesting p.0) (nesting p.1)

pub deep-append : (xs ys : Record) → deep (xs ++ ys) ≡ max (deep xs) (deep ys)
deep-append [] ys = omega arith
deep-append (x ∷ xs) ys = omega (arith, deep-append xs ys)

kept : (b : Bool) (x : Val × Val) (ys xs : Record) → deep ys ≤ deep xs → deep (cond b (x ∷ ys) ys) ≤ deep (x ∷ xs)
kept true x ys xs h = omega (arith, h)
kept false x ys xs h = omega (arith, h)

pub deep-filter : (test : Val × Val → Bool) (body : Record) → deep (filter test body) ≤ deep body
deep-filter test [] = omega arith
deep-filter test (x ∷ xs) = kept (test x) x (filter test xs) xs (deep-filter test xs)

pub deep-take : (i : ℕ) (body : Record) → deep (take i body) ≤ deep body
deep-take zero [] = omega arith
deep-take (suc i) [] = omega arith
deep-take zero (x ∷ xs) = omega arith
deep-take (suc i) (x ∷ xs) = omega (arith, deep-take i xs)

pub deep-drop : (i : ℕ) (body : Record) → deep (drop i body) ≤ deep body
deep-drop zero [] = omega arith
deep-drop (suc i) [] = omega arith
deep-drop zero (x ∷ xs) = omega arith
deep-drop (suc i) (x ∷ xs) = omega (arith, deep-drop i xs)

pub deep-remove : (body : Record) (i : ℕ) → deep (remove body i) ≤ deep body
deep-remove body i = omega (arith, deep-append (take i body) (drop (suc i) body), deep-take i body, deep-drop (suc i) body)

found : (b : Bool) (x : Val × Val) (o : Option (Val × Val)) (d : ℕ) → IfSome o (λ p. nesting p.1 ≤ d)
    → IfSome (cond b (Some x) o) (λ p. nesting p.1 ≤ max (nesting x.0) (max (nesting x.1) d))
found true x o d h = omega arith
found false x None d h = tt
found false x (Some p) d h = omega (arith, h)

-- the value of a key is nested no deeper than the record
pub deep-key : (body : Record) (k : List ℕ) → IfSome (key body k) (λ p. nesting p.1 ≤ deep body)
deep-key [] k = tt
deep-key (x ∷ xs) k = found (has_key k x) x (key xs k) (deep xs) (deep-key xs k)
