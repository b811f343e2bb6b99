-- The depth of a record after it is changed.
use Rattle.std.proofs.Common.{◌≡◌, ℕ, ◌≤◌, max, Bool, true, false, ◌&&◌, not, List, [], ◌∷◌, ◌++◌, fold, Option, Some, None, IfSome, refl, arith}
use Rattle.std.specs.Prelude.{if◌then◌else◌}
use Rattle.std.specs.Option.{option_map_or}
use Rattle.std.specs.List.{list_all, list_any}
use Rattle.std.specs.Str.{bytes_eq}
use Rattle.std.proofs.lemmas.Bool.Decides.{nat_tests}
use Rattle.fwd_value.specs.Val.{Val, nil, truth, whole, text, bin, float32, float64, ext, list, mapping}
use Rattle.fwd_value.specs.Limits.{nesting}
use Rattle.fwd_value.specs.Keys.{Record, has_key, key, has}
use Rattle.fwd_reshape.specs.Rules.{begins_with, holds, first_changed, renamed_first, set_to, added, removed, apply_change, modified}
use Rattle.fwd_reshape.specs.Moves.{is_matched, fits, gathered, nested, lifted_out, lifted_from, lifted}
use Rattle.fwd_reshape.specs.declared.rules.Change.{Change}
use Rattle.fwd_reshape.specs.declared.rules.Change.TheVariants.{Set, Add, Remove, RemoveWildcard, Rename, HardRename, Copy, HardCopy}
use Rattle.fwd_reshape.specs.declared.rules.ModifyRules.{ModifyRules}
use Rattle.fwd_reshape.specs.declared.rules.NestRule.{NestRule}
use Rattle.fwd_reshape.specs.declared.rules.LiftRule.{LiftRule}
use Rattle.fwd_theorem_depth.proofs.RecordDepth.{deep, deep-append, deep-filter, deep-key}

-- either of two records
either : (b : Bool) (xs ys : Record) (d : ℕ) → deep xs ≤ d → deep ys ≤ d → deep (if b then xs else ys) ≤ d
either true xs ys d x y = x
either false xs ys d x y = y

-- the first pair that passes gets a text as its key
first_called : (b : Bool) (r : List ℕ) (p : Val × Val) (xs ys : Record) → deep ys ≤ deep xs
    → deep (if b then (text r, p.1) ∷ xs else p ∷ ys) ≤ deep (p ∷ xs)
first_called true r p xs ys h = omega arith
first_called false r p xs ys h = omega (arith, h)

deep-renamed_first : (body : Record) (k r : List ℕ) → deep (renamed_first body k r) ≤ deep body
deep-renamed_first [] k r = omega arith
deep-renamed_first (p ∷ body) k r = first_called (has_key k p) r p body (renamed_first body k r) (deep-renamed_first body k r)

-- the first pair that passes gets another value
first_put : (b : Bool) (v : Val) (p : Val × Val) (xs ys : Record) → deep ys ≤ max (deep xs) (nesting v)
    → deep (if b then (p.0, v) ∷ xs else p ∷ ys) ≤ max (deep (p ∷ xs)) (nesting v)
first_put true v p xs ys h = omega arith
first_put false v p xs ys h = omega (arith, h)

deep-put : (body : Record) (k : List ℕ) (v : Val) → deep (first_changed (has_key k) (λ p. (p.0, v)) body) ≤ max (deep body) (nesting v)
deep-put [] k v = omega arith
deep-put (p ∷ body) k v = first_put (has_key k p) v p body (first_changed (has_key k) (λ q. (q.0, v)) body) (deep-put body k v)

deep-last : (body : Record) (k : List ℕ) (v : Val) → deep (body ++ (text k, v) ∷ []) ≤ max (deep body) (nesting v)
deep-last body k v = omega (arith, deep-append body ((text k, v) ∷ []))

deep-set_to : (body : Record) (k : List ℕ) (v : Val) → deep (set_to body k v) ≤ max (deep body) (nesting v)
deep-set_to body k v = either (has body k) (first_changed (has_key k) (λ p. (p.0, v)) body) (body ++ (text k, v) ∷ []) (max (deep body) (nesting v)) (deep-put body k v) (deep-last body k v)

deep-added : (body : Record) (k : List ℕ) (v : Val) → deep (added body k v) ≤ max (deep body) (nesting v)
deep-added body k v = either (has body k) body (body ++ (text k, v) ∷ []) (max (deep body) (nesting v)) (omega arith) (deep-last body k v)

deep-removed : (body : Record) (k : List ℕ) → deep (removed body k) ≤ deep body
deep-removed body k = deep-filter (λ p. not (has_key k p)) body

copied_by : (body : Record) (r : List ℕ) (o : Option (Val × Val)) → IfSome o (λ p. nesting p.1 ≤ deep body) → deep (option_map_or (λ p. added body r p.1) o body) ≤ deep body
copied_by body r None h = omega arith
copied_by body r (Some p) h = omega (arith, h, deep-added body r p.1)

hard_copied_by : (body : Record) (k r : List ℕ) (o : Option (Val × Val)) → IfSome o (λ p. nesting p.1 ≤ deep body)
    → deep (option_map_or (λ p. if bytes_eq k r then body else set_to body r p.1) o body) ≤ deep body
hard_copied_by body k r None h = omega arith
hard_copied_by body k r (Some p) h =
    let set : deep (set_to body r p.1) ≤ deep body = omega (arith, h, deep-set_to body r p.1) in
    either (bytes_eq k r) body (set_to body r p.1) (deep body) (omega arith) set

pub deep-apply_change : (body : Record) (c : Change) → deep (apply_change body c) ≤ deep body
deep-apply_change body (Set k v) = omega (arith, deep-set_to body k (text v))
deep-apply_change body (Add k v) = omega (arith, deep-added body k (text v))
deep-apply_change body (Remove k) = deep-removed body k
deep-apply_change body (RemoveWildcard k) = deep-filter (λ p. not (begins_with k p.0)) body
deep-apply_change body (Rename k r) = either (has body k && not (has body r)) (renamed_first body k r) body (deep body) (deep-renamed_first body k r) (omega arith)
deep-apply_change body (HardRename k r) =
    let less : deep (renamed_first (removed body r) k r) ≤ deep body = omega (arith, deep-renamed_first (removed body r) k r, deep-removed body r) in
    either (has body k && not (bytes_eq k r)) (renamed_first (removed body r) k r) body (deep body) less (omega arith)
deep-apply_change body (Copy k r) = copied_by body r (key body k) (deep-key body k)
deep-apply_change body (HardCopy k r) = hard_copied_by body k r (key body k) (deep-key body k)

deep-changes : (body : Record) (changes : List Change) → deep (fold apply_change body changes) ≤ deep body
deep-changes body [] = omega arith
deep-changes body (c ∷ changes) = omega (arith, deep-changes (apply_change body c) changes, deep-apply_change body c)

pub deep-modified : (rules : ModifyRules) (body : Record) → deep (modified rules body) ≤ deep body
deep-modified rules body = either (list_all (holds body) rules.conditions) (fold apply_change body rules.rules) body (deep body) (deep-changes body rules.rules) (omega arith)

-- a record that fits is nested at most 63 deep, and so its pairs 62
fitting : (body : Record) → fits body ≡ true → deep body ≤ 62
fitting body is = grind (arith, nat_tests)

-- either of two records, the first if it fits
either_fits : (b : Bool) (xs ys : Record) → (b ≡ true → fits xs ≡ true) → deep ys ≤ 62 → deep (if b then xs else ys) ≤ 62
either_fits true xs ys x y = fitting xs (x refl)
either_fits false xs ys x y = y

second : (s t : Bool) → (s && t) ≡ true → t ≡ true
second true t is = is
second false t is = absurd cc

pub deep-nested : (rule : NestRule) (body : Record) → deep body ≤ 62 → deep (nested rule body) ≤ 62
deep-nested rule body h =
    let some = list_any (λ p. is_matched rule.wildcards p.0) body in
    either_fits (some && fits (gathered rule body)) (gathered rule body) body (second some (fits (gathered rule body))) h

deep-lifted_from : (rule : LiftRule) (body : Record) (v : Val) → deep body ≤ 62 → deep (lifted_from rule body v) ≤ 62
deep-lifted_from rule body (mapping es) h = either_fits (fits (lifted_out rule es body)) (lifted_out rule es body) body (λ is. is) h
deep-lifted_from rule body nil h = h
deep-lifted_from rule body (truth b) h = h
deep-lifted_from rule body (whole n) h = h
deep-lifted_from rule body (text s) h = h
deep-lifted_from rule body (bin s) h = h
deep-lifted_from rule body (float32 n) h = h
deep-lifted_from rule body (float64 n) h = h
deep-lifted_from rule body (ext t s) h = h
deep-lifted_from rule body (list vs) h = h

lifted_by : (rule : LiftRule) (body : Record) (o : Option (Val × Val)) → deep body ≤ 62 → deep (option_map_or (λ p. lifted_from rule body p.1) o body) ≤ 62
lifted_by rule body None h = h
lifted_by rule body (Some p) h = deep-lifted_from rule body p.1 h

pub deep-lifted : (rule : LiftRule) (body : Record) → deep body ≤ 62 → deep (lifted rule body) ≤ 62
deep-lifted rule body h = lifted_by rule body (key body rule.under) h
