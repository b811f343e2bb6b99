-- The numbers of a record after it is changed are those that it had.
use Rattle.std.proofs.Common.{ℕ, Bool, true, false, ◌&&◌, not, List, [], ◌∷◌, ◌++◌, fold, filter, Option, Some, None, IfSome}
use Rattle.std.specs.Prelude.{if◌then◌else◌}
use Rattle.std.specs.Option.{option_map_or}
use Rattle.std.specs.List.{list_all, list_any}
use Rattle.std.specs.Str.{bytes_eq}
use Rattle.fwd_value.specs.Val.{Val, text, mapping, Entries, no_entries, entry, entries_of}
use Rattle.fwd_value.specs.Limits.{IsInRange, EntriesAreInRange}
use Rattle.fwd_value.specs.Keys.{Record, has_key, key, has}
use Rattle.fwd_reshape.specs.Rules.{begins_with, holds, first_changed, renamed_first, set_to, added, removed, apply_change, modified}
use Rattle.fwd_reshape.specs.Moves.{is_matched, moved_key, moved, fits, gathered, nested, pairs_of, without_first, lifted_out, lifted_from, lifted}
use Rattle.fwd_reshape.specs.declared.rules.Change.{Change}
use Rattle.fwd_reshape.specs.declared.rules.Change.TheVariants.{Set, Add, Remove, RemoveWildcard, Rename, HardRename, Copy, HardCopy}
use Rattle.fwd_reshape.specs.declared.rules.ModifyRules.{ModifyRules}
use Rattle.fwd_reshape.specs.declared.rules.NestRule.{NestRule}
use Rattle.fwd_reshape.specs.declared.rules.LiftRule.{LiftRule}
use Rattle.fwd_theorem_depth.proofs.RecordRanges.{IsRanged, PairIsRanged, ranged-append, ranged-filter, ranged-key}

-- either of two records
either : (b : Bool) (xs ys : Record) → IsRanged xs → IsRanged ys → IsRanged (if b then xs else ys)
either true xs ys x y = x
either false xs ys x y = y

-- ---- modify

first : (test : Val × Val → Bool) (change : Val × Val → Val × Val) (body : Record) → ((p : Val × Val) → PairIsRanged p → PairIsRanged (change p)) → IsRanged body → IsRanged (first_changed test change body)
first test change [] keeps r = tt
first test change (p ∷ body) keeps r =
    let now = keeps p (r.0, r.1) in
    either (test p) (change p ∷ body) (p ∷ first_changed test change body) (now.0, now.1, r.2) (r.0, r.1, first test change body keeps r.2)

renamed : (body : Record) (k new : List ℕ) → IsRanged body → IsRanged (renamed_first body k new)
renamed body k new r = first (has_key k) (λ p. (text new, p.1)) body (λ p is. (tt, is.1)) r

with_last : (body : Record) (k : List ℕ) (v : Val) → IsInRange v → IsRanged body → IsRanged (body ++ (text k, v) ∷ [])
with_last body k v h r = ranged-append body ((text k, v) ∷ []) r (tt, h, tt)

set : (body : Record) (k : List ℕ) (v : Val) → IsInRange v → IsRanged body → IsRanged (set_to body k v)
set body k v h r =
    either (has body k) (first_changed (has_key k) (λ p. (p.0, v)) body) (body ++ (text k, v) ∷ []) (first (has_key k) (λ p. (p.0, v)) body (λ p is. (is.0, h)) r) (with_last body k v h r)

add : (body : Record) (k : List ℕ) (v : Val) → IsInRange v → IsRanged body → IsRanged (added body k v)
add body k v h r = either (has body k) body (body ++ (text k, v) ∷ []) r (with_last body k v h r)

less : (body : Record) (k : List ℕ) → IsRanged body → IsRanged (removed body k)
less body k r = ranged-filter (λ p. not (has_key k p)) body r

copied_by : (body : Record) (to : List ℕ) (o : Option (Val × Val)) → IfSome o (λ p. IsInRange p.1) → IsRanged body → IsRanged (option_map_or (λ p. added body to p.1) o body)
copied_by body to None h r = r
copied_by body to (Some p) h r = add body to p.1 h r

hard_copied_by : (body : Record) (k to : List ℕ) (o : Option (Val × Val)) → IfSome o (λ p. IsInRange p.1) → IsRanged body
    → IsRanged (option_map_or (λ p. if bytes_eq k to then body else set_to body to p.1) o body)
hard_copied_by body k to None h r = r
hard_copied_by body k to (Some p) h r = either (bytes_eq k to) body (set_to body to p.1) r (set body to p.1 h r)

ranged-apply_change : (body : Record) (c : Change) → IsRanged body → IsRanged (apply_change body c)
ranged-apply_change body (Set k v) r = set body k (text v) tt r
ranged-apply_change body (Add k v) r = add body k (text v) tt r
ranged-apply_change body (Remove k) r = less body k r
ranged-apply_change body (RemoveWildcard k) r = ranged-filter (λ p. not (begins_with k p.0)) body r
ranged-apply_change body (Rename k new) r = either (has body k && not (has body new)) (renamed_first body k new) body (renamed body k new r) r
ranged-apply_change body (HardRename k new) r =
    either (has body k && not (bytes_eq k new)) (renamed_first (removed body new) k new) body (renamed (removed body new) k new (less body new r)) r
ranged-apply_change body (Copy k to) r = copied_by body to (key body k) (ranged-key body k r) r
ranged-apply_change body (HardCopy k to) r = hard_copied_by body k to (key body k) (ranged-key body k r) r

ranged-changes : (body : Record) (changes : List Change) → IsRanged body → IsRanged (fold apply_change body changes)
ranged-changes body [] r = r
ranged-changes body (c ∷ changes) r = ranged-changes (apply_change body c) changes (ranged-apply_change body c r)

pub ranged-modified : (rules : ModifyRules) (body : Record) → IsRanged body → IsRanged (modified rules body)
ranged-modified rules body r = either (list_all (holds body) rules.conditions) (fold apply_change body rules.rules) body (ranged-changes body rules.rules r) r

-- ---- nest and lift

key_moved : (remove add : List ℕ) (k : Val) → IsInRange k → IsInRange (moved_key remove add k)
key_moved remove add (text s) h = tt
key_moved remove add k h = h

ranged-moved : (remove add : List ℕ) (body : Record) → IsRanged body → IsRanged (moved remove add body)
ranged-moved remove add [] r = tt
ranged-moved remove add (p ∷ body) r = (key_moved remove add p.0 r.0, r.1, ranged-moved remove add body r.2)

ranged-gathered : (rule : NestRule) (body : Record) → IsRanged body → IsRanged (gathered rule body)
ranged-gathered rule body r =
    let taken = filter (λ p. is_matched rule.wildcards p.0) body in
    let there = ranged-moved rule.remove_prefix rule.add_prefix taken (ranged-filter (λ p. is_matched rule.wildcards p.0) body r) in
    with_last (filter (λ p. not (is_matched rule.wildcards p.0)) body) rule.under (mapping (entries_of (moved rule.remove_prefix rule.add_prefix taken))) there
    (ranged-filter (λ p. not (is_matched rule.wildcards p.0)) body r)

pub ranged-nested : (rule : NestRule) (body : Record) → IsRanged body → IsRanged (nested rule body)
ranged-nested rule body r = either (list_any (λ p. is_matched rule.wildcards p.0) body && fits (gathered rule body)) (gathered rule body) body (ranged-gathered rule body r) r

pairs_ranged : (es : Entries) → EntriesAreInRange es → IsRanged (pairs_of es)
pairs_ranged no_entries r = tt
pairs_ranged (entry k v es) r = (r.0, r.1, pairs_ranged es r.2)

ranged-without_first : (test : Val × Val → Bool) (body : Record) → IsRanged body → IsRanged (without_first test body)
ranged-without_first test [] r = tt
ranged-without_first test (p ∷ body) r = either (test p) body (p ∷ without_first test body) r.2 (r.0, r.1, ranged-without_first test body r.2)

ranged-lifted_out : (rule : LiftRule) (es : Entries) (body : Record) → EntriesAreInRange es → IsRanged body → IsRanged (lifted_out rule es body)
ranged-lifted_out rule es body h r =
    ranged-append (without_first (has_key rule.under) body) (moved rule.remove_prefix rule.add_prefix (pairs_of es)) (ranged-without_first (has_key rule.under) body r)
    (ranged-moved rule.remove_prefix rule.add_prefix (pairs_of es) (pairs_ranged es h))

ranged-lifted_from : (rule : LiftRule) (body : Record) (v : Val) → IsInRange v → IsRanged body → IsRanged (lifted_from rule body v)
ranged-lifted_from rule body (mapping es) h r = either (fits (lifted_out rule es body)) (lifted_out rule es body) body (ranged-lifted_out rule es body h r) r
ranged-lifted_from rule body v h r = r

lifted_by : (rule : LiftRule) (body : Record) (o : Option (Val × Val)) → IfSome o (λ p. IsInRange p.1) → IsRanged body → IsRanged (option_map_or (λ p. lifted_from rule body p.1) o body)
lifted_by rule body None h r = r
lifted_by rule body (Some p) h r = ranged-lifted_from rule body p.1 h r

pub ranged-lifted : (rule : LiftRule) (body : Record) → IsRanged body → IsRanged (lifted rule body)
ranged-lifted rule body r = lifted_by rule body (key body rule.under) (ranged-key body rule.under r) r
