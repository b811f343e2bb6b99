-- What `modify` does, as the Fluent Bit manual's page on Modify says: one function for each condition and
-- for each rule.
use Rattle.std.specs.Prelude.{ℕ, List, [], ◌∷◌, ◌++◌, Bool, false, ◌&&◌, not, if◌then◌else◌, filter, fold, nat_eq}
use Rattle.std.specs.List.{list_all, starts_with}
use Rattle.std.specs.Option.{option_map_or}
use Rattle.std.specs.Str.{bytes_eq}
use Rattle.fwd_value.specs.Val.{Val, text}
use Rattle.fwd_value.specs.Keys.{Record, is_text, has_key, key, has}
use Rattle.fwd_reshape.specs.declared.rules.Condition.{Condition}
use Rattle.fwd_reshape.specs.declared.rules.Condition.TheVariants.{KeyExists, KeyDoesNotExist, KeyValueEquals, KeyValueDoesNotEqual}
use Rattle.fwd_reshape.specs.declared.rules.Change.{Change}
use Rattle.fwd_reshape.specs.declared.rules.Change.TheVariants.{Set, Add, Remove, RemoveWildcard, Rename, HardRename, Copy, HardCopy}
use Rattle.fwd_reshape.specs.declared.rules.ModifyRules.{ModifyRules}

-- whether the value is a text that begins with this one
abbrev pub begins_with : List ℕ → Val → Bool
begins_with k (text s) = starts_with nat_eq s k
begins_with k _ = false

-- Key_value_equals: the first pair with the key has this text as its value
abbrev pub value_equals : Record → List ℕ → List ℕ → Bool
value_equals body k v = option_map_or (λ p. is_text v p.1) (key body k) false

-- Key_value_does_not_equal: the key is there, and the value of its first pair isn't this text
abbrev pub value_differs : Record → List ℕ → List ℕ → Bool
value_differs body k v = option_map_or (λ p. not (is_text v p.1)) (key body k) false

abbrev pub holds : Record → Condition → Bool
holds body (KeyExists k) = has body k
holds body (KeyDoesNotExist k) = not (has body k)
holds body (KeyValueEquals k v) = value_equals body k v
holds body (KeyValueDoesNotEqual k v) = value_differs body k v

-- the first pair that passes is changed, in its place
abbrev pub first_changed : (Val × Val → Bool) → (Val × Val → Val × Val) → Record → Record
first_changed test change [] = []
first_changed test change (p ∷ body) = if test p then change p ∷ body else p ∷ first_changed test change body

-- the first pair K is renamed to R
abbrev pub renamed_first : Record → List ℕ → List ℕ → Record
renamed_first body k r = first_changed (has_key k) (λ p. (text r, p.1)) body

-- Set K V: the first pair K gets V in its place; if K is missing, the pair is appended
abbrev pub set_to : Record → List ℕ → Val → Record
set_to body k v =
    if has body k then first_changed (has_key k) (λ p. (p.0, v)) body else body ++ (text k, v) ∷ []

-- Add K V: the pair is appended if K is missing
abbrev pub added : Record → List ℕ → Val → Record
added body k v = if has body k then body else body ++ (text k, v) ∷ []

-- Remove K: every pair K is removed
abbrev pub removed : Record → List ℕ → Record
removed body k = filter (λ p. not (has_key k p)) body

-- Remove_wildcard K: every pair whose text key begins with K is removed
abbrev pub removed_wildcard : Record → List ℕ → Record
removed_wildcard body k = filter (λ p. not (begins_with k p.0)) body

-- Rename K R: if K is there and R is missing, the first K is renamed to R in its place
abbrev pub renamed : Record → List ℕ → List ℕ → Record
renamed body k r = if has body k && not (has body r) then renamed_first body k r else body

-- Hard_rename K R: if K is there and isn't R, every pair R is removed, then the first K is renamed to R
abbrev pub hard_renamed : Record → List ℕ → List ℕ → Record
hard_renamed body k r = if has body k && not (bytes_eq k r) then renamed_first (removed body r) k r else body

-- Copy K R: if K is there and R is missing, the pair R with K's value is appended
abbrev pub copied : Record → List ℕ → List ℕ → Record
copied body k r = option_map_or (λ p. added body r p.1) (key body k) body

-- Hard_copy K R: if K is there and isn't R, R is set to K's value as by Set
abbrev pub hard_copied : Record → List ℕ → List ℕ → Record
hard_copied body k r = option_map_or (λ p. if bytes_eq k r then body else set_to body r p.1) (key body k) body

abbrev pub apply_change : Record → Change → Record
apply_change body (Set k v) = set_to body k (text v)
apply_change body (Add k v) = added body k (text v)
apply_change body (Remove k) = removed body k
apply_change body (RemoveWildcard k) = removed_wildcard body k
apply_change body (Rename k r) = renamed body k r
apply_change body (HardRename k r) = hard_renamed body k r
apply_change body (Copy k r) = copied body k r
apply_change body (HardCopy k r) = hard_copied body k r

-- the changes in order, if all conditions hold of the record
abbrev pub modified : ModifyRules → Record → Record
modified rules body =
    if list_all (holds body) rules.conditions then fold apply_change body rules.rules else body
