-- Records whose numbers are in range, their parts, and lists of such events.
use Rattle.std.proofs.Common.{ℕ, zero, suc, cond, Bool, true, false, List, [], ◌∷◌, ◌++◌, filter, take, drop, remove, Option, Some, IfSome}
use Rattle.std.specs.Prelude.{All}
use Rattle.std.proofs.lemmas.List.Elements.{All-nil, All-cons, All-head, All-tail}
use Rattle.fwd_value.specs.Val.{Val, entries_of}
use Rattle.fwd_value.specs.Limits.{IsInRange, EntriesAreInRange}
use Rattle.fwd_value.specs.Keys.{Record, has_key, key}
use Rattle.fwd_event.specs.declared.event.Event.{Event}
use Rattle.fwd_theorem_depth.specs.Ranges.{NumbersFit}

-- all numbers in the record are in range
abbrev pub IsRanged : Record → Type 0
IsRanged body = EntriesAreInRange (entries_of body)

abbrev pub PairIsRanged : Val × Val → Type 0
PairIsRanged p = IsInRange p.0 × IsInRange p.1

abbrev pub AllRanged : List Event → Type 0
AllRanged [] = Unit {0}
AllRanged (e ∷ es) = NumbersFit e × AllRanged es

pub all_fit : (es : List Event) → AllRanged es → All NumbersFit es
all_fit [] r = All-nil NumbersFit
all_fit (e ∷ es) r = All-cons NumbersFit e es r.0 (all_fit es r.1)

pub all_ranged : (es : List Event) → All NumbersFit es → AllRanged es
all_ranged [] fit = tt
all_ranged (e ∷ es) fit = (All-head NumbersFit e es fit, all_ranged es (All-tail NumbersFit e es fit))

-- ---- parts of records

pub ranged-append : (xs ys : Record) → IsRanged xs → IsRanged ys → IsRanged (xs ++ ys)
ranged-append [] ys a b = b
ranged-append (x ∷ xs) ys a b = (a.0, a.1, ranged-append xs ys a.2 b)

kept : (b : Bool) (x : Val × Val) (ys : Record) → PairIsRanged x → IsRanged ys → IsRanged (cond b (x ∷ ys) ys)
kept true x ys p r = (p.0, p.1, r)
kept false x ys p r = r

pub ranged-filter : (test : Val × Val → Bool) (body : Record) → IsRanged body → IsRanged (filter test body)
ranged-filter test [] r = tt
ranged-filter test (x ∷ xs) r = kept (test x) x (filter test xs) (r.0, r.1) (ranged-filter test xs r.2)

ranged-take : (i : ℕ) (body : Record) → IsRanged body → IsRanged (take i body)
ranged-take zero [] r = tt
ranged-take (suc i) [] r = tt
ranged-take zero (x ∷ xs) r = tt
ranged-take (suc i) (x ∷ xs) r = (r.0, r.1, ranged-take i xs r.2)

ranged-drop : (i : ℕ) (body : Record) → IsRanged body → IsRanged (drop i body)
ranged-drop zero [] r = tt
ranged-drop (suc i) [] r = tt
ranged-drop zero (x ∷ xs) r = r
ranged-drop (suc i) (x ∷ xs) r = ranged-drop i xs r.2

pub ranged-remove : (body : Record) (i : ℕ) → IsRanged body → IsRanged (remove body i)
ranged-remove body i r = ranged-append (take i body) (drop (suc i) body) (ranged-take i body r) (ranged-drop (suc i) body r)

found : (b : Bool) (x : Val × Val) (o : Option (Val × Val)) → IsInRange x.1 → IfSome o (λ p. IsInRange p.1) → IfSome (cond b (Some x) o) (λ p. IsInRange p.1)
found true x o r h = r
found false x o r h = h

-- the value of a key is in range
pub ranged-key : (body : Record) (k : List ℕ) → IsRanged body → IfSome (key body k) (λ p. IsInRange p.1)
ranged-key [] k r = tt
ranged-key (x ∷ xs) k r = found (has_key k x) x (key xs k) r.1 (ranged-key xs k r.2)
