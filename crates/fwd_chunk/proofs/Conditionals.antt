-- The values of tests and conditionals.
use Rattle.std.proofs.Common.{◌≡◌, Bool, true, false, ◌&&◌, not, if◌then◌else◌, Option, Some, None, refl}

pub both : (a b : Bool) → (a && b) ≡ true → (a ≡ true) × (b ≡ true)
both true b h = (refl, h)
both false b h = absurd (cc h)

pub both_hold : (a b : Bool) → a ≡ true → b ≡ true → (a && b) ≡ true
both_hold true b x y = y
both_hold false b x y = x

pub not_true : (b : Bool) → not b ≡ true → b ≡ false
not_true false h = refl
not_true true h = absurd (cc h)

module _ {T : Type 0} where
  abbrev some : T → Option T
  some x = Some x

  -- a value comes if the test fails
  pub unless : (b : Bool) (o : Option T) (x : T) → (if b then None else o) ≡ Some x → (b ≡ false) × (o ≡ Some x)
  unless false o x h = (refl, h)
  unless true o x h = absurd (cc h)

  -- a value comes if the test passes
  pub where_so : (b : Bool) (o : Option T) (x : T) → (if b then o else None) ≡ Some x → (b ≡ true) × (o ≡ Some x)
  where_so true o x h = (refl, h)
  where_so false o x h = absurd (cc h)

  pub same_value : (x y : T) → some x ≡ some y → x ≡ y
  same_value x y h = cc h
