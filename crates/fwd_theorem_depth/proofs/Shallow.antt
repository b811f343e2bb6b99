-- What the tests on events mean.
use Rattle.std.proofs.Common.{◌≡◌, ◌≤◌, Bool, true, false, ◌&&◌, List, [], ◌∷◌, refl, arith}
use Rattle.std.proofs.lemmas.Bool.Decides.{nat_tests}
use Rattle.fwd_value.specs.Val.{mapping, entries_of}
use Rattle.fwd_value.specs.Limits.{nesting}
use Rattle.fwd_event.specs.declared.event.Event.{Event}
use Rattle.fwd_theorem_depth.specs.Shallow.{is_shallow, are_shallow}

pub record Shallow (e : Event) : Type 0 where
  pub meta : nesting (mapping (entries_of e.meta)) ≤ 62
  pub body : nesting (mapping (entries_of e.body)) ≤ 63

abbrev pub AllShallow : List Event → Type 0
AllShallow [] = Unit {0}
AllShallow (e ∷ es) = Shallow e × AllShallow es

pub passes : (e : Event) → Shallow e → is_shallow e ≡ true
passes e s = grind (arith, nat_tests, s.meta, s.body)

pub tells : (e : Event) → is_shallow e ≡ true → Shallow e
tells e is = record { meta = grind (arith, nat_tests); body = grind (arith, nat_tests) }

pub both : (s t : Bool) → s ≡ true → t ≡ true → (s && t) ≡ true
both true true a b = refl
both true false a b = b
both false t a b = a

pub parts : (s t : Bool) → (s && t) ≡ true → (s ≡ true) × (t ≡ true)
parts true true is = (refl, refl)
parts true false is = absurd cc
parts false t is = absurd cc

pub all_pass : (es : List Event) → AllShallow es → are_shallow es ≡ true
all_pass [] s = refl
all_pass (e ∷ es) s = both (is_shallow e) (are_shallow es) (passes e s.0) (all_pass es s.1)

pub all_tell : (es : List Event) → are_shallow es ≡ true → AllShallow es
all_tell [] is = tt
all_tell (e ∷ es) is =
    let p = parts (is_shallow e) (are_shallow es) is in
    (tells e p.0, all_tell es p.1)
