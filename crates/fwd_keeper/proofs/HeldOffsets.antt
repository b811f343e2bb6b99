-- What a keeper may hold after its calls was held before them, or was put.
use Rattle.std.proofs.Common.{◌≡◌, ◌⊎◌, inl, inr, ◌+◌, ◌<◌, ℕ, Bool, true, false, ◌&&◌, if◌then◌else◌, List, [], ◌∷◌, Option, Some, None, refl, sym, ◌∙◌, subst, ap, arith}
use Rattle.std.specs.Prelude.{Contains}
use Rattle.std.specs.Str.{bytes_eq}
use Rattle.std.proofs.lemmas.List.Elements.{Contains-append_left, Contains-append_right, Contains-append_cases, Contains-push, Contains-push_cases}
use Rattle.std.proofs.lemmas.Slice.Eq.{bytes_eq-Decides}
use Rattle.fwd_outside.specs.Program.{entry}
use Rattle.fwd_keeper.specs.Keeper.{KeeperCall, KeeperAnswer, KeeperEntry, KeeperGiven, Get, Put, FailAt, WasPut, found, is_of, may_hold, may_hold_after}

-- ---- members of lists

not_of_none : {X : Type 0} (x : X) → Contains [] x → ⊥
not_of_none x within = let less : within.0 < 0 = within.1 in omega (arith, less)

pub member_here : {X : Type 0} (x : X) (xs : List X) → Contains (x ∷ xs) x
member_here x xs = Contains-append_left (x ∷ []) xs x (Contains-push [] x)

pub member_behind : {X : Type 0} (x : X) (xs : List X) (y : X) → Contains xs y → Contains (x ∷ xs) y
member_behind x xs y within = Contains-append_right (x ∷ []) xs y within

member_cases : {X : Type 0} (x : X) (xs : List X) (y : X) → Contains (x ∷ xs) y → (x ≡ y) ⊎ Contains xs y
member_cases x xs y within = by (Contains-append_cases (x ∷ []) xs y within)
  where
    alone : Contains [] y ⊎ (x ≡ y) → (x ≡ y) ⊎ Contains xs y
    alone (inl none) = absurd (not_of_none y none)
    alone (inr same) = inl same

    by : Contains (x ∷ []) y ⊎ Contains xs y → (x ≡ y) ⊎ Contains xs y
    by (inl here) = alone (Contains-push_cases [] x y here)
    by (inr behind) = inr behind

-- ---- calls

pub both : (a b : Bool) → (a && b) ≡ true → (a ≡ true) × (b ≡ true)
both true b is = (refl, is)
both false b is = absurd (cc is)

-- the offset was held before a call, or the call put it
abbrev Origin : List (Option ℕ) → List KeeperEntry → List ℕ → List ℕ → ℕ → Type 0
Origin before es db path place = Contains before (Some place) ⊎ WasPut es db path place

put_now : (db path other_db other_path : List ℕ) (place put : ℕ) (answer : Option (Unit {0})) (es : List KeeperEntry) → is_of db path other_db other_path ≡ true → put ≡ place
    → WasPut (entry (Put other_db other_path put) answer ∷ es) db path place
put_now db path other_db other_path place put answer es of same =
    let parts = both (bytes_eq other_db db) (bytes_eq other_path path) of in
    let on_db : other_db ≡ db = (bytes_eq-Decides other_db db).0 parts.0 in
    let on_path : other_path ≡ path = (bytes_eq-Decides other_path path).0 parts.1 in
    let made = entry (Put other_db other_path put) answer in
    let is : made ≡ entry (Put db path place) answer = rw (on_db, on_path, same) refl in
    record { answer = answer; put = subst (λ (e : KeeperEntry). Contains (made ∷ es) e) is (member_here made es) }

some_same : {a b : ℕ} → ◌≡◌ {A = Option ℕ} (Some a) (Some b) → a ≡ b
some_same e = cc e

module _ (db path : List ℕ) (place : ℕ) (before : List (Option ℕ)) (es : List KeeperEntry) where
  put_done : (other_db other_path : List ℕ) (put : ℕ) (done : Unit {0}) (of : Bool) → is_of db path other_db other_path ≡ of → Contains (if of then Some put ∷ [] else before) (Some place)
      → Origin before (entry (Put other_db other_path put) (Some done) ∷ es) db path place
  put_done other_db other_path put done false of held = inl held
  put_done other_db other_path put done true of held = by (member_cases (Some put) [] (Some place) held)
    where
      by : (◌≡◌ {A = Option ℕ} (Some put) (Some place)) ⊎ Contains [] (Some place) → Origin before (entry (Put other_db other_path put) (Some done) ∷ es) db path place
      by (inl same) = inr (put_now db path other_db other_path place put (Some done) es of (some_same same))
      by (inr none) = absurd (not_of_none (Some place) none)

  put_failed : (other_db other_path : List ℕ) (put : ℕ) (of : Bool) → is_of db path other_db other_path ≡ of → Contains (if of then Some put ∷ before else before) (Some place)
      → Origin before (entry (Put other_db other_path put) None ∷ es) db path place
  put_failed other_db other_path put false of held = inl held
  put_failed other_db other_path put true of held = by (member_cases (Some put) before (Some place) held)
    where
      by : (◌≡◌ {A = Option ℕ} (Some put) (Some place)) ⊎ Contains before (Some place) → Origin before (entry (Put other_db other_path put) None ∷ es) db path place
      by (inl same) = inr (put_now db path other_db other_path place put None es of (some_same same))
      by (inr there) = inl there

  one_call : (call : KeeperCall) (answer : KeeperAnswer call) → Contains (may_hold_after call answer db path before) (Some place) → Origin before (entry call answer ∷ es) db path place
  one_call (Get other_db other_path) answer held = inl held
  one_call (Put other_db other_path put) (Some done) held = put_done other_db other_path put done (is_of db path other_db other_path) refl held
  one_call (Put other_db other_path put) None held = put_failed other_db other_path put (is_of db path other_db other_path) refl held
  one_call (FailAt number) answer held = inl held

held_before : (es : List KeeperEntry) (db path : List ℕ) (place : ℕ) (before : List (Option ℕ)) → Contains (may_hold es db path before) (Some place) → Origin before es db path place
held_before [] db path place before held = inl held
held_before (e ∷ es) db path place before held = by (held_before es db path place (may_hold_after e.call e.answer db path before) held)
  where
    by : Origin (may_hold_after e.call e.answer db path before) es db path place → Origin before (e ∷ es) db path place
    by (inl here) = one_call db path place before es e.call e.answer here
    by (inr put) = inr (record { answer = put.answer; put = member_behind e es (entry (Put db path place) put.answer) put.put })

pub held_from_first : (given : KeeperGiven) (es : List KeeperEntry) (db path : List ℕ) (place : ℕ) → Contains (may_hold es db path (found given db path ∷ [])) (Some place)
    → (found given db path ≡ Some place) ⊎ WasPut es db path place
held_from_first given es db path place held = by (held_before es db path place (found given db path ∷ []) held)
  where
    first : (found given db path ≡ Some place) ⊎ Contains [] (Some place) → (found given db path ≡ Some place) ⊎ WasPut es db path place
    first (inl same) = inl same
    first (inr none) = absurd (not_of_none (Some place) none)

    by : Origin (found given db path ∷ []) es db path place → (found given db path ≡ Some place) ⊎ WasPut es db path place
    by (inl here) = first (member_cases (found given db path) [] (Some place) here)
    by (inr put) = inr put
