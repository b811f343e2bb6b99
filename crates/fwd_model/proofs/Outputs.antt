-- The ids of outputs are different short texts, and each output that a tag matches has its own.
use Rattle.std.proofs.Common.{◌≡◌, ◌≢◌, ℕ, ◌+◌, ◌*◌, inl, inr, ◌<◌, ◌≤◌, ◌^◌, Bool, true, false, cond, if◌then◌else◌, List, [], ◌∷◌, ◌++◌, append_assoc, length, map, get_or, Option, refl, sym, ap, ◌∙◌, subst, arith}
use Rattle.std.specs.Prelude.{slice_get, filter, All, AllPairs, Contains, nat_lt, zero, suc}
use Rattle.std.specs.Option.{option_map_or}
use Rattle.std.proofs.lemmas.Bool.{cases_Bool, cases_lt, ltb-true, ltb-false}
use Rattle.std.proofs.lemmas.List.{length-append, length-map}
use Rattle.std.proofs.lemmas.List.Elements.{All-nil, All-cons, All-map, All-filter, All-weaker, All-contains}
use Rattle.std.proofs.lemmas.Option.{slice_get-get_or}
use Rattle.std.proofs.lemmas.List.Kept.{AllPairs-cons, AllPairs-filter}
use Rattle.std.proofs.lemmas.List.Sums.{count_by-le-length, length-filter}
use Rattle.fwd_route.specs.GlobTest.{globs, matching_from}
use Rattle.fwd_chunk.specs.Layout.{AreOutputs}
use Rattle.fwd_model.specs.Settings.{outputs_for, output_name as name_of_output, names_for}
use Rattle.fwd_settings.specs.declared.settings_types.AllSettings.{AllSettings}
use Rattle.fwd_settings.specs.declared.settings_types.OutputSet.{OutputSet}
use Rattle.fwd_settings.specs.Requirements.{IsIdText, MeetsRequirements}

-- ---- the names of the outputs that match a tag

-- the name of an output by its number
abbrev name_in : List OutputSet → ℕ → List ℕ
name_in outputs n = option_map_or (λ (o : OutputSet). o.id) (slice_get outputs n) []

abbrev matches : List ℕ → OutputSet → Bool
matches tag o = globs o.glob tag

named_behind : (before more : List OutputSet) (tag : List ℕ)
    → map (name_in (before ++ more)) (matching_from (length before) (map (λ (o : OutputSet). o.glob) more) tag) ≡ map (λ (o : OutputSet). o.id) (filter (matches tag) more)
named_behind before [] tag = refl
named_behind before (o ∷ more) tag =
    let next : length (before ++ o ∷ []) ≡ length before + 1 = length-append before (o ∷ []) in
    let rest = named_behind (before ++ o ∷ []) more tag in
    let moved : (before ++ o ∷ []) ++ more ≡ before ++ o ∷ more = append_assoc before (o ∷ []) more in
    let later : map (name_in (before ++ o ∷ more)) (matching_from (length before + 1) (map (λ (o : OutputSet). o.glob) more) tag) ≡ map (λ (o : OutputSet). o.id) (filter (matches tag) more) =
    ap (λ (l : List OutputSet). map (name_in l) (matching_from (length before + 1) (map (λ (o : OutputSet). o.glob) more) tag)) (sym moved)
    ∙ ap (λ (n : ℕ). map (name_in ((before ++ o ∷ []) ++ more)) (matching_from n (map (λ (o : OutputSet). o.glob) more) tag)) (sym next)
    ∙ rest in
    elim (cases_Bool (globs o.glob tag)) [
      | inl is ↦ rw (is, named_here before o more) (ap (λ (l : List (List ℕ)). o.id ∷ l) later)
      | inr isnt ↦ rw isnt later
    ]
  where
    named_here : (before : List OutputSet) (o : OutputSet) (more : List OutputSet) → name_in (before ++ o ∷ more) (length before) ≡ o.id
    named_here [] o more = refl
    named_here (x ∷ before) o more = named_here before o more

pairs_named : (os : List OutputSet) → AllPairs (λ (one other : OutputSet). one.id ≢ other.id) os → AllPairs (λ (one other : List ℕ). one ≢ other) (map (λ (o : OutputSet). o.id) os)
pairs_named [] all = λ i j d less within. absurd (omega (arith, within))
pairs_named (o ∷ os) all =
    AllPairs-cons (λ (one other : List ℕ). one ≢ other) o.id (map (λ (o : OutputSet). o.id) os)
    (All-map (λ (other : List ℕ). o.id ≢ other) (λ (o : OutputSet). o.id) os (λ k d within. all 0 (suc k) d (omega arith) (omega (arith, within))))
    (pairs_named os (λ i j d less within. all (suc i) (suc j) d (omega (arith, less)) (omega (arith, within))))

pub names_are : (s : AllSettings) → MeetsRequirements s → (tag : List ℕ) → AreOutputs (names_for s tag)
names_are s sound tag =
    let few : length s.outputs ≤ 64 = sound.few_outputs in
    let picked = filter (matches tag) s.outputs in
    let is : names_for s tag ≡ map (λ (o : OutputSet). o.id) picked = named_behind [] s.outputs tag in
    rw is (record {
      few = omega (arith, length-map picked (λ (o : OutputSet). o.id), length-filter (matches tag) s.outputs, count_by-le-length (matches tag) s.outputs, few);
      each = All-map IsIdText (λ (o : OutputSet). o.id) picked (All-filter (matches tag) (λ (o : OutputSet). IsIdText o.id) s.outputs sound.ids);
      differ = pairs_named picked (AllPairs-filter (λ (one other : OutputSet). one.id ≢ other.id) (matches tag) s.outputs sound.ids_differ);
    })

-- ---- no two have the same name

-- the numbers of the matching globs, from n on
takers_within : (n : ℕ) (all : List (List ℕ)) (tag : List ℕ) → All (λ (k : ℕ). (n ≤ k) × (k < n + length all)) (matching_from n all tag)
takers_within n [] tag = All-nil (λ (k : ℕ). (n ≤ k) × (k < n + 0))
takers_within n (glob ∷ more) tag = by (globs glob tag) (All-weaker Behind Here (λ k is. (omega (arith, is.0), omega (arith, is.1))) (matching_from (n + 1) more tag) (takers_within (n + 1) more tag))
  where
    Behind : ℕ → Type 0
    Behind k = (n + 1 ≤ k) × (k < n + 1 + length more)

    Here : ℕ → Type 0
    Here k = (n ≤ k) × (k < n + length (glob ∷ more))

    by : (b : Bool) → All Here (matching_from (n + 1) more tag) → All Here (if b then n ∷ matching_from (n + 1) more tag else matching_from (n + 1) more tag)
    by true rest = All-cons Here n (matching_from (n + 1) more tag) (omega arith, omega arith) rest
    by false rest = rest

name_at : (outputs : List OutputSet) (n : ℕ) (d : OutputSet) → n < length outputs → name_in outputs n ≡ (get_or outputs n d).id
name_at outputs n d less = ap (λ (x : Option OutputSet). option_map_or (λ (o : OutputSet). o.id) x []) (slice_get-get_or outputs n d less)

some_output : (outputs : List OutputSet) (n : ℕ) → n < length outputs → OutputSet
some_output [] n less = absurd (omega (arith, less))
some_output (o ∷ outputs) n less = o

told_apart : (outputs : List OutputSet) (one other : ℕ) (d : OutputSet) → AllPairs (λ (a b : OutputSet). a.id ≢ b.id) outputs → one < length outputs → other < length outputs
    → name_in outputs one ≡ name_in outputs other → one ≡ other
told_apart outputs one other d differ in_one in_other same =
    let names : (get_or outputs one d).id ≡ (get_or outputs other d).id = sym (name_at outputs one d in_one) ∙ same ∙ name_at outputs other d in_other in
    elim (cases_lt one other) [
      | inl less ↦ absurd (differ one other d less in_other names)
      | inr above ↦ elim (cases_lt other one) [
        | inl less ↦ absurd (differ other one d less in_one (sym names))
        | inr below ↦ omega (arith, above, below)
      ]
    ]

output_within : (s : AllSettings) (tag : List ℕ) (output : ℕ) → Contains (outputs_for s tag) output → output < length s.outputs
output_within s tag output has =
    let all = map (λ (o : OutputSet). o.glob) s.outputs in
    let within = All-contains (λ (k : ℕ). (0 ≤ k) × (k < 0 + length all)) (outputs_for s tag) output (takers_within 0 all tag) has in
    omega (arith, within.1, length-map s.outputs (λ (o : OutputSet). o.glob))

-- the name of an output determines it
pub same_output : (s : AllSettings) → MeetsRequirements s → (tag : List ℕ) (one other : ℕ) → Contains (outputs_for s tag) one → Contains (outputs_for s tag) other → name_of_output s one ≡ name_of_output s other → one ≡ other
same_output s sound tag one other has_one has_other same =
    let few : length s.outputs ≤ 64 = sound.few_outputs in
    let in_one = output_within s tag one has_one in
    told_apart s.outputs one other (some_output s.outputs one in_one) sound.ids_differ in_one (output_within s tag other has_other) same

-- an output that doesn't exist has no name
no_name : (outputs : List OutputSet) (n : ℕ) → length outputs ≤ n → name_in outputs n ≡ []
no_name [] n le = refl
no_name (o ∷ outputs) zero le = absurd (omega (arith, le))
no_name (o ∷ outputs) (suc n) le = no_name outputs n (omega (arith, le))

-- the name of an output determines it among all numbers
pub apart_output : (s : AllSettings) → MeetsRequirements s → (tag : List ℕ) (one other : ℕ) → Contains (outputs_for s tag) one → name_of_output s one ≡ name_of_output s other → one ≡ other
apart_output s sound tag one other has same = elim (cases_Bool (nat_lt other (length s.outputs))) [
  | inl is ↦ same_output (ltb-true other (length s.outputs) is)
  | inr isnt ↦ absurd (none (ltb-false other (length s.outputs) isnt))
]
  where
    few : length s.outputs ≤ 64
    few = sound.few_outputs

    in_one : one < length s.outputs
    in_one = output_within s tag one has

    same_output : other < length s.outputs → one ≡ other
    same_output in_other = told_apart s.outputs one other (some_output s.outputs one in_one) sound.ids_differ in_one in_other same

    none : length s.outputs ≤ other → ⊥
    none le =
        let d = some_output s.outputs one in_one in
        let short = sound.ids one d in_one in
        let empty : (get_or s.outputs one d).id ≡ [] = sym (name_at s.outputs one d in_one) ∙ same ∙ no_name s.outputs other le in
        let long : length (get_or s.outputs one d).id ≡ 0 = ap (λ (l : List ℕ). length l) empty in
        omega (arith, long, short.0)
