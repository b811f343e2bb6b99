-- Properties of everything that a reading reads.
use Rattle.std.proofs.Common.{◌≡◌, inl, inr, List, [], ◌∷◌, Option, Some, None, Result, Ok, Err, refl, sym, subst}
use Rattle.std.specs.List.{AllByRecursion}
use Rattle.fwd_base.specs.declared.pattern.Pattern.{Pattern}
use Rattle.fwd_outside.specs.Program.{Return, Ask}
use Rattle.fwd_settings_schema.specs.declared.error_kind.SettingKind.{SettingKind}
use Rattle.fwd_config.specs.declared.section.Place.{Place}
use Rattle.fwd_settings_entries.specs.Reading.{Reading, Checked, ◌>>=◌, known, at, each, IsResult}

ok_is : {X : Type 0} {x y : X} → ◌≡◌ {A = Checked X} (Ok x) (Ok y) → x ≡ y
ok_is is = cc

abbrev pub Always : {X : Type 0} → (X → Type 0) → Reading X → Type 0
Always P (Return (Ok x)) = P x
Always P (Return (Err refusal)) = Unit {0}
Always P (Ask text go) = (answer : Option Pattern) → Always P (go answer)

pub always_then : {X Y : Type 0} (P : X → Type 0) (Q : Y → Type 0) (first : Reading X) (next : X → Reading Y) → Always P first → ((x : X) → P x → Always Q (next x)) → Always Q (first >>= next)
always_then P Q (Return (Ok x)) next here behind = behind x here
always_then P Q (Return (Err refusal)) next here behind = tt
always_then P Q (Ask text go) next here behind = λ answer. always_then P Q (go answer) next (here answer) behind

pub always_result : {X : Type 0} (P : X → Type 0) (reading : Reading X) (x : X) → Always P reading → IsResult reading (Ok x) → P x
always_result P (Return (Ok y)) x here is = subst P (sym (ok_is is)) here
always_result P (Return (Err refusal)) x here is = absurd (cc is)
always_result P (Ask text go) x here (inl there) = always_result P (go (Some there.0)) x (here (Some there.0)) there.2
always_result P (Ask text go) x here (inr none) = always_result P (go None) x (here None) none.1

pub always_known : {X : Type 0} (P : X → Type 0) (checked : Checked X) → ((x : X) → checked ≡ Ok x → P x) → Always P (known checked)
always_known P (Ok x) holds = holds x refl
always_known P (Err refusal) holds = tt

pub always_at : {X : Type 0} (P : X → Type 0) (place : Place) (r : Result X SettingKind) → ((x : X) → r ≡ Ok x → P x) → Always P (known (at place r))
always_at P place (Ok x) holds = holds x refl
always_at P place (Err kind) holds = tt

-- `R e x` holds of each item and what is read for it
abbrev pub Pairs : {E X : Type 0} → (E → X → Type 0) → List E → List X → Type 0
Pairs R [] [] = Unit {0}
Pairs R [] (x ∷ xs) = ⊥
Pairs R (e ∷ es) [] = ⊥
Pairs R (e ∷ es) (x ∷ xs) = R e x × Pairs R es xs

pub always_each : {E X : Type 0} (R : E → X → Type 0) (read : E → Reading X) → ((e : E) → Always (R e) (read e)) → (es : List E) → Always (Pairs R es) (each read es)
always_each R read holds [] = tt
always_each {E = E} {X = X} R read holds (e ∷ es) =
    always_then (R e) (Pairs R (e ∷ es)) (read e) (λ x. each read es >>= (λ xs. known (Ok (x ∷ xs)))) (holds e)
    (λ x here. always_then (Pairs R es) (Pairs R (e ∷ es)) (each read es) (λ xs. known (Ok (x ∷ xs))) (always_each R read holds es) (λ xs rest. (here, rest)))

pub all_of_pairs : {E X : Type 0} (R : E → X → Type 0) (P : X → Type 0) → ((e : E) (x : X) → R e x → P x) → (es : List E) (xs : List X) → Pairs R es xs → AllByRecursion P xs
all_of_pairs R P gives [] [] pairs = tt
all_of_pairs R P gives [] (x ∷ xs) pairs = absurd pairs
all_of_pairs R P gives (e ∷ es) [] pairs = absurd pairs
all_of_pairs R P gives (e ∷ es) (x ∷ xs) pairs = (gives e x pairs.0, all_of_pairs R P gives es xs pairs.1)
