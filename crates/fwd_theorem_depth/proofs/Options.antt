-- What holds of the value of an option, if it has one.
use Rattle.std.proofs.Common.{◌≡◌, Bool, true, false, Option, Some, None, IfSome, option_map, option_and_then, refl}
use Rattle.std.specs.Prelude.{if◌then◌else◌}

pub if_mapped : {A B : Type 0} (P : A → Type 0) (Q : B → Type 0) (f : A → B) (o : Option A) → ((a : A) → P a → Q (f a)) → IfSome o P → IfSome (option_map f o) Q
if_mapped P Q f None keeps h = tt
if_mapped P Q f (Some a) keeps h = keeps a h

pub if_then : {A B : Type 0} (P : A → Type 0) (Q : B → Type 0) (f : A → Option B) (o : Option A) → ((a : A) → P a → IfSome (f a) Q) → IfSome o P → IfSome (option_and_then f o) Q
if_then P Q f None keeps h = tt
if_then P Q f (Some a) keeps h = keeps a h

pub if_either : {A : Type 0} (P : A → Type 0) (b : Bool) (x y : Option A) → IfSome x P → IfSome y P → IfSome (if b then x else y) P
if_either P true x y one other = one
if_either P false x y one other = other

-- a value that passes a test
pub if_tested : {A : Type 0} (P : A → Type 0) (b : Bool) (x : A) (y : Option A) → (b ≡ true → P x) → IfSome y P → IfSome (if b then Some x else y) P
if_tested P true x y is h = is refl
if_tested P false x y is h = h

abbrev pub Any : {A : Type 0} → A → Type 0
Any x = Unit {0}

pub any_of : {A : Type 0} (o : Option A) → IfSome o Any
any_of None = tt
any_of (Some x) = tt
