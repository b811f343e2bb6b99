-- Facts from a result's value.
use Rattle.std.proofs.Common.{◌≡◌, Some, Result, Ok, Err, OnOk, OnErr, refl}

pub on_ok : {T E : Type 0} {P Q : Type 0} (r : Result T E) → (P → Q) → OnOk r P → OnOk r Q
on_ok (Ok x) so holds = so holds
on_ok (Err e) so holds = tt

pub value_of : {T E : Type 0} {P : Type 0} (r : Result T E) (x : T) → r ≡ Ok x → OnOk r P → P
value_of (Ok y) x is holds = holds
value_of (Err e) x is holds = absurd (cc is)

pub same_some : {T : Type 0} {x y : T} → Some x ≡ Some y → x ≡ y
same_some is = cc is

pub on_err : {T E : Type 0} {P Q : Type 0} (r : Result T E) → (P → Q) → OnErr r P → OnErr r Q
on_err (Ok x) so holds = tt
on_err (Err e) so holds = so holds
