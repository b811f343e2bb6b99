-- The event of a value, by the parts of the value.
use Rattle.std.proofs.Common.{◌≡◌, ◌≢◌, ℕ, List, [], ◌∷◌, length, remove, slice_get, Some, None, ℤ, pos, negsuc, ◌<ℤ◌, refl, ap, arith}
use Rattle.std.proofs.lemmas.Int.{ints}
use Rattle.fwd_value.specs.Val.{Val, whole, list, mapping, Vals, val, vals_of, Entries, no_entries, entries_of}
use Rattle.fwd_value.specs.View.{val_of}
use Rattle.fwd_value.specs.declared.value.Value.{Value}
use Rattle.fwd_value.specs.declared.value.Value.TheVariants as held
use Rattle.fwd_msgpack.specs.KeptFront.{KeepsFront}
use Rattle.fwd_msgpack.proofs.KeptFront.{keeps_same as also_same}
use Rattle.fwd_event.specs.Event.{pairs_of, time_of, event_at, event_of, event_with_header}

pub pairs_back : (es : List (Val × Val)) → pairs_of (entries_of es) ≡ es
pairs_back [] = refl
pairs_back (e ∷ es) = ap (λ (t : List (Val × Val)). e ∷ t) (pairs_back es)

three_parts : (a b c : Val) (vs : Vals) → event_of (list (val a (val b (val c vs)))) ≡ None
three_parts a (mapping es) c vs = refl
three_parts a b c vs = refl

long_head : (a b c : Val) (vs : Vals) (body : Entries) → event_with_header (list (val a (val b (val c vs)))) body ≡ None
long_head a (mapping es) c vs body = refl
long_head a b c vs body = refl

pub not_two_parts : (vs : List Val) → length vs ≢ 2 → event_of (list (vals_of vs)) ≡ None
not_two_parts [] h = refl
not_two_parts (a ∷ []) h = refl
not_two_parts (a ∷ (b ∷ [])) h = absurd (h refl)
not_two_parts (a ∷ (b ∷ (c ∷ vs))) h = three_parts a b c (vals_of vs)

pub two_parts : (vs : List Val) (first second : Val) → length vs ≡ 2 → slice_get vs 1 ≡ Some second → slice_get (remove vs 1) 0 ≡ Some first → vs ≡ first ∷ second ∷ []
two_parts [] first second n e f = absurd (omega arith)
two_parts (a ∷ []) first second n e f = absurd (omega arith)
two_parts (a ∷ (b ∷ [])) first second n e f = let one : a ≡ first = cc in let two : b ≡ second = cc in rw (one, two) refl
two_parts (a ∷ (b ∷ (c ∷ vs))) first second n e f = absurd (omega arith)

pub no_head : (vs : List Val) (body : Entries) → length vs ≢ 2 → event_with_header (list (vals_of vs)) body ≡ None
no_head [] body h = refl
no_head (a ∷ []) body h = refl
no_head (a ∷ (b ∷ [])) body h = absurd (h refl)
no_head (a ∷ (b ∷ (c ∷ vs))) body h = long_head a b c (vals_of vs) body

pub time_below : (n : ℤ) → n <ℤ pos 0 → time_of (whole n) ≡ None
time_below (pos n) h = absurd (omega (arith, ints))
time_below (negsuc n) h = refl

-- a header that isn't a list is a time alone
pub headed_alone : (v : Value) (body : Entries) → ((vs : List Val) → v ≡ held.List vs → ⊥) → event_with_header (val_of v) body ≡ event_at (time_of (val_of v)) no_entries body
headed_alone held.Nil body h = refl
headed_alone (held.Truth t) body h = refl
headed_alone (held.Uint n) body h = refl
headed_alone (held.Neg n) body h = refl
headed_alone (held.Text s) body h = refl
headed_alone (held.Bin s) body h = refl
headed_alone (held.Float32 n) body h = refl
headed_alone (held.Float64 n) body h = refl
headed_alone (held.Ext t s) body h = refl
headed_alone (held.List vs) body h = absurd (h vs refl)
headed_alone (held.Map es) body h = refl

pub keeps_same : (old new : List ℕ) → new ≡ old → KeepsFront old new
keeps_same = also_same
