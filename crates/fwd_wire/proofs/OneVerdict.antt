-- A value says one thing.
use Rattle.std.proofs.Common.{◌≡◌, ℕ, Bool, true, false, List, Option, Some, refl, sym, ◌∙◌}
use Rattle.fwd_value.specs.Val.{Val}
use Rattle.fwd_event.specs.declared.event.Event.{Event}
use Rattle.fwd_event.proofs.EventLists.{events_same}
use Rattle.fwd_wire.specs.Message.{nothing, batch, Verdict, says, compressed, no_message, Carried, one, many, packed, Parts, empty, tagged, unfit, parts_of, option_value, chunk_key, is_plain, Carries, CarriedSays, PlainSays, PartsSay, MessageSays}

some_same : (es fs : List Event) → ◌≡◌ {A = Option (List Event)} (Some es) (Some fs) → es ≡ fs
some_same es fs e = cc

carries_one : (c : Carried) (es fs : List Event) → Carries c es → Carries c fs → es ≡ fs
carries_one (one time body) es fs x y = some_same es fs (sym x ∙ y)
carries_one (many vs) es fs x y = some_same es fs (sym x ∙ y)
carries_one (packed b) es fs x y = events_same es fs b x y

carried_one : (t : List ℕ) (k : Option Val) (c : Carried) (v w : Verdict) → CarriedSays t k c v → CarriedSays t k c w → v ≡ w
carried_one t k c (says nothing) w x y = absurd x
carried_one t k c (says (batch a es i)) (says nothing) x y = absurd y
carried_one t k c (says (batch a es i)) (says (batch b fs j)) x y =
    let tags : a ≡ b = x.0 ∙ sym y.0 in
    let chunks : i ≡ j = x.1 ∙ sym y.1 in
    let events : es ≡ fs = carries_one c es fs x.2 y.2 in
    rw (tags, chunks, events) refl
carried_one t k c (says (batch a es i)) compressed x y = absurd y
carried_one t k c (says (batch a es i)) no_message x y = absurd (y es x.2)
carried_one t k c compressed w x y = absurd x
carried_one t k c no_message (says nothing) x y = absurd y
carried_one t k c no_message (says (batch b fs j)) x y = absurd (x fs y.2)
carried_one t k c no_message compressed x y = absurd y
carried_one t k c no_message no_message x y = refl

plain_one : (p : Bool) (t : List ℕ) (k : Option Val) (c : Carried) (v w : Verdict) → PlainSays p t k c v → PlainSays p t k c w → v ≡ w
plain_one true t k c v w x y = carried_one t k c v w x y
plain_one false t k c v w x y = x ∙ sym y

parts_one : (p : Parts) (v w : Verdict) → PartsSay p v → PartsSay p w → v ≡ w
parts_one empty v w x y = x ∙ sym y
parts_one (tagged t c o) v w x y = plain_one (is_plain o) t (option_value o chunk_key) c v w x y
parts_one unfit v w x y = x ∙ sym y

pub message_one : (m : Val) (v w : Verdict) → MessageSays m v → MessageSays m w → v ≡ w
message_one m v w x y = parts_one (parts_of m) v w x y
