-- The parts of an encoding.
use Rattle.std.proofs.Common.{◌≡◌, ℕ, Bool, false, List, [], ◌∷◌, ◌++◌, Option, length, refl, ap, ◌∙◌, append_assoc}
use Rattle.std.specs.Int.{w32, to_be_bytes}
use Rattle.std.proofs.lemmas.List.{append-nil}
use Rattle.fwd_value.specs.Val.{Val, text, bin, mapping, entries_of}
use Rattle.fwd_msgpack.specs.Canonical.{canonical, list_head, map_head, text_head, ext_head}
use Rattle.fwd_event.specs.declared.event.Event.{Event}
use Rattle.fwd_wire.specs.Encode.{ack_val, time_val, entry_val, entry_bytes, option_val, forward_val}

pub ack_parts : (chunk : Val) → canonical (ack_val chunk) ≡ (129 ∷ 163 ∷ 97 ∷ 99 ∷ 107 ∷ []) ++ canonical chunk
unfolding map_head text_head
ack_parts chunk = ap (λ (t : List ℕ). 129 ∷ 163 ∷ 97 ∷ 99 ∷ 107 ∷ t) (append-nil (canonical chunk))

pub time_parts : (e : Event) → canonical (time_val false e) ≡ 215 ∷ 0 ∷ (to_be_bytes w32 e.sec ++ to_be_bytes w32 e.nsec)
unfolding ext_head
time_parts e = refl

pub entry_parts : (w : Bool) (e : Event) → canonical (entry_val w e) ≡ 146 ∷ (canonical (time_val w e) ++ canonical (mapping (entries_of e.body)))
unfolding list_head
entry_parts w e = ap (λ (t : List ℕ). 146 ∷ (canonical (time_val w e) ++ t)) (append-nil (canonical (mapping (entries_of e.body))))

pub forward_parts : (tag : List ℕ) (es : List Event) (id : Option (List ℕ)) (w : Bool) → canonical (forward_val tag es id w) ≡ 147 ∷ (canonical (text tag) ++ (canonical (bin (entry_bytes w es)) ++ canonical (option_val (length es) id)))
unfolding list_head
forward_parts tag es id w = ap (λ (t : List ℕ). 147 ∷ (canonical (text tag) ++ (canonical (bin (entry_bytes w es)) ++ t))) (append-nil (canonical (option_val (length es) id)))

-- two parts after a byte
pub after_byte_two : (out one two three : List ℕ) (c : ℕ) (a b : List ℕ) → one ≡ out ++ c ∷ [] → two ≡ one ++ a → three ≡ two ++ b → three ≡ out ++ c ∷ (a ++ b)
after_byte_two out one two three c a b e f g =
    g ∙ ap (λ (o : List ℕ). o ++ b) (f ∙ ap (λ (o : List ℕ). o ++ a) e) ∙ append_assoc (out ++ c ∷ []) a b ∙ append_assoc out (c ∷ []) (a ++ b)

-- three parts after a byte
pub after_byte_three : (one two three four : List ℕ) (c : ℕ) (x y z : List ℕ) → one ≡ c ∷ [] → two ≡ one ++ x → three ≡ two ++ y → four ≡ three ++ z → four ≡ c ∷ (x ++ (y ++ z))
after_byte_three one two three four c x y z e f g h =
    h ∙ ap (λ (o : List ℕ). o ++ z) (g ∙ ap (λ (o : List ℕ). o ++ y) (f ∙ ap (λ (o : List ℕ). o ++ x) e)) ∙ append_assoc ((c ∷ []) ++ x) y z ∙ append_assoc (c ∷ []) x (y ++ z)
