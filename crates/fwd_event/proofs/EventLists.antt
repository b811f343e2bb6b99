-- Lists of events: concatenation, and the one way to split them.
use Rattle.std.proofs.Common.{◌≡◌, ℕ, ◌+◌, ◌-◌, ◌≤◌, ◌<◌, List, [], ◌∷◌, ◌++◌, length, take, drop, min, Some, refl, sym, ap, subst, ◌∙◌, append_assoc, arith}
use Rattle.std.proofs.lemmas.List.{take_at, take-append-drop, length-append, length-take, length-drop, append-nil}
use Rattle.fwd_value.specs.Val.{Val}
use Rattle.fwd_msgpack.specs.Encodings.{Encodes}
use Rattle.fwd_msgpack.specs.DecodeAnswers.{EncodesPrefix}
use Rattle.fwd_msgpack.proofs.PrefixFree.{encodings_are_prefix_free}
use Rattle.fwd_event.specs.declared.event.Event.{Event}
use Rattle.fwd_event.specs.Event.{event_of, AreEvents}

pub are_more : (es fs : List Event) (x y : List ℕ) → AreEvents es x → AreEvents fs y → AreEvents (es ++ fs) (x ++ y)
are_more [] fs x y a b = subst (λ (t : List ℕ). AreEvents fs (t ++ y)) (sym a) b
are_more (e ∷ es) fs x y a b = (a.0, a.1, a.2 ++ y, ap (λ (t : List ℕ). t ++ y) a.3 ∙ append_assoc a.1 a.2 y, a.4, a.5, a.6, are_more es fs a.2 y a.7 b)

front_rest : (a b x y : List ℕ) → a ≡ b → a ++ x ≡ b ++ y → x ≡ y
front_rest a b x y same e =
    let one : drop (length a) (a ++ x) ≡ x = drop_front a x in
    let two : drop (length a) (a ++ y) ≡ y = drop_front a y in
    sym one ∙ ap (drop (length a)) (e ∙ ap (λ (t : List ℕ). t ++ y) (sym same)) ∙ two
  where
    drop_front : (u v : List ℕ) → drop (length u) (u ++ v) ≡ v
    drop_front [] v = refl
    drop_front (c ∷ u) v = drop_front u v

-- after the first events of a list of events there are events
pub events_rest : (es fs : List Event) (x y : List ℕ) → AreEvents es x → AreEvents fs (x ++ y) → (gs : List Event) × AreEvents gs y
events_rest [] fs x y a b = (fs, subst (λ (t : List ℕ). AreEvents fs (t ++ y)) a b)
events_rest (e ∷ es) [] x y a b =
    let size : length x + length y ≡ 0 = sym (length-append x y) ∙ ap length b in
    absurd (nothing_encoded a.0 a.1 (omega (arith, ap length a.3, length-append a.1 a.2)) a.4)
  where
    nothing_encoded : (v : Val) (front : List ℕ) → length front ≡ 0 → Encodes v front → ⊥
    nothing_encoded v [] n s = s
    nothing_encoded v (c ∷ front) n s = omega arith
events_rest (e ∷ es) (f ∷ fs) x y a b =
    let parts : a.1 ++ (a.2 ++ y) ≡ b.1 ++ b.2 = sym (append_assoc a.1 a.2 y) ∙ ap (λ (t : List ℕ). t ++ y) (sym a.3) ∙ b.3 in
    let same = (encodings_are_prefix_free a.0 b.0 a.1 b.1 (a.2 ++ y) b.2 a.4 b.4 parts).1 in
    events_rest es fs a.2 y a.7 (subst (AreEvents fs) (sym (front_rest a.1 b.1 (a.2 ++ y) b.2 same parts)) b.7)

some_is : (e f : Event) → Some e ≡ Some f → e ≡ f
some_is e f h = cc

-- bytes are at most one list of events
pub events_same : (es fs : List Event) (b : List ℕ) → AreEvents es b → AreEvents fs b → es ≡ fs
events_same [] [] b x y = refl
events_same [] (f ∷ fs) b x y = absurd (nothing y.0 y.1 (omega (arith, ap length x, ap length y.3, length-append y.1 y.2)) y.4)
  where
    nothing : (v : Val) (front : List ℕ) → length front ≡ 0 → Encodes v front → ⊥
    nothing v [] n s = s
    nothing v (c ∷ front) n s = omega arith
events_same (e ∷ es) [] b x y = absurd (nothing x.0 x.1 (omega (arith, ap length y, ap length x.3, length-append x.1 x.2)) x.4)
  where
    nothing : (v : Val) (front : List ℕ) → length front ≡ 0 → Encodes v front → ⊥
    nothing v [] n s = s
    nothing v (c ∷ front) n s = omega arith
events_same (e ∷ es) (f ∷ fs) b x y =
    let parts : x.1 ++ x.2 ≡ y.1 ++ y.2 = sym x.3 ∙ y.3 in
    let same = encodings_are_prefix_free x.0 y.0 x.1 y.1 x.2 y.2 x.4 y.4 parts in
    let one : e ≡ f = some_is e f (sym x.6 ∙ ap event_of same.0 ∙ y.6) in
    let rest = events_same es fs x.2 x.7 (subst (AreEvents fs) (sym (front_rest x.1 y.1 x.2 y.2 same.1 parts)) y.7) in
    ap (λ (t : List Event). t ++ es) (ap (λ (z : Event). z ∷ []) one) ∙ ap (λ (t : List Event). f ∷ t) rest

pub take_add : (m n : ℕ) (b : List ℕ) → m + n ≤ length b → take (m + n) b ≡ take m b ++ take n (drop m b)
take_add m n b le =
    let x = take m b in
    let y = take n (drop m b) in
    let rest = drop n (drop m b) in
    let all : b ≡ (x ++ y) ++ rest = sym (take-append-drop m b) ∙ ap (λ (t : List ℕ). x ++ t) (sym (take-append-drop n (drop m b))) ∙ sym (append_assoc x y rest) in
    ap (take (m + n)) all ∙ take_at (x ++ y) rest (m + n) (omega (arith, length-append x y, length-take m b, length-take n (drop m b), length-drop m b))

-- one more event after those read
pub one_more : (es : List Event) (e : Event) (v : Val) (p n : ℕ) (b : List ℕ) → p ≤ length b → AreEvents es (take p b) → EncodesPrefix v n (drop p b) → event_of v ≡ Some e
    → AreEvents (es ++ e ∷ []) (take (p + n) b)
one_more es e v p n b le a s is =
    let y = take n (drop p b) in
    subst (AreEvents (es ++ e ∷ [])) (sym (take_add p n b (omega (arith, s.0, length-drop p b)))) (are_more es (e ∷ []) (take p b) y a (v, y, [], sym (append-nil y), s.1, s.2, is, refl))

-- an encoding has at least one byte
pub not_empty : (v : Val) (n : ℕ) (b : List ℕ) → EncodesPrefix v n b → 0 < n
not_empty v n b s = some_byte v (take n b) s.1 (length-take n b)
  where
    some_byte : (w : Val) (front : List ℕ) → Encodes w front → length front ≡ min n (length b) → 0 < n
    some_byte w [] h e = absurd h
    some_byte w (c ∷ front) h e = omega arith

-- if a longer prefix is events too, an event follows the shorter one
pub event_at : (es fs : List Event) (p m : ℕ) (b : List ℕ) → AreEvents es (take p b) → AreEvents fs (take m b) → p < m → m ≤ length b
    → (v : Val) × (e : Event) × (n : ℕ) × EncodesPrefix v n (drop p b) × (event_of v ≡ Some e)
event_at es fs p m b x y lt le =
    let more = take (m - p) (drop p b) in
    let size : length more ≡ m - p = omega (arith, length-take (m - p) (drop p b), length-drop p b) in
    let parts : take m b ≡ take p b ++ more = let k : p + (m - p) ≡ m = omega arith in subst (λ (i : ℕ). take i b ≡ take p b ++ more) k (take_add p (m - p) b (omega arith)) in
    let g = events_rest es fs (take p b) more x (subst (AreEvents fs) parts y) in
    first_of_more g.0 more (drop p b) (drop (m - p) (drop p b)) (sym (take-append-drop (m - p) (drop p b))) (omega arith) g.1
  where
    first_of_more : (gs : List Event) (part whole rest : List ℕ) → whole ≡ part ++ rest → 0 < length part → AreEvents gs part → (v : Val) × (e : Event) × (n : ℕ) × EncodesPrefix v n whole × (event_of v ≡ Some e)
    first_of_more [] part whole rest e lt a = absurd (omega (arith, ap length a))
    first_of_more (g ∷ gs) part whole rest e lt a =
        let parts : whole ≡ a.1 ++ (a.2 ++ rest) = e ∙ ap (λ (t : List ℕ). t ++ rest) a.3 ∙ append_assoc a.1 a.2 rest in
        let front : take (length a.1) whole ≡ a.1 = ap (take (length a.1)) parts ∙ take_at a.1 (a.2 ++ rest) (length a.1) refl in
        (a.0, g, length a.1, (omega (arith, ap length parts, length-append a.1 (a.2 ++ rest)), rw front a.4, a.5), a.6)
