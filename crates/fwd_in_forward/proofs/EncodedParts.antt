-- Messages from the parts that their bytes have.
use Rattle.std.proofs.Common.{◌≡◌, ℕ, ◌+◌, ◌-◌, ◌≤◌, true, Bool, List, [], ◌++◌, length, take, All, Option, Some, refl, sym, ap, subst, ◌∙◌, append_assoc, arith}
use Rattle.std.specs.Prelude.{option_map}
use Rattle.std.proofs.lemmas.List.{length-append}
use Rattle.std.proofs.Math.Seq.{take-append-add}
use Rattle.fwd_base.specs.Limits.{deepest}
use Rattle.fwd_value.specs.Val.{Val, nil, truth, whole, text, bin, float32, float64, ext, list, mapping, Vals, no_vals, val}
use Rattle.fwd_value.specs.Keys.{Record}
use Rattle.fwd_value.specs.Limits.{nesting, nestings, value_count}
use Rattle.fwd_value.specs.View.{val_of}
use Rattle.fwd_msgpack.specs.DecodeAnswers.{EncodesPrefix}
use Rattle.fwd_msgpack.specs.Encodings.{Encodes, EncodesAll}
use Rattle.fwd_event.specs.declared.event.Event.{Event}
use Rattle.fwd_event.specs.Event.{Timestamp, time_of, event_of}
use Rattle.fwd_event.specs.EventPrefix.{events_in, encodings, IsWritable}
use Rattle.fwd_event.proofs.EventPrefix.{encodings_back}
use Rattle.fwd_wire.specs.Message.{MessageContent, batch, says, Carried, one, many, packed, Carries, tag_of, option_of, option_value, chunk_key, tagged_by, with_option, in_mode, in_front, parts_of, PlainSays, PartsSay, MessageSays}
use Rattle.fwd_wire.specs.Answer.{front, message, IsAnswer}
use Rattle.fwd_in_forward.specs.declared.encoded_message.EncodedMessage.{EncodedMessage}
use Rattle.fwd_in_forward.specs.EncodedMessage.{encoded_content}
use Rattle.fwd_in_forward.specs.EncodedParts.{CarriesEvents, CarryEvents, AreOption, AsksFor, StartsWithHead, StartsWithEvents, StartsWithOption}

-- ---- what a message of these parts says

same_some : {A : Type 0} (x y : A) → Some x ≡ Some y → x ≡ y
same_some x y e = cc

tagged_says : (tag : Option (List ℕ)) (option : Option Record) (t : List ℕ) (o : Record) (c : Carried) (es : List Event) (k : Option Val)
    → tag ≡ Some t → option ≡ Some o → AsksFor k o → Carries c es → PartsSay (tagged_by tag option c) (says (batch t es k))
tagged_says tag option t o c es k e f a h =
    let here : PlainSays true t (option_value o chunk_key) c (says (batch t es k)) = (refl, a.1, h) in
    let plain = subst (λ (p : Bool). PlainSays p t (option_value o chunk_key) c (says (batch t es k))) (sym a.0) here in
    subst (λ (x : Option (List ℕ)). PartsSay (tagged_by x option c) (says (batch t es k))) (sym e)
    (subst (λ (x : Option Record). PartsSay (tagged_by (Some t) x c) (says (batch t es k))) (sym f) plain)

option_says : (tag : Val) (c : Carried) (os : Vals) (t : List ℕ) (o : Record) (es : List Event) (k : Option Val)
    → tag_of tag ≡ Some t → AreOption os o → AsksFor k o → Carries c es → PartsSay (with_option tag c os) (says (batch t es k))
option_says tag c no_vals t o es k e r a h = tagged_says (tag_of tag) (Some []) t o c es k e (ap Some (sym r)) a h
option_says tag c (val v no_vals) t o es k e r a h = tagged_says (tag_of tag) (option_of v) t o c es k e r a h
option_says tag c (val v (val w ws)) t o es k e r a h = absurd r

mode_says : (tag c : Val) (os : Vals) (t : List ℕ) (o : Record) (es : List Event) (k : Option Val)
    → tag_of tag ≡ Some t → AreOption os o → AsksFor k o → CarriesEvents c es → PartsSay (in_mode tag c os) (says (batch t es k))
mode_says tag (list vs) os t o es k e r a h = option_says tag (many vs) os t o es k e r a h
mode_says tag (text b) os t o es k e r a h = option_says tag (packed b) os t o es k e r a h
mode_says tag (bin b) os t o es k e r a h = option_says tag (packed b) os t o es k e r a h
mode_says tag nil os t o es k e r a h = absurd h
mode_says tag (truth x) os t o es k e r a h = absurd h
mode_says tag (whole x) os t o es k e r a h = absurd h
mode_says tag (float32 x) os t o es k e r a h = absurd h
mode_says tag (float64 x) os t o es k e r a h = absurd h
mode_says tag (ext x s) os t o es k e r a h = absurd h
mode_says tag (mapping x) os t o es k e r a h = absurd h

-- the members of two parts, one after the other
abbrev together : Vals → Vals → Vals
together no_vals os = os
together (val v vs) os = val v (together vs os)

time_says : (tag time body : Val) (os : Vals) (t : List ℕ) (o : Record) (es : List Event) (k : Option Val) (m : Timestamp)
    → tag_of tag ≡ Some t → AreOption os o → AsksFor k o → time_of time ≡ Some m → in_front (event_of (list (val time (val body no_vals)))) (Some []) ≡ Some es
    → PartsSay (in_mode tag time (val body os)) (says (batch t es k))
time_says tag (whole n) body os t o es k m e r a is h = option_says tag (one (whole n) body) os t o es k e r a h
time_says tag (ext x s) body os t o es k m e r a is h = option_says tag (one (ext x s) body) os t o es k e r a h
time_says tag nil body os t o es k m e r a is h = absurd cc
time_says tag (truth x) body os t o es k m e r a is h = absurd cc
time_says tag (text s) body os t o es k m e r a is h = absurd cc
time_says tag (bin s) body os t o es k m e r a is h = absurd cc
time_says tag (float32 x) body os t o es k m e r a is h = absurd cc
time_says tag (float64 x) body os t o es k m e r a is h = absurd cc
time_says tag (list x) body os t o es k m e r a is h = absurd cc
time_says tag (mapping x) body os t o es k m e r a is h = absurd cc

members_say : (tag : Val) (vs os : Vals) (t : List ℕ) (o : Record) (es : List Event) (k : Option Val)
    → tag_of tag ≡ Some t → AreOption os o → AsksFor k o → CarryEvents vs es → PartsSay (parts_of (list (val tag (together vs os)))) (says (batch t es k))
members_say tag no_vals os t o es k e r a h = absurd h
members_say tag (val v no_vals) os t o es k e r a h = mode_says tag v os t o es k e r a h
members_say tag (val time (val body no_vals)) os t o es k e r a h = time_says tag time body os t o es k h.0 e r a h.1 h.2
members_say tag (val time (val body (val v vs))) os t o es k e r a h = absurd h

some_carry : (vs : Vals) (es : List Event) → CarryEvents vs es → 1 ≤ value_count vs
some_carry no_vals es h = absurd h
some_carry (val v vs) es h = omega arith

-- ---- the encoding of a message of these parts

all_count : (vs os : Vals) → value_count (together vs os) ≡ value_count vs + value_count os
all_count no_vals os = omega arith
all_count (val v vs) os = omega (arith, all_count vs os)

all_nest : (vs os : Vals) (d : ℕ) → nestings vs ≤ d → nestings os ≤ d → nestings (together vs os) ≤ d
all_nest no_vals os d h k = k
all_nest (val v vs) os d h k = omega (arith, h, all_nest vs os d (omega (arith, h)) k)

all_encode : (vs os : Vals) (s t : List ℕ) → EncodesAll vs s → EncodesAll os t → EncodesAll (together vs os) (s ++ t)
all_encode no_vals os s t h k = subst (λ (x : List ℕ). EncodesAll os (x ++ t)) (sym h) k
all_encode (val v vs) os s t h k =
    (h.0, h.1 ++ t, ap (λ (x : List ℕ). x ++ t) h.2 ∙ append_assoc h.0 h.1 t, h.3, all_encode vs os h.1 t h.4 k)

-- the first bytes of four parts one after another
first_of_parts : (f head tag events rest behind after : List ℕ) (n : ℕ) → f ≡ head ++ behind → behind ≡ tag ++ after → after ≡ events ++ rest
    → take (length f - length rest + n) f ≡ head ++ (tag ++ (events ++ take n rest))
first_of_parts f head tag events rest behind after n is second third =
    let whole : f ≡ (head ++ (tag ++ events)) ++ rest =
    is ∙ ap (λ (x : List ℕ). head ++ x) (second ∙ ap (λ (x : List ℕ). tag ++ x) third ∙ sym (append_assoc tag events rest)) ∙ sym (append_assoc head (tag ++ events) rest) in
    let size : length f - length rest + n ≡ length (head ++ (tag ++ events)) + n = omega (arith, ap length whole, length-append (head ++ (tag ++ events)) rest) in
    ap (λ (k : ℕ). take k f) size ∙ ap (take (length (head ++ (tag ++ events)) + n)) whole ∙ take-append-add (head ++ (tag ++ events)) rest n
    ∙ append_assoc head (tag ++ events) (take n rest) ∙ ap (λ (x : List ℕ). head ++ x) (append_assoc tag events (take n rest))

within_parts : (f head tag events rest behind after : List ℕ) (n : ℕ) → f ≡ head ++ behind → behind ≡ tag ++ after → after ≡ events ++ rest
    → n ≤ length rest → length f - length rest + n ≤ length f
within_parts f head tag events rest behind after n is second third le =
    omega (arith, le, ap length is, ap length second, ap length third, length-append head behind, length-append tag after, length-append events rest)

abbrev Says : List ℕ → ℕ → MessageContent → Type 0
Says f n s = (x : Val) × EncodesPrefix x n f × MessageSays x (says s)

parts_say : (f tag rest after : List ℕ) (members left n : ℕ) (es : List Event) (o : Record) (k : Option Val)
    → StartsWithHead members tag after f → StartsWithEvents (members + 1 - left) es rest after → StartsWithOption left o n rest → AsksFor k o
    → Says f (length f - length rest + n) (batch tag es k)
parts_say f tag rest after members left n es o k h e p a =
    let t = h.2 in
    let vs = together e.values p.values in
    let size : value_count (val t.0 vs) ≡ members + 2 = omega (arith, all_count e.values p.values, e.count, some_carry e.values es e.carry, p.count) in
    let parted = first_of_parts f h.1.0 t.3.0 e.front rest h.0 after n h.1.1 t.3.1 e.parts in
    let all : EncodesAll (val t.0 vs) (t.3.0 ++ (e.front ++ take n rest)) = (t.3.0, e.front ++ take n rest, refl, t.3.2, all_encode e.values p.values e.front (take n rest) e.encoded p.encoded) in
    let nested : nesting (list (val t.0 vs)) ≤ deepest = omega (arith, t.2, all_nest e.values p.values (deepest - 1) e.nested p.nested) in (
      list (val t.0 vs),
      (
        within_parts f h.1.0 t.3.0 e.front rest h.0 after n h.1.1 t.3.1 e.parts p.within,
        subst (Encodes (list (val t.0 vs))) (sym parted) (h.1.2 (val t.0 vs) (t.3.0 ++ (e.front ++ take n rest)) size all),
        nested,
      ),
      members_say t.0 e.values p.values tag o es k t.1 p.are a e.carry,
    )

-- ---- the message that is returned

pub said : (b f tag rest after : List ℕ) (members left n : ℕ) (es : List Event) (o : Record) (m : EncodedMessage)
    → f ≡ front b → StartsWithHead members tag after f → StartsWithEvents (members + 1 - left) es rest after → StartsWithOption left o n rest → AsksFor (option_map val_of m.chunk) o
    → All IsWritable es → m.tag ≡ tag → m.events ≡ encodings es
    → IsAnswer b (message (encoded_content m) (length f - length rest + n))
said b f tag rest after members left n es o m is h e p a writable tagged encoded =
    let read : (events_in m.events).0 ≡ es = ap (λ (x : List ℕ). (events_in x).0) encoded ∙ ap (λ (x : List Event × ℕ). x.0) (encodings_back es writable) in
    let same : encoded_content m ≡ batch tag es (option_map val_of m.chunk) = λ i. batch (tagged i) (read i) (option_map val_of m.chunk) in
    let whole = parts_say f tag rest after members left n es o (option_map val_of m.chunk) h e p a in
    let there = subst (λ (x : List ℕ). Says x (length f - length rest + n) (batch tag es (option_map val_of m.chunk))) is whole in
    subst (λ (s : MessageContent). IsAnswer b (message s (length f - length rest + n))) (sym same) there
