-- The first bytes of an encoding.
use Rattle.std.proofs.Common.{◌≡◌, ℕ, ◌-◌, ◌≤◌, ◌<◌, List, [], ◌∷◌, ◌++◌, length, take, drop, get_or, Option, Some, None, refl, sym, ap, subst, ◌∙◌, append_assoc, arith}
use Rattle.std.specs.Prelude.{IfSome}
use Rattle.std.specs.Int.{w16, w32, from_be_bytes}
use Rattle.std.proofs.lemmas.Bool.{lt-ltb, le-ltb}
use Rattle.std.proofs.lemmas.List.{take_all, take-append-drop, length-take}
use Rattle.fwd_value.specs.Val.{text, bin, list, mapping}
use Rattle.fwd_msgpack.specs.declared.form.ByteWidth.TheVariants.{One, Two, Four}
use Rattle.fwd_msgpack.specs.declared.form.Count.{Count}
use Rattle.fwd_msgpack.specs.declared.form.Count.TheVariants.{Known, Sized}
use Rattle.fwd_msgpack.specs.declared.form.Form.{Form}
use Rattle.fwd_msgpack.specs.declared.form.Form.TheVariants as form
use Rattle.fwd_msgpack.specs.Table.{form_of}
use Rattle.fwd_msgpack.specs.Encodings.{number, size, Counts, EncodesAfter}
use Rattle.fwd_msgpack.specs.Heads.{StartsWith, StartsWithLength, StartsWithText, StartsWithBytesHead, StartsWithBytes, StartsWithList, StartsWithMap}

-- a property of an optional value implies a weaker one
pub if_some : {A : Type 0} (o : Option A) (P Q : A → Type 0) → ((x : A) → P x → Q x) → IfSome o P → IfSome o Q
if_some None P Q f h = tt
if_some (Some x) P Q f h = f x h

-- bytes with a first one
pub first_is : (b rest : List ℕ) (c : ℕ) → 1 ≤ length b → get_or b 0 0 ≡ c → rest ≡ take (length b - 1) (drop 1 b) → b ≡ c ∷ rest
first_is [] rest c long a is = absurd (omega (arith, long))
first_is (x ∷ b) rest c long a is = let behind : rest ≡ b = is ∙ take_all (length (x ∷ b) - 1) b (omega arith) in λ i. a i ∷ sym behind i

-- ---- lengths

pub one_said : (b rest : List ℕ) (n : ℕ) → 1 ≤ length b → get_or b 0 0 ≡ n → rest ≡ take (length b - 1) (drop 1 b) → StartsWithLength (Sized One) n rest b
unfolding number size
one_said b rest n long a is = (n ∷ [], first_is b rest n long a is, (refl, omega arith))

pub two_said : (b rest : List ℕ) (n : ℕ) → 2 ≤ length b → n ≡ from_be_bytes w16 (get_or b 0 0 ∷ get_or b 1 0 ∷ []) → rest ≡ take (length b - 2) (drop 2 b) → StartsWithLength (Sized Two) n rest b
unfolding number size
two_said [] rest n long a is = absurd (omega (arith, long))
two_said (x ∷ []) rest n long a is = absurd (omega (arith, long))
two_said (x ∷ y ∷ b) rest n long a is =
    let behind : rest ≡ b = is ∙ take_all (length (x ∷ y ∷ b) - 2) b (omega arith) in
    (x ∷ y ∷ [], ap (λ (l : List ℕ). x ∷ y ∷ l) (sym behind), (refl, a))

pub four_said : (b rest : List ℕ) (n : ℕ) → 4 ≤ length b → n ≡ from_be_bytes w32 (get_or b 0 0 ∷ get_or b 1 0 ∷ get_or b 2 0 ∷ get_or b 3 0 ∷ []) → rest ≡ take (length b - 4) (drop 4 b) → StartsWithLength (Sized Four) n rest b
unfolding number size
four_said [] rest n long a is = absurd (omega (arith, long))
four_said (w ∷ []) rest n long a is = absurd (omega (arith, long))
four_said (w ∷ x ∷ []) rest n long a is = absurd (omega (arith, long))
four_said (w ∷ x ∷ y ∷ []) rest n long a is = absurd (omega (arith, long))
four_said (w ∷ x ∷ y ∷ z ∷ b) rest n long a is =
    let behind : rest ≡ b = is ∙ take_all (length (w ∷ x ∷ y ∷ z ∷ b) - 4) b (omega arith) in
    (w ∷ x ∷ y ∷ z ∷ [], ap (λ (l : List ℕ). w ∷ x ∷ y ∷ z ∷ l) (sym behind), (refl, a))

-- ---- texts

form_text : (c : ℕ) → 160 ≤ c → c < 192 → form_of c ≡ form.Str (Known (c - 160))
unfolding form_of
form_text c low high = rw (le-ltb c 128 (omega arith), le-ltb c 144 (omega arith), le-ltb c 160 low, lt-ltb c 192 high) refl

text_by : (k : Count) (c n : ℕ) (rest b more : List ℕ) → b ≡ c ∷ more → form_of c ≡ form.Str k → StartsWithLength k n rest more → StartsWithText n rest b
text_by k c n rest b more is f l =
    (c ∷ l.0, is ∙ ap (λ (t : List ℕ). c ∷ t) l.1, λ s e. subst (λ (g : Form). EncodesAfter (text s) g (l.0 ++ s)) (sym f) (l.0, subst (λ (m : ℕ). Counts k m l.0) (sym e) l.2, refl))

pub short_text : (b rest : List ℕ) (c : ℕ) → b ≡ c ∷ rest → 160 ≤ c → c < 192 → StartsWithText (c - 160) rest b
short_text b rest c is low high = text_by (Known (c - 160)) c (c - 160) rest b rest is (form_text c low high) ([], refl, (refl, refl))

pub text_of_one : (n : ℕ) (b rest more : List ℕ) → b ≡ 217 ∷ more → StartsWithLength (Sized One) n rest more → StartsWithText n rest b
unfolding form_of
text_of_one n b rest more is l = text_by (Sized One) 217 n rest b more is refl l

pub text_of_two : (n : ℕ) (b rest more : List ℕ) → b ≡ 218 ∷ more → StartsWithLength (Sized Two) n rest more → StartsWithText n rest b
unfolding form_of
text_of_two n b rest more is l = text_by (Sized Two) 218 n rest b more is refl l

pub text_of_four : (n : ℕ) (b rest more : List ℕ) → b ≡ 219 ∷ more → StartsWithLength (Sized Four) n rest more → StartsWithText n rest b
unfolding form_of
text_of_four n b rest more is l = text_by (Sized Four) 219 n rest b more is refl l

-- ---- bins

bin_by : (k : Count) (c n : ℕ) (rest b more : List ℕ) → b ≡ c ∷ more → form_of c ≡ form.Bin k → StartsWithLength k n rest more → StartsWithBytesHead n rest b
bin_by k c n rest b more is f l =
    (c ∷ l.0, is ∙ ap (λ (t : List ℕ). c ∷ t) l.1, λ s e. (bin s, refl, subst (λ (g : Form). EncodesAfter (bin s) g (l.0 ++ s)) (sym f) (l.0, subst (λ (m : ℕ). Counts k m l.0) (sym e) l.2, refl)))

pub bin_of_one : (n : ℕ) (b rest more : List ℕ) → b ≡ 196 ∷ more → StartsWithLength (Sized One) n rest more → StartsWithBytesHead n rest b
unfolding form_of
bin_of_one n b rest more is l = bin_by (Sized One) 196 n rest b more is refl l

pub bin_of_two : (n : ℕ) (b rest more : List ℕ) → b ≡ 197 ∷ more → StartsWithLength (Sized Two) n rest more → StartsWithBytesHead n rest b
unfolding form_of
bin_of_two n b rest more is l = bin_by (Sized Two) 197 n rest b more is refl l

pub bin_of_four : (n : ℕ) (b rest more : List ℕ) → b ≡ 198 ∷ more → StartsWithLength (Sized Four) n rest more → StartsWithBytesHead n rest b
unfolding form_of
bin_of_four n b rest more is l = bin_by (Sized Four) 198 n rest b more is refl l

-- the header of a text
pub text_has_bytes : (n : ℕ) (b rest : List ℕ) → StartsWithText n rest b → StartsWithBytesHead n rest b
text_has_bytes n b rest l = (l.0, l.1, λ s e. (text s, refl, l.2 s e))

-- ---- lists

form_list : (c : ℕ) → 144 ≤ c → c < 160 → form_of c ≡ form.Array (Known (c - 144))
unfolding form_of
form_list c low high = rw (le-ltb c 128 (omega arith), le-ltb c 144 low, lt-ltb c 160 high) refl

list_by : (k : Count) (c n : ℕ) (rest b more : List ℕ) → b ≡ c ∷ more → form_of c ≡ form.Array k → StartsWithLength k n rest more → StartsWithList n rest b
list_by k c n rest b more is f l =
    (c ∷ l.0, is ∙ ap (λ (t : List ℕ). c ∷ t) l.1, λ vs s e p. subst (λ (g : Form). EncodesAfter (list vs) g (l.0 ++ s)) (sym f) (l.0, s, subst (λ (m : ℕ). Counts k m l.0) (sym e) l.2, refl, p))

pub short_list : (b rest : List ℕ) (c : ℕ) → b ≡ c ∷ rest → 144 ≤ c → c < 160 → StartsWithList (c - 144) rest b
short_list b rest c is low high = list_by (Known (c - 144)) c (c - 144) rest b rest is (form_list c low high) ([], refl, (refl, refl))

pub list_of_two : (n : ℕ) (b rest more : List ℕ) → b ≡ 220 ∷ more → StartsWithLength (Sized Two) n rest more → StartsWithList n rest b
unfolding form_of
list_of_two n b rest more is l = list_by (Sized Two) 220 n rest b more is refl l

pub list_of_four : (n : ℕ) (b rest more : List ℕ) → b ≡ 221 ∷ more → StartsWithLength (Sized Four) n rest more → StartsWithList n rest b
unfolding form_of
list_of_four n b rest more is l = list_by (Sized Four) 221 n rest b more is refl l

-- ---- maps

form_map : (c : ℕ) → 128 ≤ c → c < 144 → form_of c ≡ form.Map (Known (c - 128))
unfolding form_of
form_map c low high = rw (le-ltb c 128 low, lt-ltb c 144 high) refl

map_by : (k : Count) (c n : ℕ) (rest b more : List ℕ) → b ≡ c ∷ more → form_of c ≡ form.Map k → StartsWithLength k n rest more → StartsWithMap n rest b
map_by k c n rest b more is f l =
    (c ∷ l.0, is ∙ ap (λ (t : List ℕ). c ∷ t) l.1, λ es s e p. subst (λ (g : Form). EncodesAfter (mapping es) g (l.0 ++ s)) (sym f) (l.0, s, subst (λ (m : ℕ). Counts k m l.0) (sym e) l.2, refl, p))

pub short_map : (b rest : List ℕ) (c : ℕ) → b ≡ c ∷ rest → 128 ≤ c → c < 144 → StartsWithMap (c - 128) rest b
short_map b rest c is low high = map_by (Known (c - 128)) c (c - 128) rest b rest is (form_map c low high) ([], refl, (refl, refl))

pub map_of_two : (n : ℕ) (b rest more : List ℕ) → b ≡ 222 ∷ more → StartsWithLength (Sized Two) n rest more → StartsWithMap n rest b
unfolding form_of
map_of_two n b rest more is l = map_by (Sized Two) 222 n rest b more is refl l

pub map_of_four : (n : ℕ) (b rest more : List ℕ) → b ≡ 223 ∷ more → StartsWithLength (Sized Four) n rest more → StartsWithMap n rest b
unfolding form_of
map_of_four n b rest more is l = map_by (Sized Four) 223 n rest b more is refl l

-- ---- a text and the rest after it

pub text_leads : (n : ℕ) (b more s rest : List ℕ) → StartsWithText n more b → n ≤ length more → s ≡ take n more → rest ≡ drop n more → StartsWith (text s) rest b
text_leads n b more s rest l le one two =
    let parts : more ≡ s ++ rest = sym (take-append-drop n more) ∙ ap (λ (t : List ℕ). t ++ drop n more) (sym one) ∙ ap (λ (t : List ℕ). s ++ t) (sym two) in
    let size : length s ≡ n = ap length one ∙ omega (arith, length-take n more) in
    (l.0 ++ s, l.1 ∙ ap (λ (t : List ℕ). l.0 ++ t) parts ∙ sym (append_assoc l.0 s rest), l.2 s size)

-- a text or bin and the rest after it
pub bytes_lead : (n : ℕ) (b more s rest : List ℕ) → StartsWithBytesHead n more b → n ≤ length more → s ≡ take n more → rest ≡ drop n more → StartsWithBytes s rest b
bytes_lead n b more s rest l le one two =
    let parts : more ≡ s ++ rest = sym (take-append-drop n more) ∙ ap (λ (t : List ℕ). t ++ drop n more) (sym one) ∙ ap (λ (t : List ℕ). s ++ t) (sym two) in
    let size : length s ≡ n = ap length one ∙ omega (arith, length-take n more) in
    let v = l.2 s size in
    (v.0, v.1, (l.0 ++ s, l.1 ∙ ap (λ (t : List ℕ). l.0 ++ t) parts ∙ sym (append_assoc l.0 s rest), v.2))
