-- Values of a list that are decoded and written one after another.
use Rattle.std.proofs.Common.{◌≡◌, ℕ, ◌+◌, ◌-◌, ◌<◌, ◌≤◌, List, [], ◌∷◌, ◌++◌, length, refl, sym, ap, ◌∙◌, append_assoc, arith}
use Rattle.std.proofs.lemmas.List.{append-nil, length-append}
use Rattle.fwd_value.specs.Val.{Val, list, vals_of}
use Rattle.fwd_value.specs.Limits.{nesting, nestings}
use Rattle.fwd_msgpack.specs.Encodings.{Encodes, EncodesAll}
use Rattle.fwd_msgpack.specs.Heads.{StartsWith, StartsWithList}
use Rattle.fwd_msgpack.proofs.EncodeLoops.{how_many_is}
use Rattle.fwd_json.specs.declared.floats.Floats.{Floats}
use Rattle.fwd_json.specs.Text.{json, values_text, more_values}
use Rattle.fwd_out_text.specs.Headers.{StartsWithValues}

-- ---- one more value

encoded_more : (vs : List Val) (v : Val) (front value : List ℕ) → EncodesAll (vals_of vs) front → Encodes v value → EncodesAll (vals_of (vs ++ v ∷ [])) (front ++ value)
encoded_more [] v front value s e = (value, [], ap (λ (t : List ℕ). t ++ value) s ∙ sym (append-nil value), e, refl)
encoded_more (u ∷ vs) v front value s e =
    let first = s.0 in
    let back = s.1 in
    (first, back ++ value, ap (λ (t : List ℕ). t ++ value) s.2 ∙ append_assoc first back value, s.3, encoded_more vs v back value s.4 e)

nested_more : (vs : List Val) (v : Val) (n : ℕ) → nestings (vals_of vs) ≤ n → nesting v ≤ n → nestings (vals_of (vs ++ v ∷ [])) ≤ n
nested_more [] v n h e = omega (arith, e)
nested_more (u ∷ vs) v n h e = let more = nested_more vs v n (omega (arith, h)) e in omega (arith, h, more)

text_more : (floats : Floats) (vs : List Val) (v : Val) → more_values floats (vals_of (vs ++ v ∷ [])) ≡ more_values floats (vals_of vs) ++ 44 ∷ json floats v
text_more floats [] v = append-nil (44 ∷ json floats v)
text_more floats (u ∷ vs) v =
    ap (λ (t : List ℕ). (44 ∷ json floats u) ++ t) (text_more floats vs v) ∙ sym (append_assoc (44 ∷ json floats u) (more_values floats (vals_of vs)) (44 ∷ json floats v))

-- so many values were decoded, and written after the old text
pub record AreWritten (floats : Floats) (d : ℕ) (old new : List ℕ) (count : ℕ) (rest b : List ℕ) : Type 0 where
  pub values : List Val
  pub many : length values ≡ count
  pub lead : StartsWithValues d values rest b
  pub written : new ≡ old ++ more_values floats (vals_of values)

pub one_more : (floats : Floats) (d : ℕ) (old between comma new : List ℕ) (count : ℕ) (b behind rest : List ℕ) → AreWritten floats d old between count behind b → comma ≡ between ++ 44 ∷ []
    → ((v : Val) × StartsWith v rest behind × (nesting v ≤ d) × (new ≡ comma ++ json floats v)) → AreWritten floats d old new (count + 1) rest b
one_more floats d old between comma new count b behind rest so_far said w =
    let vs = so_far.values in
    let v = w.0 in
    let front = so_far.lead.front in
    let value = w.1.0 in
    let before = more_values floats (vals_of vs) in
    record {
      values = vs ++ v ∷ [];
      many = length-append vs (v ∷ []) ∙ ap (λ (n : ℕ). n + 1) so_far.many;
      lead = record {
        front = front ++ value;
        parts = so_far.lead.parts ∙ ap (λ (t : List ℕ). front ++ t) w.1.1 ∙ sym (append_assoc front value rest);
        encoded = encoded_more vs v front value so_far.lead.encoded w.1.2;
        nested = nested_more vs v d so_far.lead.nested w.2;
      };
      written =
          w.3 ∙ ap (λ (t : List ℕ). t ++ json floats v) (said ∙ ap (λ (t : List ℕ). t ++ 44 ∷ []) so_far.written) ∙ append_assoc (old ++ before) (44 ∷ []) (json floats v) ∙ append_assoc old before (44 ∷ json floats v)
          ∙ ap (λ (t : List ℕ). old ++ t) (sym (text_more floats vs v));
    }

-- ---- values with commas between

-- one value and those after it
pub values_written : (floats : Floats) (d count : ℕ) (b behind rest old between new : List ℕ) → 0 < count → ((v : Val) × StartsWith v behind b × (nesting v ≤ d) × (between ≡ old ++ json floats v))
    → ((vs : List Val) × (length vs ≡ count - 1) × StartsWithValues d vs rest behind × (new ≡ between ++ more_values floats (vals_of vs)))
    → (vs : List Val) × (length vs ≡ count) × StartsWithValues d vs rest b × (new ≡ old ++ values_text floats (vals_of vs))
values_written floats d count b behind rest old between new some first w =
    let v = first.0 in
    let vs = w.0 in
    let value = first.1.0 in
    let read : StartsWithValues d (v ∷ vs) rest b = record {
      front = value ++ w.2.front;
      parts = first.1.1 ∙ ap (λ (t : List ℕ). value ++ t) w.2.parts ∙ sym (append_assoc value w.2.front rest);
      encoded = (value, w.2.front, refl, first.1.2, w.2.encoded);
      nested = omega (arith, first.2, w.2.nested);
    } in
    let rest_text = more_values floats (vals_of vs) in
    (v ∷ vs, omega (arith, w.1), read, w.3 ∙ ap (λ (t : List ℕ). t ++ rest_text) first.3 ∙ append_assoc old (json floats v) rest_text)

-- a list whose header and values were decoded, and which was written
pub list_written : (floats : Floats) (d count : ℕ) (b values rest old new : List ℕ) → 0 < d → StartsWithList count values b
    → ((vs : List Val) × (length vs ≡ count) × StartsWithValues (d - 1) vs rest values × (new ≡ old ++ json floats (list (vals_of vs))))
    → (v : Val) × StartsWith v rest b × (nesting v ≤ d) × (new ≡ old ++ json floats v)
list_written floats d count b values rest old new some l w =
    let vs = vals_of w.0 in
    let front = w.2.front in
    let parts : b ≡ (l.0 ++ front) ++ rest = l.1 ∙ ap (λ (t : List ℕ). l.0 ++ t) w.2.parts ∙ sym (append_assoc l.0 front rest) in
    (list vs, (l.0 ++ front, parts, l.2 vs front (how_many_is w.0 ∙ w.1) w.2.encoded), omega (arith, w.2.nested), w.3)
