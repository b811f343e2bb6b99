-- Pairs that are decoded and written one after another.
use Rattle.std.proofs.Common.{◌≡◌, ℕ, ◌+◌, ◌-◌, ◌<◌, ◌≤◌, List, [], ◌∷◌, ◌++◌, length, Result, Ok, Err, refl, sym, ap, ◌∙◌, append_assoc, arith}
use Rattle.std.specs.Prelude.{IfOk}
use Rattle.std.proofs.lemmas.List.{append-nil, length-append}
use Rattle.fwd_value.specs.Val.{Val, text, mapping, entries_of}
use Rattle.fwd_value.specs.Limits.{nesting, entry_nestings}
use Rattle.fwd_msgpack.specs.Encodings.{Encodes, EncodesEntries}
use Rattle.fwd_msgpack.specs.Heads.{StartsWith, StartsWithMap}
use Rattle.fwd_msgpack.proofs.EncodeLoops.{how_many_entries_is}
use Rattle.fwd_json.specs.declared.floats.Floats.{Floats}
use Rattle.fwd_json.specs.Text.{json, string, key_text, pair_text, pairs_text, more_pairs}
use Rattle.fwd_out_text.specs.Headers.{StartsWithPair, StartsWithPairs}

-- a property of a result implies a weaker one
pub if_ok : {A E : Type 0} (r : Result A E) (P Q : A → Type 0) → ((x : A) → P x → Q x) → IfOk r P → IfOk r Q
if_ok (Ok x) P Q f h = f x h
if_ok (Err e) P Q f h = tt

-- ---- one pair

pub pair_written : (floats : Floats) (d : ℕ) (key b behind rest old between colon new : List ℕ) → StartsWith (text key) behind b → between ≡ old ++ key_text (text key) (string key) → colon ≡ between ++ 58 ∷ []
    → ((v : Val) × StartsWith v rest behind × (nesting v ≤ d) × (new ≡ colon ++ json floats v)) → (p : Val × Val) × StartsWithPair d p rest b × (new ≡ old ++ pair_text floats p)
pair_written floats d key b behind rest old between colon new k one two w =
    let v = w.0 in
    let shown = key_text (text key) (string key) in
    let read : StartsWithPair d (text key, v) rest b = record {
      key = k.0;
      value = w.1.0;
      parts = k.1 ∙ ap (λ (t : List ℕ). k.0 ++ t) w.1.1;
      key_encoded = k.2;
      value_encoded = w.1.2;
      key_nested = omega arith;
      value_nested = w.2;
    } in
    let said : new ≡ old ++ (shown ++ 58 ∷ json floats v) =
    w.3 ∙ ap (λ (t : List ℕ). t ++ json floats v) (two ∙ ap (λ (t : List ℕ). t ++ 58 ∷ []) one) ∙ append_assoc (old ++ shown) (58 ∷ []) (json floats v) ∙ append_assoc old shown (58 ∷ json floats v) in
    ((text key, v), read, said)

-- ---- one more pair

encoded_more : (ps : List (Val × Val)) (p : Val × Val) (front key value : List ℕ) → EncodesEntries (entries_of ps) front → Encodes p.0 key → Encodes p.1 value → EncodesEntries (entries_of (ps ++ p ∷ [])) (front ++ (key ++ value))
encoded_more [] p front key value s k v = (key, value, [], ap (λ (t : List ℕ). t ++ (key ++ value)) s ∙ ap (λ (t : List ℕ). key ++ t) (sym (append-nil value)), k, v, refl)
encoded_more (q ∷ ps) p front key value s k v =
    let first = s.0 in
    let second = s.1 in
    let back = s.2 in
    let more = key ++ value in
    (first, second, back ++ more, ap (λ (t : List ℕ). t ++ more) s.3 ∙ append_assoc first (second ++ back) more ∙ ap (λ (t : List ℕ). first ++ t) (append_assoc second back more), s.4, s.5, encoded_more ps p back key value s.6 k v)

nested_more : (ps : List (Val × Val)) (p : Val × Val) (n : ℕ) → entry_nestings (entries_of ps) ≤ n → nesting p.0 ≤ n → nesting p.1 ≤ n → entry_nestings (entries_of (ps ++ p ∷ [])) ≤ n
nested_more [] p n h k v = omega (arith, k, v)
nested_more (q ∷ ps) p n h k v = let more = nested_more ps p n (omega (arith, h)) k v in omega (arith, h, more)

text_more : (floats : Floats) (ps : List (Val × Val)) (p : Val × Val) → more_pairs floats (entries_of (ps ++ p ∷ [])) ≡ more_pairs floats (entries_of ps) ++ 44 ∷ pair_text floats p
text_more floats [] p = append-nil (44 ∷ pair_text floats p)
text_more floats (q ∷ ps) p =
    ap (λ (t : List ℕ). (44 ∷ pair_text floats q) ++ t) (text_more floats ps p) ∙ sym (append_assoc (44 ∷ pair_text floats q) (more_pairs floats (entries_of ps)) (44 ∷ pair_text floats p))

-- so many pairs were decoded, and written after the old text
pub record IsWritten (floats : Floats) (d : ℕ) (old new : List ℕ) (count : ℕ) (rest b : List ℕ) : Type 0 where
  pub pairs : List (Val × Val)
  pub many : length pairs ≡ count
  pub lead : StartsWithPairs d pairs rest b
  pub written : new ≡ old ++ more_pairs floats (entries_of pairs)

pub one_more : (floats : Floats) (d : ℕ) (old between comma new : List ℕ) (count : ℕ) (b behind rest : List ℕ) → IsWritten floats d old between count behind b → comma ≡ between ++ 44 ∷ []
    → ((p : Val × Val) × StartsWithPair d p rest behind × (new ≡ comma ++ pair_text floats p)) → IsWritten floats d old new (count + 1) rest b
one_more floats d old between comma new count b behind rest so_far said w =
    let ps = so_far.pairs in
    let p = w.0 in
    let front = so_far.lead.front in
    let pair = w.1 in
    let before = more_pairs floats (entries_of ps) in
    record {
      pairs = ps ++ p ∷ [];
      many = length-append ps (p ∷ []) ∙ ap (λ (n : ℕ). n + 1) so_far.many;
      lead = record {
        front = front ++ (pair.key ++ pair.value);
        parts = so_far.lead.parts ∙ ap (λ (t : List ℕ). front ++ t) (pair.parts ∙ sym (append_assoc pair.key pair.value rest)) ∙ sym (append_assoc front (pair.key ++ pair.value) rest);
        encoded = encoded_more ps p front pair.key pair.value so_far.lead.encoded pair.key_encoded pair.value_encoded;
        nested = nested_more ps p d so_far.lead.nested pair.key_nested pair.value_nested;
      };
      written =
          w.2 ∙ ap (λ (t : List ℕ). t ++ pair_text floats p) (said ∙ ap (λ (t : List ℕ). t ++ 44 ∷ []) so_far.written) ∙ append_assoc (old ++ before) (44 ∷ []) (pair_text floats p) ∙ append_assoc old before (44 ∷ pair_text floats p)
          ∙ ap (λ (t : List ℕ). old ++ t) (sym (text_more floats ps p));
    }

-- ---- pairs with commas between

-- one pair and those after it
pub pairs_written : (floats : Floats) (d count : ℕ) (b behind rest old between new : List ℕ) → 0 < count → ((p : Val × Val) × StartsWithPair d p behind b × (between ≡ old ++ pair_text floats p))
    → ((ps : List (Val × Val)) × (length ps ≡ count - 1) × StartsWithPairs d ps rest behind × (new ≡ between ++ more_pairs floats (entries_of ps)))
    → (ps : List (Val × Val)) × (length ps ≡ count) × StartsWithPairs d ps rest b × (new ≡ old ++ pairs_text floats (entries_of ps))
pairs_written floats d count b behind rest old between new some first w =
    let p = first.0 in
    let ps = w.0 in
    let one = first.1 in
    let read : StartsWithPairs d (p ∷ ps) rest b = record {
      front = one.key ++ (one.value ++ w.2.front);
      parts = one.parts ∙ ap (λ (t : List ℕ). one.key ++ (one.value ++ t)) w.2.parts ∙ ap (λ (t : List ℕ). one.key ++ t) (sym (append_assoc one.value w.2.front rest)) ∙ sym (append_assoc one.key (one.value ++ w.2.front) rest);
      encoded = (one.key, one.value, w.2.front, refl, one.key_encoded, one.value_encoded, w.2.encoded);
      nested = omega (arith, one.key_nested, one.value_nested, w.2.nested);
    } in
    let rest_text = more_pairs floats (entries_of ps) in
    (p ∷ ps, omega (arith, w.1), read, w.3 ∙ ap (λ (t : List ℕ). t ++ rest_text) first.2 ∙ append_assoc old (pair_text floats p) rest_text)

-- a map whose header and pairs were decoded, and which was written
pub map_written : (floats : Floats) (d count : ℕ) (b pairs rest old new : List ℕ) → 0 < d → StartsWithMap count pairs b
    → ((ps : List (Val × Val)) × (length ps ≡ count) × StartsWithPairs (d - 1) ps rest pairs × (new ≡ old ++ json floats (mapping (entries_of ps))))
    → (v : Val) × StartsWith v rest b × (nesting v ≤ d) × (new ≡ old ++ json floats v)
map_written floats d count b pairs rest old new some m w =
    let es = entries_of w.0 in
    let front = w.2.front in
    let parts : b ≡ (m.0 ++ front) ++ rest = m.1 ∙ ap (λ (t : List ℕ). m.0 ++ t) w.2.parts ∙ sym (append_assoc m.0 front rest) in
    (mapping es, (m.0 ++ front, parts, m.2 es front (how_many_entries_is w.0 ∙ w.1) w.2.encoded), omega (arith, w.2.nested), w.3)
