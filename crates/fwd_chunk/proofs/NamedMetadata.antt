-- Metadata of mark 2 are read as what was written, and as nothing else.
use Rattle.std.proofs.Common.{◌≡◌, ◌≢◌, ℕ, zero, suc, ◌+◌, ◌*◌, ◌/◌, ◌%◌, ◌<◌, ◌≤◌, ◌^◌, Bool, true, false, ◌&&◌, ◌||◌, not, nat_lt, nat_le, ◌==◌, if◌then◌else◌, List, [], ◌∷◌, ◌++◌, length, take, drop, get_or, Option, Some, None, refl, sym, ap, subst, ◌∙◌, arith}
use Rattle.std.specs.Prelude.{All, AllPairs, flat_map, IsUtf8}
use Rattle.std.specs.List.{list_all, list_any}
use Rattle.std.specs.Option.{option_map}
use Rattle.std.specs.Str.{is_utf8, bytes_eq}
use Rattle.std.proofs.lemmas.Bool.{eqb-true, leb-true, le-leb, ltb-true, ltb-false, lt-ltb, le-ltb}
use Rattle.std.proofs.lemmas.List.{take_at, drop_at, take-append-drop, length-append, length-take}
use Rattle.std.proofs.lemmas.List.Elements.{All-nil, All-cons, All-weaker, All-head, All-tail}
use Rattle.std.proofs.lemmas.List.Kept.{AllPairs-cons}
use Rattle.std.proofs.lemmas.List.Sums.{AllPass-from_list_all, list_all-from_AllPass}
use Rattle.std.proofs.lemmas.Slice.Eq.{bytes_eq-Decides}
use Rattle.std.proofs.lemmas.Str.{IsUtf8-from_is_utf8, is_utf8-from_IsUtf8}
use Rattle.fwd_base.specs.Limits.{longest_name, most_outputs}
use Rattle.fwd_chunk.specs.Layout.{NamedOutput, named_output_bytes, named_meta_bytes, AreOutputs}
use Rattle.fwd_chunk.specs.Metadata.{MetadataMeaning, names_of, all_differ, is_output_name, are_outputs, output_at, after_output, outputs_in, counted_outputs, if_allowed, two_bytes, split, is_typed, is_naming, named_parts, with_tag, named_by, parse_named}
use Rattle.fwd_chunk.proofs.Conditionals.{both, both_hold, not_true, unless, where_so, same_value}

abbrev some_outputs : List NamedOutput → Option (List NamedOutput)
some_outputs os = Some os

abbrev a_part : NamedOutput × List ℕ → Option (NamedOutput × List ℕ)
a_part x = Some x

abbrev two_parts : List ℕ × List ℕ → Option (List ℕ × List ℕ)
two_parts x = Some x

abbrev a_size : ℕ → Option ℕ
a_size n = Some n

abbrev a_meaning : MetadataMeaning → Option MetadataMeaning
a_meaning m = Some m

-- ---- which names a file may name, as a test and as a proposition

differs : (name other : List ℕ) → bytes_eq other name ≡ false → name ≢ other
differs name other h same = let no : true ≡ false = sym ((bytes_eq-Decides other name).1 (sym same)) ∙ h in cc no

same_not : (b : Bool) → (b ≡ true → ⊥) → b ≡ false
same_not true h = absurd (h refl)
same_not false h = refl

none_same : (name : List ℕ) (names : List (List ℕ)) → list_any (λ other. bytes_eq other name) names ≡ false → All (λ other. name ≢ other) names
none_same name [] h = All-nil (λ other. name ≢ other)
none_same name (x ∷ names) h = by (bytes_eq x name) refl h (none_same name names)
  where
    by : (b : Bool) → bytes_eq x name ≡ b → (b || list_any (λ other. bytes_eq other name) names) ≡ false → (list_any (λ other. bytes_eq other name) names ≡ false → All (λ other. name ≢ other) names) → All (λ other. name ≢ other) (x ∷ names)
    by true is none rest = absurd (cc none)
    by false is none rest = All-cons (λ other. name ≢ other) x names (differs name x is) (rest none)

all_other : (name : List ℕ) (names : List (List ℕ)) → All (λ other. name ≢ other) names → list_any (λ other. bytes_eq other name) names ≡ false
all_other name [] h = refl
all_other name (x ∷ names) h =
    let first : bytes_eq x name ≡ false = same_not (bytes_eq x name) (λ e. All-head (λ other. name ≢ other) x names h (sym ((bytes_eq-Decides x name).0 e))) in
    rw first (all_other name names (All-tail (λ other. name ≢ other) x names h))

no_pairs : AllPairs (λ (one other : List ℕ). one ≢ other) []
no_pairs i j d less lt = absurd (omega arith)

pairs_differ : (names : List (List ℕ)) → all_differ names ≡ true → AllPairs (λ one other. one ≢ other) names
pairs_differ [] h = no_pairs
pairs_differ (name ∷ names) h =
    let parts = both (not (list_any (λ other. bytes_eq other name) names)) (all_differ names) h in
    AllPairs-cons (λ one other. one ≢ other) name names (none_same name names (not_true (list_any (λ other. bytes_eq other name) names) parts.0)) (pairs_differ names parts.1)

differ_pairs : (names : List (List ℕ)) → AllPairs (λ one other. one ≢ other) names → all_differ names ≡ true
differ_pairs [] h = refl
differ_pairs (name ∷ names) h =
    let first : list_any (λ other. bytes_eq other name) names ≡ false = all_other name names (λ k d lt. h 0 (suc k) d (omega arith) (omega arith)) in
    both_hold (not (list_any (λ other. bytes_eq other name) names)) (all_differ names) (ap not first) (differ_pairs names (λ i j d less lt. h (suc i) (suc j) d (omega arith) (omega arith)))

abbrev IsName : List ℕ → Type 0
IsName name = (1 ≤ length name) × (length name ≤ longest_name) × IsUtf8 name

is_name : (name : List ℕ) → is_output_name name ≡ true → IsName name
is_name name h =
    let outer = both (nat_le 1 (length name) && nat_le (length name) longest_name) (is_utf8 name) h in
    let inner = both (nat_le 1 (length name)) (nat_le (length name) longest_name) outer.0 in
    (leb-true 1 (length name) inner.0, leb-true (length name) longest_name inner.1, IsUtf8-from_is_utf8 name outer.1)

name_is : (name : List ℕ) → IsName name → is_output_name name ≡ true
name_is name h =
    both_hold (nat_le 1 (length name) && nat_le (length name) longest_name) (is_utf8 name)
    (both_hold (nat_le 1 (length name)) (nat_le (length name) longest_name) (le-leb 1 (length name) h.0) (le-leb (length name) longest_name h.1)) (is_utf8-from_IsUtf8 name h.2)

pub outputs_are : (names : List (List ℕ)) → are_outputs names ≡ true → AreOutputs names
outputs_are names h =
    let outer = both (nat_le (length names) most_outputs && list_all is_output_name names) (all_differ names) h in
    let inner = both (nat_le (length names) most_outputs) (list_all is_output_name names) outer.0 in
    record {
      few = leb-true (length names) most_outputs inner.0;
      each = All-weaker (λ name. is_output_name name ≡ true) IsName is_name names (AllPass-from_list_all is_output_name names inner.1);
      differ = pairs_differ names outer.1;
    }

pub are_allowed : (names : List (List ℕ)) → AreOutputs names → are_outputs names ≡ true
are_allowed names h =
    both_hold (nat_le (length names) most_outputs && list_all is_output_name names) (all_differ names)
    (both_hold (nat_le (length names) most_outputs) (list_all is_output_name names) (le-leb (length names) most_outputs h.few)
    (list_all-from_AllPass is_output_name names (All-weaker IsName (λ name. is_output_name name ≡ true) name_is names h.each)))
    (differ_pairs names h.differ)

-- ---- the bytes of outputs

output_front : (o : NamedOutput) (rest : List ℕ) → output_at (named_output_bytes o ++ rest) ≡ a_part (o, rest)
output_front o rest =
    let whole : nat_lt (length (o.name ++ rest)) (length o.name) ≡ false = le-ltb (length (o.name ++ rest)) (length o.name) (omega (arith, length-append o.name rest)) in
    let front : take (length o.name) (o.name ++ rest) ≡ o.name = take_at o.name rest (length o.name) refl in
    let back : drop (length o.name) (o.name ++ rest) ≡ rest = drop_at o.name rest (length o.name) refl in
    rw whole (λ i. a_part (record { name = front i; outcome = o.outcome }, back i))

pub outputs_back : (os : List NamedOutput) → outputs_in (length os) (flat_map named_output_bytes os) ≡ some_outputs os
unfolding outputs_in
outputs_back [] = refl
outputs_back (o ∷ os) = ap (after_output (outputs_in (length os))) (output_front o (flat_map named_output_bytes os)) ∙ ap (option_map (λ (l : List NamedOutput). o ∷ l)) (outputs_back os)

no_part : (x : NamedOutput × List ℕ) → None ≡ a_part x → ⊥
no_part x h = cc h

output_is : (b : List ℕ) (x : NamedOutput × List ℕ) → output_at b ≡ a_part x → b ≡ named_output_bytes x.0 ++ x.1
output_is [] x h = absurd (no_part x h)
output_is (outcome ∷ []) x h = absurd (no_part x h)
output_is (outcome ∷ (size ∷ rest)) x h =
    let parts = unless (nat_lt (length rest) size) (Some (record { name = take size rest; outcome = outcome }, drop size rest)) x h in
    let fits : size ≤ length rest = ltb-false (length rest) size parts.0 in
    let same : (record { name = take size rest; outcome = outcome }, drop size rest) ≡ x = same_value (record { name = take size rest; outcome = outcome }, drop size rest) x parts.1 in
    let long : length (take size rest) ≡ size = omega (arith, length-take size rest) in
    let encoded : outcome ∷ (size ∷ rest) ≡ outcome ∷ (length (take size rest) ∷ (take size rest ++ drop size rest)) = (λ i. outcome ∷ (sym long i ∷ sym (take-append-drop size rest) i)) in
    encoded ∙ ap (λ (y : NamedOutput × List ℕ). named_output_bytes y.0 ++ y.1) same

no_outputs_in : (os : List NamedOutput) → None ≡ some_outputs os → ⊥
no_outputs_in os h = cc h

mapped : {A B : Type 0} (f : A → B) (o : Option A) (y : B) → option_map f o ≡ Some y → (x : A) × (o ≡ Some x) × (f x ≡ y)
mapped f None y h = absurd (cc h)
mapped f (Some x) y h = (x, refl, same_value (f x) y h)

behind : (others : List ℕ → Option (List NamedOutput)) (next : Option (NamedOutput × List ℕ)) (os : List NamedOutput) → after_output others next ≡ some_outputs os
    → (x : NamedOutput × List ℕ) × (rest : List NamedOutput) × (next ≡ a_part x) × (others x.1 ≡ some_outputs rest) × (x.0 ∷ rest ≡ os)
behind others None os h = absurd (no_outputs_in os h)
behind others (Some x) os h = let m = mapped (λ (l : List NamedOutput). x.0 ∷ l) (others x.1) os h in (x, m.0, refl, m.1, m.2)

pub outputs_were : (n : ℕ) (b : List ℕ) (os : List NamedOutput) → outputs_in n b ≡ some_outputs os → (n ≡ length os) × (b ≡ flat_map named_output_bytes os)
unfolding outputs_in
outputs_were zero [] os h = let none : [] ≡ os = same_value [] os h in (ap length none, ap (flat_map named_output_bytes) none)
outputs_were zero (c ∷ b) os h = absurd (no_outputs_in os h)
outputs_were (suc n) b os h =
    let x = behind (outputs_in n) (output_at b) os h in
    let rest = outputs_were n x.0.1 x.1 x.3 in (
      ap suc rest.0 ∙ ap length x.4,
      output_is b x.0 x.2 ∙ ap (λ (l : List ℕ). named_output_bytes x.0.0 ++ l) rest.1 ∙ ap (flat_map named_output_bytes) x.4,
    )

counted_were : (b : List ℕ) (os : List NamedOutput) → counted_outputs b ≡ some_outputs os → b ≡ length os ∷ flat_map named_output_bytes os
counted_were [] os h = absurd (no_outputs_in os h)
counted_were (count ∷ b) os h = let is = outputs_were count b os h in (λ i. is.0 i ∷ is.1 i)

were_allowed : (o : Option (List NamedOutput)) (os : List NamedOutput) → if_allowed o ≡ some_outputs os → (o ≡ some_outputs os) × AreOutputs (names_of os)
were_allowed None os h = absurd (no_outputs_in os h)
were_allowed (Some l) os h =
    let parts = where_so (are_outputs (names_of l)) (some_outputs l) os h in
    let same : l ≡ os = same_value l os parts.1 in
    (parts.1, subst (λ (x : List NamedOutput). AreOutputs (names_of x)) same (outputs_are (names_of l) parts.0))

-- ---- the tag before them

-- metadata by their first six bytes
abbrev six_and : ℕ → List ℕ → List ℕ
six_and size rest = 241 ∷ 119 ∷ 0 ∷ 2 ∷ (size / 256 % 256) ∷ (size % 256) ∷ rest

two_back : (n : ℕ) → n < 2 ^ 16 → two_bytes (n / 256 % 256) (n % 256) ≡ a_size n
two_back n lt =
    let high : nat_lt (n / 256 % 256) 256 ≡ true = lt-ltb (n / 256 % 256) 256 (omega arith) in
    let low : nat_lt (n % 256) 256 ≡ true = lt-ltb (n % 256) 256 (omega arith) in
    let all : (n / 256 % 256) * 256 + n % 256 ≡ n = omega arith in
    rw (high, low) (ap a_size all)

two_were : (high low size : ℕ) → two_bytes high low ≡ a_size size → (high < 256) × (low < 256) × (high * 256 + low ≡ size)
two_were high low size h =
    let parts = where_so (nat_lt high 256 && nat_lt low 256) (a_size (high * 256 + low)) size h in
    let bytes = both (nat_lt high 256) (nat_lt low 256) parts.0 in
    (ltb-true high 256 bytes.0, ltb-true low 256 bytes.1, same_value (high * 256 + low) size parts.1)

split_back : (tag rest : List ℕ) → split (tag ++ rest) (a_size (length tag)) ≡ two_parts (tag, rest)
split_back tag rest =
    let whole : nat_lt (length (tag ++ rest)) (length tag) ≡ false = le-ltb (length (tag ++ rest)) (length tag) (omega (arith, length-append tag rest)) in
    let front : take (length tag) (tag ++ rest) ≡ tag = take_at tag rest (length tag) refl in
    let back : drop (length tag) (tag ++ rest) ≡ rest = drop_at tag rest (length tag) refl in
    rw whole (λ i. two_parts (front i, back i))

no_parts : (p : List ℕ × List ℕ) → None ≡ two_parts p → ⊥
no_parts p h = cc h

split_were : (rest : List ℕ) (o : Option ℕ) (p : List ℕ × List ℕ) → split rest o ≡ two_parts p → (size : ℕ) × (o ≡ a_size size) × (length p.0 ≡ size) × (rest ≡ p.0 ++ p.1)
split_were rest None p h = absurd (no_parts p h)
split_were rest (Some size) p h =
    let parts = unless (nat_lt (length rest) size) (two_parts (take size rest, drop size rest)) p h in
    let fits : size ≤ length rest = ltb-false (length rest) size parts.0 in
    let same : (take size rest, drop size rest) ≡ p = same_value (take size rest, drop size rest) p parts.1 in
    let long : length (take size rest) ≡ size = omega (arith, length-take size rest) in
    (size, refl, ap (λ (q : List ℕ × List ℕ). length q.0) (sym same) ∙ long, sym (take-append-drop size rest) ∙ ap (λ (q : List ℕ × List ℕ). q.0 ++ q.1) same)

parts_back : (tag rest : List ℕ) → length tag < 2 ^ 16 → named_parts (six_and (length tag) (tag ++ rest)) ≡ two_parts (tag, rest)
parts_back tag rest lt =
    let n = length tag in
    let meta = six_and n (tag ++ rest) in
    let long : nat_lt (length meta) 6 ≡ false = le-ltb (length meta) 6 (omega arith) in
    ap (λ (b : Bool). if b then None else split (tag ++ rest) (two_bytes (n / 256 % 256) (n % 256))) long ∙ ap (split (tag ++ rest)) (two_back n lt) ∙ split_back tag rest

six_bytes : (meta : List ℕ) → 6 ≤ length meta
    → meta ≡ get_or meta 0 0 ∷ get_or meta 1 0 ∷ get_or meta 2 0 ∷ get_or meta 3 0 ∷ get_or meta 4 0 ∷ get_or meta 5 0 ∷ drop 6 meta
six_bytes [] le = absurd (omega arith)
six_bytes (a ∷ []) le = absurd (omega arith)
six_bytes (a ∷ (b ∷ [])) le = absurd (omega arith)
six_bytes (a ∷ (b ∷ (c ∷ []))) le = absurd (omega arith)
six_bytes (a ∷ (b ∷ (c ∷ (d ∷ [])))) le = absurd (omega arith)
six_bytes (a ∷ (b ∷ (c ∷ (d ∷ (e ∷ []))))) le = absurd (omega arith)
six_bytes (a ∷ (b ∷ (c ∷ (d ∷ (e ∷ (f ∷ rest)))))) le = refl

parts_were : (meta : List ℕ) (p : List ℕ × List ℕ) → named_parts meta ≡ two_parts p → (length p.0 < 2 ^ 16) × (meta ≡ six_and (length p.0) (p.0 ++ p.1))
parts_were meta p h =
    let rest = drop 6 meta in
    let high = get_or meta 4 0 in
    let low = get_or meta 5 0 in
    let long = unless (nat_lt (length meta) 6) (if is_naming meta then split rest (two_bytes high low) else None) p h in
    let naming = where_so (is_naming meta) (split rest (two_bytes high low)) p long.1 in
    let last = both (is_typed meta && (get_or meta 2 0 == 0)) (get_or meta 3 0 == 2) naming.0 in
    let third = both (is_typed meta) (get_or meta 2 0 == 0) last.0 in
    let first = both (get_or meta 0 0 == 241) (get_or meta 1 0 == 119) third.0 in
    let parts = split_were rest (two_bytes high low) p naming.1 in
    let two = two_were high low parts.0 parts.1 in
    let one-is : get_or meta 0 0 ≡ 241 = eqb-true (get_or meta 0 0) 241 first.0 in
    let two-is : get_or meta 1 0 ≡ 119 = eqb-true (get_or meta 1 0) 119 first.1 in
    let three-is : get_or meta 2 0 ≡ 0 = eqb-true (get_or meta 2 0) 0 third.1 in
    let four-is : get_or meta 3 0 ≡ 2 = eqb-true (get_or meta 3 0) 2 last.1 in
    let high-is : high ≡ length p.0 / 256 % 256 = omega (arith, two.0, two.1, two.2, parts.2) in
    let low-is : low ≡ length p.0 % 256 = omega (arith, two.0, two.1, two.2, parts.2) in (
      omega (arith, two.0, two.1, two.2, parts.2),
      six_bytes meta (ltb-false (length meta) 6 long.0) ∙ (λ i. one-is i ∷ two-is i ∷ three-is i ∷ four-is i ∷ high-is i ∷ low-is i ∷ parts.3 i),
    )

-- ---- all together

no_meaning : (m : MetadataMeaning) → None ≡ a_meaning m → ⊥
no_meaning m h = cc h

by_parts : (o : Option (List ℕ × List ℕ)) (m : MetadataMeaning) → named_by o ≡ a_meaning m → (p : List ℕ × List ℕ) × (o ≡ two_parts p) × (option_map (with_tag p.0) (if_allowed (counted_outputs p.1)) ≡ a_meaning m)
by_parts None m h = absurd (no_meaning m h)
by_parts (Some p) m h = (p, refl, h)

pub named_were : (meta : List ℕ) (m : MetadataMeaning) → parse_named meta ≡ Some m → (meta ≡ named_meta_bytes m.tag m.outputs) × (length m.tag < 2 ^ 16) × AreOutputs (names_of m.outputs)
unfolding parse_named
named_were meta m h =
    let x = by_parts (named_parts meta) m h in
    let p = x.0 in
    let with_outputs = mapped (with_tag p.0) (if_allowed (counted_outputs p.1)) m x.2 in
    let os = with_outputs.0 in
    let are = were_allowed (counted_outputs p.1) os with_outputs.1 in
    let encoded : p.1 ≡ length os ∷ flat_map named_output_bytes os = counted_were p.1 os are.0 in
    let parts = parts_were meta p x.1 in
    let all : meta ≡ named_meta_bytes p.0 os = parts.1 ∙ ap (λ (l : List ℕ). six_and (length p.0) (p.0 ++ l)) encoded in
    let meaning : with_tag p.0 os ≡ m = with_outputs.2 in (
      all ∙ ap (λ (n : MetadataMeaning). named_meta_bytes n.tag n.outputs) meaning,
      subst (λ (n : MetadataMeaning). length n.tag < 2 ^ 16) meaning parts.0,
      subst (λ (n : MetadataMeaning). AreOutputs (names_of n.outputs)) meaning are.1,
    )

pub named_back : (tag : List ℕ) (os : List NamedOutput) → length tag < 2 ^ 16 → AreOutputs (names_of os) → parse_named (named_meta_bytes tag os) ≡ Some (with_tag tag os)
unfolding parse_named
named_back tag os lt are =
    let behind = length os ∷ flat_map named_output_bytes os in
    ap named_by (parts_back tag behind lt)
    ∙ ap (λ (o : Option (List NamedOutput)). option_map (with_tag tag) (if_allowed o)) (outputs_back os)
    ∙ ap (λ (b : Bool). option_map (with_tag tag) (if b then some_outputs os else None)) (are_allowed (names_of os) are)
