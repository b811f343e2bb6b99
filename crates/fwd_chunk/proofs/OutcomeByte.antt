-- Each post-crash state while one byte of the metadata is written.
use Rattle.std.proofs.Common.{◌≡◌, ◌≢◌, ◌⊎◌, inl, inr, ⊎_elim, ℕ, zero, suc, ◌+◌, ◌-◌, ◌<◌, ◌≤◌, ◌==◌, Bool, true, false, if◌then◌else◌, Option, Some, None, List, [], ◌∷◌, ◌++◌, length, map, get_or, drop, refl, sym, ◌∙◌, ap, arith, length-append}
use Rattle.std.specs.Prelude.{flat_map}
use Rattle.std.specs.Str.{bytes_eq}
use Rattle.std.specs.Int.{to_be_bytes, w16}
use Rattle.std.proofs.lemmas.Bool.{cases_lt}
use Rattle.std.proofs.lemmas.List.{ext_get_or, append_assoc, get_or-take, get_or-drop}
use Rattle.fwd_outside.specs.PostCrash.{DiffersAtMostAt}
use Rattle.fwd_chunk.specs.declared.append.ChunkHead.{ChunkHead}
use Rattle.fwd_chunk.specs.Layout.{part, number_at, chosen, meta_length, selector_of, committed_length, NamedOutput, named_output_bytes, named_meta_bytes}
use Rattle.fwd_chunk.specs.Outcome.{named_length, bytes_from, place_before, outcome_place, with_outcome, HasOutputs}
use Rattle.fwd_chunk.proofs.FileParts.{length-part, part_same, number_same, slots}

-- the first output of a name splits the bytes of all outputs at its outcome
pub record Parted (output : List ℕ) (outputs : List NamedOutput) (count : ℕ) : Type 0 where
  pub front : List ℕ
  pub back : List ℕ
  pub outcome : ℕ
  pub is : flat_map named_output_bytes outputs ≡ front ++ outcome ∷ back
  pub others : (o : ℕ) → flat_map named_output_bytes (with_outcome output o outputs) ≡ front ++ o ∷ back
  pub long : length (outcome ∷ back) ≡ count

pub length-outputs_bytes : (outputs : List NamedOutput) → length (flat_map named_output_bytes outputs) ≡ named_length (map (λ (o : NamedOutput). o.name) outputs)
length-outputs_bytes [] = refl
length-outputs_bytes (o ∷ os) = omega (arith, length-outputs_bytes os, length-append o.name (flat_map named_output_bytes os))

parted_by : (output : List ℕ) (o : NamedOutput) (os : List NamedOutput) (count : ℕ) (b : Bool) → bytes_eq o.name output ≡ b
    → (if b then Some (named_length (map (λ (o : NamedOutput). o.name) (o ∷ os))) else bytes_from output (map (λ (o : NamedOutput). o.name) os)) ≡ Some count
    → (bytes_from output (map (λ (o : NamedOutput). o.name) os) ≡ Some count → Parted output os count) → Parted output (o ∷ os) count
parted_by output o os count true same found rest = record {
  front = [];
  back = length o.name ∷ o.name ++ flat_map named_output_bytes os;
  outcome = o.outcome;
  is = refl;
  others = λ x. ap (λ (b : Bool). flat_map named_output_bytes (if b then record { name = o.name; outcome = x } ∷ os else o ∷ with_outcome output x os)) same;
  long = length-outputs_bytes (o ∷ os) ∙ cc found;
}
parted_by output o os count false other found go =
    let rest = go found in
    record {
      front = named_output_bytes o ++ rest.front;
      back = rest.back;
      outcome = rest.outcome;
      is = ap (λ (l : List ℕ). named_output_bytes o ++ l) rest.is ∙ sym (append_assoc (named_output_bytes o) rest.front (rest.outcome ∷ rest.back));
      others = λ x. ap (λ (b : Bool). flat_map named_output_bytes (if b then record { name = o.name; outcome = x } ∷ os else o ∷ with_outcome output x os)) other ∙ ap (λ (l : List ℕ). named_output_bytes o ++ l) (rest.others x) ∙ sym (append_assoc (named_output_bytes o) rest.front (x ∷ rest.back));
      long = rest.long;
    }

pub parted : (output : List ℕ) (outputs : List NamedOutput) (count : ℕ) → bytes_from output (map (λ (o : NamedOutput). o.name) outputs) ≡ Some count → Parted output outputs count
parted output [] count is = absurd (cc is)
parted output (o ∷ os) count is =
    parted_by output o os count (bytes_eq o.name output) refl is (λ found. parted output os count found)

same_names_by : (b : Bool) (x : ℕ) (o : NamedOutput) (os with_ : List NamedOutput) → map (λ (o : NamedOutput). o.name) with_ ≡ map (λ (o : NamedOutput). o.name) os
    → map (λ (o : NamedOutput). o.name) (if b then record { name = o.name; outcome = x } ∷ os else o ∷ with_) ≡ o.name ∷ map (λ (o : NamedOutput). o.name) os
same_names_by true x o os with_ same = refl
same_names_by false x o os with_ same = ap (λ (l : List (List ℕ)). o.name ∷ l) same

pub same_names : (output : List ℕ) (x : ℕ) (outputs : List NamedOutput) → map (λ (o : NamedOutput). o.name) (with_outcome output x outputs) ≡ map (λ (o : NamedOutput). o.name) outputs
same_names output x [] = refl
same_names output x (o ∷ os) = same_names_by (bytes_eq o.name output) x o os (with_outcome output x os) (same_names output x os)

same_count_by : (b : Bool) (x : ℕ) (o : NamedOutput) (os with_ : List NamedOutput) → length with_ ≡ length os → length (if b then record { name = o.name; outcome = x } ∷ os else o ∷ with_) ≡ length (o ∷ os)
same_count_by true x o os with_ same = refl
same_count_by false x o os with_ same = ap (λ (n : ℕ). suc n) same

pub same_count : (output : List ℕ) (x : ℕ) (outputs : List NamedOutput) → length (with_outcome output x outputs) ≡ length outputs
same_count output x [] = refl
same_count output x (o ∷ os) = same_count_by (bytes_eq o.name output) x o os (with_outcome output x os) (same_count output x os)

-- an outcome that changes nothing
kept_by : (b : Bool) (o : NamedOutput) (os : List NamedOutput) (with_ : ℕ → List NamedOutput) → (x : ℕ) × (with_ x ≡ os) → (x : ℕ) × ((if b then record { name = o.name; outcome = x } ∷ os else o ∷ with_ x) ≡ o ∷ os)
kept_by true o os with_ rest = (o.outcome, refl)
kept_by false o os with_ rest = (rest.0, ap (λ (l : List NamedOutput). o ∷ l) rest.1)

pub kept_outcome : (output : List ℕ) (outputs : List NamedOutput) → (x : ℕ) × (with_outcome output x outputs ≡ outputs)
kept_outcome output [] = (0, refl)
kept_outcome output (o ∷ os) = kept_by (bytes_eq o.name output) o os (λ x. with_outcome output x os) (kept_outcome output os)

at_least_by : (b : Bool) (name : List ℕ) (names : List (List ℕ)) (rest : Option ℕ) (count : ℕ) → (if b then Some (named_length (name ∷ names)) else rest) ≡ Some count → (rest ≡ Some count → 2 ≤ count) → 2 ≤ count
at_least_by true name names rest count is go = let e : named_length (name ∷ names) ≡ count = cc is in omega (arith, e)
at_least_by false name names rest count is go = go is

at_least : (output : List ℕ) (names : List (List ℕ)) (count : ℕ) → bytes_from output names ≡ Some count → 2 ≤ count
at_least output [] count is = absurd (cc is)
at_least output (name ∷ names) count is = at_least_by (bytes_eq name output) name names (bytes_from output names) count is (λ rest. at_least output names count rest)

-- lists that differ in one element
get_or-beside : (front back : List ℕ) (x y i : ℕ) → i ≢ length front → get_or (front ++ x ∷ back) i 0 ≡ get_or (front ++ y ∷ back) i 0
get_or-beside [] back x y zero ne = absurd (ne refl)
get_or-beside [] back x y (suc i) ne = refl
get_or-beside (a ∷ front) back x y zero ne = refl
get_or-beside (a ∷ front) back x y (suc i) ne = get_or-beside front back x y i (λ e. ne (ap (λ (n : ℕ). suc n) e))

get_or-here : (front back : List ℕ) (x : ℕ) → get_or (front ++ x ∷ back) (length front) 0 ≡ x
get_or-here [] back x = refl
get_or-here (a ∷ front) back x = get_or-here front back x

-- the metadata, split at the outcome
pub record MetaParted (output tag : List ℕ) (outputs : List NamedOutput) (count : ℕ) : Type 0 where
  pub front : List ℕ
  pub back : List ℕ
  pub outcome : ℕ
  pub is : named_meta_bytes tag outputs ≡ front ++ outcome ∷ back
  pub others : (o : ℕ) → named_meta_bytes tag (with_outcome output o outputs) ≡ front ++ o ∷ back
  pub at : length front + count ≡ length (named_meta_bytes tag outputs)
  pub far : 7 ≤ length front
  pub counted : 2 ≤ count

meta_parted : (output tag : List ℕ) (outputs : List NamedOutput) (count : ℕ) → bytes_from output (map (λ (o : NamedOutput). o.name) outputs) ≡ Some count → MetaParted output tag outputs count
meta_parted output tag outputs count is =
    let p = parted output outputs count is in
    let n = length outputs in
    record {
      front = 241 ∷ 119 ∷ 0 ∷ 2 ∷ to_be_bytes w16 (length tag) ++ tag ++ n ∷ p.front;
      back = p.back;
      outcome = p.outcome;
      is = ap (λ (l : List ℕ). 241 ∷ 119 ∷ 0 ∷ 2 ∷ to_be_bytes w16 (length tag) ++ tag ++ n ∷ l) p.is ∙ sym (joined n p.front (p.outcome ∷ p.back));
      others = λ o.
          ap (λ (l : List ℕ). 241 ∷ 119 ∷ 0 ∷ 2 ∷ to_be_bytes w16 (length tag) ++ tag ++ length (with_outcome output o outputs) ∷ l) (p.others o)
          ∙ ap (λ (m : ℕ). 241 ∷ 119 ∷ 0 ∷ 2 ∷ to_be_bytes w16 (length tag) ++ tag ++ m ∷ (p.front ++ o ∷ p.back)) (same_count output o outputs)
          ∙ sym (joined n p.front (o ∷ p.back));
      at = omega (arith, length-append tag (n ∷ p.front), length-append tag (n ∷ flat_map named_output_bytes outputs), p.long, ap (λ (l : List ℕ). length l) p.is, length-append p.front (p.outcome ∷ p.back));
      far = omega (arith, length-append tag (n ∷ p.front));
      counted = at_least output (map (λ (o : NamedOutput). o.name) outputs) count is;
    }
  where
    joined : (n : ℕ) (front back : List ℕ) → (241 ∷ 119 ∷ 0 ∷ 2 ∷ to_be_bytes w16 (length tag) ++ tag ++ n ∷ front) ++ back ≡ 241 ∷ 119 ∷ 0 ∷ 2 ∷ to_be_bytes w16 (length tag) ++ tag ++ n ∷ (front ++ back)
    joined n front back = ap (λ (l : List ℕ). 241 ∷ 119 ∷ 0 ∷ 2 ∷ to_be_bytes w16 (length tag) ++ l) (append_assoc tag (n ∷ front) back)

-- the offset of the outcome
pub record Placed (head : ChunkHead) (output : List ℕ) (place : ℕ) : Type 0 where
  pub count : ℕ
  pub from : bytes_from output head.outputs ≡ Some count
  pub is : place ≡ 24 + head.meta - count

pub placed_at : (head : ChunkHead) (output : List ℕ) (place : ℕ) → outcome_place head output ≡ Some place → Placed head output place
placed_at head output place is = by (head.mark == 2) refl
  where
    found : (o : Option ℕ) → bytes_from output head.outputs ≡ o → place_before (24 + head.meta) o ≡ Some place → (count : ℕ) × (bytes_from output head.outputs ≡ Some count) × (place ≡ 24 + head.meta - count)
    found None e none = absurd (cc none)
    found (Some count) e some = (count, e, sym (cc some))

    by : (b : Bool) → (head.mark == 2) ≡ b → Placed head output place
    by true same =
        let at : place_before (24 + head.meta) (bytes_from output head.outputs) ≡ Some place = ap (λ (b : Bool). if b then place_before (24 + head.meta) (bytes_from output head.outputs) else None) (sym same) ∙ is in
        let f = found (bytes_from output head.outputs) refl at in
        record { count = f.0; from = f.1; is = f.2 }
    by false other =
        let no : None ≡ Some place = ap (λ (b : Bool). if b then place_before (24 + head.meta) (bytes_from output head.outputs) else None) (sym other) ∙ is in
        absurd (cc no)

-- a file that names the outputs, with any byte at the place
module _ (head : ChunkHead) (output : List ℕ) (place : ℕ) (at_place : Placed head output place) (tag : List ℕ) (outputs : List NamedOutput) (content was : List ℕ) (is : HasOutputs head tag outputs content was) where
  parts_at : MetaParted output tag outputs at_place.count
  parts_at = meta_parted output tag outputs at_place.count (ap (bytes_from output) (sym is.names) ∙ at_place.from)

  -- the length of the metadata
  long : meta_length was ≡ head.meta
  long = sym (is.long ∙ ap (λ (l : List ℕ). length l) is.parts.meta_is ∙ length-part was 24 (meta_length was) (omega (arith, is.parts.fits)))

  front_at : 24 + length parts_at.front ≡ place
  front_at = omega (arith, parts_at.at, is.long, at_place.is)

  pub low : 31 ≤ place
  low = omega (arith, front_at, parts_at.far)

  pub high : place < 24 + head.meta
  high = omega (arith, front_at, parts_at.at, parts_at.counted, is.long)

  pub inside : place < length was
  inside = omega (arith, high, long, is.parts.fits)

  module _ (image : List ℕ) (same : DiffersAtMostAt place image was) where
    abbrev now_ : ℕ
    now_ = get_or image place 0

    at_of : (i : ℕ) → i < 31 → get_or image i 0 ≡ get_or was i 0
    at_of i lt = same.same i (λ e. omega (arith, e, lt, low))

    meta_same : meta_length image ≡ meta_length was
    meta_same =
        let e = at_of 22 (omega arith) in
        let f = at_of 23 (omega arith) in
        cc

    selector_same : selector_of image ≡ selector_of was
    selector_same = at_of 7 (omega arith)

    slot_low : (s : ℕ) → chosen s ≤ 18
    slot_low s = ⊎_elim (λ x. omega (arith, x.0)) (λ x. omega (arith, x.0)) (slots s)

    committed_same : committed_length image ≡ committed_length was
    committed_same =
        ap (λ (s : ℕ). number_at image (chosen s)) selector_same
        ∙ number_same image was (chosen (selector_of was)) (λ i le lt. at_of i (omega (arith, lt, slot_low (selector_of was))))

    fits : 24 + meta_length image + committed_length image ≤ length image
    fits = omega (arith, meta_same, committed_same, same.long, is.parts.fits)

    length_meta : length (named_meta_bytes tag outputs) ≡ head.meta
    length_meta = sym is.long

    as_long : length (named_meta_bytes tag (with_outcome output now_ outputs)) ≡ length (named_meta_bytes tag outputs)
    as_long =
        ap (λ (l : List ℕ). length l) (parts_at.others now_) ∙ length-append parts_at.front (now_ ∷ parts_at.back)
        ∙ sym (ap (λ (l : List ℕ). length l) parts_at.is ∙ length-append parts_at.front (parts_at.outcome ∷ parts_at.back))

    part_long : length (part image 24 head.meta) ≡ head.meta
    part_long = length-part image 24 head.meta (omega (arith, fits, meta_same, long))

    at_in : (i : ℕ) → i < head.meta → get_or (part image 24 head.meta) i 0 ≡ get_or image (24 + i) 0
    at_in i lt = get_or-take head.meta (drop 24 image) i 0 lt ∙ get_or-drop 24 image i 0

    at_was : (i : ℕ) → i < head.meta → get_or (named_meta_bytes tag outputs) i 0 ≡ get_or was (24 + i) 0
    at_was i lt =
        ap (λ (l : List ℕ). get_or l i 0) (is.parts.meta_is ∙ ap (λ (m : ℕ). part was 24 m) long)
        ∙ get_or-take head.meta (drop 24 was) i 0 lt ∙ get_or-drop 24 was i 0

    at_each : (i : ℕ) → i < head.meta → (i < length parts_at.front) ⊎ (length parts_at.front ≤ i) → (length parts_at.front < i) ⊎ (i ≤ length parts_at.front) → get_or (named_meta_bytes tag (with_outcome output now_ outputs)) i 0 ≡ get_or (part image 24 head.meta) i 0
    at_each i lt (inl b) c = beside i lt (λ e. omega (arith, e, b))
      where
        beside : (i : ℕ) → i < head.meta → i ≢ length parts_at.front → get_or (named_meta_bytes tag (with_outcome output now_ outputs)) i 0 ≡ get_or (part image 24 head.meta) i 0
        beside i lt ne =
            ap (λ (l : List ℕ). get_or l i 0) (parts_at.others now_) ∙ get_or-beside parts_at.front parts_at.back now_ parts_at.outcome i ne ∙ ap (λ (l : List ℕ). get_or l i 0) (sym parts_at.is)
            ∙ at_was i lt ∙ sym (same.same (24 + i) (λ e. ne (omega (arith, e, front_at)))) ∙ sym (at_in i lt)
    at_each i lt (inr b) (inl c) = beside i lt (λ e. omega (arith, e, c))
      where
        beside : (i : ℕ) → i < head.meta → i ≢ length parts_at.front → get_or (named_meta_bytes tag (with_outcome output now_ outputs)) i 0 ≡ get_or (part image 24 head.meta) i 0
        beside i lt ne =
            ap (λ (l : List ℕ). get_or l i 0) (parts_at.others now_) ∙ get_or-beside parts_at.front parts_at.back now_ parts_at.outcome i ne ∙ ap (λ (l : List ℕ). get_or l i 0) (sym parts_at.is)
            ∙ at_was i lt ∙ sym (same.same (24 + i) (λ e. ne (omega (arith, e, front_at)))) ∙ sym (at_in i lt)
    at_each i lt (inr b) (inr c) =
        let here : i ≡ length parts_at.front = omega (arith, b, c) in
        let there : 24 + i ≡ place = omega (arith, here, front_at) in
        ap (λ (l : List ℕ). get_or l i 0) (parts_at.others now_) ∙ ap (λ (j : ℕ). get_or (parts_at.front ++ now_ ∷ parts_at.back) j 0) here ∙ get_or-here parts_at.front parts_at.back now_
        ∙ ap (λ (j : ℕ). get_or image j 0) (sym there) ∙ sym (at_in i lt)

    meta_now : named_meta_bytes tag (with_outcome output now_ outputs) ≡ part image 24 (meta_length image)
    meta_now =
        ext_get_or 0 (named_meta_bytes tag (with_outcome output now_ outputs)) (part image 24 head.meta) (as_long ∙ length_meta ∙ sym part_long)
        (λ i lt. let below : i < head.meta = omega (arith, lt, as_long, length_meta) in at_each i below (cases_lt i (length parts_at.front)) (cases_lt (length parts_at.front) i))
        ∙ ap (λ (m : ℕ). part image 24 m) (sym (meta_same ∙ long))

    content_now : content ≡ part image (24 + meta_length image) (committed_length image)
    content_now =
        is.parts.content_is
        ∙ part_same was image (24 + meta_length was) (committed_length was) (omega (arith, is.parts.fits)) (omega (arith, fits, meta_same, committed_same)) (λ i le lt. sym (same.same i (λ e. omega (arith, e, le, high, long))))
        ∙ ap (λ (m : ℕ). part image (24 + m) (committed_length was)) (sym meta_same) ∙ ap (λ (n : ℕ). part image (24 + meta_length image) n) (sym committed_same)

    pub named_now : HasOutputs head tag (with_outcome output now_ outputs) content image
    named_now = record {
      parts = record {
        short = omega (arith, same.long, is.parts.short);
        id = at_of 0 (omega arith) ∙ is.parts.id;
        id_end = at_of 1 (omega arith) ∙ is.parts.id_end;
        marked = inr refl;
        mark_is = at_of 6 (omega arith) ∙ is.parts.mark_is;
        fits = fits;
        meta_is = meta_now;
        content_is = content_now;
      };
      long = is.long ∙ sym as_long;
      names = is.names ∙ sym (same_names output now_ outputs);
    }
