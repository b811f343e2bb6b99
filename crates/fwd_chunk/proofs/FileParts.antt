-- What a chunk file represents depends on some of its bytes alone.
use Rattle.std.proofs.Common.{◌≡◌, ◌⊎◌, inl, inr, ⊎_elim, ◌==◌, if◌then◌else◌, ℕ, zero, suc, ◌+◌, ◌-◌, ◌%◌, ◌<◌, ◌≤◌, ◌^◌, Bool, true, false, List, ◌++◌, length, get_or, take, drop, refl, sym, ◌∙◌, ap, subst, arith, add-zero, length-append}
use Rattle.std.specs.Int.{to_be_bytes, w32}
use Rattle.std.proofs.lemmas.Grind.{common_steps}
use Rattle.std.proofs.lemmas.List.{ext_get_or, get_or-take, get_or-drop, drop-append-le, drop-take, take_at}
use Rattle.fwd_base.specs.Limits.{longest_file}
use Rattle.fwd_outside.specs.File.{overwritten}
use Rattle.fwd_outside.proofs.KeepsBytes.{get_or-overwritten_in}
use Rattle.fwd_chunk.specs.Layout.{number_at, chosen, other, meta_length, selector_of, committed_length, part, HasParts}
use Rattle.fwd_chunk.specs.Append.{next_selector}

pub length-part : (bytes : List ℕ) (from count : ℕ) → from + count ≤ length bytes → length (part bytes from count) ≡ count
length-part bytes from count le = grind (arith, common_steps)

pub part_same : (a b : List ℕ) (from count : ℕ) → from + count ≤ length a → from + count ≤ length b
    → ((i : ℕ) → from ≤ i → i < from + count → get_or a i 0 ≡ get_or b i 0) → part a from count ≡ part b from count
part_same a b from count in_a in_b same =
    let la = length-part a from count in_a in
    let lb = length-part b from count in_b in
    ext_get_or 0 (part a from count) (part b from count) (la ∙ sym lb) (λ i lt.
    let lt' : i < count = omega arith in
    get_or-take count (drop from a) i 0 lt' ∙ get_or-drop from a i 0 ∙ same (from + i) (omega arith) (omega arith) ∙ sym (get_or-drop from b i 0) ∙ sym (get_or-take count (drop from b) i 0 lt'))

-- the offsets that count, for a known slot and a known end
abbrev pub Counts : ℕ → ℕ → ℕ → Type 0
Counts slot end i = ((i < 7) ⊎ ((22 ≤ i) × (i < end))) ⊎ ((slot ≤ i) × (i < slot + 4))

pub number_same : (a b : List ℕ) (at : ℕ) → ((i : ℕ) → at ≤ i → i < at + 4 → get_or a i 0 ≡ get_or b i 0) → number_at a at ≡ number_at b at
number_same a b at same =
    let e0 = same at (omega arith) (omega arith) in
    let e1 = same (at + 1) (omega arith) (omega arith) in
    let e2 = same (at + 2) (omega arith) (omega arith) in
    let e3 = same (at + 3) (omega arith) (omega arith) in
    cc

pub has_parts_at : (first image : List ℕ) (mark meta slot size : ℕ) → length image ≤ longest_file → get_or first 0 0 ≡ 193 → get_or first 1 0 ≡ 0 → (mark ≡ 1) ⊎ (mark ≡ 2) → get_or first 6 0 ≡ mark
    → meta_length first ≡ meta → chosen (selector_of image) ≡ slot → number_at first slot ≡ size
    → 24 + meta + size ≤ length first → 24 + meta + size ≤ length image
    → ((i : ℕ) → Counts slot (24 + meta + size) i → get_or image i 0 ≡ get_or first i 0)
    → HasParts mark image (part first 24 meta) (part first (24 + meta) size)
has_parts_at first image mark meta slot size short id id_end marked mark_is meta_is chosen_is size_is in_first in_image same =
    let same_meta : meta_length image ≡ meta = (
    let e = same 22 (inl (inr (omega arith, omega arith))) in
    let f = same 23 (inl (inr (omega arith, omega arith))) in
    let same_of : meta_length image ≡ meta_length first = cc in same_of ∙ meta_is) in
    let same_size : committed_length image ≡ size = ap (λ (s : ℕ). number_at image s) chosen_is ∙ number_same image first slot (λ i le lt. same i (inr (le, lt))) ∙ size_is in
    record {
      short = short;
      id = same 0 (inl (inl (omega arith))) ∙ id;
      id_end = same 1 (inl (inl (omega arith))) ∙ id_end;
      marked = marked;
      mark_is = same 6 (inl (inl (omega arith))) ∙ mark_is;
      fits = omega arith;
      meta_is = part_same first image 24 meta (omega arith) (omega arith) (λ i le lt. sym (same i (inl (inr (omega arith, omega arith))))) ∙ ap (λ (m : ℕ). part image 24 m) (sym same_meta);
      content_is = part_same first image (24 + meta) size in_first in_image (λ i le lt. sym (same i (inl (inr (omega arith, omega arith))))) ∙ cc;
    }

pub slots : (selector : ℕ) → ((chosen selector ≡ 14) × (other selector ≡ 18)) ⊎ ((chosen selector ≡ 18) × (other selector ≡ 14))
slots selector = by_parity (selector % 2 == 0)
  where
    by_parity : (b : Bool) → (let x : ℕ = if b then 14 else 18 in let y : ℕ = if b then 18 else 14 in ((x ≡ 14) × (y ≡ 18)) ⊎ ((x ≡ 18) × (y ≡ 14)))
    by_parity true = inl (refl, refl)
    by_parity false = inr (refl, refl)

pub chosen_or : (a b : ℕ) → (chosen a ≡ chosen b) ⊎ (chosen a ≡ other b)
chosen_or a b = ⊎_elim (λ x. ⊎_elim (λ y. inl (x.0 ∙ sym y.0)) (λ y. inr (x.0 ∙ sym y.1)) (slots b)) (λ x. ⊎_elim (λ y. inr (x.0 ∙ sym y.1)) (λ y. inl (x.0 ∙ sym y.0)) (slots b)) (slots a)

pub chosen_next : (selector : ℕ) → chosen (next_selector selector) ≡ other selector
chosen_next selector = ap choose parity ∙ turned (selector % 2) below
  where
    choose : ℕ → ℕ
    choose r = if r == 0 then 14 else 18

    parity : next_selector selector % 2 ≡ 1 - selector % 2
    parity = omega arith

    below : selector % 2 < 2
    below = omega arith

    turned : (r : ℕ) → r < 2 → choose (1 - r) ≡ (if r == 0 then 18 else 14)
    turned zero lt = refl
    turned (suc zero) lt = refl
    turned (suc (suc r)) lt = absurd (omega (arith, lt))

pub parts_as : (mark : ℕ) (image a b meta content : List ℕ) → meta ≡ a → content ≡ b → HasParts mark image a b → HasParts mark image meta content
parts_as mark image a b meta content is_a is_b parts = subst (λ (m : List ℕ). HasParts mark image m content) (sym is_a) (subst (λ (x : List ℕ). HasParts mark image a x) (sym is_b) parts)

-- a number that was written is read back
pub number_in : (old : List ℕ) (at : ℕ) (bytes : List ℕ) → at ≤ length old → length bytes ≡ 4 → number_at (overwritten old at bytes) at ≡ number_at bytes 0
number_in old at bytes le four =
    let e0 : get_or (overwritten old at bytes) at 0 ≡ get_or bytes 0 0 = ap (λ (i : ℕ). get_or (overwritten old at bytes) i 0) (sym (add-zero at)) ∙ get_or-overwritten_in old at bytes 0 le (omega arith) in
    let e1 = get_or-overwritten_in old at bytes 1 le (omega arith) in
    let e2 = get_or-overwritten_in old at bytes 2 le (omega arith) in
    let e3 = get_or-overwritten_in old at bytes 3 le (omega arith) in
    cc

pub number_of_bytes : (n : ℕ) → n < 2 ^ 32 → number_at (to_be_bytes w32 n) 0 ≡ n
number_of_bytes n lt = omega (arith, lt)

-- a part, and what is written after it
pub part_and_batch : (first batch : List ℕ) (from size : ℕ) → from + size ≤ length first → part (overwritten first (from + size) batch) from (size + length batch) ≡ part first from size ++ batch
part_and_batch first batch from size le =
    let front = take (from + size) first in
    let rest = drop (from + size + length batch) first in
    let long : length front ≡ from + size = grind (arith, common_steps) in
    let split : drop from (front ++ batch ++ rest) ≡ part first from size ++ batch ++ rest =
    drop-append-le from (front ++ batch) rest (omega (arith, length-append front batch))
    ∙ ap (λ (l : List ℕ). l ++ rest) (drop-append-le from front batch (omega arith) ∙ ap (λ (l : List ℕ). l ++ batch) (drop-take from size first)) in
    ap (λ (l : List ℕ). take (size + length batch) l) split
    ∙ take_at (part first from size ++ batch) rest (size + length batch) (length-append (part first from size) batch ∙ ap (λ (n : ℕ). n + length batch) (length-part first from size le))
