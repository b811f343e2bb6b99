-- The bytes of a content, after writes before it and at its end.
use Rattle.std.proofs.Common.{◌≡◌, ℕ, ◌+◌, ◌-◌, ◌<◌, ◌≤◌, nat_le, Bool, true, false, List, [], ◌++◌, length, take, drop, refl, sym, ◌∙◌, ap, arith, append_assoc, length-append, take-append-drop}
use Rattle.std.proofs.lemmas.Bool.{leb-true, leb-false}
use Rattle.std.proofs.lemmas.List.{take_all, take_at, take-append-le, drop_all, drop_at, drop-append-le, drop-drop, length-drop, length-take-le}
use Rattle.fwd_outside.specs.File.{overwritten}
use Rattle.fwd_chunk.specs.Layout.{part, new_header, new_meta, new_file}

-- bytes after those that are written don't change
drop-overwritten : (old : List ℕ) (at : ℕ) (bytes : List ℕ) (from : ℕ) → at ≤ length old → at + length bytes ≤ from → drop from (overwritten old at bytes) ≡ drop from old
drop-overwritten old at bytes from le before =
    let written : List ℕ = take at old ++ bytes in
    let end : ℕ = at + length bytes in
    let long : length written ≡ end = length-append (take at old) bytes ∙ ap (λ (n : ℕ). n + length bytes) (length-take-le at old le) in
    let more : from ≡ end + (from - end) = omega (arith, before) in
    let behind : drop end (overwritten old at bytes) ≡ drop end old = drop_at written (drop end old) end long in
    ap (λ (n : ℕ). drop n (overwritten old at bytes)) more ∙ sym (drop-drop (from - end) end (overwritten old at bytes)) ∙ ap (λ (l : List ℕ). drop (from - end) l) behind ∙ drop-drop (from - end) end old
    ∙ ap (λ (n : ℕ). drop n old) (sym more)

pub part_after : (old : List ℕ) (at : ℕ) (bytes : List ℕ) (from count : ℕ) → at ≤ length old → at + length bytes ≤ from → part (overwritten old at bytes) from count ≡ part old from count
part_after old at bytes from count le before = ap (λ (l : List ℕ). take count l) (drop-overwritten old at bytes from le before)

part_front : (front rest : List ℕ) (from count : ℕ) → from + count ≤ length front → part (front ++ rest) from count ≡ part front from count
part_front front rest from count le =
    ap (λ (l : List ℕ). take count l) (drop-append-le from front rest (omega (arith, le))) ∙ take-append-le count (drop from front) rest (omega (arith, le, length-drop from front))

-- a part before those that are written doesn't either
pub part_before : (old : List ℕ) (at : ℕ) (bytes : List ℕ) (from count : ℕ) → at ≤ length old → from + count ≤ at → part (overwritten old at bytes) from count ≡ part old from count
part_before old at bytes from count le before =
    let front : List ℕ = take at old in
    let rest : List ℕ = drop (at + length bytes) old in
    let inside : from + count ≤ length front = omega (arith, before, length-take-le at old le) in
    ap (λ (l : List ℕ). part l from count) (append_assoc front bytes rest) ∙ part_front front (bytes ++ rest) from count inside ∙ sym (part_front front (drop at old) from count inside)
    ∙ ap (λ (l : List ℕ). part l from count) (take-append-drop at old)

-- the content of a new file
pub part_new : (tag batch : List ℕ) (outputs : List (List ℕ)) → part (new_file tag batch outputs) (24 + length (new_meta tag outputs)) (length batch) ≡ batch
part_new tag batch outputs =
    let meta : List ℕ = new_meta tag outputs in
    let header : List ℕ = new_header (length meta) (length batch) in
    let long : length (header ++ meta) ≡ 24 + length meta = length-append header meta in
    ap (λ (l : List ℕ). take (length batch) l) (drop_at (header ++ meta) batch (24 + length meta) long) ∙ take_all (length batch) batch (omega arith)

-- what was read in a prefix of the bytes is there in all of them
pub part_of_all : (all content : List ℕ) (cut from count : ℕ) → content ≡ part (take cut all) from count → part all from (length content) ≡ content
part_of_all all content cut from count is = by (nat_le from (length (take cut all))) refl
  where
    inside : from ≤ length (take cut all) → part all from (length content) ≡ content
    inside le =
        let behind : drop from all ≡ drop from (take cut all) ++ drop cut all = ap (λ (l : List ℕ). drop from l) (sym (take-append-drop cut all)) ∙ drop-append-le from (take cut all) (drop cut all) le in
        let rest : List ℕ = drop count (drop from (take cut all)) in
        let split : drop from (take cut all) ≡ content ++ rest = sym (take-append-drop count (drop from (take cut all))) ∙ ap (λ (l : List ℕ). l ++ rest) (sym is) in
        let whole : drop from all ≡ content ++ (rest ++ drop cut all) = behind ∙ ap (λ (l : List ℕ). l ++ drop cut all) split ∙ append_assoc content rest (drop cut all) in
        ap (λ (l : List ℕ). take (length content) l) whole ∙ take_at content (rest ++ drop cut all) (length content) refl

    outside : length (take cut all) < from → part all from (length content) ≡ content
    outside lt =
        let empty : drop from (take cut all) ≡ [] = drop_all from (take cut all) (omega (arith, lt)) in
        let none : content ≡ [] = is ∙ ap (λ (l : List ℕ). take count l) empty ∙ take_all count [] (omega arith) in
        ap (λ (l : List ℕ). part all from (length l)) none ∙ sym none

    by : (b : Bool) → nat_le from (length (take cut all)) ≡ b → part all from (length content) ≡ content
    by true is_le = inside (leb-true from (length (take cut all)) is_le)
    by false is_lt = outside (leb-false from (length (take cut all)) is_lt)
