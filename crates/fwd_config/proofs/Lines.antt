-- The lines of a text, and headers.
use Rattle.std.proofs.Common.{◌≡◌, ℕ, suc, ◌+◌, ◌-◌, ◌<◌, ◌≤◌, Bool, true, false, ◌&&◌, not, cond, if◌then◌else◌, eqb, nat_lt, List, [], ◌∷◌, ◌++◌, length, length-drop, take, drop, get_or, codes, refl, ap, subst, ◌∙◌, arith}
use Rattle.std.specs.Str.{bytes_eq}
use Rattle.std.specs.Cmp.Lexicographic.{bytes_decides}
use Rattle.std.specs.List.{onto_first}
use Rattle.std.proofs.lemmas.Bool.{lt-ltb, eqb-true}
use Rattle.std.proofs.Math.Seq.{take-nil}
use Rattle.std.proofs.lemmas.List.{take_all, drop_all, length-take-le}
use Rattle.std.proofs.lemmas.List.Sums.{split_at_first, passes_at_first}
use Rattle.fwd_config.specs.Line.{lines_of_parts, lines_of, Heading, NoHeading, heading_of}
use Rattle.std.specs.List.{slice_split, position_or_len, before_first, after_first}
use Rattle.std.specs.Str.Lines.{strip_carriage_return}
use Rattle.std.proofs.lemmas.List.Splits.{slice_split_first, slice_split-cons_no, length-slice_split}

abbrev is_line_feed : ℕ → Bool
is_line_feed b = eqb b 10

lines_of_more : (x : List ℕ) (parts : List (List ℕ)) → 0 < length parts → lines_of_parts (x ∷ parts) ≡ strip_carriage_return x ∷ lines_of_parts parts
lines_of_more x [] some = absurd (omega arith)
lines_of_more x (y ∷ more) some = refl

pub lines_first : (text : List ℕ) → position_or_len is_line_feed text < length text
    → lines_of text ≡ strip_carriage_return (before_first is_line_feed text) ∷ lines_of (after_first is_line_feed text)
lines_first text some =
    ap lines_of_parts (slice_split_first is_line_feed text 0 some)
    ∙ lines_of_more (before_first is_line_feed text) (slice_split is_line_feed (after_first is_line_feed text)) (omega (arith, length-slice_split is_line_feed (after_first is_line_feed text)))

pub first_line_is : (text line : List ℕ) (end : ℕ) → end ≡ position_or_len is_line_feed text → end < length text → line ≡ strip_carriage_return (take end text)
    → lines_of text ≡ line ∷ lines_of (take (length text - (end + 1)) (drop (end + 1) text))
first_line_is text line end at some is =
    let behind : take (length text - (end + 1)) (drop (end + 1) text) ≡ drop (end + 1) text = take_all _ _ (omega (arith, length-drop (end + 1) text)) in
    rw (behind, is, at) (lines_first text (rw (← at) some))

one_more : (x : ℕ) (xs : List ℕ) (b : Bool) → is_line_feed x ≡ b → suc (length xs) ≤ cond (not b) (1 + position_or_len is_line_feed xs) 0
    → (length xs ≤ position_or_len is_line_feed xs → slice_split is_line_feed xs ≡ xs ∷ []) → slice_split is_line_feed (x ∷ xs) ≡ (x ∷ xs) ∷ []
one_more x xs true is none rest = absurd (omega (arith, none))
one_more x xs false is none rest = slice_split-cons_no is_line_feed x xs is ∙ ap (onto_first x) (rest (omega (arith, none)))

one_part : (text : List ℕ) → length text ≤ position_or_len is_line_feed text → slice_split is_line_feed text ≡ text ∷ []
one_part [] none = refl
one_part (x ∷ xs) none = one_more x xs (is_line_feed x) refl none (one_part xs)

last_alone : (text : List ℕ) → 0 < length text → lines_of_parts (text ∷ []) ≡ strip_carriage_return text ∷ []
last_alone [] some = absurd (omega arith)
last_alone (x ∷ xs) some = grind arith

pub last_line_is : (text line : List ℕ) (end : ℕ) → end ≡ position_or_len is_line_feed text → 0 < length text → length text ≤ end → line ≡ strip_carriage_return text
    → lines_of text ≡ line ∷ lines_of (take (length text - end) (drop end text))
last_line_is text line end at some all is =
    let none : drop end text ≡ [] = drop_all end text all in
    let nothing : take (length text - end) (drop end text) ≡ [] = rw none (take-nil (length text - end)) in
    rw (nothing, is) (ap lines_of_parts (one_part text (rw (← at) all)) ∙ last_alone text some)

abbrev is_closing : ℕ → Bool
is_closing b = eqb b 93

closed : (text : List ℕ) (end : ℕ) → end ≡ position_or_len is_closing text → end + 1 ≡ length text → text ≡ take end text ++ 93 ∷ []
closed text end at last =
    let there : position_or_len is_closing text < length text = omega (arith, at) in
    let parts = split_at_first is_closing text 0 there in
    let byte : get_or text (position_or_len is_closing text) 0 ≡ 93 = eqb-true _ _ (passes_at_first is_closing text 0 there) in
    let behind : after_first is_closing text ≡ [] = drop_all _ text (omega (arith, at)) in
    rw at (parts ∙ rw (byte, behind) refl)

pub heading_is : (text : List ℕ) (end : ℕ) → end ≡ position_or_len is_closing text → 0 < end → end + 1 ≡ length text → Heading (take end text) ≡ heading_of text
heading_is text end at some last =
    let long : nat_lt 0 (length (take end text)) ≡ true = lt-ltb 0 _ (omega (arith, length-take-le end text (omega arith))) in
    let same : bytes_eq text (take end text ++ 93 ∷ []) ≡ true = (bytes_decides text (take end text ++ 93 ∷ [])).1 (closed text end at last) in
    subst (λ (n : ℕ). Heading (take end text) ≡ (if nat_lt 0 (length (take n text)) && bytes_eq text (take n text ++ codes "]") then Heading (take n text) else NoHeading)) at
    (rw (long, same) refl)

pub no_line : (text : List ℕ) → length text ≡ 0 → lines_of text ≡ []
no_line [] none = refl
no_line (x ∷ xs) none = absurd (omega arith)
