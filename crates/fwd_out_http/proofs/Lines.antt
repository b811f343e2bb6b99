-- The lines of a reply's heads.
use Rattle.std.proofs.Common.{◌≡◌, ◌⊎◌, inl, inr, ℕ, ◌+◌, ◌-◌, Bool, true, false, ◌||◌, eqb, List, [], ◌∷◌, ◌++◌, length, get_or, take, refl, sym, ap, ◌∙◌, subst, arith, append_assoc, length-append}
use Rattle.std.specs.Prelude.{map, All}
use Rattle.std.specs.Str.Lines.{strip_carriage_return}
use Rattle.std.proofs.Math.Seq.{get_or-append_seam, take-append_seam}
use Rattle.std.proofs.lemmas.List.{take_more, take_all}
use Rattle.std.proofs.lemmas.List.Elements.{All-head, All-tail}
use Rattle.std.proofs.lemmas.Bool.{eqb-true}
use Rattle.std.proofs.lemmas.Bool.Decides.{nat_tests}
use Rattle.fwd_frames.specs.Lines.{has_feed, ended_parts, rest}
use Rattle.fwd_frames.proofs.StreamSplit.{ended_parts-none, rest-none, ended_parts-feed}
use Rattle.httparse.specs.Grammar.{LineEnd, crlf, lf, print_end}
use Rattle.httparse.specs.Pieces.{is_newline}
use Rattle.fwd_out_http.specs.Reply.{whole_lines}

-- no byte of the text ends a line
abbrev pub IsPlain : List ℕ → Type 0
IsPlain text = All (λ b. is_newline b ≡ false) text

plain_tail : (b : ℕ) (text : List ℕ) → IsPlain (b ∷ text) → IsPlain text
plain_tail b text plain = All-tail (λ c. is_newline c ≡ false) b text plain

plain_head : (b : ℕ) (text : List ℕ) → IsPlain (b ∷ text) → is_newline b ≡ false
plain_head b text plain = All-head (λ c. is_newline c ≡ false) b text plain

-- ---- carriage returns

strip-return : (text : List ℕ) → strip_carriage_return (text ++ 13 ∷ []) ≡ text
strip-return text =
    let long : length (text ++ 13 ∷ []) - 1 ≡ length text = omega (arith, length-append text (13 ∷ [])) in
    let last : get_or (text ++ 13 ∷ []) (length text) 0 ≡ 13 = get_or-append_seam text 13 [] 0 in
    rw (long, last) (take-append_seam text (13 ∷ []))

strip_by : (text : List ℕ) (test : Bool) → eqb (get_or text (length text - 1) 0) 13 ≡ test → test ≡ false → strip_carriage_return text ≡ text
strip_by text test is fails = rw (is, fails) refl

no_return : (b : ℕ) → is_newline b ≡ false → eqb b 13 ≡ false
no_return b plain = grind (arith, nat_tests)

strip-plain : (text : List ℕ) → IsPlain text → strip_carriage_return text ≡ text
strip-plain [] plain = refl
strip-plain (b ∷ text) plain =
    let last = no_return _ (plain (length (b ∷ text) - 1) 0 (omega arith)) in
    strip_by (b ∷ text) _ last refl

-- a part is a text and a carriage return, or a text alone
strip_either : (part : List ℕ) (test : Bool) → eqb (get_or part (length part - 1) 0) 13 ≡ test → (part ≡ strip_carriage_return part) ⊎ (part ≡ strip_carriage_return part ++ 13 ∷ [])
strip_either part false is = inl (rw is refl)
strip_either [] true is = inl refl
strip_either (b ∷ part) true is =
    let all : List ℕ = b ∷ part in
    let n : ℕ = length part in
    let last : length (b ∷ part) - 1 ≡ length part = omega arith in
    let long : length (b ∷ part) ≡ length part + 1 = omega arith in
    let byte : get_or (b ∷ part) (length part) 0 ≡ 13 = eqb-true _ 13 (rw (← last) is) in
    let more = take_more (b ∷ part) (length part) 0 (omega arith) in
    let whole = take_all (length part + 1) (b ∷ part) (omega arith) in
    inr (rw (is, last) (sym whole ∙ more ∙ ap (λ (v : ℕ). take (length part) (b ∷ part) ++ v ∷ []) byte))

-- ---- line feeds

no_feed : (text : List ℕ) → IsPlain text → has_feed text ≡ false
no_feed [] plain = refl
no_feed (b ∷ text) plain =
    let here = plain_head b text plain in
    let later = no_feed text (plain_tail b text plain) in
    let other : eqb b 10 ≡ false = grind (arith, nat_tests) in
    rw (other, later) refl

no_feed-return : (text : List ℕ) → has_feed text ≡ false → has_feed (text ++ 13 ∷ []) ≡ false
no_feed-return [] none = refl
no_feed-return (b ∷ text) none = by (no_feed-return text) (eqb b 10) refl
  where
    by : (has_feed text ≡ false → has_feed (text ++ 13 ∷ []) ≡ false) → (test : Bool) → eqb b 10 ≡ test → has_feed ((b ∷ text) ++ 13 ∷ []) ≡ false
    by again true is = let no = subst (λ (t : Bool). (t || has_feed text) ≡ false) is none in absurd (cc)
    by again false is = rw is (again (subst (λ (t : Bool). (t || has_feed text) ≡ false) is none))

lines-part : (part bytes : List ℕ) → has_feed part ≡ false → whole_lines (part ++ 10 ∷ bytes) ≡ strip_carriage_return part ∷ whole_lines bytes
lines-part part bytes none =
    let parts : ended_parts (part ++ 10 ∷ bytes) ≡ part ∷ ended_parts bytes =
    ended_parts-feed part bytes ∙ ap (λ (ps : List (List ℕ)). ps ++ rest part ∷ ended_parts bytes) (ended_parts-none part none) ∙ ap (λ (p : List ℕ). p ∷ ended_parts bytes) (rest-none part none) in
    ap (map strip_carriage_return) parts

-- a plain text with its line end is the first line
pub lines-line : (text : List ℕ) (end : LineEnd) (bytes : List ℕ) → IsPlain text → whole_lines (text ++ (print_end end ++ bytes)) ≡ text ∷ whole_lines bytes
lines-line text lf bytes plain = lines-part text bytes (no_feed text plain) ∙ ap (λ (t : List ℕ). t ∷ whole_lines bytes) (strip-plain text plain)
lines-line text crlf bytes plain =
    ap whole_lines (sym (append_assoc text (13 ∷ []) (10 ∷ bytes)))
    ∙ lines-part (text ++ 13 ∷ []) bytes (no_feed-return text (no_feed text plain))
    ∙ ap (λ (t : List ℕ). t ∷ whole_lines bytes) (strip-return text)

-- ---- the first line of some bytes

pub record FirstLine (bytes : List ℕ) : Type 0 where
  pub text : List ℕ
  pub end : LineEnd
  pub left : List ℕ
  pub split : bytes ≡ text ++ (print_end end ++ left)
  pub lines : whole_lines bytes ≡ text ∷ whole_lines left

record FirstFeed (bytes : List ℕ) : Type 0 where
  part : List ℕ
  left : List ℕ
  split : bytes ≡ part ++ 10 ∷ left
  none : has_feed part ≡ false

feed_later : (b : ℕ) (part : List ℕ) → eqb b 10 ≡ false → has_feed part ≡ false → has_feed (b ∷ part) ≡ false
feed_later b part other none = rw (other, none) refl

feed_first : (bytes : List ℕ) → has_feed bytes ≡ true → FirstFeed bytes
feed_first [] some = absurd (cc)
feed_first (b ∷ bytes) some = by (feed_first bytes) (eqb b 10) refl
  where
    by : (has_feed bytes ≡ true → FirstFeed bytes) → (test : Bool) → eqb b 10 ≡ test → FirstFeed (b ∷ bytes)
    by again true is = record { part = []; left = bytes; split = ap (λ (v : ℕ). v ∷ bytes) (eqb-true b 10 is); none = refl }
    by again false is =
        let found = again (subst (λ (t : Bool). (t || has_feed bytes) ≡ true) is some) in
        record { part = b ∷ found.part; left = found.left; split = ap (λ (bs : List ℕ). b ∷ bs) found.split; none = feed_later b found.part is found.none }

line_of_feed : (bytes : List ℕ) → FirstFeed bytes → FirstLine bytes
line_of_feed bytes found = by (strip_either found.part _ refl)
  where
    lines : whole_lines bytes ≡ strip_carriage_return found.part ∷ whole_lines found.left
    lines = ap whole_lines found.split ∙ lines-part found.part found.left found.none

    by : (found.part ≡ strip_carriage_return found.part) ⊎ (found.part ≡ strip_carriage_return found.part ++ 13 ∷ []) → FirstLine bytes
    by (inl same) = record {
      text = strip_carriage_return found.part;
      end = lf;
      left = found.left;
      split = found.split ∙ ap (λ (p : List ℕ). p ++ 10 ∷ found.left) same;
      lines = lines;
    }
    by (inr more) = record {
      text = strip_carriage_return found.part;
      end = crlf;
      left = found.left;
      split = found.split ∙ ap (λ (p : List ℕ). p ++ 10 ∷ found.left) more ∙ append_assoc (strip_carriage_return found.part) (13 ∷ []) (10 ∷ found.left);
      lines = lines;
    }

-- some bytes have no complete line, or a first one
pub first_line : (bytes : List ℕ) → (whole_lines bytes ≡ []) ⊎ FirstLine bytes
first_line bytes = by (has_feed bytes) refl
  where
    by : (test : Bool) → has_feed bytes ≡ test → (whole_lines bytes ≡ []) ⊎ FirstLine bytes
    by true some = inr (line_of_feed bytes (feed_first bytes some))
    by false none = inl (ap (map strip_carriage_return) (ended_parts-none bytes none))
