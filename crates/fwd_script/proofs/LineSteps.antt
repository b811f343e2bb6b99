-- How the reader reaches the lines of a text one by one.
use Rattle.std.proofs.Common.{◌≡◌, ℕ, ◌+◌, ◌≤◌, ◌==◌, Bool, true, false, if◌then◌else◌, List, [], ◌∷◌, length, Option, Some, None, Result, Ok, Err, refl, sym, ◌∙◌, ap, subst, arith}
use Rattle.fwd_script.specs.declared.schedule.Schedule.{Schedule}
use Rattle.fwd_script.specs.declared.refusal.ScheduleRefused.{ScheduleRefused}
use Rattle.fwd_script.specs.declared.refusal.ScheduleKind.{ScheduleKind}
use Rattle.fwd_script.specs.declared.reader.ScheduleReader.{ScheduleReader}
use Rattle.fwd_script.specs.declared.meaning.LineMeaning.{LineMeaning}
use Rattle.fwd_script.specs.declared.refusal.ScheduleKind.TheVariants.{BadOrder}
use Rattle.fwd_script.specs.Keywords.{keyword_of}
use Rattle.fwd_script.specs.Table.{line_meaning}
use Rattle.fwd_script.specs.Words.{split_at_byte}
use Rattle.fwd_script.proofs.ByteSplit.{both}
use Rattle.fwd_script.specs.Schedule.{IsRead, after, begins_with, next_is_happening, go_on, in_order, is_passed_over, judge, lines_left, lines_of, reader_start, one_happening, ordered, read_on, schedule_of}

pub lines_parted : (text : List ℕ) → lines_of text ≡ (split_at_byte 10 text).0 ∷ lines_left (split_at_byte 10 text).1
lines_parted [] = refl
lines_parted (x ∷ xs) = by (x == 10) (lines_parted xs)
  where
    by : (b : Bool) → lines_of xs ≡ (split_at_byte 10 xs).0 ∷ lines_left (split_at_byte 10 xs).1
        → (if b then [] ∷ lines_of xs else begins_with x (lines_of xs)) ≡ (if b then both [] (Some xs) else both (x ∷ (split_at_byte 10 xs).0) (split_at_byte 10 xs).1).0 ∷ lines_left (if b then both [] (Some xs) else both (x ∷ (split_at_byte 10 xs).0) (split_at_byte 10 xs).1).1
    by true rest = refl
    by false rest = ap (begins_with x) rest

-- the length of the remaining text
abbrev pub size : Option (List ℕ) → ℕ
size None = 0
size (Some text) = length text + 1

pub less_left : (text : List ℕ) → size (split_at_byte 10 text).1 ≤ length text
less_left [] = omega arith
less_left (x ∷ xs) = by (x == 10) (less_left xs)
  where
    by : (b : Bool) → size (split_at_byte 10 xs).1 ≤ length xs → size (if b then both [] (Some xs) else both (x ∷ (split_at_byte 10 xs).0) (split_at_byte 10 xs).1).1 ≤ length (x ∷ xs)
    by true rest = omega arith
    by false rest = omega (arith, rest)

module _ (text line : List ℕ) (behind : Option (List ℕ)) (is_line : line ≡ (split_at_byte 10 text).0) (is_behind : behind ≡ (split_at_byte 10 text).1) where
  lines_here : lines_of text ≡ line ∷ lines_left behind
  lines_here = lines_parted text ∙ ap (λ (l : List ℕ). l ∷ lines_left (split_at_byte 10 text).1) (sym is_line) ∙ ap (λ (b : Option (List ℕ)). line ∷ lines_left b) (sym is_behind)

  pub shorter : size behind ≤ length text
  shorter = subst (λ (b : Option (List ℕ)). size b ≤ length text) (sym is_behind) (less_left text)

  -- the search for the next line that isn't skipped
  pub looks_on : (found : Bool) → found ≡ next_is_happening (lines_of text) → is_passed_over line ≡ true → found ≡ next_is_happening (lines_left behind)
  looks_on found so_far over =
      so_far ∙ ap next_is_happening lines_here ∙ ap (λ (b : Bool). if b then next_is_happening (lines_left behind) else one_happening (keyword_of (split_at_byte 32 line).0)) over

  pub looks_here : (found : Bool) → found ≡ next_is_happening (lines_of text) → is_passed_over line ≡ false → found ≡ one_happening (keyword_of (split_at_byte 32 line).0)
  looks_here found so_far counts =
      so_far ∙ ap next_is_happening lines_here ∙ ap (λ (b : Bool). if b then next_is_happening (lines_left behind) else one_happening (keyword_of (split_at_byte 32 line).0)) counts

  -- reading one more line
  module _ (whole : Result Schedule ScheduleRefused) (so_far : ScheduleReader) (number : ℕ) (so_read : whole ≡ read_on so_far (number + 1) (lines_of text)) where
    here : (b : Bool) → is_passed_over line ≡ b → whole ≡ (if b then read_on so_far ((number + 1) + 1) (lines_left behind)
        else go_on (number + 1) (λ (meaning : LineMeaning). read_on (after meaning so_far) ((number + 1) + 1) (lines_left behind)) (judge so_far line (lines_left behind)))
    here b is =
        so_read ∙ ap (read_on so_far (number + 1)) lines_here
        ∙ ap (λ (c : Bool). if c then read_on so_far ((number + 1) + 1) (lines_left behind) else go_on (number + 1) (λ (meaning : LineMeaning). read_on (after meaning so_far) ((number + 1) + 1) (lines_left behind)) (judge so_far line (lines_left behind))) is

    pub passes_over : is_passed_over line ≡ true → whole ≡ read_on so_far ((number + 1) + 1) (lines_left behind)
    passes_over is = here true is

    pub takes_in : (new : ScheduleReader) → is_passed_over line ≡ false → IsRead (judge so_far line (lines_left behind)) so_far new → whole ≡ read_on new ((number + 1) + 1) (lines_left behind)
    takes_in new is read =
        here false is ∙ ap (go_on (number + 1) (λ (meaning : LineMeaning). read_on (after meaning so_far) ((number + 1) + 1) (lines_left behind))) read.1
        ∙ ap (λ (s : ScheduleReader). read_on s ((number + 1) + 1) (lines_left behind)) (sym read.2)

    pub refuses : (kind : ScheduleKind) → is_passed_over line ≡ false → judge so_far line (lines_left behind) ≡ Err kind → whole ≡ Err (record { kind = kind; line = number + 1 })
    refuses kind is judged = here false is ∙ ap (go_on (number + 1) (λ (meaning : LineMeaning). read_on (after meaning so_far) ((number + 1) + 1) (lines_left behind))) judged

module _ (so_far : ScheduleReader) (line : List ℕ) (behind : List (List ℕ)) where
  pub judged_err : (kind : ScheduleKind) → line_meaning so_far.left line ≡ Err kind → judge so_far line behind ≡ Err kind
  unfolding judge
  judged_err kind is = ap (ordered so_far behind) is

  judged : (meaning : LineMeaning) (b : Bool) → line_meaning so_far.left line ≡ Ok meaning → b ≡ in_order so_far meaning behind → judge so_far line behind ≡ (if b then Ok meaning else Err BadOrder)
  unfolding judge
  judged meaning b is order = ap (ordered so_far behind) is ∙ ap (λ (c : Bool). if c then Ok meaning else Err BadOrder) (sym order)

  pub judged_order : (meaning : LineMeaning) (b : Bool) → line_meaning so_far.left line ≡ Ok meaning → b ≡ in_order so_far meaning behind → b ≡ false → judge so_far line behind ≡ Err BadOrder
  judged_order meaning b is order not_so = judged meaning b is order ∙ ap (λ (c : Bool). if c then Ok meaning else Err BadOrder) not_so

  pub judged_ok : (meaning : LineMeaning) (b : Bool) → line_meaning so_far.left line ≡ Ok meaning → b ≡ in_order so_far meaning behind → b ≡ true → judge so_far line behind ≡ Ok meaning
  judged_ok meaning b is order so = judged meaning b is order ∙ ap (λ (c : Bool). if c then Ok meaning else Err BadOrder) so

pub from_the_start : (text : List ℕ) (so_far : ScheduleReader) → so_far ≡ reader_start → schedule_of text ≡ read_on so_far 1 (lines_of text)
unfolding schedule_of
from_the_start text so_far is = ap (λ (s : ScheduleReader). read_on s 1 (lines_of text)) (sym is)
