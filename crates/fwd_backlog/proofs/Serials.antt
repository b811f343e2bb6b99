-- The numbers in file names.
use Rattle.std.proofs.Common.{◌≡◌, ℕ, ◌+◌, ◌-◌, ◌<◌, ◌≤◌, not, Bool, true, false, max, if◌then◌else◌, List, [], ◌∷◌, ◌++◌, length, get_or, take, drop, Option, Some, None, sym, ◌∙◌, ap, arith, length-drop}
use Rattle.std.specs.Str.{bytes_eq}
use Rattle.std.proofs.lemmas.Bool.{lt-ltb, le-ltb}
use Rattle.std.proofs.lemmas.List.{take_all, take_more}
use Rattle.std.proofs.lemmas.List.Sums.{fold_push}
use Rattle.fwd_base.specs.Limits.{numbers_end}
use Rattle.fwd_base.specs.Number.{number_of}
use Rattle.fwd_chunk.specs.declared.chunk.Found.{Found}
use Rattle.fwd_backlog.specs.Serial.{flb, serial_or_zero, serial_number, greatest_serial}

not_of : (x b : Bool) → not x ≡ b → x ≡ not b
not_of true b is = ap not is
not_of false b is = ap not is

-- the comparison of the end of a name
pub end_is : (name : List ℕ) (b r : Bool) → r ≡ not (bytes_eq (take (length name - 20) (drop 20 name)) flb) → r ≡ b → bytes_eq (drop 20 name) flb ≡ not b
end_is name b r compares is =
    let rest : take (length name - 20) (drop 20 name) ≡ drop 20 name = take_all (length name - 20) (drop 20 name) (omega (arith, length-drop 20 name)) in
    not_of (bytes_eq (drop 20 name) flb) b (ap (λ (l : List ℕ). not (bytes_eq l flb)) (sym rest) ∙ sym compares ∙ is)

of_number : (name : List ℕ) (answer : Option ℕ) → bytes_eq (drop 20 name) flb ≡ true → answer ≡ number_of (take 20 name) → serial_number name ≡ serial_or_zero answer
of_number name answer is gives = ap (λ (b : Bool). if b then serial_or_zero (number_of (take 20 name)) else 0) is ∙ ap serial_or_zero (sym gives)

pub serial_is : (name : List ℕ) (number : ℕ) → bytes_eq (drop 20 name) flb ≡ true → Some number ≡ number_of (take 20 name) → number < numbers_end → number ≡ serial_number name
serial_is name number is gives small = sym (of_number name (Some number) is gives ∙ ap (λ (b : Bool). if b then number else 0) (lt-ltb number numbers_end small))

pub too_great : (name : List ℕ) (number : ℕ) → bytes_eq (drop 20 name) flb ≡ true → Some number ≡ number_of (take 20 name) → numbers_end ≤ number → 0 ≡ serial_number name
too_great name number is gives large = sym (of_number name (Some number) is gives ∙ ap (λ (b : Bool). if b then number else 0) (le-ltb number numbers_end large))

pub no_number : (name : List ℕ) → bytes_eq (drop 20 name) flb ≡ true → None ≡ number_of (take 20 name) → 0 ≡ serial_number name
no_number name is gives = sym (of_number name None is gives)

-- one more file
pub greatest_more : (found : List Found) (i : ℕ) (file : Found) (so_far after : ℕ) → i < length found → file ≡ get_or found i file → so_far ≡ greatest_serial (take i found)
    → after ≡ max so_far (serial_number file.name) → after ≡ greatest_serial (take (i + 1) found)
greatest_more found i file so_far after lt is before grown =
    let more : take (i + 1) found ≡ take i found ++ file ∷ [] = take_more found i file lt ∙ ap (λ (f : Found). take i found ++ f ∷ []) (sym is) in
    grown
    ∙ ap (λ (n : ℕ). max n (serial_number file.name)) before
    ∙ sym (fold_push (λ (g : ℕ) (f : Found). max g (serial_number f.name)) 0 (take i found) file)
    ∙ ap greatest_serial (sym more)
