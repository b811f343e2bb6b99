-- The kept bytes of a part, and the line made of them.
use Rattle.std.proofs.Common.{◌≡◌, ℕ, ◌+◌, ◌-◌, ◌≤◌, ◌∙◌, sym, ap, cond, Bool, true, false, List, [], ◌++◌, length, take, nat_lt, refl, arith, length-append}
use Rattle.std.proofs.lemmas.List.{take-append-le, take_all, append-nil, length-take-le, nil_from_length}
use Rattle.std.proofs.Math.Seq.{take-append-add}
use Rattle.std.proofs.lemmas.Bool.Decides.{nat_tests}
use Rattle.std.specs.Str.Lines.{strip_carriage_return}
use Rattle.fwd_frames.specs.declared.line.Line.{Line}
use Rattle.fwd_frames.specs.Lines.{Kept}
use Rattle.fwd_frames.specs.LineSteps.{state_of, state_with_at}

-- the kept bytes of a part, if a line has at most `most` bytes
abbrev pub kept_at : ℕ → List ℕ → Kept
kept_at most part = record { bytes = take most part; cut = nat_lt most (length part) }

abbrev pub line_at : ℕ → List ℕ → Line
line_at most part =
    cond (nat_lt most (length part)) (record { bytes = take most part; cut = true }) (record { bytes = strip_carriage_return part; cut = false })

kept_at-append_by : (most : ℕ) (part more : List ℕ) (over room_over : Bool) → nat_lt most (length part) ≡ over → nat_lt (most - length (take most part)) (length more) ≡ room_over → kept_at most (part ++ more) ≡ state_with_at most (kept_at most part) more
kept_at-append_by most part more true true e f =
    let long : most ≤ length part = grind (arith, nat_tests) in
    let none : most - length (take most part) ≡ 0 = omega (arith, length-take-le most part long) in
    let total : nat_lt most (length (part ++ more)) ≡ true = let sum = length-append part more in grind (arith, nat_tests) in
    rw (f, none, total, append-nil) (ap (λ bytes. state_of bytes true) (take-append-le most part more long))
kept_at-append_by most part more true false e f =
    let long : most ≤ length part = grind (arith, nat_tests) in
    let none : length more ≡ 0 = let size = length-take-le most part long in grind (arith, nat_tests) in
    let no_more : more ≡ [] = nil_from_length more none in
    rw (f, no_more, append-nil, append-nil) refl
kept_at-append_by most part more false true e f =
    let short : length part ≤ most = grind (arith, nat_tests) in
    let whole : take most part ≡ part = take_all most part short in
    let sum : most ≡ length part + (most - length part) = omega arith in
    let over : nat_lt most (length (part ++ more)) ≡ true = let total = length-append part more in let size = ap length whole in grind (arith, nat_tests) in
    rw (f, whole, over) (ap (λ bytes. state_of bytes true) (ap (λ n. take n (part ++ more)) sum ∙ take-append-add part more (most - length part)))
kept_at-append_by most part more false false e f =
    let short : length part ≤ most = grind (arith, nat_tests) in
    let whole : take most part ≡ part = take_all most part short in
    let fits : length (part ++ more) ≤ most = let total = length-append part more in let size = ap length whole in grind (arith, nat_tests) in
    let within : nat_lt most (length (part ++ more)) ≡ false = grind (arith, nat_tests) in
    rw (f, whole, within, e, take_all most (part ++ more) fits) refl

-- the kept bytes of a part and more bytes
pub kept_at-append : (most : ℕ) (part more : List ℕ) → kept_at most (part ++ more) ≡ state_with_at most (kept_at most part) more
kept_at-append most part more = kept_at-append_by most part more _ _ refl refl

pub line_at-cut : (most : ℕ) (part bytes : List ℕ) (cut : Bool) → kept_at most part ≡ record { bytes = bytes; cut = cut } → cut ≡ true → line_at most part ≡ record { bytes = bytes; cut = cut }
line_at-cut most part bytes cut e t =
    let over : nat_lt most (length part) ≡ true = ap (λ k. k.cut) e ∙ t in
    let same : take most part ≡ bytes = ap (λ k. k.bytes) e in
    rw (over, same, t) refl

pub line_at-whole : (most : ℕ) (part bytes : List ℕ) (cut : Bool) → kept_at most part ≡ record { bytes = bytes; cut = cut } → cut ≡ false → line_at most part ≡ record { bytes = strip_carriage_return bytes; cut = cut }
line_at-whole most part bytes cut e t =
    let within : nat_lt most (length part) ≡ false = ap (λ k. k.cut) e ∙ t in
    let short : length part ≤ most = grind (arith, nat_tests) in
    let same : part ≡ bytes = sym (take_all most part short) ∙ ap (λ k. k.bytes) e in
    rw (within, same, t) refl
