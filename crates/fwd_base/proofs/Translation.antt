-- The translation of a pattern step by step, and that it keeps UTF-8.
use Rattle.std.proofs.Common.{◌≡◌, ℕ, zero, suc, ◌-◌, ◌<◌, ◌≤◌, ◌∙◌, sym, ap, subst, eqb, nat_le, Bool, true, false, ◌&&◌, List, [], ◌∷◌, ◌++◌, length, take, drop, get_or, refl, arith, length-append, add-zero}
use Rattle.std.proofs.Math.Nat.{sub-zero}
use Rattle.std.proofs.lemmas.List.{append_assoc, take_at, drop_at, get_or-append-add}
use Rattle.std.proofs.lemmas.Bool.Decides.{nat_tests}
use Rattle.std.proofs.lemmas.Str.{IsUtf8-append, IsUtf8-drop, IsUtf8-between, IsUtf8-from_ascii, IsCharBoundary-start, IsCharBoundary-before_ascii, IsCharBoundary-after_ascii}
use Rattle.std.specs.Str.{IsUtf8, IsAscii, IsCharBoundary}
use Rattle.fwd_base.specs.declared.rewrite.Position.{Position}
use Rattle.fwd_base.specs.declared.rewrite.Position.TheVariants.{Outside, First, Inside}
use Rattle.fwd_base.specs.Pattern.{after_byte, after_escape, begins_name, opens_named, escaped, without_slashes, translated_from, translated}

-- the step at a backslash
pub step-escape : (place : Position) (text old new : List ℕ) → 2 ≤ length text → get_or text 0 0 ≡ 92 → new ≡ old ++ escaped place (get_or text 1 0) → new ++ translated_from (after_escape place) (drop 2 text) ≡ old ++ translated_from place text
step-escape place [] old new two e is = absurd (omega arith)
step-escape place (b ∷ []) old new two e is = absurd (omega arith)
step-escape place (b ∷ c ∷ more) old new two e is =
    let t : eqb b 92 ≡ true = grind (arith, nat_tests) in
    rw (is, t) (append_assoc old (escaped place c) _)

-- the step at a named group
pub step-named : (place : Position) (text old new : List ℕ) → 2 ≤ length text → (get_or text 0 0 ≡ 92 → ⊥) → opens_named place (get_or text 0 0) (get_or text 1 0) (drop 2 text) ≡ true → new ≡ old ++ (get_or text 0 0 ∷ get_or text 1 0 ∷ 80 ∷ []) → new ++ translated_from place (drop 2 text) ≡ old ++ translated_from place text
step-named place [] old new two e f is = absurd (omega arith)
step-named place (b ∷ []) old new two e f is = absurd (omega arith)
step-named place (b ∷ c ∷ more) old new two e f is =
    let t : eqb b 92 ≡ false = grind (arith, nat_tests) in
    rw (is, t, f) (append_assoc old (b ∷ c ∷ 80 ∷ []) _)

-- the step at any other byte
pub step-other : (place : Position) (text old new : List ℕ) → 2 ≤ length text → (get_or text 0 0 ≡ 92 → ⊥) → opens_named place (get_or text 0 0) (get_or text 1 0) (drop 2 text) ≡ false → new ≡ old ++ (get_or text 0 0 ∷ []) → new ++ translated_from (after_byte place (get_or text 0 0)) (drop 1 text) ≡ old ++ translated_from place text
step-other place [] old new two e f is = absurd (omega arith)
step-other place (b ∷ []) old new two e f is = absurd (omega arith)
step-other place (b ∷ c ∷ more) old new two e f is =
    let t : eqb b 92 ≡ false = grind (arith, nat_tests) in
    rw (is, t, f) (append_assoc old (b ∷ []) _)

-- fewer than two bytes translate to themselves
pub translated_from-short : (place : Position) (text : List ℕ) → length text < 2 → translated_from place text ≡ text
translated_from-short place [] short = refl
translated_from-short place (b ∷ []) short = refl
translated_from-short place (b ∷ c ∷ more) short = absurd (omega arith)

is_ascii : IsAscii (80 ∷ [])
is_ascii zero = omega arith
is_ascii (suc i) = omega arith

-- UTF-8 splits before an ASCII character
split_before_ascii : (before after : List ℕ) → 0 < length after → get_or after 0 0 < 128 → IsUtf8 (before ++ after) → IsUtf8 before × IsUtf8 after
split_before_ascii before after some low h =
    let size = length-append before after in
    let at_seam : get_or (before ++ after) (length before) 0 ≡ get_or after 0 0 =
    ap (λ n. get_or (before ++ after) n 0) (sym (add-zero (length before))) ∙ get_or-append-add before after 0 0 in
    let boundary : IsCharBoundary (before ++ after) (length before) =
    IsCharBoundary-before_ascii (before ++ after) (length before) (omega arith) (omega arith) in
    let front_of : IsUtf8 (take (length before) (before ++ after)) =
    subst (λ n. IsUtf8 (take n (before ++ after))) (sub-zero (length before)) (IsUtf8-between (before ++ after) 0 (length before) h (omega arith) (IsCharBoundary-start (before ++ after) h) boundary) in
    (subst IsUtf8 (take_at before after (length before) refl) front_of, subst IsUtf8 (drop_at before after (length before) refl) (IsUtf8-drop (before ++ after) (length before) h boundary))

-- an ASCII letter inserted before an ASCII character keeps UTF-8
IsUtf8-insert : (before after : List ℕ) → 0 < length after → get_or after 0 0 < 128 → IsUtf8 (before ++ after) → IsUtf8 (before ++ 80 ∷ after)
IsUtf8-insert before after some low h =
    let parts = split_before_ascii before after some low h in
    IsUtf8-append before (80 ∷ after) parts.0 (IsUtf8-append (80 ∷ []) after (IsUtf8-from_ascii (80 ∷ []) is_ascii) parts.1)

-- an ASCII character removed before another keeps UTF-8
IsUtf8-without : (before : List ℕ) (b c : ℕ) (more : List ℕ) → b < 128 → c < 128 → IsUtf8 (before ++ b ∷ c ∷ more) → IsUtf8 (before ++ c ∷ more)
IsUtf8-without before b c more low next h =
    let first = split_before_ascii before (b ∷ c ∷ more) (omega arith) low h in
    let second = split_before_ascii (before ++ b ∷ []) (c ∷ more) (omega arith) next (subst IsUtf8 (sym (append_assoc before (b ∷ []) (c ∷ more))) h) in
    IsUtf8-append before (c ∷ more) first.0 second.1

-- a name begins with <
begins_name-low : (bytes : List ℕ) → begins_name bytes ≡ true → (0 < length bytes) × (get_or bytes 0 0 < 128)
begins_name-low [] e = cc
begins_name-low (b ∷ []) e = cc
begins_name-low (b ∷ c ∷ more) e =
    let less : eqb b 60 ≡ true = second_so_first _ _ e in
    (omega arith, grind (arith, nat_tests))
  where
    second_so_first : (s t : Bool) → (s && t) ≡ true → s ≡ true
    second_so_first true t e = refl
    second_so_first false t e = e

opens_named-low : (place : Position) (b c : ℕ) (more : List ℕ) → opens_named place b c more ≡ true → (0 < length more) × (get_or more 0 0 < 128)
opens_named-low Outside b c more e = begins_name-low more (last_so (eqb b 40) (eqb c 63) (begins_name more) e)
  where
    last_so : (s t u : Bool) → (s && (t && u)) ≡ true → u ≡ true
    last_so true true u e = e
    last_so true false u e = cc
    last_so false t u e = cc
opens_named-low First b c more e = cc
opens_named-low Inside b c more e = cc

-- the translation of an escape keeps UTF-8
IsUtf8-escaped : (place : Position) (before : List ℕ) (c : ℕ) (more : List ℕ) → IsUtf8 (before ++ 92 ∷ c ∷ more) → IsUtf8 (before ++ (escaped place c ++ more))
IsUtf8-escaped Outside before c more h = IsUtf8-edge before c more (eqb c 60) (eqb c 62) refl refl h
  where
    IsUtf8-edge : (before : List ℕ) (c : ℕ) (more : List ℕ) (less greater : Bool) → eqb c 60 ≡ less → eqb c 62 ≡ greater → IsUtf8 (before ++ 92 ∷ c ∷ more) → IsUtf8 (before ++ (escaped Outside c ++ more))
    IsUtf8-edge before c more true greater e f h = rw e (IsUtf8-without before 92 c more (omega arith) (grind (arith, nat_tests)) h)
    IsUtf8-edge before c more false true e f h = rw (e, f) (IsUtf8-without before 92 c more (omega arith) (grind (arith, nat_tests)) h)
    IsUtf8-edge before c more false false e f h = rw (e, f) h
IsUtf8-escaped First before c more h = h
IsUtf8-escaped Inside before c more h = h

IsUtf8-rewritten_by : (place : Position) (before : List ℕ) (b c : ℕ) (more : List ℕ) (escapes opens : Bool) → eqb b 92 ≡ escapes → opens_named place b c more ≡ opens
    → ((place : Position) (before : List ℕ) → IsUtf8 (before ++ more) → IsUtf8 (before ++ translated_from place more))
    → ((place : Position) (before : List ℕ) → IsUtf8 (before ++ c ∷ more) → IsUtf8 (before ++ translated_from place (c ∷ more)))
    → IsUtf8 (before ++ b ∷ c ∷ more) → IsUtf8 (before ++ translated_from place (b ∷ c ∷ more))
IsUtf8-rewritten_by place before b c more true opens e f past_two past_one h =
    let is_backslash : b ≡ 92 = grind (arith, nat_tests) in
    rw e (subst IsUtf8 (append_assoc before (escaped place c) (translated_from (after_escape place) more))
    (past_two (after_escape place) (before ++ escaped place c) (subst IsUtf8 (sym (append_assoc before (escaped place c) more))
    (IsUtf8-escaped place before c more (subst (λ (x : ℕ). IsUtf8 (before ++ x ∷ c ∷ more)) is_backslash h)))))
IsUtf8-rewritten_by place before b c more false true e f past_two past_one h =
    let low = opens_named-low place b c more f in
    let with_p : IsUtf8 ((before ++ b ∷ c ∷ []) ++ 80 ∷ more) =
    IsUtf8-insert (before ++ b ∷ c ∷ []) more low.0 low.1 (subst IsUtf8 (sym (append_assoc before (b ∷ c ∷ []) more)) h) in
    let moved : (before ++ b ∷ c ∷ []) ++ 80 ∷ more ≡ (before ++ b ∷ c ∷ 80 ∷ []) ++ more =
    append_assoc before (b ∷ c ∷ []) (80 ∷ more) ∙ sym (append_assoc before (b ∷ c ∷ 80 ∷ []) more) in
    rw (e, f) (subst IsUtf8 (append_assoc before (b ∷ c ∷ 80 ∷ []) (translated_from place more))
    (past_two place (before ++ b ∷ c ∷ 80 ∷ []) (subst IsUtf8 moved with_p)))
IsUtf8-rewritten_by place before b c more false false e f past_two past_one h =
    rw (e, f) (subst IsUtf8 (append_assoc before (b ∷ []) (translated_from (after_byte place b) (c ∷ more)))
    (past_one (after_byte place b) (before ++ b ∷ []) (subst IsUtf8 (sym (append_assoc before (b ∷ []) (c ∷ more))) h)))

IsUtf8-translated_from : (text : List ℕ) (place : Position) (before : List ℕ) → IsUtf8 (before ++ text) → IsUtf8 (before ++ translated_from place text)
IsUtf8-translated_from [] place before h = h
IsUtf8-translated_from (b ∷ []) place before h = h
IsUtf8-translated_from (b ∷ c ∷ more) place before h =
    IsUtf8-rewritten_by place before b c more _ _ refl refl (IsUtf8-translated_from more) (IsUtf8-translated_from (c ∷ more)) h

-- the text between two slashes is UTF-8 if the whole is
IsUtf8-without_slashes : (text : List ℕ) → IsUtf8 text → IsUtf8 (without_slashes text)
IsUtf8-without_slashes text h = by_tests (nat_le 2 (length text)) (eqb (get_or text 0 0) 47) (eqb (get_or text (length text - 1) 0) 47) refl refl refl
  where
    by_tests : (long first last : Bool) → nat_le 2 (length text) ≡ long → eqb (get_or text 0 0) 47 ≡ first → eqb (get_or text (length text - 1) 0) 47 ≡ last → IsUtf8 (without_slashes text)
    by_tests true true true l f e =
        let two : 2 ≤ length text = grind (arith, nat_tests) in
        let opens : get_or text 0 0 < 128 = grind (arith, nat_tests) in
        let closes : get_or text (length text - 1) 0 < 128 = grind (arith, nat_tests) in
        rw (l, f, e) (IsUtf8-between text 1 (length text - 1) h (omega arith) (IsCharBoundary-after_ascii text 0 h (omega arith) opens) (IsCharBoundary-before_ascii text (length text - 1) (omega arith) closes))
    by_tests true true false l f e = rw (l, f, e) h
    by_tests true false last l f e = rw (l, f) h
    by_tests false first last l f e = rw l h

-- the translation of UTF-8 is UTF-8
pub IsUtf8-translated : (text : List ℕ) → IsUtf8 text → IsUtf8 (translated text)
IsUtf8-translated text h = IsUtf8-translated_from (without_slashes text) Outside [] (IsUtf8-without_slashes text h)
