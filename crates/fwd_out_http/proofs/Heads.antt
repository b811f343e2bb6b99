-- The lines of a head, and their readings.
use Rattle.std.proofs.Common.{◌≡◌, ℕ, ◌+◌, ◌<◌, ◌≤◌, true, false, eqb, List, [], ◌∷◌, ◌++◌, length, get_or, refl, sym, ap, ◌∙◌, subst, arith, append_assoc, Option, Some, None}
use Rattle.std.specs.Prelude.{All, fold}
use Rattle.std.specs.List.{flat_map, list_all}
use Rattle.std.specs.Char.{is_ascii_digit}
use Rattle.std.specs.Str.Parse.{digits_value}
use Rattle.std.proofs.lemmas.List.Elements.{All-head, All-tail, All-cons, All-nil, All-append}
use Rattle.std.proofs.lemmas.List.Sums.{AllPass-from_list_all, list_all-from_AllPass}
use Rattle.std.proofs.lemmas.Bool.{ne_eqb, lt-ltb}
use Rattle.std.proofs.lemmas.Bool.Decides.{nat_tests}
use Rattle.httparse.specs.Grammar.{is_token_byte, is_value_byte, AllPass, IsToken, LineEnd, print_end, print_blank, print_version, Field, print_field, IsField, print_section, ResponseHead, print_response, print_reason, reason_phrase, IsResponseHead, ReadsResponse, status_code}
use Rattle.httparse.specs.Pieces.{is_newline}
use Rattle.httparse.proofs.PieceLemmas.{token_is_no_newline, colon_ends_token}
use Rattle.httparse.proofs.GrammarLemmas.{print_response-append}
use Rattle.fwd_out_http.specs.Reply.{is_empty, is_reason, is_between, status_after_version, status_of, is_field_end, is_field, Reading, Before, Within, finished, reading_after, whole_lines, most_fields}
use Rattle.fwd_out_http.proofs.Lines.{IsPlain, lines-line}

-- the reading of more bytes of a reply, from a reading on
abbrev pub reads_on : Reading → List ℕ → Reading
reads_on reading bytes = fold reading_after reading (whole_lines bytes)

-- ---- which bytes end no line

plain_values : (bytes : List ℕ) → AllPass is_value_byte bytes → IsPlain bytes
plain_values bytes pass = λ k d within. by (get_or bytes k d) (pass k d within)
  where
    by : (b : ℕ) → is_value_byte b ≡ true → is_newline b ≡ false
    by b value = grind (arith, nat_tests)

plain_token : (bytes : List ℕ) → AllPass is_token_byte bytes → IsPlain bytes
plain_token bytes pass = λ k d within. token_is_no_newline (get_or bytes k d) (pass k d within)

plain-append : (a b : List ℕ) → IsPlain a → IsPlain b → IsPlain (a ++ b)
plain-append a b first second = All-append (λ c. is_newline c ≡ false) a b first second

plain-cons : (b : ℕ) (text : List ℕ) → is_newline b ≡ false → IsPlain text → IsPlain (b ∷ text)
plain-cons b text here later = All-cons (λ c. is_newline c ≡ false) b text here later

-- ---- field lines

abbrev field_text : Field → List ℕ
field_text f = f.name ++ 58 ∷ f.raw

field_ended : (raw : List ℕ) → AllPass is_value_byte raw → is_field_end true (58 ∷ raw) ≡ true
field_ended raw pass = list_all-from_AllPass is_value_byte raw pass

token_no_colon : (b : ℕ) → is_token_byte b ≡ true → eqb b 58 ≡ false
token_no_colon b token = ne_eqb b 58 (λ e. let no : is_token_byte 58 ≡ true = subst (λ (v : ℕ). is_token_byte v ≡ true) e token in let none = colon_ends_token in cc)

field_named : (name raw : List ℕ) → AllPass is_token_byte name → AllPass is_value_byte raw → is_field_end true (name ++ 58 ∷ raw) ≡ true
field_named [] raw token pass = field_ended raw pass
field_named (b ∷ name) raw token pass =
    let here = All-head (λ v. is_token_byte v ≡ true) b name token in
    let later = field_named name raw (All-tail (λ v. is_token_byte v ≡ true) b name token) pass in
    rw (token_no_colon b here, here) later

field_is : (name raw : List ℕ) → IsToken name → AllPass is_value_byte raw → is_field (name ++ 58 ∷ raw) ≡ true
field_is [] raw token pass = absurd (omega (arith, token.0))
field_is (b ∷ name) raw token pass =
    let here = All-head (λ v. is_token_byte v ≡ true) b name token.1 in
    let later = field_named name raw (All-tail (λ v. is_token_byte v ≡ true) b name token.1) pass in
    rw (token_no_colon b here, here) later

empty_field : (name raw : List ℕ) → is_empty (name ++ 58 ∷ raw) ≡ false
empty_field [] raw = refl
empty_field (b ∷ name) raw = refl

field_line : (f : Field) (bytes : List ℕ) → IsField f → whole_lines (print_field f ++ bytes) ≡ field_text f ∷ whole_lines bytes
field_line f bytes is =
    let plain = plain-append f.name (58 ∷ f.raw) (plain_token f.name is.name.1) (plain-cons 58 f.raw refl (plain_values f.raw is.raw)) in
    ap whole_lines (append_assoc (field_text f) (print_end f.end) bytes) ∙ lines-line (field_text f) f.end bytes plain

-- a field is counted
field_step : (status n : ℕ) (line : List ℕ) → is_empty line ≡ false → is_field line ≡ true → n < most_fields → reading_after (Within status n) line ≡ Within status (n + 1)
field_step status n line some is room = let less = lt-ltb n most_fields room in rw (some, is, less) refl

-- a section is its first line and the others
pub section-cons : (f : Field) (fields : List Field) (last : LineEnd) (rest : List ℕ) → print_section (f ∷ fields) last ++ rest ≡ print_field f ++ (print_section fields last ++ rest)
section-cons f fields last rest =
    ap (λ (t : List ℕ). t ++ rest) (append_assoc (print_field f) (flat_map print_field fields) (print_end last)) ∙ append_assoc (print_field f) (print_section fields last) rest

-- a section is read to its end
pub reads_section : (status n : ℕ) (fields : List Field) (last : LineEnd) (rest : List ℕ) → All IsField fields → n + length fields ≤ most_fields
    → reads_on (Within status n) (print_section fields last ++ rest) ≡ reads_on (finished status) rest
reads_section status n [] last rest all room = ap (fold reading_after (Within status n)) (lines-line [] last rest (All-nil (λ c. is_newline c ≡ false)))
reads_section status n (f ∷ fields) last rest all room =
    let here = All-head IsField f fields all in
    let again = reads_section status (n + 1) fields last rest (All-tail IsField f fields all) (omega (arith, room)) in
    let split = section-cons f fields last rest in
    let step = field_step status n (field_text f) (empty_field f.name f.raw) (field_is f.name f.raw here.name here.raw) (omega (arith, room)) in
    ap (reads_on (Within status n)) split
    ∙ ap (fold reading_after (Within status n)) (field_line f (print_section fields last ++ rest) here)
    ∙ ap (λ (r : Reading). fold reading_after r (whole_lines (print_section fields last ++ rest))) step
    ∙ again

-- ---- status lines

abbrev pub line_text : ResponseHead → List ℕ
line_text h = print_version h.minor ++ 32 ∷ (h.digits ++ print_reason h.reason)

reason_is : (reason : Option (List ℕ)) → AllPass is_value_byte (reason_phrase reason) → is_reason (print_reason reason) ≡ true
reason_is None pass = refl
reason_is (Some phrase) pass = list_all-from_AllPass is_value_byte phrase pass

status_digits : (minor : ℕ) (digits : List ℕ) (reason : Option (List ℕ)) → minor ≤ 1 → length digits ≡ 3 → AllPass is_ascii_digit digits → AllPass is_value_byte (reason_phrase reason)
    → status_after_version ((48 + minor) ∷ 32 ∷ (digits ++ print_reason reason)) ≡ Some (digits_value 10 digits)
status_digits minor [] reason small three all pass = absurd (omega (arith, three))
status_digits minor (a ∷ []) reason small three all pass = absurd (omega (arith, three))
status_digits minor (a ∷ b ∷ []) reason small three all pass = absurd (omega (arith, three))
status_digits minor (a ∷ b ∷ c ∷ []) reason small three all pass =
    let version : is_between 48 49 (48 + minor) ≡ true = grind (arith, nat_tests) in
    let digits : list_all is_ascii_digit (a ∷ b ∷ c ∷ []) ≡ true = list_all-from_AllPass is_ascii_digit (a ∷ b ∷ c ∷ []) all in
    let phrase = reason_is reason pass in
    rw (version, digits, phrase) refl
status_digits minor (a ∷ b ∷ c ∷ d ∷ digits) reason small three all pass = absurd (omega (arith, three))

status_is : (h : ResponseHead) → IsResponseHead h → status_of (line_text h) ≡ Some (status_code h)
status_is h is = status_digits h.minor h.digits h.reason is.minor is.digits.0 is.digits.1 is.reason

plain_version : (minor : ℕ) → minor ≤ 1 → IsPlain (print_version minor)
plain_version minor small = plain_values (print_version minor) (AllPass-from_list_all is_value_byte (print_version minor) pass)
  where
    last : is_value_byte (48 + minor) ≡ true
    last = grind (arith, nat_tests)

    pass : list_all is_value_byte (print_version minor) ≡ true
    pass = rw last refl

plain_digits : (digits : List ℕ) → AllPass is_ascii_digit digits → IsPlain digits
plain_digits digits pass = λ k d within. by (get_or digits k d) (pass k d within)
  where
    by : (b : ℕ) → is_ascii_digit b ≡ true → is_newline b ≡ false
    by b digit = grind (arith, nat_tests)

plain_reason : (reason : Option (List ℕ)) → AllPass is_value_byte (reason_phrase reason) → IsPlain (print_reason reason)
plain_reason None pass = All-nil (λ c. is_newline c ≡ false)
plain_reason (Some phrase) pass = plain-cons 32 phrase refl (plain_values phrase pass)

plain_line : (h : ResponseHead) → IsResponseHead h → IsPlain (line_text h)
plain_line h is =
    plain-append (print_version h.minor) (32 ∷ (h.digits ++ print_reason h.reason)) (plain_version h.minor is.minor)
    (plain-cons 32 (h.digits ++ print_reason h.reason) refl (plain-append h.digits (print_reason h.reason) (plain_digits h.digits is.digits.1) (plain_reason h.reason is.reason)))

reads_blank : (ends : List LineEnd) (bytes : List ℕ) → reads_on Before (print_blank ends ++ bytes) ≡ reads_on Before bytes
reads_blank [] bytes = refl
reads_blank (end ∷ ends) bytes =
    rw (append_assoc (print_end end) (print_blank ends) bytes, lines-line [] end (print_blank ends ++ bytes) (All-nil (λ c. is_newline c ≡ false)))
    (reads_blank ends bytes)

begin_step : (line : List ℕ) (status : ℕ) → is_empty line ≡ false → status_of line ≡ Some status → reading_after Before line ≡ Within status 0
begin_step line status some is = rw (some, is) refl

-- a head is its empty lines, its status line and its section
pub head-lines : (h : ResponseHead) (rest : List ℕ) → print_response h ++ rest ≡ print_blank h.blank ++ (line_text h ++ (print_end h.line_end ++ (print_section h.fields h.last ++ rest)))
head-lines h rest =
    print_response-append h rest
    ∙ ap (λ (t : List ℕ). print_blank h.blank ++ t) (regroup (print_version h.minor) h.digits (print_reason h.reason) (print_end h.line_end ++ (print_section h.fields h.last ++ rest)))
  where
    regroup : (a b c d : List ℕ) → a ++ 32 ∷ (b ++ (c ++ d)) ≡ (a ++ 32 ∷ (b ++ c)) ++ d
    regroup a b c d = sym (append_assoc a (32 ∷ (b ++ c)) d ∙ ap (λ (t : List ℕ). a ++ 32 ∷ t) (append_assoc b c d))

-- a head is read to its end
pub reads_head : (bytes : List ℕ) (h : ResponseHead) (rest : List ℕ) → ReadsResponse bytes h rest → length h.fields ≤ most_fields
    → reads_on Before bytes ≡ reads_on (finished (status_code h)) rest
reads_head bytes h rest reads fits =
    let split = reads.1 ∙ head-lines h rest in
    let first = lines-line (line_text h) h.line_end (print_section h.fields h.last ++ rest) (plain_line h reads.0) in
    let step = begin_step (line_text h) (status_code h) refl (status_is h reads.0) in
    ap (reads_on Before) split
    ∙ reads_blank h.blank (line_text h ++ (print_end h.line_end ++ (print_section h.fields h.last ++ rest)))
    ∙ ap (fold reading_after Before) first
    ∙ ap (λ (r : Reading). fold reading_after r (whole_lines (print_section h.fields h.last ++ rest))) step
    ∙ reads_section (status_code h) 0 h.fields h.last rest reads.0.fields (omega (arith, fits))
