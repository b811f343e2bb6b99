-- The head of a reply is the reading of its lines.
use Rattle.std.proofs.Common.{◌≡◌, ◌⊎◌, inl, inr, ℕ, ◌+◌, ◌-◌, ◌<◌, ◌≤◌, Bool, true, false, ◌&&◌, cond, eqb, List, [], ◌∷◌, ◌++◌, length, drop, refl, sym, ap, ◌∙◌, subst, arith, append_assoc, Option, Some, None}
use Rattle.std.specs.Prelude.{fold, codes, nat_eq, nat_lt}
use Rattle.std.specs.List.{list_all, starts_with}
use Rattle.std.specs.Char.{is_ascii_digit}
use Rattle.std.specs.Str.Parse.{digits_value}
use Rattle.std.proofs.lemmas.List.Elements.{All-cons, All-nil}
use Rattle.std.proofs.lemmas.List.Sums.{AllPass-from_list_all}
use Rattle.std.proofs.lemmas.Slice.Eq.{starts_is}
use Rattle.std.proofs.lemmas.Bool.{eqb-true, and_parts, ltb-true}
use Rattle.std.proofs.lemmas.Bool.Decides.{nat_tests, Decides-eqb}
use Rattle.httparse.specs.Grammar.{is_token_byte, is_value_byte, AllPass, LineEnd, print_end, print_blank, print_version, Field, print_field, IsField, print_section, ReadsSection, ResponseHead, print_reason, reason_phrase, ReadsResponse, status_code}
use Rattle.fwd_out_http.specs.Reply.{is_reason, is_between, is_interim, status_after_version, status_of, is_field_end, is_field, Reading, Before, Within, Whole, Broken, begun, finished, reading_after, status_read, whole_lines, status_in, most_fields}
use Rattle.fwd_out_http.specs.Head.{BeginsWith, IsHead, First, Later}
use Rattle.fwd_out_http.proofs.Lines.{FirstLine, first_line}
use Rattle.fwd_out_http.proofs.Heads.{reads_on, reads_head, section-cons, head-lines, line_text}

-- the first head in some bytes that isn't interim, which has this status
pub record Found (bytes : List ℕ) (status : ℕ) : Type 0 where
  pub head : ResponseHead
  pub is : IsHead bytes head
  pub code : status_code head ≡ status

pub whole_stays : (status : ℕ) (lines : List (List ℕ)) → fold reading_after (Whole status) lines ≡ Whole status
whole_stays status [] = refl
whole_stays status (line ∷ lines) = whole_stays status lines

broken_stays : (lines : List (List ℕ)) → fold reading_after Broken lines ≡ Broken
broken_stays [] = refl
broken_stays (line ∷ lines) = broken_stays lines

-- ---- a head is read

pub finished_interim : (status : ℕ) → is_interim status ≡ true → finished status ≡ Before
finished_interim status is = rw is refl

pub finished_whole : (status : ℕ) → is_interim status ≡ false → finished status ≡ Whole status
finished_whole status is = rw is refl

head_is_read : (bytes : List ℕ) (head : ResponseHead) → IsHead bytes head → reads_on Before bytes ≡ Whole (status_code head)
head_is_read bytes head (First _ _ rest begins last) =
    reads_head bytes head rest begins.reads begins.fits
    ∙ ap (λ (r : Reading). reads_on r rest) (finished_whole (status_code head) last)
    ∙ whole_stays (status_code head) (whole_lines rest)
head_is_read bytes head (Later _ interim _ rest begins is more) =
    reads_head bytes interim rest begins.reads begins.fits
    ∙ ap (λ (r : Reading). reads_on r rest) (finished_interim (status_code interim) is)
    ∙ head_is_read rest head more

-- ---- what is read as a field line is one

record FieldParts (named : Bool) (line : List ℕ) : Type 0 where
  name : List ℕ
  raw : List ℕ
  split : line ≡ name ++ 58 ∷ raw
  token : AllPass is_token_byte name
  value : AllPass is_value_byte raw
  some : named ≡ false → 0 < length name

field_parts : (named : Bool) (line : List ℕ) → is_field_end named line ≡ true → FieldParts named line
field_parts named [] is = absurd (cc)
field_parts named (b ∷ line) is = by (field_parts true line) (eqb b 58) refl
  where
    by : (is_field_end true line ≡ true → FieldParts true line) → (test : Bool) → eqb b 58 ≡ test → FieldParts named (b ∷ line)
    by again true colon =
        let parts = and_parts named (list_all is_value_byte line) (subst (λ (t : Bool). cond t (named && list_all is_value_byte line) (is_token_byte b && is_field_end true line) ≡ true) colon is) in
        record {
          name = [];
          raw = line;
          split = ap (λ (v : ℕ). v ∷ line) (eqb-true b 58 colon);
          token = All-nil (λ v. is_token_byte v ≡ true);
          value = AllPass-from_list_all is_value_byte line parts.1;
          some = λ no. let yes : named ≡ true = parts.0 in absurd (cc);
        }
    by again false other =
        let parts = and_parts (is_token_byte b) (is_field_end true line) (subst (λ (t : Bool). cond t (named && list_all is_value_byte line) (is_token_byte b && is_field_end true line) ≡ true) other is) in
        let rest = again parts.1 in
        record {
          name = b ∷ rest.name;
          raw = rest.raw;
          split = ap (λ (t : List ℕ). b ∷ t) rest.split;
          token = All-cons (λ v. is_token_byte v ≡ true) b rest.name parts.0 rest.token;
          value = rest.value;
          some = λ no. omega arith;
        }

abbrev field_from : (line : List ℕ) → FieldParts false line → LineEnd → Field
field_from line parts end = record { name = parts.name; raw = parts.raw; end = end }

field_from_is : (line : List ℕ) (parts : FieldParts false line) (end : LineEnd) → IsField (field_from line parts end)
field_from_is line parts end = record { name = (parts.some refl, parts.token); raw = parts.value }

-- ---- what is read as a status line is one

record StatusParts (line : List ℕ) (status : ℕ) : Type 0 where
  minor : ℕ
  digits : List ℕ
  reason : Option (List ℕ)
  small : minor ≤ 1
  three : (length digits ≡ 3) × AllPass is_ascii_digit digits
  phrase : AllPass is_value_byte (reason_phrase reason)
  code : digits_value 10 digits ≡ status
  split : line ≡ print_version minor ++ 32 ∷ (digits ++ print_reason reason)

record ReasonParts (rest : List ℕ) : Type 0 where
  reason : Option (List ℕ)
  phrase : AllPass is_value_byte (reason_phrase reason)
  split : rest ≡ print_reason reason

reason_parts : (rest : List ℕ) → is_reason rest ≡ true → ReasonParts rest
reason_parts [] is = record { reason = None; phrase = All-nil (λ v. is_value_byte v ≡ true); split = refl }
reason_parts (b ∷ phrase) is =
    let parts = and_parts (eqb b 32) (list_all is_value_byte phrase) is in
    record { reason = Some phrase; phrase = AllPass-from_list_all is_value_byte phrase parts.1; split = ap (λ (v : ℕ). v ∷ phrase) (eqb-true b 32 parts.0) }

-- the text after HTTP/1.
behind_parts : (text : List ℕ) (status : ℕ) → status_after_version text ≡ Some status → StatusParts (codes "HTTP/1." ++ text) status
behind_parts [] status is = absurd (cc)
behind_parts (minor ∷ []) status is = absurd (cc)
behind_parts (minor ∷ blank ∷ []) status is = absurd (cc)
behind_parts (minor ∷ blank ∷ a ∷ []) status is = absurd (cc)
behind_parts (minor ∷ blank ∷ a ∷ b ∷ []) status is = absurd (cc)
behind_parts (minor ∷ blank ∷ a ∷ b ∷ c ∷ rest) status is =
    by (is_between 48 49 minor && (eqb blank 32 && (list_all is_ascii_digit (a ∷ b ∷ c ∷ []) && is_reason rest))) refl is
  where
    by : (test : Bool) → (is_between 48 49 minor && (eqb blank 32 && (list_all is_ascii_digit (a ∷ b ∷ c ∷ []) && is_reason rest))) ≡ test → cond test (Some (digits_value 10 (a ∷ b ∷ c ∷ []))) None ≡ Some status
        → StatusParts (codes "HTTP/1." ++ minor ∷ blank ∷ a ∷ b ∷ c ∷ rest) status
    by false fails none = absurd (cc)
    by true passes some =
        let first = and_parts (is_between 48 49 minor) (eqb blank 32 && (list_all is_ascii_digit (a ∷ b ∷ c ∷ []) && is_reason rest)) passes in
        let second = and_parts (eqb blank 32) (list_all is_ascii_digit (a ∷ b ∷ c ∷ []) && is_reason rest) first.1 in
        let third = and_parts (list_all is_ascii_digit (a ∷ b ∷ c ∷ [])) (is_reason rest) second.1 in
        let reason = reason_parts rest third.1 in
        let between : is_between 48 49 minor ≡ true = first.0 in
        let low : 48 ≤ minor = grind (arith, nat_tests) in
        let high : minor ≤ 49 = grind (arith, nat_tests) in
        let same : minor ≡ 48 + (minor - 48) = omega arith in
        record {
          minor = minor - 48;
          digits = a ∷ b ∷ c ∷ [];
          reason = reason.reason;
          small = omega arith;
          three = (refl, AllPass-from_list_all is_ascii_digit (a ∷ b ∷ c ∷ []) third.0);
          phrase = reason.phrase;
          code = let e = some in cc;
          split =
              ap (λ (v : ℕ). codes "HTTP/1." ++ v ∷ blank ∷ a ∷ b ∷ c ∷ rest) same
              ∙ ap (λ (v : ℕ). codes "HTTP/1." ++ (48 + (minor - 48)) ∷ v ∷ a ∷ b ∷ c ∷ rest) (eqb-true blank 32 second.0)
              ∙ ap (λ (v : List ℕ). codes "HTTP/1." ++ (48 + (minor - 48)) ∷ 32 ∷ a ∷ b ∷ c ∷ v) reason.split;
        }

status_parts : (line : List ℕ) (status : ℕ) → status_of line ≡ Some status → StatusParts line status
status_parts line status is = by (starts_with nat_eq line (codes "HTTP/1.")) refl is
  where
    by : (test : Bool) → starts_with nat_eq line (codes "HTTP/1.") ≡ test → cond test (status_after_version (drop 7 line)) None ≡ Some status → StatusParts line status
    by false fails none = absurd (cc)
    by true passes some =
        let split : line ≡ codes "HTTP/1." ++ drop 7 line = (starts_is Decides-eqb line (codes "HTTP/1.") true (sym passes)).0 refl in
        subst (λ (t : List ℕ). StatusParts t status) (sym split) (behind_parts (drop 7 line) status some)

-- ---- lines that are read to a status begin with a head of it

-- what follows a section that is read to a status
abbrev After : ℕ → List ℕ → ℕ → Type 0
After code rest status = ((is_interim code ≡ false) × (code ≡ status)) ⊎ ((is_interim code ≡ true) × Found rest status)

record SectionFound (code n : ℕ) (bytes : List ℕ) (status : ℕ) : Type 0 where
  fields : List Field
  last : LineEnd
  rest : List ℕ
  reads : ReadsSection bytes fields last rest
  fits : n + length fields ≤ most_fields
  after : After code rest status

record Reads (lines : List (List ℕ)) : Type 0 where
  before : (bytes : List ℕ) (status : ℕ) → whole_lines bytes ≡ lines → status_read (fold reading_after Before lines) ≡ Some status → Found bytes status
  within : (bytes : List ℕ) (code n status : ℕ) → n ≤ most_fields → whole_lines bytes ≡ lines → status_read (fold reading_after (Within code n) lines) ≡ Some status → SectionFound code n bytes status

-- ---- leading empty lines

abbrev with_blank : LineEnd → ResponseHead → ResponseHead
with_blank end head = record head { blank = end ∷ head.blank }

blank_reads : (bytes left : List ℕ) (end : LineEnd) (head : ResponseHead) (rest : List ℕ) → bytes ≡ print_end end ++ left → ReadsResponse left head rest → ReadsResponse bytes (with_blank end head) rest
blank_reads bytes left end head rest split reads =
    let tail : List ℕ = line_text head ++ (print_end head.line_end ++ (print_section head.fields head.last ++ rest)) in (
      record { minor = reads.0.minor; digits = reads.0.digits; reason = reads.0.reason; fields = reads.0.fields },
      split
          ∙ ap (λ (t : List ℕ). print_end end ++ t) (reads.1 ∙ head-lines head rest)
          ∙ sym (append_assoc (print_end end) (print_blank head.blank) (line_text head ++ (print_end head.line_end ++ (print_section head.fields head.last ++ rest))))
          ∙ sym (head-lines (with_blank end head) rest),
    )

blank_begins : (bytes left : List ℕ) (end : LineEnd) (head : ResponseHead) (rest : List ℕ) → bytes ≡ print_end end ++ left → BeginsWith left head rest → BeginsWith bytes (with_blank end head) rest
blank_begins bytes left end head rest split begins = record { reads = blank_reads bytes left end head rest split begins.reads; fits = begins.fits }

blank_found : (bytes left : List ℕ) (end : LineEnd) (head : ResponseHead) (status : ℕ) → bytes ≡ print_end end ++ left → IsHead left head → status_code head ≡ status → Found bytes status
blank_found bytes left end head status split (First _ _ rest begins last) code =
    record { head = with_blank end head; is = First bytes (with_blank end head) rest (blank_begins bytes left end head rest split begins) last; code = code }
blank_found bytes left end head status split (Later _ interim _ rest begins is more) code =
    record { head = head; is = Later bytes (with_blank end interim) head rest (blank_begins bytes left end interim rest split begins) is more; code = code }

-- ---- line by line

section_ends : (code n status : ℕ) (lines : List (List ℕ)) (bytes : List ℕ) → Reads lines → n ≤ most_fields → (f : FirstLine bytes) → f.text ≡ [] → whole_lines f.left ≡ lines
    → status_read (fold reading_after (finished code) lines) ≡ Some status → SectionFound code n bytes status
section_ends code n status lines bytes again room f none left is =
    record {
      fields = [];
      last = f.end;
      rest = f.left;
      reads = (All-nil IsField, f.split ∙ ap (λ (t : List ℕ). t ++ (print_end f.end ++ f.left)) none);
      fits = omega (arith, room);
      after = by (is_interim code) refl;
    }
  where
    by : (test : Bool) → is_interim code ≡ test → After code f.left status
    by true interim = inr (interim, again.before f.left status left (subst (λ (r : Reading). status_read (fold reading_after r lines) ≡ Some status) (finished_interim code interim) is))
    by false last =
        let whole = subst (λ (r : Reading). status_read (fold reading_after r lines) ≡ Some status) (finished_whole code last) is in
        let stays = subst (λ (r : Reading). status_read r ≡ Some status) (whole_stays code lines) whole in
        inl (last, cc)

broken_reads : (lines : List (List ℕ)) (status : ℕ) → status_read (fold reading_after Broken lines) ≡ Some status → ⊥
broken_reads lines status is = let none = subst (λ (r : Reading). status_read r ≡ Some status) (broken_stays lines) is in cc

section_goes_on : (code n status : ℕ) (line : List ℕ) (lines : List (List ℕ)) (bytes : List ℕ) → Reads lines → (f : FirstLine bytes) → f.text ≡ line → whole_lines f.left ≡ lines
    → (is_field line && nat_lt n most_fields) ≡ true → status_read (fold reading_after (Within code (n + 1)) lines) ≡ Some status → SectionFound code n bytes status
section_goes_on code n status line lines bytes again f same left test is =
    let tests = and_parts (is_field line) (nat_lt n most_fields) test in
    let parts = field_parts false line tests.0 in
    let less : n < most_fields = ltb-true n most_fields tests.1 in
    let rest = again.within f.left code (n + 1) status (omega (arith, less)) left is in
    let here = field_from line parts f.end in
    let text : f.text ≡ parts.name ++ 58 ∷ parts.raw = same ∙ parts.split in
    record {
      fields = field_from line parts f.end ∷ rest.fields;
      last = rest.last;
      rest = rest.rest;
      reads = (
        All-cons IsField (field_from line parts f.end) rest.fields (field_from_is line parts f.end) rest.reads.0,
        f.split
            ∙ ap (λ (t : List ℕ). t ++ (print_end f.end ++ f.left)) text
            ∙ sym (append_assoc (parts.name ++ 58 ∷ parts.raw) (print_end f.end) f.left)
            ∙ ap (λ (t : List ℕ). print_field (field_from line parts f.end) ++ t) rest.reads.1
            ∙ sym (section-cons (field_from line parts f.end) rest.fields rest.last rest.rest),
      );
      fits = omega (arith, rest.fits);
      after = rest.after;
    }

within_line : (code n status : ℕ) (line : List ℕ) (lines : List (List ℕ)) (bytes : List ℕ) → Reads lines → n ≤ most_fields → (f : FirstLine bytes) → f.text ≡ line → whole_lines f.left ≡ lines
    → status_read (fold reading_after (reading_after (Within code n) line) lines) ≡ Some status → SectionFound code n bytes status
within_line code n status [] lines bytes again room f same left is = section_ends code n status lines bytes again room f same left is
within_line code n status (b ∷ line) lines bytes again room f same left is = by (is_field (b ∷ line) && nat_lt n most_fields) refl is
  where
    by : (test : Bool) → (is_field (b ∷ line) && nat_lt n most_fields) ≡ test → status_read (fold reading_after (cond test (Within code (n + 1)) Broken) lines) ≡ Some status → SectionFound code n bytes status
    by true field read = section_goes_on code n status (b ∷ line) lines bytes again f same left field read
    by false other read = absurd (broken_reads lines status read)

abbrev begun_head : {line : List ℕ} {code n status : ℕ} {bytes : List ℕ} → StatusParts line code → LineEnd → SectionFound code n bytes status → ResponseHead
begun_head parts end section = record {
  blank = [];
  minor = parts.minor;
  digits = parts.digits;
  reason = parts.reason;
  line_end = end;
  fields = section.fields;
  last = section.last;
}

head_begins : (code status : ℕ) (line : List ℕ) (bytes : List ℕ) → (f : FirstLine bytes) → f.text ≡ line → StatusParts line code → SectionFound code 0 f.left status → Found bytes status
head_begins code status line bytes f same parts section = by section.after
  where
    reads : ReadsResponse bytes (begun_head parts f.end section) section.rest
    reads = (
      record { minor = parts.small; digits = parts.three; reason = parts.phrase; fields = section.reads.0 },
      f.split
          ∙ ap (λ (t : List ℕ). t ++ (print_end f.end ++ f.left)) (same ∙ parts.split)
          ∙ ap (λ (t : List ℕ). line_text (begun_head parts f.end section) ++ (print_end f.end ++ t)) section.reads.1
          ∙ sym (head-lines (begun_head parts f.end section) section.rest),
    )

    begins : BeginsWith bytes (begun_head parts f.end section) section.rest
    begins = record { reads = reads; fits = omega (arith, section.fits) }

    by : After code section.rest status → Found bytes status
    by (inl (last, is)) = record {
      head = begun_head parts f.end section;
      is = First bytes (begun_head parts f.end section) section.rest begins (subst (λ (c : ℕ). is_interim c ≡ false) (sym parts.code) last);
      code = parts.code ∙ is;
    }
    by (inr (interim, found)) = record {
      head = found.head;
      is = Later bytes (begun_head parts f.end section) found.head section.rest begins (subst (λ (c : ℕ). is_interim c ≡ true) (sym parts.code) interim) found.is;
      code = found.code;
    }

before_line : (status : ℕ) (line : List ℕ) (lines : List (List ℕ)) (bytes : List ℕ) → Reads lines → (f : FirstLine bytes) → f.text ≡ line → whole_lines f.left ≡ lines
    → status_read (fold reading_after (reading_after Before line) lines) ≡ Some status → Found bytes status
before_line status [] lines bytes again f same left is =
    let later = again.before f.left status left is in
    blank_found bytes f.left f.end later.head status (f.split ∙ ap (λ (t : List ℕ). t ++ (print_end f.end ++ f.left)) same) later.is later.code
before_line status (b ∷ line) lines bytes again f same left is = by (status_of (b ∷ line)) refl is
  where
    by : (of : Option ℕ) → status_of (b ∷ line) ≡ of → status_read (fold reading_after (begun of) lines) ≡ Some status → Found bytes status
    by None none read = absurd (broken_reads lines status read)
    by (Some code) some read =
        head_begins code status (b ∷ line) bytes f same (status_parts (b ∷ line) code some) (again.within f.left code 0 status (omega arith) left read)

reads_all : (lines : List (List ℕ)) → Reads lines
reads_all [] = record { before = λ bytes status e is. absurd (cc); within = λ bytes code n status room e is. absurd (cc) }
reads_all (line ∷ lines) = record {
  before = λ bytes status e is. first (reads_all lines) bytes status e is (first_line bytes);
  within = λ bytes code n status room e is. next (reads_all lines) bytes code n status room e is (first_line bytes);
}
  where
    first : Reads lines → (bytes : List ℕ) (status : ℕ) → whole_lines bytes ≡ line ∷ lines → status_read (fold reading_after (reading_after Before line) lines) ≡ Some status → (whole_lines bytes ≡ []) ⊎ FirstLine bytes → Found bytes status
    first again bytes status e is (inl none) = absurd (cc)
    first again bytes status e is (inr f) =
        let parts : f.text ∷ whole_lines f.left ≡ line ∷ lines = sym f.lines ∙ e in
        before_line status line lines bytes again f (cc) (cc) is

    next : Reads lines → (bytes : List ℕ) (code n status : ℕ) → n ≤ most_fields → whole_lines bytes ≡ line ∷ lines → status_read (fold reading_after (reading_after (Within code n) line) lines) ≡ Some status → (whole_lines bytes ≡ []) ⊎ FirstLine bytes → SectionFound code n bytes status
    next again bytes code n status room e is (inl none) = absurd (cc)
    next again bytes code n status room e is (inr f) =
        let parts : f.text ∷ whole_lines f.left ≡ line ∷ lines = sym f.lines ∙ e in
        within_line code n status line lines bytes again room f (cc) (cc) is

-- ---- the status that is read is that of the first head that isn't interim

pub status_found : (bytes : List ℕ) (status : ℕ) → status_in bytes ≡ Some status → Found bytes status
unfolding status_in
status_found bytes status is = (reads_all (whole_lines bytes)).before bytes status refl is

pub found_status : (bytes : List ℕ) (status : ℕ) → Found bytes status → status_in bytes ≡ Some status
unfolding status_in
found_status bytes status found = ap status_read (head_is_read bytes found.head found.is) ∙ ap Some found.code
