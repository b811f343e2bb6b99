-- The results of the parser of response heads, as readings of a reply.
use Rattle.std.proofs.Common.{◌≡◌, ◌⊎◌, inl, inr, ℕ, ◌-◌, ◌<◌, ◌≤◌, min, Bool, true, false, List, [], ◌++◌, length, take, drop, refl, sym, ap, ◌∙◌, subst, arith, length-append, Option, Some, None}
use Rattle.std.specs.Prelude.{nat_le}
use Rattle.std.proofs.lemmas.List.{length-map, length-take, append-nil, take_all}
use Rattle.std.proofs.Common.{length-drop}
use Rattle.std.proofs.lemmas.Bool.{cases_lt}
use Rattle.fwd_base.specs.Limits.{longest_head}
use Rattle.httparse.specs.Grammar.{print_blank, print_end, print_section, ResponseHead, print_response, ReadsResponse, HasNoResponse}
use Rattle.httparse.specs.Spans.{header_bytes, name_and_value, AreFieldsAt, ResponseOverflows, IsResponseOf}
use Rattle.httparse.specs.declared.spans.HeaderSpan.{HeaderSpan}
use Rattle.httparse.specs.declared.spans.ResponseSpans.{ResponseSpans}
use Rattle.fwd_out_http.specs.Reply.{is_interim, finished, Reading, status_read, status_in, whole_lines, most_fields, judged_by, http_judgement}
use Rattle.fwd_out_http.specs.Head.{BeginsWith, IsHead, First, Later}
use Rattle.fwd_http.specs.declared.statuses.StatusRange.{StatusRange}
use Rattle.fwd_out_http.specs.FirstHead.{StartsWithHead, StartsWithNoHead}
use Rattle.fwd_out_http.proofs.Heads.{reads_on, reads_head, head-lines, line_text}
use Rattle.fwd_out_http.proofs.Readings.{status_found, finished_interim, finished_whole, whole_stays}

-- a parsed head has no more fields than there was room for
fields_fit : (buf : List ℕ) (headers : List HeaderSpan) (r : ResponseSpans) (h : ResponseHead) → length headers ≡ most_fields → AreFieldsAt buf headers r.headers h.fields → length h.fields ≤ most_fields
fields_fit buf headers r h room are =
    let long = ap length are in
    let spans = length-map (take r.headers headers) (header_bytes buf) in
    let fields = length-map h.fields name_and_value in
    let taken = length-take r.headers headers in
    omega (arith, long, spans, fields, taken, room)

-- an interim head is skipped
pub interim_passed : (buf : List ℕ) (status len : ℕ) → StartsWithHead buf status len → is_interim status ≡ true → status_in buf ≡ status_in (drop len buf)
unfolding status_in
interim_passed buf status len front is =
    ap status_read
    (reads_head buf front.head (drop len buf) front.begins.reads front.begins.fits
    ∙ ap (λ (code : ℕ). reads_on (finished code) (drop len buf)) front.code
    ∙ ap (λ (r : Reading). reads_on r (drop len buf)) (finished_interim status is))

-- another one is final
pub head_counts : (buf : List ℕ) (status len : ℕ) → StartsWithHead buf status len → is_interim status ≡ false → status_in buf ≡ Some status
unfolding status_in
head_counts buf status len front is =
    ap status_read
    (reads_head buf front.head (drop len buf) front.begins.reads front.begins.fits
    ∙ ap (λ (code : ℕ). reads_on (finished code) (drop len buf)) front.code
    ∙ ap (λ (r : Reading). reads_on r (drop len buf)) (finished_whole status is)
    ∙ whole_stays status (whole_lines (drop len buf)))

no_head_by : (buf : List ℕ) → ((h : ResponseHead) (rest : List ℕ) → BeginsWith buf h rest → ⊥) → (h : ResponseHead) → IsHead buf h → ⊥
no_head_by buf none h (First _ _ rest begins last) = none h rest begins
no_head_by buf none h (Later _ interim _ rest begins is more) = none interim rest begins

no_status_by : (buf : List ℕ) → ((h : ResponseHead) (rest : List ℕ) → BeginsWith buf h rest → ⊥) → (status : Option ℕ) → status_in buf ≡ status → status ≡ None
no_status_by buf none (Some status) is = let found = status_found buf status is in absurd (no_head_by buf none found.head found.is)
no_status_by buf none None is = refl

pub no_status : (buf : List ℕ) → StartsWithNoHead buf → status_in buf ≡ None
no_status buf none = no_status_by buf none (status_in buf) refl

-- if no head is complete, the bytes start with none
pub partial_has_none : (buf : List ℕ) → HasNoResponse buf → StartsWithNoHead buf
partial_has_none buf none = λ h rest begins. none h rest begins.reads

-- nor if there is none with few enough fields
pub overflow_has_none : (buf : List ℕ) → ResponseOverflows most_fields buf → StartsWithNoHead buf
overflow_has_none buf over = λ h rest begins.
    let long = over [] h rest (subst (λ (t : List ℕ). ReadsResponse t h rest) (sym (append-nil buf)) begins.reads) in
    let fits = begins.fits in
    omega (arith, long, fits)

-- a head has a byte at least
pub head_is_some : (h : ResponseHead) → 0 < length (print_response h)
head_is_some h =
    let lines = ap length (append-nil (print_response h) ∙ refl) in
    let parts = ap length (head-lines h []) in
    let blank = length-append (print_blank h.blank) (line_text h ++ (print_end h.line_end ++ (print_section h.fields h.last ++ []))) in
    let line = length-append (line_text h) (print_end h.line_end ++ (print_section h.fields h.last ++ [])) in
    let some : 0 < length (line_text h) = omega arith in
    omega (arith, lines, parts, blank, line, some)

-- the bytes start with the parsed head
pub parsed_stands : (buf : List ℕ) (headers : List HeaderSpan) (r : ResponseSpans) → length headers ≡ most_fields → r.len ≤ length buf → IsResponseOf buf headers r → StartsWithHead buf r.code r.len
parsed_stands buf headers r room within (h, is) =
    let some = head_is_some h in
    let size = is.len in
    record {
      head = h;
      begins = record { reads = is.reads; fits = fields_fit buf headers r h room is.fields };
      code = sym is.code;
      some = omega (arith, some, size);
      within = within;
    }

-- the same if the rest is a slice
pub interim_sliced : (all buf : List ℕ) (status len : ℕ) → status_in all ≡ status_in buf → StartsWithHead buf status len → is_interim status ≡ true → status_in all ≡ status_in (take (length buf - len) (drop len buf))
interim_sliced all buf status len before front is =
    let left = length-drop len buf in
    let whole = take_all (length buf - len) (drop len buf) (omega (arith, left)) in
    before ∙ interim_passed buf status len front is ∙ ap status_in (sym whole)

-- the first bytes, as many as are read
take_first : (reply : List ℕ) (n : ℕ) → n ≡ min (length reply) longest_head → take n reply ≡ take longest_head reply
take_first reply n is = by (cases_lt (length reply) longest_head)
  where
    by : (length reply < longest_head) ⊎ (longest_head ≤ length reply) → take n reply ≡ take longest_head reply
    by (inl less) = take_all n reply (omega (arith, is, less)) ∙ sym (take_all longest_head reply (omega (arith, less)))
    by (inr more) = let same : n ≡ longest_head = omega (arith, is, more) in ap (λ (k : ℕ). take k reply) same

pub judged_as : (ranges : List StatusRange) (reply : List ℕ) (n : ℕ) (status : Option ℕ) (full : Bool) → n ≡ min (length reply) longest_head → status ≡ status_in (take n reply) → nat_le longest_head (length reply) ≡ full → judged_by ranges status full ≡ http_judgement ranges reply
judged_as ranges reply n status full first is long =
    let same : status ≡ status_in (take longest_head reply) = is ∙ ap status_in (take_first reply n first) in
    ap (judged_by ranges status) (sym long) ∙ ap (λ (s : Option ℕ). judged_by ranges s (nat_le longest_head (length reply))) same
