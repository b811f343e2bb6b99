-- The head of a request is read back.
use Rattle.std.proofs.Common.{◌≡◌, ℕ, ◌+◌, ◌%◌, ◌^◌, ◌<◌, ◌≤◌, Bool, true, false, List, [], ◌∷◌, ◌++◌, length, get_or, reverse, refl, sym, ap, ◌∙◌, arith, append_assoc}
use Rattle.std.specs.Prelude.{All, codes, decimal, map, nat_lt}
use Rattle.std.specs.List.{list_all, flat_map}
use Rattle.std.specs.Char.{is_ascii_graphic}
use Rattle.std.proofs.lemmas.Str.{IsUtf8-from_ascii}
use Rattle.std.proofs.lemmas.Str.Ascii.{IsAscii-from_all}
use Rattle.std.proofs.lemmas.Fmt.{decimal_by_steps}
use Rattle.std.proofs.lemmas.List.Elements.{All-head, All-cons, All-nil, All-append, All-push}
use Rattle.std.proofs.lemmas.List.Sums.{AllPass-from_list_all}
use Rattle.std.proofs.lemmas.Bool.Decides.{nat_tests}
use Rattle.std.proofs.lemmas.Bool.{and_parts, ltb-true}
use Rattle.fwd_base.specs.declared.output_options.Form.{Form}
use Rattle.fwd_base.specs.declared.output_options.Form.TheVariants.{JsonLines, OutFile, MsgPack}
use Rattle.httparse.specs.Grammar.{is_token_byte, is_uri_byte, is_value_byte, is_ows, AllPass, IsToken, crlf, Field, print_field, IsField, skip_ows, RequestHead, print_request, IsRequestHead, trim_ows}
use Rattle.httparse.specs.Spans.{name_and_value}
use Rattle.httparse.proofs.GrammarLemmas.{print_request-append}
use Rattle.httparse.proofs.TrimLemmas.{trim_ows_space, AllPass-reverse}
use Rattle.fwd_out_http.specs.Request.{content_type, request_line, field, further_fields, server, http_head, IsVisible, IsUri, ReadsBack}
use Rattle.fwd_http.specs.declared.fields.HeaderField.{HeaderField}
use Rattle.fwd_http.specs.Fields.{is_printable, AreHeaderFields}

-- each byte is visible
abbrev AreVisible : List ℕ → Type 0
AreVisible text = AllPass is_ascii_graphic text

weaker : (test : ℕ → Bool) → ((b : ℕ) → is_ascii_graphic b ≡ true → test b ≡ true) → (text : List ℕ) → AreVisible text → AllPass test text
weaker test each text visible = λ k d within. each (get_or text k d) (visible k d within)

visible_value : (b : ℕ) → is_ascii_graphic b ≡ true → is_value_byte b ≡ true
visible_value b visible = grind (arith, nat_tests)

visible_uri : (b : ℕ) → is_ascii_graphic b ≡ true → is_uri_byte b ≡ true
visible_uri b visible = grind (arith, nat_tests)

visible_small : (b : ℕ) → is_ascii_graphic b ≡ true → b < 128
visible_small b visible = grind (arith, nat_tests)

visible_no_blank : (b : ℕ) → is_ascii_graphic b ≡ true → is_ows b ≡ false
visible_no_blank b visible = grind (arith, nat_tests)

-- ---- visible bytes

digit_visible : (n : ℕ) → n < 10 → is_ascii_graphic (48 + n) ≡ true
digit_visible n small = grind (arith, nat_tests)

decimal_visible : (n : ℕ) → n < 2 ^ 64 → AreVisible (decimal n)
decimal_visible n small = decimal_by_steps (λ n digits. AreVisible digits) one more n small
  where
    one : (n : ℕ) → n < 10 → AreVisible ((48 + n) ∷ [])
    one n small = All-cons (λ b. is_ascii_graphic b ≡ true) (48 + n) [] (digit_visible n small) (All-nil (λ b. is_ascii_graphic b ≡ true))

    more : (n : ℕ) (digits : List ℕ) → 10 ≤ n → AreVisible digits → AreVisible (digits ++ ((48 + n % 10) ∷ []))
    more n digits large before = All-push (λ b. is_ascii_graphic b ≡ true) digits (48 + n % 10) before (digit_visible (n % 10) (omega arith))

visible-append : (a b : List ℕ) → AreVisible a → AreVisible b → AreVisible (a ++ b)
visible-append a b first second = All-append (λ c. is_ascii_graphic c ≡ true) a b first second

server_visible : (host : List ℕ) (port : ℕ) → AreVisible host → port < 2 ^ 64 → AreVisible (server host port)
server_visible host port visible small =
    visible-append (host ++ codes ":") (decimal port) (visible-append host (codes ":") visible (AllPass-from_list_all is_ascii_graphic (codes ":") refl)) (decimal_visible port small)

type_visible : (form : Form) → AreVisible (content_type form)
type_visible JsonLines = AllPass-from_list_all is_ascii_graphic (content_type JsonLines) refl
type_visible OutFile = AllPass-from_list_all is_ascii_graphic (content_type OutFile) refl
type_visible MsgPack = AllPass-from_list_all is_ascii_graphic (content_type MsgPack) refl

-- ---- a field line

abbrev line : List ℕ → List ℕ → Field
line name value = record { name = name; raw = 32 ∷ value; end = crlf }

line_is : (name value : List ℕ) → field name value ≡ print_field (line name value)
line_is name value = ap (λ (t : List ℕ). t ++ codes "\r\n") (append_assoc name (codes ": ") value)

named_line : (name value : List ℕ) → IsToken name → AreVisible value → IsField (line name value)
named_line name value token visible = record {
  name = token;
  raw = All-cons (λ b. is_value_byte b ≡ true) 32 value refl (weaker is_value_byte visible_value value visible);
}

skip_none : (value : List ℕ) → AreVisible value → skip_ows value ≡ value
skip_none [] visible = refl
skip_none (b ∷ value) visible =
    let first = visible_no_blank b (All-head (λ c. is_ascii_graphic c ≡ true) b value visible) in
    rw first refl

line_says : (name value : List ℕ) → AreVisible value → name_and_value (line name value) ≡ (name, value)
line_says name value visible =
    ap (λ (v : List ℕ). (name, v)) (trim_ows_space value (skip_none value visible) (skip_none (reverse value) (AllPass-reverse is_ascii_graphic value visible)))

-- ---- the whole request

-- a further field's line
abbrev further_line : HeaderField → Field
further_line more = line more.name more.value

further_lines : (more : List HeaderField) → further_fields more ≡ flat_map print_field (map further_line more)
further_lines [] = refl
further_lines (one ∷ more) = λ i. line_is one.name one.value i ++ further_lines more i

printable_value : (b : ℕ) → is_printable b ≡ true → is_value_byte b ≡ true
printable_value b is = grind (arith, nat_tests)

further_is : (more : List HeaderField) → AreHeaderFields more → All IsField (map further_line more)
further_is [] are = All-nil IsField
further_is (one ∷ more) are =
    let name = and_parts (nat_lt 0 (length one.name)) (list_all is_token_byte one.name) are.0.0 in
    let value = AllPass-from_list_all is_printable one.value are.0.1 in
    All-cons IsField (further_line one) (map further_line more)
    (record {
      name = (ltb-true 0 (length one.name) name.0, AllPass-from_list_all is_token_byte one.name name.1);
      raw = All-cons (λ b. is_value_byte b ≡ true) 32 one.value refl (λ k d within. printable_value (get_or one.value k d) (value k d within));
    })
    (further_is more are.1)

further_said : (more : List HeaderField) → map name_and_value (map further_line more) ≡ map (λ (one : HeaderField). (one.name, trim_ows one.value)) more
unfolding trim_ows
further_said [] = refl
further_said (one ∷ more) = λ i. (one.name, trim_ows one.value) ∷ further_said more i

abbrev lines_of : List ℕ → ℕ → Form → List HeaderField → ℕ → List Field
lines_of host port form more size =
    line (codes "Host") (server host port)
    ∷ line (codes "Content-Length") (decimal size)
    ∷ line (codes "Content-Type") (content_type form)
    ∷ line (codes "Connection") (codes "close")
    ∷ map further_line more

abbrev head_of : List ℕ → ℕ → List ℕ → Form → List HeaderField → ℕ → RequestHead
head_of host port uri form more size = record {
  blank = [];
  method = codes "POST";
  target = uri;
  minor = 1;
  line_end = crlf;
  fields = lines_of host port form more size;
  last = crlf;
}

regroup : (first a b c d more end body : List ℕ) → first ++ a ++ b ++ c ++ d ++ more ++ end ++ body ≡ first ++ (((a ++ (b ++ (c ++ (d ++ more)))) ++ end) ++ body)
regroup first a b c d more end body = simp append_assoc

begins : (uri rest : List ℕ) → request_line uri ++ rest ≡ codes "POST" ++ 32 ∷ (uri ++ 32 ∷ (codes "HTTP/1.1" ++ (codes "\r\n" ++ rest)))
begins uri rest = append_assoc (codes "POST " ++ uri) (codes " HTTP/1.1\r\n") rest ∙ append_assoc (codes "POST ") uri (codes " HTTP/1.1\r\n" ++ rest)

printed : (host uri body : List ℕ) (port : ℕ) (form : Form) (more : List HeaderField) (size : ℕ) → http_head host port uri form more size ++ body ≡ print_request (head_of host port uri form more size) ++ body
printed host uri body port form more size =
    regroup (request_line uri) (field (codes "Host") (server host port)) (field (codes "Content-Length") (decimal size)) (field (codes "Content-Type") (content_type form)) (field (codes "Connection") (codes "close")) (further_fields more) (codes "\r\n") body
    ∙ ap (λ (t : List ℕ). request_line uri ++ ((t ++ codes "\r\n") ++ body)) fields
    ∙ begins uri ((flat_map print_field (lines_of host port form more size) ++ codes "\r\n") ++ body)
    ∙ sym (print_request-append (head_of host port uri form more size) body)
  where
    fields : field (codes "Host") (server host port) ++ (field (codes "Content-Length") (decimal size) ++ (field (codes "Content-Type") (content_type form) ++ (field (codes "Connection") (codes "close") ++ further_fields more)))
        ≡ flat_map print_field (lines_of host port form more size)
    fields = λ i.
        line_is (codes "Host") (server host port) i
        ++ (line_is (codes "Content-Length") (decimal size) i ++ (line_is (codes "Content-Type") (content_type form) i ++ (line_is (codes "Connection") (codes "close") i ++ further_lines more i)))

token_by : (name : List ℕ) → 0 < length name → list_all is_token_byte name ≡ true → IsToken name
token_by name some all = (some, AllPass-from_list_all is_token_byte name all)

post_token : IsToken (codes "POST")
unfolding is_token_byte
post_token = token_by (codes "POST") (omega arith) refl

host_token : IsToken (codes "Host")
unfolding is_token_byte
host_token = token_by (codes "Host") (omega arith) refl

length_token : IsToken (codes "Content-Length")
unfolding is_token_byte
length_token = token_by (codes "Content-Length") (omega arith) refl

type_token : IsToken (codes "Content-Type")
unfolding is_token_byte
type_token = token_by (codes "Content-Type") (omega arith) refl

connection_token : IsToken (codes "Connection")
unfolding is_token_byte
connection_token = token_by (codes "Connection") (omega arith) refl

close_visible : AreVisible (codes "close")
close_visible = AllPass-from_list_all is_ascii_graphic (codes "close") refl

uri_visible : (uri : List ℕ) → IsUri uri → (0 < length uri) × AreVisible uri
uri_visible [] is = absurd is
uri_visible (b ∷ uri) is =
    let slash : is_ascii_graphic b ≡ true = rw is.0 refl in (
      omega arith,
      All-cons (λ c. is_ascii_graphic c ≡ true) b uri slash (AllPass-from_list_all is_ascii_graphic uri is.1),
    )

four : (a b c d : Field) (more : List Field) → IsField a → IsField b → IsField c → IsField d → All IsField more → All IsField (a ∷ b ∷ c ∷ d ∷ more)
four a b c d more first second third fourth others =
    All-cons IsField a (b ∷ c ∷ d ∷ more) first (All-cons IsField b (c ∷ d ∷ more) second (All-cons IsField c (d ∷ more) third (All-cons IsField d more fourth others)))

module _ (host : List ℕ) (port : ℕ) (form : Form) (more : List HeaderField) (size : ℕ) (visible : AreVisible host) (small : port < 2 ^ 64) (are : AreHeaderFields more) (fits : size < 2 ^ 64) where
  lines_are : All IsField (lines_of host port form more size)
  lines_are =
      four (line (codes "Host") (server host port)) (line (codes "Content-Length") (decimal size)) (line (codes "Content-Type") (content_type form)) (line (codes "Connection") (codes "close")) (map further_line more)
      (named_line (codes "Host") (server host port) host_token (server_visible host port visible small))
      (named_line (codes "Content-Length") (decimal size) length_token (decimal_visible size fits))
      (named_line (codes "Content-Type") (content_type form) type_token (type_visible form))
      (named_line (codes "Connection") (codes "close") connection_token close_visible)
      (further_is more are)

  head_is : (uri : List ℕ) → IsUri uri → IsRequestHead (head_of host port uri form more size)
  head_is uri is =
      let target = uri_visible uri is in
      record {
        method = post_token;
        target = (target.0, weaker is_uri_byte visible_uri uri target.1);
        target_text = IsUtf8-from_ascii uri (IsAscii-from_all uri (λ k d within. visible_small (get_or uri k d) (target.1 k d within)));
        minor = omega arith;
        fields = lines_are;
      }

pub reads_back : (host uri body : List ℕ) (port : ℕ) (form : Form) (more : List HeaderField) → IsVisible host → IsUri uri → port < 2 ^ 16 → AreHeaderFields more → length body < 2 ^ 64
    → ReadsBack host port uri form more body
reads_back host uri body port form more visible is small are fits =
    let seen : AreVisible host = AllPass-from_list_all is_ascii_graphic host visible in
    record {
      head = head_of host port uri form more (length body);
      reads = (head_is host port form more (length body) seen (omega (arith, small)) are fits uri is, printed host uri body port form more (length body));
      method = refl;
      target = refl;
      version = refl;
      said = λ i.
          line_says (codes "Host") (server host port) (server_visible host port seen (omega (arith, small))) i
          ∷ line_says (codes "Content-Length") (decimal (length body)) (decimal_visible (length body) fits) i
          ∷ line_says (codes "Content-Type") (content_type form) (type_visible form) i
          ∷ line_says (codes "Connection") (codes "close") close_visible i
          ∷ further_said more i;
    }
