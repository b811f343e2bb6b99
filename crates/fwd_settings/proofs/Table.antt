-- What the table says of each key of a section or plugin, and so of its entries.
use Rattle.std.proofs.Common.{◌≡◌, ℕ, ◌≤◌, Bool, true, false, cond, not, ◌&&◌, ◌||◌, nat_le, nat_lt, if◌then◌else◌, List, [], ◌∷◌, length, Option, Some, None, Result, Ok, Err, IsSome, refl, sym, ap, subst, arith, option_and_then, option_map}
use Rattle.std.specs.List.{AllByRecursion, find, filter_map, last_or, list_all, list_any, cons_option}
use Rattle.std.specs.Str.{bytes_eq, is_utf8}
use Rattle.std.proofs.lemmas.Bool.Decides.{nat_tests}
use Rattle.std.proofs.lemmas.Str.{IsUtf8-from_is_utf8}
use Rattle.fwd_base.specs.Number.{number_of}
use Rattle.fwd_outside.specs.Program.{Return, Ask}
use Rattle.fwd_parser.specs.declared.parser.Parser.{Parser}
use Rattle.fwd_settings_schema.specs.declared.error_kind.SettingKind.{SettingKind}
use Rattle.fwd_settings_schema.specs.declared.error_kind.SettingKind.TheVariants.{BadNumber, BadChoice}
use Rattle.fwd_settings_values.specs.Number.{positive_of, within}
use Rattle.fwd_settings_values.specs.Text.{is_tag_text, is_id_text, is_plain_text, is_visible_text, is_uri_text, is_hostname_text}
use Rattle.fwd_config.specs.declared.section.Entry.{Entry}
use Rattle.fwd_settings_schema.specs.declared.keys.Key.{Key}
use Rattle.fwd_settings_schema.specs.declared.keys.Kind.{Kind}
use Rattle.fwd_settings_schema.specs.declared.keys.Kind.TheVariants as kind
use Rattle.fwd_settings_schema.specs.declared.keys.Plain.{Plain}
use Rattle.fwd_settings_schema.specs.declared.keys.Plain.TheVariants as plain
use Rattle.fwd_settings_schema.specs.declared.section_kind.Target.{Target}
use Rattle.fwd_settings_schema.specs.declared.properties.Value.{Value}
use Rattle.fwd_settings_schema.specs.declared.properties.Value.TheVariants as value
use Rattle.fwd_settings_schema.specs.declared.properties.Property.{Property}
use Rattle.fwd_settings_schema.specs.Keys.{name_of, Row, table, covers, is_row_of, row_of, key_of, is_key_named}
use Rattle.fwd_settings_schema.specs.Property.{value_for, last_value}
use Rattle.fwd_settings_entries.specs.Reading.{Reading, Checked, known, fault}
use Rattle.fwd_settings_entries.specs.Values.{or_else, when, value_of, id_value, property_value, key_property, entry_property}
use Rattle.fwd_settings.specs.Requirements.{IsTagText, IsIdText}
use Rattle.fwd_settings.proofs.Always.{Always, always_then, always_known, always_at}

-- ---- values by their kind

abbrev pub IsPositive : Value → Type 0
IsPositive (value.Number n) = 1 ≤ n
IsPositive _ = ⊥

abbrev pub IsTagValue : Value → Type 0
IsTagValue (value.Text t) = IsTagText t
IsTagValue _ = ⊥

abbrev pub IsText : Value → Type 0
IsText (value.Text t) = Unit {0}
IsText _ = ⊥

-- a text that passes the test
abbrev pub IsTextSo : (List ℕ → Bool) → Value → Type 0
IsTextSo test (value.Text t) = test t ≡ true
IsTextSo test _ = ⊥

abbrev pub IsOfPlain : Plain → Value → Type 0
IsOfPlain plain.Positive v = IsPositive v
IsOfPlain plain.Tag v = IsTagValue v
IsOfPlain plain.PlainTag v = IsTagValue v
IsOfPlain plain.Text v = IsText v
IsOfPlain plain.Visible v = IsTextSo is_visible_text v
IsOfPlain plain.Uri v = IsTextSo is_uri_text v
IsOfPlain plain.Hostname v = IsTextSo is_hostname_text v
IsOfPlain _ v = Unit {0}

abbrev pub IsIdValue : Value → Type 0
IsIdValue (value.Id name place) = IsIdText name
IsIdValue _ = ⊥

abbrev pub IsOfKind : Kind → Value → Type 0
IsOfKind (kind.Plain plain) v = IsOfPlain plain v
IsOfKind kind.Id v = IsIdValue v
IsOfKind _ v = Unit {0}

within_is : (least most n : ℕ) (m : ℕ) → within least most n ≡ Some m → least ≤ m
within_is least most n m is = by_tests (nat_le least n) (nat_le n most) refl is
  where
    by_tests : (a b : Bool) → nat_le least n ≡ a → (if a && b then Some n else None) ≡ Some m → least ≤ m
    by_tests true true low e = grind (arith, nat_tests, low, e)
    by_tests true false low e = absurd (cc e)
    by_tests false b low e = absurd (cc e)

positive_is : (o : Option ℕ) (m : ℕ) → option_and_then (within 1 18446744073709551615) o ≡ Some m → 1 ≤ m
positive_is (Some n) m is = within_is 1 18446744073709551615 n m is
positive_is None m is = absurd (cc is)

number_is : (o : Option ℕ) (v : Value) → ((m : ℕ) → o ≡ Some m → 1 ≤ m) → or_else BadNumber value.Number o ≡ Ok v → IsPositive v
number_is (Some n) v least is = subst IsPositive (ok_value is) (least n refl)
  where
    ok_value : ◌≡◌ {A = Result Value SettingKind} (Ok (value.Number n)) (Ok v) → value.Number n ≡ v
    ok_value e = cc
number_is None v least is = absurd (cc is)

tag_is : (text : List ℕ) (first second third : Bool) → nat_lt 0 (length text) ≡ first → nat_le (length text) 1024 ≡ second → is_utf8 text ≡ third → (first && (second && third)) ≡ true → IsTagText text
tag_is text true true true a b c all = (grind (arith, nat_tests, a), grind (arith, nat_tests, b), IsUtf8-from_is_utf8 text c)
tag_is text true true false a b c all = absurd (cc all)
tag_is text true false third a b c all = absurd (cc all)
tag_is text false second third a b c all = absurd (cc all)

text_when : (test : Bool) (text : List ℕ) (v : Value) → (test ≡ true → IsTagText text) → or_else BadChoice value.Text (when test text) ≡ Ok v → IsTagValue v
text_when true text v gives is = subst IsTagValue (ok_value is) (gives refl)
  where
    ok_value : ◌≡◌ {A = Result Value SettingKind} (Ok (value.Text text)) (Ok v) → value.Text text ≡ v
    ok_value e = cc
text_when false text v gives is = absurd (cc is)

second_so : (a b : Bool) → (a && b) ≡ true → b ≡ true
second_so true b so = so
second_so false b so = absurd (cc so)

text_is : (text : List ℕ) (v : Value) → ◌≡◌ {A = Result Value SettingKind} (Ok (value.Text text)) (Ok v) → IsText v
text_is text v is = subst IsText (ok_value is) tt
  where
    ok_value : ◌≡◌ {A = Result Value SettingKind} (Ok (value.Text text)) (Ok v) → value.Text text ≡ v
    ok_value e = cc

text_so : (test : List ℕ → Bool) (text : List ℕ) (v : Value) (b : Bool) → test text ≡ b → or_else BadChoice value.Text (when b text) ≡ Ok v → IsTextSo test v
text_so test text v true so is = subst (IsTextSo test) (ok_value is) so
  where
    ok_value : ◌≡◌ {A = Result Value SettingKind} (Ok (value.Text text)) (Ok v) → value.Text text ≡ v
    ok_value e = cc
text_so test text v false so is = absurd (cc is)

is_tag_so : (text : List ℕ) → is_tag_text text ≡ true → IsTagText text
is_tag_so text so = tag_is text _ _ _ refl refl refl so

plain_is : (p : Plain) (text : List ℕ) (v : Value) → value_of p text ≡ Ok v → IsOfPlain p v
plain_is plain.Positive text v is = number_is (positive_of text) v (positive_is (number_of text)) is
plain_is plain.Tag text v is = text_when (is_tag_text text) text v (is_tag_so text) is
plain_is plain.PlainTag text v is = text_when (is_plain_text text && is_tag_text text) text v (λ so. is_tag_so text (second_so (is_plain_text text) (is_tag_text text) so)) is
plain_is plain.Text text v is = text_is text v is
plain_is plain.Ignored text v is = tt
plain_is plain.Number text v is = tt
plain_is plain.Port text v is = tt
plain_is plain.Size text v is = tt
plain_is plain.Flush text v is = tt
plain_is plain.Truth text v is = tt
plain_is plain.False text v is = tt
plain_is plain.Sync text v is = tt
plain_is plain.Store text v is = tt
plain_is plain.LineFormat text v is = tt
plain_is plain.ParserFormat text v is = tt
plain_is plain.RecordForm text v is = tt
plain_is plain.FileForm text v is = tt
plain_is plain.Operation text v is = tt
plain_is plain.Paths text v is = tt
plain_is plain.Retries text v is = tt
plain_is plain.Visible text v is = text_so is_visible_text text v (is_visible_text text) refl is
plain_is plain.Uri text v is = text_so is_uri_text text v (is_uri_text text) refl is
plain_is plain.Hostname text v is = text_so is_hostname_text text v (is_hostname_text text) refl is
plain_is plain.Types text v is = tt
plain_is plain.Statuses text v is = tt
plain_is plain.Header text v is = tt
plain_is plain.Printable text v is = tt
plain_is plain.Condition text v is = tt
plain_is (plain.Change word) text v is = tt
plain_is plain.Wildcard text v is = tt

id_text_is : (text : List ℕ) (first second third fourth : Bool) → nat_lt 0 (length text) ≡ first → nat_le (length text) 255 ≡ second → is_utf8 text ≡ third → (first && (second && (third && fourth))) ≡ true → IsIdText text
id_text_is text true true true fourth a b c all = (grind (arith, nat_tests, a), grind (arith, nat_tests, b), IsUtf8-from_is_utf8 text c)
id_text_is text true true false fourth a b c all = absurd (cc all)
id_text_is text true false third fourth a b c all = absurd (cc all)
id_text_is text false second third fourth a b c all = absurd (cc all)

id_is : (entry : Entry) (test : Bool) → is_id_text entry.value ≡ test → (v : Value) → ◌≡◌ {A = Checked Value} (if test then Ok (value.Id entry.value entry.place) else Err (fault BadChoice entry.place)) (Ok v) → IsIdValue v
id_is entry true so v is = subst IsIdValue (ok_value is) (id_text_is entry.value _ _ _ _ refl refl refl so)
  where
    ok_value : ◌≡◌ {A = Checked Value} (Ok (value.Id entry.value entry.place)) (Ok v) → value.Id entry.value entry.place ≡ v
    ok_value e = cc
id_is entry false so v is = absurd (cc is)

-- any result, if nothing is required of it
always_any : {X : Type 0} (reading : Reading X) → Always (λ _. Unit {0}) reading
always_any (Return (Ok x)) = tt
always_any (Return (Err refusal)) = tt
always_any (Ask text go) = λ answer. always_any (go answer)

-- what is read for an entry of a section or plugin
abbrev pub IsPropertyOf : Target → Entry → Property → Type 0
IsPropertyOf p entry item = (how : Kind) × (key_of p entry.key ≡ Some (item.key, how)) × IsOfKind how item.value

module _ (by_name : Entry → Reading Parser) where
  always_value : (k : Kind) (entry : Entry) → Always (IsOfKind k) (property_value by_name k entry)
  always_value (kind.Plain p) entry = always_at (IsOfPlain p) entry.place (value_of p entry.value) (plain_is p entry.value)
  always_value kind.Pattern entry = always_any (property_value by_name kind.Pattern entry)
  always_value (kind.Grep exclude) entry = always_any (property_value by_name (kind.Grep exclude) entry)
  always_value kind.Id entry = always_known (IsOfKind kind.Id) (id_value entry) (id_is entry (is_id_text entry.value) refl)
  always_value kind.Parser entry = always_any (property_value by_name kind.Parser entry)

  always_key : (p : Target) (entry : Entry) (o : Option (Key × Kind)) → key_of p entry.key ≡ o → Always (IsPropertyOf p entry) (key_property by_name entry o)
  always_key p entry None is = tt
  always_key p entry (Some (k, how)) is =
      always_then (IsOfKind how) (IsPropertyOf p entry) (property_value by_name how entry) (λ v. known (Ok (record { key = k; value = v })))
      (always_value how entry) (λ v of_kind. (how, is, of_kind))

  pub always_property : (p : Target) (entry : Entry) → Always (IsPropertyOf p entry) (entry_property by_name p entry)
  always_property p entry = always_key p entry (key_of p entry.key) refl

-- ---- the table, by computation

found_passes : {X : Type 0} (test found : X → Bool) (keys : List X) (k : X) → list_all test keys ≡ true → find found keys ≡ Some k → test k ≡ true
found_passes test found [] k all is = absurd (cc is)
found_passes {X = X} test found (first ∷ keys) k all is = here (test first) (found first) (found_passes test found keys k) refl all is
  where
    some_is : ◌≡◌ {A = Option X} (Some first) (Some k) → first ≡ k
    some_is e = cc

    here : (t f : Bool) → (list_all test keys ≡ true → find found keys ≡ Some k → test k ≡ true) → test first ≡ t → (t && list_all test keys) ≡ true → cond f (Some first) (find found keys) ≡ Some k → test k ≡ true
    here true true later so all is = subst (λ (x : X). test x ≡ true) (some_is is) so
    here true false later so all is = later all is
    here false f later so all is = absurd (cc all)

-- each row of a section or plugin with this key has a kind that passes the test
abbrev pub row_passes : Target → Key → (Kind → Bool) → Row → Bool
row_passes p by_name test row = not (covers row.0 p && bytes_eq (name_of by_name) (name_of row.1)) || test row.2

found_is : {X : Type 0} (found : X → Bool) (rows : List X) (x : X) → find found rows ≡ Some x → found x ≡ true
found_is found [] x is = absurd (cc is)
found_is {X = X} found (first ∷ rows) x is = here (found first) (found_is found rows x) refl is
  where
    some_is : ◌≡◌ {A = Option X} (Some first) (Some x) → first ≡ x
    some_is e = cc

    here : (f : Bool) → (find found rows ≡ Some x → found x ≡ true) → found first ≡ f → cond f (Some first) (find found rows) ≡ Some x → found x ≡ true
    here true later so is = subst (λ (y : X). found y ≡ true) (some_is is) so
    here false later so is = later is

first_so : (a b : Bool) → (a && b) ≡ true → a ≡ true
first_so true b so = refl
first_so false b so = absurd (cc so)

both_so : (a b t : Bool) → a ≡ true → b ≡ true → (not (a && b) || t) ≡ true → t ≡ true
both_so true true t a_so b_so passes = passes
both_so true false t a_so b_so passes = absurd (cc b_so)
both_so false b t a_so b_so passes = absurd (cc a_so)

module _ (by_name : Key) (test : Kind → Bool) (p : Target) (all : list_all (row_passes p by_name test) table ≡ true) where
  by_row : (k : Key) (how : Kind) (name : List ℕ) (o : Option Row) → row_of p name ≡ o → option_map {U = Key × Kind} (λ (row : Row). (row.1, row.2)) o ≡ Some (k, how) → bytes_eq (name_of by_name) (name_of k) ≡ true → test how ≡ true
  by_row k how name None found is same = absurd (cc is)
  by_row k how name (Some row) found is same =
      let parts : ◌≡◌ {A = Key × Kind} (row.1, row.2) (k, how) = pair_is is in
      let passes : row_passes p by_name test row ≡ true = found_passes (row_passes p by_name test) (is_row_of p name) table row all found in
      let covered : covers row.0 p ≡ true = first_so (covers row.0 p) (is_key_named name row.1) (found_is (is_row_of p name) table row found) in
      let named : bytes_eq (name_of by_name) (name_of row.1) ≡ true =
      subst (λ (x : Key). bytes_eq (name_of by_name) (name_of x) ≡ true) (sym (ap (λ (q : Key × Kind). q.0) parts)) same in
      subst (λ (h : Kind). test h ≡ true) (ap (λ (q : Key × Kind). q.1) parts)
      (both_so (covers row.0 p) (bytes_eq (name_of by_name) (name_of row.1)) (test row.2) covered named passes)
    where
      pair_is : ◌≡◌ {A = Option (Key × Kind)} (Some (row.1, row.2)) (Some (k, how)) → ◌≡◌ {A = Key × Kind} (row.1, row.2) (k, how)
      pair_is e = cc

  pub kind_passes : (k : Key) (how : Kind) (name : List ℕ) → key_of p name ≡ Some (k, how) → bytes_eq (name_of by_name) (name_of k) ≡ true → test how ≡ true
  kind_passes k how name is same = by_row k how name (row_of p name) refl is same

-- ---- the last value of a key

abbrev pub Holds : {X : Type 0} → (X → Type 0) → Option X → Type 0
Holds P None = Unit {0}
Holds P (Some x) = P x

module _ (by_name : Key) (P : Value → Type 0) where
  last_from : (o : Option Value) → Holds P o → (properties : List Property) → AllByRecursion (λ s. bytes_eq (name_of by_name) (name_of s.key) ≡ true → P s.value) properties → Holds P (last_or o (filter_map (value_for by_name) properties))
  last_from o here [] all = here
  last_from o here (s ∷ properties) all = by_test (bytes_eq (name_of by_name) (name_of s.key)) (λ p. last_from (Some s.value) p properties all.1) (last_from o here properties all.1) refl
    where
      rest : List Value
      rest = filter_map (value_for by_name) properties

      by_test : (b : Bool) → (P s.value → Holds P (last_or (Some s.value) rest)) → Holds P (last_or o rest) → bytes_eq (name_of by_name) (name_of s.key) ≡ b → Holds P (last_or o (cons_option (if b then Some s.value else None) rest))
      by_test true this others so = this (all.0 so)
      by_test false this others so = others

  pub last_holds : (properties : List Property) → AllByRecursion (λ s. bytes_eq (name_of by_name) (name_of s.key) ≡ true → P s.value) properties → Holds P (last_value by_name properties)
  last_holds properties all = last_from None tt properties all

last_stays : (o : Option Value) → IsSome o → (xs : List Value) → IsSome (last_or o xs)
last_stays o some [] = some
last_stays o some (x ∷ xs) = last_stays (Some x) refl xs

pub last_there : (written : Key) (properties : List Property) → list_any (λ s. bytes_eq (name_of written) (name_of s.key)) properties ≡ true → (o : Option Value) → IsSome (last_or o (filter_map (value_for written) properties))
last_there written [] any o = absurd (cc any)
last_there written (s ∷ properties) any o = by_test (bytes_eq (name_of written) (name_of s.key)) (λ so. last_there written properties so o) any
  where
    by_test : (b : Bool) → (list_any (λ s. bytes_eq (name_of written) (name_of s.key)) properties ≡ true → IsSome (last_or o (filter_map (value_for written) properties)))
        → (b || list_any (λ s. bytes_eq (name_of written) (name_of s.key)) properties) ≡ true → IsSome (last_or o (cons_option (if b then Some s.value else None) (filter_map (value_for written) properties)))
    by_test true later so = last_stays (Some s.value) refl (filter_map (value_for written) properties)
    by_test false later so = later so
