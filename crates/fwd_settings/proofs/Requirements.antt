-- The settings of sections meet what the engine requires.
use Rattle.std.proofs.Common.{◌≡◌, ◌∙◌, ◌⊎◌, inl, inr, ℕ, ◌+◌, ◌≤◌, ◌<◌, Bool, true, false, not, ◌&&◌, ◌||◌, nat_le, nat_lt, if◌then◌else◌, List, [], ◌∷◌, ◌++◌, length, Option, Some, None, Ok, Err, IsSome, IsTrue, unwrap_or, option_map, refl, sym, ap, subst, arith, length-append, append_assoc, codes, decimal}
use Rattle.std.specs.List.{AllByRecursion, list_all, list_any}
use Rattle.std.specs.Str.{bytes_eq, IsAscii}
use Rattle.std.specs.Prelude.{All, AllPairs, ◌≢◌, count_by, ◌^◌}
use Rattle.std.proofs.lemmas.Bool.Decides.{nat_tests}
use Rattle.std.proofs.lemmas.Str.{IsUtf8-from_ascii, IsAscii-append}
use Rattle.std.proofs.lemmas.Fmt.{IsAscii-decimal, length-decimal-le}
use Rattle.std.proofs.lemmas.List.Sums.{count_by-le-length}
use Rattle.std.proofs.lemmas.List.Elements.{All-nil, All-cons, All-head, All-tail, All-push}
use Rattle.std.proofs.lemmas.List.Kept.{AllPairs-cons}
use Rattle.std.proofs.lemmas.Slice.Eq.{bytes_eq-Decides}
use Rattle.std.proofs.Common.{zero, suc}
use Rattle.std.proofs.Common.{lit≤}
use Rattle.fwd_settings_values.specs.Text.{is_visible_text, is_uri_text, is_hostname_text}
use Rattle.fwd_json.specs.declared.floats.Floats.{Floats}
use Rattle.fwd_settings_schema.specs.declared.error_kind.SettingKind.TheVariants.{Missing, TooMany, BadChoice}
use Rattle.fwd_filters.specs.declared.filter_step.FilterStep.{FilterStep}
use Rattle.fwd_config.specs.declared.section.Place.{Place}
use Rattle.fwd_config.specs.declared.section.Entry.{Entry}
use Rattle.fwd_config.specs.declared.section.Section.{Section}
use Rattle.fwd_settings.specs.declared.settings_types.InputSet.{InputSet}
use Rattle.fwd_settings.specs.declared.settings_types.InputKind.{InputKind}
use Rattle.fwd_settings.specs.declared.settings_types.InputKind.TheVariants as input
use Rattle.fwd_settings.specs.declared.settings_types.OutputSet.{OutputSet}
use Rattle.fwd_settings.specs.declared.settings_types.AllSettings.{AllSettings}
use Rattle.fwd_settings_schema.specs.declared.keys.Key.{Key}
use Rattle.fwd_settings_schema.specs.declared.keys.Key.TheVariants as key
use Rattle.fwd_settings_schema.specs.declared.keys.Kind.{Kind}
use Rattle.fwd_settings_schema.specs.declared.keys.Kind.TheVariants as kind
use Rattle.fwd_settings_schema.specs.declared.keys.Plain.TheVariants as plain
use Rattle.fwd_settings_schema.specs.declared.section_kind.SectionKind.{SectionKind}
use Rattle.fwd_settings_schema.specs.declared.section_kind.SectionKind.TheVariants as head
use Rattle.fwd_settings_schema.specs.declared.section_kind.Target.{Target}
use Rattle.fwd_settings_schema.specs.declared.section_kind.Target.TheVariants as target
use Rattle.fwd_settings_schema.specs.declared.plugins.InputPlugin.{InputPlugin}
use Rattle.fwd_settings_schema.specs.declared.plugins.InputPlugin.TheVariants as in_plugin
use Rattle.fwd_settings_schema.specs.declared.plugins.OutputPlugin.{OutputPlugin}
use Rattle.fwd_settings_schema.specs.declared.plugins.OutputPlugin.TheVariants as out_plugin
use Rattle.fwd_settings_schema.specs.declared.properties.Value.{Value}
use Rattle.fwd_settings_schema.specs.declared.properties.Value.TheVariants as value
use Rattle.fwd_settings_schema.specs.declared.properties.Property.{Property}
use Rattle.fwd_settings.specs.declared.sections.PartialSettings.{PartialSettings}
use Rattle.fwd_settings_schema.specs.Keys.{name_of_input, name_of_output, name_of, table, key_of, input_of, output_of, filter_of, head_of}
use Rattle.fwd_settings_schema.specs.Property.{last_value, as_number, as_text, as_id, text_at, id_at, id_place_at, header_count}
use Rattle.fwd_settings_entries.specs.Reading.{Checked, ◌>>=◌, known, fault, IsResult}
use Rattle.fwd_settings_entries.specs.Values.{entry_property, entry_properties}
use Rattle.fwd_settings_entries.specs.Parsers.{parser_named, name_entry}
use Rattle.fwd_settings.specs.Inputs.{input_plugin, is_input_of, input_kind, input_name, tag_of, input_set, stored_in, input_by, input_from, has_path, is_path_entry, names_path, is_service_head, tail_by}
use Rattle.fwd_settings.specs.Outputs.{output_plugin, output_kind, output_set, output_from, output_name, most_headers, is_output_of, has_id}
use Rattle.fwd_settings.specs.Filters.{filter_from}
use Rattle.fwd_settings.specs.Floats.{floats_in}
use Rattle.fwd_settings.specs.Settings.{nothing, plugin_at, by_name, of_header, part_of, entries_here, with_input, with_filter, with_output, with_target, with_section, with_sections, all_of, settings_of}
use Rattle.fwd_settings.specs.SharedKeys.{shared_by, hostname_of, shared_key_of}
use Rattle.fwd_settings.specs.Requirements.{AreInputsNamed, AreOutputsNamed, IsTagText, IsIdText, HasTag, CanRequest, HasShortHost, MeetsRequirements}
use Rattle.fwd_settings.proofs.Always.{Always, always_then, always_known, always_result, always_each, Pairs, all_of_pairs}
use Rattle.fwd_settings.proofs.Table.{IsPositive, IsTagValue, IsText, IsTextSo, IsIdValue, IsOfKind, IsPropertyOf, always_property, row_passes, kind_passes, Holds, last_holds, last_there}

-- ---- lists that grow

all_more : {X : Type 0} (P : X → Type 0) (xs : List X) (x : X) → AllByRecursion P xs → P x → AllByRecursion P (xs ++ x ∷ [])
all_more P [] x all here = (here, tt)
all_more P (y ∷ xs) x all here = (all.0, all_more P xs x all.1 here)

all_both : {X : Type 0} (P : X → Type 0) (xs ys : List X) → AllByRecursion P xs → AllByRecursion P ys → AllByRecursion P (xs ++ ys)
all_both P [] ys all more = more
all_both P (x ∷ xs) ys all more = (all.0, all_both P xs ys all.1 more)

all_so : {X : Type 0} (P Q : X → Type 0) → ((x : X) → P x → Q x) → (xs : List X) → AllByRecursion P xs → AllByRecursion Q xs
all_so P Q gives [] all = tt
all_so P Q gives (x ∷ xs) all = (gives x all.0, all_so P Q gives xs all.1)

pairs_more : {X : Type 0} (R : X → X → Type 0) (xs : List X) (x : X) → AllPairs R xs → All (λ y. R y x) xs → AllPairs R (xs ++ x ∷ [])
pairs_more R [] x pairs all = AllPairs-cons R x [] (All-nil (R x)) (λ i j d less within. absurd (omega (arith, within)))
pairs_more R (y ∷ xs) x pairs all =
    AllPairs-cons R y (xs ++ x ∷ []) (All-push (R y) xs x (λ k d within. pairs 0 (suc k) d (omega arith) (omega (arith, within))) (All-head (λ z. R z x) y xs all))
    (pairs_more R xs x (λ i j d less within. pairs (suc i) (suc j) d (omega (arith, less)) (omega (arith, within))) (All-tail (λ z. R z x) y xs all))

bytes_ne : (one other : List ℕ) → bytes_eq one other ≡ false → one ≢ other
bytes_ne one other isnt same = let is = (bytes_eq-Decides one other).1 same in absurd (cc (sym is ∙ isnt))

no_id : (id : List ℕ) (xs : List OutputSet) → list_any (has_id id) xs ≡ false → All (λ (one : OutputSet). one.id ≢ id) xs
no_id id [] none = All-nil (λ (one : OutputSet). one.id ≢ id)
no_id id (x ∷ xs) none = by (bytes_eq x.id id) refl none (no_id id xs)
  where
    by : (b : Bool) → bytes_eq x.id id ≡ b → (b || list_any (has_id id) xs) ≡ false → (list_any (has_id id) xs ≡ false → All (λ (one : OutputSet). one.id ≢ id) xs) → All (λ (one : OutputSet). one.id ≢ id) (x ∷ xs)
    by true is none rest = absurd (cc none)
    by false is none rest = All-cons (λ (one : OutputSet). one.id ≢ id) x xs (bytes_ne x.id id is) (rest none)

inputs_more : (before xs : List InputSet) (x : InputSet) → AreInputsNamed before xs → x.name ≡ input_name (before ++ xs) (input_plugin x.kind) → AreInputsNamed before (xs ++ x ∷ [])
inputs_more before [] x all is = (subst (λ (l : List InputSet). x.name ≡ input_name l (input_plugin x.kind)) (nil before) is, tt)
  where
    nil : (l : List InputSet) → l ++ [] ≡ l
    nil l = simp Rattle.std.proofs.lemmas.List.append-nil
inputs_more before (y ∷ xs) x all is =
    (all.0, inputs_more (before ++ y ∷ []) xs x all.1 (subst (λ (l : List InputSet). x.name ≡ input_name l (input_plugin x.kind)) (sym (append_assoc before (y ∷ []) xs)) is))

outputs_more : (before xs : List OutputSet) (x : OutputSet) → AreOutputsNamed before xs → x.name ≡ output_name (before ++ xs) (output_plugin x.kind) → AreOutputsNamed before (xs ++ x ∷ [])
outputs_more before [] x all is = (subst (λ (l : List OutputSet). x.name ≡ output_name l (output_plugin x.kind)) (nil before) is, tt)
  where
    nil : (l : List OutputSet) → l ++ [] ≡ l
    nil l = simp Rattle.std.proofs.lemmas.List.append-nil
outputs_more before (y ∷ xs) x all is =
    (all.0, outputs_more (before ++ y ∷ []) xs x all.1 (subst (λ (l : List OutputSet). x.name ≡ output_name l (output_plugin x.kind)) (sym (append_assoc before (y ∷ []) xs)) is))

-- ---- what is known of the entries of a part

abbrev ArePropertiesOf : Target → Property → Type 0
ArePropertiesOf p item = (name : List ℕ) × (how : Kind) × (key_of p name ≡ Some (item.key, how)) × IsOfKind how item.value

properties_in : (p : Target) (entry : Entry) (item : Property) → IsPropertyOf p entry item → ArePropertiesOf p item
properties_in p entry item is = (entry.key, is.0, is.1, is.2)

abbrev is_positive : Kind → Bool
is_positive (kind.Plain plain.Positive) = true
is_positive _ = false

abbrev is_tag : Kind → Bool
is_tag (kind.Plain plain.Tag) = true
is_tag (kind.Plain plain.PlainTag) = true
is_tag _ = false

abbrev is_text : Kind → Bool
is_text (kind.Plain plain.Text) = true
is_text _ = false

abbrev is_visible : Kind → Bool
is_visible (kind.Plain plain.Visible) = true
is_visible _ = false

abbrev is_uri : Kind → Bool
is_uri (kind.Plain plain.Uri) = true
is_uri _ = false

abbrev is_id_kind : Kind → Bool
is_id_kind kind.Id = true
is_id_kind _ = false

abbrev is_hostname : Kind → Bool
is_hostname (kind.Plain plain.Hostname) = true
is_hostname _ = false

hostname_of_kind : (k : Kind) (v : Value) → is_hostname k ≡ true → IsOfKind k v → IsTextSo is_hostname_text v
hostname_of_kind (kind.Plain plain.Hostname) v so of = of
hostname_of_kind _ v so of = absurd (cc so)

visible_of_kind : (k : Kind) (v : Value) → is_visible k ≡ true → IsOfKind k v → IsTextSo is_visible_text v
visible_of_kind (kind.Plain plain.Visible) v so of = of
visible_of_kind _ v so of = absurd (cc so)

uri_of_kind : (k : Kind) (v : Value) → is_uri k ≡ true → IsOfKind k v → IsTextSo is_uri_text v
uri_of_kind (kind.Plain plain.Uri) v so of = of
uri_of_kind _ v so of = absurd (cc so)

positive_of_kind : (k : Kind) (v : Value) → is_positive k ≡ true → IsOfKind k v → IsPositive v
positive_of_kind (kind.Plain plain.Positive) v so of = of
positive_of_kind _ v so of = absurd (cc so)

tag_of_kind : (k : Kind) (v : Value) → is_tag k ≡ true → IsOfKind k v → IsTagValue v
tag_of_kind (kind.Plain plain.Tag) v so of = of
tag_of_kind (kind.Plain plain.PlainTag) v so of = of
tag_of_kind _ v so of = absurd (cc so)

text_of_kind : (k : Kind) (v : Value) → is_text k ≡ true → IsOfKind k v → IsText v
text_of_kind (kind.Plain plain.Text) v so of = of
text_of_kind _ v so of = absurd (cc so)

module _ (by_name : Key) (test : Kind → Bool) (P : Value → Type 0) (gives : (k : Kind) (v : Value) → test k ≡ true → IsOfKind k v → P v) (p : Target) (rows : list_all (row_passes p by_name test) table ≡ true) where
  of_named : (item : Property) → ArePropertiesOf p item → bytes_eq (name_of by_name) (name_of item.key) ≡ true → P item.value
  of_named item is same = gives is.1 item.value (kind_passes by_name test p rows item.key is.1 is.0 is.2 same) is.3

  last_of_named : (properties : List Property) → AllByRecursion (ArePropertiesOf p) properties → Holds P (last_value by_name properties)
  last_of_named properties all = last_holds by_name P properties (all_so (ArePropertiesOf p) (λ s. bytes_eq (name_of by_name) (name_of s.key) ≡ true → P s.value) of_named properties all)

base_is : (o : Option Value) → Holds IsPositive o → 1 ≤ unwrap_or (as_number o) 5
base_is None here = omega arith
base_is (Some (value.Number n)) here = here
base_is (Some value.Nothing) here = absurd here
base_is (Some (value.Port n)) here = absurd here
base_is (Some (value.Truth b)) here = absurd here
base_is (Some (value.Format w)) here = absurd here
base_is (Some (value.Form w)) here = absurd here
base_is (Some (value.Operation w)) here = absurd here
base_is (Some (value.Text t)) here = absurd here
base_is (Some (value.Retries r)) here = absurd here
base_is (Some (value.Pattern p)) here = absurd here
base_is (Some (value.Parser p)) here = absurd here
base_is (Some (value.Grep g)) here = absurd here
base_is (Some (value.Condition c)) here = absurd here
base_is (Some (value.Change c)) here = absurd here
base_is (Some (value.Wildcard w)) here = absurd here
base_is (Some (value.Header w)) here = absurd here
base_is (Some (value.Id w x)) here = absurd here

path_is : (o : Option Value) → Holds IsText o → IsSome o → IsSome (as_text o)
path_is None here some = absurd (cc some)
path_is (Some (value.Text t)) here some = refl
path_is (Some value.Nothing) here some = absurd here
path_is (Some (value.Number n)) here some = absurd here
path_is (Some (value.Port n)) here some = absurd here
path_is (Some (value.Truth b)) here some = absurd here
path_is (Some (value.Format w)) here some = absurd here
path_is (Some (value.Form w)) here some = absurd here
path_is (Some (value.Operation w)) here some = absurd here
path_is (Some (value.Retries r)) here some = absurd here
path_is (Some (value.Pattern p)) here some = absurd here
path_is (Some (value.Parser p)) here some = absurd here
path_is (Some (value.Grep g)) here some = absurd here
path_is (Some (value.Condition c)) here some = absurd here
path_is (Some (value.Change c)) here some = absurd here
path_is (Some (value.Wildcard w)) here some = absurd here
path_is (Some (value.Header w)) here some = absurd here
path_is (Some (value.Id w x)) here some = absurd here

-- a text that passes a test, or a default that does
text_or_so : (test : List ℕ → Bool) (default : List ℕ) → test default ≡ true → (o : Option Value) → Holds (IsTextSo test) o → test (unwrap_or (as_text o) default) ≡ true
text_or_so test default so None here = so
text_or_so test default so (Some (value.Text t)) here = here
text_or_so test default so (Some value.Nothing) here = absurd here
text_or_so test default so (Some (value.Number n)) here = absurd here
text_or_so test default so (Some (value.Port n)) here = absurd here
text_or_so test default so (Some (value.Truth b)) here = absurd here
text_or_so test default so (Some (value.Format w)) here = absurd here
text_or_so test default so (Some (value.Form w)) here = absurd here
text_or_so test default so (Some (value.Operation w)) here = absurd here
text_or_so test default so (Some (value.Retries r)) here = absurd here
text_or_so test default so (Some (value.Pattern p)) here = absurd here
text_or_so test default so (Some (value.Parser p)) here = absurd here
text_or_so test default so (Some (value.Grep g)) here = absurd here
text_or_so test default so (Some (value.Condition c)) here = absurd here
text_or_so test default so (Some (value.Change c)) here = absurd here
text_or_so test default so (Some (value.Wildcard w)) here = absurd here
text_or_so test default so (Some (value.Header w)) here = absurd here
text_or_so test default so (Some (value.Id w x)) here = absurd here

-- the kinds of these keys, by computation
host_passes : list_all (row_passes (target.Output out_plugin.Http) key.Host is_visible) table ≡ true
unfolding table
host_passes = refl

uri_passes : list_all (row_passes (target.Output out_plugin.Http) key.Uri is_uri) table ≡ true
unfolding table
uri_passes = refl

base_passes : list_all (row_passes target.Service key.SchedulerBase is_positive) table ≡ true
unfolding table
base_passes = refl

path_passes : list_all (row_passes target.Service key.StoragePath is_text) table ≡ true
unfolding table
path_passes = refl

can_request : (floats : Floats) (p : OutputPlugin) (properties : List Property) → AllByRecursion (ArePropertiesOf (target.Output p)) properties → CanRequest (output_kind floats p properties)
can_request floats out_plugin.Stdout properties all = tt
can_request floats out_plugin.File properties all = tt
can_request floats out_plugin.Tcp properties all = tt
can_request floats out_plugin.Forward properties all = tt
can_request floats out_plugin.Http properties all = (
  text_or_so is_visible_text (codes "127.0.0.1") refl (last_value key.Host properties) (last_of_named key.Host is_visible (IsTextSo is_visible_text) visible_of_kind (target.Output out_plugin.Http) host_passes properties all),
  text_or_so is_uri_text (codes "/") refl (last_value key.Uri properties) (last_of_named key.Uri is_uri (IsTextSo is_uri_text) uri_of_kind (target.Output out_plugin.Http) uri_passes properties all),
)

-- the name of a host is short, given or not
hostname_passes_input : (p : InputPlugin) → list_all (row_passes (target.Input p) key.SelfHostname is_hostname) table ≡ true
unfolding table
hostname_passes_input in_plugin.Tail = refl
hostname_passes_input in_plugin.Tcp = refl
hostname_passes_input in_plugin.Forward = refl
hostname_passes_input in_plugin.Stdin = refl

hostname_passes_output : (p : OutputPlugin) → list_all (row_passes (target.Output p) key.SelfHostname is_hostname) table ≡ true
unfolding table
hostname_passes_output out_plugin.Stdout = refl
hostname_passes_output out_plugin.File = refl
hostname_passes_output out_plugin.Tcp = refl
hostname_passes_output out_plugin.Forward = refl
hostname_passes_output out_plugin.Http = refl

short_host : (p : Target) (properties : List Property) → list_all (row_passes p key.SelfHostname is_hostname) table ≡ true → AllByRecursion (ArePropertiesOf p) properties → HasShortHost (shared_key_of properties)
short_host p properties passes all = by_key (text_at key.SharedKey properties)
  where
    so : is_hostname_text (hostname_of properties) ≡ true
    so = text_or_so is_hostname_text (codes "localhost") refl (last_value key.SelfHostname properties) (last_of_named key.SelfHostname is_hostname (IsTextSo is_hostname_text) hostname_of_kind p passes properties all)

    by_key : (o : Option (List ℕ)) → HasShortHost (shared_by (hostname_of properties) o)
    by_key None = tt
    by_key (Some k) = grind (arith, nat_tests, so)

abbrev HoldsId : Option (List ℕ) → Type 0
HoldsId None = Unit {0}
HoldsId (Some t) = IsIdText t

id_of_kind : (k : Kind) (v : Value) → is_id_kind k ≡ true → IsOfKind k v → IsIdValue v
id_of_kind kind.Id v so of = of
id_of_kind _ v so of = absurd (cc so)

id_is : (o : Option Value) → Holds IsIdValue o → HoldsId (as_id o)
id_is None here = tt
id_is (Some (value.Id name place)) here = here
id_is (Some (value.Text t)) here = absurd here
id_is (Some value.Nothing) here = absurd here
id_is (Some (value.Number n)) here = absurd here
id_is (Some (value.Port n)) here = absurd here
id_is (Some (value.Truth b)) here = absurd here
id_is (Some (value.Format w)) here = absurd here
id_is (Some (value.Form w)) here = absurd here
id_is (Some (value.Operation w)) here = absurd here
id_is (Some (value.Retries r)) here = absurd here
id_is (Some (value.Pattern p)) here = absurd here
id_is (Some (value.Parser p)) here = absurd here
id_is (Some (value.Grep g)) here = absurd here
id_is (Some (value.Condition c)) here = absurd here
id_is (Some (value.Change c)) here = absurd here
id_is (Some (value.Wildcard w)) here = absurd here
id_is (Some (value.Header w)) here = absurd here

id_passes : (p : OutputPlugin) → list_all (row_passes (target.Output p) key.StorageId is_id_kind) table ≡ true
unfolding table
id_passes out_plugin.Stdout = refl
id_passes out_plugin.File = refl
id_passes out_plugin.Tcp = refl
id_passes out_plugin.Forward = refl
id_passes out_plugin.Http = refl

abbrev HoldsText : Option (List ℕ) → Type 0
HoldsText None = Unit {0}
HoldsText (Some t) = IsTagText t

tag_is : (o : Option Value) → Holds IsTagValue o → HoldsText (as_text o)
tag_is None here = tt
tag_is (Some (value.Text t)) here = here
tag_is (Some value.Nothing) here = tt
tag_is (Some (value.Number n)) here = tt
tag_is (Some (value.Port n)) here = tt
tag_is (Some (value.Truth b)) here = tt
tag_is (Some (value.Format w)) here = tt
tag_is (Some (value.Form w)) here = tt
tag_is (Some (value.Operation w)) here = tt
tag_is (Some (value.Retries r)) here = tt
tag_is (Some (value.Pattern p)) here = tt
tag_is (Some (value.Parser p)) here = tt
tag_is (Some (value.Grep g)) here = tt
tag_is (Some (value.Condition c)) here = tt
tag_is (Some (value.Change c)) here = tt
tag_is (Some (value.Wildcard w)) here = tt
tag_is (Some (value.Header w)) here = tt
tag_is (Some (value.Id w x)) here = tt

-- ---- names of instances are valid tags

and_parts : (a b : Bool) → (a && b) ≡ true → (a ≡ true) × (b ≡ true)
and_parts true b so = (refl, so)
and_parts false b so = absurd (cc so)

ascii_by : (bytes : List ℕ) → list_all (λ b. nat_lt b 128) bytes ≡ true → IsAscii bytes
ascii_by [] all i = omega arith
ascii_by (b ∷ bytes) all zero = let low : nat_lt b 128 ≡ true = (and_parts (nat_lt b 128) (list_all (λ b. nat_lt b 128) bytes) all).0 in grind (arith, nat_tests, low)
ascii_by (b ∷ bytes) all (suc i) = ascii_by bytes (and_parts (nat_lt b 128) (list_all (λ b. nat_lt b 128) bytes) all).1 i

name_short : (plugin : List ℕ) (n : ℕ) → list_all (λ b. nat_lt b 128) plugin ≡ true → length plugin ≤ 20 → n ≤ 64 → IsIdText (plugin ++ codes "." ++ decimal n)
name_short plugin n ascii short few =
    let long : length (decimal n) ≤ 2 = length-decimal-le 2 n (omega arith) (lit_lt n few) (small n few) in
    let dotted : length (plugin ++ codes ".") ≡ length plugin + 1 = length-append plugin (codes ".") in
    let size : length (plugin ++ codes "." ++ decimal n) ≡ length (plugin ++ codes ".") + length (decimal n) = length-append (plugin ++ codes ".") (decimal n) in (
      omega (arith, size, dotted),
      omega (arith, size, dotted, long, short),
      IsUtf8-from_ascii (plugin ++ codes "." ++ decimal n)
          (IsAscii-append (plugin ++ codes ".") (decimal n)
          (IsAscii-append plugin (codes ".") (ascii_by plugin ascii) (ascii_by (codes ".") refl)) (IsAscii-decimal n (small n few))),
    )
  where
    small : (n : ℕ) → n ≤ 64 → n < 2 ^ 64
    small n few = omega arith

    lit_lt : (n : ℕ) → n ≤ 64 → n < 10 ^ 2
    lit_lt n few = omega arith

name_tag : (plugin : List ℕ) (n : ℕ) → list_all (λ b. nat_lt b 128) plugin ≡ true → length plugin ≤ 20 → n ≤ 64 → IsTagText (plugin ++ codes "." ++ decimal n)
name_tag plugin n ascii short few = let is = name_short plugin n ascii short few in (is.0, omega (arith, is.1), is.2)

-- ---- an input

-- the name of a plugin is a short text of ASCII
plain_name : (p : InputPlugin) → (list_all (λ b. nat_lt b 128) (name_of_input p) ≡ true) × (length (name_of_input p) ≤ 20)
plain_name in_plugin.Tail = (refl, lit≤ tt)
plain_name in_plugin.Tcp = (refl, lit≤ tt)
plain_name in_plugin.Forward = (refl, lit≤ tt)
plain_name in_plugin.Stdin = (refl, lit≤ tt)

input_name_tag : (before : List InputSet) (plugin : InputPlugin) → length before ≤ 64 → IsTagText (input_name before plugin)
input_name_tag before plugin few =
    let plain = plain_name plugin in
    name_tag (name_of_input plugin) (count_by (is_input_of plugin) before) plain.0 plain.1 (omega (arith, few, count_by-le-length (is_input_of plugin) before))

kind_tag : (kind : InputKind) (name : List ℕ) (o : Option (List ℕ)) → IsTagText name → HoldsText o → HasTag kind (tag_of (input_plugin kind) name o)
kind_tag (input.Tail paths from_head) name (Some t) name_is here = here
kind_tag (input.Tail paths from_head) name None name_is here = name_is
kind_tag (input.Tcp host port) name (Some t) name_is here = here
kind_tag (input.Tcp host port) name None name_is here = name_is
kind_tag (input.Forward host port) name (Some t) name_is here = here
kind_tag (input.Forward host port) name None name_is here = tt
kind_tag input.Stdin name (Some t) name_is here = here
kind_tag input.Stdin name None name_is here = name_is

own_tag : (p : InputPlugin) (kind : InputKind) (name : List ℕ) (o : Option (List ℕ)) → input_plugin kind ≡ p → IsTagText name → HoldsText o → HasTag kind (tag_of p name o)
own_tag p kind name o is name_is here = subst (λ (q : InputPlugin). HasTag kind (tag_of q name o)) is (kind_tag kind name o name_is here)

kind_ok : {a b : InputKind} → ◌≡◌ {A = Checked InputKind} (Ok a) (Ok b) → a ≡ b
kind_ok is = cc

set_ok : {a b : InputSet} → ◌≡◌ {A = Checked InputSet} (Ok a) (Ok b) → a ≡ b
set_ok is = cc

output_ok : {a b : OutputSet} → ◌≡◌ {A = Checked OutputSet} (Ok a) (Ok b) → a ≡ b
output_ok is = cc

part_ok : {a b : Target} → ◌≡◌ {A = Checked Target} (Ok a) (Ok b) → a ≡ b
part_ok is = cc

so_far_ok : {a b : PartialSettings} → ◌≡◌ {A = Checked PartialSettings} (Ok a) (Ok b) → a ≡ b
so_far_ok is = cc

tail_kind : (place : Place) (properties : List Property) (o : Option (List ℕ)) (kind : InputKind) → tail_by place properties o ≡ Ok kind → input_plugin kind ≡ in_plugin.Tail
tail_kind place properties None kind is = absurd (cc is)
tail_kind place properties (Some paths) kind is = sym (ap input_plugin (kind_ok is))

kind_is : (p : InputPlugin) (place : Place) (properties : List Property) (kind : InputKind) → input_kind p place properties ≡ Ok kind → input_plugin kind ≡ p
kind_is in_plugin.Tail place properties kind is = tail_kind place properties (text_at key.Path properties) kind is
kind_is in_plugin.Tcp place properties kind is = sym (ap input_plugin (kind_ok is))
kind_is in_plugin.Forward place properties kind is = sym (ap input_plugin (kind_ok is))
kind_is in_plugin.Stdin place properties kind is = sym (ap input_plugin (kind_ok is))

stored_is : (path : Bool) (place : Place) (set out : InputSet) → stored_in path place set ≡ Ok out → (set ≡ out) × (set.stored ≡ true → path ≡ true)
stored_is path place set out is = by_tests set.stored path refl is
  where
    by_tests : (s p : Bool) → path ≡ p → (if s && not p then Err (fault Missing place) else Ok set) ≡ Ok out → (set ≡ out) × (s ≡ true → path ≡ true)
    by_tests true true same e = (set_ok e, λ _. same)
    by_tests true false same e = absurd (cc e)
    by_tests false p same e = (set_ok e, λ so. absurd (cc so))

-- a new input
abbrev IsNewInput : Bool → List InputSet → InputSet → Type 0
IsNewInput path before set = (set.name ≡ input_name before (input_plugin set.kind)) × (HasTag set.kind set.tag × (HasShortHost set.shared × (set.stored ≡ true → path ≡ true)))

new_input : (path : Bool) (floats : Floats) (p : InputPlugin) (place : Place) (before : List InputSet) (properties : List Property) (set : InputSet) (r : Checked InputKind) → ((kind : InputKind) → r ≡ Ok kind → input_plugin kind ≡ p)
    → IsTagText (input_name before p) → HoldsText (text_at key.Tag properties) → HasShortHost (shared_key_of properties) → input_by path floats p place (input_name before p) properties r ≡ Ok set → IsNewInput path before set
new_input path floats p place before properties set (Err refusal) kinds name_is tag shared is = absurd (cc is)
new_input path floats p place before properties set (Ok kind) kinds name_is tag shared is =
    let same : input_plugin kind ≡ p = kinds kind refl in
    let both = stored_is path place (input_set floats p (input_name before p) properties kind) set is in
    subst (IsNewInput path before) both.0
    (ap (input_name before) (sym same), (own_tag p kind (input_name before p) (text_at key.Tag properties) same name_is tag, (shared, both.1)))

-- ---- the settings so far

pub record Sound (path : Bool) (s : PartialSettings) : Type 0 where
  pub properties : AllByRecursion (ArePropertiesOf target.Service) s.service
  pub few_inputs : length s.inputs ≤ 64
  pub few_outputs : length s.outputs ≤ 64
  pub inputs_named : AreInputsNamed [] s.inputs
  pub outputs_named : AreOutputsNamed [] s.outputs
  pub ids : All (λ set. IsIdText set.id) s.outputs
  pub ids_differ : AllPairs (λ one other. one.id ≢ other.id) s.outputs
  pub requests : AllByRecursion (λ set. CanRequest set.kind) s.outputs
  pub tagged : AllByRecursion (λ set. HasTag set.kind set.tag) s.inputs
  pub shared_inputs : AllByRecursion (λ set. HasShortHost set.shared) s.inputs
  pub shared_outputs : AllByRecursion (λ set. HasShortHost set.shared) s.outputs
  pub stored : AllByRecursion (λ set. set.stored ≡ true → path ≡ true) s.inputs

with_input_meets : (path : Bool) (s : PartialSettings) (set : InputSet) → Sound path s → length s.inputs < 64 → IsNewInput path s.inputs set → Sound path (record s { inputs = s.inputs ++ set ∷ [] })
with_input_meets path s set sound room new = record {
  properties = sound.properties;
  few_inputs = omega (arith, room, length-append s.inputs (set ∷ []));
  few_outputs = sound.few_outputs;
  inputs_named = inputs_more [] s.inputs set sound.inputs_named new.0;
  outputs_named = sound.outputs_named;
  ids = sound.ids;
  ids_differ = sound.ids_differ;
  requests = sound.requests;
  tagged = all_more (λ x. HasTag x.kind x.tag) s.inputs set sound.tagged new.1.0;
  shared_inputs = all_more (λ x. HasShortHost x.shared) s.inputs set sound.shared_inputs new.1.1.0;
  shared_outputs = sound.shared_outputs;
  stored = all_more (λ x. x.stored ≡ true → path ≡ true) s.inputs set sound.stored new.1.1.1;
}

with_output_meets : (path : Bool) (s : PartialSettings) (set : OutputSet) → Sound path s → length s.outputs < 64 → set.name ≡ output_name s.outputs (output_plugin set.kind) → IsIdText set.id → All (λ one. one.id ≢ set.id) s.outputs → CanRequest set.kind → HasShortHost set.shared → Sound path (record s { outputs = s.outputs ++ set ∷ [] })
with_output_meets path s set sound room new id other asked shared = record {
  properties = sound.properties;
  few_inputs = sound.few_inputs;
  few_outputs = omega (arith, room, length-append s.outputs (set ∷ []));
  inputs_named = sound.inputs_named;
  outputs_named = outputs_more [] s.outputs set sound.outputs_named new;
  ids = All-push (λ x. IsIdText x.id) s.outputs set sound.ids id;
  ids_differ = pairs_more (λ one other. one.id ≢ other.id) s.outputs set sound.ids_differ other;
  requests = all_more (λ x. CanRequest x.kind) s.outputs set sound.requests asked;
  tagged = sound.tagged;
  shared_inputs = sound.shared_inputs;
  shared_outputs = all_more (λ x. HasShortHost x.shared) s.outputs set sound.shared_outputs shared;
  stored = sound.stored;
}

-- the part has room, if it is an input or an output
abbrev HasRoom : PartialSettings → Target → Type 0
HasRoom s target.Service = Unit {0}
HasRoom s target.Parser = Unit {0}
HasRoom s (target.Input plugin) = length s.inputs < 64
HasRoom s (target.Filter plugin) = Unit {0}
HasRoom s (target.Output plugin) = length s.outputs < 64

-- for any plugin
of_plugins : {P : Type 0} (make : P → Target) (Q : Target → Type 0) (entry : Entry) (o : Option P) (p : Target) → ((plugin : P) → Q (make plugin)) → plugin_at entry (option_map make o) ≡ Ok p → Q p
of_plugins make Q entry None p each is = absurd (cc is)
of_plugins make Q entry (Some plugin) p each is = subst Q (part_ok is) (each plugin)

room_of_input : (s : PartialSettings) (place : Place) (o : Option Entry) (p : Target) → length s.inputs < 64 → by_name head.Input place o ≡ Ok p → HasRoom s p
room_of_input s place None p room is = absurd (cc is)
room_of_input s place (Some entry) p room is = of_plugins target.Input (HasRoom s) entry (input_of entry.value) p (λ plugin. room) is

room_of_output : (s : PartialSettings) (place : Place) (o : Option Entry) (p : Target) → length s.outputs < 64 → by_name head.Output place o ≡ Ok p → HasRoom s p
room_of_output s place None p room is = absurd (cc is)
room_of_output s place (Some entry) p room is = of_plugins target.Output (HasRoom s) entry (output_of entry.value) p (λ plugin. room) is

room_of_filter : (s : PartialSettings) (place : Place) (o : Option Entry) (p : Target) → by_name head.Filter place o ≡ Ok p → HasRoom s p
room_of_filter s place None p is = absurd (cc is)
room_of_filter s place (Some entry) p is = of_plugins target.Filter (HasRoom s) entry (filter_of entry.value) p (λ plugin. tt) is

room_of_parser : (s : PartialSettings) (place : Place) (o : Option Entry) (p : Target) → by_name head.Parser place o ≡ Ok p → HasRoom s p
room_of_parser s place None p is = absurd (cc is)
room_of_parser s place (Some entry) p is = subst (HasRoom s) (part_ok is) tt

room_of : (s : PartialSettings) (section : Section) (h : Option SectionKind) (p : Target) → of_header s section h ≡ Ok p → HasRoom s p
room_of s section None p is = absurd (cc is)
room_of s section (Some head.Service) p is = subst (HasRoom s) (part_ok is) tt
room_of s section (Some head.Input) p is = by_test (nat_le 64 (length s.inputs)) refl is
  where
    by_test : (b : Bool) → nat_le 64 (length s.inputs) ≡ b → (if b then Err (fault TooMany section.place) else by_name head.Input section.place (name_entry section.entries)) ≡ Ok p → HasRoom s p
    by_test true full e = absurd (cc e)
    by_test false full e = room_of_input s section.place (name_entry section.entries) p (grind (arith, nat_tests, full)) e
room_of s section (Some head.Output) p is = by_test (nat_le 64 (length s.outputs)) refl is
  where
    by_test : (b : Bool) → nat_le 64 (length s.outputs) ≡ b → (if b then Err (fault TooMany section.place) else by_name head.Output section.place (name_entry section.entries)) ≡ Ok p → HasRoom s p
    by_test true full e = absurd (cc e)
    by_test false full e = room_of_output s section.place (name_entry section.entries) p (grind (arith, nat_tests, full)) e
room_of s section (Some head.Filter) p is = room_of_filter s section.place (name_entry section.entries) p is
room_of s section (Some head.Parser) p is = room_of_parser s section.place (name_entry section.entries) p is

-- the Tag of an input is a valid tag
tag_passes : (p : InputPlugin) → list_all (row_passes (target.Input p) key.Tag is_tag) table ≡ true
unfolding table
tag_passes in_plugin.Tail = refl
tag_passes in_plugin.Tcp = refl
tag_passes in_plugin.Forward = refl
tag_passes in_plugin.Stdin = refl

plain_output : (p : OutputPlugin) → (list_all (λ b. nat_lt b 128) (name_of_output p) ≡ true) × (length (name_of_output p) ≤ 20)
plain_output out_plugin.Stdout = (refl, lit≤ tt)
plain_output out_plugin.File = (refl, lit≤ tt)
plain_output out_plugin.Tcp = (refl, lit≤ tt)
plain_output out_plugin.Forward = (refl, lit≤ tt)
plain_output out_plugin.Http = (refl, lit≤ tt)

-- an output has the plugin that it is built for
its_plugin : (floats : Floats) (p : OutputPlugin) (properties : List Property) → output_plugin (output_kind floats p properties) ≡ p
its_plugin floats out_plugin.Stdout properties = refl
its_plugin floats out_plugin.File properties = refl
its_plugin floats out_plugin.Tcp properties = refl
its_plugin floats out_plugin.Forward properties = refl
its_plugin floats out_plugin.Http properties = refl

module _ (path : Bool) (s : PartialSettings) (place : Place) (properties : List Property) (new : PartialSettings) (sound : Sound path s) where
  input_meets : (p : InputPlugin) → AllByRecursion (ArePropertiesOf (target.Input p)) properties → length s.inputs < 64 → (r : Checked InputSet) → input_from path s.floats p place s.inputs properties ≡ r → with_input s r ≡ Ok new → Sound path new
  input_meets p all room (Err refusal) r_is is = absurd (cc is)
  input_meets p all room (Ok set) r_is is =
      let tag : HoldsText (text_at key.Tag properties) = tag_is (last_value key.Tag properties) (last_of_named key.Tag is_tag IsTagValue tag_of_kind (target.Input p) (tag_passes p) properties all) in
      subst (Sound path) (so_far_ok is)
      (with_input_meets path s set sound room
      (new_input path s.floats p place s.inputs properties set (input_kind p place properties) (λ kind e. kind_is p place properties kind e) (input_name_tag s.inputs p (omega arith)) tag (short_host (target.Input p) properties (hostname_passes_input p) all) r_is))

  filter_meets : (r : Checked FilterStep) → with_filter s r ≡ Ok new → Sound path new
  filter_meets (Err refusal) is = absurd (cc is)
  filter_meets (Ok step) is = subst (Sound path) (so_far_ok is) (record {
    properties = sound.properties;
    few_inputs = sound.few_inputs;
    few_outputs = sound.few_outputs;
    inputs_named = sound.inputs_named;
    outputs_named = sound.outputs_named;
    ids = sound.ids;
    ids_differ = sound.ids_differ;
    requests = sound.requests;
    tagged = sound.tagged;
    shared_inputs = sound.shared_inputs;
    shared_outputs = sound.shared_outputs;
    stored = sound.stored;
  })

  -- a new output is the set, and no other has its id
  output_is : (full taken : Bool) (id_place : Place) (set out : OutputSet) → ◌≡◌ {A = Checked OutputSet} (if full then Err (fault TooMany place) else (if taken then Err (fault BadChoice id_place) else Ok set)) (Ok out) → (set ≡ out) × (taken ≡ false)
  output_is true taken id_place set out is = absurd (cc is)
  output_is false true id_place set out is = absurd (cc is)
  output_is false false id_place set out is = (output_ok is, refl)

  id_short : (p : OutputPlugin) (o : Option (List ℕ)) → HoldsId o → length s.outputs ≤ 64 → IsIdText (unwrap_or o (output_name s.outputs p))
  id_short p (Some t) here few = here
  id_short p None here few =
      let plain = plain_output p in
      name_short (name_of_output p) (count_by (is_output_of p) s.outputs) plain.0 plain.1 (omega (arith, few, count_by-le-length (is_output_of p) s.outputs))

  output_meets : (p : OutputPlugin) → AllByRecursion (ArePropertiesOf (target.Output p)) properties → length s.outputs < 64 → (r : Checked OutputSet) → output_from s.floats p place s.outputs properties ≡ r → with_output s r ≡ Ok new → Sound path new
  output_meets p all room (Err refusal) r_is is = absurd (cc is)
  output_meets p all room (Ok set) r_is is =
      let made : OutputSet = output_set s.floats p s.outputs properties in
      let parts = output_is (nat_lt most_headers (header_count properties)) (list_any (has_id made.id) s.outputs) (unwrap_or (id_place_at key.StorageId properties) place) made set r_is in
      let id = id_is (last_value key.StorageId properties) (last_of_named key.StorageId is_id_kind IsIdValue id_of_kind (target.Output p) (id_passes p) properties all) in
      subst (Sound path) (so_far_ok is)
      (subst (λ (x : OutputSet). Sound path (record s { outputs = s.outputs ++ x ∷ [] })) parts.0
      (with_output_meets path s made sound room (ap (output_name s.outputs) (sym (its_plugin s.floats p properties)))
      (id_short p (id_at key.StorageId properties) id (omega (arith, room))) (no_id made.id s.outputs parts.1) (can_request s.floats p properties all)
      (short_host (target.Output p) properties (hostname_passes_output p) all)))

  service_meets : AllByRecursion (ArePropertiesOf target.Service) properties → ◌≡◌ {A = Checked PartialSettings} (Ok (record s { service = s.service ++ properties })) (Ok new) → Sound path new
  service_meets all is = subst (Sound path) (so_far_ok is) (record {
    properties = all_both (ArePropertiesOf target.Service) s.service properties sound.properties all;
    few_inputs = sound.few_inputs;
    few_outputs = sound.few_outputs;
    inputs_named = sound.inputs_named;
    outputs_named = sound.outputs_named;
    ids = sound.ids;
    ids_differ = sound.ids_differ;
    requests = sound.requests;
    tagged = sound.tagged;
    shared_inputs = sound.shared_inputs;
    shared_outputs = sound.shared_outputs;
    stored = sound.stored;
  })

  target_meets : (p : Target) → HasRoom s p → AllByRecursion (ArePropertiesOf p) properties → with_target path s p place properties ≡ Ok new → Sound path new
  target_meets target.Service room all is = service_meets all is
  target_meets target.Parser room all is = subst (Sound path) (so_far_ok is) sound
  target_meets (target.Input plugin) room all is = input_meets plugin all room (input_from path s.floats plugin place s.inputs properties) refl is
  target_meets (target.Filter plugin) room all is = filter_meets (filter_from s.floats plugin place properties) is
  target_meets (target.Output plugin) room all is = output_meets plugin all room (output_from s.floats plugin place s.outputs properties) refl is

-- ---- a storage path that is set is there at the end

abbrev is_path_said : Property → Bool
is_path_said s = bytes_eq (name_of key.StoragePath) (name_of s.key)

abbrev NamesPath : List Property → Type 0
NamesPath properties = list_any is_path_said properties ≡ true

any_before : (xs ys : List Property) → NamesPath xs → NamesPath (xs ++ ys)
any_before [] ys any = absurd (cc any)
any_before (x ∷ xs) ys any = by_test (is_path_said x) (any_before xs ys) any
  where
    by_test : (b : Bool) → (NamesPath xs → NamesPath (xs ++ ys)) → (b || list_any is_path_said xs) ≡ true → (b || list_any is_path_said (xs ++ ys)) ≡ true
    by_test true later so = refl
    by_test false later so = later so

any_behind : (xs ys : List Property) → NamesPath ys → NamesPath (xs ++ ys)
any_behind [] ys any = any
any_behind (x ∷ xs) ys any = by_test (is_path_said x) (any_behind xs ys any)
  where
    by_test : (b : Bool) → NamesPath (xs ++ ys) → (b || list_any is_path_said (xs ++ ys)) ≡ true
    by_test true later = refl
    by_test false later = later

path_property : (entries : List Entry) (properties : List Property) → Pairs (IsPropertyOf target.Service) entries properties → list_any is_path_entry entries ≡ true → NamesPath properties
path_property [] [] pairs any = absurd (cc any)
path_property [] (x ∷ properties) pairs any = absurd pairs
path_property (e ∷ entries) [] pairs any = absurd pairs
path_property (e ∷ entries) (x ∷ properties) pairs any = by_test (is_path_said x) (is_path_entry e) (path_property entries properties pairs.1) (ap names_path pairs.0.1) any
  where
    by_test : (b c : Bool) → (list_any is_path_entry entries ≡ true → NamesPath properties) → c ≡ b → (c || list_any is_path_entry entries) ≡ true → (b || list_any is_path_said properties) ≡ true
    by_test true c later same so = refl
    by_test false true later same so = absurd (cc same)
    by_test false false later same so = later so

service_head : (s : PartialSettings) (section : Section) (h : Option SectionKind) (p : Target) → is_service_head h ≡ true → of_header s section h ≡ Ok p → target.Service ≡ p
service_head s section (Some head.Service) p so is = part_ok is
service_head s section None p so is = absurd (cc so)
service_head s section (Some head.Input) p so is = absurd (cc so)
service_head s section (Some head.Output) p so is = absurd (cc so)
service_head s section (Some head.Filter) p so is = absurd (cc so)
service_head s section (Some head.Parser) p so is = absurd (cc so)

-- no section removes what a SERVICE section set
with_input_stays : (s new : PartialSettings) (r : Checked InputSet) → with_input s r ≡ Ok new → NamesPath s.service → NamesPath new.service
with_input_stays s new (Err refusal) is any = absurd (cc is)
with_input_stays s new (Ok set) is any = subst (λ (x : PartialSettings). NamesPath x.service) (so_far_ok is) any

with_filter_stays : (s new : PartialSettings) (r : Checked FilterStep) → with_filter s r ≡ Ok new → NamesPath s.service → NamesPath new.service
with_filter_stays s new (Err refusal) is any = absurd (cc is)
with_filter_stays s new (Ok step) is any = subst (λ (x : PartialSettings). NamesPath x.service) (so_far_ok is) any

with_output_stays : (s new : PartialSettings) (r : Checked OutputSet) → with_output s r ≡ Ok new → NamesPath s.service → NamesPath new.service
with_output_stays s new (Err refusal) is any = absurd (cc is)
with_output_stays s new (Ok set) is any = subst (λ (x : PartialSettings). NamesPath x.service) (so_far_ok is) any

service_stays : (path : Bool) (s : PartialSettings) (place : Place) (properties : List Property) (new : PartialSettings) (p : Target) → with_target path s p place properties ≡ Ok new → NamesPath s.service → NamesPath new.service
service_stays path s place properties new target.Service is any = subst (λ (x : PartialSettings). NamesPath x.service) (so_far_ok is) (any_before s.service properties any)
service_stays path s place properties new target.Parser is any = subst (λ (x : PartialSettings). NamesPath x.service) (so_far_ok is) any
service_stays path s place properties new (target.Input plugin) is any = with_input_stays s new (input_from path s.floats plugin place s.inputs properties) is any
service_stays path s place properties new (target.Filter plugin) is any = with_filter_stays s new (filter_from s.floats plugin place properties) is any
service_stays path s place properties new (target.Output plugin) is any = with_output_stays s new (output_from s.floats plugin place s.outputs properties) is any

-- ---- all sections

abbrev Goes : Bool → PartialSettings → Section → PartialSettings → Type 0
Goes path s section new = Sound path new × ((NamesPath s.service → NamesPath new.service) × (has_path section ≡ true → NamesPath new.service))

goes_path : (path : Bool) (s : PartialSettings) (section : Section) (p : Target) (properties : List Property) (new : PartialSettings) → part_of s section ≡ Ok p → Pairs (IsPropertyOf p) (entries_here p section.entries) properties → with_target path s p section.place properties ≡ Ok new
    → has_path section ≡ true → NamesPath new.service
goes_path path s section target.Service properties new part_is pairs is has =
    subst (λ (x : PartialSettings). NamesPath x.service) (so_far_ok is)
    (any_behind s.service properties (path_property section.entries properties pairs (and_parts (is_service_head (head_of section.name)) (list_any is_path_entry section.entries) has).1))
goes_path path s section p properties new part_is pairs is has =
    absurd (cc (service_head s section (head_of section.name) p (and_parts (is_service_head (head_of section.name)) (list_any is_path_entry section.entries) has).0 part_is))

module _ (all : List Section) (path : Bool) where
  section_goes : (s : PartialSettings) (section : Section) → Sound path s → Always (Goes path s section) (with_section all path s section)
  section_goes s section sound =
      always_then (λ p. part_of s section ≡ Ok p) (Goes path s section) (known (part_of s section))
      (λ p. entry_properties (parser_named all) p (entries_here p section.entries) >>= (λ properties. known (with_target path s p section.place properties)))
      (always_known (λ p. part_of s section ≡ Ok p) (part_of s section) (λ p is. is))
      (λ p part_is.
      always_then (Pairs (IsPropertyOf p) (entries_here p section.entries)) (Goes path s section) (entry_properties (parser_named all) p (entries_here p section.entries))
      (λ properties. known (with_target path s p section.place properties))
      (always_each (IsPropertyOf p) (entry_property (parser_named all) p) (always_property (parser_named all) p) (entries_here p section.entries))
      (λ properties pairs. always_known (Goes path s section) (with_target path s p section.place properties)
      (λ new is. (
        target_meets path s section.place properties new sound p (room_of s section (head_of section.name) p part_is) (all_of_pairs (IsPropertyOf p) (ArePropertiesOf p) (properties_in p) (entries_here p section.entries) properties pairs) is,
        (service_stays path s section.place properties new p is, goes_path path s section p properties new part_is pairs is),
      ))))

  sections_go : (rest : List Section) (s : PartialSettings) → Sound path s → (path ≡ true → NamesPath s.service ⊎ (list_any has_path rest ≡ true)) → Always (λ end. Sound path end × (path ≡ true → NamesPath end.service)) (with_sections all path s rest)
  unfolding with_sections
  sections_go [] s sound there = (sound, λ so. found (there so))
    where
      found : NamesPath s.service ⊎ (false ≡ true) → NamesPath s.service
      found (inl any) = any
      found (inr never) = absurd (cc never)
  sections_go (section ∷ rest) s sound there =
      always_then (Goes path s section) (λ end. Sound path end × (path ≡ true → NamesPath end.service)) (with_section all path s section) (λ new. with_sections all path new rest)
      (section_goes s section sound)
      (λ new goes. sections_go rest new goes.0 (λ so. next new goes.1 (there so)))
    where
      next : (new : PartialSettings) → (NamesPath s.service → NamesPath new.service) × (has_path section ≡ true → NamesPath new.service) → NamesPath s.service ⊎ ((has_path section || list_any has_path rest) ≡ true) → NamesPath new.service ⊎ (list_any has_path rest ≡ true)
      next new goes (inl any) = inl (goes.0 any)
      next new goes (inr any) = by_test (has_path section) refl any
        where
          by_test : (b : Bool) → has_path section ≡ b → (b || list_any has_path rest) ≡ true → NamesPath new.service ⊎ (list_any has_path rest ≡ true)
          by_test true here so = inl (goes.1 here)
          by_test false here so = inr so

true_is : (b : Bool) → IsTrue b → b ≡ true
true_is b so = so

all_meet : (path : Bool) (s : PartialSettings) → Sound path s → (path ≡ true → NamesPath s.service) → MeetsRequirements (all_of s)
all_meet path s sound there = record {
  few_inputs = sound.few_inputs;
  few_outputs = sound.few_outputs;
  inputs_named = sound.inputs_named;
  outputs_named = sound.outputs_named;
  ids = sound.ids;
  ids_differ = sound.ids_differ;
  requests = sound.requests;
  tagged = sound.tagged;
  shared_inputs = sound.shared_inputs;
  shared_outputs = sound.shared_outputs;
  base = base_is (last_value key.SchedulerBase s.service) (last_of_named key.SchedulerBase is_positive IsPositive positive_of_kind target.Service base_passes s.service sound.properties);
  stored = all_so (λ set. set.stored ≡ true → path ≡ true) (λ set. IsTrue set.stored → IsSome (text_at key.StoragePath s.service))
      (λ set gives so. path_is (last_value key.StoragePath s.service) (last_of_named key.StoragePath is_text IsText text_of_kind target.Service path_passes s.service sound.properties)
      (last_there key.StoragePath s.service (there (gives (true_is set.stored so))) None))
      s.inputs sound.stored;
}

nothing_meets : (path : Bool) (floats : Floats) → Sound path (nothing floats)
nothing_meets path floats = record { properties = tt; few_inputs = omega arith; few_outputs = omega arith; inputs_named = tt; outputs_named = tt; ids = All-nil (λ set. IsIdText set.id); ids_differ = λ i j d less within. absurd (omega (arith, within)); requests = tt; tagged = tt; shared_inputs = tt; shared_outputs = tt; stored = tt }

always_meets : (sections : List Section) → Always MeetsRequirements (settings_of sections)
unfolding settings_of
always_meets sections =
    always_then (λ end. Sound (list_any has_path sections) end × (list_any has_path sections ≡ true → NamesPath end.service)) MeetsRequirements (with_sections sections (list_any has_path sections) (nothing (floats_in sections)) sections) (λ s. known (Ok (all_of s)))
    (sections_go sections (list_any has_path sections) sections (nothing (floats_in sections)) (nothing_meets (list_any has_path sections) (floats_in sections)) (λ so. inr so))
    (λ s both. all_meet (list_any has_path sections) s both.0 both.1)

-- settings that are read meet what the engine requires
pub settings_meet_requirements : (sections : List Section) (settings : AllSettings) → IsResult (settings_of sections) (Ok settings) → MeetsRequirements settings
settings_meet_requirements sections settings comes = always_result MeetsRequirements (settings_of sections) settings (always_meets sections) comes
