-- What is read of an entry and of a PARSER section, from what is read of their parts.
use Rattle.std.proofs.Common.{◌≡◌, List, Option, Some, None, Result, Ok, Err, refl, sym, subst}
use Rattle.std.specs.List.{find}
use Rattle.fwd_parser.specs.declared.parser.Parser.{Parser}
use Rattle.fwd_settings_schema.specs.declared.error_kind.SettingKind.TheVariants.{UnknownKey, BadChoice}
use Rattle.fwd_config.specs.declared.section.Entry.{Entry}
use Rattle.fwd_config.specs.declared.section.Section.{Section}
use Rattle.fwd_settings_entries.specs.declared.read_err.ReadErr.{ReadErr}
use Rattle.fwd_settings_schema.specs.declared.keys.Key.{Key}
use Rattle.fwd_settings_schema.specs.declared.keys.Kind.{Kind}
use Rattle.fwd_settings_schema.specs.declared.keys.Kind.TheVariants as kind
use Rattle.fwd_settings_schema.specs.declared.section_kind.Target.{Target}
use Rattle.fwd_settings_schema.specs.declared.section_kind.Target.TheVariants as target
use Rattle.fwd_settings_schema.specs.declared.properties.Value.{Value}
use Rattle.fwd_settings_schema.specs.declared.properties.Value.TheVariants as value
use Rattle.fwd_settings_schema.specs.declared.properties.Property.{Property}
use Rattle.fwd_settings_schema.specs.Keys.{key_of}
use Rattle.fwd_settings_entries.specs.Reading.{Reading, known, fault, IsResult, ReturnsResult}
use Rattle.fwd_settings_entries.specs.Values.{property_value, key_property, entry_property, entry_properties}
use Rattle.fwd_settings_entries.specs.Parsers.{no_parser, parser_from, parser_of, is_parser_named, parser_in_section, parser_named}
use Rattle.fwd_settings_entries.proofs.Readings.{result_then, returns_then, returns_refused}

module _ (by_name : Entry → Reading Parser) (p : Target) (entry : Entry) where
  pub unknown_key : (r : Result Property ReadErr) → key_of p entry.key ≡ None → ReturnsResult (known (Err (fault UnknownKey entry.place))) r → ReturnsResult (entry_property by_name p entry) r
  unknown_key r none gives = subst (λ (o : Option (Key × Kind)). ReturnsResult (key_property by_name entry o) r) (sym none) gives

  module _ (k : Key) (how : Kind) (is : key_of p entry.key ≡ Some (k, how)) where
    abbrev with_key : Value → Reading Property
    with_key v = known (Ok (record { key = k; value = v }))

    pub key_value : (v : Value) → IsResult (property_value by_name how entry) (Ok v) → IsResult (entry_property by_name p entry) (Ok (record { key = k; value = v }))
    key_value v comes =
        subst (λ (o : Option (Key × Kind)). IsResult (key_property by_name entry o) (Ok (record { key = k; value = v }))) (sym is)
        (result_then (property_value by_name how entry) with_key v (Ok (record { key = k; value = v })) comes refl)

    pub key_refused : (s : ReadErr) → ReturnsResult (property_value by_name how entry) (Err s) → ReturnsResult (entry_property by_name p entry) (Err s)
    key_refused s gives =
        subst (λ (o : Option (Key × Kind)). ReturnsResult (key_property by_name entry o) (Err s)) (sym is)
        (returns_refused (property_value by_name how entry) with_key s gives)

abbrev value_of_parser : Parser → Reading Value
value_of_parser p = known (Ok (value.Parser p))

module _ (all : List Section) (entry : Entry) where
  module _ (how : Kind) (is : how ≡ kind.Parser) where
    pub read_parser_value : (p : Parser) → IsResult (parser_named all entry) (Ok p) → IsResult (property_value (parser_named all) how entry) (Ok (value.Parser p))
    read_parser_value p comes =
        subst (λ (h : Kind). IsResult (property_value (parser_named all) h entry) (Ok (value.Parser p))) (sym is)
        (result_then (parser_named all entry) value_of_parser p (Ok (value.Parser p)) comes refl)

    pub parser_refused : (s : ReadErr) → ReturnsResult (parser_named all entry) (Err s) → ReturnsResult (property_value (parser_named all) how entry) (Err s)
    parser_refused s gives =
        subst (λ (h : Kind). ReturnsResult (property_value (parser_named all) h entry) (Err s)) (sym is)
        (returns_refused (parser_named all entry) value_of_parser s gives)

  pub parser_found : (section : Section) (r : Result Parser ReadErr) → find (is_parser_named entry.value) all ≡ Some section → ReturnsResult (parser_of section) r → ReturnsResult (parser_named all entry) r
  parser_found section r is gives = subst (λ (o : Option Section). ReturnsResult (parser_in_section entry o) r) (sym is) gives

  pub parser_unknown : (r : Result Parser ReadErr) → find (is_parser_named entry.value) all ≡ None → ReturnsResult (known (Err (fault BadChoice entry.place))) r → ReturnsResult (parser_named all entry) r
  parser_unknown r is gives = subst (λ (o : Option Section). ReturnsResult (parser_in_section entry o) r) (sym is) gives

module _ (section : Section) where
  abbrev from_property : List Property → Reading Parser
  from_property properties = known (parser_from section.place properties)

  pub parser_by_properties : (properties : List Property) (r : Result Parser ReadErr) → IsResult (entry_properties no_parser target.Parser section.entries) (Ok properties) → ReturnsResult (known (parser_from section.place properties)) r → ReturnsResult (parser_of section) r
  parser_by_properties properties r comes gives = returns_then (entry_properties no_parser target.Parser section.entries) from_property properties r comes gives

  pub parser_no_properties : (s : ReadErr) → ReturnsResult (entry_properties no_parser target.Parser section.entries) (Err s) → ReturnsResult (parser_of section) (Err s)
  parser_no_properties s gives = returns_refused (entry_properties no_parser target.Parser section.entries) from_property s gives
