-- What is read of a section, from what is read of its parts; and sections, one after another.
use Rattle.std.proofs.Common.{◌≡◌, ℕ, suc, ◌+◌, ◌<◌, ◌≤◌, Bool, List, ◌∷◌, length, drop, get_or, Result, Ok, Err, refl, sym, ap, subst, ◌∙◌, add-one, drop-cons}
use Rattle.std.proofs.lemmas.List.{drop_all}
use Rattle.fwd_config.specs.declared.section.Section.{Section}
use Rattle.fwd_settings_entries.specs.declared.read_err.ReadErr.{ReadErr}
use Rattle.fwd_settings_entries.specs.declared.read_err.ReadErr.TheVariants as read_err
use Rattle.fwd_settings.specs.declared.sections.PartialSettings.{PartialSettings}
use Rattle.fwd_settings_entries.specs.Reading.{Reading, Checked, ◌>>=◌, known, IsResult, ReturnsResult}
use Rattle.fwd_settings.specs.Settings.{nothing, part_of, entries_here, with_target, with_section, with_sections}
use Rattle.fwd_settings_entries.proofs.Readings.{result_then, result_refused, returns_then, returns_refused}
use Rattle.fwd_settings_schema.specs.declared.section_kind.Target.{Target}
use Rattle.fwd_settings_schema.specs.declared.properties.Property.{Property}
use Rattle.fwd_settings_entries.specs.Values.{entry_properties}
use Rattle.fwd_settings_entries.specs.Parsers.{parser_named}
use Rattle.fwd_settings.specs.Floats.{floats_in}

module _ (all : List Section) (path : Bool) (s : PartialSettings) (section : Section) where
  abbrev with_property : Target → List Property → Reading PartialSettings
  with_property p properties = known (with_target path s p section.place properties)

  abbrev with_part : Target → Reading PartialSettings
  with_part p = entry_properties (parser_named all) p (entries_here p section.entries) >>= with_property p

  pub no_part : (err : ReadErr) → ReturnsResult (known (part_of s section)) (Err err) → ReturnsResult (with_section all path s section) (Err err)
  no_part err gives = returns_refused (known (part_of s section)) with_part err gives

  module _ (p : Target) (is : IsResult (known (part_of s section)) (Ok p)) where
    pub no_entries : (err : ReadErr) → ReturnsResult (entry_properties (parser_named all) p (entries_here p section.entries)) (Err err) → ReturnsResult (with_section all path s section) (Err err)
    no_entries err gives =
        returns_then (known (part_of s section)) with_part p (Err err) is
        (returns_refused (entry_properties (parser_named all) p (entries_here p section.entries)) (with_property p) err gives)

    pub with_entries : (properties : List Property) (r : Result PartialSettings ReadErr) → IsResult (entry_properties (parser_named all) p (entries_here p section.entries)) (Ok properties) → ReturnsResult (known (with_target path s p section.place properties)) r
        → ReturnsResult (with_section all path s section) r
    with_entries properties r comes gives =
        returns_then (known (part_of s section)) with_part p r is
        (returns_then (entry_properties (parser_named all) p (entries_here p section.entries)) (with_property p) properties r comes gives)

module _ (all : List Section) (path : Bool) where
  -- what the rest comes to, from the settings so far, is what all come to
  abbrev pub CheckedFrom : ℕ → PartialSettings → Type 0
  CheckedFrom i partial = (result : Checked PartialSettings) → IsResult (with_sections all path partial (drop i all)) result → IsResult (with_sections all path (nothing (floats_in all)) all) result

  pub checked_from_start : (partial : PartialSettings) → partial ≡ nothing (floats_in all) → CheckedFrom 0 partial
  checked_from_start partial none result comes = subst (λ (s : PartialSettings). IsResult (with_sections all path s all) result) none comes

  module _ (i : ℕ) (section : Section) (here : i < length all) (is : section ≡ get_or all i section) (partial : PartialSettings) (leads : CheckedFrom i partial) where
    cut : drop i all ≡ section ∷ drop (i + 1) all
    cut = rw (add-one) (drop-cons all i section here ∙ ap (λ (x : Section). x ∷ drop (suc i) all) (sym is))

    from_here : (result : Checked PartialSettings) → IsResult (with_section all path partial section >>= (λ s. with_sections all path s (drop (i + 1) all))) result
        → IsResult (with_sections all path partial (drop i all)) result
    unfolding with_sections
    from_here result comes = subst (λ (l : List Section). IsResult (with_sections all path partial l) result) (sym cut) comes

    pub checked_from_next : (new : PartialSettings) → IsResult (with_section all path partial section) (Ok new) → CheckedFrom (i + 1) new
    checked_from_next new one result rest =
        leads result (from_here result (result_then (with_section all path partial section) (λ s. with_sections all path s (drop (i + 1) all)) new result one rest))

    pub checked_from_refused : (s : ReadErr) → ReturnsResult (with_section all path partial section) (Err s) → ReturnsResult (with_sections all path (nothing (floats_in all)) all) (Err s)
    checked_from_refused read_err.Memory refused = tt
    checked_from_refused (read_err.Refused refusal) refused =
        leads (Err refusal) (from_here (Err refusal) (result_refused (with_section all path partial section) (λ s. with_sections all path s (drop (i + 1) all)) refusal refused))

  pub checked_from_end : (i : ℕ) (partial : PartialSettings) → length all ≤ i → CheckedFrom i partial → IsResult (with_sections all path (nothing (floats_in all)) all) (Ok partial)
  unfolding with_sections
  checked_from_end i partial done leads = leads (Ok partial) (subst (λ (l : List Section). IsResult (with_sections all path partial l) (Ok partial)) (sym (drop_all i all done)) refl)
