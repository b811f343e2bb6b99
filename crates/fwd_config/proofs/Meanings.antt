-- The meaning of accepted lines.
use Rattle.std.proofs.Common.{◌≡◌, ℕ, ◌<◌, false, eqb, List, [], ◌∷◌, length, refl, ap, ◌∙◌, arith}
use mathlib.Core.Path.{fun_ext}
use Rattle.fwd_config.specs.Line.{Setting, Pair}
use Rattle.fwd_config.specs.Variables.{Values, replace_variables, has_open_brace}
use Rattle.fwd_config.specs.Text.{Text, Variable, EntryItem, values_after, sections_of, entry}
use Rattle.fwd_config.specs.Meaning.{meaning, Adds}
use Rattle.fwd_config.specs.Representation.{OutlineRepresents, value_of}
use Rattle.fwd_config.specs.declared.section.Place.{Place}
use Rattle.fwd_config.specs.declared.outline.Outline.{Outline}

-- a text that was replaced by the outline's variables is replaced by the values at this place
replace_variables_at : (env : Values) (above : Text) (outline : Outline) → OutlineRepresents env above outline → (value text : List ℕ) → text ≡ replace_variables (value_of outline.variables) value → text ≡ replace_variables (values_after env above) value
replace_variables_at env above outline shows value text is = is ∙ ap (λ (f : Values). replace_variables f value) (fun_ext shows.values)

pub setting_means : (env : Values) (left : ℕ) (place : Place) (above : Text) (outline : Outline) → OutlineRepresents env above outline → (name value text : List ℕ) → has_open_brace value ≡ false
    → text ≡ replace_variables (value_of outline.variables) value → meaning env left place above (Setting name value) ≡ Adds (Variable name text ∷ [])
setting_means env left place above outline shows name value text closed is = rw (closed, replace_variables_at env above outline shows value text is) refl

pub pair_means : (env : Values) (left : ℕ) (place : Place) (above : Text) (outline : Outline) → OutlineRepresents env above outline → (key value text : List ℕ) → 0 < length (sections_of above) → 0 < length value
    → has_open_brace value ≡ false → text ≡ replace_variables (value_of outline.variables) value → meaning env left place above (Pair key value) ≡ Adds (EntryItem (entry key text place) ∷ [])
pair_means env left place above outline shows key value text begun some closed is =
    let begun_test : eqb (length (sections_of above)) 0 ≡ false = grind arith in
    let some_test : eqb (length value) 0 ≡ false = grind arith in
    rw (begun_test, some_test, closed, replace_variables_at env above outline shows value text is) refl
