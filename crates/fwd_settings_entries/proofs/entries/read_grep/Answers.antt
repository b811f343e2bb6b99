use Rattle.std.proofs.Common.{◌≡◌, ℕ, Bool, List, Option, Some, Result, subst, sym, ap, ◌∙◌}
use Rattle.fwd_settings_values.specs.Rule.{key_and_rest_of}
use Rattle.fwd_config.specs.declared.section.Place.{Place}
use Rattle.fwd_settings_entries.specs.declared.read_err.ReadErr.{ReadErr}
use Rattle.fwd_settings_schema.specs.declared.properties.Value.{Value}
use Rattle.fwd_settings_entries.specs.Reading.{ReturnsResult}
use Rattle.fwd_settings_entries.specs.Values.{grep_of}
use Rattle.fwd_settings_entries.proofs.entries.read_grep.Goals as goal

of_parts : (exclude : Bool) (place : Place) (parts : Option (List ℕ × List ℕ)) (key text given : List ℕ) (r : Result Value ReadErr) → parts ≡ Some (key, text) → given ≡ text → ReturnsResult (grep_of exclude place (Some (key, given))) r → ReturnsResult (grep_of exclude place parts) r
of_parts exclude place parts key text given r is same gives =
    subst (λ (o : Option (List ℕ × List ℕ)). ReturnsResult (grep_of exclude place o) r) (ap (λ (t : List ℕ). Some (key, t)) same ∙ sym is) gives

pub returns-in-Some : goal.returns-in-Some
returns-in-Some c =
    let parts : key_and_rest_of c.args.entry.now.value ≡ Some (c.in-Some.key, c.in-Some.text) =
    ap key_and_rest_of (sym c.as_slice.ensures) ∙ sym c.in_ok-key.ensures ∙ c.in-Some.is in
    of_parts c.args.exclude c.args.entry.now.place (key_and_rest_of c.args.entry.now.value) c.in-Some.key c.in-Some.text c.as_slice-in-Some.result.now c.build_grep_rule.result parts c.as_slice-in-Some.ensures c.build_grep_rule.ensures
