use Rattle.std.proofs.Common.{ℕ, List, ap, ◌∙◌}
use Rattle.std.specs.Str.{str_eq_ignore_ascii_case}
use Rattle.fwd_settings_schema.proofs.keys.Key.is_named.Goals as goal

pub returns : goal.returns
returns c = c.same_name.ensures ∙ ap (λ (l : List ℕ). str_eq_ignore_ascii_case l c.args.name.now) c.name.ensures
