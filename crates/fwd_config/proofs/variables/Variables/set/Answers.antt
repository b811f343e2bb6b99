use Rattle.std.proofs.Common.{List, ℕ, Option, Some, [], unwrap_or, ap, ◌∙◌}
use Rattle.std.specs.Str.{bytes_eq}
use Rattle.fwd_config.proofs.ByteMaps.{vec_key_updates, value_by_test}
use Rattle.fwd_config.proofs.variables.Variables.set.Goals as goal

pub returns : goal.returns
returns c = λ other.
    let found = vec_key_updates c.in_ok-name.name.items c.args.self.now.values c.insert.new.self (Some c.args.value) c.in_ok-insert.ensures.updates other in
    rw (← c.in_ok-name.ensures.items) (ap (λ (o : Option (List ℕ)). unwrap_or o []) found ∙ value_by_test (bytes_eq c.in_ok-name.name.items other) c.args.value _)
