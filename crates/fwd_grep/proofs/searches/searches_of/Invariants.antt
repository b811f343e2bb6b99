use Rattle.std.proofs.Common.{◌≡◌, map, take}
use Rattle.fwd_base.specs.Pattern.{search_expression}
use Rattle.fwd_grep.specs.Grep.{searched_pattern}
use Rattle.fwd_grep.proofs.searches.searches_of.Given as goal

abbrev pub invariant-loop-rule : goal.invariant-loop-rule
invariant-loop-rule l = map search_expression l.searches.items ≡ map searched_pattern (take l.rule-index l.rules)
