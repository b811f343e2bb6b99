use Rattle.std.proofs.Common.{◌≡◌, true, map, take}
use Rattle.std.specs.List.{list_all}
use Rattle.fwd_base.specs.Pattern.{search_expression}
use Rattle.fwd_grep.specs.Grep.{passes, searched_pattern}
use Rattle.fwd_grep.proofs.searches.all_pass.Given as goal

abbrev pub invariant-loop-i : goal.invariant-loop-i
invariant-loop-i l = record {
  kept : list_all (passes l.body) (take l.i l.rules) ≡ true;
  same : map search_expression l.searches.items ≡ map searched_pattern l.rules;
}
