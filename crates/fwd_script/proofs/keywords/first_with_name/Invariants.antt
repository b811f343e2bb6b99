use Rattle.std.proofs.Common.{◌≡◌, drop}
use Rattle.std.specs.List.{find}
use Rattle.fwd_script.specs.Keywords.{is_named}
use Rattle.fwd_script.proofs.keywords.first_with_name.Given as goal

abbrev pub invariant-loop-keyword : goal.invariant-loop-keyword
invariant-loop-keyword l = find (is_named l.word) l.keywords ≡ find (is_named l.word) (drop l.keyword-index l.keywords)
