use Rattle.std.proofs.Common.{◌≡◌, ℕ, List, ◌++◌, drop, map}
use Rattle.regex.specs.Patterns.{Match}
use Rattle.regex.specs.Names.{names_of}
use Rattle.regex.specs.Bytes.{IsCapturesOf}
use Rattle.fwd_base.specs.Pattern.{captures_from, captures_of, captured}
use Rattle.fwd_base.proofs.search.named_captures.Given as goal

abbrev pub invariant-loop-n : goal.invariant-loop-n
invariant-loop-n l =
    (text : List ℕ) (m : Match) → IsCapturesOf text m l.captures → map captured l.named.items ++ captures_from text m l.n (drop l.n (names_of l.names)) ≡ captures_of (names_of l.names) text m
