use Rattle.std.proofs.Common.{◌≡◌, ◌<◌, ◌≤◌, true, false, Ok, sym, ap, ◌∙◌, arith}
use Rattle.serde_json.specs.Data.{members_depth}
use Rattle.fwd_value.specs.Limits.{entry_nestings}
use Rattle.fwd_value.specs.Val.{entries_of}
use Rattle.fwd_value.specs.View.{val_of}
use Rattle.fwd_json.specs.LinePairs.{are_readable, object_pairs}
use Rattle.fwd_json.proofs.ObjectPairs.{pairs_or-not_whole, pairs_or-too_deep, pairs_or-ok}
use Rattle.fwd_json.proofs.WholeValues.{from_map, entries_depth, entries_of-pairs_of, readable_pairs}
use Rattle.fwd_json.proofs.reading.object_pairs.Goals as goal

pub returns-then-not-are_readable-clause-refused : goal.returns-then-not-are_readable-clause-refused
returns-then-not-are_readable-clause-refused c = λ d e.
    let m = from_map d c.in-Map.pairs (e ∙ ap val_of c.in-Map.is) in
    let no_floats : are_readable c.args.floats m.0 ≡ false = grind (arith, c.are_readable.ensures m.0 m.2) in
    ap (object_pairs c.args.floats) m.1 ∙ pairs_or-not_whole c.args.floats m.0 no_floats

pub returns-then-not-nest_within-clause-refused : goal.returns-then-not-nest_within-clause-refused
returns-then-not-nest_within-clause-refused c = λ d e.
    let m = from_map d c.in-Map.pairs (e ∙ ap val_of c.in-Map.is) in
    let readable : are_readable c.args.floats m.0 ≡ true = grind (arith, c.are_readable.ensures m.0 m.2) in
    let same : entry_nestings (entries_of c.in-Map.pairs) ≡ members_depth m.0 = ap (λ ps. entry_nestings (entries_of ps)) (sym m.2) ∙ ap entry_nestings (entries_of-pairs_of m.0) ∙ entries_depth m.0 in
    let deep : 62 < members_depth m.0 = grind (arith, c.nest_within.ensures, same) in
    ap (object_pairs c.args.floats) m.1 ∙ pairs_or-too_deep c.args.floats m.0 readable deep

pub returns-clause-pairs : goal.returns-clause-pairs
returns-clause-pairs c = λ d e.
    let m = from_map d c.in-Map.pairs (e ∙ ap val_of c.in-Map.is) in
    let readable : are_readable c.args.floats m.0 ≡ true = grind (arith, c.are_readable.ensures m.0 m.2) in
    let same : entry_nestings (entries_of c.in-Map.pairs) ≡ members_depth m.0 = ap (λ ps. entry_nestings (entries_of ps)) (sym m.2) ∙ ap entry_nestings (entries_of-pairs_of m.0) ∙ entries_depth m.0 in
    let shallow : members_depth m.0 ≤ 62 = grind (arith, c.nest_within.ensures, same) in
    ap (object_pairs c.args.floats) m.1 ∙ pairs_or-ok c.args.floats m.0 readable shallow ∙ ap Ok (sym (readable_pairs c.args.floats m.0 readable) ∙ m.2)
