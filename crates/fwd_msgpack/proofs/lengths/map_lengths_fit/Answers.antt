use Rattle.std.proofs.Common.{◌≡◌, ◌∙◌, ◌<◌, ◌^◌, sym, arith}
use Rattle.fwd_value.specs.Val.{entries_of}
use Rattle.fwd_value.specs.Limits.{entry_count}
use Rattle.fwd_msgpack.proofs.EncodeLoops.{how_many_entries_is}
use Rattle.fwd_msgpack.proofs.lengths.map_lengths_fit.Goals as goal

pub returns-then-has_length_form : goal.returns-then-has_length_form
returns-then-has_length_form c =
    let n : entry_count (entries_of c.args.pairs.now) ≡ c.len.result = how_many_entries_is c.args.pairs.now ∙ sym c.len.ensures in
    let lt : c.len.result < 2 ^ 32 = c.has_length_form.ensures.0 c.if-has_length_form.true in
    (λ h. (omega (arith, n, lt), rw c.as_slice.ensures at (c.entry_lengths_fit.ensures.0 h)), λ h. c.entry_lengths_fit.ensures.1 (rw c.as_slice.ensures h.1))

pub returns-else-has_length_form : goal.returns-else-has_length_form
returns-else-has_length_form c =
    let n : entry_count (entries_of c.args.pairs.now) ≡ c.len.result = how_many_entries_is c.args.pairs.now ∙ sym c.len.ensures in
    (λ h. absurd cc, λ h. c.has_length_form.ensures.1 (omega (arith, h.0, n)))
