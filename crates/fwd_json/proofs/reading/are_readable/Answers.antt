use Rattle.std.proofs.Common.{sym, ap, ◌∙◌}
use Rattle.fwd_value.specs.Val.{entries_of}
use Rattle.fwd_json.specs.LinePairs.{are_readable}
use Rattle.fwd_json.specs.WholeVal.{entries_have_no_float}
use Rattle.fwd_json.proofs.WholeValues.{entries_of-pairs_of, entries_are_whole}
use Rattle.fwd_json.proofs.reading.are_readable.Goals as goal

pub returns-in-Tagged : goal.returns-in-Tagged
returns-in-Tagged c = λ ms is.
    c.pairs_are_whole.ensures ∙ ap (λ ps. entries_have_no_float (entries_of ps)) (c.as_slice.ensures ∙ sym is)
    ∙ ap entries_have_no_float (entries_of-pairs_of ms) ∙ entries_are_whole ms ∙ sym (ap (λ floats. are_readable floats ms) c.in-Tagged.is)
