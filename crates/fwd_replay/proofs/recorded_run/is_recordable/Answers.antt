use Rattle.std.proofs.Common.{Bool, ◌&&◌, not, ap, ◌∙◌}
use Rattle.fwd_table.specs.declared.tally.Tally.{Tally}
use Rattle.fwd_replay.specs.RecordedParts.{counts_nothing}
use Rattle.fwd_replay.proofs.FoundNothing.{found_nothing}
use Rattle.fwd_replay.proofs.recorded_run.is_recordable.Goals as goal

pub returns : goal.returns
returns c = λ s h at loading.
    c.is_plain.ensures
    ∙ ap (λ (b : Bool). not c.args.tailed && b) (c.counts_nothing-nothing.ensures ∙ ap (λ (t : Tally). counts_nothing t) (c.tally.ensures s h at) ∙ found_nothing s h loading)
