use Rattle.fwd_replay.proofs.NameCounts.{inputs_told, outputs_told}
use Rattle.fwd_replay.proofs.report.report_text.Goals as goal

pub report-requires-clause-inputs : goal.report-requires-clause-inputs
report-requires-clause-inputs c = inputs_told c.requires.settings c.requires.history _ _ (c.tally.ensures c.requires.settings c.requires.history c.requires.at) c.requires.is.inputs

pub report-requires-clause-outputs : goal.report-requires-clause-outputs
report-requires-clause-outputs c = outputs_told c.requires.settings c.requires.history _ _ (c.tally.ensures c.requires.settings c.requires.history c.requires.at) c.requires.is.outputs
