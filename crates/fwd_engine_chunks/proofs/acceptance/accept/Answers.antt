use Rattle.fwd_model.proofs.Actions.{stays}
use Rattle.fwd_model.proofs.Refinement.{refines_err}
use Rattle.fwd_engine_chunks.proofs.EncodingLemmas.{short_bytes}
use Rattle.fwd_engine_chunks.proofs.StoreOutcome.{RepresentsBatch}
use Rattle.fwd_engine_chunks.proofs.acceptance.accept.Goals as goal

pub accept_encoded-requires-clause-short : goal.accept_encoded-requires-clause-short
accept_encoded-requires-clause-short g c = short_bytes c.args.events.now _ c.in_ok-batch.ensures

pub returns-in_err-batch-clause-acts : goal.returns-in_err-batch-clause-acts
returns-in_err-batch-clause-acts g c others h shows = refines_err (RepresentsBatch c.args.run.now _) _ c.from_residual.result c.from_residual.ensures.0 (_, stays _ _)

pub returns-clause-acts : goal.returns-clause-acts
returns-clause-acts g c others h shows = c.accept_encoded.ensures.acts c.args.events.now c.in_ok-batch.ensures others h shows
