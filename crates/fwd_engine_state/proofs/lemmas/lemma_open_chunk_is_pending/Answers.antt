use Rattle.std.proofs.Common.{sym, ◌∙◌}
use Rattle.fwd_engine_state.proofs.PendingRows.{has_owes}
use Rattle.fwd_engine_state.proofs.ChunksAndAttempts.{open_given}
use Rattle.fwd_engine_state.proofs.lemmas.lemma_open_chunk_is_pending.Goals as goal

pub returns-clause-given : goal.returns-clause-given
returns-clause-given c s state h out chunk before is = open_given h chunk before.numbers is

pub returns-clause-owed : goal.returns-clause-owed
returns-clause-owed c s state h out chunk before is = sym (has_owes s h chunk before.numbers) ∙ before.open_owed chunk is
