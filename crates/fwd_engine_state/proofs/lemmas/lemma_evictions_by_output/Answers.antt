use Rattle.fwd_engine_state.proofs.EvictionsByOutput.{all_lost, none_lost, unlimited, fits_in_turn, new_in_turn, lose_in_turn}
use Rattle.fwd_engine_state.proofs.lemmas.lemma_evictions_by_output.Goals as goal

pub returns-clause-all : goal.returns-clause-all
returns-clause-all c = all_lost

pub returns-clause-none : goal.returns-clause-none
returns-clause-none c = none_lost

pub returns-clause-unlimited : goal.returns-clause-unlimited
returns-clause-unlimited c = unlimited

pub returns-clause-fits : goal.returns-clause-fits
returns-clause-fits c s state h out output limit chunk outputs before limited is = fits_in_turn s h output limit chunk outputs before.numbers limited is

pub returns-clause-new : goal.returns-clause-new
returns-clause-new c s state h out output limit chunk outputs before limited waits is = new_in_turn s h output limit chunk outputs before.numbers limited waits is

pub returns-clause-lose : goal.returns-clause-lose
returns-clause-lose c s state h out output limit chunk first outputs before limited waits is = lose_in_turn s h output limit chunk outputs before.numbers limited first waits is
