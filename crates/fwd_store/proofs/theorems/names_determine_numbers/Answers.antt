use Rattle.fwd_chunk.proofs.Digits.{same_name}
use Rattle.fwd_store.proofs.OwnFile.{own_file, next_is_new}
use Rattle.fwd_store.proofs.theorems.names_determine_numbers.Goals as goal

pub returns-clause-names : goal.returns-clause-names
returns-clause-names c = same_name

pub returns-clause-held : goal.returns-clause-held
returns-clause-held c = own_file

pub returns-clause-next : goal.returns-clause-next
returns-clause-next c = next_is_new
