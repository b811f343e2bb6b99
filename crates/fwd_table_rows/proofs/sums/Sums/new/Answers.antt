use Rattle.fwd_table_rows.proofs.RowSums.{none_summed}
use Rattle.fwd_table_rows.proofs.sums.Sums.new.Goals as goal

pub returns : goal.returns
returns c = none_summed
