use Rattle.fwd_engine_run.proofs.OneOffset.{row_resumed}
use Rattle.fwd_engine_run.proofs.kept_offsets.KeptOffset.take_settled.Goals as goal

pub returns : goal.returns
returns c s h t at start path is = row_resumed s h t c.args.engine.now c.args.self.now c.settled-self.result at start path is c.settled-self.ensures
