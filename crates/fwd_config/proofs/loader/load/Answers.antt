use Rattle.fwd_config.specs.Variables.{environment}
use Rattle.fwd_config.proofs.StableFiles.{result_of_files}
use Rattle.fwd_config.proofs.loader.load.Goals as goal

pub returns-clause-meaning : goal.returns-clause-meaning
returns-clause-meaning g c = result_of_files _ _ c.args.path.now (environment c.args.env.now) c.read_all.result c.read_all.ensures.calls
