use Rattle.fwd_engine_settings.proofs.GlobMatch.{is_globs}
use Rattle.fwd_engine_settings.proofs.run_settings.glob_matches.Goals as goal

pub returns : goal.returns
returns c = is_globs c.matches.result c.args.output.now.glob c.args.tag.now (rw (← c.as_slice.ensures) c.matches.ensures)
