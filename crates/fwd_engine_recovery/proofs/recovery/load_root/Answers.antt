use Rattle.fwd_backlog.specs.declared.error.LoadErr.TheVariants.{Memory}
use Rattle.fwd_engine_recovery.proofs.LoadCalls.{loaded_all, loaded_some, answered, not_loaded}
use Rattle.fwd_engine_recovery.proofs.recovery.load_root.Goals as goal

pub returns-in_err-backlog-clause-acts : goal.returns-in_err-backlog-clause-acts
returns-in_err-backlog-clause-acts g c others =
    answered c.args.run.now _ _ c.from_residual.result c.in_err-backlog.field-0.0 c.from_residual.ensures.1
    (not_loaded others _ _ c.args.run.now c.args.root.now c.in_err-backlog.field-0.0 c.requires.root c.in_err-backlog.ensures.loaded)

pub returns-in_err-taken-clause-acts : goal.returns-in_err-taken-clause-acts
returns-in_err-taken-clause-acts g c others =
    let loaded = c.in_ok-backlog.ensures.loaded in
    answered c.args.run.now _ _ c.from_residual-in_err-taken.result Memory c.from_residual-in_err-taken.ensures.1
    (loaded_some others _ _ c.args.run.now c.args.root.now loaded.0 c.requires.root loaded.1)

pub returns-clause-acts : goal.returns-clause-acts
returns-clause-acts g c others =
    let loaded = c.in_ok-backlog.ensures.loaded in
    record {
      history = _;
      did = loaded_all others _ _ c.args.run.now c.args.root.now loaded.0 c.requires.root loaded.1;
      shows = c.in_ok-taken.ensures loaded.0 loaded.2;
    }
