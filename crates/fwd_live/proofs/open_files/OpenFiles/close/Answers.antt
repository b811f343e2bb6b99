use Rattle.std.proofs.Common.{rules, ◌≢◌}
use Rattle.std.proofs.lemmas.Fn.{All-from_retain}
use Rattle.fwd_live.specs.declared.open_files.OpenFile.{OpenFile}
use Rattle.fwd_live.proofs.open_files.OpenFiles.close.Goals as goal

pub returns : goal.returns
returns c = All-from_retain _ (λ (it : OpenFile). it.name ≢ c.args.name.now) _ (λ x b f' k. search rules) _ _ c.retain.ensures.filtered
