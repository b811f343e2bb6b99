use Rattle.fwd_settings.specs.declared.settings_types.AllSettings.{AllSettings}
use Rattle.fwd_model.specs.Fact.{History}
use Rattle.fwd_model.specs.Settings.{paths_at}
use Rattle.fwd_engine_inputs.specs.FilesRepresent.{FilesRepresent, resumed_history}
use Rattle.fwd_engine_inputs.proofs.followed_files.FollowedFiles.resume.Given as goal

-- the files below the index have been resumed
abbrev pub invariant-loop-index : goal.invariant-loop-index
invariant-loop-index l = (s : AllSettings) (h : History) → FilesRepresent s l.initial.self h → FilesRepresent s l.self (resumed_history l.input.0 l.path l.place (paths_at s l.input.0) l.index h)
