use Rattle.std.proofs.Common.{ap, refl}
use Rattle.fwd_outside.specs.Files.{found}
use Rattle.fwd_keeper_mem.specs.KeeperState.{KeeperState}
use Rattle.fwd_files_mem.specs.FilesState.{FilesState}
use Rattle.fwd_files_mem.specs.MemFiles.{files_now}
use Rattle.fwd_replay.proofs.runs.initial_state.Goals as goal

pub returns-clause-first : goal.returns-clause-first
returns-clause-first c = record {
  finds = record {
    disk = c.new-disk.ensures.calls;
    has = λ path. ap (λ (h : FilesState). found (files_now h.given h.notes) path) c.new-files.ensures;
    unasked = ap (λ (h : FilesState). h.notes) c.new-files.ensures;
    kept_given = ap (λ (k : KeeperState). k.given) c.new-keeper.ensures;
    kept_unasked = ap (λ (k : KeeperState). k.notes) c.new-keeper.ensures;
  };
  cut = refl;
}
