use Rattle.fwd_replay.proofs.RunStart.{on_ok}
use Rattle.fwd_replay.proofs.life.crash.Goals as goal

pub returns : goal.returns
returns c = on_ok c.renew_keeper.result (λ kept_again. (c.in_ok-crash_disk.ensures, c.in_ok-renew_files.ensures, kept_again)) c.renew_keeper.ensures
