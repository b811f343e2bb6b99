use Rattle.std.proofs.Common.{true, None}
use Rattle.fwd_outside.proofs.LogGrowth.{grew_none}
use Rattle.fwd_top.specs.Outcomes.{platform_of, world}
use Rattle.fwd_top.proofs.Writing.{still, heard_none, no_cause}
use Rattle.fwd_top.proofs.top.run_job.Goals as goal

pub returns-in-Run-clause-comes : goal.returns-in-Run-clause-comes
returns-in-Run-clause-comes g c = rw c.in-Run.is (c.run_live.ensures.life (world (platform_of None None None None true)))

pub returns-in-Run-clause-heard : goal.returns-in-Run-clause-heard
returns-in-Run-clause-heard g c = rw c.in-Run.is c.run_live.ensures.heard

pub returns-in-Run-clause-keeper_cause : goal.returns-in-Run-clause-keeper_cause
returns-in-Run-clause-keeper_cause g c = rw c.in-Run.is c.run_live.ensures.keeper_cause

pub returns-in-Run-clause-loop_cause : goal.returns-in-Run-clause-loop_cause
returns-in-Run-clause-loop_cause g c = rw c.in-Run.is c.run_live.ensures.loop_cause

pub returns-in-Run-clause-disk_cause : goal.returns-in-Run-clause-disk_cause
returns-in-Run-clause-disk_cause g c = rw c.in-Run.is c.run_live.ensures.disk_cause

pub returns-in-Record-clause-comes : goal.returns-in-Record-clause-comes
returns-in-Record-clause-comes g c = rw c.in-Record.is (c.run_recorded.ensures.life (world (platform_of None None None None true)))

pub returns-in-Record-clause-heard : goal.returns-in-Record-clause-heard
returns-in-Record-clause-heard g c = rw c.in-Record.is c.run_recorded.ensures.heard

pub returns-in-Record-clause-keeper_cause : goal.returns-in-Record-clause-keeper_cause
returns-in-Record-clause-keeper_cause g c = rw c.in-Record.is c.run_recorded.ensures.keeper_cause

pub returns-in-Record-clause-loop_cause : goal.returns-in-Record-clause-loop_cause
returns-in-Record-clause-loop_cause g c = rw c.in-Record.is c.run_recorded.ensures.loop_cause

pub returns-in-Record-clause-disk_cause : goal.returns-in-Record-clause-disk_cause
returns-in-Record-clause-disk_cause g c = rw c.in-Record.is c.run_recorded.ensures.disk_cause

pub returns-in-Replay-clause-comes : goal.returns-in-Replay-clause-comes
returns-in-Replay-clause-comes g c = rw c.in-Replay.is (record {
  replayed = c.replay.ensures;
  uncalled = still (platform_of (g.D.Disk.call_log c.args.disk.now) (g.F.Files.call_log c.args.files.now) (g.L.Loop.call_log c.args.outside.now) (g.K.Keeper.call_log c.args.keeper.now) (g.L.Loop.counts c.args.outside.now).endless);
})

pub returns-in-Replay-clause-heard : goal.returns-in-Replay-clause-heard
returns-in-Replay-clause-heard g c = rw c.in-Replay.is (heard_none (g.L.Loop.counts c.args.outside.now))

pub returns-in-Replay-clause-keeper_cause : goal.returns-in-Replay-clause-keeper_cause
returns-in-Replay-clause-keeper_cause g c = rw c.in-Replay.is (no_cause (g.K.Keeper.faults c.args.keeper.now) (λ none. none))

pub returns-in-Replay-clause-loop_cause : goal.returns-in-Replay-clause-loop_cause
returns-in-Replay-clause-loop_cause g c = rw c.in-Replay.is (no_cause (g.L.Loop.faults c.args.outside.now) (λ none. none))

pub returns-in-Replay-clause-disk_cause : goal.returns-in-Replay-clause-disk_cause
returns-in-Replay-clause-disk_cause g c = rw c.in-Replay.is (no_cause (g.D.Disk.faults c.args.disk.now) (λ none. none))

pub returns-in-Generate-clause-comes : goal.returns-in-Generate-clause-comes
returns-in-Generate-clause-comes g c = rw c.in-Generate.is (record {
  replayed = c.replay-in-Generate.ensures;
  uncalled = still (platform_of (g.D.Disk.call_log c.args.disk.now) (g.F.Files.call_log c.args.files.now) (g.L.Loop.call_log c.args.outside.now) (g.K.Keeper.call_log c.args.keeper.now) (g.L.Loop.counts c.args.outside.now).endless);
})

pub returns-in-Generate-clause-heard : goal.returns-in-Generate-clause-heard
returns-in-Generate-clause-heard g c = rw c.in-Generate.is (heard_none (g.L.Loop.counts c.args.outside.now))

pub returns-in-Generate-clause-keeper_cause : goal.returns-in-Generate-clause-keeper_cause
returns-in-Generate-clause-keeper_cause g c = rw c.in-Generate.is (no_cause (g.K.Keeper.faults c.args.keeper.now) (λ none. none))

pub returns-in-Generate-clause-loop_cause : goal.returns-in-Generate-clause-loop_cause
returns-in-Generate-clause-loop_cause g c = rw c.in-Generate.is (no_cause (g.L.Loop.faults c.args.outside.now) (λ none. none))

pub returns-in-Generate-clause-disk_cause : goal.returns-in-Generate-clause-disk_cause
returns-in-Generate-clause-disk_cause g c = rw c.in-Generate.is (no_cause (g.D.Disk.faults c.args.disk.now) (λ none. none))

pub returns-in-List-clause-comes : goal.returns-in-List-clause-comes
returns-in-List-clause-comes g c = rw c.in-List.is (record {
  listed = rw c.as_slice.ensures at c.list_folder.ensures.lists;
  files = grew_none (g.F.Files.call_log c.args.files.now);
  loop = grew_none (g.L.Loop.call_log c.args.outside.now);
  keeper = grew_none (g.K.Keeper.call_log c.args.keeper.now);
})
