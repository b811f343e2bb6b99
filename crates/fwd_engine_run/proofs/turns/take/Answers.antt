use Rattle.std.proofs.Common.{Ok, sym}
use Rattle.fwd_model.specs.CallLogs.{CallLogs}
use Rattle.fwd_model.specs.Run.{goes_on, run, unless_last}
use Rattle.fwd_engine_state.specs.RefinesAction.{with_all}
use Rattle.fwd_engine.specs.EngineSteps.{Steps}
use Rattle.fwd_engine.specs.declared.engine.Turn.TheVariants as turn
use Rattle.fwd_engine_run.specs.OffsetRows.{with_keeper}
use Rattle.fwd_engine_run.proofs.OffsetActions.{is_done}
use Rattle.fwd_engine_run.proofs.RunTurns.{keeps_stepped}
use Rattle.fwd_engine_run.proofs.TurnsToLast.{taken_more, taken_over, put_begun, not_taken}
use Rattle.fwd_engine_run.proofs.turns.take.Goals as goal

pub returns-in-More-clause-goes : goal.returns-in-More-clause-goes
returns-in-More-clause-goes g c left others s h at keeps =
    let x = c.args.happening in
    let kept : CallLogs = with_keeper (g.K.Keeper.call_log c.args.keeper.now) others in
    let a : CallLogs = with_all (g.L.Loop.call_log c.args.outside.now) (g.D.Disk.call_log c.args.disk.now) (g.F.Files.call_log c.args.files.now) kept in
    let stepped : CallLogs = with_all (g.L.Loop.call_log c.step.new.outside) (g.D.Disk.call_log c.step.new.disk) (g.F.Files.call_log c.step.new.files) others in
    let b : CallLogs = with_keeper (g.K.Keeper.call_log c.args.keeper.now) stepped in
    let w : CallLogs = with_keeper (g.K.Keeper.call_log c.put.new.keeper) stepped in
    let steps : Steps a b s h x c.step.new.self (Ok turn.More) = rw c.in-More.is at (c.in-Ok.ensures.steps kept s h at) in
    let put = c.in-Ok-put.ensures.puts stepped s steps.1.history is_done steps.1.at (keeps_stepped s c.args.offsets.now h x c.step.new.self turn.More steps.1 keeps) in
    taken_more a b s c.args.ticks left h c.step.new.self x w c.put.new.self steps put c.end_of_turn.result (c.end_of_turn.ensures.last x (sym c.is_clock_tick-reads.ensures) s put.0 put.1)

pub returns-in-Over-clause-goes : goal.returns-in-Over-clause-goes
returns-in-Over-clause-goes g c left others s h at keeps =
    let x = c.args.happening in
    let kept : CallLogs = with_keeper (g.K.Keeper.call_log c.args.keeper.now) others in
    let a : CallLogs = with_all (g.L.Loop.call_log c.args.outside.now) (g.D.Disk.call_log c.args.disk.now) (g.F.Files.call_log c.args.files.now) kept in
    let stepped : CallLogs = with_all (g.L.Loop.call_log c.step.new.outside) (g.D.Disk.call_log c.step.new.disk) (g.F.Files.call_log c.step.new.files) others in
    let b : CallLogs = with_keeper (g.K.Keeper.call_log c.args.keeper.now) stepped in
    let w : CallLogs = with_keeper (g.K.Keeper.call_log c.put.new.keeper) stepped in
    let steps : Steps a b s h x c.step.new.self (Ok turn.Over) = rw c.in-Over.is at (c.in-Ok.ensures.steps kept s h at) in
    let put = c.in-Ok-put.ensures.puts stepped s steps.1.history is_done steps.1.at (keeps_stepped s c.args.offsets.now h x c.step.new.self turn.Over steps.1 keeps) in
    taken_over a b s c.args.ticks left h c.step.new.self x w c.put.new.self steps put

pub returns-in-Err-put-clause-goes : goal.returns-in-Err-put-clause-goes
returns-in-Err-put-clause-goes g c left others s h at keeps =
    let x = c.args.happening in
    let kept : CallLogs = with_keeper (g.K.Keeper.call_log c.args.keeper.now) others in
    let a : CallLogs = with_all (g.L.Loop.call_log c.args.outside.now) (g.D.Disk.call_log c.args.disk.now) (g.F.Files.call_log c.args.files.now) kept in
    let stepped : CallLogs = with_all (g.L.Loop.call_log c.step.new.outside) (g.D.Disk.call_log c.step.new.disk) (g.F.Files.call_log c.step.new.files) others in
    let b : CallLogs = with_keeper (g.K.Keeper.call_log c.args.keeper.now) stepped in
    let w : CallLogs = with_keeper (g.K.Keeper.call_log c.put.new.keeper) stepped in
    let steps : Steps a b s h x c.step.new.self (Ok c.in-Ok.turn) = c.in-Ok.ensures.steps kept s h at in
    put_begun a b s c.args.ticks left h c.step.new.self x w c.in-Ok.turn steps
    (c.in-Err-put.ensures.puts stepped s steps.1.history (goes_on s (unless_last s c.args.ticks (run s c.args.ticks left) x) x) steps.1.at (keeps_stepped s c.args.offsets.now h x c.step.new.self c.in-Ok.turn steps.1 keeps))

pub returns-in-Err-clause-goes : goal.returns-in-Err-clause-goes
returns-in-Err-clause-goes g c left others s h at keeps =
    not_taken _ _ s c.args.ticks left h c.step.new.self c.args.happening c.args.offsets.now c.in-Err.fault (c.in-Err.ensures.steps (with_keeper (g.K.Keeper.call_log c.args.keeper.now) others) s h at)
