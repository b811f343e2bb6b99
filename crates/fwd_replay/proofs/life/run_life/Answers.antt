use Rattle.std.proofs.Common.{[], subst, sym}
use Rattle.fwd_model.specs.Fact.{History}
use Rattle.fwd_model.specs.Run.{DiskFailed, KeeperFailed, lived}
use Rattle.fwd_replay.specs.RunState.{EndedAs, ProducesOutcome}
use Rattle.fwd_replay.specs.declared.life.Outcome.{Outcome}
use Rattle.fwd_replay.proofs.Handover.{get_ends, load_ends}
use Rattle.fwd_replay.proofs.life.run_life.Goals as goal

pub run_with_loop-requires-clause-begun : goal.run_with_loop-requires-clause-begun
run_with_loop-requires-clause-begun g c =
    let finds = c.requires.finds in
    let begun = c.in-Ok.ensures finds.0 c.args.life.now c.set_up.new.files (c.in_ok-set_up.ensures finds.0 c.args.keeper.now finds.1) in
    λ κs below. (c.args.settings, finds.0, begun.0, c.requires.named, begun.1, c.in_ok-keys.ensures, c.in_ok-ends.ensures)

pub returns-in-Err-DiskFailed : goal.returns-in-Err-DiskFailed
returns-in-Err-DiskFailed g c begins finds =
    let ready = c.in_ok-set_up.ensures begins c.args.keeper.now finds in
    let ended : EndedAs c.args.settings begins c.args.life.now (lived [] DiskFailed) = rw c.in-Err-DiskFailed.field-0-is at (c.in-Err-DiskFailed.ensures begins c.args.life.now c.set_up.new.files ready) in
    subst (λ (x : Outcome). ProducesOutcome c.args.named.now.shown c.args.settings c.args.most begins c.args.life.now c.begin.new.disk c.set_up.new.files c.begin.new.keeper x) (sym c.failed_start.ensures)
    (load_ends c.args.settings begins c.args.life.now c.args.named.now.shown c.args.most ended)

pub returns-in-Err-KeeperFailed : goal.returns-in-Err-KeeperFailed
returns-in-Err-KeeperFailed g c begins finds =
    let ready = c.in_ok-set_up.ensures begins c.args.keeper.now finds in
    let ended : (h : History) × EndedAs c.args.settings begins c.args.life.now (lived h KeeperFailed) = rw c.in-Err-KeeperFailed.field-0-is at (c.in-Err-KeeperFailed.ensures begins c.args.life.now c.set_up.new.files ready) in
    subst (λ (x : Outcome). ProducesOutcome c.args.named.now.shown c.args.settings c.args.most begins c.args.life.now c.begin.new.disk c.set_up.new.files c.begin.new.keeper x) (sym c.failed_start-in-Err-KeeperFailed.ensures)
    (get_ends c.args.settings begins c.args.life.now c.args.named.now.shown c.args.most ended.0 ended.1)

pub returns-in-Ok : goal.returns-in-Ok
returns-in-Ok g c begins finds =
    let begun = c.in-Ok.ensures begins c.args.life.now c.set_up.new.files (c.in_ok-set_up.ensures begins c.args.keeper.now finds) in
    c.run_with_loop.ensures c.args.settings begins begun.0 c.requires.named begun.1 c.in_ok-keys.ensures c.in_ok-ends.ensures
