use Rattle.std.proofs.Common.{arith, ◌≡◌, ℕ, ◌-◌, ◌+◌, Err, Ok, refl, subst}
use Rattle.std.specs.Prelude.{None}
use Rattle.fwd_model.specs.CallLogs.{CallLogs}
use Rattle.fwd_model.specs.Run.{run}
use Rattle.fwd_engine_state.specs.RefinesAction.{with_all}
use Rattle.fwd_engine_run.specs.OffsetRows.{with_keeper}
use Rattle.fwd_engine_run.specs.TurnsToLast.{LeadsBoth}
use Rattle.fwd_engine_run.proofs.EventCounts.{events_first, events_more}
use Rattle.fwd_engine_run.proofs.RunTurns.{none_left, spent}
use Rattle.fwd_engine_run.proofs.TurnsToLast.{both_stay, one_more, at_last}
use Rattle.fwd_engine_run.proofs.turns.turns.Goals as goal

pub returns-in-Ok-AtLast-clause-runs : goal.returns-in-Ok-AtLast-clause-runs
returns-in-Ok-AtLast-clause-runs g c others s h at keeps =
    let so_far = c.loop-taken.invariant.5 others s h at keeps in
    let turned = rw c.in-Ok-AtLast.field-0-is at
    (one_more _ _ _ s c.args.ticks c.args.most c.loop-taken.taken h so_far.0 c.turn.new.engine c.turn.new.offsets (Ok c.in-Ok-AtLast.field-0) c.loop-taken-test.true so_far.3
    (c.in-Ok-AtLast.ensures.goes (c.args.most - (c.loop-taken.taken + 1)) others s so_far.0 so_far.1 so_far.2)) in
    at_last _ _ s c.args.ticks c.args.most c.loop-taken.taken h c.turn.new.engine c.turn.new.offsets turned

pub returns-in-Ok-Over-clause-runs : goal.returns-in-Ok-Over-clause-runs
returns-in-Ok-Over-clause-runs g c others s h at keeps =
    let so_far = c.loop-taken.invariant.5 others s h at keeps in
    rw c.in-Ok-Over.field-0-is at
    (one_more _ _ _ s c.args.ticks c.args.most c.loop-taken.taken h so_far.0 c.turn.new.engine c.turn.new.offsets (Ok c.in-Ok-Over.field-0) c.loop-taken-test.true so_far.3
    (c.in-Ok-Over.ensures.goes (c.args.most - (c.loop-taken.taken + 1)) others s so_far.0 so_far.1 so_far.2))

pub returns-in-Err-LoopFault-clause-runs : goal.returns-in-Err-LoopFault-clause-runs
returns-in-Err-LoopFault-clause-runs g c others s h at keeps =
    let so_far = c.loop-taken.invariant.5 others s h at keeps in
    let turned = rw c.in-Err-LoopFault.field-0-is at
    (one_more _ _ _ s c.args.ticks c.args.most c.loop-taken.taken h so_far.0 c.turn.new.engine c.turn.new.offsets (Err c.in-Err-LoopFault.field-0) c.loop-taken-test.true so_far.3
    (c.in-Err-LoopFault.ensures.goes (c.args.most - (c.loop-taken.taken + 1)) others s so_far.0 so_far.1 so_far.2)) in
    (turned.0, tt, turned.1)

pub returns-in-Err-Memory-clause-runs : goal.returns-in-Err-Memory-clause-runs
returns-in-Err-Memory-clause-runs g c others s h at keeps =
    let so_far = c.loop-taken.invariant.5 others s h at keeps in
    rw c.in-Err-Memory.field-0-is at
    (one_more _ _ _ s c.args.ticks c.args.most c.loop-taken.taken h so_far.0 c.turn.new.engine c.turn.new.offsets (Err c.in-Err-Memory.field-0) c.loop-taken-test.true so_far.3
    (c.in-Err-Memory.ensures.goes (c.args.most - (c.loop-taken.taken + 1)) others s so_far.0 so_far.1 so_far.2))

pub loop-taken-preserved : goal.loop-taken-preserved
loop-taken-preserved g c = (
  events_more c.loop-taken.taken c.loop-taken.invariant.0 c.in-Ok-More.ensures.heard,
  (let x = c.loop-taken.invariant.1 in let y = c.in-Ok-More.ensures.cause.later in omega arith),
  (let x = c.loop-taken.invariant.2 in let y = c.in-Ok-More.ensures.disk_later in omega arith),
  (let x = c.loop-taken.invariant.3 in let y = c.in-Ok-More.ensures.files_later in omega arith),
  (let x = c.loop-taken.invariant.4 in let y = c.in-Ok-More.ensures.keeper_later in omega arith),
  λ others s h at keeps.
      let so_far = c.loop-taken.invariant.5 others s h at keeps in
      rw c.in-Ok-More.field-0-is at
      (one_more _ _ _ s c.args.ticks c.args.most c.loop-taken.taken h so_far.0 c.turn.new.engine c.turn.new.offsets (Ok c.in-Ok-More.field-0) c.loop-taken-test.true so_far.3
      (c.in-Ok-More.ensures.goes (c.args.most - (c.loop-taken.taken + 1)) others s so_far.0 so_far.1 so_far.2)),
)

pub returns-clause-runs : goal.returns-clause-runs
returns-clause-runs g c others s h at keeps =
    let so_far = c.loop-taken.invariant.5 others s h at keeps in
    (so_far.0, so_far.1, rw (none_left c.args.most c.loop-taken.taken c.loop-taken-test.false, spent s c.args.ticks so_far.0, spent s None so_far.0) at so_far.3)

pub loop-taken-init : goal.loop-taken-init
loop-taken-init g c = (
  events_first (g.L.Loop.counts c.args.outside.now),
  omega arith,
  omega arith,
  omega arith,
  omega arith,
  λ others s h at keeps.
      let a : CallLogs = with_all (g.L.Loop.call_log c.args.outside.now) (g.D.Disk.call_log c.args.disk.now) (g.F.Files.call_log c.args.files.now) (with_keeper (g.K.Keeper.call_log c.args.keeper.now) others) in
      let all : c.args.most ≡ c.args.most - 0 = omega arith in
      let p = run s c.args.ticks c.args.most h in
      let q = run s None c.args.most h in
      (h, at, keeps, subst (λ (k : ℕ). LeadsBoth a a p q (run s c.args.ticks k h) (run s None k h)) all (both_stay a p q p q refl refl)),
)
