use Rattle.std.proofs.Common.{rules, Some, None}
use Rattle.fwd_keeper_mem.specs.KeeperState.{KeeperState}
use Rattle.fwd_keeper_mem.proofs.NotesKept.{calls_le, get_kept, logs_get}
use Rattle.fwd_keeper_mem.proofs.mem_keeper.MemKeeperKeeper.get.Goals as goal

pub invariant_of-self-in-Some : goal.invariant_of-self-in-Some
invariant_of-self-in-Some c =
    let held : KeeperState = record { given = c.self.inside.given.items; notes = c.self.inside.notes.items; faults = c.self.inside.faults } in
    get_kept held c.args.self.now c.self.view_is c.self.inside.current.items c.self.inside.calls c.self.inside.fails.keys c.self.invariant c.args.db.now _ c.args.path.now _ _ c.push.new.self.items c.place-answer.ensures c.in_ok-db.ensures c.in_ok-path.ensures c.in_ok-push.ensures.items

pub invariant_of-self-in-None : goal.invariant_of-self-in-None
invariant_of-self-in-None c =
    let held : KeeperState = record { given = c.self.inside.given.items; notes = c.self.inside.notes.items; faults = c.self.inside.faults } in
    get_kept held c.args.self.now c.self.view_is c.self.inside.current.items c.self.inside.calls c.self.inside.fails.keys c.self.invariant c.args.db.now _ c.args.path.now _ _ c.push.new.self.items c.place-answer.ensures c.in_ok-db.ensures c.in_ok-path.ensures c.in_ok-push.ensures.items

pub returns-in-Some-clause-call_log : goal.returns-in-Some-clause-call_log
returns-in-Some-clause-call_log c =
    let held : KeeperState = record { given = c.self.inside.given.items; notes = c.self.inside.notes.items; faults = c.self.inside.faults } in
    logs_get held c.args.self.now c.self.view_is c.push.new.self.items c.args.db.now _ c.args.path.now _ c.in_ok-db.ensures c.in_ok-path.ensures _ (Some c.in-Some.place) c.in-Some.is c.in_ok-push.ensures.items

pub returns-in-None-clause-call_log : goal.returns-in-None-clause-call_log
returns-in-None-clause-call_log c =
    let held : KeeperState = record { given = c.self.inside.given.items; notes = c.self.inside.notes.items; faults = c.self.inside.faults } in
    logs_get held c.args.self.now c.self.view_is c.push.new.self.items c.args.db.now _ c.args.path.now _ c.in_ok-db.ensures c.in_ok-path.ensures _ None c.in-None.is c.in_ok-push.ensures.items

pub overflow_add-self : goal.overflow_add-self
overflow_add-self c = search (rules, calls_le c.self.inside.given.items c.self.inside.current.items c.self.inside.notes.items c.self.inside.calls c.self.inside.fails.keys c.self.invariant)
