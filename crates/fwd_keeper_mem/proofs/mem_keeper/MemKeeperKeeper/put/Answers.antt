use Rattle.std.proofs.Common.{arith, rules, ◌≡◌, [], ◌∷◌, ◌++◌, Some, None}
use Rattle.fwd_keeper_mem.specs.declared.mem_keeper.KeeperNote.TheVariants.{Put}
use Rattle.fwd_keeper_mem.specs.KeeperState.{KeeperState}
use Rattle.fwd_keeper_mem.proofs.NotesKept.{calls_le, put_kept, logs_put}
use Rattle.fwd_keeper_mem.proofs.mem_keeper.MemKeeperKeeper.put.Goals as goal

pub invariant_of-self-in-Some : goal.invariant_of-self-in-Some
invariant_of-self-in-Some c =
    let held : KeeperState = record { given = c.self.inside.given.items; notes = c.self.inside.notes.items; faults = c.self.inside.faults } in
    let noted : c.push_reserved.new.self.items ≡ c.self.inside.notes.items ++ Put c.in_ok-db.db c.in_ok-path.path c.args.place c.done-answer.result ∷ [] = grind (arith, c.push_reserved.ensures.items, c.in_ok-reserve.ensures.items) in
    put_kept held c.args.self.now c.self.view_is c.self.inside.current.items c.self.inside.calls c.self.inside.fails.keys c.self.invariant c.args.db.now _ c.args.path.now _ c.args.place _ c.apply.new.offsets.items c.push_reserved.new.self.items c.done-answer.ensures c.in_ok-apply.ensures.ok noted

pub invariant_of-self-in-None : goal.invariant_of-self-in-None
invariant_of-self-in-None c =
    let held : KeeperState = record { given = c.self.inside.given.items; notes = c.self.inside.notes.items; faults = c.self.inside.faults } in
    let noted : c.push_reserved.new.self.items ≡ c.self.inside.notes.items ++ Put c.in_ok-db.db c.in_ok-path.path c.args.place c.done-answer.result ∷ [] = grind (arith, c.push_reserved.ensures.items, c.in_ok-reserve.ensures.items) in
    put_kept held c.args.self.now c.self.view_is c.self.inside.current.items c.self.inside.calls c.self.inside.fails.keys c.self.invariant c.args.db.now _ c.args.path.now _ c.args.place _ c.apply.new.offsets.items c.push_reserved.new.self.items c.done-answer.ensures c.in_ok-apply.ensures.ok noted

pub returns-in-Some-clause-call_log : goal.returns-in-Some-clause-call_log
returns-in-Some-clause-call_log c =
    let held : KeeperState = record { given = c.self.inside.given.items; notes = c.self.inside.notes.items; faults = c.self.inside.faults } in
    let noted : c.push_reserved.new.self.items ≡ c.self.inside.notes.items ++ Put c.in_ok-db.db c.in_ok-path.path c.args.place c.done-answer.result ∷ [] = grind (arith, c.push_reserved.ensures.items, c.in_ok-reserve.ensures.items) in
    logs_put held c.args.self.now c.self.view_is c.push_reserved.new.self.items c.args.db.now _ c.args.path.now _ c.in_ok-db.ensures c.in_ok-path.ensures c.args.place _ (Some c.in-Some.done) c.in-Some.is noted

pub returns-in-None-clause-call_log : goal.returns-in-None-clause-call_log
returns-in-None-clause-call_log c =
    let held : KeeperState = record { given = c.self.inside.given.items; notes = c.self.inside.notes.items; faults = c.self.inside.faults } in
    let noted : c.push_reserved.new.self.items ≡ c.self.inside.notes.items ++ Put c.in_ok-db.db c.in_ok-path.path c.args.place c.done-answer.result ∷ [] = grind (arith, c.push_reserved.ensures.items, c.in_ok-reserve.ensures.items) in
    logs_put held c.args.self.now c.self.view_is c.push_reserved.new.self.items c.args.db.now _ c.args.path.now _ c.in_ok-db.ensures c.in_ok-path.ensures c.args.place _ None c.in-None.is noted

pub overflow_add-self : goal.overflow_add-self
overflow_add-self c = search (rules, calls_le c.self.inside.given.items c.self.inside.current.items c.self.inside.notes.items c.self.inside.calls c.self.inside.fails.keys c.self.invariant)
