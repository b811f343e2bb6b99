use Rattle.std.proofs.Common.{rules}
use Rattle.fwd_keeper_mem.specs.KeeperState.{KeeperState}
use Rattle.fwd_keeper_mem.proofs.NotesKept.{calls_le, works_now_by}
use Rattle.fwd_keeper_mem.proofs.mem_keeper.MemKeeper.works.Goals as goal

pub returns : goal.returns
returns c =
    let held : KeeperState = record { given = c.self.inside.given.items; notes = c.self.inside.notes.items; faults = c.self.inside.faults } in
    works_now_by held c.args.self.now c.self.view_is c.self.inside.current.items c.self.inside.calls c.self.inside.fails.keys c.self.invariant _ c.contains.ensures

pub overflow_add-self-inside : goal.overflow_add-self-inside
overflow_add-self-inside c = search (rules, calls_le c.self.inside.given.items c.self.inside.current.items c.self.inside.notes.items c.self.inside.calls c.self.inside.fails.keys c.self.invariant)
