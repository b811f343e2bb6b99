use Rattle.std.proofs.Common.{◌∙◌, sym, ap}
use Rattle.fwd_keeper.specs.Keeper.{KeeperGiven, found}
use Rattle.fwd_keeper_mem.specs.KeeperState.{KeeperState}
use Rattle.fwd_keeper_mem.proofs.NotesKept.{place_works}
use Rattle.fwd_keeper_mem.proofs.mem_keeper.MemKeeper.place.Goals as goal

pub returns-then-works : goal.returns-then-works
returns-then-works c =
    let held : KeeperState = record { given = c.self.inside.given.items; notes = c.self.inside.notes.items; faults = c.self.inside.faults } in
    let current = c.offset_of.ensures ∙ ap (λ (offsets : KeeperGiven). found offsets c.args.db.now c.args.path.now) c.deref.ensures.value in
    place_works held c.args.self.now c.self.view_is c.self.inside.current.items c.self.inside.calls c.self.inside.fails.keys c.self.invariant c.args.db.now c.args.path.now _ current (sym c.works.ensures ∙ c.if-works.true)
