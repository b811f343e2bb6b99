use Rattle.std.proofs.Common.{rules, ◌≡◌, None, sym, ◌∙◌, subst}
use Rattle.std.specs.Option.{option_copied}
use Rattle.fwd_files_mem.specs.FilesState.{FilesState}
use Rattle.fwd_files_mem.specs.MemFiles.{readable}
use Rattle.fwd_files_mem.proofs.FilesInvariant.{calls_le, fails_here}
use Rattle.fwd_files_mem.proofs.files.MemFiles.readable.Goals as goal

pub returns-then-contains : goal.returns-then-contains
returns-then-contains c =
    let held : FilesState = record { given = c.self.inside.given.entries; notes = c.self.inside.notes.items; faults = c.self.inside.faults } in
    let fails = fails_here held c.self.inside.current.entries c.self.inside.calls c.self.inside.fails.keys c.self.invariant c.args.path.now _ c.if-contains.ensures in
    subst (λ (h : FilesState). None ≡ readable h c.args.path.now) c.self.view_is (sym fails)

pub returns : goal.returns
returns c =
    let held : FilesState = record { given = c.self.inside.given.entries; notes = c.self.inside.notes.items; faults = c.self.inside.faults } in
    let fails = fails_here held c.self.inside.current.entries c.self.inside.calls c.self.inside.fails.keys c.self.invariant c.args.path.now _ c.if-contains.ensures in
    subst (λ (h : FilesState). option_copied c.content.result ≡ readable h c.args.path.now) c.self.view_is (c.content.ensures ∙ sym fails)

pub overflow_add-self-inside : goal.overflow_add-self-inside
overflow_add-self-inside c = search (rules, calls_le c.self.inside.given.entries c.self.inside.current.entries c.self.inside.notes.items c.self.inside.calls c.self.inside.fails.keys c.self.invariant)
