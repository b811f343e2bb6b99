use Rattle.std.proofs.Common.{rules, ℕ, List, ◌∙◌, ap, Option, None, Some, length}
use Rattle.std.specs.Option.{option_map}
use Rattle.fwd_files_mem.specs.FilesState.{FilesState}
use Rattle.fwd_files_mem.proofs.FilesInvariant.{calls_le, length_kept, tells_length}
use Rattle.fwd_files_mem.proofs.files.MemFilesFiles.length.Goals as goal

pub invariant_of-self-in-Some : goal.invariant_of-self-in-Some
invariant_of-self-in-Some c =
    let held : FilesState = record { given = c.self.inside.given.entries; notes = c.self.inside.notes.items; faults = c.self.inside.faults } in
    let is = c.length_of-answer.ensures ∙ ap (λ (o : Option (List ℕ)). option_map (λ (bytes : List ℕ). length bytes) o) c.readable.ensures in
    length_kept held c.args.self.now c.self.view_is c.self.inside.current.entries c.self.inside.calls c.self.inside.fails.keys c.self.invariant c.in_ok-path.path _ c.push.new.self.items is c.in_ok-push.ensures.items

pub invariant_of-self-in-None : goal.invariant_of-self-in-None
invariant_of-self-in-None c =
    let held : FilesState = record { given = c.self.inside.given.entries; notes = c.self.inside.notes.items; faults = c.self.inside.faults } in
    let is = c.length_of-answer.ensures ∙ ap (λ (o : Option (List ℕ)). option_map (λ (bytes : List ℕ). length bytes) o) c.readable.ensures in
    length_kept held c.args.self.now c.self.view_is c.self.inside.current.entries c.self.inside.calls c.self.inside.fails.keys c.self.invariant c.in_ok-path.path _ c.push.new.self.items is c.in_ok-push.ensures.items

pub returns-in-Some-clause-call_log : goal.returns-in-Some-clause-call_log
returns-in-Some-clause-call_log c =
    let held : FilesState = record { given = c.self.inside.given.entries; notes = c.self.inside.notes.items; faults = c.self.inside.faults } in
    tells_length held c.args.self.now c.self.view_is c.push.new.self.items c.args.path.now _ _ (Some c.in-Some.length) c.in_ok-path.ensures c.in-Some.is c.in_ok-push.ensures.items

pub returns-in-None-clause-call_log : goal.returns-in-None-clause-call_log
returns-in-None-clause-call_log c =
    let held : FilesState = record { given = c.self.inside.given.entries; notes = c.self.inside.notes.items; faults = c.self.inside.faults } in
    tells_length held c.args.self.now c.self.view_is c.push.new.self.items c.args.path.now _ _ None c.in_ok-path.ensures c.in-None.is c.in_ok-push.ensures.items

pub overflow_add-self : goal.overflow_add-self
overflow_add-self c = search (rules, calls_le c.self.inside.given.entries c.self.inside.current.entries c.self.inside.notes.items c.self.inside.calls c.self.inside.fails.keys c.self.invariant)
