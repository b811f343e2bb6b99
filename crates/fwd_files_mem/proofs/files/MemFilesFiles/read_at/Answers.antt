use Rattle.std.proofs.Common.{rules, ℕ, List, ◌∙◌, ap, Option, None, Some, take, drop}
use Rattle.std.specs.Option.{option_map}
use Rattle.fwd_files_mem.specs.FilesState.{FilesState}
use Rattle.fwd_files_mem.proofs.FilesInvariant.{calls_le, read_kept, tells_read}
use Rattle.fwd_files_mem.proofs.files.MemFilesFiles.read_at.Goals as goal

pub invariant_of-self-in-Some : goal.invariant_of-self-in-Some
invariant_of-self-in-Some c =
    let held : FilesState = record { given = c.self.inside.given.entries; notes = c.self.inside.notes.items; faults = c.self.inside.faults } in
    let is = c.in_ok-answer.ensures ∙ ap (λ (o : Option (List ℕ)). option_map (λ (bytes : List ℕ). take c.args.max (drop c.args.at bytes)) o) c.readable.ensures in
    read_kept held c.args.self.now c.self.view_is c.self.inside.current.entries c.self.inside.calls c.self.inside.fails.keys c.self.invariant c.in_ok-path.path c.args.at c.args.max _ _ c.push.new.self.items is c.in_ok-bytes.ensures c.in_ok-push.ensures.items

pub invariant_of-self-in-None : goal.invariant_of-self-in-None
invariant_of-self-in-None c =
    let held : FilesState = record { given = c.self.inside.given.entries; notes = c.self.inside.notes.items; faults = c.self.inside.faults } in
    let is = c.in_ok-answer.ensures ∙ ap (λ (o : Option (List ℕ)). option_map (λ (bytes : List ℕ). take c.args.max (drop c.args.at bytes)) o) c.readable.ensures in
    read_kept held c.args.self.now c.self.view_is c.self.inside.current.entries c.self.inside.calls c.self.inside.fails.keys c.self.invariant c.in_ok-path.path c.args.at c.args.max _ _ c.push.new.self.items is c.in_ok-bytes.ensures c.in_ok-push.ensures.items

pub returns-in-Some-clause-call_log : goal.returns-in-Some-clause-call_log
returns-in-Some-clause-call_log c =
    let held : FilesState = record { given = c.self.inside.given.entries; notes = c.self.inside.notes.items; faults = c.self.inside.faults } in
    tells_read held c.args.self.now c.self.view_is c.push.new.self.items c.args.path.now _ c.args.at c.args.max _ _ (Some c.in-Some.bytes) c.in_ok-path.ensures c.in_ok-bytes.ensures c.in-Some.is c.in_ok-push.ensures.items

pub returns-in-None-clause-call_log : goal.returns-in-None-clause-call_log
returns-in-None-clause-call_log c =
    let held : FilesState = record { given = c.self.inside.given.entries; notes = c.self.inside.notes.items; faults = c.self.inside.faults } in
    tells_read held c.args.self.now c.self.view_is c.push.new.self.items c.args.path.now _ c.args.at c.args.max _ _ None c.in_ok-path.ensures c.in_ok-bytes.ensures c.in-None.is c.in_ok-push.ensures.items

pub overflow_add-self : goal.overflow_add-self
overflow_add-self c = search (rules, calls_le c.self.inside.given.entries c.self.inside.current.entries c.self.inside.notes.items c.self.inside.calls c.self.inside.fails.keys c.self.invariant)
