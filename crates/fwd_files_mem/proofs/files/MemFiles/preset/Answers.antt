use Rattle.std.proofs.Common.{sym, ◌∙◌}
use Rattle.fwd_files_mem.proofs.FilesInvariant.{preset_kept}
use Rattle.fwd_files_mem.proofs.files.MemFiles.preset.Goals as goal

pub invariant_of-self-in-Ok : goal.invariant_of-self-in-Ok
invariant_of-self-in-Ok c =
    preset_kept c.self.inside.given.entries c.self.inside.current.entries c.put.new.files.entries c.self.inside.notes.items c.push.new.self.items c.self.inside.calls c.self.inside.fails.keys c.self.invariant c.in_ok-path.path _ c.args.bytes.now _ c.in_ok-bytes.bytes
    (c.in_ok-from_slice.ensures ∙ sym c.in_ok-path.ensures) c.in_ok-from_slice-2.ensures c.in_ok-bytes.ensures c.in_ok-push.ensures.items c.in-Ok.ensures.ok
