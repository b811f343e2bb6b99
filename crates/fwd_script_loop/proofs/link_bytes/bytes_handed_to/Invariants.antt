use Rattle.std.proofs.Common.{◌≡◌, [], ◌++◌, drop}
use Rattle.fwd_script_loop.specs.LinkBytes.{handed}
use Rattle.fwd_script_loop.specs.Told.{entries_of}
use Rattle.fwd_script_loop.proofs.link_bytes.bytes_handed_to.Given as goal

abbrev pub invariant-loop-note : goal.invariant-loop-note
invariant-loop-note l = l.bytes ++ handed l.outputs l.links.items (entries_of (drop l.note-index l.notes)) ≡ handed l.outputs [] (entries_of l.notes)
