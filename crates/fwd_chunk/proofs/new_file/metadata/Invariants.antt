use Rattle.std.proofs.Common.{◌≡◌, ◌∷◌, ◌++◌, length, take}
use Rattle.std.specs.Prelude.{flat_map}
use Rattle.std.specs.Int.{to_be_bytes, w16}
use Rattle.fwd_chunk.specs.Layout.{named_output_bytes, unrecorded}
use Rattle.fwd_chunk.proofs.new_file.metadata.Given as goal

abbrev pub invariant-loop-name : goal.invariant-loop-name
invariant-loop-name l = l.meta ≡ 241 ∷ 119 ∷ 0 ∷ 2 ∷ to_be_bytes w16 (length l.tag) ++ l.tag ++ length l.outputs ∷ flat_map named_output_bytes (unrecorded (take l.name-index l.outputs))
