use Rattle.std.proofs.Common.{[], ◌∷◌, arith}
use Rattle.fwd_chunk.proofs.Creation.{length-new_meta, are_short}
use Rattle.fwd_test_storage.proofs.chunk.create_file.Goals as goal

pub create-requires-clause-fits : goal.create-requires-clause-fits
create-requires-clause-fits c =
    omega (arith, length-new_meta (97 ∷ 112 ∷ 112 ∷ []) c.args.names.now (omega arith) c.requires.few (are_short c.args.names.now c.requires), c.if-batch-gt2048000.false)
