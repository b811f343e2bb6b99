use Rattle.std.proofs.Common.{◌≡◌, [], ◌∷◌, ◌++◌, List, ℕ, subst}
use Rattle.fwd_backlog.specs.Listing.{chunks_in}
use Rattle.fwd_backlog.proofs.Folders.{chunk_added}
use Rattle.fwd_backlog.proofs.listing.add_chunks.Goals as goal

pub loop-name-preserved : goal.loop-name-preserved
loop-name-preserved c =
    chunk_added c.args.stream.now c.as_slice-name-items.result.now c.loop-name.name-index c.name-item.result c.args.files.now c.loop-name.files c.add_chunk.new.files c.loop-name-test.true c.name-item.is c.loop-name.invariant
    (subst (λ (n : List ℕ). c.add_chunk.new.files ≡ c.loop-name.files ++ chunks_in c.args.stream.now (n ∷ [])) c.as_slice.ensures c.in_ok-add_chunk.ensures)
