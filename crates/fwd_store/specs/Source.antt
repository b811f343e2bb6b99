-- The entries of the list of open chunks.
use Rattle.std.specs.Prelude.{ℕ}
use Rattle.fwd_store.specs.declared.open_chunks.Source.{Source}
use Rattle.fwd_store.specs.OpenChunk.{Opened}

-- the open chunk that an entry represents
abbrev pub opened_at : Source × ℕ → Opened
opened_at e = record { input = e.0.input.0; tag = e.0.tag.items; chunk = e.1 }
