-- Actions that close chunks: their routes become idle, and the size limits of outputs may evict routes.
use Rattle.std.specs.Prelude.{ℕ, nat_le, if◌then◌else◌, List, [], ◌∷◌}
use Rattle.fwd_base.specs.Limits.{full_chunk}
use Rattle.fwd_outside.specs.Program.{Return, bind}
use Rattle.fwd_settings.specs.declared.settings_types.AllSettings.{AllSettings}
use Rattle.fwd_model.specs.Fact.{History, Route, ChunkClosed, OnRoute, Evicted}
use Rattle.fwd_model.specs.Trace.{Action}
use Rattle.fwd_model.specs.Chunks.{ChunkInfo, open_chunks, size}
use Rattle.fwd_model.specs.Limits.{evicted_at}
use Rattle.fwd_model.specs.Notes.{note_then}
use Rattle.fwd_model.specs.ResolveActions.{marks_or_removes}

-- evict these routes, in this order
abbrev pub loses : AllSettings → List Route → History → Action History
loses s [] h = Return h
loses s (r ∷ rs) h = note_then (OnRoute r Evicted) h (λ at. bind (marks_or_removes s r at) (loses s rs))

-- close a chunk
unfoldable pub closes_chunk : AllSettings → ℕ → History → Action History
closes_chunk s chunk h = note_then (ChunkClosed chunk) h (λ at. loses s (evicted_at s at chunk) at)

-- close a chunk at once if it has `full_chunk` bytes (2,048,000) or more
unfoldable pub closes_if_full : AllSettings → ℕ → History → Action History
closes_if_full s chunk h = if nat_le full_chunk (size h chunk) then closes_chunk s chunk h else Return h

-- close these chunks, in this order
abbrev pub closes_each : AllSettings → List ChunkInfo → History → Action History
closes_each s [] h = Return h
closes_each s (c ∷ cs) h = bind (closes_chunk s c.number h) (closes_each s cs)

-- close all open chunks, the oldest first
unfoldable pub closes_all : AllSettings → History → Action History
closes_all s h = closes_each s (open_chunks h) h
