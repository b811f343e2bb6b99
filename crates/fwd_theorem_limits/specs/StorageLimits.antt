-- How many bytes of chunks in files are kept for an output.
use Rattle.std.specs.Prelude.{ℕ, ◌+◌, ◌<◌, ◌==◌, ◌&&◌, Bool, Contains, filter, sum_by, is_none}
use Rattle.std.specs.List.{list_any}
use Rattle.fwd_table.specs.Usage.{is_file}
use Rattle.fwd_settings.specs.declared.settings_types.AllSettings.{AllSettings}
use Rattle.fwd_model.specs.Fact.{History, Evicted, OnRoute}
use Rattle.fwd_model.specs.Settings.{outputs_for}
use Rattle.fwd_model.specs.Chunks.{ChunkInfo, chunks_of, is_closed, size}
use Rattle.fwd_model.specs.Routes.{route, home_of, owed}
use Rattle.fwd_theorem_limits.specs.FlushLimits.{is_in_flight}

-- whether a chunk is closed, kept in a file, and pending for an output
abbrev pub is_kept_for : AllSettings → History → ℕ → ChunkInfo → Bool
is_kept_for s h output c =
    is_file (home_of s c.input)
    && (is_closed h c.number && list_any (λ other. other == output) (owed s h c))

-- the bytes of these chunks
abbrev pub kept_bytes : AllSettings → History → ℕ → ℕ
kept_bytes s h output =
    sum_by (λ (c : ChunkInfo). size h c.number) (filter (is_kept_for s h output) (chunks_of h))

-- whether a chunk is kept in a file, and in flight to an output
abbrev pub is_file_flying_to : AllSettings → History → ℕ → ChunkInfo → Bool
is_file_flying_to s h output c = is_file (home_of s c.input) && is_in_flight h (route c.number output)

-- the bytes of these chunks
abbrev pub flying_bytes : AllSettings → History → ℕ → ℕ
flying_bytes s h output =
    sum_by (λ (c : ChunkInfo). size h c.number) (filter (is_file_flying_to s h output) (chunks_of h))

-- A chunk that closed had no room for an output beside what was in flight to it, and was evicted.
pub record HasNoRoom (s : AllSettings) (h new : History) (c : ChunkInfo) (output limit : ℕ) : Type 0 where
  pub full : limit < flying_bytes s h output + size h c.number
  pub evicted : Contains new (OnRoute (route c.number output) Evicted)

-- whether a chunk was recovered, and matches an output
abbrev pub is_recovered_for : AllSettings → ℕ → ChunkInfo → Bool
is_recovered_for s output c = is_none c.input && list_any (λ other. other == output) (outputs_for s c.tag)

-- the bytes of these chunks
abbrev pub recovered_bytes : AllSettings → History → ℕ → ℕ
recovered_bytes s h output =
    sum_by (λ (c : ChunkInfo). size h c.number) (filter (is_recovered_for s output) (chunks_of h))
