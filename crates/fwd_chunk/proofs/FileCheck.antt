-- From the reading of a file to its description.
use Rattle.std.proofs.Common.{◌≡◌, ◌⊎◌, ◌↔◌, inl, inr, ℕ, List, Err, refl, subst}
use Rattle.fwd_chunk.specs.declared.refusal.NotAChunk.{NotAChunk}
use Rattle.fwd_chunk.specs.declared.refusal.ChunkKind.{ChunkKind}
use Rattle.fwd_chunk.specs.declared.refusal.ChunkKind.TheVariants.{TooShort, BadId, BadLength, NotLogs, BadOutputs, NotUtf8Tag, BadEvents, TooLong}
use Rattle.fwd_chunk.specs.Format.{ChunkRead, StandsFor, IsMemory}
use Rattle.fwd_chunk.specs.Check.{refusal_of}

-- the reading of these bytes gives this answer
abbrev pub Reads : List ℕ → ChunkRead → Type 0
Reads bytes r = (answer : ChunkRead) → IsMemory r ⊎ ((r ≡ answer) ↔ StandsFor bytes answer)

pub stands : (bytes : List ℕ) (r : ChunkRead) → Reads bytes r → (IsMemory r → ⊥) → StandsFor bytes r
stands bytes r reads ample = elim (reads r) [ inl m ↦ absurd (ample m) | inr is ↦ is.0 refl ]

not_memory : (kind : ChunkKind) → IsMemory (Err (refusal_of kind)) → ⊥
not_memory TooShort m = m
not_memory BadId m = m
not_memory BadLength m = m
not_memory NotLogs m = m
not_memory BadOutputs m = m
not_memory NotUtf8Tag m = m
not_memory BadEvents m = m
not_memory TooLong m = m

pub stands_refused : (bytes : List ℕ) (e : NotAChunk) (kind : ChunkKind) → e ≡ refusal_of kind → Reads bytes (Err e) → StandsFor bytes (Err (refusal_of kind))
stands_refused bytes e kind is reads =
    stands bytes (Err (refusal_of kind)) (subst (λ (x : NotAChunk). Reads bytes (Err x)) is reads) (not_memory kind)
