-- The content of a chunk that is recovered from a marked file.
use Rattle.std.proofs.Common.{◌≡◌, ◌⊎◌, inl, inr, ℕ, ◌==◌, ◌||◌, Bool, true, false, not, cond, List, take, Some, None, Ok, Err, refl, sym, ◌∙◌, ap}
use Rattle.std.proofs.lemmas.Bool.{eq-eqb}
use Rattle.fwd_event.specs.declared.event.Event.{Event}
use Rattle.fwd_chunk.specs.Layout.{HasParts}
use Rattle.fwd_chunk.specs.declared.chunk.Chunk.{Chunk}
use Rattle.fwd_chunk.specs.Format.{mark_of, is_marked, body_of, HasContent, ChunkRead, StandsFor}
use Rattle.fwd_chunk.specs.FormatFunction.{stands}
use Rattle.fwd_chunk.proofs.FormatMatch.{stands_exactly}
use Rattle.fwd_model.specs.RecoveredFile.{nonempty_chunk, recovered_chunk}

pub first_on : (a b : Bool) → a ≡ true → a || b ≡ true
first_on true b is = refl
first_on false b is = absurd (cc is)

pub second_on : (a b : Bool) → b ≡ true → a || b ≡ true
second_on true b is = refl
second_on false b is = is

whole_some : (r : ChunkRead) (chunk : Chunk) → nonempty_chunk r ≡ Some chunk → r ≡ Ok chunk
whole_some (Err refusal) chunk is = absurd (cc is)
whole_some (Ok read) chunk is = let wrap : Chunk → ChunkRead = λ (x : Chunk). Ok x in ap wrap (by (read.events == 0) is)
  where
    by : (b : Bool) → cond b None (Some read) ≡ Some chunk → read ≡ chunk
    by true never = absurd (cc never)
    by false now = cc now

is_marked_so : (mark : ℕ) (bytes : List ℕ) → mark_of bytes ≡ mark → (mark ≡ 1) ⊎ (mark ≡ 2) → is_marked bytes ≡ true
is_marked_so mark bytes is (inl one) = first_on (mark_of bytes == 1) (mark_of bytes == 2) (eq-eqb (mark_of bytes) 1 (is ∙ one))
is_marked_so mark bytes is (inr two) = second_on (mark_of bytes == 1) (mark_of bytes == 2) (eq-eqb (mark_of bytes) 2 (is ∙ two))

-- it is the part of the file after the metadata, as far as it is committed
pub content_found_is : (mark : ℕ) (bytes meta content : List ℕ) (chunk : Chunk) → HasParts mark bytes meta content → recovered_chunk bytes ≡ Some chunk → chunk.content ≡ content
content_found_is mark bytes meta content chunk parts is = by stood.1 stood.2 stood.4 (ap (λ (x : Chunk). x.content) stood.5)
  where
    stood : StandsFor bytes (Ok chunk)
    stood = (stands_exactly bytes (Ok chunk)).1 (sym (whole_some (stands bytes) chunk is))

    by : (events : List Event) (n : ℕ) → HasContent bytes events n → chunk.content ≡ take n (body_of bytes) → chunk.content ≡ content
    by events n (inl marked) at = at ∙ ap (λ (k : ℕ). take k (body_of bytes)) marked.1 ∙ sym parts.content_is
    by events n (inr plain) at = let on = is_marked_so mark bytes parts.mark_is parts.marked in let never : true ≡ false = sym plain.0 ∙ ap not on in absurd (cc never)
