-- In which chunks batches are stored, and which chunks are recovered.
use Rattle.std.proofs.Common.{◌≡◌, ⊎_elim, ℕ, true, false, cond, [], ◌∷◌, Option, Some, None, sym, ◌∙◌, ap, subst, arith}
use Rattle.std.specs.Prelude.{Contains, ◌==◌, is_none}
use Rattle.std.proofs.lemmas.Bool.{eqb-true, eq-eqb, cond-true}
use Rattle.std.proofs.lemmas.List.Elements.{Contains-append_cases}
use Rattle.fwd_chunk.specs.declared.chunk.Chunk.{Chunk}
use Rattle.fwd_settings.specs.declared.settings_types.AllSettings.{AllSettings}
use Rattle.fwd_model.specs.Fact.{History, Batch, Placement, NoChunk, NewChunk, AppendedTo, Accepted, Found}
use Rattle.fwd_model.specs.RecoveredFile.{recovered_chunk}
use Rattle.fwd_model.specs.Chunks.{ChunkInfo, recovered_info, created_info, chunks_of, is_closed, is_stored_in}
use Rattle.fwd_theorem_trace.specs.Past.{Past, logged}
use Rattle.fwd_theorem_trace.specs.Allowed.{FactAllowed, Allowed}
use Rattle.fwd_theorem_trace.proofs.Members.{either}
use Rattle.fwd_theorem_trace.proofs.Persistence.{shut_still}
use Rattle.fwd_theorem_delivery.proofs.InputTimes.{offered_open}

pub created_open : (b : Batch) (place : Placement) (c : ChunkInfo) → Contains (created_info b place) c → is_none c.input ≡ false
created_open b NoChunk c has = absurd (omega (arith, has.1))
created_open b (AppendedTo chunk) c has = absurd (omega (arith, has.1))
created_open b (NewChunk chunk) c has =
    ⊎_elim (λ (same : record { number = chunk; input = Some b.input; tag = b.tag } ≡ c). ap (λ (d : ChunkInfo). is_none d.input) (sym same)) (λ (none : Contains [] c). absurd (omega (arith, none.1)))
    (either (record { number = chunk; input = Some b.input; tag = b.tag }) [] c has)

-- a recovered chunk is closed
pub recovered_shut : (h : History) (c : ChunkInfo) → Contains (chunks_of h) c → is_none c.input ≡ true → is_closed h c.number ≡ true
recovered_shut [] c has is = absurd (omega (arith, has.1))
recovered_shut (Found number stream name bytes ∷ h) c has is =
    ⊎_elim (λ (old : Contains (chunks_of h) c). shut_still (Found number stream name bytes) h c.number (recovered_shut h c old is))
    (λ (new : Contains (recovered_info number (recovered_chunk bytes)) c). by (recovered_chunk bytes) new) (Contains-append_cases (chunks_of h) (recovered_info number (recovered_chunk bytes)) c has)
  where
    by : (chunk : Option Chunk) → Contains (recovered_info number chunk) c → cond (number == c.number) true (is_closed h c.number) ≡ true
    by None new = absurd (omega (arith, new.1))
    by (Some chunk) new =
        ⊎_elim (λ (same : record { number = number; input = None; tag = chunk.tag } ≡ c). cond-true (number == c.number) true (is_closed h c.number) (eq-eqb number c.number (ap (λ (d : ChunkInfo). d.number) same)))
        (λ (none : Contains [] c). absurd (omega (arith, none.1))) (either (record { number = number; input = None; tag = chunk.tag }) [] c new)
recovered_shut (Accepted b place ∷ h) c has is =
    ⊎_elim (λ (old : Contains (chunks_of h) c). recovered_shut h c old is) (λ (new : Contains (created_info b place) c). absurd (cc (sym is ∙ created_open b place c new)))
    (Contains-append_cases (chunks_of h) (created_info b place) c has)
recovered_shut (fact ∷ h) c has is = shut_still fact h c.number (recovered_shut h c has is)

-- a batch is stored in a chunk that is open
pub stored_open : (s : AllSettings) (b : Batch) (place : Placement) (past : Past) → FactAllowed s (Accepted b place) past → Allowed s past → (n : ℕ) → is_stored_in place n ≡ true → is_closed (logged past) n ≡ false
stored_open s b NoChunk past allowed due n is = absurd (cc is)
stored_open s b (NewChunk chunk) past allowed due n is = subst (λ (m : ℕ). is_closed (logged past) m ≡ false) (eqb-true chunk n is) (offered_open s b chunk past allowed.1.before due allowed.1.is)
stored_open s b (AppendedTo chunk) past allowed due n is = subst (λ (m : ℕ). is_closed (logged past) m ≡ false) (eqb-true chunk n is) (offered_open s b chunk past allowed.1.before due allowed.1.is)
