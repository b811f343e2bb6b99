-- How a file was read, and what its bytes represent.
use Rattle.std.proofs.Common.{◌≡◌, ◌≢◌, ◌⊎◌, ℕ, Bool, true, false, not, inl, inr, List, [], ◌∷◌, filter, map, Some, None, Ok, Err, refl, sym, ap, subst, ◌∙◌, arith}
use Rattle.std.specs.Prelude.{◌==◌}
use Rattle.std.specs.List.{list_all}
use Rattle.std.proofs.lemmas.Bool.{cases_Bool, ne_eqb, eq-eqb}
use Rattle.fwd_chunk.specs.declared.chunk.Chunk.{Chunk}
use Rattle.fwd_chunk.specs.declared.chunk.Brief.{Brief}
use Rattle.fwd_chunk.specs.declared.chunk.Seen.{Seen}
use Rattle.fwd_chunk.specs.declared.chunk.Seen.TheVariants.{Whole, Empty, Refused}
use Rattle.fwd_chunk.specs.declared.refusal.ChunkKind.{ChunkKind}
use Rattle.fwd_chunk.specs.Check.{IsCheckResult, brief_of, refusal_of}
use Rattle.fwd_chunk.proofs.FormatMatch.{stands_exactly}
use Rattle.fwd_settings.specs.declared.settings_types.AllSettings.{AllSettings}
use Rattle.fwd_model.specs.Settings.{outputs_for, output_name}
use Rattle.fwd_model.specs.Notes.{is_empty}
use Rattle.fwd_model.specs.RecoveredFile.{recovered_chunk, nonempty_chunk, is_marked_done}
use Rattle.fwd_model.specs.Counters.{Unrouted, LeftAsIs, file_fate, file_fate_by}
use Rattle.fwd_table.specs.Routes.{idle_at, routes_to}
use Rattle.fwd_engine_state.specs.StateRepresents.{IsLoaded}
use Rattle.fwd_engine_recovery.specs.Adoption.{remaining_outputs}

-- the bytes represent a chunk with events
pub record IsWholeIn (bytes : List ℕ) (brief : Brief) : Type 0 where
  pub chunk : Chunk
  pub found : recovered_chunk bytes ≡ Some chunk
  pub kept : brief ≡ brief_of chunk

pub whole_found : (bytes : List ℕ) (brief : Brief) → IsCheckResult bytes (Whole brief) → IsWholeIn bytes brief
whole_found bytes brief seen =
    let some : (seen.0.events == 0) ≡ false = ne_eqb seen.0.events 0 (λ none. absurd (omega (arith, none, seen.3))) in
    record {
      chunk = seen.0;
      found = ap nonempty_chunk (sym ((stands_exactly bytes (Ok seen.0)).0 seen.1)) ∙ rw some refl;
      kept = seen.2;
    }

pub empty_found : (bytes : List ℕ) (brief : Brief) → IsCheckResult bytes (Empty brief) → recovered_chunk bytes ≡ None
empty_found bytes brief seen =
    let none : (seen.0.events == 0) ≡ true = eq-eqb seen.0.events 0 seen.3 in
    ap nonempty_chunk (sym ((stands_exactly bytes (Ok seen.0)).0 seen.1)) ∙ rw none refl

pub refused_found : (bytes : List ℕ) (kind : ChunkKind) → IsCheckResult bytes (Refused kind) → recovered_chunk bytes ≡ None
refused_found bytes kind seen = ap nonempty_chunk (sym ((stands_exactly bytes (Err (refusal_of kind))).0 seen))

pub nothing_found : (bytes : List ℕ) (seen : Seen) → ((brief : Brief) × (seen ≡ Empty brief)) ⊎ ((kind : ChunkKind) × (seen ≡ Refused kind)) → IsCheckResult bytes seen → recovered_chunk bytes ≡ None
nothing_found bytes seen (inl is) its = empty_found bytes is.0 (subst (IsCheckResult bytes) is.1 its)
nothing_found bytes seen (inr is) its = refused_found bytes is.0 (subst (IsCheckResult bytes) is.1 its)

pub leaves_nothing : (s : AllSettings) (bytes : List ℕ) → recovered_chunk bytes ≡ None → file_fate s (recovered_chunk bytes) ≡ LeftAsIs
leaves_nothing s bytes none = ap (file_fate s) none

-- ---- how it counts

for_nobody : (s : AllSettings) (chunk : Chunk) (outputs : List ℕ) → is_empty outputs ≡ true → file_fate_by s chunk outputs ≡ Unrouted
for_nobody s chunk [] is = refl
for_nobody s chunk (o ∷ os) is = absurd (cc is)

pub passes_nobody : (s : AllSettings) (bytes : List ℕ) (brief : Brief) → IsWholeIn bytes brief → is_empty (outputs_for s brief.tag) ≡ true → file_fate s (recovered_chunk bytes) ≡ Unrouted
passes_nobody s bytes brief whole none =
    ap (file_fate s) whole.found ∙ for_nobody s whole.chunk (outputs_for s whole.chunk.tag) (sym (ap (λ (b : Brief). is_empty (outputs_for s b.tag)) whole.kept) ∙ none)

all_of : (p : ℕ → Bool) (os : List ℕ) → filter (λ o. not (p o)) os ≡ [] → list_all p os ≡ true
all_of p [] none = refl
all_of p (o ∷ os) none = elim (cases_Bool (p o)) [
  | inl holds ↦ rw holds (all_of p os (rw holds at none))
  | inr fails ↦ absurd (cc (rw fails at none))
]

all_done : (s : AllSettings) (chunk : Chunk) (os : List ℕ) → is_empty os ≡ false → filter (λ o. not (is_marked_done (output_name s o) (Some chunk))) os ≡ [] → file_fate_by s chunk os ≡ LeftAsIs
all_done s chunk [] some none = absurd (cc some)
all_done s chunk (o ∷ os) some none = let all = all_of (λ x. is_marked_done (output_name s x) (Some chunk)) (o ∷ os) none in rw all refl

pub leaves_done : (s : AllSettings) (bytes : List ℕ) (brief : Brief) → IsWholeIn bytes brief → is_empty (outputs_for s brief.tag) ≡ false → remaining_outputs s brief.tag brief.done ≡ [] → file_fate s (recovered_chunk bytes) ≡ LeftAsIs
leaves_done s bytes brief whole some none =
    ap (file_fate s) whole.found
    ∙ all_done s whole.chunk (outputs_for s whole.chunk.tag)
    (sym (ap (λ (b : Brief). is_empty (outputs_for s b.tag)) whole.kept) ∙ some)
    (sym (ap (λ (b : Brief). remaining_outputs s b.tag b.done) whole.kept) ∙ none)

-- ---- the outputs that it is pending for

abbrev pub IsOwed : AllSettings → List ℕ → List (List ℕ) → ℕ → Type 0
IsOwed s tag done owed = (routes_to owed ≡ map (λ output. idle_at 0 (record { 0 = output })) (remaining_outputs s tag done)) × (remaining_outputs s tag done ≢ [])

pub is_loaded : (s : AllSettings) (bytes : List ℕ) (brief : Brief) → IsWholeIn bytes brief → (tag : List ℕ) (owed : ℕ) → tag ≡ brief.tag → IsOwed s brief.tag brief.done owed → IsLoaded s tag brief.size owed bytes
is_loaded s bytes brief whole tag owed same is =
    let owes : IsOwed s whole.chunk.tag whole.chunk.done owed = subst (λ (b : Brief). IsOwed s b.tag b.done owed) whole.kept is in
    record {
      chunk = whole.chunk;
      found = whole.found;
      of_tag = sym (same ∙ ap (λ (b : Brief). b.tag) whole.kept);
      of_size = sym (ap (λ (b : Brief). b.size) whole.kept);
      mask = record { routes = owes.0; some = owes.1 };
    }
