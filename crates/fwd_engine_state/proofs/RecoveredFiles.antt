-- What a recovered file counts as, and the chunk that it adds.
use Rattle.std.proofs.Common.{◌≡◌, ◌≢◌, ℕ, ◌<◌, ◌≤◌, Bool, true, false, not, inl, inr, List, [], ◌∷◌, ◌++◌, Option, Some, None, refl, sym, ◌∙◌, ap, subst, arith}
use Rattle.std.specs.Prelude.{filter}
use Rattle.std.specs.List.{list_all}
use Rattle.std.proofs.lemmas.Bool.{cases_Bool}
use Rattle.fwd_chunk.specs.declared.chunk.Chunk.{Chunk}
use Rattle.fwd_settings.specs.declared.settings_types.AllSettings.{AllSettings}
use Rattle.fwd_model.specs.Fact.{History, Found}
use Rattle.fwd_model.specs.Settings.{outputs_for, output_name}
use Rattle.fwd_model.specs.RecoveredFile.{recovered_chunk, is_marked_done}
use Rattle.fwd_model.specs.Chunks.{ChunkInfo, chunks_of, recovered_info, next}
use Rattle.fwd_model.specs.Counters.{Loaded, Unrouted, LeftAsIs, file_fate_by, file_fate}
use Rattle.fwd_engine_state.specs.StateRepresents.{NumbersRise, remaining_for}
use Rattle.fwd_engine_state.proofs.RowChanges.{no_more}
use Rattle.fwd_engine_state.proofs.ChunkOrder.{rise_later, rise_append, rise_first}

-- ---- what it counts as

all_or_left : (p : ℕ → Bool) (os : List ℕ) → filter (λ o. not (p o)) os ≢ [] → list_all p os ≡ false
all_or_left p [] some = absurd (some refl)
all_or_left p (o ∷ os) some = elim (cases_Bool (p o)) [
  | inl done ↦ rw done (all_or_left p os (λ none. some (rw done none)))
  | inr left ↦ rw left refl
]

none_left : (p : ℕ → Bool) (os : List ℕ) → list_all p os ≡ true → filter (λ o. not (p o)) os ≡ []
none_left p [] all = refl
none_left p (o ∷ os) all = elim (cases_Bool (p o)) [
  | inl done ↦ rw done (none_left p os (rw done at all))
  | inr left ↦ absurd (cc (rw left at all))
]

loads_by : (s : AllSettings) (chunk : Chunk) (os : List ℕ) → filter (λ o. not (is_marked_done (output_name s o) (Some chunk))) os ≢ [] → file_fate_by s chunk os ≡ Loaded
loads_by s chunk [] some = absurd (some refl)
loads_by s chunk (o ∷ os) some = let left = all_or_left (λ o. is_marked_done (output_name s o) (Some chunk)) (o ∷ os) some in rw left refl

pub loads_is : (s : AllSettings) (bytes : List ℕ) (chunk : Chunk) → recovered_chunk bytes ≡ Some chunk → remaining_for s chunk ≢ [] → file_fate s (recovered_chunk bytes) ≡ Loaded
loads_is s bytes chunk is some = ap (file_fate s) is ∙ loads_by s chunk (outputs_for s chunk.tag) some

unrouted_by : (s : AllSettings) (chunk : Chunk) (os : List ℕ) → file_fate_by s chunk os ≡ Unrouted → filter (λ o. not (is_marked_done (output_name s o) (Some chunk))) os ≡ []
unrouted_by s chunk [] is = refl
unrouted_by s chunk (o ∷ os) is = elim (cases_Bool (list_all (λ o. is_marked_done (output_name s o) (Some chunk)) (o ∷ os))) [
  | inl all ↦ absurd (cc (rw all at is))
  | inr some ↦ absurd (cc (rw some at is))
]

leaves_by : (s : AllSettings) (chunk : Chunk) (os : List ℕ) → file_fate_by s chunk os ≡ LeftAsIs → filter (λ o. not (is_marked_done (output_name s o) (Some chunk))) os ≡ []
leaves_by s chunk [] is = refl
leaves_by s chunk (o ∷ os) is = elim (cases_Bool (list_all (λ o. is_marked_done (output_name s o) (Some chunk)) (o ∷ os))) [
  | inl all ↦ none_left (λ o. is_marked_done (output_name s o) (Some chunk)) (o ∷ os) all
  | inr some ↦ absurd (cc (rw some at is))
]

pub unrouted_none : (s : AllSettings) (bytes : List ℕ) → file_fate s (recovered_chunk bytes) ≡ Unrouted → (chunk : Chunk) → recovered_chunk bytes ≡ Some chunk → remaining_for s chunk ≡ []
unrouted_none s bytes is chunk found = unrouted_by s chunk (outputs_for s chunk.tag) (sym (ap (file_fate s) found) ∙ is)

pub leaves_none : (s : AllSettings) (bytes : List ℕ) → file_fate s (recovered_chunk bytes) ≡ LeftAsIs → (chunk : Chunk) → recovered_chunk bytes ≡ Some chunk → remaining_for s chunk ≡ []
leaves_none s bytes is chunk found = leaves_by s chunk (outputs_for s chunk.tag) (sym (ap (file_fate s) found) ∙ is)

-- ---- numbers

rise_as : (least past later n : ℕ) (cs : List ChunkInfo) (o : Option Chunk) → NumbersRise least past cs → least ≤ n → past ≤ n → n < later → past ≤ later → NumbersRise least later (cs ++ recovered_info n o)
rise_as least past later n cs None rise from behind below more = subst (NumbersRise least later) (sym (no_more cs)) (rise_later least past later cs rise more)
rise_as least past later n cs (Some chunk) rise from behind below more = rise_append least past later cs _ rise from behind below

pub rise_found : (n : ℕ) (stream name bytes : List ℕ) (h : History) → next h ≤ n → NumbersRise 0 (next h) (chunks_of h) → NumbersRise 0 (next (Found n stream name bytes ∷ h)) (chunks_of (Found n stream name bytes ∷ h))
rise_found n stream name bytes h above rise =
    rise_as 0 (next h) (next (Found n stream name bytes ∷ h)) n (chunks_of h) (recovered_chunk bytes) rise (omega arith) above (omega arith) (omega arith)

unrise_as : (least past n : ℕ) (cs : List ChunkInfo) (o : Option Chunk) → NumbersRise least past (cs ++ recovered_info n o) → NumbersRise least past cs
unrise_as least past n cs None rise = subst (NumbersRise least past) (no_more cs) rise
unrise_as least past n cs (Some chunk) rise = rise_first least past cs _ rise

pub before_found : (n past : ℕ) (stream name bytes : List ℕ) (h : History) → NumbersRise 0 past (chunks_of (Found n stream name bytes ∷ h)) → NumbersRise 0 past (chunks_of h)
before_found n past stream name bytes h rise = unrise_as 0 past n (chunks_of h) (recovered_chunk bytes) rise
