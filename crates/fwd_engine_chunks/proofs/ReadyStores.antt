-- A store that represents a history can accept a batch.
use Rattle.std.proofs.Common.{◌≡◌, ℕ, zero, suc, ◌<◌, Bool, true, false, not, inl, inr, List, [], ◌∷◌, Option, Some, None, refl, sym, ◌∙◌, ap, arith, IsSome}
use Rattle.std.specs.Prelude.{◌==◌, filter, find, is_some, nat_lt, IsTrue, option_map}
use Rattle.std.specs.List.{list_any, slice_get, AllByRecursion}
use Rattle.std.specs.Option.{option_map_or}
use Rattle.std.proofs.lemmas.Bool.{cases_Bool, eq-eqb, lt-ltb}
use Rattle.fwd_base.specs.Limits.{full_chunk}
use Rattle.fwd_outside.specs.declared.home.Home.{Home}
use Rattle.fwd_outside.specs.declared.home.Home.TheVariants.{Disk, Ram}
use Rattle.fwd_chunk.specs.declared.kept.Kept.{Kept}
use Rattle.fwd_chunk.specs.Kept.{size_of_optional}
use Rattle.fwd_settings.specs.declared.settings_types.AllSettings.{AllSettings}
use Rattle.fwd_settings.specs.declared.settings_types.InputSet.{InputSet}
use Rattle.fwd_settings.specs.Requirements.{MeetsRequirements}
use Rattle.fwd_store.specs.StoreState.{Stored}
use Rattle.fwd_store.specs.Store.{has_room, chunk_for}
use Rattle.fwd_model.specs.Fact.{History}
use Rattle.fwd_model.specs.Settings.{input_at, home_by, home_at}
use Rattle.fwd_model.specs.Chunks.{ChunkInfo, open_chunks, open_chunk, is_from, size}
use Rattle.fwd_model.specs.ChunkStorage.{kept_of}
use Rattle.fwd_engine_state.specs.StateRepresents.{is_open}
use Rattle.fwd_engine_state.specs.StoreRepresents.{StoreRepresents}
use Rattle.fwd_engine_state.specs.HistoryInvariant.{IsSound}
use Rattle.fwd_engine_state.proofs.AcceptedBatches.{chunk_is}
use Rattle.fwd_engine_state.proofs.OpenChunks.{numbered}

-- ---- the folder

stored_path : {P : Type 0} (sets : List InputSet) (i : ℕ) → AllByRecursion (λ set. IsTrue set.stored → P) sets → option_map_or (λ (set : InputSet). set.stored) (slice_get sets i) false ≡ true → P
stored_path [] i each is = absurd (cc is)
stored_path (set ∷ sets) zero each is = each.0 is
stored_path (set ∷ sets) (suc i) each is = stored_path sets i each.1 is

in_file : (stored : Bool) → home_by stored ≡ Disk → stored ≡ true
in_file true is = refl
in_file false is = absurd (cc is)

-- the store has a folder if the input keeps its chunks in files
pub has_folder : (s : AllSettings) (h : History) (store : Stored) (input : ℕ) → MeetsRequirements s → StoreRepresents s store h → home_at s input ≡ Disk → is_some store.root ≡ true
has_folder s h store input meets held home = ap is_some held.root ∙ there s.service.path (stored_path s.inputs input meets.stored (in_file _ home))
  where
    there : (path : Option (List ℕ)) → IsSome path → is_some path ≡ true
    there None is = absurd (cc is)
    there (Some path) is = refl

-- ---- the room

found_is_there : (p : ChunkInfo → Bool) (cs : List ChunkInfo) (c : ChunkInfo) → find p cs ≡ Some c → list_any (λ (x : ChunkInfo). x.number == c.number) cs ≡ true
found_is_there p [] c there = absurd (cc there)
found_is_there p (x ∷ cs) c there = elim (cases_Bool (p x)) [
  | inl is ↦
      let first : Some x ≡ Some c = rw is at there in
      let e : x ≡ c = cc first in
      rw (eq-eqb x.number c.number (ap numbered e)) refl
  | inr isnt ↦ elim (cases_Bool (x.number == c.number)) [
    | inl same ↦ rw same refl
    | inr differs ↦ rw differs (found_is_there p cs c (rw isnt at there))
  ]
]

-- the open chunk of an input and a tag isn't full
pub has_room_left : (s : AllSettings) (h : History) (store : Stored) (input : ℕ) (tag : List ℕ) → StoreRepresents s store h → IsSound s h None → has_room store (chunk_for store input tag) ≡ true
has_room_left s h store input tag held sound = ap (has_room store) (chunk_is s store h input tag held) ∙ by (open_chunk h input tag) refl
  where
    small : (n : ℕ) (o : Option Kept) → kept_of s h n ≡ o → size h n < full_chunk → size_of_optional o < full_chunk
    small n None is below = omega arith
    small n (Some kept) is below = rw (sound.sized n kept is) below

    by : (o : Option ChunkInfo) → open_chunk h input tag ≡ o → has_room store (option_map numbered o) ≡ true
    by None is = refl
    by (Some c) is =
        let still : is_open h c.number ≡ true = found_is_there _ (open_chunks h) c is in
        let below = sound.room c.number still (λ e. absurd (cc e)) in
        rw (held.chunks c.number) (lt-ltb _ full_chunk (small c.number (kept_of s h c.number) refl below))
