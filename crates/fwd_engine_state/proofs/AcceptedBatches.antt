-- Batches that the store accepted.
use Rattle.std.proofs.Common.{◌≡◌, ℕ, ◌+◌, ◌<◌, Bool, true, false, not, cond, nat_eq, inl, inr, List, [], ◌∷◌, ◌++◌, length, map, Option, Some, None, refl, sym, ◌∙◌, ap, arith}
use Rattle.std.specs.Prelude.{◌==◌, ◌&&◌, nat_lt, option_map, max}
use Rattle.std.specs.FinMap as map
use Rattle.std.proofs.lemmas.Bool.{cases_Bool}
use Rattle.fwd_base.specs.Limits.{largest_batch, numbers_end}
use Rattle.fwd_outside.specs.declared.home.Home.{Home}
use Rattle.fwd_chunk.specs.declared.kept.Kept.{Kept}
use Rattle.fwd_chunk.specs.Kept.{after_append}
use Rattle.fwd_settings.specs.declared.settings_types.AllSettings.{AllSettings}
use Rattle.fwd_store.specs.OpenChunk.{Opened, open_for}
use Rattle.fwd_store.specs.StoreState.{Stored}
use Rattle.fwd_store.specs.Store.{chunk_for, new_name, new_kept, with_new, with_kept, with_number_used, begins_as, append_to_program, accept_program}
use Rattle.fwd_model.specs.Fact.{History, Batch, NewChunk, AppendedTo, Offered, Accepted}
use Rattle.fwd_model.specs.Settings.{home_at, input_name, names_for}
use Rattle.fwd_model.specs.Chunks.{ChunkInfo, next, is_closed, open_chunk, encoded}
use Rattle.fwd_model.specs.ChunkStorage.{kept_of, name_for, created_with, grown_by}
use Rattle.fwd_engine_state.specs.StoreRepresents.{StoreRepresents, opened_of}
use Rattle.fwd_engine_state.proofs.ChunkMap.{get_inserted, same_number}
use Rattle.fwd_engine_state.proofs.OpenChunks.{opened_first, opened_behind, numbered, open_same}

and_not_some : (b : Bool) → (b && not true) ≡ false
and_not_some true = refl
and_not_some false = refl

-- a batch in the store's terms
pub record IsHanded (s : AllSettings) (b : Batch) (stream : List ℕ) (home : Home) (bytes : List ℕ) (outputs : List (List ℕ)) : Type 0 where
  pub in_folder : stream ≡ input_name s b.input
  pub at_home : home ≡ home_at s b.input
  pub encoding : bytes ≡ encoded b.events
  pub names : outputs ≡ names_for s b.tag

next_up : (n : ℕ) → max n (n + 1) ≡ n + 1
next_up n = omega arith

next_stays : (n k : ℕ) → k < n → max n (k + 1) ≡ n
next_stays n k less = omega (arith, less)

-- ---- a chunk begins

kept_first : (s : AllSettings) (h : History) (b : Batch) (n q : ℕ) (before : Option Kept) → before ≡ kept_of s h q
    → cond (nat_eq n q) (Some (created_with s b n)) before ≡ kept_of s (Accepted b (NewChunk n) ∷ Offered n b ∷ h) q
kept_first s h b n q before is = ap (λ (o : Option Kept). cond (nat_eq n q) (Some (created_with s b n)) o) is

pub store_after_begin : (s : AllSettings) (store : Stored) (h : History) (b : Batch) (kept : Kept) → is_closed h (next h) ≡ false → kept ≡ created_with s b (next h)
    → StoreRepresents s store h → StoreRepresents s (with_new store b.input b.tag kept) (Accepted b (NewChunk (next h)) ∷ Offered (next h) b ∷ h)
store_after_begin s store h b kept fresh is held = record {
  root = held.root;
  full = held.full;
  next = ap (λ (n : ℕ). n + 1) held.next ∙ sym (next_up (next h));
  opened = ap (λ (n : ℕ). store.opened ++ record { input = b.input; tag = b.tag; chunk = n } ∷ []) held.next
      ∙ ap (λ (l : List Opened). l ++ record { input = b.input; tag = b.tag; chunk = next h } ∷ []) held.opened ∙ opened_first b (next h) h fresh;
  chunks = λ q. get_inserted store.chunks store.next kept q
      ∙ (λ i. cond (nat_eq (held.next i) q) (Some (is i)) (map.get store.chunks q))
      ∙ kept_first s h b (next h) q (map.get store.chunks q) (held.chunks q);
}

-- where the store keeps it, in the store's terms
pub kept_new : (s : AllSettings) (store : Stored) (h : History) (b : Batch) (stream : List ℕ) (home : Home) (bytes : List ℕ) (outputs : List (List ℕ))
    → IsHanded s b stream home bytes outputs → StoreRepresents s store h → new_kept (new_name store stream) b.tag home bytes outputs ≡ created_with s b (next h)
kept_new s store h b stream home bytes outputs handed held =
    rw (handed.in_folder, handed.at_home, handed.encoding, handed.names, held.root, held.next) refl

-- ---- a chunk grows

kept_behind : (s : AllSettings) (h : History) (b : Batch) (n q : ℕ) (kept : Kept) (before : Option Kept) → before ≡ kept_of s h q → kept_of s h n ≡ Some kept
    → cond (nat_eq n q) (Some (after_append kept (encoded b.events))) before ≡ kept_of s (Accepted b (AppendedTo n) ∷ Offered n b ∷ h) q
kept_behind s h b n q kept before is had = elim (cases_Bool (nat_eq n q)) [
  | inl same ↦ rw same (ap (grown_by (encoded b.events)) (sym had ∙ ap (kept_of s h) (same_number n q same)))
  | inr differs ↦ rw differs is
]

pub store_after_append : (s : AllSettings) (store : Stored) (h : History) (b : Batch) (n : ℕ) (kept : Kept) → n < next h → map.get store.chunks n ≡ Some kept
    → StoreRepresents s store h → StoreRepresents s (with_kept store n (after_append kept (encoded b.events))) (Accepted b (AppendedTo n) ∷ Offered n b ∷ h)
store_after_append s store h b n kept below had held = record {
  root = held.root;
  full = held.full;
  next = held.next ∙ sym (next_stays (next h) n below);
  opened = held.opened ∙ ap (map opened_of) (sym (opened_behind b n h));
  chunks = λ q. get_inserted store.chunks n (after_append kept (encoded b.events)) q ∙ kept_behind s h b n q kept (map.get store.chunks q) (held.chunks q) (sym (held.chunks n) ∙ had);
}

-- ---- which chunk accepts a batch, and the calls for it

pub chunk_is : (s : AllSettings) (store : Stored) (h : History) (input : ℕ) (tag : List ℕ) → StoreRepresents s store h → chunk_for store input tag ≡ option_map numbered (open_chunk h input tag)
chunk_is s store h input tag held = ap (λ (l : List Opened). open_for l input tag) held.opened ∙ open_same h input tag

-- the calls if a chunk is open
pub calls_appends : (s : AllSettings) (store : Stored) (h : History) (b : Batch) (stream : List ℕ) (home : Home) (bytes : List ℕ) (outputs : List (List ℕ)) (c : ChunkInfo)
    → IsHanded s b stream home bytes outputs → nat_lt largest_batch (length bytes) ≡ false → open_chunk h b.input b.tag ≡ Some c → StoreRepresents s store h
    → accept_program store b.input stream b.tag home bytes outputs ≡ append_to_program (kept_of s h c.number) (encoded b.events) s.service.full
calls_appends s store h b stream home bytes outputs c handed short is held =
    let at : chunk_for store b.input b.tag ≡ Some c.number = chunk_is s store h b.input b.tag held ∙ ap (option_map numbered) is in
    rw (short, at, and_not_some (store.next == numbers_end)) (rw (held.chunks c.number, handed.encoding, held.full) refl)

-- the calls if none is open and a number is left
pub calls_begins : (s : AllSettings) (store : Stored) (h : History) (b : Batch) (stream : List ℕ) (home : Home) (bytes : List ℕ) (outputs : List (List ℕ))
    → IsHanded s b stream home bytes outputs → nat_lt largest_batch (length bytes) ≡ false → open_chunk h b.input b.tag ≡ None → (next h == numbers_end) ≡ false → StoreRepresents s store h
    → accept_program store b.input stream b.tag home bytes outputs ≡ begins_as (name_for s b.input (next h)) b.tag (home_at s b.input) (encoded b.events) (names_for s b.tag)
calls_begins s store h b stream home bytes outputs handed short is left held =
    let at : chunk_for store b.input b.tag ≡ None = chunk_is s store h b.input b.tag held ∙ ap (option_map numbered) is in
    let some : (store.next == numbers_end) ≡ false = ap (λ (n : ℕ). n == numbers_end) held.next ∙ left in
    rw (short, at, some) (rw (handed.in_folder, handed.at_home, handed.encoding, handed.names, held.root, held.next) refl)

-- ---- batches that weren't accepted

-- a number whose atomic create failed is used up
pub store_after_used_number : (s : AllSettings) (store : Stored) (h : History) (b : Batch) → StoreRepresents s store h → StoreRepresents s (with_number_used store) (Offered (next h) b ∷ h)
store_after_used_number s store h b held = record {
  root = held.root;
  full = held.full;
  next = ap (λ (n : ℕ). n + 1) held.next ∙ sym (next_up (next h));
  opened = held.opened;
  chunks = held.chunks;
}

-- a batch that was offered to an existing chunk changes nothing
pub store_after_offer : (s : AllSettings) (store : Stored) (h : History) (b : Batch) (n : ℕ) → n < next h → StoreRepresents s store h → StoreRepresents s store (Offered n b ∷ h)
store_after_offer s store h b n below held = record {
  root = held.root;
  full = held.full;
  next = held.next ∙ sym (next_stays (next h) n below);
  opened = held.opened;
  chunks = held.chunks;
}
