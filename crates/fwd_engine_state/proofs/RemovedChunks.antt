-- Chunks that the store closed or dropped.
use Rattle.std.proofs.Common.{◌≡◌, ℕ, true, cond, nat_eq, ◌∷◌, Option, None, ◌∙◌, ap}
use Rattle.fwd_chunk.specs.declared.kept.Kept.{Kept}
use Rattle.fwd_settings.specs.declared.settings_types.AllSettings.{AllSettings}
use Rattle.fwd_store.specs.OpenChunk.{without}
use Rattle.fwd_store.specs.StoreState.{Stored}
use Rattle.fwd_store.specs.Store.{sealed, without_chunk}
use Rattle.fwd_model.specs.Fact.{History, ChunkClosed, Removed, FileLeft}
use Rattle.fwd_model.specs.Chunks.{is_closed}
use Rattle.fwd_engine_state.specs.StoreRepresents.{StoreRepresents}
use Rattle.fwd_engine_state.proofs.ChunkMap.{get_removed}
use Rattle.fwd_engine_state.proofs.OpenChunks.{opened_shut, opened_without_shut}

-- a chunk closes
pub store_after_close : (s : AllSettings) (store : Stored) (h : History) (n : ℕ) → StoreRepresents s store h → StoreRepresents s (sealed store n) (ChunkClosed n ∷ h)
store_after_close s store h n held = record {
  root = held.root;
  full = held.full;
  next = held.next;
  opened = ap (without n) held.opened ∙ opened_shut n h;
  chunks = held.chunks;
}

-- a dropped chunk isn't held any more, whether its file was removed or not
pub store_after_drop : (s : AllSettings) (store : Stored) (h : History) (n : ℕ) → is_closed h n ≡ true → StoreRepresents s store h → StoreRepresents s (without_chunk store n) (Removed n ∷ h)
store_after_drop s store h n done held = record {
  root = held.root;
  full = held.full;
  next = held.next;
  opened = ap (without n) held.opened ∙ opened_without_shut n h done;
  chunks = λ q. get_removed store.chunks n q ∙ ap (λ (o : Option Kept). cond (nat_eq n q) None o) (held.chunks q);
}

pub store_after_leave : (s : AllSettings) (store : Stored) (h : History) (n : ℕ) → is_closed h n ≡ true → StoreRepresents s store h → StoreRepresents s (without_chunk store n) (FileLeft n ∷ h)
store_after_leave s store h n done held = record {
  root = held.root;
  full = held.full;
  next = held.next;
  opened = ap (without n) held.opened ∙ opened_without_shut n h done;
  chunks = λ q. get_removed store.chunks n q ∙ ap (λ (o : Option Kept). cond (nat_eq n q) None o) (held.chunks q);
}
