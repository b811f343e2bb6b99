use Rattle.std.proofs.Common.{◌≡◌, ℕ, true, false, ◌∷◌, Option, Some, None, map, refl, ap}
use Rattle.std.specs.Prelude.{◌==◌}
use Rattle.fwd_base.specs.declared.ids.ChunkId.{ChunkId}
use Rattle.fwd_settings.specs.declared.settings_types.AllSettings.{AllSettings}
use Rattle.fwd_model.specs.Fact.{History, Route, OnRoute, Evicted}
use Rattle.fwd_model.specs.Chunks.{chunks_of, next}
use Rattle.fwd_model.specs.Routes.{route, owes}
use Rattle.fwd_model.specs.Limits.{evictions_to}
use Rattle.fwd_engine_state.specs.StateRepresents.{NumbersRise}
use Rattle.fwd_engine_state.proofs.EvictionIndependence.{lost_same}
use Rattle.fwd_engine_state.proofs.lemmas.lemma_evictions_are_independent.Goals as goal

by : (s : AllSettings) (h : History) (r : Route) (other chunk : ℕ) (limit : Option ℕ) → NumbersRise 0 (next h) (chunks_of h) → (r.output == other) ≡ false → owes s (OnRoute r Evicted ∷ h) chunk ≡ true
    → evictions_to s (OnRoute r Evicted ∷ h) chunk other limit ≡ evictions_to s h chunk other limit
by s h r other chunk None rise apart is = refl
by s h r other chunk (Some limit) rise apart is = ap (map (λ (lost : ChunkId). route lost.0 other)) (lost_same s r h other apart limit chunk rise is)

pub returns : goal.returns
returns c s state h out r other chunk limit before apart is = by s h r other chunk limit before.numbers apart is
