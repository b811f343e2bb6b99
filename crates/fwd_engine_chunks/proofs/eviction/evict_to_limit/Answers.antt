use Rattle.std.proofs.Common.{◌≡◌, ◌≢◌, List, [], ◌∷◌, length, map, Some, None, sym, ◌∙◌, ap, arith}
use Rattle.fwd_base.specs.declared.ids.ChunkId.{ChunkId}
use Rattle.fwd_limits.specs.Evictions.{next_eviction}
use Rattle.fwd_limits.specs.declared.eviction.Loss.TheVariants.{Fits, Lose, NewLoses}
use Rattle.fwd_model.specs.Fact.{History, Route, OnRoute, Evicted}
use Rattle.fwd_model.specs.Routes.{route, rows_of}
use Rattle.fwd_model.specs.Limits.{evictions_to}
use Rattle.fwd_model.specs.CloseActions.{loses}
use Rattle.fwd_model.proofs.Actions.{stays, goes_on, leads_bind, begun_bind, begun_trans}
use Rattle.fwd_model.proofs.Refinement.{refines_after, refines_err}
use Rattle.fwd_engine_state.proofs.Evictions.{fits_next, new_next, lose_next, lose_apart}
use Rattle.fwd_engine_state.proofs.EvictedRoutes.{lose_idle}
use Rattle.fwd_engine_state.specs.RefinesAction.{with_disk}
use Rattle.fwd_engine_chunks.specs.Evictions.{evicts}
use Rattle.fwd_engine_chunks.proofs.ActionResults.{ended, leads_at}
use Rattle.fwd_engine_chunks.proofs.ResolutionFrame.{Later, gives_up_later, loses_last, none_left}
use Rattle.fwd_engine_chunks.proofs.EvictionIndependence.{idle_beside, few_losses, losses_same, idle_same}
use Rattle.fwd_engine_chunks.proofs.eviction.evict_to_limit.Goals as goal

pub loop-turn-init : goal.loop-turn-init
loop-turn-init g c = (
  omega arith,
  λ others h shows idle.
      let s = c.args.run.now in
      let few = few_losses s h c.args.chunk.0 c.args.output.0 c.args.limit idle in
      let long = ap length (c.table.ensures s h None shows.state) in
      let turns = c.len-turns.ensures in
      (h, shows, idle, omega (arith, few, long, turns), stays (with_disk (g.D.Disk.call_log c.args.disk.now) others) (loses s (evictions_to s h c.args.chunk.0 c.args.output.0 (Some c.args.limit)) h)),
)

pub returns-in-Fits-clause-acts : goal.returns-in-Fits-clause-acts
returns-in-Fits-clause-acts g c others h shows idle =
    let s = c.args.run.now in
    let so_far = c.loop-turn.invariant.1 others h shows idle in
    let is : next_eviction c.args.output c.args.limit c.args.chunk (rows_of s so_far.0) ≡ Fits = sym (c.next_loss.ensures s so_far.0 None so_far.1.state) ∙ c.in-Fits.is in
    let none : evictions_to s so_far.0 c.args.chunk.0 c.args.output.0 (Some c.args.limit) ≡ [] =
    ap (map (λ (lost : ChunkId). route lost.0 c.args.output.0)) (fits_next s so_far.0 c.args.output c.args.limit c.args.chunk so_far.1.state.numbers is) in
    let left = leads_at so_far.4 (ap (λ (rs : List Route). loses s rs so_far.0) none) in
    record { result = so_far.0; did = left; shows = so_far.1 }

pub returns-in-NewLoses-clause-acts : goal.returns-in-NewLoses-clause-acts
returns-in-NewLoses-clause-acts g c others h shows idle =
    let s = c.args.run.now in
    let r : Route = route c.args.chunk.0 c.args.output.0 in
    let so_far = c.loop-turn.invariant.1 others h shows idle in
    let is : next_eviction c.args.output c.args.limit c.args.chunk (rows_of s so_far.0) ≡ NewLoses = sym (c.next_loss.ensures s so_far.0 None so_far.1.state) ∙ c.in-NewLoses.is in
    let one : evictions_to s so_far.0 c.args.chunk.0 c.args.output.0 (Some c.args.limit) ≡ r ∷ [] =
    ap (map (λ (lost : ChunkId). route lost.0 c.args.output.0)) (new_next s so_far.0 c.args.output c.args.limit c.args.chunk so_far.1.state.numbers is) in
    let left = leads_at so_far.4 (ap (λ (rs : List Route). loses s rs so_far.0) one ∙ sym (loses_last s r so_far.0)) in
    refines_after _ _ (loses s (evictions_to s h c.args.chunk.0 c.args.output.0 (Some c.args.limit)) h) (evicts s r so_far.0) c.evict_route.result left
    (c.evict_route.ensures.acts others so_far.0 so_far.1 so_far.2)

pub returns-in_err-evict_route-in-Lose-clause-acts : goal.returns-in_err-evict_route-in-Lose-clause-acts
returns-in_err-evict_route-in-Lose-clause-acts g c others h shows idle =
    let s = c.args.run.now in
    let r : Route = route c.in-Lose.chunk.0 c.args.output.0 in
    let so_far = c.loop-turn.invariant.1 others h shows idle in
    let is : next_eviction c.args.output c.args.limit c.args.chunk (rows_of s so_far.0) ≡ Lose c.in-Lose.chunk = sym (c.next_loss.ensures s so_far.0 None so_far.1.state) ∙ c.in-Lose.is in
    let rest : List Route = evictions_to s (OnRoute r Evicted ∷ so_far.0) c.args.chunk.0 c.args.output.0 (Some c.args.limit) in
    let more : evictions_to s so_far.0 c.args.chunk.0 c.args.output.0 (Some c.args.limit) ≡ r ∷ rest =
    ap (map (λ (lost : ChunkId). route lost.0 c.args.output.0)) (lose_next s so_far.0 c.args.output c.args.limit c.args.chunk c.in-Lose.chunk so_far.1.state.numbers is) in
    let left = leads_at so_far.4 (ap (λ (rs : List Route). loses s rs so_far.0) more) in
    let waits = lose_idle s so_far.0 c.args.output c.args.limit c.args.chunk c.in-Lose.chunk so_far.1.state.numbers is in
    refines_err _ (loses s (evictions_to s h c.args.chunk.0 c.args.output.0 (Some c.args.limit)) h) c.from_residual.result c.from_residual.ensures.0
    (begun_trans left (begun_bind {p = evicts s r so_far.0} (loses s rest) (c.in_err-evict_route-in-Lose.ensures.acts others so_far.0 so_far.1 waits)))

pub loop-turn-preserved : goal.loop-turn-preserved
loop-turn-preserved g c = (
  let before = c.loop-turn.invariant.0 in let later = c.in_ok-evict_route-in-Lose.ensures.later in omega (arith, before, later),
  λ others h shows idle.
      let s = c.args.run.now in
      let n = c.args.chunk.0 in
      let o = c.args.output.0 in
      let limit = c.args.limit in
      let r : Route = route c.in-Lose.chunk.0 o in
      let so_far = c.loop-turn.invariant.1 others h shows idle in
      let now : History = so_far.0 in
      let is : next_eviction c.args.output limit c.args.chunk (rows_of s now) ≡ Lose c.in-Lose.chunk = sym (c.next_loss.ensures s now None so_far.1.state) ∙ c.in-Lose.is in
      let rest : List Route = evictions_to s (OnRoute r Evicted ∷ now) n o (Some limit) in
      let more : evictions_to s now n o (Some limit) ≡ r ∷ rest =
      ap (map (λ (lost : ChunkId). route lost.0 o)) (lose_next s now c.args.output limit c.args.chunk c.in-Lose.chunk so_far.1.state.numbers is) in
      let left = leads_at so_far.4 (ap (λ (rs : List Route). loses s rs now) more) in
      let waits = lose_idle s now c.args.output limit c.args.chunk c.in-Lose.chunk so_far.1.state.numbers is in
      let acted = c.in_ok-evict_route-in-Lose.ensures.acts others now so_far.1 waits in
      let end : History = acted.result in
      let later : Later s (OnRoute r Evicted ∷ now) end = ended (Later s (OnRoute r Evicted ∷ now)) (evicts s r now) end acted.did (gives_up_later s r now) in
      let same : evictions_to s end n o (Some limit) ≡ rest = losses_same s (OnRoute r Evicted ∷ now) end later.rows n o (Some limit) in
      let apart : n ≢ c.in-Lose.chunk.0 = lose_apart c.args.output limit c.args.chunk c.in-Lose.chunk (rows_of s now) is in
      let still = idle_same s (OnRoute r Evicted ∷ now) end later.rows (route n o) ∙ idle_beside s now r n o apart so_far.2 in
      let long = ap length more in
      let after = ap length same in
      let within = so_far.3 in (
        end,
        acted.shows,
        still,
        omega (arith, long, after, within),
        goes_on left (leads_at (leads_bind {p = evicts s r now} (loses s rest) acted.did (stays (with_disk (g.D.Disk.call_log c.evict_route-in-Lose.new.disk) others) _)) (ap (λ (rs : List Route). loses s rs end) (sym same))),
      ),
)

pub returns-clause-acts : goal.returns-clause-acts
returns-clause-acts g c others h shows idle =
    let s = c.args.run.now in
    let so_far = c.loop-turn.invariant.1 others h shows idle in
    let none = none_left (evictions_to s so_far.0 c.args.chunk.0 c.args.output.0 (Some c.args.limit)) c.loop-turn._turn c.len-turns.result so_far.3 (omega arith) in
    let left = leads_at so_far.4 (ap (λ (rs : List Route). loses s rs so_far.0) none) in
    record { result = so_far.0; did = left; shows = so_far.1 }
