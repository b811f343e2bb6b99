-- The routes to the outputs of a mask.
use Rattle.std.proofs.Common.{◌≡◌, ℕ, ◌+◌, ◌≤◌, cond, List, [], ◌∷◌, ◌++◌, refl, sym, ◌∙◌, arith}
use Rattle.std.specs.Prelude.{◌==◌}
use Rattle.std.specs.Int.{bit_at}
use Rattle.std.proofs.lemmas.List.FromFn.{filter_of_map_range_with_len_more}
use Rattle.std.proofs.lemmas.List.{append-nil}
use Rattle.std.proofs.lemmas.Bool.{ne_eqb}
use Rattle.fwd_table_rows.specs.declared.route.Route.{Route}
use Rattle.fwd_table_rows.specs.Routes.{RiseFrom, idle_at, routes_below}
use Rattle.fwd_table_rows.proofs.RouteOrder.{rise-filter, rise-range}

pub routes_below-none : (mask : ℕ) → routes_below 0 mask ≡ []
unfolding routes_below
routes_below-none mask = refl

pub routes_below-more : (n mask : ℕ) → routes_below (n + 1) mask ≡ routes_below n mask ++ cond (bit_at mask n == 1) (idle_at 0 (record { 0 = n }) ∷ []) []
unfolding routes_below
routes_below-more n mask =
    filter_of_map_range_with_len_more (λ (r : Route). bit_at mask r.output.0 == 1) (λ i. idle_at 0 (record { 0 = i })) 0 n n (omega arith)

pub rise-routes_below : (n mask : ℕ) → n ≤ 64 → RiseFrom 0 (routes_below n mask)
unfolding routes_below
rise-routes_below n mask within = rise-filter _ 0 _ (rise-range 0 n (omega (arith, within)))

-- a route is added if its bit is set
pub put_set : (n mask : ℕ) (routes : List Route) (r : Route) → bit_at mask n ≡ 1 → r ≡ idle_at 0 (record { 0 = n }) → routes ≡ routes_below n mask → routes ++ r ∷ [] ≡ routes_below (n + 1) mask
put_set n mask routes r set is before = rw (routes_below-more n mask, set, is, before) refl

pub put_clear : (n mask : ℕ) (routes : List Route) → (bit_at mask n ≡ 1 → ⊥) → routes ≡ routes_below n mask → routes ≡ routes_below (n + 1) mask
put_clear n mask routes clear before = rw (routes_below-more n mask, ne_eqb (bit_at mask n) 1 clear) (before ∙ sym (append-nil (routes_below n mask)))
