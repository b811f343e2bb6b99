-- Routes whose outputs rise.
use Rattle.std.proofs.Common.{◌≡◌, ℕ, zero, suc, ◌+◌, ◌<◌, ◌≤◌, Bool, true, false, cond, List, [], ◌∷◌, length, get_or, map, refl, arith}
use Rattle.std.specs.Prelude.{filter, if◌then◌else◌}
use Rattle.std.specs.List.{range_with_len}
use Rattle.fwd_table_rows.specs.declared.route.Route.{Route}
use Rattle.fwd_table_rows.specs.declared.route.Change.{Change}
use Rattle.fwd_table_rows.specs.declared.route.Change.TheVariants.{Starts, Stays, Retries}
use Rattle.fwd_base.specs.declared.ids.OutputId.{OutputId}
use Rattle.fwd_table_rows.specs.Routes.{RiseFrom, idle_at, is_to, on_output}
use Rattle.fwd_table_rows.specs.Changes.{with_change}

pub rise_later : (m n : ℕ) (rs : List Route) → m ≤ n → RiseFrom n rs → RiseFrom m rs
rise_later m n [] within rise = tt
rise_later m n (r ∷ rs) within rise = let first : n ≤ r.output.0 = rise.0 in (omega (arith, within, first), rise.1, rise.2)

rise_filter_by : (n : ℕ) (r : Route) (kept : List Route) (test : Bool) → n ≤ r.output.0 → r.output.0 < 64 → RiseFrom (r.output.0 + 1) kept → RiseFrom n (cond test (r ∷ kept) kept)
rise_filter_by n r kept true first below rise = (first, below, rise)
rise_filter_by n r kept false first below rise = rise_later n (r.output.0 + 1) kept (omega (arith, first)) rise

pub rise-filter : (p : Route → Bool) (n : ℕ) (rs : List Route) → RiseFrom n rs → RiseFrom n (filter p rs)
rise-filter p n [] rise = tt
rise-filter p n (r ∷ rs) rise = rise_filter_by n r (filter p rs) (p r) rise.0 rise.1 (rise-filter p (r.output.0 + 1) rs rise.2)

pub rise-map : (f : Route → Route) → ((r : Route) → (f r).output.0 ≡ r.output.0) → (n : ℕ) (rs : List Route) → RiseFrom n rs → RiseFrom n (map f rs)
rise-map f same n [] rise = tt
rise-map f same n (r ∷ rs) rise = (
  rw (same r) rise.0,
  rw (same r) rise.1,
  rw (same r) (rise-map f same (r.output.0 + 1) rs rise.2),
)

pub rise-range : (a n : ℕ) → a + n ≤ 64 → RiseFrom a (map (λ i. idle_at 0 (record { 0 = i })) (range_with_len a n))
rise-range a zero within = tt
rise-range a (suc n) within = (omega arith, omega (arith, within), rise-range (a + 1) n (omega (arith, within)))

pub output_below : (n : ℕ) (rs : List Route) (i : ℕ) (d : Route) → RiseFrom n rs → i < length rs → (get_or rs i d).output.0 < 64
output_below n [] i d rise within = absurd (omega (arith, within))
output_below n (r ∷ rs) zero d rise within = rise.1
output_below n (r ∷ rs) (suc i) d rise within = output_below (r.output.0 + 1) rs i d rise.2 (omega (arith, within))

changed_keeps : (change : Change) (r : Route) → (with_change change r).output.0 ≡ r.output.0
changed_keeps Starts r = refl
changed_keeps Stays r = refl
changed_keeps (Retries due) r = refl

keeps_by : (test : Bool) (change : Change) (r : Route) → (if test then with_change change r else r).output.0 ≡ r.output.0
keeps_by true change r = changed_keeps change r
keeps_by false change r = refl

pub rise-on_output : (output : OutputId) (change : Change) (n : ℕ) (rs : List Route) → RiseFrom n rs → RiseFrom n (on_output output (with_change change) rs)
rise-on_output output change n rs rise = rise-map _ (λ r. keeps_by (is_to output r) change r) n rs rise
