-- The routes of a chunk: the outputs that it is pending for, by rising number.
use Rattle.std.specs.Prelude.{◌≡◌, ◌↔◌, ℕ, ◌+◌, ◌-◌, ◌^◌, ◌<◌, ◌≤◌, ◌==◌, ◌&&◌, min}
use Rattle.std.specs.Prelude.{Bool, true, false, not, List, Option}
use Rattle.std.specs.Prelude.{[], ◌∷◌, map, filter, find, sum_by, Any, IsBitSet, if◌then◌else◌}
use Rattle.std.specs.List.{range_with_len}
use Rattle.std.specs.Int.{bit_at}
use Rattle.std.specs.Option.{option_map_or}
use Rattle.fwd_base.specs.Limits.{most_outputs}
use Rattle.fwd_base.specs.declared.ids.ChunkId.{ChunkId}
use Rattle.fwd_base.specs.declared.ids.OutputId.{OutputId}
use Rattle.fwd_retry.specs.declared.timer.Timer.{Timer}
use Rattle.fwd_retry.specs.Timer.{is_next}
use Rattle.fwd_table_rows.specs.declared.route.Route.{Route}

-- addition that saturates at 2^64 - 1
abbrev pub saturating_plus : ℕ → ℕ → ℕ
saturating_plus a b = min (a + b) (2 ^ 64 - 1)

-- the outputs rise, from a number on, and all are valid
abbrev pub RiseFrom : ℕ → List Route → Type 0
RiseFrom n [] = Unit {0}
RiseFrom n (r ∷ rs) = (n ≤ r.output.0) × (r.output.0 < most_outputs) × RiseFrom (r.output.0 + 1) rs

-- a route that is idle, due at a time and not tried yet
abbrev pub idle_at : ℕ → OutputId → Route
idle_at due output = record { output = output; due = due; tries = 0; flying = false }

-- the routes to the outputs below n whose bits are set in a mask
unfoldable pub routes_below : ℕ → ℕ → List Route
routes_below n mask =
    filter (λ r. bit_at mask r.output.0 == 1) (map (λ i. idle_at 0 (record { 0 = i })) (range_with_len 0 n))

-- the routes to the outputs whose bits are set in a mask
abbrev pub routes_to : ℕ → List Route
routes_to mask = routes_below most_outputs mask

-- the mask of outputs that are different
abbrev pub mask_of : List Route → ℕ
mask_of routes = sum_by (λ r. 2 ^ r.output.0) routes

-- bit i of the mask is set exactly if one of the routes is to output i
abbrev pub IsMaskOf : List Route → ℕ → Type 0
IsMaskOf routes mask = (i : ℕ) → IsBitSet mask i ↔ Any (λ r. r.output.0 ≡ i) routes

-- the routes in flight
abbrev pub flying_of : List Route → List Route
flying_of routes = filter (λ r. r.flying) routes

-- whether it is the route to this output
abbrev pub is_to : OutputId → Route → Bool
is_to output r = r.output.0 == output.0

-- how many flushes to an output have failed, 0 if there is no such route
abbrev pub tries_to : OutputId → List Route → ℕ
tries_to output routes = option_map_or (λ r. r.tries) (find (is_to output) routes) 0

-- the routes, with the one to this output changed
abbrev pub on_output : OutputId → (Route → Route) → List Route → List Route
on_output output f routes = map (λ r. if is_to output r then f r else r) routes

-- the routes without the one to this output
abbrev pub without_output : OutputId → List Route → List Route
without_output output routes = filter (λ r. not (is_to output r)) routes

-- a route whose flush starts
abbrev pub started : Route → Route
started r = record r { flying = true }

-- a route that is idle again, with its due time and tries
abbrev pub stayed : Route → Route
stayed r = record r { flying = false }

-- a route that is due at another time
abbrev pub due_at : ℕ → Route → Route
due_at due r = record r { due = due }

-- a route that has failed once more and is due at another time
abbrev pub retried : ℕ → Route → Route
retried due r = record r { due = due; tries = saturating_plus r.tries 1; flying = false }

-- the timer of a chunk's route
abbrev pub timer_of : ChunkId → Route → Timer
timer_of chunk r = record { due = r.due; chunk = chunk; output = r.output }

-- the timers of the idle routes
abbrev pub idle_timers : ChunkId → List Route → List Timer
idle_timers chunk routes = map (timer_of chunk) (filter (λ r. not r.flying) routes)

-- whether the output of a timer is in a mask
abbrev pub is_in : ℕ → Timer → Bool
is_in outputs timer = bit_at outputs timer.output.0 == 1

-- whether a timer is due at a time and comes after the given one, and its output is in a mask
abbrev pub is_next_to : ℕ → ℕ → Option Timer → Timer → Bool
is_next_to now outputs after timer = is_next now after timer && is_in outputs timer
