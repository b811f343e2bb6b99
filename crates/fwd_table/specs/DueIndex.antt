-- The index of a table: the timers of all idle routes, by output, then due time, then chunk.
use Rattle.std.specs.Prelude.{◌≡◌, ◌==◌, ◌&&◌, Bool, true, false, not, List, filter, Option, IfSome, MatchOption}
use Rattle.std.specs.declared.cmp.Ordering.{Ordering}
use Rattle.std.specs.List.{list_any}
use Rattle.std.specs.Ordering.{eq_by_cmp, nat_cmp, ordering_then}
use Rattle.std.specs.BTreeSet.{contains}
use Rattle.fwd_base.specs.declared.ids.ChunkId.{ChunkId}
use Rattle.fwd_retry.specs.declared.timer.Timer.{Timer}
use Rattle.fwd_retry.specs.Timer.{by_time, is_before}
use Rattle.fwd_table_rows.specs.declared.row.Row.{Row}
use Rattle.fwd_table_rows.specs.declared.row.Scope.{Scope}
use Rattle.fwd_table_rows.specs.Changes.{is_in_scope}
use Rattle.fwd_table_rows.specs.Rows.{timers_of_row}
use Rattle.fwd_table.specs.declared.due_index.DueKey.{DueKey}
use Rattle.fwd_table.specs.declared.due_index.DueIndex.{DueIndex}

-- by output, then by due time, then by chunk
abbrev pub by_output : DueKey → DueKey → Ordering
by_output a b =
    ordering_then (nat_cmp a.output.0 b.output.0)
    (ordering_then (nat_cmp a.due b.due) (nat_cmp a.chunk.0 b.chunk.0))

-- the key of a timer, and the timer of a key
abbrev pub key_of : Timer → DueKey
key_of timer = record { output = timer.output; due = timer.due; chunk = timer.chunk }

abbrev pub timer_of_key : DueKey → Timer
timer_of_key key = record { due = key.due; chunk = key.chunk; output = key.output }

-- whether an index has a timer
abbrev pub is_listed : DueIndex → Timer → Bool
is_listed index timer = contains by_output index.keys (key_of timer)

-- whether a timer is one of several
abbrev pub is_among : List Timer → Timer → Bool
is_among timers timer = list_any (eq_by_cmp by_time timer) timers

-- an index has exactly these timers
abbrev pub IsIndexOf : List Timer → DueIndex → Type 0
IsIndexOf timers index = (timer : Timer) → is_listed index timer ≡ is_among timers timer

-- an index has exactly these timers, if there is an index
abbrev pub IsIndexIfAny : List Timer → Option DueIndex → Type 0
IsIndexIfAny timers index = IfSome index (IsIndexOf timers)

-- the timers of a row's idle routes in a scope
abbrev pub timers_in : Scope → Row → List Timer
timers_in scope row = filter (λ timer. is_in_scope scope timer.output) (timers_of_row row)

-- whether a timer is that of a chunk's route in a scope
abbrev pub is_inside : ChunkId → Scope → Timer → Bool
is_inside chunk scope timer = timer.chunk.0 == chunk.0 && is_in_scope scope timer.output

-- the other timers
abbrev pub timers_outside : ChunkId → Scope → List Timer → List Timer
timers_outside chunk scope timers = filter (λ timer. not (is_inside chunk scope timer)) timers

-- the first of the timers that pass a test; none if no timer passes it
abbrev pub IsFirstThat : (Timer → Bool) → Option Timer → Type 0
IsFirstThat passes found =
    MatchOption found ((other : Timer) → passes other ≡ false)
    (λ timer. (passes timer ≡ true) × ((other : Timer) → passes other ≡ true → is_before other timer ≡ false))
