-- Totals over rows, before and after a row changes.
use Rattle.std.proofs.Common.{◌≡◌, inl, inr, ℕ, suc, ◌+◌, ◌-◌, ◌*◌, ◌^◌, ◌<◌, ◌≤◌, ◌++◌, Bool, true, false, not, List, [], ◌∷◌, length, get_or, set, take, replicate, refl, sym, ◌∙◌, ap, subst, arith, lit≤}
use Rattle.std.specs.Prelude.{◌==◌, ◌&&◌, All, sum_by, slice_index, if◌then◌else◌, Option}
use Rattle.std.specs.List.{list_any}
use Rattle.std.proofs.lemmas.Bool.{cases_Bool, cases_eq, eq-eqb, ne_eqb}
use Rattle.std.proofs.lemmas.List.{get_or-replicate, get_or-set_other, get_or-set_same}
use Rattle.std.proofs.lemmas.List.Elements.{All-weaker}
use Rattle.std.proofs.lemmas.List.Sums.{sum_by-append, sum_by-cons, sum_by-le, sum_by_more, sum_by_more_le}
use Rattle.fwd_base.specs.declared.ids.ChunkId.{ChunkId}
use Rattle.fwd_table_rows.specs.declared.route.Route.{Route}
use Rattle.fwd_table_rows.specs.declared.row.Row.{Row}
use Rattle.fwd_table_rows.specs.declared.row.RowChange.{RowChange}
use Rattle.fwd_table_rows.specs.declared.row.RowChange.TheVariants.{Grows, Shuts, Changes, Resolves}
use Rattle.fwd_table_rows.specs.declared.sums.ByOutput.{ByOutput}
use Rattle.fwd_table_rows.specs.declared.sums.ByOutput.TheVariants.{Flights, FlyingBytes, WaitingBytes}
use Rattle.fwd_table_rows.specs.declared.sums.Way.{Way}
use Rattle.fwd_table_rows.specs.declared.sums.Way.TheVariants.{In, Out}
use Rattle.fwd_table_rows.specs.declared.sums.Sums.{Sums}
use Rattle.fwd_table_rows.specs.Routes.{RiseFrom, due_at, flying_of, is_to, routes_to}
use Rattle.fwd_table_rows.specs.Rows.{is_owed_row}
use Rattle.fwd_table_rows.specs.Changes.{row_with_change}
use Rattle.fwd_table_rows.specs.Usage.{in_file, is_from, is_recovered_row, flies}
use Rattle.fwd_table_rows.specs.Sums.{Counted, Over, Memory, FilesUp, FoundUp, Unowed, Rows, file_size, held_size, route_part, part_at, part, total, AreSums, CanShift, Shifts, IsValidRow}
use Rattle.fwd_base.specs.declared.ids.InputId.{InputId}
use Rattle.fwd_outside.specs.declared.home.Home.{Home}
use Rattle.fwd_table_rows.proofs.MaskRoutes.{rise-routes_below}
use Rattle.fwd_table_rows.proofs.RouteOrder.{output_below, rise-filter, rise-map, rise-on_output}

pub any_flying : (routes : List Route) → list_any (λ r. r.flying) routes ≡ not (length (flying_of routes) == 0)
any_flying [] = refl
any_flying (r ∷ routes) = elim (cases_Bool r.flying) [
  | inl flies ↦ rw flies (sym (ap not (ne_eqb (suc (length (flying_of routes))) 0 (λ same. absurd (omega (arith, same))))))
  | inr idle ↦ rw idle (any_flying routes)
]

-- ---- programs

pub shifts_none : (way : Way) (n : ℕ) → Shifts way n 0 n
shifts_none In n = omega arith
shifts_none Out n = omega arith

-- what a part of a whole may do while the rest of it is still to come
pub can_more : (way : Way) (old done more whole now : ℕ) → CanShift way old whole → done + more ≤ whole → Shifts way old done now → CanShift way now more
can_more In old done more whole now can within shifted = omega (arith, can, within, shifted)
can_more Out old done more whole now can within shifted = omega (arith, can, within, shifted)

pub shifts_more : (way : Way) (old done more now next : ℕ) → Shifts way old done now → Shifts way now more next → Shifts way old (done + more) next
shifts_more In old done more now next one two = omega (arith, one, two)
shifts_more Out old done more now next one two = omega (arith, one, two)

-- ---- the part of a row fits 64 bits

one_at_most : (test : Bool) → (if test then 1 else 0) ≤ 2 ^ 64 - 1
one_at_most true = omega arith
one_at_most false = omega arith

kept_at_most : (test : Bool) (n most : ℕ) → n ≤ most → (if test then n else 0) ≤ most
kept_at_most true n most within = within
kept_at_most false n most within = omega arith

unowed_at_most : (test : Bool) → (if test then 0 else 1) ≤ 2 ^ 64 - 1
unowed_at_most true = omega arith
unowed_at_most false = omega arith

file_few : (row : Row) → row.size < 2 ^ 64 → file_size row ≤ 2 ^ 64 - 1
file_few row few = kept_at_most (in_file row) row.size (2 ^ 64 - 1) (omega (arith, few))

route_few : (what : ByOutput) (row : Row) (r : Route) → row.size < 2 ^ 64 → route_part what row r ≤ 2 ^ 64 - 1
route_few Flights row r few = one_at_most r.flying
route_few FlyingBytes row r few = kept_at_most r.flying (file_size row) (2 ^ 64 - 1) (file_few row few)
route_few WaitingBytes row r few = kept_at_most (row.shut && not r.flying) (file_size row) (2 ^ 64 - 1) (file_few row few)

-- routes after the one to an output add nothing to its total
pub none_behind : (what : ByOutput) (key n : ℕ) (row : Row) (routes : List Route) → key < n → RiseFrom n routes → sum_by (part_at what key row) routes ≡ 0
none_behind what key n row [] before rise = refl
none_behind what key n row (r ∷ routes) before rise =
    let first : n ≤ r.output.0 = rise.0 in
    let apart : (r.output.0 ≡ key → ⊥) = λ same. omega (arith, before, first, same) in
    rw (ne_eqb r.output.0 key apart) (none_behind what key (r.output.0 + 1) row routes (omega (arith, before, first)) rise.2)

pub routes_few : (what : ByOutput) (key n : ℕ) (row : Row) (routes : List Route) → row.size < 2 ^ 64 → RiseFrom n routes → sum_by (part_at what key row) routes ≤ 2 ^ 64 - 1
routes_few what key n row [] few rise = omega arith
routes_few what key n row (r ∷ routes) few rise = elim (cases_eq r.output.0 key) [
  | inl same ↦
      let both = sum_by-cons (part_at what key row) r routes in
      let rest = none_behind what key (r.output.0 + 1) row routes (omega (arith, same)) rise.2 in
      let first : part_at what key row r ≡ route_part what row r = rw (eq-eqb r.output.0 key same) refl in
      let own = route_few what row r few in
      omega (arith, both, rest, first, own)
  | inr apart ↦
      let both = sum_by-cons (part_at what key row) r routes in
      let rest = routes_few what key (r.output.0 + 1) row routes few rise.2 in
      let first : part_at what key row r ≡ 0 = rw (ne_eqb r.output.0 key apart) refl in
      omega (arith, both, rest, first)
]

pub part_few : (counted : Counted) (key : ℕ) (row : Row) → IsValidRow row → part counted key row ≤ 2 ^ 64 - 1
part_few (Over what) key row sound = routes_few what key 0 row row.routes sound.size sound.rise
part_few Memory key row sound = kept_at_most (is_from key row.input) (held_size row) (2 ^ 64 - 1) (kept_at_most _ row.size (2 ^ 64 - 1) (let few = sound.size in omega (arith, few)))
part_few FilesUp key row sound = one_at_most (in_file row && flies row)
part_few FoundUp key row sound = kept_at_most (is_recovered_row row && flies row) row.size (2 ^ 64 - 1) (let few = sound.size in omega (arith, few))
part_few Unowed key row sound = unowed_at_most (is_owed_row row)
part_few Rows key row sound = omega arith

-- so the total fits 128 bits
pub parts_few : (counted : Counted) (key : ℕ) (rows : List Row) → All IsValidRow rows → sum_by (part counted key) rows ≤ length rows * (2 ^ 64 - 1)
parts_few counted key rows sound = sum_by-le (part counted key) (2 ^ 64 - 1) rows (All-weaker IsValidRow (λ row. part counted key row ≤ 2 ^ 64 - 1) (λ row one. part_few counted key row one) rows sound)

-- ---- rows stay sound

abbrev pub size_of_change : RowChange → ℕ
size_of_change (Grows size) = size
size_of_change (Shuts now) = 0
size_of_change (Changes output change) = 0
size_of_change (Resolves output) = 0

pub change_sound : (change : RowChange) (row : Row) → size_of_change change < 2 ^ 64 → IsValidRow row → IsValidRow (row_with_change change row)
change_sound (Grows size) row few sound = record { rise = sound.rise; size = few }
change_sound (Shuts now) row few sound = record { rise = rise-map (due_at now) (λ r. refl) 0 row.routes sound.rise; size = sound.size }
change_sound (Changes output change) row few sound = record { rise = rise-on_output output change 0 row.routes sound.rise; size = sound.size }
change_sound (Resolves output) row few sound = record { rise = rise-filter (λ r. not (is_to output r)) 0 row.routes sound.rise; size = sound.size }

-- ---- sums follow

pub comes_in : (counted : Counted) (key : ℕ) (rows : List Row) (sum : ℕ) (row : Row) → All IsValidRow rows → IsValidRow row → length rows < 2 ^ 64 → sum ≤ sum_by (part counted key) rows → sum + part counted key row < 2 ^ 128
comes_in counted key rows sum row sound one few within =
    let all = parts_few counted key rows sound in
    let own = part_few counted key row one in
    omega (arith, all, own, few, within)

pub sums_pushed : (counted : Counted) (key : ℕ) (rows : List Row) (new : Row) (before behind : ℕ) → before ≡ sum_by (part counted key) rows → behind ≡ before + part counted key new → behind ≡ sum_by (part counted key) (rows ++ new ∷ [])
sums_pushed counted key rows new before behind is into =
    let sums = sum_by-append (part counted key) rows (new ∷ []) in
    omega (arith, sums, is, into)

-- the totals over no rows
pub none_summed : AreSums (record { flights = replicate 64 0; flying = replicate 64 0; waiting = replicate 64 0; memory = replicate 64 0; files_up = 0; found_up = 0; unowed = 0; rows = 0 }) []
none_summed (Over Flights) key below = get_or-replicate 64 key 0 0 below
none_summed (Over FlyingBytes) key below = get_or-replicate 64 key 0 0 below
none_summed (Over WaitingBytes) key below = get_or-replicate 64 key 0 0 below
none_summed Memory key below = get_or-replicate 64 key 0 0 below
none_summed FilesUp key below = refl
none_summed FoundUp key below = refl
none_summed Unowed key below = refl
none_summed Rows key below = refl

-- ---- routes, one after another

pub low_at : (items routes : List Route) (i : ℕ) (d : Route) → items ≡ routes → RiseFrom 0 routes → i < length items → (get_or items i d).output.0 < 64
low_at items routes i d same rise within = output_below 0 items i d (subst (RiseFrom 0) (sym same) rise) within

module _ (what : ByOutput) (way : Way) (row : Row) (items : List Route) (i : ℕ) (d : Route) (within : i < length items) (old now : List ℕ)
    (shifted : (key : ℕ) → key < 64 → Shifts way (slice_index old key) (sum_by (part_at what key row) (take i items)) (slice_index now key)) where
  abbrev at : ℕ
  at = (get_or items i d).output.0

  own : part_at what at row (get_or items i d) ≡ route_part what row (get_or items i d)
  own = rw (eq-eqb at at refl) refl

  pub shift_can : at < 64 → items ≡ row.routes → ((key : ℕ) → key < 64 → CanShift way (slice_index old key) (sum_by (part_at what key row) row.routes)) → CanShift way (slice_index now at) (route_part what row (get_or items i d))
  shift_can low same can =
      let few : sum_by (part_at what at row) (take i items) + route_part what row (get_or items i d) ≤ sum_by (part_at what at row) row.routes =
      (let some = sum_by_more_le (part_at what at row) items i d within in let all = ap (sum_by (part_at what at row)) same in let one = own in omega (arith, some, all, one)) in
      can_more way (slice_index old at) (sum_by (part_at what at row) (take i items)) (route_part what row (get_or items i d)) (sum_by (part_at what at row) row.routes) (slice_index now at) (can at low) few (shifted at low)

  pub shift_on : (next : ℕ) → length now ≡ 64 → Shifts way (slice_index now at) (route_part what row (get_or items i d)) next
      → (key : ℕ) → key < 64 → Shifts way (slice_index old key) (sum_by (part_at what key row) (take (i + 1) items)) (slice_index (set now at next) key)
  shift_on next long step key below = elim (cases_eq at key) [
    | inl same ↦
        let here : slice_index (set now at next) key ≡ next = subst (λ (k : ℕ). slice_index (set now at next) k ≡ next) same (get_or-set_same now at next 0 (omega (arith, long, below, same))) in
        let more : sum_by (part_at what key row) (take (i + 1) items) ≡ sum_by (part_at what key row) (take i items) + route_part what row (get_or items i d) =
        subst (λ (k : ℕ). sum_by (part_at what k row) (take (i + 1) items) ≡ sum_by (part_at what k row) (take i items) + route_part what row (get_or items i d)) same
        (sum_by_more (part_at what at row) items i d within ∙ ap (λ (n : ℕ). sum_by (part_at what at row) (take i items) + n) own) in
        let one : Shifts way (slice_index now key) (route_part what row (get_or items i d)) next = subst (λ (k : ℕ). Shifts way (slice_index now k) (route_part what row (get_or items i d)) next) same step in
        rw (here, more) (shifts_more way (slice_index old key) (sum_by (part_at what key row) (take i items)) (route_part what row (get_or items i d)) (slice_index now key) next (shifted key below) one)
    | inr apart ↦
        let here : slice_index (set now at next) key ≡ slice_index now key = get_or-set_other now at key next 0 (λ same. apart (sym same)) in
        let none : part_at what key row (get_or items i d) ≡ 0 = rw (ne_eqb at key apart) refl in
        let more : sum_by (part_at what key row) (take (i + 1) items) ≡ sum_by (part_at what key row) (take i items) =
        (let sums = sum_by_more (part_at what key row) items i d within in omega (arith, sums, none)) in
        rw (here, more) (shifted key below)
  ]

-- ---- a new row

pub opened_sound : (chunk : ChunkId) (input : Option InputId) (home : Home) (tag : List ℕ) (size owed : ℕ) (routes : List Route) → size < 2 ^ 64 → routes ≡ routes_to owed
    → IsValidRow (record { chunk = chunk; input = input; home = home; tag = tag; size = size; shut = false; routes = routes })
opened_sound chunk input home tag size owed routes few are = record { rise = rw are (rise-routes_below 64 owed (lit≤ tt)); size = few }
