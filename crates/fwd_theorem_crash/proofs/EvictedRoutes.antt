-- The routes that are evicted as a chunk closes: each is still pending, and none occurs twice. What may
-- start is still pending too.
use Rattle.std.proofs.Common.{◌≡◌, ⊎_elim, ℕ, ◌+◌, ◌-◌, ◌<◌, ◌≤◌, Bool, true, false, cond, if◌then◌else◌, List, [], ◌∷◌, ◌++◌, map, filter, Option, Some, None, refl, sym, subst, arith}
use Rattle.std.specs.Prelude.{Contains, find, ◌==◌, ◌&&◌, ◌||◌, not, nat_le, nat_lt}
use Rattle.std.specs.List.{flat_map, list_any}
use Rattle.std.specs.Option.{option_map_or}
use Rattle.std.proofs.Math.Bool.{and-false}
use Rattle.std.proofs.lemmas.Bool.{eqb-true, ne_eqb, and_parts, or_cases}
use Rattle.std.proofs.lemmas.List.Concat.{flat_map-cons}
use Rattle.std.proofs.lemmas.List.Elements.{Contains-append_cases}
use Rattle.fwd_base.specs.declared.ids.ChunkId.{ChunkId}
use Rattle.fwd_base.specs.declared.ids.OutputId.{OutputId}
use Rattle.fwd_route.specs.GlobTest.{globs, matching_from}
use Rattle.fwd_table.specs.Row.{Row}
use Rattle.fwd_table.specs.Route.{Route as Owed}
use Rattle.fwd_table.specs.Routes.{is_to}
use Rattle.fwd_table.specs.Rows.{is_row_of, row_at, waits_for}
use Rattle.fwd_table.specs.Usage.{is_file, in_file, is_flying, is_waiting, size_of}
use Rattle.fwd_limits.specs.Evictions.{fixed, other_waiting, evicted_among, evicted_for}
use Rattle.fwd_settings.specs.declared.settings_types.AllSettings.{AllSettings}
use Rattle.fwd_settings.specs.declared.settings_types.OutputSet.{OutputSet}
use Rattle.fwd_model.specs.Fact.{History, Route}
use Rattle.fwd_model.specs.Settings.{outputs_for, total_limit_at}
use Rattle.fwd_model.specs.Chunks.{ChunkInfo, chunks_of, chunk_at}
use Rattle.fwd_model.specs.Routes.{route, same_route, is_resolved, home_of, owed, is_owed, table_route, row_of, rows_of, is_idle}
use Rattle.fwd_model.specs.Limits.{evictions_to, evictions_for, evicted_at}
use Rattle.fwd_model.specs.Dispatch.{has_place, fits, may_start}
use Rattle.fwd_theorem_trace.specs.Sound.{NumbersRise, Sound}
use Rattle.fwd_theorem_trace.proofs.Members.{here, deeper, either, from_filter, from_find, from_map, from_flat_map}
use Rattle.fwd_theorem_trace.proofs.Persistence.{among_rows}
use Rattle.fwd_theorem_trace.proofs.RouteResolution.{owed_as_unresolved}

-- ---- lists

-- the relation holds between each element and all after it
abbrev pub Pairwise : {X : Type 0} → (X → X → Type 0) → List X → Type 0
Pairwise R [] = Unit {0}
Pairwise {X = X} R (x ∷ xs) = ((y : X) → Contains xs y → R x y) × Pairwise R xs

apart_filter : {X : Type 0} (R : X → X → Type 0) (test : X → Bool) (xs : List X) → Pairwise R xs → Pairwise R (filter test xs)
apart_filter R test [] apart = apart
apart_filter {X = X} R test (x ∷ xs) apart = by (test x) (apart_filter R test xs apart.1)
  where
    by : (b : Bool) → Pairwise R (filter test xs) → Pairwise R (cond b (x ∷ filter test xs) (filter test xs))
    by true rest = (λ y has. apart.0 y (from_filter test xs y has).0, rest)
    by false rest = rest

apart_map : {X Y : Type 0} (R : X → X → Type 0) (S : Y → Y → Type 0) (f : X → Y) → ((a b : X) → R a b → S (f a) (f b)) → (xs : List X) → Pairwise R xs → Pairwise S (map f xs)
apart_map R S f keeps [] apart = tt
apart_map R S f keeps (x ∷ xs) apart =
    (λ y has. let found = from_map f xs y has in subst (S (f x)) found.2 (keeps x found.0 (apart.0 found.0 found.1)), apart_map R S f keeps xs apart.1)

apart_both : {Y : Type 0} (S : Y → Y → Type 0) (xs ys : List Y) → Pairwise S xs → Pairwise S ys → ((a b : Y) → Contains xs a → Contains ys b → S a b) → Pairwise S (xs ++ ys)
apart_both S [] ys first second between = second
apart_both S (x ∷ xs) ys first second between = (
  λ y has. ⊎_elim (λ (one : Contains xs y). first.0 y one) (λ (two : Contains ys y). between x y (here x xs) two) (Contains-append_cases xs ys y has),
  apart_both S xs ys first.1 second (λ a b one two. between a b (deeper x xs a one) two),
)

apart_flat : {X Y : Type 0} (R : X → X → Type 0) (S : Y → Y → Type 0) (f : X → List Y) (xs : List X) → Pairwise R xs → ((x : X) → Pairwise S (f x))
    → ((x y : X) (a b : Y) → R x y → Contains (f x) a → Contains (f y) b → S a b) → Pairwise S (flat_map f xs)
apart_flat R S f [] apart each between = tt
apart_flat {Y = Y} R S f (x ∷ xs) apart each between =
    subst (λ (l : List Y). Pairwise S l) (sym (flat_map-cons f x xs))
    (apart_both S (f x) (flat_map f xs) (each x) (apart_flat R S f xs apart.1 each between)
    (λ a b one two. let found = from_flat_map f xs b two in between x found.0 a b (apart.0 found.0 found.1) one found.2))

-- ---- evicted routes occur once

abbrev Below : ℕ → ℕ → Type 0
Below a b = a < b

abbrev NumberBelow : ChunkInfo → ChunkInfo → Type 0
NumberBelow a b = a.number < b.number

abbrev RowBelow : Row → Row → Type 0
RowBelow a b = a.chunk.0 < b.chunk.0

abbrev IdBelow : ChunkId → ChunkId → Type 0
IdBelow a b = a.0 < b.0

abbrev pub IsOther : Route → Route → Type 0
IsOther a b = same_route a b ≡ false

other_chunk : (a b : Route) → a.chunk < b.chunk → IsOther a b
other_chunk a b less = rw (ne_eqb a.chunk b.chunk (λ same. omega (arith, less, same))) refl

other_output : (a b : Route) → a.output < b.output → IsOther a b
other_output a b less = rw (ne_eqb a.output b.output (λ same. omega (arith, less, same))) (and-false (a.chunk == b.chunk))

chunks_apart : (cs : List ChunkInfo) → NumbersRise cs → Pairwise NumberBelow cs
chunks_apart [] rise = tt
chunks_apart (c ∷ cs) rise = (rise.0, chunks_apart cs rise.1)

rows_apart : (s : AllSettings) (h : History) → NumbersRise (chunks_of h) → Pairwise RowBelow (rows_of s h)
rows_apart s h rise =
    apart_map NumberBelow RowBelow (row_of s h) (λ a b less. less) (filter (is_owed s h) (chunks_of h)) (apart_filter NumberBelow (is_owed s h) (chunks_of h) (chunks_apart (chunks_of h) rise))

among_apart : (room : ℕ) (rows : List Row) → Pairwise RowBelow rows → Pairwise RowBelow (evicted_among room rows)
among_apart room [] apart = tt
among_apart room (x ∷ rows) apart = by (nat_le (size_of (x ∷ rows)) room) (among_apart room rows apart.1)
  where
    by : (b : Bool) → Pairwise RowBelow (evicted_among room rows) → Pairwise RowBelow (cond b [] (x ∷ evicted_among room rows))
    by true rest = tt
    by false rest = (λ y has. apart.0 y (among_rows room rows y has), rest)

lost_to_apart : (output : OutputId) (limit : ℕ) (chunk : ChunkId) (rows : List Row) → Pairwise RowBelow rows → Pairwise IdBelow (evicted_for output limit chunk rows)
lost_to_apart output limit chunk rows apart = by (nat_lt limit (fixed output chunk rows))
  where
    others : List Row
    others = evicted_among (limit - fixed output chunk rows) (other_waiting output chunk rows)

    by : (b : Bool) → Pairwise IdBelow (cond b (chunk ∷ []) (map (λ (row : Row). row.chunk) others))
    by true = (λ y none. absurd (omega (arith, none.1)), tt)
    by false =
        apart_map RowBelow IdBelow (λ (row : Row). row.chunk) (λ a b less. less) others
        (among_apart (limit - fixed output chunk rows) (other_waiting output chunk rows)
        (apart_filter RowBelow (λ (row : Row). in_file row && (is_waiting output row && not (is_row_of chunk row))) rows apart))

losses_apart : (s : AllSettings) (h : History) (chunk output : ℕ) (limit : Option ℕ) → NumbersRise (chunks_of h) → Pairwise IsOther (evictions_to s h chunk output limit)
losses_apart s h chunk output None rise = tt
losses_apart s h chunk output (Some limit) rise =
    apart_map IdBelow IsOther (λ (lost : ChunkId). route lost.0 output) (λ a b less. other_chunk (route a.0 output) (route b.0 output) less)
    (evicted_for (record { 0 = output }) limit (record { 0 = chunk }) (rows_of s h)) (lost_to_apart (record { 0 = output }) limit (record { 0 = chunk }) (rows_of s h) (rows_apart s h rise))

of_output : (s : AllSettings) (h : History) (chunk output : ℕ) (limit : Option ℕ) (r : Route) → Contains (evictions_to s h chunk output limit) r → r.output ≡ output
of_output s h chunk output None r has = absurd (omega (arith, has.1))
of_output s h chunk output (Some limit) r has =
    let found = from_map (λ (lost : ChunkId). route lost.0 output) (evicted_for (record { 0 = output }) limit (record { 0 = chunk }) (rows_of s h)) r has in
    subst (λ (x : Route). x.output ≡ output) found.2 refl

takers_above : (n : ℕ) (all : List (List ℕ)) (tag : List ℕ) (k : ℕ) → Contains (matching_from n all tag) k → n ≤ k
takers_above n [] tag k has = absurd (omega (arith, has.1))
takers_above n (glob ∷ more) tag k has = by (globs glob tag) has (takers_above (n + 1) more tag k)
  where
    by : (b : Bool) → Contains (if b then n ∷ matching_from (n + 1) more tag else matching_from (n + 1) more tag) k → (Contains (matching_from (n + 1) more tag) k → n + 1 ≤ k) → n ≤ k
    by true some rest =
        ⊎_elim (λ (same : n ≡ k). let is : n ≤ k = omega (arith, same) in is) (λ (later : Contains (matching_from (n + 1) more tag) k). let above = rest later in let is : n ≤ k = omega (arith, above) in is)
        (either n (matching_from (n + 1) more tag) k some)
    by false some rest = let above = rest some in omega (arith, above)

takers_apart : (n : ℕ) (all : List (List ℕ)) (tag : List ℕ) → Pairwise Below (matching_from n all tag)
takers_apart n [] tag = tt
takers_apart n (glob ∷ more) tag = by (globs glob tag) (takers_apart (n + 1) more tag)
  where
    by : (b : Bool) → Pairwise Below (matching_from (n + 1) more tag) → Pairwise Below (if b then n ∷ matching_from (n + 1) more tag else matching_from (n + 1) more tag)
    by true rest = (λ k has. let above = takers_above (n + 1) more tag k has in omega (arith, above), rest)
    by false rest = rest

owed_apart : (s : AllSettings) (h : History) (c : ChunkInfo) → Pairwise Below (owed s h c)
owed_apart s h c = apart_filter Below (λ (output : ℕ). not (is_resolved s h (route c.number output))) (outputs_for s c.tag) (takers_apart 0 (map (λ (o : OutputSet). o.glob) s.outputs) c.tag)

losses_for_apart : (s : AllSettings) (h : History) (c : Option ChunkInfo) → NumbersRise (chunks_of h) → Pairwise IsOther (evictions_for s h c)
losses_for_apart s h None rise = tt
losses_for_apart s h (Some c) rise = by (is_file (home_of s c.input))
  where
    lost : ℕ → List Route
    lost output = evictions_to s h c.number output (total_limit_at s output)

    between : (x y : ℕ) (a b : Route) → x < y → Contains (lost x) a → Contains (lost y) b → IsOther a b
    between x y a b less one two =
        let first = of_output s h c.number x (total_limit_at s x) a one in
        let second = of_output s h c.number y (total_limit_at s y) b two in
        other_output a b (omega (arith, less, first, second))

    by : (b : Bool) → Pairwise IsOther (cond b (flat_map lost (owed s h c)) [])
    by true = apart_flat Below IsOther lost (owed s h c) (owed_apart s h c) (λ output. losses_apart s h c.number output (total_limit_at s output) rise) between
    by false = tt

pub lost_apart : (s : AllSettings) (h : History) (chunk : ℕ) → Sound s h → Pairwise IsOther (evicted_at s h chunk)
lost_apart s h chunk sound = losses_for_apart s h (chunk_at h chunk) sound.rising

-- ---- evicted and startable routes are pending

module _ (s : AllSettings) (h : History) where
  owed_open : (c : ChunkInfo) (output : ℕ) → Contains (owed s h c) output → is_resolved s h (route c.number output) ≡ false
  owed_open c output has = ((owed_as_unresolved s h c output).0 has).1

  some_to : (n : ℕ) (output : OutputId) (outputs : List ℕ) → list_any (is_to output) (map (table_route s h n) outputs) ≡ true → Contains outputs output.0
  some_to n output [] is = absurd (cc is)
  some_to n output (o ∷ os) is =
      ⊎_elim (λ (now : is_to output (table_route s h n o) ≡ true). subst (λ (x : ℕ). Contains (o ∷ os) x) (eqb-true o output.0 now) (here o os))
      (λ (later : list_any (is_to output) (map (table_route s h n) os) ≡ true). deeper o os output.0 (some_to n output os later))
      (or_cases (is_to output (table_route s h n o)) (list_any (is_to output) (map (table_route s h n) os)) is)

  row_open : (row : Row) (output : OutputId) → Contains (rows_of s h) row → list_any (is_to output) row.routes ≡ true → is_resolved s h (route row.chunk.0 output.0) ≡ false
  row_open row output has is =
      let found = from_map (row_of s h) (filter (is_owed s h) (chunks_of h)) row has in
      let c : ChunkInfo = found.0 in
      subst (λ (x : Row). list_any (is_to output) x.routes ≡ true → is_resolved s h (route x.chunk.0 output.0) ≡ false) found.2
      (λ some. owed_open c output.0 (some_to c.number output (owed s h c) some)) is

  -- ---- startable routes

  some_found : (test : Owed → Bool) (f : Owed → Bool) (routes : List Owed) → option_map_or f (find test routes) false ≡ true → list_any test routes ≡ true
  some_found test f [] is = absurd (cc is)
  some_found test f (x ∷ routes) is = by (test x) is (some_found test f routes)
    where
      by : (b : Bool) → option_map_or f (cond b (Some x) (find test routes)) false ≡ true → (option_map_or f (find test routes) false ≡ true → list_any test routes ≡ true) → (b || list_any test routes) ≡ true
      by true now more = refl
      by false now more = more now

  idle_open : (r : Route) → is_idle s h r ≡ true → is_resolved s h r ≡ false
  idle_open r idle = by (row_at (record { 0 = r.chunk }) (rows_of s h)) refl
    where
      by : (at : Option Row) → row_at (record { 0 = r.chunk }) (rows_of s h) ≡ at → is_resolved s h r ≡ false
      by None is = absurd (cc (subst (λ (o : Option Row). option_map_or (waits_for (record { 0 = r.output })) o false ≡ true) is idle))
      by (Some row) is =
          let waits = subst (λ (o : Option Row). option_map_or (waits_for (record { 0 = r.output })) o false ≡ true) is idle in
          let found = from_find (is_row_of (record { 0 = r.chunk })) (rows_of s h) row is in
          let number : row.chunk.0 ≡ r.chunk = eqb-true row.chunk.0 r.chunk found.1 in
          let some = some_found (is_to (record { 0 = r.output })) (λ (x : Owed). not x.flying) row.routes (and_parts row.shut _ waits).1 in
          subst (λ (n : ℕ). is_resolved s h (route n r.output) ≡ false) number (row_open row (record { 0 = r.output }) found.0 some)

  pub may_open : (r : Route) → may_start s h r ≡ true → is_resolved s h r ≡ false
  may_open r may = idle_open r (and_parts (is_idle s h r) (has_place s h r && fits s h r) may).0

  -- ---- evicted routes

  lost_one : (chunk : ChunkId) (output : OutputId) (room : ℕ) (lost : ChunkId)
      → Contains (map (λ (row : Row). row.chunk) (evicted_among room (other_waiting output chunk (rows_of s h)))) lost → is_resolved s h (route lost.0 output.0) ≡ false
  lost_one chunk output room lost has =
      let others : List Row = other_waiting output chunk (rows_of s h) in
      let found = from_map (λ (row : Row). row.chunk) (evicted_among room others) lost has in
      let row : Row = found.0 in
      let kept = from_filter (λ (row : Row). in_file row && (is_waiting output row && not (is_row_of chunk row))) (rows_of s h) row (among_rows room others row found.1) in
      let waits = (and_parts (is_waiting output row) _ (and_parts (in_file row) _ kept.1).1).0 in
      let some = (and_parts (list_any (is_to output) row.routes) (not (is_flying output row)) (and_parts row.shut _ waits).1).0 in
      subst (λ (x : ChunkId). is_resolved s h (route x.0 output.0) ≡ false) found.2 (row_open row output kept.0 some)

  lost_to_open : (chunk : ChunkId) (output : OutputId) (limit : ℕ) (lost : ChunkId) → is_resolved s h (route chunk.0 output.0) ≡ false
      → Contains (evicted_for output limit chunk (rows_of s h)) lost → is_resolved s h (route lost.0 output.0) ≡ false
  lost_to_open chunk output limit lost own has = by (nat_lt limit (fixed output chunk (rows_of s h))) has
    where
      by : (b : Bool) → Contains (cond b (chunk ∷ []) (map (λ (row : Row). row.chunk) (evicted_among (limit - fixed output chunk (rows_of s h)) (other_waiting output chunk (rows_of s h))))) lost
          → is_resolved s h (route lost.0 output.0) ≡ false
      by true one =
          ⊎_elim (λ (same : chunk ≡ lost). subst (λ (x : ChunkId). is_resolved s h (route x.0 output.0) ≡ false) same own) (λ (none : Contains [] lost). absurd (omega (arith, none.1))) (either chunk [] lost one)
      by false more = lost_one chunk output (limit - fixed output chunk (rows_of s h)) lost more

  losses_open : (c : ChunkInfo) (output : ℕ) (limit : Option ℕ) (r : Route) → Contains (owed s h c) output → Contains (evictions_to s h c.number output limit) r → is_resolved s h r ≡ false
  losses_open c output None r among has = absurd (omega (arith, has.1))
  losses_open c output (Some limit) r among has =
      let found = from_map (λ (lost : ChunkId). route lost.0 output) (evicted_for (record { 0 = output }) limit (record { 0 = c.number }) (rows_of s h)) r has in
      subst (λ (x : Route). is_resolved s h x ≡ false) found.2 (lost_to_open (record { 0 = c.number }) (record { 0 = output }) limit found.0 (owed_open c output among) found.1)

  losses_for_open : (c : Option ChunkInfo) (r : Route) → Contains (evictions_for s h c) r → is_resolved s h r ≡ false
  losses_for_open None r has = absurd (omega (arith, has.1))
  losses_for_open (Some c) r has = by (is_file (home_of s c.input)) has
    where
      by : (b : Bool) → Contains (cond b (flat_map (λ (output : ℕ). evictions_to s h c.number output (total_limit_at s output)) (owed s h c)) []) r → is_resolved s h r ≡ false
      by true some =
          let found = from_flat_map (λ (output : ℕ). evictions_to s h c.number output (total_limit_at s output)) (owed s h c) r some in
          losses_open c found.0 (total_limit_at s found.0) r found.1 found.2
      by false none = absurd (omega (arith, none.1))

  pub lost_open : (chunk : ℕ) (r : Route) → Contains (evicted_at s h chunk) r → is_resolved s h r ≡ false
  lost_open chunk r has = losses_for_open (chunk_at h chunk) r has
