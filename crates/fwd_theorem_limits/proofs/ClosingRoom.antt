-- What an output with a limit keeps when a chunk closes.
use Rattle.std.proofs.Common.{◌≡◌, ◌⊎◌, inl, inr, ⊎_elim, ℕ, ◌+◌, ◌-◌, ◌<◌, ◌≤◌, ◌&&◌, ◌||◌, nat_lt, not, Bool, true, false, cond, List, [], ◌∷◌, filter, map, Option, Some, refl, sym, ◌∙◌, ap, subst, arith}
use Rattle.std.specs.Prelude.{Contains, ◌==◌, find, sum_by, is_some, option_and_then}
use Rattle.std.specs.List.{list_any, flat_map}
use Rattle.std.proofs.lemmas.Bool.{eqb-true, eq-eqb, ltb-true, ltb-false, and_parts, and_from}
use Rattle.std.proofs.lemmas.List.Concat.{flat_map-cons}
use Rattle.std.proofs.lemmas.List.Elements.{Contains-append_left, Contains-append_right}
use Rattle.fwd_base.specs.declared.ids.ChunkId.{ChunkId}
use Rattle.fwd_base.specs.declared.ids.OutputId.{OutputId}
use Rattle.fwd_table.specs.Row.{Row}
use Rattle.fwd_table.specs.Route.{Route as Owed}
use Rattle.fwd_table.specs.Rows.{is_row_of}
use Rattle.fwd_table.specs.Routes.{is_to, flying_of}
use Rattle.fwd_table.specs.Usage.{is_file, in_file, is_flying, is_waiting, size_of, flying_to}
use Rattle.fwd_limits.specs.Evictions.{other_waiting, fixed, evicted_among, evicted_for}
use Rattle.fwd_limits.proofs.LowestChunks.{shortest}
use Rattle.fwd_settings.specs.declared.settings_types.AllSettings.{AllSettings}
use Rattle.fwd_settings.specs.declared.settings_types.OutputSet.{OutputSet}
use Rattle.fwd_model.specs.Fact.{History, ChunkClosed}
use Rattle.fwd_model.specs.Settings.{output_at, total_limit_at}
use Rattle.fwd_model.specs.Chunks.{ChunkInfo, chunks_of, is_closed, size}
use Rattle.fwd_model.specs.Routes.{route, flight, home_of, owed, is_owed, table_route, row_of, rows_of}
use Rattle.fwd_model.specs.Limits.{evictions_to, evictions_for, evicted_at}
use Rattle.fwd_theorem_trace.specs.Sound.{NumbersRise}
use Rattle.fwd_theorem_trace.proofs.Members.{here, deeper, either, from_filter, from_map}
use Rattle.fwd_theorem_limits.specs.FlushLimits.{is_in_flight}
use Rattle.fwd_theorem_limits.specs.StorageLimits.{is_file_flying_to, flying_bytes}
use Rattle.fwd_theorem_limits.proofs.Counts.{one_number}
use Rattle.fwd_theorem_limits.proofs.Sums.{sum_le, sum_three, sum_rest, sum_map, sum_one}
use Rattle.fwd_theorem_limits.proofs.Flights.{progress_flies, owed_is_owed}

-- ---- members

pub any_member : {X : Type 0} (test : X → Bool) (xs : List X) (x : X) → Contains xs x → test x ≡ true → list_any test xs ≡ true
any_member test [] x has is = absurd (omega (arith, has.1))
any_member {X = X} test (y ∷ ys) x has is = by (test y) refl (either y ys x has) (any_member test ys x)
  where
    by : (b : Bool) → test y ≡ b → (y ≡ x) ⊎ Contains ys x → (Contains ys x → test x ≡ true → list_any test ys ≡ true) → b || list_any test ys ≡ true
    by true on_it at more = refl
    by false off_it (inl same) more = absurd (cc (sym off_it ∙ (ap test same ∙ is)))
    by false off_it (inr later) more = more later is

pub member_of_any : {X : Type 0} (test : X → Bool) (xs : List X) → list_any test xs ≡ true → (x : X) × Contains xs x × (test x ≡ true)
member_of_any test [] is = absurd (cc is)
member_of_any {X = X} test (y ∷ ys) is = by (test y) refl is (member_of_any test ys)
  where
    by : (b : Bool) → test y ≡ b → b || list_any test ys ≡ true → (list_any test ys ≡ true → (x : X) × Contains ys x × (test x ≡ true)) → (x : X) × Contains (y ∷ ys) x × (test x ≡ true)
    by true on_it is more = (y, here y ys, on_it)
    by false off_it is more = let found = more is in (found.0, deeper y ys found.0 found.1, found.2)

in_map : {X Y : Type 0} (f : X → Y) (xs : List X) (x : X) → Contains xs x → Contains (map f xs) (f x)
in_map f [] x has = absurd (omega (arith, has.1))
in_map {X = X} {Y = Y} f (y ∷ ys) x has =
    let more = in_map f ys x in
    ⊎_elim (λ (same : y ≡ x). subst (λ (z : X). Contains (map f (y ∷ ys)) (f z)) same (here (f y) (map f ys))) (λ (later : Contains ys x). deeper (f y) (map f ys) (f x) (more later)) (either y ys x has)

in_flat_map : {X Y : Type 0} (f : X → List Y) (xs : List X) (x : X) (y : Y) → Contains xs x → Contains (f x) y → Contains (flat_map f xs) y
in_flat_map f [] x y has also = absurd (omega (arith, has.1))
in_flat_map {X = X} {Y = Y} f (z ∷ zs) x y has also =
    let more = in_flat_map f zs x y in
    subst (λ (l : List Y). Contains l y) (sym (flat_map-cons f z zs))
    (⊎_elim (λ (same : z ≡ x). Contains-append_left (f z) (flat_map f zs) y (subst (λ (w : X). Contains (f w) y) (sym same) also)) (λ (later : Contains zs x). Contains-append_right (f z) (flat_map f zs) y (more later also))
    (either z zs x has))

found_number : (cs : List ChunkInfo) (c : ChunkInfo) → NumbersRise cs → Contains cs c → find (λ (d : ChunkInfo). d.number == c.number) cs ≡ Some c
found_number [] c rise has = absurd (omega (arith, has.1))
found_number (d ∷ cs) c rise has = by (d.number == c.number) refl (found_number cs c rise.1)
  where
    by : (b : Bool) → (d.number == c.number) ≡ b → (Contains cs c → find (λ (e : ChunkInfo). e.number == c.number) cs ≡ Some c) → cond b (Some d) (find (λ (e : ChunkInfo). e.number == c.number) cs) ≡ Some c
    by true on_it more = ap (λ (e : ChunkInfo). Some e) (one_number (d ∷ cs) d c rise (here d cs) has (eqb-true d.number c.number on_it))
    by false off_it more = ⊎_elim (λ (same : d ≡ c). absurd (cc (sym off_it ∙ eq-eqb d.number c.number (ap (λ (e : ChunkInfo). e.number) same)))) (λ (later : Contains cs c). more later) (either d cs c has)

-- a chunk closes for which an output with a limit is pending
module _ (s : AllSettings) (h : History) (rise : NumbersRise (chunks_of h)) (c : ChunkInfo) (among : Contains (chunks_of h) c) (output limit : ℕ) where
  abbrev shut : History
  shut = ChunkClosed c.number ∷ h

  abbrev O : OutputId
  O = record { 0 = output }

  abbrev N : ChunkId
  N = record { 0 = c.number }

  abbrev rows : List Row
  rows = rows_of s shut

  abbrev lost : List ChunkId
  lost = evicted_for O limit N rows

  -- whether a chunk is lost
  abbrev pub is_lost : ℕ → Bool
  is_lost n = list_any (λ (x : ChunkId). x.0 == n) lost

  -- what is kept of chunks: in files, closed, pending for the output, and not lost
  abbrev pub Counts : (ChunkInfo → Bool) → Type 0
  Counts k =
      (d : ChunkInfo) → k d ≡ true → (is_file (home_of s d.input) ≡ true) × ((is_closed shut d.number ≡ true) × (Contains (owed s shut d) output × (is_lost d.number ≡ false)))

  -- ---- the closed chunk fits

  abbrev stays : Row → Bool
  stays row = in_file row && (row.shut && (list_any (is_to O) row.routes && not (is_lost row.chunk.0)))

  abbrev others : List Row
  others = other_waiting O N rows

  abbrev room : ℕ
  room = limit - fixed O N rows

  abbrev keeps : Row → Bool
  keeps row = not (is_lost row.chunk.0)

  to_output : (n : ℕ) (outputs : List ℕ) → Contains outputs output → list_any (is_to O) (map (table_route s shut n) outputs) ≡ true
  to_output n outputs has = any_member (is_to O) (map (table_route s shut n) outputs) (table_route s shut n output) (in_map (table_route s shut n) outputs output has) (eq-eqb output output refl)

  one_of_three : (row : Row) → stays row ≡ true
      → (in_file row && is_flying O row ≡ true) ⊎ ((is_row_of N row ≡ true) ⊎ ((in_file row && (is_waiting O row && not (is_row_of N row)) ≡ true) × (keeps row ≡ true)))
  one_of_three row is = by (is_flying O row) refl (is_row_of N row) refl
    where
      files : in_file row ≡ true
      files = (and_parts (in_file row) _ is).0

      closed : row.shut ≡ true
      closed = (and_parts row.shut _ (and_parts (in_file row) _ is).1).0

      rest : list_any (is_to O) row.routes && not (is_lost row.chunk.0) ≡ true
      rest = (and_parts row.shut _ (and_parts (in_file row) _ is).1).1

      by : (a : Bool) → is_flying O row ≡ a → (b : Bool) → is_row_of N row ≡ b
          → (in_file row && is_flying O row ≡ true) ⊎ ((is_row_of N row ≡ true) ⊎ ((in_file row && (is_waiting O row && not (is_row_of N row)) ≡ true) × (keeps row ≡ true)))
      by true flies b of = inl (and_from (in_file row) (is_flying O row) files flies)
      by false grounded true own = inr (inl own)
      by false grounded false other =
          let parts = and_parts (list_any (is_to O) row.routes) _ rest in
          let waits : is_waiting O row ≡ true =
          and_from row.shut (list_any (is_to O) row.routes && not (is_flying O row)) closed (and_from (list_any (is_to O) row.routes) (not (is_flying O row)) parts.0 (ap not grounded)) in
          inr (inr (and_from (in_file row) (is_waiting O row && not (is_row_of N row)) files (and_from (is_waiting O row) (not (is_row_of N row)) waits (ap not other)), parts.1))

  gone : nat_lt limit (fixed O N rows) ≡ false → (row : Row) → Contains (evicted_among room others) row → keeps row ≡ false
  gone is row has =
      ap not (any_member (λ (x : ChunkId). x.0 == row.chunk.0) lost row.chunk
      (subst (λ (b : Bool). Contains (cond b (N ∷ []) (map (λ (r : Row). r.chunk) (evicted_among room others))) row.chunk) (sym is) (in_map (λ (r : Row). r.chunk) (evicted_among room others) row has))
      (eq-eqb row.chunk.0 row.chunk.0 refl))

  rows_fit : nat_lt limit (fixed O N rows) ≡ false → sum_by (λ (row : Row). row.size) (filter stays rows) ≤ limit
  rows_fit is =
      let three = sum_three (λ (row : Row). row.size) stays (λ row. in_file row && is_flying O row) (λ row. is_row_of N row) (λ row. in_file row && (is_waiting O row && not (is_row_of N row))) keeps rows one_of_three in
      let least = shortest room others in
      let less = subst (λ (l : List Row). sum_by (λ (row : Row). row.size) (filter keeps l) ≤ size_of least.left) least.first
      (sum_rest (λ (row : Row). row.size) keeps (evicted_among room others) least.left (gone is)) in
      let small = least.fits in
      let bound = ltb-false limit (fixed O N rows) is in
      omega (arith, three, less, small, bound)

  module _ (k : ChunkInfo → Bool) (counts : Counts k) where
    kept_stays : (d : ChunkInfo) → k d ≡ true → is_owed s shut d && stays (row_of s shut d) ≡ true
    kept_stays d is =
        let so = counts d is in
        and_from (is_owed s shut d) (stays (row_of s shut d)) (owed_is_owed s shut d output so.1.1.0)
        (and_from (is_file (home_of s d.input)) _ so.0
        (and_from (is_closed shut d.number) _ so.1.0 (and_from (list_any (is_to O) (map (table_route s shut d.number) (owed s shut d))) _ (to_output d.number (owed s shut d) so.1.1.0) (ap not so.1.1.1))))

    pub fits : nat_lt limit (fixed O N rows) ≡ false → sum_by (λ (d : ChunkInfo). size h d.number) (filter k (chunks_of h)) ≤ limit
    fits is =
        let images = sum_map (is_owed s shut) (row_of s shut) (λ (row : Row). row.size) stays (chunks_of h) in
        let fewer = sum_le (λ (d : ChunkInfo). size h d.number) (λ (d : ChunkInfo). size shut d.number) k (λ d. is_owed s shut d && stays (row_of s shut d)) (chunks_of h) (λ d has is. (kept_stays d is, refl)) in
        let less = rows_fit is in
        omega (arith, images, fewer, less)

  -- ---- it has no room

  flying_chunk : (d : ChunkInfo) → is_owed s shut d && (in_file (row_of s shut d) && is_flying O (row_of s shut d)) ≡ true → is_file_flying_to s h output d ≡ true
  flying_chunk d is =
      let parts = and_parts (in_file (row_of s shut d)) (is_flying O (row_of s shut d)) (and_parts (is_owed s shut d) _ is).1 in
      let one = member_of_any (is_to O) (flying_of (map (table_route s shut d.number) (owed s shut d))) parts.1 in
      let flies = from_filter (λ (r : Owed). r.flying) (map (table_route s shut d.number) (owed s shut d)) one.0 one.1 in
      let made = from_map (table_route s shut d.number) (owed s shut d) one.0 flies.0 in
      let same : made.0 ≡ output = ap (λ (r : Owed). r.output.0) made.2 ∙ eqb-true one.0.output.0 output one.2 in
      let progress : is_some (flight shut (route d.number output)) ≡ true = subst (λ (o : ℕ). is_some (flight shut (route d.number o)) ≡ true) same (ap (λ (r : Owed). r.flying) made.2 ∙ flies.1) in
      and_from (is_file (home_of s d.input)) (is_in_flight h (route d.number output)) parts.0 (progress_flies h (route d.number output) progress)

  flying_rows : size_of (flying_to O rows) ≤ flying_bytes s h output
  flying_rows =
      let images = sum_map (is_owed s shut) (row_of s shut) (λ (row : Row). row.size) (λ row. in_file row && is_flying O row) (chunks_of h) in
      let fewer = sum_le (λ (d : ChunkInfo). size shut d.number) (λ (d : ChunkInfo). size h d.number) (λ d. is_owed s shut d && (in_file (row_of s shut d) && is_flying O (row_of s shut d))) (is_file_flying_to s h output) (chunks_of h)
      (λ d has is. (flying_chunk d is, refl)) in
      omega (arith, images, fewer)

  own_rows : size_of (filter (is_row_of N) rows) ≤ size h c.number
  own_rows =
      let images = sum_map (is_owed s shut) (row_of s shut) (λ (row : Row). row.size) (is_row_of N) (chunks_of h) in
      let one = sum_one (λ n. size shut n) (λ d. is_owed s shut d && is_row_of N (row_of s shut d)) c.number (chunks_of h) rise
      (λ d has is. eqb-true d.number c.number (and_parts (is_owed s shut d) (is_row_of N (row_of s shut d)) is).1) in
      omega (arith, images, one)

  pub no_room : nat_lt limit (fixed O N rows) ≡ true → limit < flying_bytes s h output + size h c.number
  no_room is =
      let over = ltb-true limit (fixed O N rows) is in
      let flying = flying_rows in
      let own = own_rows in
      omega (arith, over, flying, own)

  pub own_is_lost : nat_lt limit (fixed O N rows) ≡ true → is_lost c.number ≡ true
  own_is_lost is =
      any_member (λ (x : ChunkId). x.0 == c.number) lost N
      (subst (λ (b : Bool). Contains (cond b (N ∷ []) (map (λ (r : Row). r.chunk) (evicted_among room others))) N) (sym is) (here N [])) (eq-eqb c.number c.number refl)

  -- ---- each lost chunk is evicted for the output

  module _ (file : is_file (home_of s c.input) ≡ true) (pending : Contains (owed s shut c) output) (limited : total_limit_at s output ≡ Some limit) where
    evicted : (x : ChunkId) → Contains lost x → Contains (evicted_at s shut c.number) (route x.0 output)
    evicted x has =
        let one : Contains (evictions_to s shut c.number output (total_limit_at s output)) (route x.0 output) =
        subst (λ (l : Option ℕ). Contains (evictions_to s shut c.number output l) (route x.0 output)) (sym limited) (in_map (λ (y : ChunkId). route y.0 output) lost x has) in
        let all : Contains (evictions_for s shut (Some c)) (route x.0 output) =
        subst (λ (b : Bool). Contains (cond b (flat_map (λ (o : ℕ). evictions_to s shut c.number o (total_limit_at s o)) (owed s shut c)) []) (route x.0 output)) (sym file)
        (in_flat_map (λ (o : ℕ). evictions_to s shut c.number o (total_limit_at s o)) (owed s shut c) output (route x.0 output) pending one) in
        subst (λ (o : Option ChunkInfo). Contains (evictions_for s shut o) (route x.0 output)) (sym (found_number (chunks_of h) c rise among)) all

    pub lost_evicted : (n : ℕ) → is_lost n ≡ true → Contains (evicted_at s shut c.number) (route n output)
    lost_evicted n is =
        let one = member_of_any (λ (x : ChunkId). x.0 == n) lost is in
        subst (λ (m : ℕ). Contains (evicted_at s shut c.number) (route m output)) (eqb-true one.0.0 n one.2) (evicted one.0 one.1)

pub limit_is : (s : AllSettings) (output limit : ℕ) (set : OutputSet) → output_at s output ≡ Some set → set.total_limit ≡ Some limit → total_limit_at s output ≡ Some limit
limit_is s output limit set at limited = ap (λ (o : Option OutputSet). option_and_then (λ (given : OutputSet). given.total_limit) o) at ∙ limited
