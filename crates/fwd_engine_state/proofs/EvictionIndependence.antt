-- An eviction of one output changes nothing of what another evicts.
use Rattle.std.proofs.Common.{◌≡◌, ℕ, ◌+◌, ◌-◌, ◌<◌, Bool, true, false, ◌&&◌, not, inl, inr, List, [], ◌∷◌, length, None, map, refl, sym, ◌∙◌, ap, arith}
use Rattle.std.specs.Prelude.{if◌then◌else◌, ◌==◌, filter, find, nat_lt, nat_le}
use Rattle.std.specs.List.{list_any}
use Rattle.std.specs.Option.{option_map_or}
use Rattle.std.proofs.lemmas.Bool.{cases_Bool, cases_eq, ne_eqb, eq-eqb}
use Rattle.std.proofs.lemmas.List.{length-map}
use Rattle.std.proofs.lemmas.List.Sums.{sum_by-cons}
use Rattle.fwd_base.specs.declared.ids.ChunkId.{ChunkId}
use Rattle.fwd_settings.specs.declared.settings_types.AllSettings.{AllSettings}
use Rattle.fwd_table.specs.Route.{Route as Owed}
use Rattle.fwd_table.specs.Row.{Row}
use Rattle.fwd_table.specs.Routes.{is_to, flying_of}
use Rattle.fwd_table.specs.Rows.{is_row_of, is_owed_row}
use Rattle.fwd_table.specs.Usage.{in_file, is_flying, is_waiting, size_of}
use Rattle.fwd_limits.specs.Evictions.{other_waiting, fixed, evicted_among, evicted_for}
use Rattle.fwd_model.specs.Fact.{History, Route, OnRoute, Evicted}
use Rattle.fwd_model.specs.Settings.{outputs_for}
use Rattle.fwd_model.specs.Chunks.{ChunkInfo, chunks_of, next, is_closed}
use Rattle.fwd_model.specs.Routes.{same_route, route, is_resolved, owed, is_owed, owes, table_route, row_of, rows_of}
use Rattle.fwd_engine_state.specs.Views.{chunk_id, output_id}
use Rattle.fwd_engine_state.specs.StateRepresents.{NumbersRise}
use Rattle.fwd_engine_state.proofs.RowChanges.{standing_same}
use Rattle.fwd_engine_state.proofs.RowsAddedAndRemoved.{fewer}
use Rattle.fwd_engine_state.proofs.Evictions.{flying_owed, waiting_owed}
use Rattle.fwd_engine_state.proofs.ChunkOrder.{none_before}

-- ---- rows that count the same

abbrev Alike : List Row → List Row → Type 0
Alike [] [] = Unit {0}
Alike [] (y ∷ ys) = ⊥
Alike (x ∷ xs) [] = ⊥
Alike (x ∷ xs) (y ∷ ys) = (x.chunk ≡ y.chunk) × (x.size ≡ y.size) × Alike xs ys

alike_size : (xs ys : List Row) → Alike xs ys → size_of xs ≡ size_of ys
alike_size [] [] alike = refl
alike_size [] (y ∷ ys) alike = absurd alike
alike_size (x ∷ xs) [] alike = absurd alike
alike_size (x ∷ xs) (y ∷ ys) alike =
    let size : x.size ≡ y.size = alike.1 in
    let rest = alike_size xs ys alike.2 in
    sum_by-cons (λ (row : Row). row.size) x xs ∙ (λ i. size i + rest i) ∙ sym (sum_by-cons (λ (row : Row). row.size) y ys)

lost_both : (room : ℕ) (x y : Row) (xs ys : List Row) → size_of (x ∷ xs) ≡ size_of (y ∷ ys) → x.chunk ≡ y.chunk → map (λ (row : Row). row.chunk) (evicted_among room xs) ≡ map (λ (row : Row). row.chunk) (evicted_among room ys)
    → map (λ (row : Row). row.chunk) (evicted_among room (x ∷ xs)) ≡ map (λ (row : Row). row.chunk) (evicted_among room (y ∷ ys))
lost_both room x y xs ys size chunk rest = elim (cases_Bool (nat_le (size_of (y ∷ ys)) room)) [
  | inl fits ↦ let also : nat_le (size_of (x ∷ xs)) room ≡ true = ap (λ (n : ℕ). nat_le n room) size ∙ fits in rw (fits, also) refl
  | inr over ↦ let also : nat_le (size_of (x ∷ xs)) room ≡ false = ap (λ (n : ℕ). nat_le n room) size ∙ over in rw (over, also) (λ i. chunk i ∷ rest i)
]

alike_lost : (room : ℕ) (xs ys : List Row) → Alike xs ys → map (λ (row : Row). row.chunk) (evicted_among room xs) ≡ map (λ (row : Row). row.chunk) (evicted_among room ys)
alike_lost room [] [] alike = refl
alike_lost room [] (y ∷ ys) alike = absurd alike
alike_lost room (x ∷ xs) [] alike = absurd alike
alike_lost room (x ∷ xs) (y ∷ ys) alike = lost_both room x y xs ys (alike_size (x ∷ xs) (y ∷ ys) alike) alike.0 (alike_lost room xs ys alike.2)

module _ (s : AllSettings) (r : Route) (h : History) (other : ℕ) (apart : (r.output == other) ≡ false) where
  abbrev later : History
  later = OnRoute r Evicted ∷ h

  -- a route to the other output is as before
  own_apart : (n o : ℕ) → o ≡ other → same_route r (route n o) ≡ false
  own_apart n o same =
      let differs : (r.output == o) ≡ false = ap (λ (k : ℕ). r.output == k) same ∙ apart in
      rw differs (and_false (r.chunk == n))
    where
      and_false : (b : Bool) → (b && false) ≡ false
      and_false true = refl
      and_false false = refl

  routes_any : (n : ℕ) (os : List ℕ)
      → list_any (is_to (output_id other)) (map (table_route s later n) (filter (λ o. not (is_resolved s later (route n o))) os)) ≡ list_any (is_to (output_id other)) (map (table_route s h n) (filter (λ o. not (is_resolved s h (route n o))) os))
  routes_any n [] = refl
  routes_any n (o ∷ os) = elim (cases_eq o other) [
    | inl same ↦
        let resolved : is_resolved s later (route n o) ≡ is_resolved s h (route n o) = let differs = own_apart n o same in rw differs refl in
        let here : (o == other) ≡ true = eq-eqb o other same in
        elim (cases_Bool (is_resolved s h (route n o))) [
          | inl gone ↦ rw (resolved, gone) (routes_any n os)
          | inr owes ↦ rw (resolved, owes, here) refl
        ]
    | inr isnt ↦
        let here : (o == other) ≡ false = ne_eqb o other isnt in
        elim (cases_Bool (is_resolved s h (route n o))) [
          | inl gone ↦ elim (cases_Bool (is_resolved s later (route n o))) [ inl too ↦ rw (too, gone) (routes_any n os) | inr still ↦ rw (still, gone, here) (routes_any n os) ]
          | inr owes ↦ elim (cases_Bool (is_resolved s later (route n o))) [ inl too ↦ rw (too, owes, here) (routes_any n os) | inr still ↦ rw (still, owes, here) (routes_any n os) ]
        ]
  ]

  -- one more route to another output, which may be in flight
  skipped : (x : Owed) (xs : List Owed) → is_to (output_id other) x ≡ false → list_any (is_to (output_id other)) (flying_of (x ∷ xs)) ≡ list_any (is_to (output_id other)) (flying_of xs)
  skipped x xs isnt = elim (cases_Bool x.flying) [ inl flies ↦ rw (flies, isnt) refl | inr still ↦ rw still refl ]

  taken : (x y : Owed) (xs ys : List Owed) → x ≡ y → list_any (is_to (output_id other)) (flying_of xs) ≡ list_any (is_to (output_id other)) (flying_of ys)
      → list_any (is_to (output_id other)) (flying_of (x ∷ xs)) ≡ list_any (is_to (output_id other)) (flying_of (y ∷ ys))
  taken x y xs ys same rest = ap (λ (z : Owed). list_any (is_to (output_id other)) (flying_of (z ∷ xs))) same ∙ elim (cases_Bool y.flying) [
    | inl flies ↦ elim (cases_Bool (is_to (output_id other) y)) [ inl is ↦ rw (flies, is) refl | inr isnt ↦ rw (flies, isnt) rest ]
    | inr still ↦ rw still rest
  ]

  abbrev left_of : History → ℕ → List ℕ → List Owed
  left_of g n os = map (table_route s g n) (filter (λ o. not (is_resolved s g (route n o))) os)

  flying_any : (n : ℕ) (os : List ℕ)
      → list_any (is_to (output_id other)) (flying_of (map (table_route s later n) (filter (λ o. not (is_resolved s later (route n o))) os))) ≡ list_any (is_to (output_id other)) (flying_of (map (table_route s h n) (filter (λ o. not (is_resolved s h (route n o))) os)))
  flying_any n [] = refl
  flying_any n (o ∷ os) =
      let rest = flying_any n os in
      elim (cases_eq o other) [
        | inl same ↦
            let differs = own_apart n o same in
            let resolved : is_resolved s later (route n o) ≡ is_resolved s h (route n o) = rw differs refl in
            elim (cases_Bool (is_resolved s h (route n o))) [
              | inl gone ↦ rw (resolved, gone) rest
              | inr owes ↦ rw (resolved, owes) (taken (table_route s later n o) (table_route s h n o) (left_of later n os) (left_of h n os) (sym (standing_same s r Evicted h n o differs)) rest)
            ]
        | inr isnt ↦
            let here : (o == other) ≡ false = ne_eqb o other isnt in
            elim (cases_Bool (is_resolved s h (route n o))) [
              | inl gone ↦ elim (cases_Bool (is_resolved s later (route n o))) [
                | inl too ↦ rw (too, gone) rest
                | inr still ↦ rw (still, gone) (skipped (table_route s later n o) (left_of later n os) here ∙ rest)
              ]
              | inr owes ↦ elim (cases_Bool (is_resolved s later (route n o))) [
                | inl too ↦ rw (too, owes) (rest ∙ sym (skipped (table_route s h n o) (left_of h n os) here))
                | inr still ↦ rw (still, owes) (skipped (table_route s later n o) (left_of later n os) here ∙ rest ∙ sym (skipped (table_route s h n o) (left_of h n os) here))
              ]
            ]
      ]

  flies_same : (c : ChunkInfo) → is_flying (output_id other) (row_of s later c) ≡ is_flying (output_id other) (row_of s h c)
  flies_same c = flying_any c.number (outputs_for s c.tag)

  waits_same : (c : ChunkInfo) → is_waiting (output_id other) (row_of s later c) ≡ is_waiting (output_id other) (row_of s h c)
  waits_same c = λ i. is_closed h c.number && (routes_any c.number (outputs_for s c.tag) i && not (flies_same c i))

  -- a row belongs to a pending chunk
  row_owed : (g : History) (c : ChunkInfo) → is_owed_row (row_of s g c) ≡ true → is_owed s g c ≡ true
  row_owed g c is = let long : length (map (table_route s g c.number) (owed s g c)) ≡ length (owed s g c) = length-map (owed s g c) (table_route s g c.number) in ap (λ (n : ℕ). not (n == 0)) (sym long) ∙ is

  alike_where : (p : Row → Bool) → ((row : Row) → p row ≡ true → is_owed_row row ≡ true) → ((c : ChunkInfo) → p (row_of s later c) ≡ p (row_of s h c)) → (cs : List ChunkInfo)
      → Alike (filter p (map (row_of s later) (filter (is_owed s later) cs))) (filter p (map (row_of s h) (filter (is_owed s h) cs)))
  alike_where p owing same [] = tt
  alike_where p owing same (c ∷ cs) =
      let rest = alike_where p owing same cs in
      elim (cases_Bool (p (row_of s h c))) [
        | inl passes ↦
            let also : p (row_of s later c) ≡ true = same c ∙ passes in
            rw (row_owed h c (owing _ passes), row_owed later c (owing _ also), passes, also) (refl, refl, rest)
        | inr fails ↦
            let also : p (row_of s later c) ≡ false = same c ∙ fails in
            elim (cases_Bool (is_owed s h c)) [
              | inl owes ↦ elim (cases_Bool (is_owed s later c)) [ inl too ↦ rw (owes, too, fails, also) rest | inr gone ↦ rw (owes, gone, fails) rest ]
              | inr none ↦ elim (cases_Bool (is_owed s later c)) [ inl too ↦ rw (none, too, also) rest | inr gone ↦ rw (none, gone) rest ]
            ]
      ]

  -- ---- the chunk itself

  no_own : (g : History) (k : ℕ) (cs : List ChunkInfo) → find (λ (c : ChunkInfo). c.number == k) cs ≡ None → filter (is_row_of (chunk_id k)) (map (row_of s g) (filter (is_owed s g) cs)) ≡ []
  no_own g k [] none = refl
  no_own g k (c ∷ cs) none = elim (cases_Bool (c.number == k)) [
    | inl same ↦ absurd (cc (rw same at none))
    | inr differs ↦ elim (cases_Bool (is_owed s g c)) [ inl is ↦ rw (is, differs) (no_own g k cs (rw differs at none)) | inr isnt ↦ rw isnt (no_own g k cs (rw differs at none)) ]
  ]

  owed_before : (c : ChunkInfo) → is_owed s later c ≡ true → is_owed s h c ≡ true
  owed_before c is = elim (cases_Bool (length (owed s h c) == 0)) [
    | inl none ↦ let gone = fewer s r Evicted h refl c.number (outputs_for s c.tag) none in absurd (cc (rw gone at is))
    | inr some ↦ rw some refl
  ]

  own_alike : (k least past : ℕ) (cs : List ChunkInfo) → NumbersRise least past cs → option_map_or (is_owed s later) (find (λ (c : ChunkInfo). c.number == k) cs) false ≡ true
      → Alike (filter (is_row_of (chunk_id k)) (map (row_of s later) (filter (is_owed s later) cs))) (filter (is_row_of (chunk_id k)) (map (row_of s h) (filter (is_owed s h) cs)))
  own_alike k least past [] rise is = tt
  own_alike k least past (c ∷ cs) rise is = elim (cases_eq c.number k) [
    | inl same ↦
        let here : (c.number == k) ≡ true = eq-eqb c.number k same in
        let below : k < c.number + 1 = omega (arith, same) in
        let none = none_before (c.number + 1) past k cs rise.2 below in
        let too : is_owed s later c ≡ true = rw here at is in
        rw (too, owed_before c too, here, no_own later k cs none, no_own h k cs none) (refl, refl, tt)
    | inr differs ↦
        let here : (c.number == k) ≡ false = ne_eqb c.number k differs in
        let rest = own_alike k (c.number + 1) past cs rise.2 (rw here at is) in
        elim (cases_Bool (is_owed s h c)) [
          | inl owes ↦ elim (cases_Bool (is_owed s later c)) [ inl too ↦ rw (owes, too, here) rest | inr gone ↦ rw (owes, gone, here) rest ]
          | inr none ↦ elim (cases_Bool (is_owed s later c)) [ inl too ↦ rw (none, too, here) rest | inr gone ↦ rw (none, gone) rest ]
        ]
  ]

  -- ---- what the other output evicts

  pub lost_same : (limit chunk : ℕ) → NumbersRise 0 (next h) (chunks_of h) → owes s later chunk ≡ true → evicted_for (output_id other) limit (chunk_id chunk) (rows_of s later) ≡ evicted_for (output_id other) limit (chunk_id chunk) (rows_of s h)
  lost_same limit chunk rise is =
      let flying = alike_where (λ row. in_file row && is_flying (output_id other) row) (flying_owed (output_id other)) (λ c. ap (λ (b : Bool). in_file (row_of s h c) && b) (flies_same c)) (chunks_of h) in
      let waiting = alike_where (λ row. in_file row && (is_waiting (output_id other) row && not (is_row_of (chunk_id chunk) row))) (waiting_owed (output_id other) (chunk_id chunk))
      (λ c. ap (λ (b : Bool). in_file (row_of s h c) && (b && not (is_row_of (chunk_id chunk) (row_of s h c)))) (waits_same c)) (chunks_of h) in
      let own = own_alike chunk 0 (next h) (chunks_of h) rise is in
      let total : fixed (output_id other) (chunk_id chunk) (rows_of s later) ≡ fixed (output_id other) (chunk_id chunk) (rows_of s h) = λ i. alike_size _ _ flying i + alike_size _ _ own i in
      (λ i. if nat_lt limit (total i) then chunk_id chunk ∷ [] else map (λ (row : Row). row.chunk) (evicted_among (limit - total i) (other_waiting (output_id other) (chunk_id chunk) (rows_of s later))))
      ∙ ap (λ (l : List ChunkId). if nat_lt limit (fixed (output_id other) (chunk_id chunk) (rows_of s h)) then chunk_id chunk ∷ [] else l) (alike_lost (limit - fixed (output_id other) (chunk_id chunk) (rows_of s h)) _ _ waiting)
