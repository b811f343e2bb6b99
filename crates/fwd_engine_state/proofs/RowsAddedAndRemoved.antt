-- How one more fact changes the rows if a route is resolved, or a chunk begins or was recovered.
use Rattle.std.proofs.Common.{◌≡◌, ◌≢◌, ℕ, ◌+◌, ◌<◌, ◌≤◌, Bool, true, false, ◌||◌, not, inl, inr, List, [], ◌∷◌, ◌++◌, Option, Some, None, map, refl, sym, ◌∙◌, ap, subst, arith}
use Rattle.std.specs.Prelude.{if◌then◌else◌, ◌==◌, filter, length}
use Rattle.std.proofs.lemmas.Bool.{cases_Bool, cases_eq, ne_eqb, eq-eqb, eqb-true}
use Rattle.std.proofs.lemmas.List.{length-map, map-append}
use Rattle.std.proofs.lemmas.List.Elements.{filter-append}
use Rattle.fwd_chunk.specs.declared.chunk.Chunk.{Chunk}
use Rattle.fwd_outside.specs.declared.home.Home.TheVariants.{Disk}
use Rattle.fwd_settings.specs.declared.settings_types.AllSettings.{AllSettings}
use Rattle.fwd_table.specs.Routes.{idle_at, routes_to, without_output, due_at}
use Rattle.fwd_table.specs.Rows.{is_row_of, on_chunk, resolved_to, owed_rows, shut_at, opened as opened_row}
use Rattle.fwd_table.specs.Row.{Row}
use Rattle.fwd_table.specs.Route.{Route as Owed}
use Rattle.fwd_model.specs.Fact.{History, Route, Outcome, Batch, NewChunk, Accepted, Found, OnRoute}
use Rattle.fwd_model.specs.Settings.{outputs_for, output_name, home_at}
use Rattle.fwd_model.specs.RecoveredFile.{recovered_chunk, is_marked_done}
use Rattle.fwd_model.specs.Chunks.{ChunkInfo, chunks_of, recovered_info, size, encoded, is_closed}
use Rattle.fwd_model.specs.Routes.{same_route, route, resolves, is_resolved, owed, is_owed, table_route, input_id, row_of, rows_of}
use Rattle.fwd_engine_state.specs.Views.{chunk_id, output_id}
use Rattle.fwd_engine_state.specs.StateRepresents.{NumbersRise, IsUntouched, IsMaskOf, remaining_for}
use Rattle.fwd_engine_state.proofs.RowChanges.{ended, standing_same, mapped, mapped_twice, rows_below, kept_where, no_more}

-- ---- a route is removed from its row

module _ (s : AllSettings) (r : Route) (o : Outcome) (h : History) (done : resolves o ≡ true) where
  -- the routes of the row of its chunk
  routes_out : (ns : List ℕ)
      → without_output (output_id r.output) (map (table_route s h r.chunk) (filter (λ n. not (is_resolved s h (route r.chunk n))) ns))
      ≡ map (table_route s (OnRoute r o ∷ h) r.chunk) (filter (λ n. not (is_resolved s (OnRoute r o ∷ h) (route r.chunk n))) ns)
  routes_out [] = refl
  routes_out (n ∷ ns) = elim (cases_eq n r.output) [
    | inl same ↦
        let there : (r.output == n) ≡ true = eq-eqb r.output n (sym same) in
        let chunk : (r.chunk == r.chunk) ≡ true = eq-eqb r.chunk r.chunk refl in
        elim (cases_Bool (is_resolved s h (route r.chunk n))) [
          | inl gone ↦ rw (ended s r o h (route r.chunk n) done, chunk, there, gone) (routes_out ns)
          | inr owed ↦ rw (ended s r o h (route r.chunk n) done, chunk, there, owed, eq-eqb n r.output same) (routes_out ns)
        ]
    | inr differs ↦
        let there : (r.output == n) ≡ false = ne_eqb r.output n (λ e. differs (sym e)) in
        let chunk : (r.chunk == r.chunk) ≡ true = eq-eqb r.chunk r.chunk refl in
        let apart : same_route r (route r.chunk n) ≡ false = rw (chunk, there) refl in
        elim (cases_Bool (is_resolved s h (route r.chunk n))) [
          | inl gone ↦ rw (ended s r o h (route r.chunk n) done, chunk, there, gone) (routes_out ns)
          | inr owed ↦ rw (ended s r o h (route r.chunk n) done, chunk, there, owed, ne_eqb n r.output differs) (λ i. standing_same s r o h r.chunk n apart i ∷ routes_out ns i)
        ]
  ]

  others_same : (m : ℕ) → (r.chunk == m) ≡ false → (n : ℕ) → is_resolved s (OnRoute r o ∷ h) (route m n) ≡ is_resolved s h (route m n)
  others_same m apart n = ended s r o h (route m n) done ∙ rw apart refl

  pub kept_same : (m : ℕ) → (r.chunk == m) ≡ false → (ns : List ℕ) → filter (λ n. not (is_resolved s (OnRoute r o ∷ h) (route m n))) ns ≡ filter (λ n. not (is_resolved s h (route m n))) ns
  kept_same m apart ns = kept_where _ _ (λ n. ap not (others_same m apart n)) ns

  out_one : (c : ChunkInfo) → (if c.number == r.chunk then resolved_to (output_id r.output) (row_of s h c) else row_of s h c) ≡ row_of s (OnRoute r o ∷ h) c
  out_one c = elim (cases_eq c.number r.chunk) [
    | inl same ↦
        let routes : without_output (output_id r.output) (map (table_route s h c.number) (owed s h c)) ≡ map (table_route s (OnRoute r o ∷ h) c.number) (owed s (OnRoute r o ∷ h) c) =
        subst (λ (m : ℕ). without_output (output_id r.output) (map (table_route s h m) (filter (λ n. not (is_resolved s h (route m n))) (outputs_for s c.tag)))
        ≡ map (table_route s (OnRoute r o ∷ h) m) (filter (λ n. not (is_resolved s (OnRoute r o ∷ h) (route m n))) (outputs_for s c.tag))) (sym same) (routes_out (outputs_for s c.tag)) in
        rw (eq-eqb c.number r.chunk same) (λ i. record (row_of s h c) { routes = routes i })
    | inr differs ↦
        let apart : (r.chunk == c.number) ≡ false = ne_eqb r.chunk c.number (λ e. differs (sym e)) in
        let each : (n : ℕ) → table_route s h c.number n ≡ table_route s (OnRoute r o ∷ h) c.number n = λ n. standing_same s r o h c.number n (rw apart refl) in
        let routes : map (table_route s h c.number) (owed s h c) ≡ map (table_route s (OnRoute r o ∷ h) c.number) (owed s (OnRoute r o ∷ h) c) =
        mapped (table_route s h c.number) (table_route s (OnRoute r o ∷ h) c.number) each (owed s h c) ∙ ap (map (table_route s (OnRoute r o ∷ h) c.number)) (sym (kept_same c.number apart (outputs_for s c.tag))) in
        rw (ne_eqb c.number r.chunk differs) (λ i. record (row_of s h c) { routes = routes i })
  ]

  -- a resolved route stays resolved
  pub fewer : (m : ℕ) (ns : List ℕ) → (length (filter (λ n. not (is_resolved s h (route m n))) ns) == 0) ≡ true → (length (filter (λ n. not (is_resolved s (OnRoute r o ∷ h) (route m n))) ns) == 0) ≡ true
  fewer m [] none = refl
  fewer m (n ∷ ns) none = elim (cases_Bool (is_resolved s h (route m n))) [
    | inl gone ↦ elim (cases_Bool (same_route r (route m n))) [
      | inl same ↦ rw (ended s r o h (route m n) done, same) (fewer m ns (rw gone at none))
      | inr differs ↦ rw (ended s r o h (route m n) done, differs, gone) (fewer m ns (rw gone at none))
    ]
    | inr left ↦ absurd (omega (arith, eqb-true _ 0 (rw left at none)))
  ]

  out_all : (cs : List ChunkInfo) → owed_rows (map (λ (row : Row). if is_row_of (chunk_id r.chunk) row then resolved_to (output_id r.output) row else row) (map (row_of s h) (filter (is_owed s h) cs)))
      ≡ map (row_of s (OnRoute r o ∷ h)) (filter (is_owed s (OnRoute r o ∷ h)) cs)
  out_all [] = refl
  out_all (c ∷ cs) =
      let long : length (map (table_route s (OnRoute r o ∷ h) c.number) (owed s (OnRoute r o ∷ h) c)) ≡ length (owed s (OnRoute r o ∷ h) c) = length-map (owed s (OnRoute r o ∷ h) c) (table_route s (OnRoute r o ∷ h) c.number) in
      elim (cases_Bool (length (owed s h c) == 0)) [
        | inl none ↦ rw (none, fewer c.number (outputs_for s c.tag) none) (out_all cs)
        | inr some ↦ elim (cases_Bool (length (owed s (OnRoute r o ∷ h) c) == 0)) [
          | inl gone ↦ rw (some, out_one c, long, gone) (out_all cs)
          | inr left ↦ rw (some, out_one c, long, left) (ap (λ (l : List Row). row_of s (OnRoute r o ∷ h) c ∷ l) (out_all cs))
        ]
      ]

  pub rows_ended : owed_rows (on_chunk (chunk_id r.chunk) (resolved_to (output_id r.output)) (rows_of s h)) ≡ rows_of s (OnRoute r o ∷ h)
  rows_ended = out_all (chunks_of h)

-- ---- a chunk is added

all_kept : (p : ℕ → Bool) → ((n : ℕ) → p n ≡ true) → (ns : List ℕ) → filter p ns ≡ ns
all_kept p each [] = refl
all_kept p each (n ∷ ns) = rw (each n) (ap (λ (l : List ℕ). n ∷ l) (all_kept p each ns))

some_left : (ns : List ℕ) → ns ≢ [] → not (length ns == 0) ≡ true
some_left [] some = absurd (some refl)
some_left (n ∷ ns) some = let more : (length (n ∷ ns) == 0) ≡ false = ne_eqb (length (n ∷ ns)) 0 (λ e. absurd (omega (arith, e))) in rw more refl

-- a pending chunk, after chunks whose rows stay the same
came : (s : AllSettings) (h g : History) (past : ℕ) (new : ChunkInfo) → chunks_of g ≡ chunks_of h ++ new ∷ [] → NumbersRise 0 past (chunks_of h)
    → ((c : ChunkInfo) → c.number < past → owed s g c ≡ owed s h c) → ((c : ChunkInfo) → c.number < past → row_of s h c ≡ row_of s g c) → is_owed s g new ≡ true
    → rows_of s h ++ row_of s g new ∷ [] ≡ rows_of s g
came s h g past new chunks rise same one owes =
    let last : filter (is_owed s g) (new ∷ []) ≡ new ∷ [] = rw owes refl in
    let split : filter (is_owed s g) (chunks_of h ++ new ∷ []) ≡ filter (is_owed s g) (chunks_of h) ++ new ∷ [] =
    filter-append (is_owed s g) (chunks_of h) (new ∷ []) ∙ ap (λ (l : List ChunkInfo). filter (is_owed s g) (chunks_of h) ++ l) last in
    ap (λ (l : List Row). l ++ row_of s g new ∷ []) (rows_below s h g 0 past same one (chunks_of h) rise)
    ∙ sym (ap (λ (cs : List ChunkInfo). map (row_of s g) (filter (is_owed s g) cs)) chunks ∙ ap (map (row_of s g)) split ∙ map-append (row_of s g) (filter (is_owed s g) (chunks_of h)) (new ∷ []))

-- ---- a chunk begins with a batch

module _ (s : AllSettings) (b : Batch) (n mask : ℕ) (h : History) (owes : IsMaskOf (outputs_for s b.tag) mask) (fresh : IsUntouched s h n) where
  abbrev first_chunk : ChunkInfo
  first_chunk = record { number = n; input = Some b.input; tag = b.tag }

  abbrev begun_with : History
  begun_with = Accepted b (NewChunk n) ∷ h

  first_owed : owed s begun_with first_chunk ≡ outputs_for s b.tag
  first_owed = all_kept _ (λ o. ap not ((fresh.2 o).3)) (outputs_for s b.tag)

  first_routes : map (table_route s begun_with n) (owed s begun_with first_chunk) ≡ routes_to mask
  first_routes =
      ap (map (table_route s begun_with n)) first_owed
      ∙ mapped (table_route s begun_with n) (λ o. idle_at 0 (output_id o)) (λ o. rw ((fresh.2 o).0, (fresh.2 o).1, (fresh.2 o).2) refl) (outputs_for s b.tag)
      ∙ sym owes.routes

  first_size : size begun_with n ≡ length (encoded b.events)
  first_size = rw (eq-eqb n n refl, fresh.1) refl

  first_row : row_of s begun_with first_chunk ≡ opened_row (chunk_id n) (Some (input_id b.input)) (home_at s b.input) b.tag (length (encoded b.events)) mask
  first_row = λ i. record { chunk = chunk_id n; input = Some (input_id b.input); home = home_at s b.input; tag = b.tag; size = first_size i; shut = fresh.0 i; routes = first_routes i }

  first_is_owed : is_owed s begun_with first_chunk ≡ true
  first_is_owed = ap (λ (l : List ℕ). not (length l == 0)) first_owed ∙ some_left (outputs_for s b.tag) owes.some

  first_others : (c : ChunkInfo) → c.number < n → row_of s h c ≡ row_of s begun_with c
  first_others c below = rw (ne_eqb n c.number (λ e. absurd (omega (arith, below, e)))) refl

  pub rows_first : NumbersRise 0 n (chunks_of h) → rows_of s h ++ opened_row (chunk_id n) (Some (input_id b.input)) (home_at s b.input) b.tag (length (encoded b.events)) mask ∷ [] ≡ rows_of s begun_with
  rows_first rise = ap (λ (row : Row). rows_of s h ++ row ∷ []) (sym first_row) ∙ came s h begun_with n first_chunk refl rise (λ c below. refl) first_others first_is_owed

-- ---- a chunk is recovered

-- a change of one chunk leaves the rows of lower numbers as they are
pub untouched : (s : AllSettings) (h : History) (least past n : ℕ) (f : Row → Row) (cs : List ChunkInfo) → NumbersRise least past cs → past ≤ n
    → on_chunk (chunk_id n) f (map (row_of s h) (filter (is_owed s h) cs)) ≡ map (row_of s h) (filter (is_owed s h) cs)
untouched s h least past n f [] rise above = refl
untouched s h least past n f (c ∷ cs) rise above =
    let below : c.number < past = rise.1 in
    let rest = untouched s h (c.number + 1) past n f cs rise.2 above in
    elim (cases_Bool (is_owed s h c)) [
      | inl is ↦ rw (is, ne_eqb c.number n (λ e. absurd (omega (arith, below, above, e)))) (ap (λ (l : List Row). row_of s h c ∷ l) rest)
      | inr isnt ↦ rw isnt rest
    ]

on_append : (n : ℕ) (f : Row → Row) (xs : List Row) (y : Row) → on_chunk (chunk_id n) f (xs ++ y ∷ []) ≡ on_chunk (chunk_id n) f xs ++ on_chunk (chunk_id n) f (y ∷ [])
on_append n f xs y = map-append _ xs (y ∷ [])

on_its_own : (n : ℕ) (f : Row → Row) (y : Row) → (y.chunk.0 == n) ≡ true → on_chunk (chunk_id n) f (y ∷ []) ≡ f y ∷ []
on_its_own n f y is = rw is refl

module _ (s : AllSettings) (n : ℕ) (stream name bytes : List ℕ) (h : History) (fresh : IsUntouched s h n) where
  abbrev found_with : History
  found_with = Found n stream name bytes ∷ h

  abbrev found_chunk : Chunk → ChunkInfo
  found_chunk chunk = record { number = n; input = None; tag = chunk.tag }

  pub chunks_found : (chunk : Chunk) → recovered_chunk bytes ≡ Some chunk → chunks_of found_with ≡ chunks_of h ++ found_chunk chunk ∷ []
  chunks_found chunk is = ap (λ (o : Option Chunk). chunks_of h ++ recovered_info n o) is

  found_resolved : (chunk : Chunk) → recovered_chunk bytes ≡ Some chunk → (o : ℕ) → is_resolved s found_with (route n o) ≡ is_marked_done (output_name s o) (Some chunk)
  found_resolved chunk is o = rw (eq-eqb n n refl, (fresh.2 o).3, is) (or_false (is_marked_done (output_name s o) (Some chunk)))
    where
      or_false : (b : Bool) → (b || false) ≡ b
      or_false true = refl
      or_false false = refl

  pub found_owed : (chunk : Chunk) → recovered_chunk bytes ≡ Some chunk → owed s found_with (found_chunk chunk) ≡ remaining_for s chunk
  found_owed chunk is = kept_where _ _ (λ o. ap not (found_resolved chunk is o)) (outputs_for s chunk.tag)

  others_owed : (c : ChunkInfo) → c.number < n → owed s found_with c ≡ owed s h c
  others_owed c below = kept_where _ _ (λ o. rw (ne_eqb n c.number (λ e. absurd (omega (arith, below, e)))) refl) (outputs_for s c.tag)

  others_row : (c : ChunkInfo) → c.number < n → row_of s h c ≡ row_of s found_with c
  others_row c below =
      let apart : (n == c.number) ≡ false = ne_eqb n c.number (λ e. absurd (omega (arith, below, e))) in
      let routes : map (table_route s h c.number) (owed s h c) ≡ map (table_route s found_with c.number) (owed s found_with c) = ap (map (table_route s h c.number)) (sym (others_owed c below)) in
      let long : size h c.number ≡ size found_with c.number = rw apart refl in
      let closed : is_closed h c.number ≡ is_closed found_with c.number = rw apart refl in
      λ i. record (row_of s h c) { size = long i; shut = closed i; routes = routes i }

  -- it is pending for outputs
  module _ (chunk : Chunk) (is : recovered_chunk bytes ≡ Some chunk) (mask : ℕ) (owes : IsMaskOf (remaining_for s chunk) mask) where
    due_now : (rs : List Owed) (os : List ℕ) → rs ≡ map (λ o. idle_at 0 (output_id o)) os → map (due_at 0) rs ≡ map (λ o. idle_at 0 (output_id o)) os
    due_now rs os same = ap (map (due_at 0)) same ∙ mapped_twice (due_at 0) (λ o. idle_at 0 (output_id o)) (λ o. idle_at 0 (output_id o)) (λ o. refl) os

    found_routes : map (table_route s found_with n) (owed s found_with (found_chunk chunk)) ≡ map (due_at 0) (routes_to mask)
    found_routes =
        ap (map (table_route s found_with n)) (found_owed chunk is)
        ∙ mapped (table_route s found_with n) (λ o. idle_at 0 (output_id o)) (λ o. rw ((fresh.2 o).0, (fresh.2 o).1, (fresh.2 o).2) refl) (remaining_for s chunk)
        ∙ sym (due_now (routes_to mask) (remaining_for s chunk) owes.routes)

    found_size : size found_with n ≡ length chunk.content
    found_size = rw (eq-eqb n n refl, is) refl

    found_shut : is_closed found_with n ≡ true
    found_shut = rw (eq-eqb n n refl) refl

    found_row : row_of s found_with (found_chunk chunk) ≡ shut_at 0 (opened_row (chunk_id n) None Disk chunk.tag (length chunk.content) mask)
    found_row = λ i. record { chunk = chunk_id n; input = None; home = Disk; tag = chunk.tag; size = found_size i; shut = found_shut i; routes = found_routes i }

    found_is_owed : is_owed s found_with (found_chunk chunk) ≡ true
    found_is_owed = ap (λ (l : List ℕ). not (length l == 0)) (found_owed chunk is) ∙ some_left (remaining_for s chunk) owes.some

    pub rows_found : (past : ℕ) → NumbersRise 0 past (chunks_of h) → past ≤ n
        → on_chunk (chunk_id n) (shut_at 0) (rows_of s h ++ opened_row (chunk_id n) None Disk chunk.tag (length chunk.content) mask ∷ []) ≡ rows_of s found_with
    rows_found past rise above =
        let one : on_chunk (chunk_id n) (shut_at 0) (opened_row (chunk_id n) None Disk chunk.tag (length chunk.content) mask ∷ []) ≡ row_of s found_with (found_chunk chunk) ∷ [] = on_its_own n (shut_at 0) _ (eq-eqb n n refl) ∙ (λ i. sym found_row i ∷ []) in
        on_append n (shut_at 0) (rows_of s h) _ ∙ (λ i. untouched s h 0 past n (shut_at 0) (chunks_of h) rise above i ++ one i)
        ∙ came s h found_with past (found_chunk chunk) (chunks_found chunk is) rise (λ c below. others_owed c (omega (arith, below, above))) (λ c below. others_row c (omega (arith, below, above))) found_is_owed

  -- it is pending for none
  pub rows_passed : (past : ℕ) → NumbersRise 0 past (chunks_of h) → past ≤ n → ((chunk : Chunk) → recovered_chunk bytes ≡ Some chunk → remaining_for s chunk ≡ []) → rows_of s h ≡ rows_of s found_with
  rows_passed past rise above none =
      rows_below s h found_with 0 past (λ c below. others_owed c (omega (arith, below, above))) (λ c below. others_row c (omega (arith, below, above))) (chunks_of h) rise ∙ sym (by (recovered_chunk bytes) refl)
    where
      by : (o : Option Chunk) → recovered_chunk bytes ≡ o → map (row_of s found_with) (filter (is_owed s found_with) (chunks_of h ++ recovered_info n o)) ≡ map (row_of s found_with) (filter (is_owed s found_with) (chunks_of h))
      by None is = ap (λ (cs : List ChunkInfo). map (row_of s found_with) (filter (is_owed s found_with) cs)) (no_more (chunks_of h))
      by (Some chunk) is =
          let owes_not : is_owed s found_with (found_chunk chunk) ≡ false = ap (λ (l : List ℕ). not (length l == 0)) (found_owed chunk is ∙ none chunk is) in
          let last : filter (is_owed s found_with) (found_chunk chunk ∷ []) ≡ [] = rw owes_not refl in
          ap (map (row_of s found_with)) (filter-append (is_owed s found_with) (chunks_of h) (found_chunk chunk ∷ []) ∙ ap (λ (l : List ChunkInfo). filter (is_owed s found_with) (chunks_of h) ++ l) last ∙ no_more (filter (is_owed s found_with) (chunks_of h)))
