-- How one more fact changes the rows.
use Rattle.std.proofs.Common.{◌≡◌, ℕ, ◌+◌, ◌<◌, Bool, true, false, ◌&&◌, ◌||◌, not, inl, inr, List, [], ◌∷◌, ◌++◌, None, map, refl, sym, ◌∙◌, ap, subst}
use Rattle.std.specs.Prelude.{if◌then◌else◌, ◌==◌, filter, length, is_some}
use Rattle.std.proofs.lemmas.Bool.{cases_Bool, cases_eq, ne_eqb, eq-eqb}
use Rattle.fwd_event.specs.declared.event.Event.{Event}
use Rattle.fwd_settings.specs.declared.settings_types.AllSettings.{AllSettings}
use Rattle.fwd_flush.specs.FlushProgram.{Progress}
use Rattle.fwd_table.specs.Outcomes.{due_after}
use Rattle.fwd_table.specs.Routes.{due_at, started, retried, is_to, on_output}
use Rattle.fwd_table.specs.Rows.{is_row_of, on_chunk, shut_at, grown, started_to, retried_to}
use Rattle.fwd_table.specs.Row.{Row}
use Rattle.fwd_table.specs.Route.{Route as Owed}
use Rattle.fwd_model.specs.Fact.{History, Route, Outcome, Batch, Accepted, AppendedTo, ChunkClosed, OnRoute, FlushStarted, InFlight, Retries, Delivered, Failed, Exhausted, Evicted}
use Rattle.fwd_model.specs.Settings.{saturating_plus, outputs_for}
use Rattle.fwd_model.specs.Clock.{clock}
use Rattle.fwd_model.specs.Chunks.{ChunkInfo, chunks_of, size}
use Rattle.fwd_model.specs.Routes.{same_route, route, tries, flight, wait_for, resolves, is_resolved, owed, is_owed, table_route, row_of, rows_of}
use Rattle.fwd_engine_state.specs.Views.{chunk_id, output_id}
use Rattle.fwd_engine_state.specs.StateRepresents.{NumbersRise}

-- ---- the rows of some chunks, each changed

pub rows_mapped : (s : AllSettings) (h g : History) (f : Row → Row) → ((c : ChunkInfo) → owed s g c ≡ owed s h c) → ((c : ChunkInfo) → f (row_of s h c) ≡ row_of s g c) → (cs : List ChunkInfo)
    → map f (map (row_of s h) (filter (is_owed s h) cs)) ≡ map (row_of s g) (filter (is_owed s g) cs)
rows_mapped s h g f same one [] = refl
rows_mapped s h g f same one (c ∷ cs) =
    let also : is_owed s g c ≡ is_owed s h c = ap (λ (l : List ℕ). not (length l == 0)) (same c) in
    elim (cases_Bool (is_owed s h c)) [
      | inl has ↦ rw (also, has) (λ i. one c i ∷ rows_mapped s h g f same one cs i)
      | inr hasnt ↦ rw (also, hasnt) (rows_mapped s h g f same one cs)
    ]

-- chunks below a number, whose rows stay the same
pub rows_below : (s : AllSettings) (h g : History) (least past : ℕ) → ((c : ChunkInfo) → c.number < past → owed s g c ≡ owed s h c) → ((c : ChunkInfo) → c.number < past → row_of s h c ≡ row_of s g c) → (cs : List ChunkInfo)
    → NumbersRise least past cs → map (row_of s h) (filter (is_owed s h) cs) ≡ map (row_of s g) (filter (is_owed s g) cs)
rows_below s h g least past same one [] rise = refl
rows_below s h g least past same one (c ∷ cs) rise =
    let also : is_owed s g c ≡ is_owed s h c = ap (λ (l : List ℕ). not (length l == 0)) (same c rise.1) in
    let rest = rows_below s h g (c.number + 1) past same one cs rise.2 in
    elim (cases_Bool (is_owed s h c)) [
      | inl has ↦ rw (also, has) (λ i. one c rise.1 i ∷ rest i)
      | inr hasnt ↦ rw (also, hasnt) rest
    ]

-- pointwise equality of mapped lists
pub mapped : {X Y : Type 0} (f g : X → Y) → ((x : X) → f x ≡ g x) → (xs : List X) → map f xs ≡ map g xs
mapped f g each [] = refl
mapped f g each (x ∷ xs) = λ i. each x i ∷ mapped f g each xs i

pub mapped_twice : {X Y Z : Type 0} (f : Y → Z) (g : X → Y) (k : X → Z) → ((x : X) → f (g x) ≡ k x) → (xs : List X) → map f (map g xs) ≡ map k xs
mapped_twice f g k each [] = refl
mapped_twice f g k each (x ∷ xs) = λ i. each x i ∷ mapped_twice f g k each xs i

-- ---- a chunk closes

shut_one : (s : AllSettings) (n : ℕ) (h : History) (c : ChunkInfo) → (if c.number == n then shut_at (clock h) (row_of s h c) else row_of s h c) ≡ row_of s (ChunkClosed n ∷ h) c
shut_one s n h c = elim (cases_eq c.number n) [
  | inl same ↦
      let here : (c.number == n) ≡ true = eq-eqb c.number n same in
      let there : (n == c.number) ≡ true = eq-eqb n c.number (sym same) in
      let due : (o : ℕ) → due_at (clock h) (table_route s h c.number o) ≡ table_route s (ChunkClosed n ∷ h) c.number o = λ o. rw there refl in
      let routes = mapped_twice (due_at (clock h)) (table_route s h c.number) (table_route s (ChunkClosed n ∷ h) c.number) due (owed s h c) in
      rw (here, there, routes) refl
  | inr differs ↦
      let here : (c.number == n) ≡ false = ne_eqb c.number n differs in
      let there : (n == c.number) ≡ false = ne_eqb n c.number (λ e. differs (sym e)) in
      let same : (o : ℕ) → table_route s h c.number o ≡ table_route s (ChunkClosed n ∷ h) c.number o = λ o. rw there refl in
      rw (here, there, mapped (table_route s h c.number) (table_route s (ChunkClosed n ∷ h) c.number) same (owed s h c)) refl
]

pub rows_shut : (s : AllSettings) (n : ℕ) (h : History) → on_chunk (chunk_id n) (shut_at (clock h)) (rows_of s h) ≡ rows_of s (ChunkClosed n ∷ h)
rows_shut s n h = rows_mapped s h (ChunkClosed n ∷ h) _ (λ c. refl) (shut_one s n h) (chunks_of h)

-- ---- a chunk grows

grown_one : (s : AllSettings) (n bytes : ℕ) (b : Batch) (h : History) → bytes ≡ size (Accepted b (AppendedTo n) ∷ h) n → (c : ChunkInfo)
    → (if c.number == n then grown bytes (row_of s h c) else row_of s h c) ≡ row_of s (Accepted b (AppendedTo n) ∷ h) c
grown_one s n bytes b h is c = elim (cases_eq c.number n) [
  | inl same ↦
      let here : (c.number == n) ≡ true = eq-eqb c.number n same in
      rw here (λ i. record (row_of s h c) { size = (is ∙ ap (size (Accepted b (AppendedTo n) ∷ h)) (sym same)) i })
  | inr differs ↦
      let here : (c.number == n) ≡ false = ne_eqb c.number n differs in
      let there : (n == c.number) ≡ false = ne_eqb n c.number (λ e. differs (sym e)) in
      rw (here, there) refl
]

pub no_more : {T : Type 0} (cs : List T) → cs ++ [] ≡ cs
no_more [] = refl
no_more (c ∷ cs) = λ i. c ∷ no_more cs i

pub chunks_behind : (b : Batch) (n : ℕ) (h : History) → chunks_of (Accepted b (AppendedTo n) ∷ h) ≡ chunks_of h
chunks_behind b n h = no_more (chunks_of h)

pub rows_grown : (s : AllSettings) (n bytes : ℕ) (b : Batch) (h : History) → bytes ≡ size (Accepted b (AppendedTo n) ∷ h) n → on_chunk (chunk_id n) (grown bytes) (rows_of s h) ≡ rows_of s (Accepted b (AppendedTo n) ∷ h)
rows_grown s n bytes b h is =
    rows_mapped s h (Accepted b (AppendedTo n) ∷ h) _ (λ c. refl) (grown_one s n bytes b h is) (chunks_of h)
    ∙ ap (λ (cs : List ChunkInfo). map (row_of s (Accepted b (AppendedTo n) ∷ h)) (filter (is_owed s (Accepted b (AppendedTo n) ∷ h)) cs)) (sym (chunks_behind b n h))

-- ---- a route that stays pending

and_false : (b : Bool) → (b && false) ≡ false
and_false true = refl
and_false false = refl

and_true : (b : Bool) → (b && true) ≡ b
and_true true = refl
and_true false = refl

pub still : (s : AllSettings) (r : Route) (o : Outcome) (h : History) (r2 : Route) → resolves o ≡ false → is_resolved s (OnRoute r o ∷ h) r2 ≡ is_resolved s h r2
still s r o h r2 not_yet = rw (not_yet, and_false (same_route r r2)) refl

pub kept_where : (p q : ℕ → Bool) → ((n : ℕ) → p n ≡ q n) → (ns : List ℕ) → filter p ns ≡ filter q ns
kept_where p q each [] = refl
kept_where p q each (n ∷ ns) = elim (cases_Bool (q n)) [
  | inl has ↦ rw (each n, has) (ap (λ (l : List ℕ). n ∷ l) (kept_where p q each ns))
  | inr hasnt ↦ rw (each n, hasnt) (kept_where p q each ns)
]

pub owed_still : (s : AllSettings) (r : Route) (o : Outcome) (h : History) → resolves o ≡ false → (c : ChunkInfo) → owed s (OnRoute r o ∷ h) c ≡ owed s h c
owed_still s r o h not_yet c = kept_where _ _ (λ n. ap not (still s r o h (route c.number n) not_yet)) (outputs_for s c.tag)

-- a row in which one route changes, as the fact says
module _ (s : AllSettings) (r : Route) (o : Outcome) (h : History) (f : Owed → Owed) (not_yet : resolves o ≡ false)
    (is : f (table_route s h r.chunk r.output) ≡ table_route s (OnRoute r o ∷ h) r.chunk r.output)
    (other : (m n : ℕ) → same_route r (route m n) ≡ false → table_route s h m n ≡ table_route s (OnRoute r o ∷ h) m n) where
  route_one : (n : ℕ) → (if n == r.output then f (table_route s h r.chunk n) else table_route s h r.chunk n) ≡ table_route s (OnRoute r o ∷ h) r.chunk n
  route_one n = elim (cases_eq n r.output) [
    | inl same ↦ rw (eq-eqb n r.output same) (subst (λ (m : ℕ). f (table_route s h r.chunk m) ≡ table_route s (OnRoute r o ∷ h) r.chunk m) (sym same) is)
    | inr differs ↦
        let apart : (r.output == n) ≡ false = ne_eqb r.output n (λ e. differs (sym e)) in
        rw (ne_eqb n r.output differs) (other r.chunk n (rw (apart, and_false (r.chunk == r.chunk)) refl))
  ]

  routes_here : (ns : List ℕ) → on_output (output_id r.output) f (map (table_route s h r.chunk) ns) ≡ map (table_route s (OnRoute r o ∷ h) r.chunk) ns
  routes_here ns = mapped_twice (λ (x : Owed). if is_to (output_id r.output) x then f x else x) (table_route s h r.chunk) (table_route s (OnRoute r o ∷ h) r.chunk) route_one ns

  routed_one : (c : ChunkInfo) → (if c.number == r.chunk then record (row_of s h c) { routes = on_output (output_id r.output) f (row_of s h c).routes } else row_of s h c) ≡ row_of s (OnRoute r o ∷ h) c
  routed_one c = elim (cases_eq c.number r.chunk) [
    | inl same ↦
        let routes : on_output (output_id r.output) f (map (table_route s h c.number) (owed s h c)) ≡ map (table_route s (OnRoute r o ∷ h) c.number) (owed s h c) =
        subst (λ (m : ℕ). on_output (output_id r.output) f (map (table_route s h m) (owed s h c)) ≡ map (table_route s (OnRoute r o ∷ h) m) (owed s h c)) (sym same) (routes_here (owed s h c)) in
        rw (eq-eqb c.number r.chunk same, owed_still s r o h not_yet c, routes) refl
    | inr differs ↦
        let apart : (r.chunk == c.number) ≡ false = ne_eqb r.chunk c.number (λ e. differs (sym e)) in
        let same : (n : ℕ) → table_route s h c.number n ≡ table_route s (OnRoute r o ∷ h) c.number n = λ n. other c.number n (rw apart refl) in
        rw (ne_eqb c.number r.chunk differs, owed_still s r o h not_yet c, mapped (table_route s h c.number) (table_route s (OnRoute r o ∷ h) c.number) same (owed s h c)) refl
  ]

  pub rows_routed : on_chunk (chunk_id r.chunk) (λ (row : Row). record row { routes = on_output (output_id r.output) f row.routes }) (rows_of s h) ≡ rows_of s (OnRoute r o ∷ h)
  rows_routed = rows_mapped s h (OnRoute r o ∷ h) _ (owed_still s r o h not_yet) routed_one (chunks_of h)

pub same_self : (r : Route) → same_route r (route r.chunk r.output) ≡ true
same_self r = rw (eq-eqb r.chunk r.chunk refl, eq-eqb r.output r.output refl) refl

pub rows_flies : (s : AllSettings) (r : Route) (p : Progress) (h : History) → on_chunk (chunk_id r.chunk) (started_to (output_id r.output)) (rows_of s h) ≡ rows_of s (OnRoute r (InFlight p) ∷ h)
rows_flies s r p h = rows_routed s r (InFlight p) h started refl (rw (same_self r) refl) (λ m n differs. rw differs refl)

pub rows_retries : (s : AllSettings) (r : Route) (word wait_s : ℕ) (h : History) → wait_s ≡ wait_for s (saturating_plus (tries h r) 1) word
    → on_chunk (chunk_id r.chunk) (retried_to (output_id r.output) (due_after (clock h) wait_s)) (rows_of s h) ≡ rows_of s (OnRoute r (Retries word) ∷ h)
rows_retries s r word wait_s h is =
    ap (λ (n : ℕ). on_chunk (chunk_id r.chunk) (retried_to (output_id r.output) (due_after (clock h) n)) (rows_of s h)) is
    ∙ rows_routed s r (Retries word) h (retried (due_after (clock h) (wait_for s (saturating_plus (tries h r) 1) word))) refl (rw (same_self r) refl) (λ m n differs. rw differs refl)

-- a flush of a route that has none begins
pub rows_begun : (s : AllSettings) (r : Route) (events : List Event) (h : History) → flight h r ≡ None → rows_of s h ≡ rows_of s (OnRoute r (FlushStarted events) ∷ h)
rows_begun s r events h idle = sym (on_same (rows_of s h)) ∙ rows_routed s r (FlushStarted events) h (λ x. x) refl (rw (same_self r) (λ i. record (table_route s h r.chunk r.output) { flying = is_some (idle i) })) (λ m n differs. rw differs refl)
  where
    routes_same : (routes : List Owed) → on_output (output_id r.output) (λ x. x) routes ≡ routes
    routes_same [] = refl
    routes_same (x ∷ xs) = elim (cases_Bool (is_to (output_id r.output) x)) [ inl is ↦ rw is (ap (λ (l : List Owed). x ∷ l) (routes_same xs)) | inr isnt ↦ rw isnt (ap (λ (l : List Owed). x ∷ l) (routes_same xs)) ]

    on_same : (rows : List Row) → on_chunk (chunk_id r.chunk) (λ (row : Row). record row { routes = on_output (output_id r.output) (λ x. x) row.routes }) rows ≡ rows
    on_same [] = refl
    on_same (row ∷ rows) = elim (cases_Bool (is_row_of (chunk_id r.chunk) row)) [
      | inl is ↦ rw is (λ i. record row { routes = routes_same row.routes i } ∷ on_same rows i)
      | inr isnt ↦ rw isnt (λ i. row ∷ on_same rows i)
    ]

-- ---- a route that is resolved

pub ended : (s : AllSettings) (r : Route) (o : Outcome) (h : History) (r2 : Route) → resolves o ≡ true → is_resolved s (OnRoute r o ∷ h) r2 ≡ (same_route r r2 || is_resolved s h r2)
ended s r o h r2 done = rw (done, and_true (same_route r r2)) refl

pub standing_same : (s : AllSettings) (r : Route) (o : Outcome) (h : History) (m n : ℕ) → same_route r (route m n) ≡ false → table_route s h m n ≡ table_route s (OnRoute r o ∷ h) m n
standing_same s r (FlushStarted events) h m n differs = rw differs refl
standing_same s r (InFlight p) h m n differs = rw differs refl
standing_same s r (Retries w) h m n differs = rw differs refl
standing_same s r Delivered h m n differs = rw differs refl
standing_same s r Failed h m n differs = rw differs refl
standing_same s r Exhausted h m n differs = rw differs refl
standing_same s r Evicted h m n differs = rw differs refl
