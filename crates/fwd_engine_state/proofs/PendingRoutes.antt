-- The row and the entry of a pending route.
use Rattle.std.proofs.Common.{◌≡◌, ℕ, Bool, true, false, not, inl, inr, List, [], ◌∷◌, Option, Some, None, map, refl, sym, ◌∙◌, ap, arith}
use Rattle.std.specs.Prelude.{◌==◌, filter, find, length}
use Rattle.std.specs.List.{list_any}
use Rattle.std.specs.Option.{option_map_or}
use Rattle.std.proofs.lemmas.Bool.{cases_Bool, ne_eqb, eqb-true}
use Rattle.fwd_settings.specs.declared.settings_types.AllSettings.{AllSettings}
use Rattle.fwd_table.specs.Routes.{is_to}
use Rattle.fwd_table.specs.Rows.{row_at, tries_of}
use Rattle.fwd_table.specs.Row.{Row}
use Rattle.fwd_table.specs.Route.{Route as Owed}
use Rattle.fwd_model.specs.Fact.{History, Route}
use Rattle.fwd_model.specs.Settings.{outputs_for}
use Rattle.fwd_model.specs.Chunks.{ChunkInfo, chunks_of, chunk_at, next}
use Rattle.fwd_model.specs.Routes.{route, tries, is_resolved, owed, is_owed, owes, is_idle, table_route, row_of, rows_of}
use Rattle.fwd_engine_state.specs.Views.{chunk_id, output_id}
use Rattle.fwd_engine_state.specs.StateRepresents.{NumbersRise, is_for, IsPending}
use Rattle.fwd_engine_state.proofs.PendingRows.{has_owes}
use Rattle.fwd_engine_state.proofs.IdleRoutes.{idle_has, idle_route}

-- ---- members of a filtered list

kept_in : (p : ℕ → Bool) (o : ℕ) (os : List ℕ) → list_any (λ n. n == o) os ≡ true → p o ≡ true → list_any (λ n. n == o) (filter p os) ≡ true
kept_in p o [] any is = absurd (cc any)
kept_in p o (n ∷ ns) any is = elim (cases_Bool (n == o)) [
  | inl same ↦ rw (ap p (eqb-true n o same) ∙ is, same) refl
  | inr differs ↦ elim (cases_Bool (p n)) [
    | inl has ↦ rw (has, differs) (kept_in p o ns (rw differs at any) is)
    | inr hasnt ↦ rw hasnt (kept_in p o ns (rw differs at any) is)
  ]
]

in_filter : (p : ℕ → Bool) (o : ℕ) (os : List ℕ) → list_any (λ n. n == o) (filter p os) ≡ true → (list_any (λ n. n == o) os ≡ true) × (p o ≡ true)
in_filter p o [] any = absurd (cc any)
in_filter p o (n ∷ ns) any = elim (cases_Bool (p n)) [
  | inl has ↦ elim (cases_Bool (n == o)) [
    | inl same ↦ (rw same refl, ap p (sym (eqb-true n o same)) ∙ has)
    | inr differs ↦ let rest = in_filter p o ns (rw (has, differs) at any) in (rw differs rest.0, rest.1)
  ]
  | inr hasnt ↦
      let rest = in_filter p o ns (rw hasnt at any) in
      (elim (cases_Bool (n == o)) [ inl same ↦ rw same refl | inr differs ↦ rw differs rest.0 ], rest.1)
]

some_there : (o : ℕ) (ns : List ℕ) → list_any (λ n. n == o) ns ≡ true → not (length ns == 0) ≡ true
some_there o [] any = absurd (cc any)
some_there o (n ∷ ns) any = let more : (length (n ∷ ns) == 0) ≡ false = ne_eqb (length (n ∷ ns)) 0 (λ e. absurd (omega (arith, e))) in rw more refl

-- ---- entries and rows

entry_there : (s : AllSettings) (h : History) (m o : ℕ) (ns : List ℕ) → list_any (λ n. n == o) ns ≡ true → find (is_to (output_id o)) (map (table_route s h m) ns) ≡ Some (table_route s h m o)
entry_there s h m o [] any = absurd (cc any)
entry_there s h m o (n ∷ ns) any = elim (cases_Bool (n == o)) [
  | inl same ↦ rw same (ap (λ (x : ℕ). Some (table_route s h m x)) (eqb-true n o same))
  | inr differs ↦ rw differs (entry_there s h m o ns (rw differs at any))
]

entry_is_owed : (s : AllSettings) (h : History) (m o : ℕ) (ns : List ℕ) (x : Owed) → find (is_to (output_id o)) (map (table_route s h m) ns) ≡ Some x → list_any (λ n. n == o) ns ≡ true
entry_is_owed s h m o [] x there = absurd (cc there)
entry_is_owed s h m o (n ∷ ns) x there = elim (cases_Bool (n == o)) [
  | inl same ↦ rw same refl
  | inr differs ↦ rw differs (entry_is_owed s h m o ns x (rw differs at there))
]

row_there : (s : AllSettings) (h : History) (k : ℕ) (cs : List ChunkInfo) (c : ChunkInfo) → find (λ (x : ChunkInfo). x.number == k) cs ≡ Some c → is_owed s h c ≡ true
    → row_at (chunk_id k) (map (row_of s h) (filter (is_owed s h) cs)) ≡ Some (row_of s h c)
row_there s h k [] c there owes = absurd (cc there)
row_there s h k (x ∷ cs) c there owes = elim (cases_Bool (x.number == k)) [
  | inl same ↦
      let first : Some x ≡ Some c = rw same at there in
      let e : x ≡ c = cc first in
      rw (ap (is_owed s h) e ∙ owes, same) (ap (λ (y : ChunkInfo). Some (row_of s h y)) e)
  | inr differs ↦ elim (cases_Bool (is_owed s h x)) [
    | inl is ↦ rw (is, differs) (row_there s h k cs c (rw differs at there) owes)
    | inr isnt ↦ rw isnt (row_there s h k cs c (rw differs at there) owes)
  ]
]

number_is : (k : ℕ) (cs : List ChunkInfo) (c : ChunkInfo) → find (λ (x : ChunkInfo). x.number == k) cs ≡ Some c → c.number ≡ k
number_is k [] c there = absurd (cc there)
number_is k (x ∷ cs) c there = elim (cases_Bool (x.number == k)) [
  | inl same ↦
      let first : Some x ≡ Some c = rw same at there in
      let e : x ≡ c = cc first in
      ap (λ (y : ChunkInfo). y.number) (sym e) ∙ eqb-true x.number k same
  | inr differs ↦ number_is k cs c (rw differs at there)
]

-- a chunk with some property is the one of its number
chunk_where : (p : ChunkInfo → Bool) (o at : Option ChunkInfo) → o ≡ at → option_map_or p at false ≡ true → (c : ChunkInfo) × (o ≡ Some c) × (p c ≡ true)
chunk_where p o None is has = absurd (cc has)
chunk_where p o (Some c) is has = (c, is, has)

not_true : (b : Bool) → not b ≡ true → b ≡ false
not_true true is = absurd (cc is)
not_true false is = refl

-- the table has the tries of a pending route
pub pending_tries : (s : AllSettings) (h : History) (r : Route) → IsPending s h r → tries_of (chunk_id r.chunk) (output_id r.output) (rows_of s h) ≡ tries h r
pending_tries s h r pending =
    let found = chunk_where (is_for s r.output) (chunk_at h r.chunk) (chunk_at h r.chunk) refl pending.0 in
    let c = found.0 in
    let number = number_is r.chunk (chunks_of h) c found.1 in
    let left : not (is_resolved s h (route c.number r.output)) ≡ true = ap (λ (n : ℕ). not (is_resolved s h (route n r.output))) number ∙ ap not pending.1 in
    let kept = kept_in (λ o. not (is_resolved s h (route c.number o))) r.output (outputs_for s c.tag) found.2 left in
    let row : row_at (chunk_id r.chunk) (rows_of s h) ≡ Some (row_of s h c) = row_there s h r.chunk (chunks_of h) c found.1 (some_there r.output (owed s h c) kept) in
    rw (row, entry_there s h c.number r.output (owed s h c) kept) (ap (λ (n : ℕ). tries h (route n r.output)) number)

-- an idle route is pending
pub idle_pending : (s : AllSettings) (h : History) (r : Route) → is_idle s h r ≡ true → NumbersRise 0 (next h) (chunks_of h) → IsPending s h r
idle_pending s h r idle rise =
    let has : owes s h r.chunk ≡ true = sym (has_owes s h r.chunk rise) ∙ idle_has s h r idle in
    let found = chunk_where (is_owed s h) (chunk_at h r.chunk) (chunk_at h r.chunk) refl has in
    let c = found.0 in
    let number = number_is r.chunk (chunks_of h) c found.1 in
    let there = idle_route s h r idle in
    let same : Some (row_of s h c) ≡ Some there.0 = sym (row_there s h r.chunk (chunks_of h) c found.1 found.2) ∙ there.1 in
    let row : row_of s h c ≡ there.0 = cc same in
    let entry : find (is_to (output_id r.output)) (map (table_route s h c.number) (owed s h c)) ≡ Some there.2 = ap (λ (x : Row). find (is_to (output_id r.output)) x.routes) row ∙ there.3 in
    let kept = in_filter (λ o. not (is_resolved s h (route c.number o))) r.output (outputs_for s c.tag) (entry_is_owed s h c.number r.output (owed s h c) there.2 entry) in
    (rw found.1 kept.0, ap (λ (n : ℕ). is_resolved s h (route n r.output)) (sym number) ∙ not_true _ kept.1)
