-- Which chunks have rows after one more fact.
use Rattle.std.proofs.Common.{◌≡◌, ◌≢◌, ℕ, ◌+◌, ◌<◌, Bool, true, false, not, inl, inr, List, [], ◌∷◌, ◌++◌, None, map, refl, sym, ◌∙◌, ap, arith}
use Rattle.std.specs.Prelude.{if◌then◌else◌, ◌==◌, filter, find, length}
use Rattle.std.specs.Option.{option_map_or}
use Rattle.std.proofs.lemmas.Bool.{cases_Bool, cases_eq, ne_eqb, eq-eqb, eqb-true}
use Rattle.fwd_settings.specs.declared.settings_types.AllSettings.{AllSettings}
use Rattle.fwd_base.specs.declared.ids.ChunkId.{ChunkId}
use Rattle.fwd_table.specs.Rows.{is_row_of, on_chunk, has_row}
use Rattle.fwd_table.specs.Row.{Row}
use Rattle.fwd_model.specs.Fact.{History, Route, Outcome, OnRoute}
use Rattle.fwd_model.specs.Settings.{outputs_for}
use Rattle.fwd_model.specs.Chunks.{ChunkInfo, chunks_of, is_closed, next}
use Rattle.fwd_model.specs.Routes.{resolves, owed, is_owed, owes, row_of, rows_of}
use Rattle.fwd_engine_state.specs.Views.{chunk_id}
use Rattle.fwd_engine_state.specs.StateRepresents.{NumbersRise, is_open}
use Rattle.fwd_engine_state.proofs.RowsAddedAndRemoved.{kept_same}
use Rattle.fwd_engine_state.proofs.ChunkOrder.{none_before}
use Rattle.fwd_engine_state.proofs.ChunksAndAttempts.{open_is}

-- ---- rows

pub has_mapped : (k : ChunkId) (f : Row → Row) → ((row : Row) → (f row).chunk.0 ≡ row.chunk.0) → (rows : List Row) → has_row k (map f rows) ≡ has_row k rows
has_mapped k f same [] = refl
has_mapped k f same (row ∷ rows) =
    let one : is_row_of k (f row) ≡ is_row_of k row = ap (λ (n : ℕ). n == k.0) (same row) in
    elim (cases_Bool (is_row_of k row)) [
      | inl is ↦ rw (one, is) refl
      | inr isnt ↦ rw (one, isnt) (has_mapped k f same rows)
    ]

kept_chunk : (f : Row → Row) → ((row : Row) → (f row).chunk.0 ≡ row.chunk.0) → (b : Bool) (row : Row) → (if b then f row else row).chunk.0 ≡ row.chunk.0
kept_chunk f same true row = same row
kept_chunk f same false row = refl

pub has_on_chunk : (k chunk : ChunkId) (f : Row → Row) → ((row : Row) → (f row).chunk.0 ≡ row.chunk.0) → (rows : List Row) → has_row k (on_chunk chunk f rows) ≡ has_row k rows
has_on_chunk k chunk f same rows = has_mapped k _ (λ row. kept_chunk f same (is_row_of chunk row) row) rows

pub has_append : (k : ChunkId) (xs : List Row) (y : Row) → has_row k (xs ++ y ∷ []) ≡ (if y.chunk.0 == k.0 then true else has_row k xs)
has_append k [] y = elim (cases_Bool (y.chunk.0 == k.0)) [ inl is ↦ rw is refl | inr isnt ↦ rw isnt refl ]
has_append k (x ∷ xs) y = elim (cases_Bool (is_row_of k x)) [
  | inl is ↦ rw is (elim (cases_Bool (y.chunk.0 == k.0)) [ inl same ↦ rw same refl | inr differs ↦ rw differs refl ])
  | inr isnt ↦ rw isnt (has_append k xs y)
]

-- a chunk that has a row keeps it when another row is added
pub has_also : (k : ChunkId) (xs : List Row) (y : Row) → has_row k xs ≡ true → has_row k (xs ++ y ∷ []) ≡ true
has_also k xs y has = has_append k xs y ∙ elim (cases_Bool (y.chunk.0 == k.0)) [ inl is ↦ rw is refl | inr isnt ↦ rw isnt has ]

pub has_last : (k : ChunkId) (xs : List Row) (y : Row) → (y.chunk.0 == k.0) ≡ true → has_row k (xs ++ y ∷ []) ≡ true
has_last k xs y is = has_append k xs y ∙ rw is refl

-- ---- a resolved route is in the row of its own chunk alone

module _ (s : AllSettings) (h g : History) (chunk k : ℕ) (differs : k ≢ chunk) (same : (c : ChunkInfo) → c.number ≢ chunk → owed s g c ≡ owed s h c) where
  has_others : (cs : List ChunkInfo) → has_row (chunk_id k) (map (row_of s g) (filter (is_owed s g) cs)) ≡ has_row (chunk_id k) (map (row_of s h) (filter (is_owed s h) cs))
  has_others [] = refl
  has_others (c ∷ cs) = elim (cases_eq c.number k) [
    | inl is ↦
        let also : is_owed s g c ≡ is_owed s h c = ap (λ (l : List ℕ). not (length l == 0)) (same c (λ e. differs (sym is ∙ e))) in
        elim (cases_Bool (is_owed s h c)) [
          | inl has ↦ rw (also, has, eq-eqb c.number k is) refl
          | inr hasnt ↦ rw (also, hasnt) (has_others cs)
        ]
    | inr isnt ↦
        let apart : (c.number == k) ≡ false = ne_eqb c.number k isnt in
        elim (cases_Bool (is_owed s g c)) [
          | inl a ↦ elim (cases_Bool (is_owed s h c)) [
            | inl b ↦ rw (a, b, apart) (has_others cs)
            | inr b ↦ rw (a, b, apart) (has_others cs)
          ]
          | inr a ↦ elim (cases_Bool (is_owed s h c)) [
            | inl b ↦ rw (a, b, apart) (has_others cs)
            | inr b ↦ rw (a, b) (has_others cs)
          ]
        ]
  ]

  pub has_other : chunks_of g ≡ chunks_of h → has_row (chunk_id k) (rows_of s g) ≡ has_row (chunk_id k) (rows_of s h)
  has_other chunks = ap (λ (cs : List ChunkInfo). has_row (chunk_id k) (map (row_of s g) (filter (is_owed s g) cs))) chunks ∙ has_others (chunks_of h)

-- if a route of a closed chunk is resolved, each open chunk stays pending
pub open_left_owed : (s : AllSettings) (r : Route) (o : Outcome) (h : History) → resolves o ≡ true → is_closed h r.chunk ≡ true → (k : ℕ) → is_open h k ≡ true
    → has_row (chunk_id k) (rows_of s h) ≡ true → has_row (chunk_id k) (rows_of s (OnRoute r o ∷ h)) ≡ true
open_left_owed s r o h done closed k is has =
    let differs : k ≢ r.chunk = λ e. let still = open_is h k is in absurd (cc (sym still ∙ ap (is_closed h) e ∙ closed)) in
    has_other s h (OnRoute r o ∷ h) r.chunk k differs
    (λ c apart. kept_same s r o h done c.number (ne_eqb r.chunk c.number (λ e. apart (sym e))) (outputs_for s c.tag)) refl
    ∙ has

-- ---- a chunk is pending exactly if its number has a row

pub no_row : (s : AllSettings) (h : History) (k : ℕ) (cs : List ChunkInfo) → find (λ (c : ChunkInfo). c.number == k) cs ≡ None → has_row (chunk_id k) (map (row_of s h) (filter (is_owed s h) cs)) ≡ false
no_row s h k [] none = refl
no_row s h k (c ∷ cs) none = elim (cases_Bool (c.number == k)) [
  | inl same ↦ absurd (cc (rw same at none))
  | inr differs ↦ elim (cases_Bool (is_owed s h c)) [
    | inl is ↦ rw (is, differs) (no_row s h k cs (rw differs at none))
    | inr isnt ↦ rw isnt (no_row s h k cs (rw differs at none))
  ]
]

row_owes : (s : AllSettings) (h : History) (k least past : ℕ) (cs : List ChunkInfo) → NumbersRise least past cs
    → has_row (chunk_id k) (map (row_of s h) (filter (is_owed s h) cs)) ≡ option_map_or (is_owed s h) (find (λ (c : ChunkInfo). c.number == k) cs) false
row_owes s h k least past [] rise = refl
row_owes s h k least past (c ∷ cs) rise = elim (cases_eq c.number k) [
  | inl same ↦
      let here : (c.number == k) ≡ true = eq-eqb c.number k same in
      let below : k < c.number + 1 = omega (arith, same) in
      elim (cases_Bool (is_owed s h c)) [
        | inl is ↦ rw (is, here) (sym is)
        | inr isnt ↦ rw (isnt, here) (no_row s h k cs (none_before (c.number + 1) past k cs rise.2 below) ∙ sym isnt)
      ]
  | inr differs ↦
      let apart : (c.number == k) ≡ false = ne_eqb c.number k differs in
      elim (cases_Bool (is_owed s h c)) [
        | inl is ↦ rw (is, apart) (row_owes s h k (c.number + 1) past cs rise.2)
        | inr isnt ↦ rw (isnt, apart) (row_owes s h k (c.number + 1) past cs rise.2)
      ]
]

pub has_owes : (s : AllSettings) (h : History) (k : ℕ) → NumbersRise 0 (next h) (chunks_of h) → has_row (chunk_id k) (rows_of s h) ≡ owes s h k
has_owes s h k rise = row_owes s h k 0 (next h) (chunks_of h) rise

-- ---- a chunk with a row is below the next number

has_below : (s : AllSettings) (h : History) (k least past : ℕ) (cs : List ChunkInfo) → NumbersRise least past cs → has_row (chunk_id k) (map (row_of s h) (filter (is_owed s h) cs)) ≡ true → k < past
has_below s h k least past [] rise has = absurd (cc has)
has_below s h k least past (c ∷ cs) rise has =
    let first : c.number < past = rise.1 in
    elim (cases_Bool (is_owed s h c)) [
      | inl is ↦ elim (cases_Bool (c.number == k)) [
        | inl same ↦ let e : c.number ≡ k = eqb-true c.number k same in omega (arith, first, e)
        | inr differs ↦ has_below s h k (c.number + 1) past cs rise.2 (rw (is, differs) at has)
      ]
      | inr isnt ↦ has_below s h k (c.number + 1) past cs rise.2 (rw isnt at has)
    ]

pub has_given : (s : AllSettings) (h : History) (k : ℕ) → NumbersRise 0 (next h) (chunks_of h) → has_row (chunk_id k) (rows_of s h) ≡ true → k < next h
has_given s h k rise has = has_below s h k 0 (next h) (chunks_of h) rise has
