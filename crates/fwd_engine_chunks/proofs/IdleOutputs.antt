-- A closed chunk without attempts in flight waits for exactly its pending outputs.
use Rattle.std.proofs.Common.{◌≡◌, ℕ, zero, suc, ◌+◌, ◌<◌, ◌≤◌, Bool, true, false, not, inl, inr, List, [], ◌∷◌, length, Option, Some, None, map, refl, sym, ◌∙◌, ap, arith}
use Rattle.std.specs.Prelude.{if◌then◌else◌, ◌==◌, filter, find, is_some}
use Rattle.std.specs.List.{range_with_len}
use Rattle.std.specs.Option.{option_map_or}
use Rattle.std.proofs.lemmas.Bool.{cases_Bool, cases_eq, eq-eqb, ne_eqb, eqb-true}
use Rattle.fwd_settings.specs.declared.settings_types.AllSettings.{AllSettings}
use Rattle.fwd_settings.specs.declared.settings_types.OutputSet.{OutputSet}
use Rattle.fwd_route.specs.GlobTest.{globs, matching_from}
use Rattle.fwd_table.specs.Route.{Route as Owed}
use Rattle.fwd_table.specs.Row.{Row}
use Rattle.fwd_table.specs.Routes.{is_to}
use Rattle.fwd_table.specs.Rows.{row_at, waits_for}
use Rattle.fwd_table.specs.Usage.{in_file, is_file}
use Rattle.fwd_model.specs.Fact.{History}
use Rattle.fwd_model.specs.Chunks.{ChunkInfo, chunks_of, chunk_at, is_closed, next}
use Rattle.fwd_model.specs.Limits.{evictions_for, evicted_at}
use Rattle.fwd_model.specs.Routes.{route, flight, is_resolved, is_idle, owed, is_owed, home_of, table_route, row_of, rows_of}
use Rattle.fwd_engine_state.specs.Views.{chunk_id, output_id}
use Rattle.fwd_engine_state.specs.StateRepresents.{NumbersRise}
use Rattle.fwd_engine_state.specs.Evictions.{evictions_left}
use Rattle.fwd_engine_state.proofs.PendingRows.{no_row}
use Rattle.fwd_engine_state.proofs.ChunkOrder.{none_before}
use Rattle.fwd_engine_state.proofs.EvictionsByOutput.{all_lost, none_lost}
use Rattle.fwd_engine_chunks.specs.Evictions.{IsNotAmong, IsIdleToEach, IsClosedAtRest, idle_outputs}

abbrev member : ℕ → List ℕ → Bool
member n [] = false
member n (x ∷ xs) = if x == n then true else member n xs

-- ---- the outputs whose globs match

above : (q : ℕ → Bool) (tag : List ℕ) (globs_left : List (List ℕ)) (j k : ℕ) → k < j → member k (filter q (matching_from j globs_left tag)) ≡ false
above q tag [] j k below = refl
above q tag (g ∷ gs) j k below =
    let rest = above q tag gs (j + 1) k (omega (arith, below)) in
    let apart : (j == k) ≡ false = ne_eqb j k (λ e. absurd (omega (arith, below, e))) in
    elim (cases_Bool (globs g tag)) [
      | inl takes ↦ elim (cases_Bool (q j)) [ inl passes ↦ rw (takes, passes, apart) rest | inr fails ↦ rw (takes, fails) rest ]
      | inr leaves ↦ rw leaves rest
    ]

filter_takers : (p q : ℕ → Bool) (tag : List ℕ) (outputs : List OutputSet) (k : ℕ)
    → ((n : ℕ) → k ≤ n → p n ≡ member n (filter q (matching_from k (map (λ (o : OutputSet). o.glob) outputs) tag)))
    → filter p (range_with_len k (length outputs)) ≡ filter q (matching_from k (map (λ (o : OutputSet). o.glob) outputs) tag)
filter_takers p q tag [] k same = refl
filter_takers p q tag (o ∷ os) k same =
    let more : List (List ℕ) = map (λ (o : OutputSet). o.glob) os in
    let none : member k (filter q (matching_from (k + 1) more tag)) ≡ false = above q tag more (k + 1) k (omega arith) in
    let self : (k == k) ≡ true = eq-eqb k k refl in
    elim (cases_Bool (globs o.glob tag)) [
      | inl takes ↦ elim (cases_Bool (q k)) [
        | inl passes ↦
            let is : p k ≡ true = rw (takes, passes, self) at (same k (omega arith)) in
            let rest = filter_takers p q tag os (k + 1) (λ n behind. let apart : (k == n) ≡ false = ne_eqb k n (λ e. absurd (omega (arith, behind, e))) in rw (takes, passes, apart) at (same n (omega (arith, behind)))) in
            rw (takes, passes, is) (ap (λ (l : List ℕ). k ∷ l) rest)
        | inr fails ↦
            let isnt : p k ≡ false = (rw (takes, fails) at (same k (omega arith))) ∙ none in
            let rest = filter_takers p q tag os (k + 1) (λ n behind. rw (takes, fails) at (same n (omega (arith, behind)))) in
            rw (takes, fails, isnt) rest
      ]
      | inr leaves ↦
          let isnt : p k ≡ false = (rw leaves at (same k (omega arith))) ∙ none in
          let rest = filter_takers p q tag os (k + 1) (λ n behind. rw leaves at (same n (omega (arith, behind)))) in
          rw (leaves, isnt) rest
    ]

-- ---- the row of a chunk

not_some : {T : Type 0} (o : Option T) → is_some o ≡ false → o ≡ None
not_some None is = refl
not_some (Some x) is = absurd (cc is)

abbrev row_if : AllSettings → History → Option ChunkInfo → Option Row
row_if s h None = None
row_if s h (Some c) = if is_owed s h c then Some (row_of s h c) else None

row_in : (s : AllSettings) (h : History) (k least past : ℕ) (cs : List ChunkInfo) → NumbersRise least past cs
    → row_at (chunk_id k) (map (row_of s h) (filter (is_owed s h) cs)) ≡ row_if s h (find (λ (c : ChunkInfo). c.number == k) cs)
row_in s h k least past [] rise = refl
row_in s h k least past (c ∷ cs) rise = elim (cases_eq c.number k) [
  | inl same ↦
      let here : (c.number == k) ≡ true = eq-eqb c.number k same in
      let below : k < c.number + 1 = omega (arith, same) in
      elim (cases_Bool (is_owed s h c)) [
        | inl is ↦ rw (here, is, here) refl
        | inr isnt ↦ rw (here, isnt) (not_some _ (no_row s h k cs (none_before (c.number + 1) past k cs rise.2 below)))
      ]
  | inr differs ↦
      let apart : (c.number == k) ≡ false = ne_eqb c.number k differs in
      let rest = row_in s h k (c.number + 1) past cs rise.2 in
      elim (cases_Bool (is_owed s h c)) [ inl is ↦ rw (apart, is, apart) rest | inr isnt ↦ rw (apart, isnt) rest ]
]

row_is : (s : AllSettings) (h : History) (k : ℕ) → NumbersRise 0 (next h) (chunks_of h) → row_at (chunk_id k) (rows_of s h) ≡ row_if s h (chunk_at h k)
row_is s h k rise = row_in s h k 0 (next h) (chunks_of h) rise

found_number : (k : ℕ) (cs : List ChunkInfo) (c : ChunkInfo) → find (λ (c : ChunkInfo). c.number == k) cs ≡ Some c → c.number ≡ k
found_number k [] c is = absurd (cc is)
found_number k (x ∷ xs) c is = elim (cases_Bool (x.number == k)) [
  | inl same ↦ let it : x ≡ c = let e : Some x ≡ Some c = rw same at is in cc e in ap (λ (y : ChunkInfo). y.number) (sym it) ∙ eqb-true x.number k same
  | inr differs ↦ found_number k xs c (rw differs at is)
]

no_outputs : (outputs : List ℕ) → not (length outputs == 0) ≡ false → outputs ≡ []
no_outputs [] is = refl
no_outputs (x ∷ xs) is = let more : (length (x ∷ xs) == 0) ≡ false = ne_eqb (length (x ∷ xs)) 0 (λ e. absurd (omega (arith, e))) in absurd (cc (rw more at is))

-- ---- a closed chunk without attempts in flight

found_route : (s : AllSettings) (h : History) (n o : ℕ) → ((output : ℕ) → flight h (route n output) ≡ None) → (outputs : List ℕ)
    → option_map_or (λ (x : Owed). not x.flying) (find (is_to (output_id o)) (map (table_route s h n) outputs)) false ≡ member o outputs
found_route s h n o none [] = refl
found_route s h n o none (x ∷ xs) = elim (cases_Bool (x == o)) [ inl same ↦ rw (same, none x) refl | inr differs ↦ rw differs (found_route s h n o none xs) ]

idle_member : (s : AllSettings) (h : History) (k : ℕ) (c : ChunkInfo) → NumbersRise 0 (next h) (chunks_of h) → IsClosedAtRest h k → chunk_at h k ≡ Some c → (o : ℕ) → is_idle s h (route k o) ≡ member o (owed s h c)
idle_member s h k c rise rest is o =
    let number : c.number ≡ k = found_number k (chunks_of h) c is in
    let shut : is_closed h c.number ≡ true = ap (is_closed h) number ∙ rest.0 in
    let none : (output : ℕ) → flight h (route c.number output) ≡ None = λ output. ap (λ (n : ℕ). flight h (route n output)) number ∙ rest.1 output in
    ap (λ (at : Option Row). option_map_or (waits_for (output_id o)) at false) (row_is s h k rise ∙ ap (row_if s h) is)
    ∙ elim (cases_Bool (is_owed s h c)) [
      | inl owes ↦ rw (owes, shut) (found_route s h c.number o none (owed s h c))
      | inr nobody ↦ rw nobody (ap (member o) (sym (no_outputs (owed s h c) nobody)))
    ]

pub waited_is : (s : AllSettings) (h : History) (k : ℕ) (c : ChunkInfo) → NumbersRise 0 (next h) (chunks_of h) → IsClosedAtRest h k → chunk_at h k ≡ Some c → idle_outputs s h k ≡ owed s h c
waited_is s h k c rise rest is =
    filter_takers (λ output. is_idle s h (route k output)) (λ output. not (is_resolved s h (route c.number output))) c.tag s.outputs 0 (λ o behind. idle_member s h k c rise rest is o)

-- ---- evictions

abbrev pub filed : ℕ → List Row → Bool
filed k rows = option_map_or in_file (row_at (chunk_id k) rows) false

filed_is : (s : AllSettings) (h : History) (k : ℕ) (o : Option ChunkInfo) → NumbersRise 0 (next h) (chunks_of h) → chunk_at h k ≡ o → filed k (rows_of s h) ≡ option_map_or in_file (row_if s h o) false
filed_is s h k o rise is = ap (λ (at : Option Row). option_map_or in_file at false) (row_is s h k rise ∙ ap (row_if s h) is)

pub lost_in_file : (s : AllSettings) (h : History) (k : ℕ) → NumbersRise 0 (next h) (chunks_of h) → IsClosedAtRest h k → filed k (rows_of s h) ≡ true → evicted_at s h k ≡ evictions_left s h k (idle_outputs s h k)
lost_in_file s h k rise rest file = by (chunk_at h k) refl
  where
    by : (o : Option ChunkInfo) → chunk_at h k ≡ o → evicted_at s h k ≡ evictions_left s h k (idle_outputs s h k)
    by None none = absurd (cc (sym file ∙ filed_is s h k None rise none))
    by (Some c) is = elim (cases_Bool (is_owed s h c)) [
      | inl owes ↦
          let kept : is_file (home_of s c.input) ≡ true = rw owes at (sym (filed_is s h k (Some c) rise is) ∙ file) in
          all_lost s h k c is kept ∙ ap (evictions_left s h k) (sym (waited_is s h k c rise rest is))
      | inr nobody ↦ absurd (cc (rw nobody at (sym file ∙ filed_is s h k (Some c) rise is)))
    ]

pub lost_nowhere : (s : AllSettings) (h : History) (k : ℕ) → NumbersRise 0 (next h) (chunks_of h) → filed k (rows_of s h) ≡ false → evicted_at s h k ≡ []
lost_nowhere s h k rise file = by (chunk_at h k) refl
  where
    by : (o : Option ChunkInfo) → chunk_at h k ≡ o → evicted_at s h k ≡ []
    by None none = ap (evictions_for s h) none
    by (Some c) is = elim (cases_Bool (is_file (home_of s c.input))) [
      | inl kept ↦ elim (cases_Bool (is_owed s h c)) [
        | inl owes ↦ absurd (cc (sym kept ∙ (rw owes at (sym (filed_is s h k (Some c) rise is) ∙ file))))
        | inr nobody ↦ all_lost s h k c is kept ∙ ap (evictions_left s h k) (no_outputs (owed s h c) nobody)
      ]
      | inr memory ↦ none_lost s h k c is memory
    ]

-- ---- the outputs that it waits for are distinct

none_in : (p : ℕ → Bool) (j a n : ℕ) → j < a → IsNotAmong j (filter p (range_with_len a n))
none_in p j a zero below = tt
none_in p j a (suc n) below =
    let rest = none_in p j (a + 1) n (omega (arith, below)) in
    elim (cases_Bool (p a)) [ inl is ↦ rw is (ne_eqb j a (λ e. absurd (omega (arith, below, e))), rest) | inr isnt ↦ rw isnt rest ]

waits_in : (s : AllSettings) (h : History) (k a n : ℕ) → IsIdleToEach s h k (filter (λ output. is_idle s h (route k output)) (range_with_len a n))
waits_in s h k a zero = tt
waits_in s h k a (suc n) =
    let rest = waits_in s h k (a + 1) n in
    elim (cases_Bool (is_idle s h (route k a))) [ inl is ↦ rw is (is, none_in (λ output. is_idle s h (route k output)) a (a + 1) n (omega arith), rest) | inr isnt ↦ rw isnt rest ]

pub waits_each : (s : AllSettings) (h : History) (k : ℕ) → IsIdleToEach s h k (idle_outputs s h k)
waits_each s h k = waits_in s h k 0 (length s.outputs)
