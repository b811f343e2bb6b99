-- Open chunks, and routes without a flush: the idle ones, and those that are evicted as a chunk closes.
use Rattle.std.proofs.Common.{◌≡◌, ℕ, Bool, true, false, cond, ◌-◌, ◌&&◌, ◌||◌, not, List, [], ◌∷◌, ◌++◌, map, Option, Some, None, inl, inr, refl, sym, subst}
use Rattle.std.specs.Prelude.{◌==◌, nat_le, nat_lt, filter, find, is_some}
use Rattle.std.specs.List.{list_any, flat_map}
use Rattle.std.specs.Str.{bytes_eq}
use Rattle.std.specs.Option.{option_map_or}
use Rattle.std.proofs.lemmas.Bool.{cases_Bool, eq-eqb, eqb-true, and_parts}
use Rattle.fwd_base.specs.declared.ids.ChunkId.{ChunkId}
use Rattle.fwd_base.specs.declared.ids.OutputId.{OutputId}
use Rattle.fwd_flush.specs.FlushProgram.{Progress}
use Rattle.fwd_table.specs.Routes.{is_to, flying_of}
use Rattle.fwd_table.specs.Rows.{is_row_of, waits_for}
use Rattle.fwd_table.specs.Row.{Row}
use Rattle.fwd_table.specs.Route.{Route as Owed}
use Rattle.fwd_table.specs.Usage.{is_file, in_file, is_flying, is_waiting, size_of}
use Rattle.fwd_limits.specs.Evictions.{fixed, other_waiting, evicted_among, evicted_for}
use Rattle.fwd_settings.specs.declared.settings_types.AllSettings.{AllSettings}
use Rattle.fwd_model.specs.Fact.{History, Route}
use Rattle.fwd_model.specs.Settings.{total_limit_at}
use Rattle.fwd_model.specs.Chunks.{ChunkInfo, chunks_of, chunk_at, is_closed, is_from, open_chunks, open_chunk}
use Rattle.fwd_model.specs.Routes.{route, flight, home_of, owed, is_owed, is_idle, table_route, row_of, rows_of}
use Rattle.fwd_model.specs.Limits.{evictions_to, evictions_for, evicted_at}
use Rattle.fwd_theorem_delivery.specs.LinkOutcomes.{was_opened}
use Rattle.fwd_theorem_delivery.proofs.ChunkFacts.{has_number}

has_first : (c : ChunkInfo) (cs : List ChunkInfo) → has_number c.number (c ∷ cs) ≡ true
has_first c cs = rw (eq-eqb c.number c.number refl) refl

has_later : (n : ℕ) (c : ChunkInfo) (cs : List ChunkInfo) → has_number n cs ≡ true → has_number n (c ∷ cs) ≡ true
has_later n c cs is = by (c.number == n)
  where
    by : (b : Bool) → (b || has_number n cs) ≡ true
    by true = refl
    by false = is

-- each of these is open
abbrev pub AreOpen : History → List ChunkInfo → Type 0
AreOpen h [] = Unit {0}
AreOpen h (c ∷ cs) = (is_closed h c.number ≡ false) × AreOpen h cs

not_true : (b : Bool) → not b ≡ true → b ≡ false
not_true false is = refl
not_true true is = absurd (cc is)

filter_open : (h : History) (all : List ChunkInfo) → AreOpen h (filter (λ (c : ChunkInfo). not (is_closed h c.number)) all)
filter_open h [] = tt
filter_open h (x ∷ all) = elim (cases_Bool (is_closed h x.number)) [
  | inl is ↦ rw is (filter_open h all)
  | inr isnt ↦ rw isnt (isnt, filter_open h all)
]

pub open_are_open : (h : History) → AreOpen h (open_chunks h)
open_are_open h = filter_open h (chunks_of h)

found_open : (h : History) (f : ChunkInfo → Bool) (all : List ChunkInfo) (c : ChunkInfo) → AreOpen h all → find f all ≡ Some c → is_closed h c.number ≡ false
found_open h f [] c are is = absurd (cc is)
found_open h f (x ∷ all) c are is = elim (cases_Bool (f x)) [
  | inl here ↦ let same : x ≡ c = let e : Some x ≡ Some c = rw here at is in cc e in subst (λ (y : ChunkInfo). is_closed h y.number ≡ false) same are.0
  | inr there ↦ found_open h f all c are.1 (rw there at is)
]

pub open_is : (h : History) (input : ℕ) (tag : List ℕ) (c : ChunkInfo) → open_chunk h input tag ≡ Some c → is_closed h c.number ≡ false
open_is h input tag c is = found_open h (λ (c : ChunkInfo). is_from input c.input && bytes_eq c.tag tag) (open_chunks h) c (open_are_open h) is

-- ---- an idle route

none_from : (o : Option Progress) → not (is_some o) ≡ true → o ≡ None
none_from None is = refl
none_from (Some p) is = absurd (cc is)

waits_without : (s : AllSettings) (h : History) (m output : ℕ) (ns : List ℕ)
    → option_map_or (λ (x : Owed). not x.flying) (find (is_to (record { 0 = output })) (map (table_route s h m) ns)) false ≡ true → flight h (route m output) ≡ None
waits_without s h m output [] is = absurd (cc is)
waits_without s h m output (n ∷ ns) is = elim (cases_Bool (n == output)) [
  | inl same ↦ subst (λ (x : ℕ). flight h (route m x) ≡ None) (eqb-true n output same) (none_from (flight h (route m n)) (rw same at is))
  | inr differs ↦ waits_without s h m output ns (rw differs at is)
]

-- it has no flush, and its chunk exists and is closed
pub record IdleRoute (h : History) (r : Route) : Type 0 where
  pub grounded : flight h r ≡ None
  pub opened : was_opened h r.chunk ≡ true
  pub shut : is_closed h r.chunk ≡ true

record Found (s : AllSettings) (h : History) (r : Route) (cs : List ChunkInfo) : Type 0 where
  pub chunk : ChunkInfo
  pub number : chunk.number ≡ r.chunk
  pub has : has_number r.chunk cs ≡ true
  pub waits : waits_for (record { 0 = r.output }) (row_of s h chunk) ≡ true

found_row : (s : AllSettings) (h : History) (r : Route) (cs : List ChunkInfo)
    → option_map_or (waits_for (record { 0 = r.output })) (find (is_row_of (record { 0 = r.chunk })) (map (row_of s h) (filter (is_owed s h) cs))) false ≡ true → Found s h r cs
found_row s h r [] is = absurd (cc is)
found_row s h r (c ∷ cs) is = elim (cases_Bool (is_owed s h c)) [
  | inl owed ↦ elim (cases_Bool (c.number == r.chunk)) [
    | inl same ↦
        let number : c.number ≡ r.chunk = eqb-true c.number r.chunk same in
        record { chunk = c; number = number; has = subst (λ (n : ℕ). has_number n (c ∷ cs) ≡ true) number (has_first c cs); waits = rw (owed, same) at is }
    | inr differs ↦ behind (found_row s h r cs (rw (owed, differs) at is))
  ]
  | inr isnt ↦ behind (found_row s h r cs (rw isnt at is))
]
  where
    behind : Found s h r cs → Found s h r (c ∷ cs)
    behind found = record { chunk = found.chunk; number = found.number; has = has_later r.chunk c cs found.has; waits = found.waits }

pub idle_route : (s : AllSettings) (h : History) (r : Route) → is_idle s h r ≡ true → IdleRoute h r
idle_route s h r is =
    let found = found_row s h r (chunks_of h) is in
    let c = found.chunk in
    let parts = and_parts (is_closed h c.number) (option_map_or (λ (x : Owed). not x.flying) (find (is_to (record { 0 = r.output })) (map (table_route s h c.number) (owed s h c))) false) found.waits in
    record {
      grounded = subst (λ (n : ℕ). flight h (route n r.output) ≡ None) found.number (waits_without s h c.number r.output (owed s h c) parts.1);
      opened = found.has;
      shut = subst (λ (n : ℕ). is_closed h n ≡ true) found.number parts.0;
    }

-- ---- evicted routes

-- none of these has a flush
abbrev pub HaveNoFlush : History → List Route → Type 0
HaveNoFlush h [] = Unit {0}
HaveNoFlush h (r ∷ rs) = (flight h r ≡ None) × HaveNoFlush h rs

-- no flush of a chunk is in progress
abbrev pub HasNoFlush : History → ℕ → Type 0
HasNoFlush h chunk = (output : ℕ) → flight h (route chunk output) ≡ None

grounded_both : (h : History) (xs ys : List Route) → HaveNoFlush h xs → HaveNoFlush h ys → HaveNoFlush h (xs ++ ys)
grounded_both h [] ys first second = second
grounded_both h (x ∷ xs) ys first second = (first.0, grounded_both h xs ys first.1 second)

module _ (s : AllSettings) (h : History) where
  module _ (output : ℕ) where
    abbrev to : OutputId
    to = record { 0 = output }

    -- these have none to this output
    abbrev AllHaveNoFlush : List Row → Type 0
    AllHaveNoFlush [] = Unit {0}
    AllHaveNoFlush (row ∷ rows) = (flight h (route row.chunk.0 output) ≡ None) × AllHaveNoFlush rows

    waiting_rests : (m : ℕ) (ns : List ℕ) → list_any (is_to to) (map (table_route s h m) ns) ≡ true → list_any (is_to to) (flying_of (map (table_route s h m) ns)) ≡ false → flight h (route m output) ≡ None
    waiting_rests m [] any none = absurd (cc any)
    waiting_rests m (n ∷ ns) any none = elim (cases_Bool (n == output)) [
      | inl same ↦ subst (λ (x : ℕ). flight h (route m x) ≡ None) (eqb-true n output same) (here same (flight h (route m n)) refl)
      | inr differs ↦ waiting_rests m ns (rw differs at any) (by differs (is_some (flight h (route m n))) refl)
    ]
      where
        here : (n == output) ≡ true → (o : Option Progress) → flight h (route m n) ≡ o → flight h (route m n) ≡ None
        here same None is = is
        here same (Some p) is = let flies : true ≡ false = rw (is, same) at none in absurd (cc flies)

        by : (n == output) ≡ false → (b : Bool) → is_some (flight h (route m n)) ≡ b → list_any (is_to to) (flying_of (map (table_route s h m) ns)) ≡ false
        by differs true is = rw (is, differs) at none
        by differs false is = rw is at none

    row_rests : (c : ChunkInfo) → is_waiting to (row_of s h c) ≡ true → flight h (route c.number output) ≡ None
    row_rests c waits =
        let parts = and_parts (is_closed h c.number) (list_any (is_to to) (map (table_route s h c.number) (owed s h c)) && not (is_flying to (row_of s h c))) waits in
        let both = and_parts (list_any (is_to to) (map (table_route s h c.number) (owed s h c))) (not (is_flying to (row_of s h c))) parts.1 in
        waiting_rests c.number (owed s h c) both.0 (not_true (is_flying to (row_of s h c)) both.1)

    module _ (chunk : ℕ) where
      abbrev is_other : Row → Bool
      is_other row = in_file row && (is_waiting to row && not (is_row_of (record { 0 = chunk }) row))

      others_rest : (cs : List ChunkInfo) → AllHaveNoFlush (filter is_other (map (row_of s h) (filter (is_owed s h) cs)))
      others_rest [] = tt
      others_rest (c ∷ cs) = elim (cases_Bool (is_owed s h c)) [
        | inl due ↦ elim (cases_Bool (is_other (row_of s h c))) [
          | inl passes ↦ rw (due, passes) (row_rests c (waiting passes), others_rest cs)
          | inr fails ↦ rw (due, fails) (others_rest cs)
        ]
        | inr isnt ↦ rw isnt (others_rest cs)
      ]
        where
          waiting : is_other (row_of s h c) ≡ true → is_waiting to (row_of s h c) ≡ true
          waiting passes =
              let parts = and_parts (in_file (row_of s h c)) (is_waiting to (row_of s h c) && not (is_row_of (record { 0 = chunk }) (row_of s h c))) passes in
              (and_parts (is_waiting to (row_of s h c)) (not (is_row_of (record { 0 = chunk }) (row_of s h c))) parts.1).0

      among_rest : (room : ℕ) (rows : List Row) → AllHaveNoFlush rows → AllHaveNoFlush (evicted_among room rows)
      among_rest room [] are = tt
      among_rest room (row ∷ rows) are = by (nat_le (size_of (row ∷ rows)) room) (among_rest room rows are.1)
        where
          by : (b : Bool) → AllHaveNoFlush (evicted_among room rows) → AllHaveNoFlush (cond b [] (row ∷ evicted_among room rows))
          by true more = tt
          by false more = (are.0, more)

      rows_grounded : (rows : List Row) → AllHaveNoFlush rows → HaveNoFlush h (map (λ (lost : ChunkId). route lost.0 output) (map (λ (row : Row). row.chunk) rows))
      rows_grounded [] are = tt
      rows_grounded (row ∷ rows) are = (are.0, rows_grounded rows are.1)

      to_grounded : (limit : ℕ) → HasNoFlush h chunk → HaveNoFlush h (map (λ (lost : ChunkId). route lost.0 output) (evicted_for to limit (record { 0 = chunk }) (rows_of s h)))
      to_grounded limit rest = by (nat_lt limit (fixed to (record { 0 = chunk }) (rows_of s h)))
        where
          by : (b : Bool) → HaveNoFlush h (map (λ (lost : ChunkId). route lost.0 output) (cond b (record { 0 = chunk } ∷ []) (map (λ (row : Row). row.chunk) (evicted_among (limit - fixed to (record { 0 = chunk }) (rows_of s h)) (other_waiting to (record { 0 = chunk }) (rows_of s h))))))
          by true = (rest output, tt)
          by false =
              let room : ℕ = limit - fixed to (record { 0 = chunk }) (rows_of s h) in
              let others : List Row = other_waiting to (record { 0 = chunk }) (rows_of s h) in
              rows_grounded (evicted_among room others) (among_rest room others (others_rest (chunks_of h)))

      limit_grounded : (limit : Option ℕ) → HasNoFlush h chunk → HaveNoFlush h (evictions_to s h chunk output limit)
      limit_grounded None rest = tt
      limit_grounded (Some limit) rest = to_grounded limit rest

  all_grounded : (chunk : ℕ) (outputs : List ℕ) → HasNoFlush h chunk → HaveNoFlush h (flat_map (λ (output : ℕ). evictions_to s h chunk output (total_limit_at s output)) outputs)
  all_grounded chunk [] rest = tt
  all_grounded chunk (output ∷ outputs) rest =
      grounded_both h (evictions_to s h chunk output (total_limit_at s output)) (flat_map (λ (one : ℕ). evictions_to s h chunk one (total_limit_at s one)) outputs)
      (limit_grounded output chunk (total_limit_at s output) rest) (all_grounded chunk outputs rest)

  for_grounded : (c : ChunkInfo) → HasNoFlush h c.number → HaveNoFlush h (evictions_for s h (Some c))
  for_grounded c rest = by (is_file (home_of s c.input))
    where
      by : (b : Bool) → HaveNoFlush h (cond b (flat_map (λ (output : ℕ). evictions_to s h c.number output (total_limit_at s output)) (owed s h c)) [])
      by true = all_grounded c.number (owed s h c) rest
      by false = tt

  found_number : (chunk : ℕ) (cs : List ChunkInfo) (c : ChunkInfo) → find (λ (d : ChunkInfo). d.number == chunk) cs ≡ Some c → c.number ≡ chunk
  found_number chunk [] c is = absurd (cc is)
  found_number chunk (x ∷ cs) c is = elim (cases_Bool (x.number == chunk)) [
    | inl here ↦ let same : x ≡ c = let e : Some x ≡ Some c = rw here at is in cc e in subst (λ (y : ChunkInfo). y.number ≡ chunk) same (eqb-true x.number chunk here)
    | inr there ↦ found_number chunk cs c (rw there at is)
  ]

  -- when a chunk without a flush closes
  pub lost_grounded : (chunk : ℕ) → HasNoFlush h chunk → HaveNoFlush h (evicted_at s h chunk)
  lost_grounded chunk rest = by (chunk_at h chunk) refl
    where
      by : (at : Option ChunkInfo) → chunk_at h chunk ≡ at → HaveNoFlush h (evictions_for s h at)
      by None is = tt
      by (Some c) is = for_grounded c (subst (HasNoFlush h) (sym (found_number chunk (chunks_of h) c is)) rest)
