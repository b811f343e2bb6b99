-- Evictions one after another.
use Rattle.std.proofs.Common.{◌≡◌, ◌⊎◌, inl, inr, ℕ, zero, suc, ◌+◌, ◌-◌, ◌<◌, ◌≤◌, Bool, true, false, ◌&&◌, not, cond, List, [], ◌∷◌, length, map, refl, sym, ap, ◌∙◌, subst, arith, Some}
use Rattle.std.specs.Prelude.{filter, All, nat_lt}
use Rattle.std.specs.List.{list_any}
use Rattle.std.proofs.lemmas.Bool.{cases_lt, and_parts, ne_eqb, eq-eqb}
use Rattle.std.proofs.lemmas.Bool.Decides.{nat_tests}
use Rattle.std.proofs.lemmas.List.Elements.{All-head, All-tail, All-filter}
use Rattle.fwd_base.specs.declared.ids.ChunkId.{ChunkId}
use Rattle.fwd_base.specs.declared.ids.OutputId.{OutputId}
use Rattle.fwd_table.specs.Route.{Route}
use Rattle.fwd_table.specs.Row.{Row}
use Rattle.fwd_table.specs.RowChange.TheVariants.{Resolves}
use Rattle.fwd_table.specs.Routes.{is_to, without_output, flying_of}
use Rattle.fwd_table.specs.Rows.{ChunksRise, is_row_of, on_chunk, resolved_to}
use Rattle.fwd_table.proofs.Chunks.{rise-on_chunk}
use Rattle.fwd_limits.specs.declared.eviction.Loss.{Loss}
use Rattle.fwd_limits.specs.declared.eviction.Loss.TheVariants.{Fits, Lose, NewLoses}
use Rattle.fwd_table.specs.Usage.{in_file, is_flying, is_waiting, size_of}
use Rattle.std.proofs.lemmas.List.Filters.{length-filter_both}
use Rattle.fwd_table.specs.Usage.{flying_to}
use Rattle.fwd_limits.specs.Evictions.{first_chunk, other_waiting, fixed, evicted_among, evicted_for, next_eviction, evicted_after, evicted_by_calls}
use Rattle.fwd_limits.proofs.LowestChunks.{new_loses, it_fits, first_is_lost, among_fits, among_over}

-- ---- an evicted route

none_left : (output : OutputId) (routes : List Route) → list_any (is_to output) (without_output output routes) ≡ false
none_left output [] = refl
none_left output (r ∷ routes) = by (none_left output routes) (is_to output r) refl
  where
    by : list_any (is_to output) (without_output output routes) ≡ false → (test : Bool) → is_to output r ≡ test → list_any (is_to output) (cond (not (is_to output r)) (r ∷ without_output output routes) (without_output output routes)) ≡ false
    by again true is = rw is again
    by again false is = rw (is, is) again

none_kept : (output : OutputId) (keep : Route → Bool) (routes : List Route) → list_any (is_to output) routes ≡ false → list_any (is_to output) (filter keep routes) ≡ false
none_kept output keep [] none = refl
none_kept output keep (r ∷ routes) none = by (none_kept output keep routes) (keep r) (is_to output r) refl none
  where
    by : (list_any (is_to output) routes ≡ false → list_any (is_to output) (filter keep routes) ≡ false) → (kept here : Bool) → is_to output r ≡ here → list_any (is_to output) (r ∷ routes) ≡ false → list_any (is_to output) (cond kept (r ∷ filter keep routes) (filter keep routes)) ≡ false
    by again true true is none = let any : list_any (is_to output) (r ∷ routes) ≡ true = rw is refl in absurd (cc)
    by again false true is none = let any : list_any (is_to output) (r ∷ routes) ≡ true = rw is refl in absurd (cc)
    by again true false is none = let later = rw is at none in rw is (again later)
    by again false false is none = let later = rw is at none in again later

off : (a b c x y : Bool) → c ≡ false → (a && ((b && (c && x)) && y)) ≡ false
off false b c x y is = refl
off true false c x y is = refl
off true true c x y is = rw is refl

off_last : (a c : Bool) → c ≡ false → (a && c) ≡ false
off_last false c is = refl
off_last true c is = is

-- whether a row waits and isn't this chunk
abbrev pub waits : OutputId → ChunkId → Row → Bool
waits output chunk row = in_file row && (is_waiting output row && not (is_row_of chunk row))

waits_no_more : (output : OutputId) (chunk : ChunkId) (row : Row) → waits output chunk (resolved_to output row) ≡ false
waits_no_more output chunk row =
    off (in_file row) row.shut (list_any (is_to output) (without_output output row.routes)) (not (list_any (is_to output) (flying_of (without_output output row.routes)))) (not (is_row_of chunk row)) (none_left output row.routes)

flies_no_more : (output : OutputId) (row : Row) → (in_file row && is_flying output (resolved_to output row)) ≡ false
flies_no_more output row =
    off_last (in_file row) (list_any (is_to output) (flying_of (without_output output row.routes))) (none_kept output (λ r. r.flying) (without_output output row.routes) (none_left output row.routes))

not_true : (b : Bool) → not b ≡ true → b ≡ false
not_true true is = absurd (cc)
not_true false is = refl

waiting_flies_not : (output : OutputId) (chunk : ChunkId) (row : Row) → waits output chunk row ≡ true → (in_file row && is_flying output row) ≡ false
waiting_flies_not output chunk row is =
    let first = and_parts (in_file row) (is_waiting output row && not (is_row_of chunk row)) is in
    let second = and_parts (is_waiting output row) (not (is_row_of chunk row)) first.1 in
    let third = and_parts row.shut (list_any (is_to output) row.routes && not (is_flying output row)) second.0 in
    let fourth = and_parts (list_any (is_to output) row.routes) (not (is_flying output row)) third.1 in
    off_last (in_file row) (is_flying output row) (not_true (is_flying output row) fourth.1)

waiting_is_other : (output : OutputId) (chunk : ChunkId) (row : Row) → waits output chunk row ≡ true → is_row_of chunk row ≡ false
waiting_is_other output chunk row is =
    let first = and_parts (in_file row) (is_waiting output row && not (is_row_of chunk row)) is in
    let second = and_parts (is_waiting output row) (not (is_row_of chunk row)) first.1 in
    not_true (is_row_of chunk row) second.1

-- ---- rows after an eviction

abbrev Above : ChunkId → List Row → Type 0
Above chunk rows = All (λ (row : Row). chunk.0 < row.chunk.0) rows

above_head : (row : Row) (rows : List Row) → ChunksRise (row ∷ rows) → Above row.chunk rows
above_head row rows rise = λ k d within. rise 0 (suc k) d (omega arith) (omega (arith, within))

rise_tail : (row : Row) (rows : List Row) → ChunksRise (row ∷ rows) → ChunksRise rows
rise_tail row rows rise = λ i j d less within. rise (suc i) (suc j) d (omega (arith, less)) (omega (arith, within))

untouched : (chunk : ChunkId) (f : Row → Row) (rows : List Row) → Above chunk rows → on_chunk chunk f rows ≡ rows
untouched chunk f [] above = refl
untouched chunk f (row ∷ rows) above =
    let less : chunk.0 < row.chunk.0 = All-head (λ (r : Row). chunk.0 < r.chunk.0) row rows above in
    let other : is_row_of chunk row ≡ false = ne_eqb row.chunk.0 chunk.0 (λ e. omega (arith, less, e)) in
    let again = untouched chunk f rows (All-tail (λ (r : Row). chunk.0 < r.chunk.0) row rows above) in
    rw other (ap (λ (rs : List Row). row ∷ rs) again)

pub record Once (output : OutputId) (chunk : ChunkId) (rows : List Row) (row : Row) (rest : List Row) : Type 0 where
  pub others : other_waiting output chunk (on_chunk row.chunk (resolved_to output) rows) ≡ rest
  pub flying : flying_to output (on_chunk row.chunk (resolved_to output) rows) ≡ flying_to output rows
  pub own : filter (is_row_of chunk) (on_chunk row.chunk (resolved_to output) rows) ≡ filter (is_row_of chunk) rows

-- the first row is evicted
pub once_here : (output : OutputId) (chunk : ChunkId) (row : Row) (rows : List Row) → ChunksRise (row ∷ rows) → waits output chunk row ≡ true → Once output chunk (row ∷ rows) row (other_waiting output chunk rows)
once_here output chunk row rows rise is =
    let left : on_chunk row.chunk (resolved_to output) (row ∷ rows) ≡ resolved_to output row ∷ rows =
    let same : is_row_of row.chunk row ≡ true = eq-eqb row.chunk.0 row.chunk.0 refl in
    rw same (ap (λ (rs : List Row). resolved_to output row ∷ rs) (untouched row.chunk (resolved_to output) rows (above_head row rows rise))) in
    record {
      others = ap (other_waiting output chunk) left ∙ (rw (waits_no_more output chunk row) refl);
      flying = ap (flying_to output) left ∙ (rw (flies_no_more output row, waiting_flies_not output chunk row is) refl);
      own = ap (filter (is_row_of chunk)) left ∙ (rw (waiting_is_other output chunk row is) refl);
    }

-- or a later one
once_later : (output : OutputId) (chunk : ChunkId) (first row : Row) (rows rest : List Row) → ChunksRise (first ∷ rows) → waits output chunk first ≡ false → other_waiting output chunk rows ≡ row ∷ rest → Once output chunk rows row rest
    → Once output chunk (first ∷ rows) row rest
once_later output chunk first row rows rest rise fails is again =
    let above : Above first.chunk (other_waiting output chunk rows) = All-filter (waits output chunk) (λ (r : Row). first.chunk.0 < r.chunk.0) rows (above_head first rows rise) in
    let less : first.chunk.0 < row.chunk.0 = All-head (λ (r : Row). first.chunk.0 < r.chunk.0) row rest (subst (Above first.chunk) is above) in
    let apart : is_row_of row.chunk first ≡ false = ne_eqb first.chunk.0 row.chunk.0 (λ e. omega (arith, less, e)) in
    let left : on_chunk row.chunk (resolved_to output) (first ∷ rows) ≡ first ∷ on_chunk row.chunk (resolved_to output) rows = rw apart refl in
    record {
      others = ap (other_waiting output chunk) left ∙ (rw fails again.others);
      flying = ap (flying_to output) left ∙ ap (λ (rs : List Row). cond (in_file first && is_flying output first) (first ∷ rs) rs) again.flying;
      own = ap (filter (is_row_of chunk)) left ∙ ap (λ (rs : List Row). cond (is_row_of chunk first) (first ∷ rs) rs) again.own;
    }

once : (output : OutputId) (chunk : ChunkId) (rows : List Row) (row : Row) (rest : List Row) → ChunksRise rows → other_waiting output chunk rows ≡ row ∷ rest → Once output chunk rows row rest
once output chunk [] row rest rise is = absurd (cc)
once output chunk (first ∷ rows) row rest rise is = by (λ is. once output chunk rows row rest (rise_tail first rows rise) is) (waits output chunk first) refl is
  where
    by : (other_waiting output chunk rows ≡ row ∷ rest → Once output chunk rows row rest) → (test : Bool) → waits output chunk first ≡ test → cond test (first ∷ other_waiting output chunk rows) (other_waiting output chunk rows) ≡ row ∷ rest
        → Once output chunk (first ∷ rows) row rest
    by again true passes is =
        let same : first ≡ row = cc in
        let others : other_waiting output chunk rows ≡ rest = cc in
        subst (λ (r : Row). Once output chunk (first ∷ rows) r rest) same (subst (Once output chunk (first ∷ rows) first) others (once_here output chunk first rows rise passes))
    by again false fails is = once_later output chunk first row rows rest rise fails is (again is)

-- ---- evictions in turn

fixed_stays : (output : OutputId) (chunk : ChunkId) (rows : List Row) (row : Row) (rest : List Row) → Once output chunk rows row rest → fixed output chunk (on_chunk row.chunk (resolved_to output) rows) ≡ fixed output chunk rows
fixed_stays output chunk rows row rest once = λ i. size_of (once.flying i) + size_of (once.own i)

none_by : (output : OutputId) (limit : ℕ) (chunk : ChunkId) (rows : List Row) → fixed output chunk rows ≤ limit → evicted_for output limit chunk rows ≡ map (λ row. row.chunk) (evicted_among (limit - fixed output chunk rows) (other_waiting output chunk rows))
none_by output limit chunk rows within = let test : nat_lt limit (fixed output chunk rows) ≡ false = grind (arith, nat_tests) in rw test refl

new_by : (output : OutputId) (limit : ℕ) (chunk : ChunkId) (rows : List Row) → limit < fixed output chunk rows → evicted_for output limit chunk rows ≡ chunk ∷ []
new_by output limit chunk rows over = let test : nat_lt limit (fixed output chunk rows) ≡ true = grind (arith, nat_tests) in rw test refl

asks_step : (turns : ℕ) (output : OutputId) (limit : ℕ) (chunk : ChunkId) (rows : List Row) (loss : Loss) → next_eviction output limit chunk rows ≡ loss → evicted_by_calls (suc turns) output limit chunk rows ≡ evicted_after (evicted_by_calls turns output limit chunk) output chunk rows loss
asks_step turns output limit chunk rows loss is = ap (evicted_after (evicted_by_calls turns output limit chunk) output chunk rows) is

pub asks : (turns : ℕ) (output : OutputId) (limit : ℕ) (chunk : ChunkId) (rows : List Row) → ChunksRise rows → length (other_waiting output chunk rows) < turns → evicted_by_calls turns output limit chunk rows ≡ evicted_for output limit chunk rows
asks zero output limit chunk rows rise more = absurd (omega (arith, more))
asks (suc turns) output limit chunk rows rise more = by (asks turns output limit chunk) (cases_lt limit (fixed output chunk rows)) (other_waiting output chunk rows) refl
  where
    waiting : ((rows : List Row) → ChunksRise rows → length (other_waiting output chunk rows) < turns → evicted_by_calls turns output limit chunk rows ≡ evicted_for output limit chunk rows)
        → fixed output chunk rows ≤ limit → (row : Row) (rest : List Row) → other_waiting output chunk rows ≡ row ∷ rest → (limit - fixed output chunk rows < size_of (row ∷ rest)) ⊎ (size_of (row ∷ rest) ≤ limit - fixed output chunk rows)
        → evicted_by_calls (suc turns) output limit chunk rows ≡ evicted_for output limit chunk rows
    waiting again within row rest are (inr fits) =
        let all : size_of (other_waiting output chunk rows) ≤ limit - fixed output chunk rows = subst (λ (rs : List Row). size_of rs ≤ limit - fixed output chunk rows) (sym are) fits in
        asks_step turns output limit chunk rows Fits (it_fits output limit chunk rows within all)
        ∙ sym (none_by output limit chunk rows within ∙ ap (map (λ row. row.chunk)) (among_fits (limit - fixed output chunk rows) (other_waiting output chunk rows) all))
    waiting again within row rest are (inl over) =
        let step = once output chunk rows row rest rise are in
        let left : List Row = on_chunk row.chunk (resolved_to output) rows in
        let fixed_is = fixed_stays output chunk rows row rest step in
        let all : limit - fixed output chunk rows < size_of (other_waiting output chunk rows) = subst (λ (rs : List Row). limit - fixed output chunk rows < size_of rs) (sym are) over in
        let fewer : length (other_waiting output chunk (on_chunk row.chunk (resolved_to output) rows)) < turns = omega (arith, ap length step.others, ap length are, more) in
        let later = again (on_chunk row.chunk (resolved_to output) rows) (rise-on_chunk row.chunk (Resolves output) rows rise) fewer in
        let rest_is = none_by output limit chunk (on_chunk row.chunk (resolved_to output) rows) (omega (arith, fixed_is, within)) in
        let names : List Row → List ChunkId = map (λ row. row.chunk) in
        asks_step turns output limit chunk rows (Lose row.chunk) (first_is_lost output limit chunk rows (Some row.chunk) within all (ap first_chunk (sym are)))
        ∙ ap (λ (cs : List ChunkId). row.chunk ∷ cs) (later ∙ rest_is ∙ (λ i. map (λ row. row.chunk) (evicted_among (limit - fixed_is i) (step.others i))))
        ∙ sym (none_by output limit chunk rows within ∙ ap (map (λ row. row.chunk)) (ap (evicted_among (limit - fixed output chunk rows)) are ∙ among_over (limit - fixed output chunk rows) row rest over))

    by : ((rows : List Row) → ChunksRise rows → length (other_waiting output chunk rows) < turns → evicted_by_calls turns output limit chunk rows ≡ evicted_for output limit chunk rows)
        → (limit < fixed output chunk rows) ⊎ (fixed output chunk rows ≤ limit) → (others : List Row) → other_waiting output chunk rows ≡ others → evicted_by_calls (suc turns) output limit chunk rows ≡ evicted_for output limit chunk rows
    by again (inl over) others are = asks_step turns output limit chunk rows NewLoses (new_loses output limit chunk rows over) ∙ sym (new_by output limit chunk rows over)
    by again (inr within) [] are =
        let none : size_of (other_waiting output chunk rows) ≤ limit - fixed output chunk rows = subst (λ (rs : List Row). size_of rs ≤ limit - fixed output chunk rows) (sym are) (omega arith) in
        asks_step turns output limit chunk rows Fits (it_fits output limit chunk rows within none)
        ∙ sym (none_by output limit chunk rows within ∙ ap (map (λ row. row.chunk)) (among_fits (limit - fixed output chunk rows) (other_waiting output chunk rows) none))
    by again (inr within) (row ∷ rest) are = waiting again within row rest are (cases_lt (limit - fixed output chunk rows) (size_of (row ∷ rest)))

pub asked_is : (turns : ℕ) (output : OutputId) (limit : ℕ) (chunk : ChunkId) (rows : List Row) → ChunksRise rows → length rows < turns → evicted_by_calls turns output limit chunk rows ≡ evicted_for output limit chunk rows
asked_is turns output limit chunk rows rise more =
    asks turns output limit chunk rows rise (omega (arith, more, length-filter_both (waits output chunk) (λ row. not (waits output chunk row)) (λ row. refl) rows))
