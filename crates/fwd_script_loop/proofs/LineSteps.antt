-- The lines that weren't reached, from one line to the next.
use Rattle.std.proofs.Common.{◌≡◌, ⊎_elim, ℕ, zero, suc, ◌+◌, ◌-◌, ◌^◌, ◌<◌, ◌≤◌, min, Bool, true, if◌then◌else◌, List, [], ◌∷◌, ◌++◌, length, get_or, drop, find, Option, Some, None, refl, sym, ap, subst, ◌∙◌, add-one, arith}
use Rattle.std.proofs.Math.Seq.{drop-cons}
use Rattle.std.proofs.Math.ListN.{drop_of_length-le}
use Rattle.std.specs.List.{slice_get}
use Rattle.std.proofs.lemmas.Option.{slice_get_cases}
use Rattle.std.specs.Option.{option_or}
use Rattle.std.proofs.lemmas.List.Folds.{find-append}
use Rattle.fwd_outside.specs.declared.happening.Happening.{Happening}
use Rattle.fwd_outside.specs.declared.happening.Happening.TheVariants as happening
use Rattle.fwd_script.specs.declared.schedule.Planned.{Planned}
use Rattle.fwd_script.specs.declared.schedule.Planned.TheVariants.{Happens, Ticks, Changes}
use Rattle.fwd_files_mem.specs.declared.change.FileChange.{FileChange}
use Rattle.fwd_script_loop.specs.declared.queue.Coming.{Coming}
use Rattle.fwd_script_loop.specs.FirstMatch.{first_in}
use Rattle.fwd_script_loop.specs.PauseMask.{comes, hears}
use Rattle.fwd_script_loop.specs.Lines.{events_of_line, coming, place_in, ticks}
use Rattle.fwd_script_loop.specs.LinesLeft.{Brings}
use Rattle.fwd_script_loop.proofs.ClockReadings.{ticks_saturated}

-- the value at an index, as a slice gives it
pub got : {X : Type 0} (xs : List X) (i : ℕ) (x : X) → i < length xs → x ≡ get_or xs i x → slice_get xs i ≡ Some x
got [] i x within is = absurd (omega arith)
got (y ∷ xs) zero x within is = ap (λ (z : _). Some z) (sym is)
got (y ∷ xs) (suc i) x within is = got xs i x (omega arith) is

-- a line has its events, and then come the lines after it
pub coming_step : (lines : List Planned) (at : ℕ) (planned : Planned) → at < length lines → planned ≡ get_or lines at planned
    → coming at (drop at lines) ≡ events_of_line at planned ++ coming (at + 1) (drop (at + 1) lines)
coming_step lines at planned within is =
    ap (λ (l : List Planned). coming at l) (drop-cons lines at planned within)
    ∙ ap (λ (p : Planned). events_of_line at p ++ coming (at + 1) (drop (suc at) lines)) (sym is)
    ∙ ap (λ (n : ℕ). events_of_line at planned ++ coming (at + 1) (drop n lines)) (sym (add-one at))

pub coming_over : (lines : List Planned) (at : ℕ) → length lines ≤ at → coming at (drop at lines) ≡ []
coming_over lines at over = ap (λ (l : List Planned). coming at l) (drop_of_length-le lines over)

-- without remaining clock readings
pub whole : (line reading step count at : ℕ) (rest : List Coming) → count ≡ 0 → ticks line reading step count ++ rest ≡ rest
whole line reading step count at rest none = ap (λ (n : ℕ). ticks line reading step n ++ rest) none

module _ (lines : List Planned) (at : ℕ) (line reading step count : ℕ) (none : count ≡ 0) (within : at < length lines) where
  pub stepped : (planned : Planned) → planned ≡ get_or lines at planned
      → ticks line reading step count ++ coming at (drop at lines) ≡ events_of_line at planned ++ coming (at + 1) (drop (at + 1) lines)
  stepped planned is = whole line reading step count at (coming at (drop at lines)) none ∙ coming_step lines at planned within is

  pub passed : (planned : Planned) → planned ≡ get_or lines at planned → events_of_line at planned ≡ []
      → ticks line reading step count ++ coming (at + 1) (drop (at + 1) lines) ≡ ticks line reading step count ++ coming at (drop at lines)
  passed planned is silent =
      whole line reading step count at (coming (at + 1) (drop (at + 1) lines)) none
      ∙ ap (λ (l : List Coming). l ++ coming (at + 1) (drop (at + 1) lines)) (sym silent)
      ∙ sym (stepped planned is)

  pub happens_rest : (brought : Happening) → Happens brought ≡ get_or lines at (Happens brought) → comes brought ≡ true
      → ticks line reading step count ++ coming (at + 1) (drop (at + 1) lines) ≡ drop 1 (ticks line reading step count ++ coming at (drop at lines))
  happens_rest brought is may =
      whole line reading step count at (coming (at + 1) (drop (at + 1) lines)) none
      ∙ sym (ap (λ (l : List Coming). drop 1 l) (stepped (Happens brought) is)
      ∙ ap (λ (b : Bool). drop 1 ((if b then record { line = at; behind = 0; happening = brought } ∷ [] else []) ++ coming (at + 1) (drop (at + 1) lines))) may)

-- nothing is left
pub nothing_left : (lines : List Planned) (at line reading step count : ℕ) → count ≡ 0 → length lines ≤ at → ticks line reading step count ++ coming at (drop at lines) ≡ []
nothing_left lines at line reading step count none over = whole line reading step count at (coming at (drop at lines)) none ∙ coming_over lines at over

tick_of : ℕ → ℕ → Happening → Coming
tick_of line behind brought = record { line = line; behind = behind; happening = brought }

-- the first remaining clock reading
pub tick_first : (count line reading step : ℕ) (rest : List Coming) (brought : Happening) → 0 < count → brought ≡ happening.Tick (min reading (2 ^ 64 - 1))
    → Some (record { line = line; behind = count - 1; happening = brought }) ≡ first_in (ticks line reading step count ++ rest)
unfolding tick_of
tick_first zero line reading step rest brought some is = absurd (omega arith)
tick_first (suc count) line reading step rest brought some is =
    let less : suc count - 1 ≡ count = omega arith in
    ap (λ (n : ℕ). Some (tick_of line n brought)) less ∙ ap (λ (h : Happening). Some (tick_of line count h)) is

pub tick_rest : (count line reading step : ℕ) (rest : List Coming) → 0 < count
    → ticks line (min (reading + step) (2 ^ 64 - 1)) step (count - 1) ++ rest ≡ drop 1 (ticks line reading step count ++ rest)
tick_rest zero line reading step rest some = absurd (omega arith)
tick_rest (suc count) line reading step rest some =
    let less : suc count - 1 ≡ count = omega arith in
    ap (λ (n : ℕ). ticks line (min (reading + step) (2 ^ 64 - 1)) step n ++ rest) less
    ∙ ap (λ (l : List Coming). l ++ rest) (ticks_saturated count line (reading + step) step)

-- what a ready place can't be
pub not_ticks : (lines : List Planned) (at : ℕ) (first step count : ℕ) → Brings (slice_get lines at) → at < length lines → Ticks first step count ≡ get_or lines at (Ticks first step count) → ⊥
not_ticks lines at first step count ready within is = subst (λ (o : Option Planned). Brings o) (got lines at (Ticks first step count) within is) ready

pub not_changes : (lines : List Planned) (at : ℕ) (change : FileChange) → Brings (slice_get lines at) → at < length lines → Changes change ≡ get_or lines at (Changes change) → ⊥
not_changes lines at change ready within is = subst (λ (o : Option Planned). Brings o) (got lines at (Changes change) within is) ready

pub may_come : (lines : List Planned) (at : ℕ) (brought : Happening) → Brings (slice_get lines at) → at < length lines → Happens brought ≡ get_or lines at (Happens brought) → comes brought ≡ true
may_come lines at brought ready within is = subst (λ (o : Option Planned). Brings o) (got lines at (Happens brought) within is) ready

-- the events of lines that pass the mask, from one line to the next
place_none : (o : Option Coming) → place_in o ≡ None → o ≡ None
place_none None is = refl
place_none (Some c) is = absurd (cc is)

pub place_first : (b : Option Coming) (more : Option Coming) (place : ℕ × ℕ) → place_in b ≡ Some place → place_in (option_or b more) ≡ Some place
place_first None more place is = absurd (cc is)
place_first (Some c) more place is = is

place_rest : (b : Option Coming) (more : Option Coming) → b ≡ None → place_in (option_or b more) ≡ place_in more
place_rest b more none = ap (λ (o : Option Coming). place_in (option_or o more)) none

module _ (paused : ℕ) (lines : List Planned) (at : ℕ) (planned : Planned) (within : at < length lines) (is : planned ≡ get_or lines at planned) where
  split : find (hears paused) (coming at (drop at lines)) ≡ option_or (find (hears paused) (events_of_line at planned)) (find (hears paused) (coming (at + 1) (drop (at + 1) lines)))
  split =
      ap (λ (l : List Coming). find (hears paused) l) (coming_step lines at planned within is)
      ∙ find-append (hears paused) (events_of_line at planned) (coming (at + 1) (drop (at + 1) lines))

  pub heard_here : (behind : ℕ) → place_in (find (hears paused) (events_of_line at planned)) ≡ Some (at, behind) → Some (at, behind) ≡ place_in (find (hears paused) (coming at (drop at lines)))
  heard_here behind found =
      sym (ap place_in split ∙ place_first (find (hears paused) (events_of_line at planned)) (find (hears paused) (coming (at + 1) (drop (at + 1) lines))) (at, behind) found)

  pub heard_later : place_in (find (hears paused) (events_of_line at planned)) ≡ None
      → place_in (find (hears paused) (coming at (drop at lines))) ≡ place_in (find (hears paused) (coming (at + 1) (drop (at + 1) lines)))
  heard_later none =
      ap place_in split
      ∙ place_rest (find (hears paused) (events_of_line at planned)) (find (hears paused) (coming (at + 1) (drop (at + 1) lines))) (place_none (find (hears paused) (events_of_line at planned)) none)

one_of : ℕ → Happening → Coming
one_of line brought = record { line = line; behind = 0; happening = brought }

-- the first event of a line with exactly one, whatever follows
pub happens_alone : (planned : Planned) (line : ℕ) (brought copy : Happening) (rest : List Coming) → planned ≡ Happens brought → Brings (Some planned) → copy ≡ brought
    → Some (record { line = line; behind = 0; happening = copy }) ≡ first_in (events_of_line line planned ++ rest)
unfolding one_of
happens_alone planned line brought copy rest is ready same =
    let may : comes brought ≡ true = subst (λ (p : Planned). Brings (Some p)) is ready in
    ap (λ (h : Happening). Some (one_of line h)) same
    ∙ sym (ap (λ (p : Planned). first_in (events_of_line line p ++ rest)) is
    ∙ ap (λ (b : Bool). first_in ((if b then one_of line brought ∷ [] else []) ++ rest)) may)

-- past the event that a place is at
pub skipped : (lines : List Planned) (at line reading step count : ℕ) → count ≡ 0 → at < length lines → Brings (slice_get lines at)
    → ticks line reading step count ++ coming (at + 1) (drop (at + 1) lines) ≡ drop 1 (ticks line reading step count ++ coming at (drop at lines))
skipped lines at line reading step count none within ready =
    ⊎_elim
    (λ (read : (x : Planned) × (at < length lines) × (slice_get lines at ≡ Some x) × (get_or lines at x ≡ x)). by read.0 (sym read.3))
    (λ (past : (length lines ≤ at) × (slice_get lines at ≡ None)). absurd (omega (arith, past.0)))
    (slice_get_cases lines at).1
  where
    by : (planned : Planned) → planned ≡ get_or lines at planned
        → ticks line reading step count ++ coming (at + 1) (drop (at + 1) lines) ≡ drop 1 (ticks line reading step count ++ coming at (drop at lines))
    by (Happens brought) is = happens_rest lines at line reading step count none within brought is (may_come lines at brought ready within is)
    by (Ticks first by_step times) is = absurd (not_ticks lines at first by_step times ready within is)
    by (Changes change) is = absurd (not_changes lines at change ready within is)
