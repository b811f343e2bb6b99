-- A schedule that is written is read back.
use Rattle.std.proofs.Common.{◌≡◌, ℕ, ◌+◌, ◌-◌, ◌≤◌, Bool, true, false, if◌then◌else◌, ◌||◌, not, List, [], ◌∷◌, ◌++◌, length, length-append, map, take, drop, append_assoc, Option, Some, None, Result, Ok, refl, sym, ◌∙◌, ap, subst, arith, All}
use Rattle.std.specs.List.{flat_map, sum_by}
use Rattle.std.proofs.lemmas.List.{append-nil}
use Rattle.std.proofs.lemmas.List.Elements.{All-append, All-cons, All-head, All-nil, All-tail}
use Rattle.std.proofs.lemmas.List.Sums.{sum_by-append, sum_by-cons}
use Rattle.std.proofs.lemmas.Grind.{flat_map-append}
use Rattle.std.proofs.Math.Seq.{take-append_seam, drop-append_seam}
use Rattle.fwd_base.specs.Limits.{most_ticks}
use Rattle.fwd_outside.specs.declared.happening.Happening.{Happening}
use Rattle.fwd_script.specs.declared.meaning.LineMeaning.{LineMeaning}
use Rattle.fwd_script.specs.declared.meaning.LineMeaning.TheVariants.{Plans, Answers, DiskFails, FileFails, Stores}
use Rattle.fwd_script.specs.declared.meaning.LineMeaning.TheVariants as meaning
use Rattle.fwd_script.specs.declared.reader.ScheduleReader.{ScheduleReader}
use Rattle.fwd_script.specs.declared.refusal.ScheduleRefused.{ScheduleRefused}
use Rattle.fwd_script.specs.declared.schedule.Cut.{Cut}
use Rattle.fwd_script.specs.declared.schedule.Given.{Given}
use Rattle.fwd_script.specs.declared.schedule.Life.{Life}
use Rattle.fwd_script.specs.declared.schedule.Planned.{Planned}
use Rattle.fwd_script.specs.declared.schedule.Planned.TheVariants.{Happens}
use Rattle.fwd_script.specs.declared.schedule.Schedule.{Schedule}
use Rattle.fwd_script.specs.declared.schedule.Stored.{Stored}
use Rattle.fwd_script.specs.Schedule.{after, go_on, in_order, is_happening, is_passed_over, judge, lines_left, lines_of, empty_life, reader_start, read_on, schedule_of, ticks_of}
use Rattle.fwd_script.specs.Table.{line_meaning}
use Rattle.fwd_script.specs.Text.{crash_text, disk_text, ended_line, ended_lines, file_text, given_text, happening_text, life_lines, plan_lines, planned_text, stored_text, text_of}
use Rattle.fwd_script.specs.Writable.{Crashes, HasValidEnds, GivenFits, HappeningFits, Is64, IsWritable, Lacks, LifeFits, PlannedFits, StoredFits, StoresFirst, ticks_in}
use Rattle.fwd_script.proofs.LineSteps.{judged_ok, lines_parted}
use Rattle.fwd_script.proofs.LineFeeds.{comes, crash_lacks, disk_lacks, file_lacks, given_counts, given_lacks, planned_counts, planned_lacks, stored_lacks}
use Rattle.fwd_script.proofs.Rows.{crash_read, disk_read, file_read, given_read, planned_read, stored_read}
use Rattle.fwd_script.proofs.WrittenWords.{parted_at}

-- ---- the parts of a list

all_left : {T : Type 0} (P : T → Type 0) (xs ys : List T) → All P (xs ++ ys) → All P xs
all_left P [] ys all = All-nil P
all_left P (x ∷ xs) ys all = All-cons P x xs (All-head P x (xs ++ ys) all) (all_left P xs ys (All-tail P x (xs ++ ys) all))

all_last : {T : Type 0} (P : T → Type 0) (xs : List T) (y : T) → All P (xs ++ y ∷ []) → P y
all_last P [] y all = All-head P y [] all
all_last P (x ∷ xs) y all = all_last P xs y (All-tail P x (xs ++ y ∷ []) all)

all_texts : {T : Type 0} (P : T → Type 0) (text : T → List ℕ) → ((t : T) → P t → Lacks 10 (text t)) → (ts : List T) → All P ts → All (Lacks 10) (map text ts)
all_texts P text lacks [] all = All-nil (Lacks 10)
all_texts P text lacks (t ∷ ts) all = All-cons (Lacks 10) (text t) (map text ts) (lacks t (All-head P t ts all)) (all_texts P text lacks ts (All-tail P t ts all))

-- the lines of a plan whose last line follows a crash
crash_lines : (c : Cut) (before : List Planned) (p : Planned) → plan_lines (Some c) (before ++ p ∷ []) ≡ map planned_text before ++ crash_text c ∷ planned_text p ∷ []
crash_lines c before p =
    let size : length (before ++ p ∷ []) - 1 ≡ length before = omega (arith, length-append before (p ∷ [])) in
    ap (λ (k : ℕ). map planned_text (take k (before ++ p ∷ [])) ++ crash_text c ∷ map planned_text (drop k (before ++ p ∷ []))) size
    ∙ ap (λ (l : List Planned). map planned_text l ++ crash_text c ∷ map planned_text (drop (length before) (before ++ p ∷ []))) (take-append_seam before (p ∷ []))
    ∙ ap (λ (l : List Planned). map planned_text before ++ crash_text c ∷ map planned_text l) (drop-append_seam before (p ∷ []))

crashing : (life : Life) (crash : Crashes life) → plan_lines life.cut life.lines ≡ map planned_text crash.before ++ crash_text crash.cut ∷ happening_text crash.last ∷ []
crashing life crash =
    ap (λ (c : Option Cut). plan_lines c life.lines) crash.has_cut
    ∙ ap (λ (l : List Planned). plan_lines (Some crash.cut) l) crash.lines
    ∙ crash_lines crash.cut crash.before (Happens crash.last)

-- ---- the lines of the text

lines_back : (lines : List (List ℕ)) → All (Lacks 10) lines → lines_of (ended_lines lines) ≡ lines ++ [] ∷ []
lines_back [] lack = refl
lines_back (line ∷ lines) lack =
    ap lines_of (append_assoc line (10 ∷ []) (ended_lines lines))
    ∙ lines_parted (line ++ 10 ∷ ended_lines lines)
    ∙ ap (λ (p : List ℕ × Option (List ℕ)). p.0 ∷ lines_left p.1) (parted_at 10 line (ended_lines lines) (All-head (Lacks 10) line lines lack))
    ∙ ap (λ (l : List (List ℕ)). line ∷ l) (lines_back lines (All-tail (Lacks 10) line lines lack))

texts : (lives : List Life) → flat_map (λ (life : Life). ended_lines (life_lines life)) lives ≡ ended_lines (flat_map life_lines lives)
texts [] = refl
texts (life ∷ lives) = ap (λ (t : List ℕ). ended_lines (life_lines life) ++ t) (texts lives) ∙ sym (flat_map-append ended_line (life_lines life) (flat_map life_lines lives))

front_lacks : (life : Life) → LifeFits life → All (Lacks 10) (plan_lines life.cut life.lines) → All (Lacks 10) (life_lines life)
front_lacks life fits plan =
    let s = map stored_text life.store in
    let d = map disk_text life.disk_fails in
    let f = map file_text life.file_fails in
    let a = map given_text life.answers in
    All-append (Lacks 10) (s ++ d ++ f ++ a) (plan_lines life.cut life.lines)
    (All-append (Lacks 10) (s ++ d ++ f) a
    (All-append (Lacks 10) (s ++ d) f
    (All-append (Lacks 10) s d (all_texts StoredFits stored_text stored_lacks life.store fits.store) (all_texts Is64 disk_text disk_lacks life.disk_fails fits.disk_fails))
    (all_texts Is64 file_text file_lacks life.file_fails fits.file_fails))
    (all_texts GivenFits given_text given_lacks life.answers fits.answers))
    plan

last_lacks : (life : Life) → LifeFits life → life.cut ≡ None → All (Lacks 10) (life_lines life)
last_lacks life fits no_cut =
    front_lacks life fits (subst (λ (c : Option Cut). All (Lacks 10) (plan_lines c life.lines)) (sym no_cut) (all_texts PlannedFits planned_text planned_lacks life.lines fits.lines))

module _ (life : Life) (fits : LifeFits life) (crash : Crashes life) where
  all_planned : All PlannedFits (crash.before ++ Happens crash.last ∷ [])
  all_planned = subst (All PlannedFits) crash.lines fits.lines

  before_fits : All PlannedFits crash.before
  before_fits = all_left PlannedFits crash.before (Happens crash.last ∷ []) all_planned

  last_fits : HappeningFits crash.last
  last_fits = all_last PlannedFits crash.before (Happens crash.last) all_planned

  crash_lines_lack : All (Lacks 10) (life_lines life)
  crash_lines_lack =
      let behind : All (Lacks 10) (crash_text crash.cut ∷ happening_text crash.last ∷ []) =
      All-cons (Lacks 10) (crash_text crash.cut) (happening_text crash.last ∷ []) (crash_lacks crash.cut crash.calls crash.pick)
      (All-cons (Lacks 10) (happening_text crash.last) [] (planned_lacks (Happens crash.last) last_fits) (All-nil (Lacks 10))) in
      front_lacks life fits
      (subst (All (Lacks 10)) (sym (crashing life crash))
      (All-append (Lacks 10) (map planned_text crash.before) (crash_text crash.cut ∷ happening_text crash.last ∷ []) (all_texts PlannedFits planned_text planned_lacks crash.before before_fits) behind))

all_lack : (lives : List Life) → All LifeFits lives → HasValidEnds lives → All (Lacks 10) (flat_map life_lines lives)
all_lack [] fits ends = absurd ends
all_lack (life ∷ []) fits ends = All-append (Lacks 10) (life_lines life) [] (last_lacks life (All-head LifeFits life [] fits) ends) (All-nil (Lacks 10))
all_lack (life ∷ next ∷ lives) fits ends =
    All-append (Lacks 10) (life_lines life) (flat_map life_lines (next ∷ lives)) (crash_lines_lack life (All-head LifeFits life (next ∷ lives) fits) ends.0)
    (all_lack (next ∷ lives) (All-tail LifeFits life (next ∷ lives) fits) ends.1)

-- ---- reading line by line

abbrev life_of : List Planned → List Given → List ℕ → List ℕ → List Stored → Option Cut → Life
life_of lines answers disk file store cut = record { lines = lines; answers = answers; disk_fails = disk; file_fails = file; store = store; cut = cut }

abbrev at : List Life → ℕ → Bool → Life → ScheduleReader
at lives left begun life = record { lives = lives; life = life; left = left; begun = begun }

five : (a b c d e r : List (List ℕ)) → a ++ b ++ c ++ d ++ e ++ r ≡ a ++ (b ++ (c ++ (d ++ (e ++ r))))
five a b c d e r = append_assoc (a ++ b ++ c ++ d) e r ∙ append_assoc (a ++ b ++ c) d (e ++ r) ∙ append_assoc (a ++ b) c (d ++ (e ++ r)) ∙ append_assoc a b (c ++ (d ++ (e ++ r)))

module _ (whole : Schedule) where
  -- from here on these lines give the whole schedule
  abbrev Gives : ScheduleReader → List (List ℕ) → Type 0
  Gives so_far lines = (number : ℕ) → read_on so_far number lines ≡ Ok whole

  one : (so_far : ScheduleReader) (line : List ℕ) (behind : List (List ℕ)) (m : LineMeaning) → line_meaning so_far.left line ≡ Ok m → in_order so_far m behind ≡ true → is_passed_over line ≡ false
      → Gives (after m so_far) behind → Gives so_far (line ∷ behind)
  one so_far line behind m read order counts next number =
      ap (λ (b : Bool). if b then read_on so_far (number + 1) behind else go_on number (λ (meaning : LineMeaning). read_on (after meaning so_far) (number + 1) behind) (judge so_far line behind)) counts
      ∙ ap (go_on number (λ (meaning : LineMeaning). read_on (after meaning so_far) (number + 1) behind)) (judged_ok so_far line behind m true read (sym order) refl)
      ∙ next (number + 1)

  module _ {T : Type 0} (text : T → List ℕ) (mean : T → LineMeaning) (Fits : T → Type 0) (state : List T → ScheduleReader)
      (counts : (t : T) → is_passed_over (text t) ≡ false) (reads : (left : ℕ) (t : T) → Fits t → line_meaning left (text t) ≡ Ok (mean t))
      (goes : (done : List T) (t : T) → after (mean t) (state done) ≡ state (done ++ t ∷ []))
      (order : (done : List T) (t : T) (behind : List (List ℕ)) → in_order (state done) (mean t) behind ≡ true) where
    many : (done ts : List T) (rest : List (List ℕ)) → All Fits ts → Gives (state (done ++ ts)) rest → Gives (state done) (map text ts ++ rest)
    many done [] rest fits next = subst (λ (l : List T). Gives (state l) rest) (append-nil done) next
    many done (t ∷ ts) rest fits next =
        let moved : Gives (state (done ++ t ∷ [] ++ ts)) rest = subst (λ (l : List T). Gives (state l) rest) (sym (append_assoc done (t ∷ []) ts)) next in
        one (state done) (text t) (map text ts ++ rest) (mean t) (reads (state done).left t (All-head Fits t ts fits)) (order done t (map text ts ++ rest)) (counts t)
        (subst (λ (s : ScheduleReader). Gives s (map text ts ++ rest)) (sym (goes done t)) (many (done ++ t ∷ []) ts rest (All-tail Fits t ts fits) moved))

  module _ (lives : List Life) (left : ℕ) (begun : Bool) where
    stores_read : (store : List Stored) (rest : List (List ℕ)) → ((store ≡ [] → ⊥) → begun ≡ false) → All StoredFits store
        → Gives (at lives left begun (life_of [] [] [] [] store None)) rest → Gives (at lives left begun empty_life) (map stored_text store ++ rest)
    stores_read [] rest first fits next = next
    stores_read (s ∷ ss) rest first fits next =
        many stored_text (λ (t : Stored). Stores t) StoredFits (λ (done : List Stored). at lives left begun (life_of [] [] [] [] done None)) (λ _. refl) stored_read (λ _ _. refl)
        (λ _ _ _. ap not (first (λ e. absurd (cc e)))) [] (s ∷ ss) rest fits next

    module _ (store : List Stored) (rest : List (List ℕ)) where
      disks_read : (disk : List ℕ) → All Is64 disk → Gives (at lives left begun (life_of [] [] disk [] store None)) rest
          → Gives (at lives left begun (life_of [] [] [] [] store None)) (map disk_text disk ++ rest)
      disks_read disk fits next =
          many disk_text (λ (t : ℕ). DiskFails t) Is64 (λ (done : List ℕ). at lives left begun (life_of [] [] done [] store None)) (λ _. refl) disk_read (λ _ _. refl) (λ _ _ _. refl) [] disk rest fits next

      files_read : (disk file : List ℕ) → All Is64 file → Gives (at lives left begun (life_of [] [] disk file store None)) rest
          → Gives (at lives left begun (life_of [] [] disk [] store None)) (map file_text file ++ rest)
      files_read disk file fits next =
          many file_text (λ (t : ℕ). FileFails t) Is64 (λ (done : List ℕ). at lives left begun (life_of [] [] disk done store None)) (λ _. refl) file_read (λ _ _. refl) (λ _ _ _. refl) [] file rest fits next

      answers_read : (disk file : List ℕ) (answers : List Given) → All GivenFits answers → Gives (at lives left begun (life_of [] answers disk file store None)) rest
          → Gives (at lives left begun (life_of [] [] disk file store None)) (map given_text answers ++ rest)
      answers_read disk file answers fits next =
          many given_text (λ (t : Given). Answers t) GivenFits (λ (done : List Given). at lives left begun (life_of [] done disk file store None)) given_counts given_read (λ _ _. refl) (λ _ _ _. refl) [] answers rest fits next

    front_read : (life : Life) (rest : List (List ℕ)) → LifeFits life → ((life.store ≡ [] → ⊥) → begun ≡ false)
        → Gives (at lives left begun (life_of [] life.answers life.disk_fails life.file_fails life.store None)) rest
        → Gives (at lives left begun empty_life) (map stored_text life.store ++ (map disk_text life.disk_fails ++ (map file_text life.file_fails ++ (map given_text life.answers ++ rest))))
    front_read life rest fits first next =
        let behind_files = map given_text life.answers ++ rest in
        let behind_disk = map file_text life.file_fails ++ behind_files in
        stores_read life.store (map disk_text life.disk_fails ++ behind_disk) first fits.store
        (disks_read life.store behind_disk life.disk_fails fits.disk_fails
        (files_read life.store behind_files life.disk_fails life.file_fails fits.file_fails
        (answers_read life.store rest life.disk_fails life.file_fails life.answers fits.answers next)))

  module _ (lives : List Life) (answers : List Given) (disk file : List ℕ) (store : List Stored) where
    plan_read : (done plan : List Planned) (left more : ℕ) (begun : Bool) (rest : List (List ℕ)) → All PlannedFits plan → sum_by ticks_of plan + more ≤ left
        → ((left2 : ℕ) (begun2 : Bool) → more ≤ left2 → Gives (at lives left2 begun2 (life_of (done ++ plan) answers disk file store None)) rest)
        → Gives (at lives left begun (life_of done answers disk file store None)) (map planned_text plan ++ rest)
    plan_read done [] left more begun rest fits within next =
        subst (λ (l : List Planned). Gives (at lives left begun (life_of l answers disk file store None)) rest) (append-nil done) (next left begun (omega (arith, within)))
    plan_read done (p ∷ plan) left more begun rest fits within next =
        let sums : sum_by ticks_of (p ∷ plan) ≡ ticks_of p + sum_by ticks_of plan = sum_by-cons ticks_of p plan in
        let p_fits : PlannedFits p = All-head PlannedFits p plan fits in
        one (at lives left begun (life_of done answers disk file store None)) (planned_text p) (map planned_text plan ++ rest) (Plans p) (planned_read left p p_fits (omega (arith, within, sums))) refl (planned_counts p p_fits)
        (plan_read (done ++ p ∷ []) plan (left - ticks_of p) more (is_happening p || begun) rest (All-tail PlannedFits p plan fits) (omega (arith, within, sums))
        (λ left2 begun2 enough. subst (λ (l : List Planned). Gives (at lives left2 begun2 (life_of l answers disk file store None)) rest) (sym (append_assoc done (p ∷ []) plan)) (next left2 begun2 enough)))

    crash_reads : (c : Cut) (h : Happening) (plan : List Planned) (left more : ℕ) (begun : Bool) (rest : List (List ℕ)) → Is64 c.calls → Is64 c.pick → HappeningFits h → more ≤ left
        → ((left2 : ℕ) (begun2 : Bool) → more ≤ left2 → Gives (at (lives ++ life_of (plan ++ Happens h ∷ []) answers disk file store (Some c) ∷ []) left2 begun2 empty_life) rest)
        → Gives (at lives left begun (life_of plan answers disk file store None)) (crash_text c ∷ happening_text h ∷ rest)
    crash_reads c h plan left more begun rest small_calls small_pick fits within next =
        one (at lives left begun (life_of plan answers disk file store None)) (crash_text c) (happening_text h ∷ rest) (meaning.Crashes c) (crash_read left c small_calls small_pick) (comes h fits rest) refl
        (one (at lives left true (life_of plan answers disk file store (Some c))) (happening_text h) rest (Plans (Happens h)) (planned_read left (Happens h) fits (omega arith)) refl (planned_counts (Happens h) fits)
        (next (left - 0) true (omega (arith, within))))

  -- files are stored only before the first loop event
  abbrev StoresHere : Bool → List Life → Type 0
  StoresHere begun [] = Unit {0}
  StoresHere begun (life ∷ lives) = ((life.store ≡ [] → ⊥) → begun ≡ false) × All (λ (later : Life). later.store ≡ []) lives

  later : (begun : Bool) (lives : List Life) → All (λ (l : Life). l.store ≡ []) lives → StoresHere begun lives
  later begun [] none = tt
  later begun (life ∷ lives) none = (λ stored. absurd (stored (All-head (λ (l : Life). l.store ≡ []) life lives none)), All-tail (λ (l : Life). l.store ≡ []) life lives none)

  -- the lines of a run, one after the other
  in_a_row : (life : Life) (plan : List (List ℕ)) (rest : List (List ℕ)) → plan_lines life.cut life.lines ≡ plan
      → life_lines life ++ rest ≡ map stored_text life.store ++ (map disk_text life.disk_fails ++ (map file_text life.file_fails ++ (map given_text life.answers ++ (plan ++ rest))))
  in_a_row life plan rest is =
      let s = map stored_text life.store in
      let d = map disk_text life.disk_fails in
      let f = map file_text life.file_fails in
      let a = map given_text life.answers in
      five s d f a (plan_lines life.cut life.lines) rest ∙ ap (λ (p : List (List ℕ)). s ++ (d ++ (f ++ (a ++ (p ++ rest))))) is

  last_read : (done : List Life) (life : Life) (left : ℕ) (begun : Bool) → LifeFits life → life.cut ≡ None → ((life.store ≡ [] → ⊥) → begun ≡ false) → ticks_in life ≤ left
      → record { lives = done ++ life ∷ [] } ≡ whole → Gives (at done left begun empty_life) (life_lines life ++ [] ∷ [])
  last_read done life left begun fits no_cut first within is =
      let same : life_of life.lines life.answers life.disk_fails life.file_fails life.store None ≡ life =
      ap (λ (c : Option Cut). life_of life.lines life.answers life.disk_fails life.file_fails life.store c) (sym no_cut) in
      let end : Result Schedule ScheduleRefused = Ok (record { lives = done ++ life_of life.lines life.answers life.disk_fails life.file_fails life.store None ∷ [] }) in
      subst (Gives (at done left begun empty_life)) (sym (in_a_row life (map planned_text life.lines) ([] ∷ []) (ap (λ (c : Option Cut). plan_lines c life.lines) no_cut)))
      (front_read done left begun life (map planned_text life.lines ++ [] ∷ []) fits first
      (plan_read done life.answers life.disk_fails life.file_fails life.store [] life.lines left 0 begun ([] ∷ []) fits.lines (omega (arith, within))
      (λ left2 begun2 enough number. ap (λ (l : Life). Ok (record { lives = done ++ l ∷ [] })) same ∙ ap (λ (s : Schedule). Ok s) is)))

  crashed_read : (done : List Life) (life : Life) (left more : ℕ) (begun : Bool) (rest : List (List ℕ)) → LifeFits life → Crashes life → ((life.store ≡ [] → ⊥) → begun ≡ false) → ticks_in life + more ≤ left
      → ((left2 : ℕ) (begun2 : Bool) → more ≤ left2 → Gives (at (done ++ life ∷ []) left2 begun2 empty_life) rest) → Gives (at done left begun empty_life) (life_lines life ++ rest)
  crashed_read done life left more begun rest fits crash first within next =
      let of : List Planned → Option Cut → Life = λ lines cut. life_of lines life.answers life.disk_fails life.file_fails life.store cut in
      let plan : List (List ℕ) = map planned_text crash.before ++ crash_text crash.cut ∷ happening_text crash.last ∷ [] in
      let same : life_of (crash.before ++ Happens crash.last ∷ []) life.answers life.disk_fails life.file_fails life.store (Some crash.cut) ≡ life =
      ap (λ (l : List Planned). life_of l life.answers life.disk_fails life.file_fails life.store (Some crash.cut)) (sym crash.lines)
      ∙ ap (λ (c : Option Cut). life_of life.lines life.answers life.disk_fails life.file_fails life.store c) (sym crash.has_cut) in
      let sums : ticks_in life ≡ sum_by ticks_of crash.before + 0 =
      ap (λ (l : List Planned). sum_by ticks_of l) crash.lines ∙ sum_by-append ticks_of crash.before (Happens crash.last ∷ []) in
      let behind : Gives (at done left begun (life_of [] life.answers life.disk_fails life.file_fails life.store None)) (map planned_text crash.before ++ (crash_text crash.cut ∷ happening_text crash.last ∷ rest)) =
      plan_read done life.answers life.disk_fails life.file_fails life.store [] crash.before left more begun (crash_text crash.cut ∷ happening_text crash.last ∷ rest) (before_fits life fits crash) (omega (arith, within, sums))
      (λ left2 begun2 enough. crash_reads done life.answers life.disk_fails life.file_fails life.store crash.cut crash.last crash.before left2 more begun2 rest crash.calls crash.pick (last_fits life fits crash) enough
      (λ left3 begun3 enough3. subst (λ (l : Life). Gives (at (done ++ l ∷ []) left3 begun3 empty_life) rest) (sym same) (next left3 begun3 enough3))) in
      subst (Gives (at done left begun empty_life)) (sym (in_a_row life plan rest (crashing life crash)))
      (front_read done left begun life (plan ++ rest) fits first
      (subst (Gives (at done left begun (life_of [] life.answers life.disk_fails life.file_fails life.store None))) (sym (append_assoc (map planned_text crash.before) (crash_text crash.cut ∷ happening_text crash.last ∷ []) rest)) behind))

  lives_read : (done : List Life) (left : ℕ) (begun : Bool) (lives : List Life) → HasValidEnds lives → All LifeFits lives → StoresHere begun lives → sum_by ticks_in lives ≤ left
      → record { lives = done ++ lives } ≡ whole → Gives (at done left begun empty_life) (flat_map life_lines lives ++ [] ∷ [])
  lives_read done left begun [] ends fits stores within is = absurd ends
  lives_read done left begun (life ∷ []) ends fits stores within is =
      let sums : sum_by ticks_in (life ∷ []) ≡ ticks_in life + sum_by ticks_in [] = sum_by-cons ticks_in life [] in
      subst (λ (l : List (List ℕ)). Gives (at done left begun empty_life) (l ++ [] ∷ [])) (sym (append-nil (life_lines life)))
      (last_read done life left begun (All-head LifeFits life [] fits) ends stores.0 (omega (arith, within, sums)) is)
  lives_read done left begun (life ∷ next ∷ lives) ends fits stores within is =
      let sums : sum_by ticks_in (life ∷ next ∷ lives) ≡ ticks_in life + sum_by ticks_in (next ∷ lives) = sum_by-cons ticks_in life (next ∷ lives) in
      let rest : List (List ℕ) = flat_map life_lines (next ∷ lives) ++ [] ∷ [] in
      subst (Gives (at done left begun empty_life)) (sym (append_assoc (life_lines life) (flat_map life_lines (next ∷ lives)) ([] ∷ [])))
      (crashed_read done life left (sum_by ticks_in (next ∷ lives)) begun rest (All-head LifeFits life (next ∷ lives) fits) ends.0 stores.0 (omega (arith, within, sums))
      (λ left2 begun2 enough. lives_read (done ++ life ∷ []) left2 begun2 (next ∷ lives) ends.1 (All-tail LifeFits life (next ∷ lives) fits) (later begun2 (next ∷ lives) stores.1) enough
      (ap (λ (l : List Life). record { lives = l }) (append_assoc done (life ∷ []) (next ∷ lives)) ∙ is)))

at_first : (lives : List Life) → StoresFirst lives → (whole : Schedule) → StoresHere whole false lives
at_first [] first whole = tt
at_first (life ∷ lives) first whole = (λ _. refl, first)

pub written_reads : (s : Schedule) → IsWritable s → schedule_of (text_of s) ≡ Ok s
unfolding schedule_of
written_reads s writable =
    ap (λ (t : List ℕ). read_on reader_start 1 (lines_of t)) (texts s.lives)
    ∙ ap (read_on reader_start 1) (lines_back (flat_map life_lines s.lives) (all_lack s.lives writable.fits writable.ends))
    ∙ lives_read s [] most_ticks false s.lives writable.ends writable.fits (at_first s.lives writable.stores s) writable.ticks refl 1
