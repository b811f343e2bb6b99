-- What is recorded can be written.
use Rattle.std.proofs.Common.{◌≡◌, ℕ, ◌+◌, List, [], ◌∷◌, ◌++◌, map, take, None, Result, Ok, Err, refl, sym, ap, subst, ◌∙◌, arith}
use Rattle.std.specs.Prelude.{All, IfOk}
use Rattle.std.specs.List.{sum_by}
use Rattle.std.proofs.lemmas.List.{map-append}
use Rattle.std.proofs.lemmas.List.Elements.{All-nil, All-cons, All-push, All-same}
use Rattle.std.proofs.lemmas.List.Sums.{sum_by-cons}
use Rattle.fwd_outside.specs.declared.happening.Happening.{Happening}
use Rattle.fwd_script.specs.declared.schedule.Given.{Given}
use Rattle.fwd_script.specs.declared.schedule.Life.{Life}
use Rattle.fwd_script.specs.declared.schedule.Planned.{Planned}
use Rattle.fwd_script.specs.declared.schedule.Schedule.{Schedule}
use Rattle.fwd_script.specs.declared.schedule.Stored.{Stored}
use Rattle.fwd_script.specs.Schedule.{ticks_of}
use Rattle.fwd_script.specs.Writable.{Is64, GivenFits, PlannedFits, StoredFits, IsWritable, LifeFits, ticks_in}
use Rattle.fwd_record.specs.Seen.{Seen, calls_of}
use Rattle.fwd_record.specs.Links.{Links, no_links, links_in}
use Rattle.fwd_record.specs.Notes.{AreNotes}
use Rattle.fwd_record.specs.Recorded.{heard_in, answers_in, line_of, recorded}
use Rattle.fwd_record.proofs.AllowedCalls.{links_behind_calls}

-- ---- lists that grow

-- one more item, mapped
pub mapped_more : {A B : Type 0} (f : A → B) (xs : List A) (i : ℕ) (x : A) {ys zs : List B} {y : B} → take (i + 1) xs ≡ take i xs ++ x ∷ []
    → ys ≡ map f (take i xs) → y ≡ f x → zs ≡ ys ++ y ∷ [] → zs ≡ map f (take (i + 1) xs)
mapped_more {A} {B} f xs i x {ys} {zs} {y} more were is now =
    now ∙ ap (λ (l : List B). l ++ y ∷ []) were ∙ ap (λ (z : B). map f (take i xs) ++ z ∷ []) is ∙ sym (map-append f (take i xs) (x ∷ [])) ∙ ap (λ (l : List A). map f l) (sym more)

-- one more item, copied
pub copied_more : {X : Type 0} (xs : List X) (i : ℕ) (x : X) {ys zs : List X} {y : X} → take (i + 1) xs ≡ take i xs ++ x ∷ []
    → ys ≡ take i xs → y ≡ x → zs ≡ ys ++ y ∷ [] → zs ≡ take (i + 1) xs
copied_more {X} xs i x {ys} {zs} {y} more were is now =
    now ∙ ap (λ (l : List X). l ++ y ∷ []) were ∙ ap (λ (z : X). take i xs ++ z ∷ []) is ∙ sym more

pub all_more : {X : Type 0} (P : X → Type 0) (xs : List X) (x : X) {ys : List X} → ys ≡ xs ++ x ∷ [] → All P xs → P x → All P ys
all_more {X} P xs x {ys} now all one = subst (λ (l : List X). All P l) (sym now) (All-push P xs x all one)

-- ---- the life

abbrev pub life_with : List Planned → List Given → List ℕ → List ℕ → List Stored → Life
life_with lines answers disk_fails file_fails store =
    record { lines = lines; answers = answers; disk_fails = disk_fails; file_fails = file_fails; store = store; cut = None }

-- the life of what was noted is what is recorded
pub noted_life : {events : List Happening} {given : List Given} {links : Links} {seen : List Seen} → AreNotes events given links seen
    → {lines : List Planned} {answers : List Given} {disk_fails failed file_fails : List ℕ} {store : List Stored}
    → lines ≡ map (line_of links.links) events → answers ≡ given → disk_fails ≡ failed → file_fails ≡ [] → store ≡ []
    → life_with lines answers disk_fails file_fails store ≡ recorded seen failed
noted_life {events} {given} {links} {seen} is {lines} {answers} {disk_fails} {failed} {file_fails} {store} lined copied fails none empty =
    let all : links.links ≡ links_in (calls_of seen) = ap (λ (k : Links). k.links) is.so_far ∙ links_behind_calls no_links (calls_of seen) in
    let of_seen : lines ≡ map (line_of (links_in (calls_of seen))) (heard_in seen) =
    lined ∙ ap (λ (l : List ℕ). map (line_of l) events) all ∙ ap (λ (h : List Happening). map (line_of (links_in (calls_of seen))) h) is.heard in
    ap (λ (l : List Planned). life_with l answers disk_fails file_fails store) of_seen
    ∙ ap (λ (l : List Given). life_with (map (line_of (links_in (calls_of seen))) (heard_in seen)) l disk_fails file_fails store) (copied ∙ is.answers)
    ∙ ap (λ (l : List ℕ). life_with (map (line_of (links_in (calls_of seen))) (heard_in seen)) (answers_in no_links (calls_of seen)) l file_fails store) fails
    ∙ ap (λ (l : List ℕ). life_with (map (line_of (links_in (calls_of seen))) (heard_in seen)) (answers_in no_links (calls_of seen)) failed l store) none
    ∙ ap (λ (l : List Stored). life_with (map (line_of (links_in (calls_of seen))) (heard_in seen)) (answers_in no_links (calls_of seen)) failed [] l) empty

pub life_fits : {lines : List Planned} {answers : List Given} {disk_fails file_fails : List ℕ} {store : List Stored}
    → All PlannedFits lines → All GivenFits answers → All Is64 disk_fails → file_fails ≡ [] → store ≡ [] → LifeFits (life_with lines answers disk_fails file_fails store)
life_fits {lines} {answers} {disk_fails} {file_fails} {store} lined given fails none empty = record {
  lines = lined;
  answers = given;
  disk_fails = fails;
  file_fails = All-same Is64 file_fails [] none (All-nil Is64);
  store = All-same StoredFits store [] empty (All-nil StoredFits);
}

-- ---- the schedule

-- no recorded line has more than one reading of the clock
no_ticks : (links : List ℕ) (heard : List Happening) → sum_by ticks_of (map (line_of links) heard) ≡ 0
no_ticks links [] = refl
no_ticks links (brought ∷ heard) =
    let sums = sum_by-cons ticks_of (line_of links brought) (map (line_of links) heard) in
    let rest = no_ticks links heard in
    omega (arith, sums, rest)

pub recorded_writable : (seen : List Seen) (failed : List ℕ) → LifeFits (recorded seen failed) → IsWritable (record { lives = recorded seen failed ∷ [] })
recorded_writable seen failed fits =
    let life : Life = recorded seen failed in
    let sums : sum_by ticks_in (life ∷ []) ≡ ticks_in life + sum_by ticks_in [] = sum_by-cons ticks_in life [] in
    let none : ticks_in life ≡ 0 = no_ticks (links_in (calls_of seen)) (heard_in seen) in
    record {
      fits = All-cons LifeFits life [] fits (All-nil LifeFits);
      ends = refl;
      stores = All-nil (λ (later : Life). later.store ≡ []);
      ticks = omega (arith, sums, none);
    }

pub schedule_writable : {life : Life} {schedule : Schedule} (seen : List Seen) (failed : List ℕ) → life ≡ recorded seen failed → LifeFits life
    → schedule ≡ record { lives = life ∷ [] } → IsWritable schedule
schedule_writable {life} {schedule} seen failed is fits made =
    subst (λ (s : Schedule). IsWritable s) (sym (made ∙ ap (λ (l : Life). record { lives = l ∷ [] }) is))
    (recorded_writable seen failed (subst (λ (l : Life). LifeFits l) is fits))

pub result_writable : {E : Type 0} (result : Result Schedule E) {life : Life} (seen : List Seen) (failed : List ℕ) → life ≡ recorded seen failed → LifeFits life
    → IfOk result (λ schedule. schedule ≡ record { lives = life ∷ [] }) → IfOk result IsWritable
result_writable (Ok schedule) seen failed is fits made = schedule_writable seen failed is fits made
result_writable (Err e) seen failed is fits made = tt
