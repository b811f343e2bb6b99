-- What is recorded of a run that was stopped without a call.
use Rattle.std.proofs.Common.{◌≡◌, ℕ, ◌+◌, ◌≤◌, min, List, [], ◌∷◌, ◌++◌, map, length, take, drop, Result, Ok, Err, refl, sym, ap, subst, ◌∙◌, arith, length-append}
use Rattle.std.specs.Prelude.{All, IfOk}
use Rattle.std.specs.List.{insert}
use Rattle.std.proofs.lemmas.List.{map-append, take_at, drop_at, length-map, take-append-drop}
use Rattle.std.proofs.lemmas.List.Concat.{flat_map-append}
use Rattle.std.proofs.lemmas.List.Elements.{All-append, All-cons, All-drop, All-take}
use Rattle.fwd_outside.specs.Loop.{LoopEntry}
use Rattle.fwd_outside.specs.declared.happening.Happening.{Happening}
use Rattle.fwd_outside.specs.declared.happening.Happening.TheVariants.{Stop}
use Rattle.fwd_script.specs.declared.schedule.Given.{Given}
use Rattle.fwd_script.specs.declared.schedule.Life.{Life}
use Rattle.fwd_script.specs.declared.schedule.Planned.{Planned}
use Rattle.fwd_script.specs.declared.schedule.Planned.TheVariants.{Happens}
use Rattle.fwd_script.specs.declared.schedule.Schedule.{Schedule}
use Rattle.fwd_script.specs.declared.schedule.Stored.{Stored}
use Rattle.fwd_script.specs.Writable.{PlannedFits}
use Rattle.fwd_record.specs.Seen.{Seen, Stopped, calls_in, calls_of}
use Rattle.fwd_record.specs.Links.{Links, no_links, links_in}
use Rattle.fwd_record.specs.Notes.{AreNotes}
use Rattle.fwd_record.specs.Recorded.{heard_at, heard_in, answers_in, line_of, recorded}
use Rattle.fwd_record.proofs.Writing.{life_with, noted_life}

-- a stop is no call
pub calls_stopped : (first second : List Seen) → calls_of (first ++ Stopped ∷ second) ≡ calls_of (first ++ second)
calls_stopped first second = flat_map-append calls_in first (Stopped ∷ second) ∙ sym (flat_map-append calls_in first second)

pub heard_stopped : (first second : List Seen) → heard_in (first ++ Stopped ∷ second) ≡ heard_in first ++ Stop ∷ heard_in second
heard_stopped first second = flat_map-append heard_at first (Stopped ∷ second)

-- an item in its place, where some are before it
inserted_at : {X : Type 0} (xs ys : List X) (n : ℕ) (x : X) → length xs ≡ n → insert (xs ++ ys) n x ≡ xs ++ x ∷ ys
inserted_at {X} xs ys n x is = ap (λ (l : List X). l ++ x ∷ drop n (xs ++ ys)) (take_at xs ys n is) ∙ ap (λ (l : List X). xs ++ x ∷ l) (drop_at xs ys n is)

-- the line of the stop stands behind those of the events before it
lines_stopped : (links : List ℕ) (first second : List Seen) (n : ℕ) → length (heard_in first) ≡ n
    → insert (map (line_of links) (heard_in (first ++ second))) n (Happens Stop) ≡ map (line_of links) (heard_in (first ++ Stopped ∷ second))
lines_stopped links first second n is =
    let line = line_of links in
    ap (λ (l : List Happening). insert (map line l) n (Happens Stop)) (flat_map-append heard_at first second)
    ∙ ap (λ (l : List Planned). insert l n (Happens Stop)) (map-append line (heard_in first) (heard_in second))
    ∙ inserted_at (map line (heard_in first)) (map line (heard_in second)) n (Happens Stop) (length-map (heard_in first) line ∙ is)
    ∙ sym (map-append line (heard_in first) (Stop ∷ heard_in second))
    ∙ ap (λ (l : List Happening). map line l) (sym (heard_stopped first second))

within : (n m : ℕ) → n ≤ m → min n m ≡ n
within n m few = omega (arith, few)

-- the life of a run that was stopped, by what was noted of its calls
pub stopped_life : {events : List Happening} {given : List Given} {links : Links} (first second : List Seen) (n : ℕ) → AreNotes events given links (first ++ second) → length (heard_in first) ≡ n
    → {before lines : List Planned} {answers : List Given} {disk_fails failed file_fails : List ℕ} {store : List Stored}
    → before ≡ map (line_of links.links) events → lines ≡ insert before (min n (length before)) (Happens Stop) → answers ≡ given → disk_fails ≡ failed → file_fails ≡ [] → store ≡ []
    → life_with lines answers disk_fails file_fails store ≡ recorded (first ++ Stopped ∷ second) failed
stopped_life first second n is at {before} {lines} {answers} {disk_fails} {failed} {file_fails} {store} lined more copied fails none empty =
    let whole = noted_life is lined copied fails none empty in
    let seen = first ++ second in
    let all = links_in (calls_of seen) in
    let were : before ≡ map (line_of all) (heard_in seen) = ap (λ (l : Life). l.lines) whole in
    let many : length before ≡ n + length (heard_in second) =
    ap length were
    ∙ length-map (heard_in seen) (line_of all)
    ∙ ap length (flat_map-append heard_at first second)
    ∙ length-append (heard_in first) (heard_in second)
    ∙ ap (λ (i : ℕ). i + length (heard_in second)) at
    in
    let few : n ≤ length before = omega (arith, many) in
    let now : lines ≡ map (line_of all) (heard_in (first ++ Stopped ∷ second)) =
    more
    ∙ ap (λ (i : ℕ). insert before i (Happens Stop)) (within n (length before) few)
    ∙ ap (λ (l : List Planned). insert l n (Happens Stop)) were
    ∙ lines_stopped all first second n at
    in
    let calls = sym (calls_stopped first second) in
    ap (λ (l : List Planned). life_with l answers disk_fails file_fails store) now
    ∙ ap (λ (l : Life). record l { lines = map (line_of all) (heard_in (first ++ Stopped ∷ second)) }) whole
    ∙ ap (λ (l : List LoopEntry). life_with (map (line_of (links_in l)) (heard_in (first ++ Stopped ∷ second))) (answers_in no_links l) failed [] []) calls

-- all items, with one more
pub all_insert : {X : Type 0} (P : X → Type 0) (xs : List X) (i : ℕ) (x : X) {ys : List X} → ys ≡ insert xs i x → All P xs → P x → All P ys
all_insert {X} P xs i x {ys} now all one =
    subst (λ (l : List X). All P l) (sym now) (All-append P (take i xs) (x ∷ drop i xs) (All-take P i xs all) (All-cons P x (drop i xs) one (All-drop P i xs all)))

-- the schedule of one life is that of another that is the same
pub result_is : {E : Type 0} (result : Result Schedule E) {life other : Life} → life ≡ other → IfOk result (λ schedule. schedule ≡ record { lives = life ∷ [] }) → IfOk result (λ schedule. schedule ≡ record { lives = other ∷ [] })
result_is (Ok schedule) same is = is ∙ ap (λ (l : Life). record { lives = l ∷ [] }) same
result_is (Err e) same is = tt
