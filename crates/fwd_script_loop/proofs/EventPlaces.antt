-- Events with their places determine the lines that they come from.
use Rattle.std.proofs.Common.{◌≡◌, ℕ, List, [], ◌∷◌, map, refl, ap, ◌∙◌}
use Rattle.fwd_outside.specs.declared.happening.Happening.{Happening}
use Rattle.fwd_outside.specs.Loop.{LoopGiven}
use Rattle.fwd_script.specs.declared.schedule.Given.{Given}
use Rattle.fwd_script.specs.declared.schedule.Planned.{Planned}
use Rattle.fwd_script_loop.specs.declared.queue.Coming.{Coming}
use Rattle.fwd_script_loop.specs.PauseMask.{happening_of, place_of}
use Rattle.fwd_script_loop.specs.Lines.{coming, given_in}

coming_at : ℕ × ℕ → Happening → Coming
coming_at place happening = record { line = place.0; behind = place.1; happening = happening }

same_one : (a b : Coming) → happening_of a ≡ happening_of b → place_of a ≡ place_of b → a ≡ b
unfolding coming_at
same_one a b happening place = ap (λ (p : ℕ × ℕ). coming_at p a.happening) place ∙ ap (λ (h : Happening). coming_at (place_of b) h) happening

pub same_coming : (a b : List Coming) → map happening_of a ≡ map happening_of b → map place_of a ≡ map place_of b → a ≡ b
same_coming [] [] happenings places = refl
same_coming [] (y ∷ b) happenings places = absurd (cc happenings)
same_coming (x ∷ a) [] happenings places = absurd (cc happenings)
same_coming (x ∷ a) (y ∷ b) happenings places =
    let happening : happening_of x ≡ happening_of y = cc happenings in
    let place : place_of x ≡ place_of y = cc places in
    let more : map happening_of a ≡ map happening_of b = cc happenings in
    let more_places : map place_of a ≡ map place_of b = cc places in
    ap (λ (c : Coming). c ∷ a) (same_one x y happening place) ∙ ap (λ (l : List Coming). y ∷ l) (same_coming a b more more_places)

-- the lines and answers of a loop in memory determine its events
pub coming_is : (lines lines2 : List Planned) (answers answers2 : List Given) → given_in lines answers ≡ given_in lines2 answers2 → coming 0 lines ≡ coming 0 lines2
coming_is lines lines2 answers answers2 is =
    same_coming (coming 0 lines) (coming 0 lines2) (ap (λ (g : LoopGiven). g.happenings) is) (ap (λ (g : LoopGiven). g.places) is)
