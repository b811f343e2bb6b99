-- The lines of a schedule, one number after another.
use Rattle.std.proofs.Common.{◌≡◌, ℕ, zero, suc, ◌-◌, ◌<◌, List, [], ◌∷◌, ◌++◌, codes, sym, ◌∙◌, ap, arith}
use Rattle.std.proofs.lemmas.List.Concat.{flat_map-append}
use Rattle.fwd_replay.specs.Load.{ended_line, lines_at, lines_to, schedule_text, text_of}

-- the text up to the lines of a number
abbrev pub so_far : ℕ → List ℕ
so_far number = text_of (codes "joined 0 1" ∷ lines_to number)

next_lines : (number : ℕ) → so_far (suc number) ≡ so_far number ++ text_of (lines_at (suc number))
next_lines number = flat_map-append ended_line (codes "joined 0 1" ∷ lines_to number) (lines_at (suc number))

-- the lines of a number come after those of the numbers before it
pub lines_more : (number : ℕ) (text next : List ℕ) → 0 < number → text ≡ so_far (number - 1) → next ≡ text ++ text_of (lines_at number) → next ≡ so_far number
lines_more zero text next less is then = absurd (omega (arith, less))
lines_more (suc number) text next less is then =
    let same : suc number - 1 ≡ number = omega arith in
    then ∙ ap (λ (l : List ℕ). l ++ text_of (lines_at (suc number))) (is ∙ ap so_far same) ∙ sym (next_lines number)

-- all lines, and the stop
pub lines_all : (number count : ℕ) (text next : List ℕ) → number ≡ count → text ≡ so_far number → next ≡ text ++ codes "stop\n" → next ≡ schedule_text count
unfolding schedule_text
lines_all number count text next same is then =
    then ∙ ap (λ (l : List ℕ). l ++ codes "stop\n") (is ∙ ap so_far same) ∙ sym (flat_map-append ended_line (codes "joined 0 1" ∷ lines_to count) (codes "stop" ∷ []))
