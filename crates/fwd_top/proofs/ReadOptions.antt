-- The options of a run, word by word.
use Rattle.std.proofs.Common.{◌≡◌, ℕ, ◌-◌, ◌≤◌, List, [], ◌∷◌, length, take, drop, map, get_or, Option, Some, String, Global, string_bytes, refl, sym, ◌∙◌, ap, arith}
use Rattle.std.specs.Prelude.{option_and_then}
use Rattle.std.proofs.lemmas.List.{take_all}
use Rattle.fwd_top.specs.Words.{RunOptions, options_after, with_option}

-- two words, and those after them
two_words : (words : List (String Global)) (name value d e : String Global) → 2 ≤ length words → name ≡ get_or words 0 d → value ≡ get_or words 1 e → words ≡ name ∷ value ∷ take (length words - 2) (drop 2 words)
two_words [] name value d e some first second = absurd (omega (arith, some))
two_words (x ∷ []) name value d e some first second = absurd (omega (arith, some))
two_words (x ∷ y ∷ words) name value d e some first second =
    ap (λ (w : String Global). w ∷ y ∷ words) (sym first) ∙ ap (λ (w : String Global). name ∷ w ∷ words) (sym second) ∙ ap (λ (ws : List (String Global)). name ∷ value ∷ ws) (sym (take_all (length (x ∷ y ∷ words) - 2) words (omega arith)))

-- an option was added, and the others are read
pub option_added : (words : List (String Global)) (name value d e : String Global) (so_far next : RunOptions) (result : Option RunOptions) → 2 ≤ length words → name ≡ get_or words 0 d → value ≡ get_or words 1 e
    → with_option so_far (string_bytes name) (string_bytes value) ≡ Some next → result ≡ options_after next (map string_bytes (take (length words - 2) (drop 2 words))) → result ≡ options_after so_far (map string_bytes words)
option_added words name value d e so_far next result some first second added rest =
    let others : List (List ℕ) = map string_bytes (take (length words - 2) (drop 2 words)) in
    rest ∙ sym (ap (option_and_then (λ options. options_after options others)) added)
    ∙ sym (ap (λ (ws : List (String Global)). options_after so_far (map string_bytes ws)) (two_words words name value d e some first second))
