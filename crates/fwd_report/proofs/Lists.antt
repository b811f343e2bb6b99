-- Lists of lines.
use Rattle.std.proofs.Common.{◌≡◌, ℕ, ◌+◌, ◌<◌, ◌≤◌, List, [], ◌∷◌, ◌++◌, length, get_or, take, sym, ◌∙◌, ap, append_assoc, arith}
use Rattle.std.specs.List.{flat_map, zip}
use Rattle.std.proofs.lemmas.List.{take_more, take_all, append-nil}
use Rattle.std.proofs.lemmas.List.Concat.{flat_map-append, flat_map-cons}
use Rattle.std.proofs.lemmas.Slice.Zip.{length-zip, get_or-zip}

-- one more line
pub lines_more : {X : Type 0} (f : X → List ℕ) (xs : List X) (i : ℕ) (d : X) → i < length xs → flat_map f (take (i + 1) xs) ≡ flat_map f (take i xs) ++ f (get_or xs i d)
lines_more f xs i d within =
    ap (flat_map f) (take_more xs i d within) ∙ flat_map-append f (take i xs) (get_or xs i d ∷ [])
    ∙ ap (λ (l : List ℕ). flat_map f (take i xs) ++ l) (flat_map-cons f (get_or xs i d) [] ∙ append-nil (f (get_or xs i d)))

-- one more line of names and their counters
pub pairs_more : {X : Type 0} (line : List ℕ → X → List ℕ) (names : List (List ℕ)) (counts : List X) (i : ℕ) (d : List ℕ) (e : X) (name old text next : List ℕ)
    → length counts ≡ length names → i < length names → name ≡ get_or names i d → text ≡ old ++ flat_map (λ (p : List ℕ × X). line p.0 p.1) (take i (zip names counts))
    → next ≡ text ++ line name (get_or counts i e) → next ≡ old ++ flat_map (λ (p : List ℕ × X). line p.0 p.1) (take (i + 1) (zip names counts))
pairs_more {X} line names counts i d e name old text next same within named before is =
    let f : List ℕ × X → List ℕ = λ p. line p.0 p.1 in
    let long : i < length (zip names counts) = rw (length-zip names counts) (omega (arith, same, within)) in
    let pair : get_or (zip names counts) i (d, e) ≡ (name, get_or counts i e) = get_or-zip names counts i (d, e) within (omega (arith, same, within)) ∙ ap (λ (n : List ℕ). (n, get_or counts i e)) (sym named) in
    let more : flat_map f (take (i + 1) (zip names counts)) ≡ flat_map f (take i (zip names counts)) ++ line name (get_or counts i e) =
    lines_more f (zip names counts) i (d, e) long ∙ ap (λ (p : List ℕ × X). flat_map f (take i (zip names counts)) ++ f p) pair
    in
    is ∙ ap (λ (l : List ℕ). l ++ line name (get_or counts i e)) before
    ∙ append_assoc old (flat_map f (take i (zip names counts))) (line name (get_or counts i e))
    ∙ ap (λ (l : List ℕ). old ++ l) (sym more)

-- all of them
pub pairs_all : {X : Type 0} (names : List (List ℕ)) (counts : List X) (i : ℕ) → length counts ≡ length names → length names ≤ i → take i (zip names counts) ≡ zip names counts
pairs_all names counts i same whole = take_all i (zip names counts) (rw (length-zip names counts) (omega (arith, same, whole)))
