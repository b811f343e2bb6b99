-- The texts of a list's elements.
use Rattle.std.proofs.Common.{◌≡◌, ℕ, suc, ◌+◌, ◌<◌, ◌≤◌, List, [], ◌∷◌, ◌++◌, length, get_or, take, refl, sym, ◌∙◌, ap, append_assoc, arith}
use Rattle.std.specs.List.{zip}
use Rattle.std.proofs.lemmas.List.{take_more, take_all, append-nil, length-take-le}
use Rattle.std.proofs.lemmas.Slice.Zip.{length-zip, get_or-zip}
use Rattle.fwd_pages.specs.Pages.{numbered}

-- one more element at the end
numbered-push : {X : Type 0} (line : ℕ → X → List ℕ) (n : ℕ) (xs : List X) (y : X) → numbered line n (xs ++ y ∷ []) ≡ numbered line n xs ++ line (n + length xs) y
numbered-push line n [] y = let same : n + 0 ≡ n = omega arith in rw same (append-nil (line n y))
numbered-push {X} line n (x ∷ xs) y =
    let same : n + 1 + length xs ≡ n + suc (length xs) = omega arith in
    ap (λ (l : List ℕ). line n x ++ l) (numbered-push line (n + 1) xs y ∙ ap (λ (k : ℕ). numbered line (n + 1) xs ++ line k y) same)
    ∙ sym (append_assoc (line n x) (numbered line (n + 1) xs) (line (n + suc (length xs)) y))

numbered_more : {X : Type 0} (line : ℕ → X → List ℕ) (xs : List X) (i : ℕ) (d : X) (old text next : List ℕ) → i < length xs → text ≡ old ++ numbered line 0 (take i xs)
    → next ≡ text ++ line i (get_or xs i d) → next ≡ old ++ numbered line 0 (take (i + 1) xs)
numbered_more {X} line xs i d old text next within before is =
    let first : length (take i xs) ≡ i = length-take-le i xs (omega (arith, within)) in
    let long : 0 + length (take i xs) ≡ i = omega (arith, first) in
    let more : numbered line 0 (take (i + 1) xs) ≡ numbered line 0 (take i xs) ++ line i (get_or xs i d) =
    ap (numbered line 0) (take_more xs i d within) ∙ numbered-push line 0 (take i xs) (get_or xs i d) ∙ ap (λ (k : ℕ). numbered line 0 (take i xs) ++ line k (get_or xs i d)) long
    in
    is ∙ ap (λ (l : List ℕ). l ++ line i (get_or xs i d)) before ∙ append_assoc old (numbered line 0 (take i xs)) (line i (get_or xs i d)) ∙ ap (λ (l : List ℕ). old ++ l) (sym more)

-- one more name
pub names_more : (line : ℕ → List ℕ → List ℕ) (names : List (List ℕ)) (i : ℕ) (d name old text next : List ℕ) → i < length names → name ≡ get_or names i d → text ≡ old ++ numbered line 0 (take i names)
    → next ≡ text ++ line i name → next ≡ old ++ numbered line 0 (take (i + 1) names)
names_more line names i d name old text next within named before is = numbered_more line names i d old text next within before (is ∙ ap (λ (n : List ℕ). text ++ line i n) named)

pub names_all : (names : List (List ℕ)) (i : ℕ) → length names ≤ i → take i names ≡ names
names_all names i whole = take_all i names whole

-- one more name with its counters
pub pairs_more : {X : Type 0} (line : ℕ → List ℕ → X → List ℕ) (names : List (List ℕ)) (counts : List X) (i : ℕ) (d : List ℕ) (e : X) (name old text next : List ℕ)
    → length counts ≡ length names → i < length names → name ≡ get_or names i d → text ≡ old ++ numbered (λ n (p : List ℕ × X). line n p.0 p.1) 0 (take i (zip names counts))
    → next ≡ text ++ line i name (get_or counts i e) → next ≡ old ++ numbered (λ n (p : List ℕ × X). line n p.0 p.1) 0 (take (i + 1) (zip names counts))
pairs_more {X} line names counts i d e name old text next same within named before is =
    let f : ℕ → List ℕ × X → List ℕ = λ n p. line n p.0 p.1 in
    let long : i < length (zip names counts) = rw (length-zip names counts) (omega (arith, same, within)) in
    let pair : get_or (zip names counts) i (d, e) ≡ (name, get_or counts i e) = get_or-zip names counts i (d, e) within (omega (arith, same, within)) ∙ ap (λ (n : List ℕ). (n, get_or counts i e)) (sym named) in
    numbered_more f (zip names counts) i (d, e) old text next long before (is ∙ ap (λ (p : List ℕ × X). text ++ f i p) (sym pair))

pub pairs_all : {X : Type 0} (names : List (List ℕ)) (counts : List X) (i : ℕ) → length counts ≡ length names → length names ≤ i → take i (zip names counts) ≡ zip names counts
pairs_all names counts i same whole = take_all i (zip names counts) (rw (length-zip names counts) (omega (arith, same, whole)))

-- two lists between three texts
pub two_lists : (first one middle two last : List ℕ) → (((([] ++ first) ++ one) ++ middle) ++ two) ++ last ≡ first ++ one ++ middle ++ two ++ last
two_lists first one middle two last = simp append_assoc refl
