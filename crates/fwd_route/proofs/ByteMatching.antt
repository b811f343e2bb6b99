-- Glob matching, byte by byte.
use Rattle.std.proofs.Common.{◌≡◌, ◌≢◌, ◌⊎◌, inl, inr, ◌↔◌, ℕ, ◌≤◌, Bool, true, false, eqb, List, [], ◌∷◌, ◌++◌, length, length-append, append_assoc, refl, sym, ap, subst, ◌∙◌, arith}
use Rattle.std.proofs.lemmas.Bool.{eqb-true, eqb-false}
use Rattle.fwd_route.specs.NextStep.{IsSuffix}
use Rattle.fwd_route.specs.Glob.{Glob, Plain, Star, HasNoStar}

abbrev pub MatchesBytes : Bool → ℕ → (List ℕ → Type 0) → List ℕ → Type 0
MatchesBytes true byte behind text = (run end : List ℕ) × (text ≡ run ++ end) × behind end
MatchesBytes false byte behind text = (end : List ℕ) × (text ≡ byte ∷ end) × behind end

-- the pattern matches the text, from its beginning on
abbrev pub Fits : List ℕ → List ℕ → Type 0
Fits [] text = text ≡ []
Fits (byte ∷ pattern) text = MatchesBytes (eqb byte 42) byte (Fits pattern) text

star_fits : (pattern run end : List ℕ) → Fits pattern end → Fits (42 ∷ pattern) (run ++ end)
star_fits pattern run end fits = (run, end, refl, fits)

-- a byte before both
byte_glob : (byte : ℕ) (pattern tag : List ℕ) → byte ≢ 42 → Glob pattern tag → Glob (byte ∷ pattern) (byte ∷ tag)
byte_glob byte pattern tag plain (Plain p t none is) = Plain _ _ (plain, none) (ap (λ (l : List ℕ). byte ∷ l) is)
byte_glob byte pattern tag plain (Star p t before behind front run end is is2 g h) =
    Star _ _ (byte ∷ before) behind (byte ∷ front) run end (ap (λ (l : List ℕ). byte ∷ l) is) (ap (λ (l : List ℕ). byte ∷ l) is2) (byte_glob byte before front plain g) h

nothing : Glob [] []
nothing = Plain [] [] tt refl

glob_by : (b : Bool) (byte : ℕ) → eqb byte 42 ≡ b → (pattern text : List ℕ) → ((end : List ℕ) → Fits pattern end → Glob pattern end) → MatchesBytes b byte (Fits pattern) text → Glob (byte ∷ pattern) text
glob_by true byte is pattern text rest fits =
    Star _ _ [] pattern [] fits.0 fits.1 (ap (λ (b : ℕ). b ∷ pattern) (eqb-true byte 42 is)) fits.2 nothing (rest fits.1 fits.3)
glob_by false byte is pattern text rest fits =
    subst (λ (t : List ℕ). Glob (byte ∷ pattern) t) (sym fits.1) (byte_glob byte pattern fits.0 (eqb-false byte 42 is) (rest fits.0 fits.2))

pub glob_from_fits : (pattern text : List ℕ) → Fits pattern text → Glob pattern text
glob_from_fits [] text fits = Plain [] text tt (sym fits)
glob_from_fits (byte ∷ pattern) text fits = glob_by (eqb byte 42) byte refl pattern text (glob_from_fits pattern) fits

plain_by : (b : Bool) (byte : ℕ) → eqb byte 42 ≡ b → byte ≢ 42 → (pattern : List ℕ) → Fits pattern pattern → MatchesBytes b byte (Fits pattern) (byte ∷ pattern)
plain_by true byte is plain pattern fits = absurd (plain (eqb-true byte 42 is))
plain_by false byte is plain pattern fits = (pattern, refl, fits)

plain_fits : (pattern : List ℕ) → HasNoStar pattern → Fits pattern pattern
plain_fits [] none = refl
plain_fits (byte ∷ pattern) none = plain_by (eqb byte 42) byte refl none.0 pattern (plain_fits pattern none.1)

append_by : (b : Bool) (byte : ℕ) (q p u t : List ℕ) → ((v : List ℕ) → Fits q v → Fits (q ++ p) (v ++ t)) → MatchesBytes b byte (Fits q) u → MatchesBytes b byte (Fits (q ++ p)) (u ++ t)
append_by true byte q p u t rest fits = (fits.0, fits.1 ++ t, ap (λ (l : List ℕ). l ++ t) fits.2 ∙ append_assoc fits.0 fits.1 t, rest fits.1 fits.3)
append_by false byte q p u t rest fits = (fits.0 ++ t, ap (λ (l : List ℕ). l ++ t) fits.1, rest fits.0 fits.2)

-- one pattern after another
pub fits_append : (q p u t : List ℕ) → Fits q u → Fits p t → Fits (q ++ p) (u ++ t)
fits_append [] p u t fits more = subst (λ (l : List ℕ). Fits p (l ++ t)) (sym fits) more
fits_append (byte ∷ q) p u t fits more = append_by (eqb byte 42) byte q p u t (λ v f. fits_append q p v t f more) fits

pub fits_from_glob : (pattern text : List ℕ) → Glob pattern text → Fits pattern text
fits_from_glob pattern text (Plain p t none is) = subst (λ (l : List ℕ). Fits pattern l) is (plain_fits pattern none)
fits_from_glob pattern text (Star p t before behind front run end is is2 g h) =
    subst (λ (l : List ℕ). Fits l text) (sym is)
    (subst (λ (l : List ℕ). Fits (before ++ 42 ∷ behind) l) (sym is2)
    (fits_append before (42 ∷ behind) front (run ++ end) (fits_from_glob before front g) (run, end, refl, fits_from_glob behind end h)))

-- ---- how a glob and a text continue

pub star_same : (pattern text : List ℕ) → Fits (42 ∷ pattern) text → (run end : List ℕ) × (text ≡ run ++ end) × Fits pattern end
star_same pattern text fits = fits

same_by : (b : Bool) (byte : ℕ) → eqb byte 42 ≡ b → byte ≢ 42 → (pattern text : List ℕ) → MatchesBytes b byte (Fits pattern) text → (end : List ℕ) × (text ≡ byte ∷ end) × Fits pattern end
same_by true byte is plain pattern text fits = absurd (plain (eqb-true byte 42 is))
same_by false byte is plain pattern text fits = fits

-- a byte that isn't a star matches itself
pub byte_fits : (byte : ℕ) (pattern text : List ℕ) → byte ≢ 42 → Fits (byte ∷ pattern) text → (end : List ℕ) × (text ≡ byte ∷ end) × Fits pattern end
byte_fits byte pattern text plain fits = same_by (eqb byte 42) byte refl plain pattern text fits

pub fits_byte : (byte : ℕ) (pattern text : List ℕ) → byte ≢ 42 → Fits pattern text → Fits (byte ∷ pattern) (byte ∷ text)
fits_byte byte pattern text plain fits = fits_append (byte ∷ []) pattern (byte ∷ []) text (plain_fits (byte ∷ []) (plain, tt)) fits

-- ---- resuming at a star

-- a star may match one byte more
abbrev pub Later : List ℕ → List ℕ → Type 0
Later behind from = (byte : ℕ) × (rest : List ℕ) × (from ≡ byte ∷ rest) × Fits (42 ∷ behind) rest

-- a star matches nothing, or at least one byte
pub star_or_later : (behind text : List ℕ) → Fits (42 ∷ behind) text ↔ (Fits behind text ⊎ Later behind text)
star_or_later behind text = (there text, back text)
  where
    by_run : (text run end : List ℕ) → text ≡ run ++ end → Fits behind end → Fits behind text ⊎ Later behind text
    by_run text [] end is fits = inl (subst (λ (l : List ℕ). Fits behind l) (sym is) fits)
    by_run text (x ∷ run) end is fits = inr (x, run ++ end, is, (run, end, refl, fits))

    there : (text : List ℕ) → Fits (42 ∷ behind) text → Fits behind text ⊎ Later behind text
    there text fits = by_run text fits.0 fits.1 fits.2 fits.3

    back : (text : List ℕ) → Fits behind text ⊎ Later behind text → Fits (42 ∷ behind) text
    back text (inl fits) = ([], text, refl, fits)
    back text (inr later) = (later.0 ∷ later.3.0, later.3.1, later.2 ∙ ap (λ (l : List ℕ). later.0 ∷ l) later.3.2, later.3.3)

-- the text that a pattern without a star matches
fits_front : (m p text : List ℕ) → HasNoStar m → Fits (m ++ p) text → (end : List ℕ) × (text ≡ m ++ end) × Fits p end
fits_front [] p text none fits = (text, refl, fits)
fits_front (byte ∷ m) p text none fits =
    let first = byte_fits byte (m ++ p) text none.0 fits in
    let rest = fits_front m p first.0 none.1 first.2 in
    (rest.0, first.1 ∙ ap (λ (l : List ℕ). byte ∷ l) rest.1, rest.2)

-- a suffix of two lists that isn't longer than the second is a suffix of the second
end_of : (m t z e : List ℕ) → m ++ t ≡ z ++ e → length e ≤ length t → (y : List ℕ) × (t ≡ y ++ e)
end_of [] t z e is le = (z, is)
end_of (x ∷ m) t [] e is le = absurd (omega (arith, ap length is, length-append m t))
end_of (x ∷ m) t (w ∷ z) e is le = end_of m t z e (cc is) le

-- a match found by resuming at an earlier star is found from the later one too
pub later_linked : (m p t : List ℕ) → HasNoStar m → Later (m ++ 42 ∷ p) (m ++ t) → Fits (42 ∷ p) t
later_linked m p t none later =
    let star = star_same (m ++ 42 ∷ p) later.1 later.3 in
    let front = fits_front m (42 ∷ p) star.1 none star.3 in
    let next = star_same p front.0 front.2 in
    let whole : m ++ t ≡ ((later.0 ∷ star.0) ++ (m ++ next.0)) ++ next.1 = later.2 ∙ ap (λ (l : List ℕ). later.0 ∷ l) (star.2 ∙ ap (λ (l : List ℕ). star.0 ++ l) (front.1 ∙ ap (λ (l : List ℕ). m ++ l) next.2 ∙ sym (append_assoc m next.0 next.1)) ∙ sym (append_assoc star.0 (m ++ next.0) next.1)) in
    let short : length next.1 ≤ length t =
    omega (arith, ap length whole, length-append m t, length-append ((later.0 ∷ star.0) ++ (m ++ next.0)) next.1, length-append (later.0 ∷ star.0) (m ++ next.0), length-append m next.0) in
    let reached = end_of m t ((later.0 ∷ star.0) ++ (m ++ next.0)) next.1 whole short in
    (reached.0, next.1, reached.1, next.3)

-- a text that doesn't begin with the first byte of the pattern doesn't match
pub other_byte : (whole text : List ℕ) (byte : ℕ) (behind : List ℕ) → whole ≡ byte ∷ behind → byte ≢ 42 → ((end : List ℕ) → text ≡ byte ∷ end → ⊥) → Glob whole text → ⊥
other_byte whole text byte behind is plain other glob =
    let fits = byte_fits byte behind text plain (subst (λ (l : List ℕ). Fits l text) is (fits_from_glob whole text glob)) in
    other fits.0 fits.1

-- the text that a pattern without a star matches
plain_is : (pattern text : List ℕ) → HasNoStar pattern → Fits pattern text → text ≡ pattern
plain_is [] text none fits = fits
plain_is (byte ∷ pattern) text none fits =
    let first = byte_fits byte pattern text none.0 fits in
    first.1 ∙ ap (λ (l : List ℕ). byte ∷ l) (plain_is pattern first.0 none.1 first.2)

-- a star without another after it matches if the rest is a suffix
pub last_star : (behind text : List ℕ) → HasNoStar behind → Fits (42 ∷ behind) text ↔ IsSuffix behind text
last_star behind text none = (there, back)
  where
    there : Fits (42 ∷ behind) text → IsSuffix behind text
    there fits =
        let star = star_same behind text fits in
        (star.0, star.2 ∙ ap (λ (l : List ℕ). star.0 ++ l) (plain_is behind star.1 none star.3))

    back : IsSuffix behind text → Fits (42 ∷ behind) text
    back end = (end.0, behind, end.1, plain_fits behind none)
