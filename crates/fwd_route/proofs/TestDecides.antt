-- The computable test of globs decides which match.
use Rattle.std.proofs.Common.{◌≡◌, ◌≢◌, ◌↔◌, ℕ, Bool, true, false, eqb, List, [], ◌∷◌, ◌++◌, refl, sym, ap, subst, ◌∙◌}
use Rattle.std.specs.Prelude.{◌||◌, ◌&&◌, if◌then◌else◌}
use Rattle.std.proofs.lemmas.Bool.{eqb-true, eqb-false}
use Rattle.fwd_route.specs.Glob.{Glob}
use Rattle.fwd_route.specs.GlobTest.{globs, some_suffix, after_byte, is_empty, TestDecidesGlobs}
use Rattle.fwd_route.proofs.ByteMatching.{Fits, MatchesBytes, glob_from_fits, fits_from_glob}

abbrev HasEnd : (List ℕ → Bool) → List ℕ → Type 0
HasEnd test text = (run end : List ℕ) × (text ≡ run ++ end) × (test end ≡ true)

end_by : (v : Bool) (test : List ℕ → Bool) (byte : ℕ) (text : List ℕ) → test (byte ∷ text) ≡ v → (v || some_suffix test text) ≡ true → (some_suffix test text ≡ true → HasEnd test text) → HasEnd test (byte ∷ text)
end_by true test byte text is some more = ([], byte ∷ text, refl, is)
end_by false test byte text is some more = let found = more some in (byte ∷ found.0, found.1, ap (λ (l : List ℕ). byte ∷ l) found.2, found.3)

has_end : (test : List ℕ → Bool) (text : List ℕ) → some_suffix test text ≡ true → HasEnd test text
has_end test [] is = ([], [], refl, is)
has_end test (byte ∷ text) is = end_by (test (byte ∷ text)) test byte text refl is (has_end test text)

at_front : (test : List ℕ → Bool) (text : List ℕ) → test text ≡ true → some_suffix test text ≡ true
at_front test [] is = is
at_front test (byte ∷ text) is = rw is refl

or_right : (v : Bool) → (v || true) ≡ true
or_right true = refl
or_right false = refl

behind_run : (test : List ℕ → Bool) (run end : List ℕ) → test end ≡ true → some_suffix test (run ++ end) ≡ true
behind_run test [] end is = at_front test end is
behind_run test (byte ∷ run) end is = rw (behind_run test run end is) (or_right (test (byte ∷ run ++ end)))

empty_is : (text : List ℕ) → is_empty text ≡ true → text ≡ []
empty_is [] is = refl
empty_is (byte ∷ text) is = absurd (cc is)

fits_by : (b : Bool) (byte : ℕ) (glob text : List ℕ) → eqb byte 42 ≡ b → ((end : List ℕ) → globs glob end ≡ true → Fits glob end) → (if b then some_suffix (globs glob) else after_byte byte (globs glob)) text ≡ true → MatchesBytes b byte (Fits glob) text
fits_by true byte glob text star rest is = let found = has_end (globs glob) text is in (found.0, found.1, found.2, rest found.1 found.3)
fits_by false byte glob [] star rest is = absurd (cc is)
fits_by false byte glob (first ∷ text) star rest is = same (eqb first byte) refl is
  where
    same : (v : Bool) → eqb first byte ≡ v → (v && globs glob text) ≡ true → MatchesBytes false byte (Fits glob) (first ∷ text)
    same true eq more = (text, ap (λ (b : ℕ). b ∷ text) (eqb-true first byte eq), rest text more)
    same false eq more = absurd (cc more)

fits_where : (glob text : List ℕ) → globs glob text ≡ true → Fits glob text
fits_where [] text is = empty_is text is
fits_where (byte ∷ glob) text is = fits_by (eqb byte 42) byte glob text refl (fits_where glob) is

eqb_refl : (n : ℕ) → eqb n n ≡ true
eqb_refl n = decide (eqb n n) refl
  where
    decide : (v : Bool) → eqb n n ≡ v → eqb n n ≡ true
    decide true is = is
    decide false is = absurd (eqb-false n n is refl)

tells_by : (b : Bool) (byte : ℕ) (glob text : List ℕ) → ((end : List ℕ) → Fits glob end → globs glob end ≡ true) → MatchesBytes b byte (Fits glob) text → (if b then some_suffix (globs glob) else after_byte byte (globs glob)) text ≡ true
tells_by true byte glob text rest fits = subst (λ (t : List ℕ). some_suffix (globs glob) t ≡ true) (sym fits.2) (behind_run (globs glob) fits.0 fits.1 (rest fits.1 fits.3))
tells_by false byte glob text rest fits =
    let more = rest fits.0 fits.2 in
    subst (λ (t : List ℕ). after_byte byte (globs glob) t ≡ true) (sym fits.1) (rw (eqb_refl byte, more) refl)

tells_where : (glob text : List ℕ) → Fits glob text → globs glob text ≡ true
tells_where [] text fits = subst (λ (t : List ℕ). is_empty t ≡ true) (sym fits) refl
tells_where (byte ∷ glob) text fits = tells_by (eqb byte 42) byte glob text (tells_where glob) fits

pub globs_tell : TestDecidesGlobs
globs_tell glob tag = (λ is. glob_from_fits glob tag (fits_where glob tag is), λ g. tells_where glob tag (fits_from_glob glob tag g))
