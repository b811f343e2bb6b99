-- The invariant of the scan of a tag: the glob matches the tag exactly if the rest matches, or a later
-- position to resume at.
use Rattle.std.proofs.Common.{◌≡◌, ◌≢◌, ◌⊎◌, inl, inr, ◌↔◌, ℕ, ◌+◌, ◌*◌, ◌<◌, ◌≤◌, Option, Some, None, List, [], ◌∷◌, ◌++◌, length, length-append, append_assoc, refl, sym, ap, subst, ◌∙◌, arith}
use Rattle.std.proofs.Math.Nat.{mul-le-mul_right}
use Rattle.fwd_route.specs.NextStep.{IsSuffix}
use Rattle.fwd_route.specs.Glob.{Glob, HasNoStar}
use Rattle.fwd_route.specs.declared.Back.{Back}
use Rattle.fwd_route.proofs.ByteMatching.{Fits, Later, glob_from_fits, fits_from_glob, star_or_later, last_star, later_linked, byte_fits, fits_byte}

-- the last star before the scan may match more
abbrev pub MayResume : Option Back → Type 0
MayResume None = ⊥
MayResume (Some back) = Later back.behind.now back.from.now

-- since its last star, the scan has passed the same bytes in the glob and in the tag
abbrev pub HasPassed : Option Back → List ℕ → List ℕ → Type 0
HasPassed None glob text = Unit {0}
HasPassed (Some back) glob text = (passed : List ℕ) × HasNoStar passed × (back.behind.now ≡ passed ++ glob) × (back.from.now ≡ passed ++ text)

-- the number of bytes of the tag left to the last star
abbrev pub left : ℕ → Option Back → ℕ
left all None = all + 1
left all (Some back) = length back.from.now

abbrev pub IsWithin : ℕ → Option Back → Type 0
IsWithin all None = Unit {0}
IsWithin all (Some back) = length back.behind.now ≤ all

abbrev pub IsPart : ℕ → Option Back → Type 0
IsPart all None = Unit {0}
IsPart all (Some back) = length back.from.now ≤ all

pub record Scan (pattern tag : List ℕ) (back : Option Back) (glob text : List ℕ) : Type 0 where
  pub there : Fits pattern tag → Fits glob text ⊎ MayResume back
  pub here : Fits glob text → Fits pattern tag
  pub later : MayResume back → Fits pattern tag
  pub passed : HasPassed back glob text
  pub short : length glob ≤ length pattern
  pub part : length text ≤ length tag
  pub within : IsWithin (length pattern) back
  pub around : IsPart (length tag) back

pub scan_starts : (pattern tag : List ℕ) → Scan pattern tag None pattern tag
scan_starts pattern tag = record { there = λ fits. inl fits; here = λ fits. fits; later = λ none. absurd none; passed = tt; short = omega arith; part = omega arith; within = tt; around = tt }

-- ---- a star

-- a match found from an earlier star is found from this one
star_later : (back : Option Back) (behind text : List ℕ) → HasPassed back (42 ∷ behind) text → MayResume back → Fits (42 ∷ behind) text
star_later None behind text passed later = absurd later
star_later (Some back) behind text passed later =
    later_linked passed.0 behind text passed.1
    (subst (λ (l : List ℕ). Later l (passed.0 ++ text)) passed.2
    (subst (λ (l : List ℕ). Later back.behind.now l) passed.3 later))

star_there : (back : Option Back) (behind text : List ℕ) → HasPassed back (42 ∷ behind) text → Fits (42 ∷ behind) text ⊎ MayResume back → Fits behind text ⊎ Later behind text
star_there back behind text passed (inl fits) = (star_or_later behind text).0 fits
star_there back behind text passed (inr later) = (star_or_later behind text).0 (star_later back behind text passed later)

pub scan_star : (pattern tag : List ℕ) (back : Option Back) (glob : List ℕ) (new : Back) → Scan pattern tag back glob new.from.now → glob ≡ 42 ∷ new.behind.now → Scan pattern tag (Some new) new.behind.now new.from.now
scan_star pattern tag back glob new scan is =
    let at : Scan pattern tag back (42 ∷ new.behind.now) new.from.now = subst (λ (l : List ℕ). Scan pattern tag back l new.from.now) is scan in
    let short : length new.behind.now ≤ length pattern = omega (arith, at.short) in
    record {
      there = λ fits. star_there back new.behind.now new.from.now at.passed (at.there fits);
      here = λ fits. at.here ((star_or_later new.behind.now new.from.now).1 (inl fits));
      later = λ later. at.here ((star_or_later new.behind.now new.from.now).1 (inr later));
      passed = ([], tt, refl, refl);
      short = short;
      part = at.part;
      within = short;
      around = at.part;
    }

-- after the last star of the glob, only the end of the tag decides
pub scan_end : (pattern tag : List ℕ) (back : Option Back) (glob behind text : List ℕ) → Scan pattern tag back glob text → glob ≡ 42 ∷ behind → HasNoStar behind → Glob pattern tag ↔ IsSuffix behind text
scan_end pattern tag back glob behind text scan is none = (there, ends)
  where
    at : Scan pattern tag back (42 ∷ behind) text
    at = subst (λ (l : List ℕ). Scan pattern tag back l text) is scan

    by : Fits (42 ∷ behind) text ⊎ MayResume back → Fits (42 ∷ behind) text
    by (inl fits) = fits
    by (inr later) = star_later back behind text at.passed later

    there : Glob pattern tag → IsSuffix behind text
    there matched = (last_star behind text none).0 (by (at.there (fits_from_glob pattern tag matched)))

    ends : IsSuffix behind text → Glob pattern tag
    ends end = glob_from_fits pattern tag (at.here ((last_star behind text none).1 end))

-- ---- a byte of both

no_star_more : (passed : List ℕ) (byte : ℕ) → HasNoStar passed → byte ≢ 42 → HasNoStar (passed ++ byte ∷ [])
no_star_more [] byte none plain = (plain, tt)
no_star_more (x ∷ passed) byte none plain = (none.0, no_star_more passed byte none.1 plain)

passed_more : (back : Option Back) (byte : ℕ) (glob text : List ℕ) → byte ≢ 42 → HasPassed back (byte ∷ glob) (byte ∷ text) → HasPassed back glob text
passed_more None byte glob text plain passed = tt
passed_more (Some back) byte glob text plain passed =
    (passed.0 ++ byte ∷ [], no_star_more passed.0 byte passed.1 plain, passed.2 ∙ sym (append_assoc passed.0 (byte ∷ []) glob), passed.3 ∙ sym (append_assoc passed.0 (byte ∷ []) text))

byte_there : (back : Option Back) (byte : ℕ) (glob text : List ℕ) → byte ≢ 42 → Fits (byte ∷ glob) (byte ∷ text) ⊎ MayResume back → Fits glob text ⊎ MayResume back
byte_there back byte glob text plain (inl fits) =
    let first = byte_fits byte glob (byte ∷ text) plain fits in
    let same : text ≡ first.0 = cc (first.1) in
    inl (subst (λ (l : List ℕ). Fits glob l) (sym same) first.2)
byte_there back byte glob text plain (inr later) = inr later

pub scan_byte : (pattern tag : List ℕ) (back : Option Back) (glob text : List ℕ) (byte : ℕ) (glob_rest text_rest : List ℕ) → Scan pattern tag back glob text → byte ≢ 42 → glob ≡ byte ∷ glob_rest → text ≡ byte ∷ text_rest → Scan pattern tag back glob_rest text_rest
scan_byte pattern tag back glob text byte glob_rest text_rest scan plain is is2 =
    let at : Scan pattern tag back (byte ∷ glob_rest) (byte ∷ text_rest) = subst (λ (l : List ℕ). Scan pattern tag back (byte ∷ glob_rest) l) is2 (subst (λ (l : List ℕ). Scan pattern tag back l text) is scan) in
    record {
      there = λ fits. byte_there back byte glob_rest text_rest plain (at.there fits);
      here = λ fits. at.here (fits_byte byte glob_rest text_rest plain fits);
      later = at.later;
      passed = passed_more back byte glob_rest text_rest plain at.passed;
      short = omega (arith, at.short);
      part = omega (arith, at.part);
      within = at.within;
      around = at.around;
    }

-- ---- resuming at a star

back_there : (back : Back) (glob text : List ℕ) (first : ℕ) (rest : List ℕ) → (Glob glob text → ⊥) → back.from.now ≡ first ∷ rest → Fits glob text ⊎ Later back.behind.now back.from.now → Fits back.behind.now rest ⊎ Later back.behind.now rest
back_there back glob text first rest other is (inl fits) = absurd (other (glob_from_fits glob text fits))
back_there back glob text first rest other is (inr later) =
    let same : later.1 ≡ rest = cc (is, later.2) in
    (star_or_later back.behind.now rest).0 (subst (λ (l : List ℕ). Fits (42 ∷ back.behind.now) l) same later.3)

pub scan_back : (pattern tag : List ℕ) (back : Back) (glob text : List ℕ) (first : ℕ) (new : Back) → Scan pattern tag (Some back) glob text → (Glob glob text → ⊥) → back.from.now ≡ first ∷ new.from.now → new.behind.now ≡ back.behind.now → Scan pattern tag (Some new) new.behind.now new.from.now
scan_back pattern tag back glob text first new scan other is same =
    let on : Fits pattern tag → Fits new.behind.now new.from.now ⊎ Later new.behind.now new.from.now =
    λ fits. subst (λ (l : List ℕ). Fits l new.from.now ⊎ Later l new.from.now) (sym same) (back_there back glob text first new.from.now other is (scan.there fits)) in
    let to : Fits (42 ∷ new.behind.now) new.from.now → Fits pattern tag =
    λ fits. scan.later (first, new.from.now, is, subst (λ (l : List ℕ). Fits (42 ∷ l) new.from.now) same fits) in
    let short : length new.behind.now ≤ length pattern = omega (arith, scan.within, ap length same) in
    let part : length new.from.now ≤ length tag = omega (arith, scan.around, ap length is) in
    record {
      there = on;
      here = λ fits. to ((star_or_later new.behind.now new.from.now).1 (inl fits));
      later = λ later. to ((star_or_later new.behind.now new.from.now).1 (inr later));
      passed = ([], tt, refl, refl);
      short = short;
      part = part;
      within = short;
      around = part;
    }

-- ---- the end

pub scan_over : (pattern tag : List ℕ) (back : Option Back) (glob text : List ℕ) → Scan pattern tag back glob text → glob ≡ [] → text ≡ [] → Glob pattern tag
scan_over pattern tag back glob text scan is is2 =
    glob_from_fits pattern tag (scan.here (subst (λ (l : List ℕ). Fits l text) (sym is) is2))

nothing_left : (back : Option Back) (glob text : List ℕ) → (Glob glob text → ⊥) → (MayResume back → ⊥) → Fits glob text ⊎ MayResume back → ⊥
nothing_left back glob text other none (inl fits) = other (glob_from_fits glob text fits)
nothing_left back glob text other none (inr later) = none later

-- if neither continues, the tag doesn't match
pub scan_fails : (pattern tag : List ℕ) (back : Option Back) (glob text : List ℕ) → Scan pattern tag back glob text → (Glob glob text → ⊥) → (MayResume back → ⊥) → Glob pattern tag → ⊥
scan_fails pattern tag back glob text scan other none matched =
    nothing_left back glob text other none (scan.there (fits_from_glob pattern tag matched))

-- at the end of the tag a star matches no more
pub at_the_end : (back : Option Back) (old : Back) → back ≡ Some old → length old.from.now ≡ 0 → MayResume back → ⊥
at_the_end back old is none later =
    let at : Later old.behind.now old.from.now = subst MayResume is later in
    omega (arith, none, ap length at.2)

-- ---- the scan ends

star_left : (all : ℕ) (back : Option Back) (glob text : List ℕ) → HasPassed back glob text → length text ≤ all → length text ≤ left all back
star_left all None glob text passed part = omega arith
star_left all (Some back) glob text passed part = omega (arith, ap length passed.3, length-append passed.0 text)

pub star_smaller : (pattern tag : List ℕ) (back : Option Back) (glob behind text : List ℕ) → Scan pattern tag back glob text → glob ≡ 42 ∷ behind → length text * (length pattern + 1) + length behind < left (length tag) back * (length pattern + 1) + length glob
star_smaller pattern tag back glob behind text scan is =
    let less : length text ≤ left (length tag) back = star_left (length tag) back glob text scan.passed scan.part in
    let product = mul-le-mul_right (length pattern + 1) less in
    omega (arith, product, ap length is)

pub back_smaller : (pattern behind : List ℕ) (from rest : List ℕ) (first : ℕ) (glob : List ℕ) → from ≡ first ∷ rest → length behind ≤ length pattern → length rest * (length pattern + 1) + length behind < length from * (length pattern + 1) + length glob
back_smaller pattern behind from rest first glob is within =
    let more : length from ≡ length rest + 1 = omega (arith, ap length is) in
    rw more (omega arith)
