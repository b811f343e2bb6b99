-- A byte that is written inside a file, and what holds of a disk that earlier calls may have left.
use Rattle.std.proofs.Common.{◌≡◌, ◌≢◌, ◌⊎◌, inl, inr, ℕ, ◌+◌, ◌<◌, ◌≤◌, Bool, true, false, IsTrue, Some, List, [], ◌∷◌, length, get_or, refl, sym, ◌∙◌, ap, subst, arith, add-zero}
use Rattle.std.proofs.lemmas.Bool.{cases_lt}
use Rattle.fwd_outside.specs.Disk.{DiskLog}
use Rattle.fwd_outside.specs.File.{FileState, InDoubt, FileInvariant, IsPostCrashContent, IsPostCrash, whole, overwritten, after_write}
use Rattle.fwd_outside.specs.DiskStates.{Files, CanWrite, initial_files}
use Rattle.fwd_outside.specs.PostCrash.{DiffersAtMostAt, DiskSince, DiskAfter}
use Rattle.fwd_outside.proofs.KeepsBytes.{length-overwritten, get_or-overwritten, get_or-overwritten_in, only_post_crash}
use Rattle.fwd_outside.proofs.Invariant.{AllInvariant, sound_written, invariant_initial, invariant_reached}

pub beside : (i at : ℕ) → i ≢ at → (i < at) ⊎ (at + 1 ≤ i)
beside i at ne = by (cases_lt i at) (cases_lt at i)
  where
    by : (i < at) ⊎ (at ≤ i) → (at < i) ⊎ (i ≤ at) → (i < at) ⊎ (at + 1 ≤ i)
    by (inl lt) b = inl lt
    by (inr le) (inl lt) = inr (omega (arith, lt))
    by (inr le) (inr le2) = absurd (ne (omega (arith, le, le2)))

module _ (s : FileState) (at : ℕ) (left image : List ℕ) (sound : FileInvariant s) (lt : at < length s.bytes) (le : length left ≤ 1) (is : IsPostCrashContent (after_write s at 1 left) image) where
  -- any other offset is in doubt now only if it was before
  no : (i : ℕ) → (i < at) ⊎ (at + 1 ≤ i) → (InDoubt s.doubt i → ⊥) → InDoubt ((at, at + 1) ∷ s.doubt) i → ⊥
  no i (inl b) none (inl range) = omega (arith, b, range.0)
  no i (inr b) none (inl range) = omega (arith, b, range.1)
  no i b none (inr old) = none old

  short : (i : ℕ) → (i < at) ⊎ (at + 1 ≤ i) → (i < at) ⊎ (at + length left ≤ i)
  short i (inl b) = inl b
  short i (inr b) = inr (omega (arith, b, le))

  same_beside : (i : ℕ) → i < s.synced → (i < at) ⊎ (at + 1 ≤ i) → (InDoubt s.doubt i → ⊥) → get_or image i 0 ≡ get_or s.bytes i 0
  same_beside i below b none = is.same i below (no i b none) ∙ get_or-overwritten s.bytes at left i (omega (arith, lt)) (short i b)

  long : length image ≤ s.reached
  long = omega (arith, is.no_longer, lt, sound.reached)

  abbrev old_byte : List ℕ
  old_byte = get_or s.bytes at 0 ∷ []

  put_back : at < length image → (before : List ℕ) × IsPostCrashContent s before × DiffersAtMostAt at image before
  put_back inside =
      let before = overwritten image at old_byte in
      let as_long : length before ≡ length image = length-overwritten image at old_byte (omega (arith, inside)) ∙ omega (arith, inside) in (
        before,
        record { no_shorter = omega (arith, is.no_shorter, as_long); no_longer = omega (arith, long, as_long); same = λ i below none. at_each i below none (cases_lt i at) (cases_lt at i) },
        record { long = sym as_long; same = λ i ne. sym (get_or-overwritten image at old_byte i (omega (arith, inside)) (beside i at ne)) },
      )
    where
      at_each : (i : ℕ) → i < s.synced → (InDoubt s.doubt i → ⊥) → (i < at) ⊎ (at ≤ i) → (at < i) ⊎ (i ≤ at) → get_or (overwritten image at old_byte) i 0 ≡ get_or s.bytes i 0
      at_each i below none (inl b) c = get_or-overwritten image at old_byte i (omega (arith, inside)) (inl b) ∙ same_beside i below (inl b) none
      at_each i below none (inr b) (inl c) = get_or-overwritten image at old_byte i (omega (arith, inside)) (inr (omega (arith, c))) ∙ same_beside i below (inr (omega (arith, c))) none
      at_each i below none (inr b) (inr c) =
          let here : i ≡ at = omega (arith, b, c) in
          subst (λ (j : ℕ). get_or (overwritten image at old_byte) j 0 ≡ get_or s.bytes j 0) (sym here)
          (ap (λ (j : ℕ). get_or (overwritten image at old_byte) j 0) (sym (add-zero at)) ∙ get_or-overwritten_in image at old_byte 0 (omega (arith, inside)) (omega arith))

  stays_out : length image ≤ at → (before : List ℕ) × IsPostCrashContent s before × DiffersAtMostAt at image before
  stays_out beyond = (
    image,
    record { no_shorter = is.no_shorter; no_longer = long; same = λ i below none. same_beside i below (inl (omega (arith, below, is.no_shorter, beyond))) none },
    record { long = refl; same = λ i ne. refl },
  )

  pub one_left : (before : List ℕ) × IsPostCrashContent s before × DiffersAtMostAt at image before
  one_left = by (cases_lt at (length image))
    where
      by : (at < length image) ⊎ (length image ≤ at) → (before : List ℕ) × IsPostCrashContent s before × DiffersAtMostAt at image before
      by (inl inside) = put_back inside
      by (inr beyond) = stays_out beyond

pub one_byte : (s : FileState) (at : ℕ) (left image : List ℕ) → FileInvariant s → at < length s.bytes → length left ≤ 1 → IsPostCrash (after_write s at 1 left) (Some image) → (before : List ℕ) × IsPostCrash s (Some before) × DiffersAtMostAt at image before
one_byte s at left image sound lt le is =
    let found = one_left s at left image sound lt le is.1 in
    (found.0, (is.0, found.1), found.2)

-- each post-crash state is one from before the write, except for that byte
pub record Open (at : ℕ) (first s : FileState) : Type 0 where
  pub sound : FileInvariant s
  pub stays : s.may_go ≡ false
  pub inside : at < length s.bytes
  pub images : (image : List ℕ) → IsPostCrash s (Some image) → (was : List ℕ) × IsPostCrash first (Some was) × DiffersAtMostAt at image was

pub open_first : (at : ℕ) (s : FileState) → FileInvariant s → s.may_go ≡ false → at < length s.bytes → Open at s s
open_first at s sound stays inside = record { sound = sound; stays = stays; inside = inside; images = λ image is. (image, is, record { long = refl; same = λ i ne. refl }) }

same_but_twice : (at : ℕ) (a b c : List ℕ) → DiffersAtMostAt at a b → DiffersAtMostAt at b c → DiffersAtMostAt at a c
same_but_twice at a b c one two = record { long = one.long ∙ two.long; same = λ i ne. one.same i ne ∙ two.same i ne }

pub open_written : (at : ℕ) (first s : FileState) (left : List ℕ) → Open at first s → CanWrite s at → length left ≤ 1 → Open at first (after_write s at 1 left)
open_written at first s left is can le = record {
  sound = sound_written s at 1 left can le is.sound;
  stays = is.stays;
  inside = omega (arith, is.inside, length-overwritten s.bytes at left can.within);
  images = λ image there.
      let before = one_byte s at left image is.sound is.inside le there in
      let was = is.images before.0 before.1 in
      (was.0, was.1, same_but_twice at image before.0 was.0 before.2 was.2);
}

-- a file that a crash can't remove exists, and what a read returns is a post-crash state
pub there_of : (s : FileState) → FileInvariant s → s.may_go ≡ false → IsTrue s.there
there_of s sound stays = by s.there refl
  where
    by : (b : Bool) → s.there ≡ b → IsTrue b
    by true is = refl
    by false is = let no : true ≡ false = sym (sound.goes is) ∙ stays in absurd (cc no)

pub read_image : (s : FileState) → FileInvariant s → s.may_go ≡ false → IsPostCrash s (Some s.bytes)
read_image s sound stays = (sound.stays (there_of s sound stays), record { no_shorter = sound.long; no_longer = sound.reached; same = λ i lt sure. refl })

pub open_whole : (at : ℕ) (first s : FileState) → Open at first s → Open at first (whole s.bytes)
open_whole at first s is = record {
  sound = record { long = omega arith; reached = omega arith; stays = λ _. refl; goes = λ no. absurd (cc no) };
  stays = refl;
  inside = is.inside;
  images = λ image there.
      let same : image ≡ s.bytes = only_post_crash (whole s.bytes) image refl refl refl there.1 in
      subst (λ (x : List ℕ). (was : List ℕ) × IsPostCrash first (Some was) × DiffersAtMostAt at x was) (sym same) (is.images s.bytes (read_image s is.sound is.stays));
}

-- Each disk that earlier calls may have left satisfies the invariant.
pub since_sound : (a b : DiskLog) (Before : Files → Type 0) (P : Files → Files → Type 0) → DiskSince a b (λ files. AllInvariant files × Before files) P → DiskSince a b Before P
since_sound a b Before P law given before since is_old is_new first ends good =
    law given before since is_old is_new first ends (invariant_reached before (initial_files given) first ends (invariant_initial given), good)

pub after_sound : (a b : DiskLog) (Before : Files → Type 0) (P : Files → Files → Type 0) → DiskAfter a b (λ files. AllInvariant files × Before files) P → DiskAfter a b Before P
after_sound a b Before P law given before since is_old is_new first last ends good went =
    law given before since is_old is_new first last ends (invariant_reached before (initial_files given) first ends (invariant_initial given), good) went
