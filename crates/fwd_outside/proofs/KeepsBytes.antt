-- Bytes of a file that writes elsewhere keep.
use Rattle.std.proofs.Common.{◌≡◌, ◌⊎◌, inl, inr, ℕ, ◌+◌, ◌<◌, ◌≤◌, max, Bool, true, false, Option, Some, None, List, [], ◌∷◌, length, get_or, refl, sym, ◌∙◌, ap, subst, arith}
use Rattle.std.proofs.lemmas.Grind.{common_steps}
use Rattle.std.proofs.lemmas.List.{ext_get_or}
use Rattle.fwd_outside.specs.File.{FileState, InDoubt, IsPostCrashContent, IsPostCrash, absent, whole, whole_or_absent, overwritten, after_write}
use Rattle.fwd_outside.specs.DiskStates.{CanWrite}

pub length-overwritten : (old : List ℕ) (at : ℕ) (bytes : List ℕ) → at ≤ length old → length (overwritten old at bytes) ≡ max (length old) (at + length bytes)
length-overwritten old at bytes le = grind (arith, common_steps)

pub get_or-overwritten : (old : List ℕ) (at : ℕ) (bytes : List ℕ) (i : ℕ) → at ≤ length old → (i < at) ⊎ (at + length bytes ≤ i) → get_or (overwritten old at bytes) i 0 ≡ get_or old i 0
get_or-overwritten old at bytes i le (inl before) = grind (arith, common_steps)
get_or-overwritten old at bytes i le (inr behind) = grind (arith, common_steps)

pub get_or-overwritten_in : (old : List ℕ) (at : ℕ) (bytes : List ℕ) (i : ℕ) → at ≤ length old → i < length bytes → get_or (overwritten old at bytes) (at + i) 0 ≡ get_or bytes i 0
get_or-overwritten_in old at bytes i le lt = grind (arith, common_steps)

-- an offset below the end, and outside the zone
pub record IsKeptOffset (from to end i : ℕ) : Type 0 where
  pub below : i < end
  pub beside : (i < from) ⊎ (to ≤ i)

-- The first bytes of the file up to the end are fsynced, except for a zone of them, and it doesn't reach
-- past the limit.
pub record KeepsBytes (from to end limit : ℕ) (first : List ℕ) (s : FileState) : Type 0 where
  pub long : s.synced ≤ length s.bytes
  pub within : length s.bytes ≤ s.reached
  pub short : s.reached ≤ limit
  pub stays : s.may_go ≡ false
  pub covers : end ≤ s.synced
  pub same : (i : ℕ) → IsKeptOffset from to end i → get_or s.bytes i 0 ≡ get_or first i 0
  pub sure : (i : ℕ) → IsKeptOffset from to end i → InDoubt s.doubt i → ⊥

-- two byte strings agree below the end and outside the zone
pub record Agrees (from to end limit : ℕ) (first image : List ℕ) : Type 0 where
  pub short : length image ≤ limit
  pub covers : end ≤ length image
  pub same : (i : ℕ) → IsKeptOffset from to end i → get_or image i 0 ≡ get_or first i 0

-- a write in the zone, or after the end
abbrev pub IsBeside : ℕ → ℕ → ℕ → ℕ → ℕ → Type 0
IsBeside from to end at n = (end ≤ at) ⊎ ((from ≤ at) × (at + n ≤ to))

module _ (from to end limit : ℕ) (first : List ℕ) where
  pub keeps_first : end ≤ length first → length first ≤ limit → KeepsBytes from to end limit first (whole first)
  keeps_first covers short = record { long = omega arith; within = omega arith; short = short; stays = refl; covers = covers; same = λ i kept. refl; sure = λ i kept no. no }

  pub keeps_whole : (s : FileState) → KeepsBytes from to end limit first s → KeepsBytes from to end limit first (whole s.bytes)
  keeps_whole s keeps = record { long = omega arith; within = omega arith; short = omega (arith, keeps.within, keeps.short); stays = refl; covers = omega (arith, keeps.long, keeps.covers); same = keeps.same; sure = λ i kept no. no }

  pub keeps_written : (s : FileState) (at count : ℕ) (left : List ℕ) → KeepsBytes from to end limit first s → CanWrite s at → length left ≤ count → at + count ≤ limit → IsBeside from to end at count → KeepsBytes from to end limit first (after_write s at count left)
  keeps_written s at count left keeps can le low beside = record {
    long = omega (arith, keeps.long, length-overwritten s.bytes at left can.within);
    within = omega (arith, keeps.within, length-overwritten s.bytes at left can.within);
    short = omega (arith, keeps.short);
    stays = keeps.stays;
    covers = keeps.covers;
    same = λ i kept. get_or-overwritten s.bytes at left i can.within (short i (out i kept beside kept.beside)) ∙ keeps.same i kept;
    sure = λ i kept doubt. no i (out i kept beside kept.beside) (keeps.sure i kept) doubt;
  }
    where
      out : (i : ℕ) → IsKeptOffset from to end i → IsBeside from to end at count → (i < from) ⊎ (to ≤ i) → (i < at) ⊎ (at + count ≤ i)
      out i kept (inl behind) where_ = inl (omega (arith, kept.below))
      out i kept (inr zone) (inl before) = inl (omega (arith, zone.0))
      out i kept (inr zone) (inr after) = inr (omega (arith, zone.1))

      short : (i : ℕ) → (i < at) ⊎ (at + count ≤ i) → (i < at) ⊎ (at + length left ≤ i)
      short i (inl b) = inl b
      short i (inr b) = inr (omega arith)

      no : (i : ℕ) → (i < at) ⊎ (at + count ≤ i) → (InDoubt s.doubt i → ⊥) → InDoubt ((at, at + count) ∷ s.doubt) i → ⊥
      no i (inl b) none (inl range) = omega (arith, b, range.0)
      no i (inr b) none (inl range) = omega (arith, b, range.1)
      no i b none (inr old) = none old

  pub whole_agrees : (bytes : List ℕ) → KeepsBytes from to end limit first (whole bytes) → Agrees from to end limit first bytes
  whole_agrees bytes keeps = record { short = keeps.short; covers = keeps.covers; same = keeps.same }

  -- each post-crash state has these bytes
  pub image_agrees : (s : FileState) (image : Option (List ℕ)) → KeepsBytes from to end limit first s → IsPostCrash s image → (c : List ℕ) × (image ≡ Some c) × Agrees from to end limit first c
  image_agrees s None keeps is = let no : false ≡ true = sym keeps.stays ∙ is in absurd cc
  image_agrees s (Some c) keeps is = (
    c,
    refl,
    record {
      short = omega (arith, keeps.short, is.1.no_longer);
      covers = omega (arith, keeps.covers, is.1.no_shorter);
      same = λ i kept. is.1.same i (omega (arith, kept.below, keeps.covers)) (keeps.sure i kept) ∙ keeps.same i kept;
    },
  )

-- a file that is fsynced has one post-crash state
pub only_post_crash : (s : FileState) (image : List ℕ) → s.synced ≡ length s.bytes → s.reached ≡ length s.bytes → s.doubt ≡ [] → IsPostCrashContent s image → image ≡ s.bytes
only_post_crash s image synced reached none left =
    ext_get_or 0 image s.bytes (omega (arith, left.no_shorter, left.no_longer)) (λ i lt. left.same i (omega (arith, left.no_longer)) (λ doubt. subst (λ (r : List (ℕ × ℕ)). InDoubt r i) none doubt))

pub whole_post_crash : (bytes : List ℕ) (image : Option (List ℕ)) → IsPostCrash (whole bytes) image → image ≡ Some bytes
whole_post_crash bytes None is = absurd cc
whole_post_crash bytes (Some image) is = ap (λ (l : List ℕ). Some l) (only_post_crash (whole bytes) image refl refl refl is.1)

pub whole_or_absent_post_crash : (bytes : List ℕ) (there : Bool) (image : Option (List ℕ)) → IsPostCrash (whole_or_absent bytes there) image → (image ≡ Some bytes) ⊎ (image ≡ None)
whole_or_absent_post_crash bytes there None is = inr refl
whole_or_absent_post_crash bytes there (Some image) is = inl (ap (λ (l : List ℕ). Some l) (only_post_crash (whole_or_absent bytes there) image refl refl refl is.1))

pub absent_post_crash : (image : Option (List ℕ)) → IsPostCrash absent image → image ≡ None
absent_post_crash None is = refl
absent_post_crash (Some image) is = let no : false ≡ true = is.0 in absurd cc
