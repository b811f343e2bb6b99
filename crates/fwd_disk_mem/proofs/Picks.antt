-- Each pick is one of the post-crash states that the model allows.
use Rattle.std.proofs.Common.{◌≡◌, ◌⊎◌, inl, inr, ⊎_elim, ℕ, suc, ◌+◌, ◌<◌, ◌≤◌, leb, ◌==◌, Bool, true, false, IsTrue, ◌&&◌, if◌then◌else◌, Option, Some, None, List, [], ◌∷◌, length, refl, sym, ◌∙◌, ap, subst, arith}
use Rattle.std.proofs.lemmas.Bool.{leb-true, cases_lt}
use Rattle.std.proofs.lemmas.List.{length-replicate}
use Rattle.fwd_outside.specs.File.{FileState, InDoubt, IsPostCrashContent, IsPostCrash, whole, absent, whole_or_absent, or_absent, overwritten, after_write}
use Rattle.fwd_outside.proofs.KeepsBytes.{length-overwritten, get_or-overwritten}
use Rattle.fwd_disk_mem.specs.declared.entry.MemEntry.{MemEntry}
use Rattle.fwd_disk_mem.specs.declared.entry.MemEntry.TheVariants.{Place, WriteAt, Sync, Remove, Read, List as Listed, Preset, FailAt}
use Rattle.fwd_disk_mem.specs.Entry.{can_write, file_after, is_on, step, run, files_of, written_over}
use Rattle.fwd_disk_mem.specs.Images.{CrashFile, mixed, variant, crash_file_after, crash_file_step, make, no_call_file, picked}
use Rattle.fwd_disk_mem.proofs.PlayedCalls.{both_true}

length-mixed : (base : List ℕ) (at : ℕ) (bytes : List ℕ) → length (mixed base at bytes) ≡ length bytes
length-mixed base at [] = refl
length-mixed base at (b ∷ bytes) = ap suc (length-mixed base (at + 1) bytes)

length-choice : (b : Bool) (xs ys : List ℕ) (n : ℕ) → length xs ≡ n → length ys ≡ n → length (if b then xs else ys) ≡ n
length-choice true xs ys n x y = x
length-choice false xs ys n x y = y

pub length-variant : (pick : ℕ) (base : List ℕ) (at : ℕ) (bytes : List ℕ) → length (variant pick base at bytes) ≡ length bytes
length-variant pick base at bytes = length-choice (pick == 2) _ _ _ (grind (arith, length-replicate)) (length-choice (pick == 3) _ _ _ (length-mixed base at bytes) refl)

outside : (at count i : ℕ) (ranges : List (ℕ × ℕ)) → (InDoubt ((at, at + count) ∷ ranges) i → ⊥) → (i < at) ⊎ (at + count ≤ i)
outside at count i ranges none = ⊎_elim (λ lt. inl lt) (λ le. ⊎_elim (λ lt. absurd (none (inl (le, lt)))) (λ out. inr out) (cases_lt i (at + count))) (cases_lt i at)

-- a write that didn't take place
left_as_was : (s : FileState) (at count : ℕ) (left image : List ℕ) → at ≤ length s.bytes → length left ≤ count → IsPostCrashContent s image → IsPostCrashContent (after_write s at count left) image
left_as_was s at count left image within short was = record {
  no_shorter = was.no_shorter;
  no_longer = omega (arith, was.no_longer);
  same = λ i lt none. was.same i lt (λ d. none (inr d)) ∙ sym (get_or-overwritten s.bytes at left i within (shorter i (outside at count i s.doubt none)));
}
  where
    shorter : (i : ℕ) → (i < at) ⊎ (at + count ≤ i) → (i < at) ⊎ (at + length left ≤ i)
    shorter i (inl b) = inl b
    shorter i (inr b) = inr (omega arith)

-- and one that left any bytes in its range
left_written : (s : FileState) (at count : ℕ) (left image bytes : List ℕ) → at ≤ length s.bytes → length left ≤ count → at ≤ length image → length bytes ≡ count → IsPostCrashContent s image
    → IsPostCrashContent (after_write s at count left) (overwritten image at bytes)
left_written s at count left image bytes within short in_image long was =
    let size = length-overwritten image at bytes in_image in
    record {
      no_shorter = omega (arith, was.no_shorter);
      no_longer = omega (arith, was.no_longer);
      same = λ i lt none. let out = outside at count i s.doubt none in
          get_or-overwritten image at bytes i in_image (exact i out) ∙ was.same i lt (λ d. none (inr d)) ∙ sym (get_or-overwritten s.bytes at left i within (shorter i out));
    }
  where
    shorter : (i : ℕ) → (i < at) ⊎ (at + count ≤ i) → (i < at) ⊎ (at + length left ≤ i)
    shorter i (inl b) = inl b
    shorter i (inr b) = inr (omega arith)

    exact : (i : ℕ) → (i < at) ⊎ (at + count ≤ i) → (i < at) ⊎ (at + length bytes ≤ i)
    exact i (inl b) = inl b
    exact i (inr b) = inr (omega arith)

-- the state is a post-crash state of the file, and long enough for its writes
abbrev pub Fits : ℕ → FileState → Option (List ℕ) → Type 0
Fits pick s None = IsTrue s.may_go
Fits pick s (Some image) = IsPostCrashContent s image × IsTrue s.may_stay × (IsTrue s.there → (pick == 0) ≡ false → length s.bytes ≤ length image)

fits_whole : (pick : ℕ) (bytes : List ℕ) → Fits pick (whole bytes) (Some bytes)
fits_whole pick bytes = (record { no_shorter = omega arith; no_longer = omega arith; same = λ i lt none. refl }, refl, λ _ _. omega arith)

fits_maybe : (pick : ℕ) (bytes : List ℕ) (zero_pick : Bool) → Fits pick (whole_or_absent bytes false) (if zero_pick then None else Some bytes)
fits_maybe pick bytes true = refl
fits_maybe pick bytes false = (record { no_shorter = omega arith; no_longer = omega arith; same = λ i lt none. refl }, refl, λ is. absurd (cc is))

fits_written : (pick : ℕ) (s : FileState) (base : List ℕ) (image : Option (List ℕ)) (at : ℕ) (bytes left : List ℕ) (zero_pick : Bool) → (pick == 0) ≡ zero_pick → IsTrue s.there → at ≤ length s.bytes → length left ≤ length bytes → Fits pick s image
    → Fits pick (after_write s at (length bytes) left) (if zero_pick then image else written_over at (variant pick base at bytes) image)
fits_written pick s base None at bytes left true is there within short fits = fits
fits_written pick s base None at bytes left false is there within short fits = fits
fits_written pick s base (Some image) at bytes left true is there within short fits =
    (left_as_was s at (length bytes) left image within short fits.0, fits.1, λ _ other. let no : true ≡ false = sym is ∙ other in absurd (cc no))
fits_written pick s base (Some image) at bytes left false is there within short fits =
    let in_image : at ≤ length image = omega (arith, fits.2 there is) in
    let size = length-variant pick base at bytes in
    let long = length-overwritten image (at) (variant pick base at bytes) in_image in
    let long2 = length-overwritten s.bytes at left within in
    (left_written s at (length bytes) left image (variant pick base at bytes) within short in_image size fits.0, fits.1, λ _ _. omega (arith, fits.2 there is, long, long2, size))

fits_removed : (pick : ℕ) (s : FileState) (image : Option (List ℕ)) (zero_pick : Bool) → IsTrue s.there → Fits pick s image → Fits pick (or_absent s true) (if zero_pick then image else None)
fits_removed pick s None true there fits = refl
fits_removed pick s (Some image) true there fits = (record { no_shorter = fits.0.no_shorter; no_longer = fits.0.no_longer; same = fits.0.same }, fits.1, λ _ other. fits.2 there other)
fits_removed pick s image false there fits = refl

fits_made : (pick : ℕ) (s : FileState) (m : CrashFile) (call : MemEntry) → Fits pick s m.image → Fits pick (file_after s call) (crash_file_after pick s m call).image
fits_made pick s m (Place _ bytes true) fits = fits_whole pick bytes
fits_made pick s m (Place _ bytes false) fits = by s.there
  where
    by : (b : Bool) → Fits pick (if b then s else whole_or_absent bytes false) (if b then m else record { base = bytes; image = if pick == 0 then None else Some bytes }).image
    by true = fits
    by false = fits_maybe pick bytes (pick == 0)
fits_made pick s m (WriteAt _ at bytes ok) fits = by (can_write s at) refl
  where
    short : (b : Bool) → length (if b then bytes else []) ≤ length bytes
    short true = omega arith
    short false = omega arith

    which : (b : Bool) (over : CrashFile) → (if b then m else over).image ≡ (if b then m.image else over.image)
    which true over = refl
    which false over = refl

    by : (b : Bool) → can_write s at ≡ b
        → Fits pick (if b then after_write s at (length bytes) (if ok then bytes else []) else s) (if b then (if pick == 0 then m else record m { image = written_over at (variant pick m.base at bytes) m.image }) else m).image
    by true is =
        let parts = both_true s.there (leb at (length s.bytes)) is in
        subst (λ (i : Option (List ℕ)). Fits pick (after_write s at (length bytes) (if ok then bytes else [])) i) (sym (which (pick == 0) (record m { image = written_over at (variant pick m.base at bytes) m.image })))
        (fits_written pick s m.base m.image at bytes (if ok then bytes else []) (pick == 0) refl parts.0 (leb-true at (length s.bytes) parts.1) (short ok) fits)
    by false is = fits
fits_made pick s m (Sync _ ok) fits = by (ok && s.there)
  where
    by : (b : Bool) → Fits pick (if b then whole s.bytes else s) (if b then record { base = s.bytes; image = Some s.bytes } else m).image
    by true = fits_whole pick s.bytes
    by false = fits
fits_made pick s m (Remove _ ok) fits = by s.there refl ok
  where
    by : (b : Bool) → s.there ≡ b → (ok : Bool) → Fits pick (if b then (if ok then absent else or_absent s true) else s) (if b then record m { image = if ok then None else if pick == 0 then m.image else None } else m).image
    by false is done = fits
    by true is true = refl
    by true is false = fits_removed pick s m.image (pick == 0) is fits
fits_made pick s m (Read _ _ _ _) fits = fits
fits_made pick s m (Listed _ _) fits = fits
fits_made pick s m (Preset _ bytes) fits = fits_whole pick bytes
fits_made pick s m (FailAt _) fits = fits

pub make_fits : (pick : ℕ) (name : List ℕ) (s : FileState) (m : CrashFile) (calls : List MemEntry) → Fits pick s m.image → Fits pick (run name s calls) (make pick name s m calls).image
make_fits pick name s m [] fits = fits
make_fits pick name s m (call ∷ calls) fits = make_fits pick name (step name s call) (crash_file_step pick name s m call) calls (by (is_on call name))
  where
    by : (b : Bool) → Fits pick (if b then file_after s call else s) (if b then crash_file_after pick s m call else m).image
    by true = fits_made pick s m call fits
    by false = fits

pub image_of : (pick : ℕ) (s : FileState) (image : Option (List ℕ)) → Fits pick s image → IsPostCrash s image
image_of pick s None fits = fits
image_of pick s (Some image) fits = (fits.1, fits.0)

pub picked_is_image : (pick : ℕ) (calls : List MemEntry) (name : List ℕ) → IsPostCrash (files_of calls name) (picked pick calls name)
picked_is_image pick calls name = image_of pick (files_of calls name) (picked pick calls name) (make_fits pick name absent no_call_file calls refl)
