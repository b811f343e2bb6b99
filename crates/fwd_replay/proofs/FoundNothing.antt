-- A recovery found nothing exactly if it counted no file.
use Rattle.std.proofs.Common.{◌≡◌, ◌≢◌, ◌⊎◌, inl, inr, ℕ, ◌+◌, ◌-◌, ◌^◌, min, Bool, true, false, ◌&&◌, not, List, [], ◌∷◌, Option, Some, None, refl, sym, ◌∙◌, ap, subst, arith, ne_eqb}
use Rattle.std.specs.Prelude.{◌==◌}
use Rattle.fwd_settings.specs.declared.settings_types.AllSettings.{AllSettings}
use Rattle.fwd_model.specs.Fact.{History, Found}
use Rattle.fwd_model.specs.Counters.{FileFate, Loaded, Unrouted, LeftAsIs, as_loaded, as_unrouted, as_left, file_fate, files_counted, tally_of}
use Rattle.fwd_model.specs.Notes.{is_empty}
use Rattle.fwd_model.specs.RecoveredFile.{recovered_chunk}
use Rattle.fwd_model.specs.Settings.{saturating_plus}
use Rattle.fwd_theorem_trace.specs.Allowed.{IsLoading}
use Rattle.fwd_replay.specs.RecordedParts.{counts_nothing}

some_more : (n : ℕ) → (saturating_plus n 1 == 0) ≡ false
some_more n = ne_eqb (saturating_plus n 1) 0 (λ none. absurd (omega (arith, none)))

and_false : (a b : Bool) → b ≡ false → (a && b) ≡ false
and_false true b is = is
and_false false b is = refl

-- one file more is counted in one of three ways
one_more : (fate : FileFate) (loaded unrouted left : ℕ)
    → ((saturating_plus loaded (as_loaded fate) == 0) && ((saturating_plus unrouted (as_unrouted fate) == 0) && (saturating_plus left (as_left fate) == 0))) ≡ false
one_more Loaded loaded unrouted left =
    ap (λ (b : Bool). b && ((saturating_plus unrouted 0 == 0) && (saturating_plus left 0 == 0))) (some_more loaded)
one_more Unrouted loaded unrouted left =
    and_false (saturating_plus loaded 0 == 0) _ (ap (λ (b : Bool). b && (saturating_plus left 0 == 0)) (some_more unrouted))
one_more LeftAsIs loaded unrouted left =
    and_false (saturating_plus loaded 0 == 0) _ (and_false (saturating_plus unrouted 0 == 0) (saturating_plus left 1 == 0) (some_more left))

pub found_nothing : (s : AllSettings) (h : History) → IsLoading h → counts_nothing (tally_of s h) ≡ is_empty h
found_nothing s [] loading = refl
found_nothing s (Found number stream name bytes ∷ h) loading =
    one_more (file_fate s (recovered_chunk bytes)) (files_counted s as_loaded h) (files_counted s as_unrouted h) (files_counted s as_left h)
found_nothing s (fact ∷ h) loading = absurd loading

pub empty_is : (h : History) → is_empty h ≡ true → h ≡ []
empty_is [] is = refl
empty_is (fact ∷ h) is = absurd (cc is)

pub some_is : (h : History) → is_empty h ≡ false → h ≢ []
some_is [] is none = absurd (cc is)
some_is (fact ∷ h) is none = absurd (cc none)

-- ---- whether a run can be recorded

both_so : (tailed empty : Bool) → (not tailed && empty) ≡ true → (tailed ≡ false) × (empty ≡ true)
both_so true empty is = absurd (cc is)
both_so false empty is = (refl, is)

either_so : (tailed empty : Bool) → (not tailed && empty) ≡ false → (tailed ≡ true) ⊎ (empty ≡ false)
either_so true empty is = inl refl
either_so false empty is = inr is

pub recordable : (tailed : Bool) (h : History) (b : Bool) → b ≡ (not tailed && is_empty h) → b ≡ true → (tailed ≡ false) × (h ≡ [])
recordable tailed h b same is =
    let so = both_so tailed (is_empty h) (sym same ∙ is) in
    (so.0, empty_is h so.1)

pub unrecordable : (tailed : Bool) (h : History) (b : Bool) → b ≡ (not tailed && is_empty h) → b ≡ false → (tailed ≡ true) ⊎ (h ≢ [])
unrecordable tailed h b same is = by (either_so tailed (is_empty h) (sym same ∙ is))
  where
    by : (tailed ≡ true) ⊎ (is_empty h ≡ false) → (tailed ≡ true) ⊎ (h ≢ [])
    by (inl some) = inl some
    by (inr some) = inr (some_is h some)
