-- The mask with a bit for each paused input is the sum of their bits.
use Rattle.std.proofs.Common.{◌≡◌, ◌↔◌, ℕ, ◌<◌, true, false, List, length, map, Option, Some, None, refl, sym, ◌∙◌, ap}
use Rattle.std.specs.Prelude.{slice_get, option_map, IsSomeAnd, is_some}
use Rattle.std.specs.Int.{IsBitSet}
use Rattle.std.specs.Option.{option_and_then}
use Rattle.std.proofs.lemmas.Option.{slice_get-map, slice_get_within}
use Rattle.fwd_settings.specs.declared.settings_types.AllSettings.{AllSettings}
use Rattle.fwd_settings.specs.declared.settings_types.InputSet.{InputSet}
use Rattle.fwd_table.specs.Usage.{memory_of}
use Rattle.fwd_limits.specs.Backpressure.{IsPaused, reaches}
use Rattle.fwd_model.specs.Fact.{History}
use Rattle.fwd_model.specs.Settings.{mem_limit_at}
use Rattle.fwd_model.specs.Clock.{stopped}
use Rattle.fwd_model.specs.Routes.{rows_of}
use Rattle.fwd_model.specs.Limits.{is_paused, paused}
use Rattle.fwd_model.proofs.Masks.{mask_is}

-- after a stop all inputs are paused
pub all_paused : (s : AllSettings) (h : History) (at : ℕ) → stopped s h ≡ Some at → (mask : ℕ) → ((i : ℕ) → IsBitSet mask i ↔ ((i < length s.inputs) × Unit {0})) → mask ≡ paused s h
unfolding paused
all_paused s h at is mask means = mask_is (is_paused s h) (length s.inputs) mask (λ i. (λ set. (((means i).0 set).0, stops i), λ below. (means i).1 (below.0, tt)))
  where
    stops : (i : ℕ) → is_paused s h i ≡ true
    stops i = rw is refl

-- before a stop those that have reached their limits
by_limit : (limits : List (Option ℕ)) (inputs : List InputSet) (held i : ℕ) → limits ≡ map (λ (set : InputSet). set.mem_limit) inputs
    → (IsSomeAnd (slice_get limits i) (λ limit. reaches limit held ≡ true)) ↔ ((i < length inputs) × (reaches (option_and_then (λ (set : InputSet). set.mem_limit) (slice_get inputs i)) held ≡ true))
by_limit limits inputs held i are =
    let at : slice_get limits i ≡ option_map (λ (set : InputSet). set.mem_limit) (slice_get inputs i) = ap (λ (l : List (Option ℕ)). slice_get l i) are ∙ slice_get-map (λ (set : InputSet). set.mem_limit) inputs i in
    by (slice_get limits i) (slice_get inputs i) at (λ set there. slice_get_within inputs i set there)
  where
    by : (limit : Option (Option ℕ)) (input : Option InputSet) → limit ≡ option_map (λ (set : InputSet). set.mem_limit) input → ((set : InputSet) → input ≡ Some set → i < length inputs)
        → (IsSomeAnd limit (λ limit. reaches limit held ≡ true)) ↔ ((i < length inputs) × (reaches (option_and_then (λ (set : InputSet). set.mem_limit) input) held ≡ true))
    by None None at within = (λ none. absurd none, λ is. absurd (cc is.1))
    by None (Some set) at within = absurd (cc at)
    by (Some limit) None at within = absurd (cc at)
    by (Some limit) (Some set) at within =
        let same : limit ≡ set.mem_limit = cc at in
        (λ is. (within set refl, ap (λ (l : Option ℕ). reaches l held) (sym same) ∙ is), λ is. ap (λ (l : Option ℕ). reaches l held) same ∙ is.1)

pub some_paused : (s : AllSettings) (h : History) (limits : List (Option ℕ)) → stopped s h ≡ None → limits ≡ map (λ (set : InputSet). set.mem_limit) s.inputs → (mask : ℕ) → ((i : ℕ) → IsBitSet mask i ↔ IsPaused limits (rows_of s h) i) → mask ≡ paused s h
unfolding paused
some_paused s h limits goes are mask means = mask_is (is_paused s h) (length s.inputs) mask one
  where
    reached : (i : ℕ) → is_paused s h i ≡ reaches (mem_limit_at s i) (memory_of i (rows_of s h))
    reached i = rw goes refl

    one : (i : ℕ) → IsBitSet mask i ↔ ((i < length s.inputs) × (is_paused s h i ≡ true))
    one i =
        let limit = by_limit limits s.inputs (memory_of i (rows_of s h)) i are in
        (λ set. let is = limit.0 ((means i).0 set) in (is.0, reached i ∙ is.1), λ is. (means i).1 (limit.1 (is.0, sym (reached i) ∙ is.1)))

-- ---- options

pub some_at : (o : Option ℕ) → is_some o ≡ true → (at : ℕ) × (o ≡ Some at)
some_at None is = absurd (cc is)
some_at (Some at) is = (at, refl)

pub none_at : (o : Option ℕ) → is_some o ≡ false → o ≡ None
none_at None is = refl
none_at (Some at) is = absurd (cc is)
