-- The storage folder, if chunks of an input are kept in files.
use Rattle.std.proofs.Common.{◌≡◌, ℕ, zero, suc, Bool, true, false, IsTrue, IsSome, List, [], ◌∷◌, Option, Some, None, refl, ◌∙◌, ap}
use Rattle.std.specs.Prelude.{slice_get}
use Rattle.std.specs.List.{AllByRecursion}
use Rattle.std.specs.Option.{option_map_or}
use Rattle.fwd_outside.specs.declared.home.Home.TheVariants.{Disk}
use Rattle.fwd_settings.specs.declared.settings_types.AllSettings.{AllSettings}
use Rattle.fwd_settings.specs.declared.settings_types.InputSet.{InputSet}
use Rattle.fwd_settings.specs.Requirements.{MeetsRequirements}
use Rattle.fwd_model.specs.Settings.{home_by, home_at}

kept_below : (path : Option (List ℕ)) → IsSome path → (root : List ℕ) × (path ≡ Some root)
kept_below None is = absurd (cc is)
kept_below (Some root) is = (root, refl)

stored_there : (path : Option (List ℕ)) (inputs : List InputSet) (input : ℕ) (set : InputSet) → AllByRecursion (λ (one : InputSet). IsTrue one.stored → IsSome path) inputs → slice_get inputs input ≡ Some set → IsTrue set.stored → IsSome path
stored_there path [] input set all is stored = absurd (cc is)
stored_there path (one ∷ inputs) zero set all is stored = let same : one ≡ set = cc is in all.0 (ap (λ (x : InputSet). x.stored) same ∙ stored)
stored_there path (one ∷ inputs) (suc input) set all is stored = stored_there path inputs input set all.1 is stored

is_disk : (stored : Bool) → home_by stored ≡ Disk → stored ≡ true
is_disk true is = refl
is_disk false is = absurd (cc is)

pub stored_under : (s : AllSettings) → MeetsRequirements s → (input : ℕ) → home_at s input ≡ Disk → (root : List ℕ) × (s.service.path ≡ Some root)
stored_under s sound input home = by (slice_get s.inputs input) refl (is_disk (option_map_or (λ (set : InputSet). set.stored) (slice_get s.inputs input) false) home)
  where
    by : (o : Option InputSet) → slice_get s.inputs input ≡ o → option_map_or (λ (set : InputSet). set.stored) o false ≡ true → (root : List ℕ) × (s.service.path ≡ Some root)
    by None is stored = absurd (cc stored)
    by (Some set) is stored = kept_below s.service.path (stored_there s.service.path s.inputs input set sound.stored is stored)
