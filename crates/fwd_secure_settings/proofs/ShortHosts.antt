-- The host names in the rings of settings are short.
use Rattle.std.proofs.Common.{◌≡◌, zero, suc, ◌<◌, List, [], ◌∷◌, length, map, Option, Some, None, option_map, subst, arith}
use Rattle.std.specs.Prelude.{◌^◌}
use Rattle.std.specs.List.{AllByRecursion}
use Rattle.fwd_handshake.specs.declared.ring.Ring.{Ring}
use Rattle.fwd_secure.specs.Keys.{ring_in, FitMessages, AreShort}
use Rattle.fwd_settings.specs.declared.settings_types.AllSettings.{AllSettings}
use Rattle.fwd_settings.specs.declared.settings_types.SharedKey.{SharedKey}
use Rattle.fwd_settings.specs.Requirements.{HasShortHost, MeetsRequirements}
use Rattle.fwd_secure_settings.specs.Keys.{ring_of, keys_of}

short_ring : (o : Option SharedKey) (ring : Ring) → HasShortHost o → ring_in (Some (option_map ring_of o)) ≡ Some ring → length ring.host < 2 ^ 32
short_ring None ring short is = absurd (cc is)
short_ring (Some shared) ring short is = subst (λ (r : Ring). length r.host < 2 ^ 32) (some_is is) (below shared short)
  where
    some_is : ◌≡◌ {A = Option Ring} (Some (ring_of shared)) (Some ring) → ring_of shared ≡ ring
    some_is e = cc

    below : (s : SharedKey) → HasShortHost (Some s) → length s.host < 2 ^ 32
    below s few = omega (arith, few)

fit : {X : Type 0} (shared : X → Option SharedKey) (xs : List X) → AllByRecursion (λ x. HasShortHost (shared x)) xs → FitMessages (map (λ x. option_map ring_of (shared x)) xs)
fit shared [] all index ring is = absurd (cc is)
fit shared (x ∷ xs) all zero ring is = short_ring (shared x) ring all.0 is
fit shared (x ∷ xs) all (suc index) ring is = fit shared xs all.1 index ring is

pub keys_are_short : (s : AllSettings) → MeetsRequirements s → AreShort (keys_of s)
unfolding keys_of
keys_are_short s meets = record {
  inputs = fit (λ set. set.shared) s.inputs meets.shared_inputs;
  outputs = fit (λ set. set.shared) s.outputs meets.shared_outputs;
}
