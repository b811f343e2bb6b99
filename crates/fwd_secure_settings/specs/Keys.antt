-- The keys of a configuration: the rings of its inputs and outputs, by the settings.
use Rattle.std.specs.Prelude.{map, option_map}
use Rattle.fwd_handshake.specs.declared.ring.Ring.{Ring}
use Rattle.fwd_secure.specs.declared.keys.Keys.{Keys}
use Rattle.fwd_settings.specs.declared.settings_types.AllSettings.{AllSettings}
use Rattle.fwd_settings.specs.declared.settings_types.SharedKey.{SharedKey}

abbrev pub ring_of : SharedKey → Ring
ring_of shared = record { key = shared.key; host = shared.host }

-- the rings of all inputs and outputs, in order; none for one without a shared key
unfoldable pub keys_of : AllSettings → Keys
keys_of settings = record {
  inputs = map (λ set. option_map ring_of set.shared) settings.inputs;
  outputs = map (λ set. option_map ring_of set.shared) settings.outputs;
}
