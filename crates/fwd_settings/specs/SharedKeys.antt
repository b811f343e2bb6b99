-- The shared key of an input or an output, from the entries of its section. Only forward has these keys.
use Rattle.std.specs.Prelude.{ℕ, List, codes, Option, Some, None, unwrap_or}
use Rattle.fwd_settings.specs.declared.settings_types.SharedKey.{SharedKey}
use Rattle.fwd_settings_schema.specs.declared.keys.Key.TheVariants as key
use Rattle.fwd_settings_schema.specs.declared.properties.Property.{Property}
use Rattle.fwd_settings_schema.specs.Property.{text_at}

-- the name of this host, as a handshake tells it
abbrev pub hostname_of : List Property → List ℕ
hostname_of properties = unwrap_or (text_at key.SelfHostname properties) (codes "localhost")

-- a name of this host alone is no key
abbrev pub shared_by : List ℕ → Option (List ℕ) → Option SharedKey
shared_by host None = None
shared_by host (Some key) = Some (record { key = key; host = host })

abbrev pub shared_key_of : List Property → Option SharedKey
shared_key_of properties = shared_by (hostname_of properties) (text_at key.SharedKey properties)
