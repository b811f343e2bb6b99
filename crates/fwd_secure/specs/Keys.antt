-- The keys of a configuration: the rings of its inputs and outputs, by their indices.
use Rattle.std.specs.Prelude.{◌≡◌, ℕ, ◌<◌, ◌^◌, Bool, ◌||◌, List, Option, Some, None, length, is_some, slice_get}
use Rattle.std.specs.List.{list_any}
use Rattle.fwd_handshake.specs.declared.ring.Ring.{Ring}
use Rattle.fwd_secure.specs.declared.keys.Keys.{Keys}

abbrev pub ring_in : Option (Option Ring) → Option Ring
ring_in (Some ring) = ring
ring_in None = None

-- the ring of an input or an output, if it has one
abbrev pub ring_at : List (Option Ring) → ℕ → Option Ring
ring_at rings index = ring_in (slice_get rings index)

abbrev pub has_ring : List (Option Ring) → Bool
has_ring rings = list_any is_some rings

-- whether any input or output has a key
abbrev pub has_keys : Keys → Bool
has_keys keys = has_ring keys.inputs || has_ring keys.outputs

-- the host names fit the messages of the handshake
abbrev pub FitMessages : List (Option Ring) → Type 0
FitMessages rings = (index : ℕ) (ring : Ring) → ring_at rings index ≡ Some ring → length ring.host < 2 ^ 32

pub record AreShort (keys : Keys) : Type 0 where
  pub inputs : FitMessages keys.inputs
  pub outputs : FitMessages keys.outputs
