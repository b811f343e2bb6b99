use Rattle.std.proofs.Common.{◌≡◌, map, take, option_map}
use Rattle.fwd_secure_settings.specs.Keys.{ring_of}
use Rattle.fwd_secure_settings.proofs.rings.input_rings.Given as goal

abbrev pub invariant-loop-set : goal.invariant-loop-set
invariant-loop-set l = l.rings ≡ map (λ set. option_map ring_of set.shared) (take l.set-index l.inputs)
