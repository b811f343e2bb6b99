-- What a connection keeps.
use Rattle.std.proofs.Common.{◌≡◌, ℕ, List, Option, Some, None}
use Rattle.fwd_wire.specs.declared.fault.ConnFault.{ConnFault}
use Rattle.fwd_wire.specs.Stream.{waiting}
use Rattle.fwd_in_forward.specs.Conn.{ending_of}

same_rest : (r s : List ℕ) → waiting r ≡ waiting s → r ≡ s
same_rest r s e = cc

pub waits_so : (rest : List ℕ) (fault : Option ConnFault) (s : List ℕ) → ending_of rest fault ≡ waiting s → rest ≡ s
waits_so rest None s e = same_rest rest s e
waits_so rest (Some f) s e = absurd cc
