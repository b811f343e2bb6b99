-- The judgement of a stream in which the decoder finds no value.
use Rattle.std.specs.Prelude.{◌≡◌, ℕ, Result, Ok, IsErr}
use Rattle.fwd_base.specs.declared.memory.Memory.{Memory}
use Rattle.fwd_msgpack.specs.declared.errors.DecodeErr.{DecodeErr}
use Rattle.fwd_msgpack.specs.declared.errors.DecodeErr.TheVariants as errors
use Rattle.fwd_handshake.specs.declared.received.Received.{Received}
use Rattle.fwd_handshake.specs.declared.received.Received.TheVariants.{Wrong}
use Rattle.fwd_handshake.specs.Judgement.{short_received}

abbrev pub ReceivedWithout : DecodeErr → ℕ → Result Received Memory → Type 0
ReceivedWithout errors.Short n r = r ≡ Ok (short_received n)
ReceivedWithout (errors.Unused at) n r = r ≡ Ok Wrong
ReceivedWithout (errors.TooDeep at) n r = r ≡ Ok Wrong
ReceivedWithout errors.Memory n r = IsErr r
