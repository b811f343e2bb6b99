-- The judgement of a reply without a first value.
use Rattle.std.specs.Prelude.{◌≡◌, ℕ, Result, Ok, IsErr}
use Rattle.fwd_base.specs.declared.memory.Memory.{Memory}
use Rattle.fwd_msgpack.specs.declared.errors.DecodeErr.{DecodeErr}
use Rattle.fwd_msgpack.specs.declared.errors.DecodeErr.TheVariants as errors
use Rattle.fwd_flush.specs.declared.judgement.Judged.{Judged}
use Rattle.fwd_flush.specs.declared.judgement.Judged.TheVariants.{Wrong}
use Rattle.fwd_out_net.specs.Judgement.{short_judgement}

abbrev pub JudgedWithout : DecodeErr → ℕ → Result Judged Memory → Type 0
JudgedWithout errors.Short n r = r ≡ Ok (short_judgement n)
JudgedWithout (errors.Unused at) n r = r ≡ Ok Wrong
JudgedWithout (errors.TooDeep at) n r = r ≡ Ok Wrong
JudgedWithout errors.Memory n r = IsErr r
