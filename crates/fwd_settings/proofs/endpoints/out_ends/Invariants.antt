use Rattle.std.proofs.Common.{◌≡◌, map, take}
use Rattle.fwd_settings.specs.Endpoints.{out_end_of}
use Rattle.fwd_settings.proofs.endpoints.out_ends.Given as goal

abbrev pub invariant-loop-set : goal.invariant-loop-set
invariant-loop-set l = l.ends ≡ map (λ set. out_end_of set.kind) (take l.set-index l.outputs)
