use Rattle.std.proofs.Common.{ℕ, List, Contains, subst, arith}
use Rattle.std.proofs.lemmas.List.{take_all}
use Rattle.fwd_disk_mem.proofs.FolderNames.{up_to, whole_plain}
use Rattle.fwd_disk_mem.proofs.listing.up_to_slash.Goals as goal

pub returns-then-bytes-i-eq47 : goal.returns-then-bytes-i-eq47
returns-then-bytes-i-eq47 c = up_to c.args.bytes.now c.loop-i.i 0 (omega arith) (grind arith) c.loop-i.invariant

pub returns : goal.returns
returns c = whole_plain c.args.bytes.now (subst (λ (l : List ℕ). Contains l 47 → ⊥) (take_all c.loop-i.i c.args.bytes.now (omega arith)) c.loop-i.invariant)
