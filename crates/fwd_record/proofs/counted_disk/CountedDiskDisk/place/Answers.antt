use Rattle.std.proofs.Common.{ℕ, List, [], ◌∷◌, ◌++◌, Some, None, refl, ap, ◌∙◌}
use Rattle.fwd_outside.specs.Disk.{Place}
use Rattle.fwd_record.proofs.Failing.{call_counted, failure_counted}
use Rattle.fwd_record.proofs.counted_disk.CountedDiskDisk.place.Goals as goal

pub invariant_of-self-in-Ok : goal.invariant_of-self-in-Ok
invariant_of-self-in-Ok g c =
    call_counted c.self.invariant _ _ (Place c.args.name.now c.args.bytes.now) (Some tt) refl c.in-Ok.ensures.call_log
    c.then-self-inside.ensures.1 c.saturating_add-self-inside.ensures c.reserve.ensures.same

pub invariant_of-self-in-Err-Failed : goal.invariant_of-self-in-Err-Failed
invariant_of-self-in-Err-Failed g c =
    failure_counted c.self.invariant _ _ (Place c.args.name.now c.args.bytes.now) None refl (rw c.in-Err-Failed.field-0-is at c.in-Err-Failed.ensures.call_log)
    c.then-self-inside-in-Err-Failed.ensures.1 c.saturating_add-self-inside-in-Err-Failed.ensures
    (c.push_reserved.ensures.items ∙ ap (λ (l : List ℕ). l ++ c.self.inside.next ∷ []) c.reserve.ensures.same)
