-- The clock has a latest time.
use Rattle.std.proofs.Common.{◌≤◌, [], ◌∷◌, arith}
use Rattle.fwd_base.specs.Limits.{latest_time}
use Rattle.fwd_outside.specs.declared.happening.Happening.{Happening}
use Rattle.fwd_outside.specs.declared.happening.Happening.TheVariants as happening
use Rattle.fwd_model.specs.Fact.{History, Happened}
use Rattle.fwd_model.specs.Clock.{clock}

brought_within : (h : History) (brought : Happening) → clock h ≤ latest_time → clock (Happened brought ∷ h) ≤ latest_time
brought_within h (happening.Tick now) before = omega (arith, before)
brought_within h (happening.Joined input conn) before = before
brought_within h (happening.Piece input conn bytes) before = before
brought_within h (happening.Gone input conn) before = before
brought_within h (happening.Room link) before = before
brought_within h (happening.Back link bytes) before = before
brought_within h (happening.Broken link) before = before
brought_within h (happening.InputEnd input) before = before
brought_within h happening.Stop before = before
brought_within h happening.End before = before
brought_within h happening.Failed before = before

pub clock_within : (h : History) → clock h ≤ latest_time
clock_within [] = omega arith
clock_within (Happened brought ∷ h) = brought_within h brought (clock_within h)
clock_within (_ ∷ h) = clock_within h
