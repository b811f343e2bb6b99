use Rattle.std.proofs.Common.{◌<◌, ◌^◌, ℤ, pos, negsuc, FitsSigned, to_z-of_z, w16, arith, ap, ◌∙◌}
use Rattle.std.specs.Prelude.{unsigned_abs}
use Rattle.std.proofs.lemmas.Int.{fits_signed_from_abs}
use Rattle.jiff_core.specs.Calendar.{IsYear}
use Rattle.jiff_core.proofs.SignedLemmas.{signed_arith}
use Rattle.fwd_log.proofs.line.year_of.Goals as goal

-- a year of the calendar has at most four digits
year_below : (year : ℤ) → IsYear year → unsigned_abs year < 2 ^ 15
year_below (pos n) within = let last = within.1 in omega (arith, signed_arith, last)
year_below (negsuc n) within = let first = within.0 in omega (arith, signed_arith, first)

pub returns : goal.returns
returns c =
    let fits : FitsSigned w16 c.args.date.year = fits_signed_from_abs w16 c.args.date.year (year_below c.args.date.year c.args.date.year_in) in
    c.unsigned_abs.ensures.value ∙ ap unsigned_abs (to_z-of_z fits)
