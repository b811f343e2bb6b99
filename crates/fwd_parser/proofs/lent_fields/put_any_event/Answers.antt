use Rattle.std.proofs.Common.{rules, tests, arith, refl}
use Rattle.fwd_parser.specs.LentFields.{AreShort}
use Rattle.fwd_parser.proofs.LentFields.{lent_fits}
use Rattle.fwd_parser.proofs.lent_fields.put_any_event.Goals as goal

pub returns-clause-fits : goal.returns-clause-fits
returns-clause-fits c =
    let short : AreShort c.args.groups.now = c.are_short.ensures (search (rules, tests)) in
    let fits = lent_fits c.args.floats c.args.types.now c.args.moment c.args.groups.now (omega (arith, c.if-groups-ge-MANY.false)) short in
    (λ yes. fits, λ yes. refl)
