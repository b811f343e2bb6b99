use Rattle.std.proofs.Common.{Ok, Err, sym}
use Rattle.fwd_record.proofs.LinkNumbers.{searched_number}
use Rattle.fwd_record.proofs.notes.number_of.Goals as goal

pub returns-in-Ok : goal.returns-in-Ok
returns-in-Ok c = λ rising. sym ((searched_number c.args.links.now c.args.link (Ok c.in-Ok.place) rising c.in-Ok.ensures.position).1)

pub returns-in-Err : goal.returns-in-Err
returns-in-Err c = λ rising. sym (searched_number c.args.links.now c.args.link (Err c.in-Err.field-0) rising c.in-Err.ensures.position)
