use Rattle.std.proofs.Common.{rules}
use Rattle.fwd_out_http.proofs.ParserResults.{parsed_stands}
use Rattle.fwd_out_http.proofs.reply.head_of.Goals as goal

pub returns-in-Ok-Complete-clause-found : goal.returns-in-Ok-Complete-clause-found
returns-in-Ok-Complete-clause-found c =
    let within = rw c.in-Ok-Complete.field-0-is at c.in-Ok-Complete.ensures.within in
    let complete = rw c.in-Ok-Complete.field-0-is at c.in-Ok-Complete.ensures.complete in
    parsed_stands c.args.bytes.now c.parse_response.new.headers c.in-Ok-Complete.head (search rules) within.section.len_fits complete
