use Rattle.std.proofs.Common.{Ok, arith}
use Rattle.fwd_chunk.proofs.FileCheck.{stands, stands_refused}
use Rattle.fwd_chunk.proofs.check.check_file.Goals as goal

pub returns-then-chunk-eq0-clause-seen : goal.returns-then-chunk-eq0-clause-seen
returns-then-chunk-eq0-clause-seen c = (c.in-Ok.chunk, stands c.args.bytes.now (Ok c.in-Ok.chunk) c.in-Ok.ensures.answer (λ m. m), c.brief_of.ensures, c.if-chunk-eq0.true)

pub returns-else-chunk-eq0-clause-seen : goal.returns-else-chunk-eq0-clause-seen
returns-else-chunk-eq0-clause-seen c =
    (c.in-Ok.chunk, stands c.args.bytes.now (Ok c.in-Ok.chunk) c.in-Ok.ensures.answer (λ m. m), c.brief_of-else-chunk-eq0.ensures, omega (arith, c.if-chunk-eq0.false))

pub returns-in-Some-clause-seen : goal.returns-in-Some-clause-seen
returns-in-Some-clause-seen c = stands_refused c.args.bytes.now c.in-Err.refusal c.in-Some.kind c.in-Some.ensures c.in-Err.ensures.answer
