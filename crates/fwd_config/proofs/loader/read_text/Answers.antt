use Rattle.std.proofs.Common.{true, false}
use Rattle.fwd_config.specs.Text.{place}
use Rattle.fwd_config.specs.declared.fault.ConfigKind.TheVariants.{NotUtf8, FileFault}
use Rattle.fwd_config.proofs.Steps.{refused, text_reads, reads_some, reads_none, reads_nothing}
use Rattle.fwd_config.proofs.loader.read_text.Goals as goal

pub returns-then-is_utf8-clause-calls : goal.returns-then-is_utf8-clause-calls
returns-then-is_utf8-clause-calls g c =
    reads_some _ _ c.args.file.now c.in-Ok.content true c.in-Ok.ensures.calls (rw (← c.as_slice.ensures) (cc))

pub returns-else-is_utf8-clause-calls : goal.returns-else-is_utf8-clause-calls
returns-else-is_utf8-clause-calls g c =
    refused _ _ (text_reads c.args.file.now) NotUtf8 (place c.args.file.now 0) c.fault_at.result c.fault_at.ensures (reads_some _ _ c.args.file.now c.in-Ok.content false c.in-Ok.ensures.calls (rw (← c.as_slice.ensures) (cc)))

pub returns-in-Err-Failed-clause-calls : goal.returns-in-Err-Failed-clause-calls
returns-in-Err-Failed-clause-calls g c =
    refused _ _ (text_reads c.args.file.now) FileFault (place c.args.file.now 0) c.fault_at-in-Err-Failed.result c.fault_at-in-Err-Failed.ensures
    (reads_none _ _ c.args.file.now (rw c.in-Err-Failed.field-0-is at c.in-Err-Failed.ensures.calls))

pub returns-in-Err-Memory-clause-calls : goal.returns-in-Err-Memory-clause-calls
returns-in-Err-Memory-clause-calls g c = reads_nothing _ _ c.args.file.now c.out_of_memory.result c.out_of_memory.ensures (rw c.in-Err-Memory.field-0-is at c.in-Err-Memory.ensures.calls)
