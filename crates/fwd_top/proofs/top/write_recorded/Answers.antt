use Rattle.fwd_script.specs.Text.{text_of}
use Rattle.fwd_top.specs.Answers.{status_of}
use Rattle.fwd_top.proofs.WrittenVerdict.{record_stopped}
use Rattle.fwd_top.proofs.top.write_recorded.Goals as goal

pub returns-in-Err-write_record-clause-tells : goal.returns-in-Err-write_record-clause-tells
returns-in-Err-write_record-clause-tells g c =
    rw c.in-Ok.is
    (record_stopped (Unit {0}) _ _ _ _ c.args.reported.now.text (text_of c.in-Ok.schedule) (status_of c.args.reported.now.ending) c.in-Err-write_record.status c.in_default.ensures.writes c.in-Err-write_record.ensures.writes)
