-- A verdict that is written, by its parts.
use Rattle.std.proofs.Common.{List, ℕ, Result, Ok, Err, refl}
use Rattle.fwd_outside.specs.Sink.{SinkLog}
use Rattle.fwd_outside.proofs.LogGrowth.{grew_none}
use Rattle.fwd_top.specs.Answers.{Verdict, says, says_both, WroteIt}
use Rattle.fwd_top.specs.Results.{Writes, Tapes, WritesSo, WroteTheText, OutFailed, NoMemory, WritesVerdict, AllWritten, TextFailed, TextStopped, RecordFailed, RecordStopped}
use Rattle.fwd_top.specs.declared.status.Status.{Status}
use Rattle.fwd_top.specs.declared.status.Status.TheVariants as status

module _ (a b t : SinkLog) where
  -- without a schedule
  pub text_written : (text : List ℕ) (end result : Status) → WritesSo a b text end result → WritesVerdict a b t t (says text end) result
  text_written text end result (WroteTheText same wrote) = AllWritten same wrote (grew_none t)
  text_written text end result (OutFailed same wrote) = TextFailed same wrote (grew_none t)
  text_written text end result (NoMemory same wrote) = TextStopped same wrote (grew_none t)

  -- the text wasn't written to its end
  pub text_stopped : (T : Type 0) (verdict : Verdict) (result : Status) → Writes {T = T} a b verdict.text (Err result) → WritesVerdict a b t t verdict result
  text_stopped T verdict status.OutFault wrote = TextFailed refl wrote (grew_none t)
  text_stopped T verdict status.Memory wrote = TextStopped refl wrote (grew_none t)
  text_stopped T verdict other wrote = absurd wrote

-- it was, and the schedule wasn't
pub record_stopped : (T : Type 0) (a b t u : SinkLog) (text schedule : List ℕ) (end result : Status) → WroteIt a b text → Tapes {T = T} t u schedule (Err result) → WritesVerdict a b t u (says_both text end schedule) result
record_stopped T a b t u text schedule end status.RecordFault wrote taped = RecordFailed text schedule end refl refl wrote taped
record_stopped T a b t u text schedule end status.Memory wrote taped = RecordStopped text schedule end refl refl wrote taped
record_stopped T a b t u text schedule end other wrote taped = absurd taped
