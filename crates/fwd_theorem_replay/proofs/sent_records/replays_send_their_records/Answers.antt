use Rattle.fwd_theorem_replay.proofs.SentRecords.{each_sends}
use Rattle.fwd_theorem_replay.proofs.sent_records.replays_send_their_records.Goals as goal

pub returns : goal.returns
returns c shown s turns lives reported settings is = each_sends s settings shown turns lives reported is
