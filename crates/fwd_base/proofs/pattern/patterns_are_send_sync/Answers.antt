use denote.Param.Send.{sendable}
use Rattle.fwd_base.proofs.SendSync.{crosses}
use Rattle.fwd_base.proofs.pattern.patterns_are_send_sync.Goals as goal

-- src/pattern.rt:137:5
pub crosses-requires-send-T : goal.crosses-requires-send-T
crosses-requires-send-T c κs = search (sendable, crosses)

-- src/pattern.rt:137:5
pub crosses-requires-sync-T : goal.crosses-requires-sync-T
crosses-requires-sync-T c κs = search (sendable, crosses)
