use denote.Param.Send.{sendable}
use Rattle.std.proofs.Crossing as std
use Rattle.fwd_filters.proofs.ThreadSafety.{crosses}
use Rattle.fwd_filters.proofs.filter_step.steps_are_thread_safe.Goals as goal

pub crosses-requires-send-T : goal.crosses-requires-send-T
crosses-requires-send-T c κs = search (sendable, std.crosses, crosses) depth 40

pub crosses-requires-sync-T : goal.crosses-requires-sync-T
crosses-requires-sync-T c κs = search (sendable, std.crosses, crosses) depth 40
