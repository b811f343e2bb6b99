use denote.Param.Send.{sendable}
use mathlib.Core.List.{not-mem-nil}
use Rattle.std.proofs.Crossing as std
use Rattle.fwd.proofs.main.Goals as goal

pub run_words-status-requires-sync-typeof-threads : goal.run_words-status-requires-sync-typeof-threads
run_words-status-requires-sync-typeof-threads g c κs = (λ a mem. absurd (not-mem-nil mem), search (sendable, std.crosses) depth 40)
