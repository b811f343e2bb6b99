use Rattle.fwd_theorem_delivery.proofs.RetryWaits.{limited_in_life, limited_by_settings}
use Rattle.fwd_theorem_delivery.proofs.retries.tries_are_limited.Goals as goal

pub returns-clause-settings : goal.returns-clause-settings
returns-clause-settings c s ends ticks turns entries left r output n way at limited small = limited_by_settings s ends ticks turns entries left r output n way at limited small

pub returns-clause-limit : goal.returns-clause-limit
returns-clause-limit c s ends ticks turns entries left r n way limited small = limited_in_life s ends ticks turns entries left r n way limited small
