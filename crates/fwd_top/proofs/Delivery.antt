-- Each run of a replay keeps the delivery guarantee, since each run does.
use Rattle.std.proofs.Common.{ℕ, ◌-◌, List, [], ◌∷◌, ◌++◌}
use Rattle.fwd_settings.specs.declared.settings_types.AllSettings.{AllSettings}
use Rattle.fwd_script.specs.declared.schedule.Life.{Life}
use Rattle.fwd_model.specs.Trace.{TraceEntry}
use Rattle.fwd_model.specs.Run.{RunResult}
use Rattle.fwd_theorem_trace.specs.Waits.{waits_in}
use Rattle.fwd_theorem_delivery.specs.Guarantee.{KeepsGuarantee}
use Rattle.fwd_replay.specs.Runs.{CutRun, IsCut, IsLife, IsReplayed, Ended, WasCut, OutOfMemory, Start}
use Rattle.fwd_replay.specs.declared.report.Reported.{Reported}
use Rattle.fwd_replay.specs.declared.report.Shown.{Shown}
use Rattle.fwd_top.specs.Delivery.{EachIsDelivered}

abbrev LifeKeeps : Type 0
LifeKeeps = (s : AllSettings) (turns : ℕ) (start : Start) (planned : Life) (trace : List TraceEntry) (comes : RunResult) → IsLife s turns start planned trace comes → KeepsGuarantee s trace

abbrev CutKeeps : Type 0
CutKeeps = (s : AllSettings) (turns : ℕ) (start : Start) (planned : Life) (c : CutRun) → IsCut s turns start planned c → KeepsGuarantee s c.before

pub each_keeps : LifeKeeps → CutKeeps → (shown : Shown) (s : AllSettings) (turns : ℕ) (start : Start) (lives : List Life) (reported : Reported) (is : IsReplayed shown s turns start lives reported) → EachIsDelivered shown s turns start lives reported is
each_keeps whole cut shown s turns start [] reported is = tt
each_keeps whole cut shown s turns start (planned ∷ lives) reported (Ended ends) = whole s turns start planned ends.trace ends.comes ends.is
each_keeps whole cut shown s turns start (planned ∷ lives) reported (WasCut c is rest more joins) =
    (cut s turns start planned c is, each_keeps whole cut shown s (turns - waits_in (c.before ++ c.turn)) c.next lives rest more)
each_keeps whole cut shown s turns start (planned ∷ lives) reported (OutOfMemory none) = tt
