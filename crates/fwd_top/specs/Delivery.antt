-- What is run keeps the delivery guarantee.
use Rattle.std.specs.Prelude.{◌≡◌, ◌⊎◌, ◌≤◌, ℕ, ◌-◌, List, [], ◌∷◌, ◌++◌, Option, Some, None}
use Rattle.fwd_outside.specs.Loop.{LoopLog}
use Rattle.fwd_outside.specs.NewLinks.{AreNewLinks}
use Rattle.fwd_settings.specs.declared.settings_types.AllSettings.{AllSettings}
use Rattle.fwd_script.specs.declared.schedule.Life.{Life}
use Rattle.fwd_model.specs.Trace.{TraceEntry, loop_part}
use Rattle.fwd_theorem_trace.specs.Waits.{waits_in}
use Rattle.fwd_theorem_delivery.specs.Guarantee.{KeepsGuarantee}
use Rattle.fwd_replay.specs.LiveRun.{IsRunLive, RanToEnd, RanOutOfMemory}
use Rattle.fwd_replay.specs.Runs.{IsReplayed, Ended, WasCut, OutOfMemory, Start, first}
use Rattle.fwd_replay.specs.declared.report.Reported.{Reported}
use Rattle.fwd_replay.specs.declared.report.Shown.{Shown}
use Rattle.fwd_replay.specs.declared.report.Shown.TheVariants.{All, Report}
use Rattle.fwd_top.specs.Cases.{Case, Replays, Generates, Runs, Records, Lists, Refuses}
use Rattle.fwd_top.specs.Outcomes.{Platform, Produces, world}

-- each run of a replay does, up to its end or to the turn in which it is cut
abbrev pub EachIsDelivered : (shown : Shown) (s : AllSettings) (turns : ℕ) (start : Start) (lives : List Life)
    (reported : Reported) → IsReplayed shown s turns start lives reported → Type 0
EachIsDelivered shown s turns start [] reported is = Unit {0}
EachIsDelivered shown s turns start (planned ∷ lives) reported (Ended ends) =
    KeepsGuarantee s ends.trace
EachIsDelivered shown s turns start (planned ∷ lives) reported (WasCut c is rest more joins) =
    KeepsGuarantee s c.before
    × EachIsDelivered shown s (turns - waits_in (c.before ++ c.turn)) c.next lives rest more
EachIsDelivered shown s turns start (planned ∷ lives) reported (OutOfMemory none) = Unit {0}

-- A run that was broken off hasn't waited yet, or it keeps the guarantee up to the end of its last whole
-- turn: it has waited at most once since.
abbrev pub KeepsToLastTurn : AllSettings → List TraceEntry → Type 0
KeepsToLastTurn s trace = (waits_in trace ≡ 0)
    ⊎ ((whole : List TraceEntry) × (since : List TraceEntry) × (trace ≡ whole ++ since) × (waits_in since ≤ 1)
    × KeepsGuarantee s whole)

-- a run over devices does, to its end or to the last whole turn before memory ran out
abbrev pub RunIsDelivered : (s : AllSettings) (ticks : Option ℕ) (turns : ℕ) (old new : Platform)
    (reported : Reported) → IsRunLive s ticks turns (world old) (world new) reported → Type 0
RunIsDelivered s ticks turns old new reported (RanToEnd run) = KeepsGuarantee s run.trace
RunIsDelivered s ticks turns old new reported (RanOutOfMemory begun none) = KeepsToLastTurn s begun.trace

-- each run of the outcome of a case
abbrev pub IsDelivered : (turns : ℕ) (case : Case) (old new : Platform) (reported : Reported)
    → Produces turns case old new reported → Type 0
IsDelivered turns (Replays s lives) old new reported comes =
    EachIsDelivered All s turns first lives reported comes.replayed
IsDelivered turns (Generates s lives) old new reported comes =
    EachIsDelivered Report s turns first lives reported comes.replayed
IsDelivered turns (Runs s ticks) old new reported comes = RunIsDelivered s ticks turns old new reported comes
IsDelivered turns (Records s ticks) old new reported comes = Unit {0}
IsDelivered turns (Lists root) old new reported comes = Unit {0}
IsDelivered turns (Refuses other) old new reported comes = Unit {0}
