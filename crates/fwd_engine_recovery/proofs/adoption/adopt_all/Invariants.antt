use Rattle.std.proofs.Common.{◌≡◌, List, drop}
use Rattle.std.specs.List.{AllZip}
use Rattle.fwd_backlog.specs.declared.file_read.FileRead.{FileRead}
use Rattle.fwd_backlog.specs.LoadProgram.{IsDescriptionOf}
use Rattle.fwd_backlog.specs.Serial.{next_number}
use Rattle.fwd_engine_recovery.specs.Adoption.{StoreIsReady}
use Rattle.fwd_engine_recovery.proofs.RecoveredParts.{IsBehind}
use Rattle.fwd_engine_recovery.proofs.adoption.adopt_all.Given as goal

abbrev pub invariant-loop-index : goal.invariant-loop-index
invariant-loop-index l =
    StoreIsReady l.run l.parts.store l.index (drop l.index l.found)
    × (l.parts.store.next ≡ next_number l.found)
    × ((files : List FileRead) → AllZip IsDescriptionOf files l.found → IsBehind l.run l.parts l.index l.found files)
