-- A program of one device as an action on all devices.
use Rattle.fwd_outside.specs.Program.{Return, Ask}
use Rattle.fwd_outside.specs.Loop.{LoopProgram}
use Rattle.fwd_outside.specs.Disk.{DiskProgram}
use Rattle.fwd_outside.specs.Files.{FilesProgram}
use Rattle.fwd_model.specs.Trace.{Action, OnLoop, OnDisk, OnFiles}

abbrev pub on_loop : {R : Type 0} → LoopProgram R → Action R
on_loop (Return x) = Return x
on_loop (Ask call go) = Ask (OnLoop call) (λ answer. on_loop (go answer))

abbrev pub on_disk : {R : Type 0} → DiskProgram R → Action R
on_disk (Return x) = Return x
on_disk (Ask call go) = Ask (OnDisk call) (λ answer. on_disk (go answer))

abbrev pub on_files : {R : Type 0} → FilesProgram R → Action R
on_files (Return x) = Return x
on_files (Ask call go) = Ask (OnFiles call) (λ answer. on_files (go answer))
