-- What a run of the program on its devices comes to.
use Rattle.std.specs.Prelude.{ℕ, ◌-◌, ◌^◌, List, String}
use Rattle.fwd_config.specs.Variables.{Values}
use Rattle.fwd_top.specs.declared.status.Status.{Status}
use Rattle.fwd_top.specs.declared.status.Status.TheVariants as status
use Rattle.fwd_top.specs.Forwards.{DevicesAt, Forwards}

-- a status for which no device was called: no loop could be made, or memory ran out
abbrev pub IsWithoutDevices : Status → Type 0
IsWithoutDevices status.Memory = Unit {0}
IsWithoutDevices status.LoopFault = Unit {0}
IsWithoutDevices other = ⊥

-- The devices couldn't be made, or this is what the call comes to with these words and variables, with as many
-- turns as a number of 64 bits allows, over some devices.
pub data ComesOfRun {Y : Type 0} (words : List (String Y)) (env : Values) (result : Status) : Type 0 where
  WithoutDevices : IsWithoutDevices result → ComesOfRun words env result
  OverDevices : (old new : DevicesAt) → Forwards words env (2 ^ 64 - 1) old new result
      → ComesOfRun words env result
