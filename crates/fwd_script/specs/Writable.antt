-- The schedules that a text can express.
use Rattle.std.specs.Prelude.{◌≡◌, ℕ, ◌^◌, ◌<◌, ◌≤◌, ◌==◌, false, List, [], ◌∷◌, ◌++◌, length, Some, None, All}
use Rattle.std.specs.List.{list_any, sum_by}
use Rattle.hex.specs.Hex.{IsBytes}
use Rattle.fwd_base.specs.Limits.{longest_piece, most_ticks}
use Rattle.fwd_outside.specs.declared.happening.Happening.{Happening}
use Rattle.fwd_outside.specs.declared.happening.Happening.TheVariants.{Tick, Joined, Piece, Gone, Room, Back, Broken, InputEnd, Stop, End, Failed}
use Rattle.fwd_script.specs.declared.schedule.Schedule.{Schedule}
use Rattle.fwd_script.specs.declared.schedule.Life.{Life}
use Rattle.fwd_script.specs.declared.schedule.Cut.{Cut}
use Rattle.fwd_script.specs.declared.schedule.Stored.{Stored}
use Rattle.fwd_script.specs.declared.schedule.Planned.{Planned}
use Rattle.fwd_script.specs.declared.schedule.Planned.TheVariants.{Happens, Ticks, Changes}
use Rattle.fwd_files_mem.specs.declared.change.FileChange.TheVariants as change
use Rattle.fwd_script.specs.declared.schedule.Given.{Given}
use Rattle.fwd_script.specs.declared.schedule.Given.TheVariants as given
use Rattle.fwd_script.specs.declared.schedule.PushWord.{PushWord}
use Rattle.fwd_script.specs.declared.schedule.PushWord.TheVariants as push
use Rattle.fwd_script.specs.Schedule.{ticks_of}

-- the numbers of a u32 and of a u64
abbrev pub Is32 : ℕ → Type 0
Is32 n = n < 2 ^ 32

abbrev pub Is64 : ℕ → Type 0
Is64 n = n < 2 ^ 64

-- the byte isn't among these
abbrev pub Lacks : ℕ → List ℕ → Type 0
Lacks byte text = list_any (λ x. x == byte) text ≡ false

-- a name or a path: it isn't empty, and has no space and no line feed
pub record IsName (name : List ℕ) : Type 0 where
  pub some : 0 < length name
  pub no_space : Lacks 32 name
  pub no_line_feed : Lacks 10 name

-- the limits of a loop event; `End` has no line
abbrev pub HappeningFits : Happening → Type 0
HappeningFits (Tick now) = Is64 now
HappeningFits (Joined input conn) = Is32 input.0 × Is64 conn.0
HappeningFits (Piece input conn bytes) =
    Is32 input.0 × Is64 conn.0 × (0 < length bytes) × (length bytes ≤ longest_piece) × IsBytes bytes
HappeningFits (Gone input conn) = Is32 input.0 × Is64 conn.0
HappeningFits (Room link) = Is64 link.0
HappeningFits (Back link bytes) = Is64 link.0 × IsBytes bytes
HappeningFits (Broken link) = Is64 link.0
HappeningFits (InputEnd input) = Is32 input.0
HappeningFits Stop = Unit {0}
HappeningFits Failed = Unit {0}
HappeningFits End = ⊥

abbrev pub PlannedFits : Planned → Type 0
PlannedFits (Happens happening) = HappeningFits happening
PlannedFits (Ticks first step count) = Is64 first × Is64 step × Is64 count
PlannedFits (Changes (change.Append path bytes)) = IsName path × IsBytes bytes
PlannedFits (Changes (change.Cut path most)) = IsName path × Is64 most

abbrev pub PushFits : PushWord → Type 0
PushFits (push.Took taken) = Is64 taken
PushFits push.Again = Unit {0}
PushFits push.Broken = Unit {0}

abbrev pub GivenFits : Given → Type 0
GivenFits (given.Dial output taken) = Is32 output.0
GivenFits (given.Push output push) = Is32 output.0 × PushFits push
GivenFits (given.Reply taken) = Unit {0}
GivenFits (given.Word word) = Is64 word

abbrev pub StoredFits : Stored → Type 0
StoredFits stored = IsName stored.name × IsBytes stored.bytes

pub record LifeFits (life : Life) : Type 0 where
  pub lines : All PlannedFits life.lines
  pub answers : All GivenFits life.answers
  pub disk_fails : All Is64 life.disk_fails
  pub file_fails : All Is64 life.file_fails
  pub store : All StoredFits life.store

-- the run ends in a crash, in the loop event that is the last of its lines
pub record Crashes (life : Life) : Type 0 where
  pub cut : Cut
  pub before : List Planned
  pub last : Happening
  pub has_cut : life.cut ≡ Some cut
  pub lines : life.lines ≡ before ++ Happens last ∷ []
  pub calls : Is64 cut.calls
  pub pick : Is64 cut.pick

-- there is a last run, without a crash; those before it crash
abbrev pub HasValidEnds : List Life → Type 0
HasValidEnds [] = ⊥
HasValidEnds (life ∷ []) = life.cut ≡ None
HasValidEnds (life ∷ next ∷ lives) = Crashes life × HasValidEnds (next ∷ lives)

-- only the first run finds files on the disk
abbrev pub StoresFirst : List Life → Type 0
StoresFirst [] = Unit {0}
StoresFirst (life ∷ lives) = All (λ later. later.store ≡ []) lives

-- how many clock readings the `ticks` lines of a run have
abbrev pub ticks_in : Life → ℕ
ticks_in life = sum_by ticks_of life.lines

-- numbers, sizes, names and orders are those of the format
pub record IsWritable (schedule : Schedule) : Type 0 where
  pub fits : All LifeFits schedule.lives
  pub ends : HasValidEnds schedule.lives
  pub stores : StoresFirst schedule.lives
  pub ticks : sum_by ticks_in schedule.lives ≤ most_ticks
