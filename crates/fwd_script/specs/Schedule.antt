-- The schedule of a text, or the first refusal of one of its lines.
use Rattle.std.specs.Prelude.{◌≡◌, ℕ, ◌+◌, ◌-◌, ◌==◌, Bool, true, false, not, ◌||◌, if◌then◌else◌, List, [], ◌∷◌, ◌++◌, Option, Some, None, is_some, Result, Ok, Err}
use Rattle.fwd_base.specs.Limits.{most_ticks}
use Rattle.fwd_script.specs.declared.keywords.Keyword.{Keyword}
use Rattle.fwd_script.specs.declared.meaning.LineMeaning.{LineMeaning}
use Rattle.fwd_script.specs.declared.meaning.LineMeaning.TheVariants.{Plans, Answers, DiskFails, FileFails, Stores, Crashes}
use Rattle.fwd_script.specs.declared.schedule.Schedule.{Schedule}
use Rattle.fwd_script.specs.declared.schedule.Life.{Life}
use Rattle.fwd_script.specs.declared.schedule.Planned.{Planned}
use Rattle.fwd_script.specs.declared.schedule.Planned.TheVariants.{Happens, Ticks, Changes}
use Rattle.fwd_script.specs.declared.refusal.ScheduleRefused.{ScheduleRefused}
use Rattle.fwd_script.specs.declared.refusal.ScheduleKind.{ScheduleKind}
use Rattle.fwd_script.specs.declared.refusal.ScheduleKind.TheVariants.{BadOrder}
use Rattle.fwd_script.specs.declared.reader.ScheduleReader.{ScheduleReader}
use Rattle.fwd_script.specs.Keywords.{keyword_of, is_one_happening}
use Rattle.fwd_script.specs.Words.{split_at_byte}
use Rattle.fwd_script.specs.Table.{line_meaning}

abbrev pub begins_with : ℕ → List (List ℕ) → List (List ℕ)
begins_with x [] = []
begins_with x (line ∷ lines) = (x ∷ line) ∷ lines

-- the lines of a text, split at each line feed
abbrev pub lines_of : List ℕ → List (List ℕ)
lines_of [] = [] ∷ []
lines_of (x ∷ xs) = if x == 10 then [] ∷ lines_of xs else begins_with x (lines_of xs)

-- the lines of the remaining text; none at its end
abbrev pub lines_left : Option (List ℕ) → List (List ℕ)
lines_left None = []
lines_left (Some text) = lines_of text

-- the lines that are skipped: empty ones, and those that begin with `#`
abbrev pub is_passed_over : List ℕ → Bool
is_passed_over [] = true
is_passed_over (first ∷ rest) = first == 35

-- a run without lines
abbrev pub empty_life : Life
empty_life = record { lines = []; answers = []; disk_fails = []; file_fails = []; store = []; cut = None }

-- before the first line
abbrev pub reader_start : ScheduleReader
reader_start = record { lives = []; life = empty_life; left = most_ticks; begun = false }

-- how many clock readings a `ticks` line has
abbrev pub ticks_of : Planned → ℕ
ticks_of (Happens happening) = 0
ticks_of (Ticks first step count) = count
ticks_of (Changes change) = 0

-- A planned line of loop events, not a change of a file. To a later `store` line, `ticks` with COUNT 0 is one
-- too.
abbrev pub is_happening : Planned → Bool
is_happening (Happens happening) = true
is_happening (Ticks first step count) = true
is_happening (Changes change) = false

-- a run with a cut is complete with the loop event
abbrev pub with_complete_life : Life → ScheduleReader → ScheduleReader
with_complete_life life so_far =
    if is_some life.cut then record so_far { lives = so_far.lives ++ life ∷ []; life = empty_life }
    else record so_far { life = life }

-- the state of the reader after a line of this meaning
abbrev pub after : LineMeaning → ScheduleReader → ScheduleReader
after (Plans planned) so_far =
    with_complete_life (record so_far.life { lines = so_far.life.lines ++ planned ∷ [] })
    (record so_far { left = so_far.left - ticks_of planned; begun = is_happening planned || so_far.begun })
after (Answers given) so_far =
    record so_far { life = record so_far.life { answers = so_far.life.answers ++ given ∷ [] } }
after (DiskFails call) so_far =
    record so_far { life = record so_far.life { disk_fails = so_far.life.disk_fails ++ call ∷ [] } }
after (FileFails call) so_far =
    record so_far { life = record so_far.life { file_fails = so_far.life.file_fails ++ call ∷ [] } }
after (Stores stored) so_far =
    record so_far { life = record so_far.life { store = so_far.life.store ++ stored ∷ [] } }
after (Crashes cut) so_far = record so_far { life = record so_far.life { cut = Some cut }; begun = true }

abbrev pub one_happening : Option Keyword → Bool
one_happening None = false
one_happening (Some keyword) = is_one_happening keyword

-- Whether the keyword of the next line that isn't skipped has exactly one loop event. If it has, a fault of
-- that line is refused there. Otherwise `BadOrder` is refused at the `crash` line, as it is if `crash` is the
-- last line.
abbrev pub next_is_happening : List (List ℕ) → Bool
next_is_happening [] = false
next_is_happening (line ∷ lines) =
    if is_passed_over line then next_is_happening lines
    else one_happening (keyword_of (split_at_byte 32 line).0)

-- whether a line of this meaning is allowed here, before those lines
abbrev pub in_order : ScheduleReader → LineMeaning → List (List ℕ) → Bool
in_order so_far (Plans planned) behind = true
in_order so_far (Answers given) behind = true
in_order so_far (DiskFails call) behind = true
in_order so_far (FileFails call) behind = true
in_order so_far (Stores stored) behind = not so_far.begun
in_order so_far (Crashes cut) behind = next_is_happening behind

abbrev pub ordered : ScheduleReader → List (List ℕ) → Result LineMeaning ScheduleKind
    → Result LineMeaning ScheduleKind
ordered so_far behind (Ok meaning) = if in_order so_far meaning behind then Ok meaning else Err BadOrder
ordered so_far behind (Err kind) = Err kind

-- a line that isn't skipped, before those lines: the faults of its words come first, its order last
unfoldable pub judge : ScheduleReader → List ℕ → List (List ℕ) → Result LineMeaning ScheduleKind
judge so_far line behind = ordered so_far behind (line_meaning so_far.left line)

-- the schedule that was read
abbrev pub schedule_so_far : ScheduleReader → Schedule
schedule_so_far so_far = record { lives = so_far.lives ++ so_far.life ∷ [] }

abbrev pub go_on : ℕ → (LineMeaning → Result Schedule ScheduleRefused) → Result LineMeaning ScheduleKind
    → Result Schedule ScheduleRefused
go_on number next (Ok meaning) = next meaning
go_on number next (Err kind) = Err (record { kind = kind; line = number })

-- the lines from this number on; the first refused line refuses the text
abbrev pub read_on : ScheduleReader → ℕ → List (List ℕ) → Result Schedule ScheduleRefused
read_on so_far number [] = Ok (schedule_so_far so_far)
read_on so_far number (line ∷ behind) =
    if is_passed_over line then read_on so_far (number + 1) behind
    else go_on number (λ meaning. read_on (after meaning so_far) (number + 1) behind)
    (judge so_far line behind)

unfoldable pub schedule_of : List ℕ → Result Schedule ScheduleRefused
schedule_of text = read_on reader_start 1 (lines_of text)

-- the reader accepted the line with this meaning, or refused it
abbrev pub IsRead : Result LineMeaning ScheduleKind → ScheduleReader → ScheduleReader → Type 0
IsRead judged old new = (meaning : LineMeaning) × (judged ≡ Ok meaning) × (new ≡ after meaning old)
