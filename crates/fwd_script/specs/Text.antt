-- The text of a schedule.
use Rattle.std.specs.Prelude.{ℕ, ◌-◌, ◌==◌, ◌&&◌, ◌||◌, nat_le, Bool, if◌then◌else◌, List, [], ◌∷◌, ◌++◌, length, take, drop, map, codes, decimal, Option, Some, None}
use Rattle.std.specs.List.{list_all, flat_map}
use Rattle.hex.specs.Hex.{encode_lower}
use Rattle.fwd_outside.specs.declared.happening.Happening.{Happening}
use Rattle.fwd_outside.specs.declared.happening.Happening.TheVariants.{Tick, Joined, Piece, Gone, Room, Back, Broken, InputEnd, Stop, End, Failed}
use Rattle.fwd_script.specs.declared.schedule.Schedule.{Schedule}
use Rattle.fwd_script.specs.declared.schedule.Life.{Life}
use Rattle.fwd_script.specs.declared.schedule.Cut.{Cut}
use Rattle.fwd_script.specs.declared.schedule.Stored.{Stored}
use Rattle.fwd_script.specs.declared.schedule.Planned.{Planned}
use Rattle.fwd_script.specs.declared.schedule.Planned.TheVariants.{Happens, Ticks, Changes}
use Rattle.fwd_files_mem.specs.declared.change.FileChange.TheVariants as change
use Rattle.fwd_script.specs.declared.schedule.Given.{Given}
use Rattle.fwd_script.specs.declared.schedule.Given.TheVariants as given
use Rattle.fwd_script.specs.declared.schedule.PushWord.{PushWord}
use Rattle.fwd_script.specs.declared.schedule.PushWord.TheVariants as push

-- the text of a byte, its escape if it has one
abbrev pub byte_text : ℕ → List ℕ
byte_text byte =
    if byte == 10 then codes "\\n"
    else if byte == 13 then codes "\\r"
    else if byte == 9 then codes "\\t"
    else if byte == 92 then codes "\\\\"
    else byte ∷ []

-- bytes that are written as text: printable ones, and those with an escape
abbrev pub is_text : ℕ → Bool
is_text byte = (nat_le 32 byte && nat_le byte 126) || (byte == 10 || (byte == 13 || byte == 9))

abbrev pub octets_text : List ℕ → List ℕ
octets_text bytes =
    if list_all is_text bytes then codes "t:" ++ flat_map byte_text bytes
    else codes "x:" ++ encode_lower bytes

abbrev pub happening_text : Happening → List ℕ
happening_text (Tick now) = codes "tick " ++ decimal now
happening_text (Joined input conn) = codes "joined " ++ decimal input.0 ++ codes " " ++ decimal conn.0
happening_text (Piece input conn bytes) =
    codes "piece " ++ decimal input.0 ++ codes " " ++ decimal conn.0 ++ codes " " ++ octets_text bytes
happening_text (Gone input conn) = codes "gone " ++ decimal input.0 ++ codes " " ++ decimal conn.0
happening_text (Room link) = codes "room " ++ decimal link.0
happening_text (Back link bytes) = codes "back " ++ decimal link.0 ++ codes " " ++ octets_text bytes
happening_text (Broken link) = codes "broken " ++ decimal link.0
happening_text (InputEnd input) = codes "inputend " ++ decimal input.0
happening_text Stop = codes "stop"
happening_text Failed = codes "failed"
-- no line has this loop event
happening_text End = []

abbrev pub planned_text : Planned → List ℕ
planned_text (Happens happening) = happening_text happening
planned_text (Ticks first step count) =
    codes "ticks " ++ decimal first ++ codes " " ++ decimal step ++ codes " " ++ decimal count
planned_text (Changes (change.Append path bytes)) = codes "append " ++ path ++ codes " " ++ octets_text bytes
planned_text (Changes (change.Cut path most)) = codes "cut " ++ path ++ codes " " ++ decimal most

abbrev pub push_text : PushWord → List ℕ
push_text (push.Took taken) = codes "took " ++ decimal taken
push_text push.Again = codes "again"
push_text push.Broken = codes "broken"

abbrev pub given_text : Given → List ℕ
given_text (given.Dial output taken) =
    codes "dial " ++ decimal output.0 ++ (if taken then codes " ok" else codes " refused")
given_text (given.Push output push) = codes "push " ++ decimal output.0 ++ codes " " ++ push_text push
given_text (given.Reply taken) = if taken then codes "reply ok" else codes "reply broken"
given_text (given.Word word) = codes "word " ++ decimal word

abbrev pub stored_text : Stored → List ℕ
stored_text stored = codes "store " ++ stored.name ++ codes " " ++ octets_text stored.bytes

abbrev pub crash_text : Cut → List ℕ
crash_text cut = codes "crash " ++ decimal cut.calls ++ codes " " ++ decimal cut.pick

-- the lines of a plan; a crash comes before the last
abbrev pub plan_lines : Option Cut → List Planned → List (List ℕ)
plan_lines None plan = map planned_text plan
plan_lines (Some cut) plan =
    map planned_text (take (length plan - 1) plan)
    ++ crash_text cut ∷ map planned_text (drop (length plan - 1) plan)

abbrev pub disk_text : ℕ → List ℕ
disk_text call = codes "disk " ++ decimal call

abbrev pub file_text : ℕ → List ℕ
file_text call = codes "file " ++ decimal call

abbrev pub life_lines : Life → List (List ℕ)
life_lines life =
    map stored_text life.store ++ map disk_text life.disk_fails ++ map file_text life.file_fails
    ++ map given_text life.answers ++ plan_lines life.cut life.lines

-- each line ends in a line feed
abbrev pub ended_line : List ℕ → List ℕ
ended_line line = line ++ 10 ∷ []

abbrev pub ended_lines : List (List ℕ) → List ℕ
ended_lines lines = flat_map ended_line lines

abbrev pub text_of : Schedule → List ℕ
text_of schedule = flat_map (λ life. ended_lines (life_lines life)) schedule.lives
