-- The table of the lines: the meaning of each line by its keyword and the words after it.
use Rattle.std.specs.Prelude.{ℕ, Bool, true, false, if◌then◌else◌, List, codes, Option, Some, None, Result, Ok, Err}
use Rattle.std.specs.Str.{bytes_eq}
use Rattle.fwd_base.specs.declared.ids.InputId.{InputId}
use Rattle.fwd_base.specs.declared.ids.OutputId.{OutputId}
use Rattle.fwd_base.specs.declared.ids.ConnId.{ConnId}
use Rattle.fwd_base.specs.declared.ids.LinkId.{LinkId}
use Rattle.fwd_outside.specs.declared.happening.Happening.{Happening}
use Rattle.fwd_outside.specs.declared.happening.Happening.TheVariants as happening
use Rattle.fwd_script.specs.declared.keywords.Keyword.{Keyword}
use Rattle.fwd_script.specs.declared.keywords.Keyword.TheVariants.{Tick, Ticks, Joined, Piece, Gone, InputEnd, Room, Back, Broken, Stop, Failed, Append, Cut, Dial, Push, Reply, Word, Disk, File, Store, Crash}
use Rattle.fwd_script.specs.declared.meaning.LineMeaning.{LineMeaning}
use Rattle.fwd_script.specs.declared.meaning.LineMeaning.TheVariants.{Plans, Answers, DiskFails, FileFails, Stores, Crashes}
use Rattle.fwd_script.specs.declared.schedule.Planned.TheVariants as planned
use Rattle.fwd_files_mem.specs.declared.change.FileChange.TheVariants as change
use Rattle.fwd_script.specs.declared.schedule.Given.TheVariants as given
use Rattle.fwd_script.specs.declared.schedule.PushWord.{PushWord}
use Rattle.fwd_script.specs.declared.schedule.PushWord.TheVariants as push
use Rattle.fwd_script.specs.declared.refusal.ScheduleKind.{ScheduleKind}
use Rattle.fwd_script.specs.declared.refusal.ScheduleKind.TheVariants.{UnknownWord}
use Rattle.fwd_script.specs.Keywords.{keyword_of}
use Rattle.fwd_script.specs.Words.{Left, split_at_byte, Reader, ◌>>=◌, over, word, judged, number_to, number, id, octets, piece}

-- the line ends here, and is this loop event
abbrev pub happens : Happening → Reader LineMeaning
happens what = over (Plans (planned.Happens what))

-- IN and OUT, the indices in the configuration, and the numbers of connections and links
abbrev pub input : Reader InputId
input = do
  place ← id
  judged UnknownWord (Some (record { 0 = place }))

abbrev pub output : Reader OutputId
output = do
  place ← id
  judged UnknownWord (Some (record { 0 = place }))

abbrev pub conn : Reader ConnId
conn = do
  place ← number
  judged UnknownWord (Some (record { 0 = place }))

abbrev pub link : Reader LinkId
link = do
  place ← number
  judged UnknownWord (Some (record { 0 = place }))

-- `ok`, or the word for the opposite
abbrev pub ok_or_word : List ℕ → Reader Bool
ok_or_word not_taken = do
  chosen ← word
  judged UnknownWord
      (if bytes_eq chosen (codes "ok") then Some true else if bytes_eq chosen not_taken then Some false
      else None)

-- `took N`, `again` or `broken`
abbrev pub push_by : List ℕ → Reader PushWord
push_by chosen =
    if bytes_eq chosen (codes "took")
    then (do
      taken ← number
      judged UnknownWord (Some (push.Took taken)))
    else judged UnknownWord
    (if bytes_eq chosen (codes "again") then Some push.Again
    else if bytes_eq chosen (codes "broken") then Some push.Broken else None)

abbrev pub push_word : Reader PushWord
push_word = do
  chosen ← word
  push_by chosen

-- one clause a row; at most `left` clock readings may still come
abbrev pub row : Keyword → ℕ → Reader LineMeaning
row Tick left = do
  now ← number
  happens (happening.Tick now)
row Ticks left = do
  first ← number
  step ← number
  count ← number_to left
  over (Plans (planned.Ticks first step count))
row Joined left = do
  input ← input
  conn ← conn
  happens (happening.Joined input conn)
row Piece left = do
  input ← input
  conn ← conn
  bytes ← piece
  happens (happening.Piece input conn bytes)
row Gone left = do
  input ← input
  conn ← conn
  happens (happening.Gone input conn)
row InputEnd left = do
  input ← input
  happens (happening.InputEnd input)
row Room left = do
  link ← link
  happens (happening.Room link)
row Back left = do
  link ← link
  bytes ← octets
  happens (happening.Back link bytes)
row Broken left = do
  link ← link
  happens (happening.Broken link)
row Stop left = happens happening.Stop
row Failed left = happens happening.Failed
row Append left = do
  path ← word
  bytes ← octets
  over (Plans (planned.Changes (change.Append path bytes)))
row Cut left = do
  path ← word
  most ← number
  over (Plans (planned.Changes (change.Cut path most)))
row Dial left = do
  output ← output
  taken ← ok_or_word (codes "refused")
  over (Answers (given.Dial output taken))
row Push left = do
  output ← output
  push ← push_word
  over (Answers (given.Push output push))
row Reply left = do
  taken ← ok_or_word (codes "broken")
  over (Answers (given.Reply taken))
row Word left = do
  word ← number
  over (Answers (given.Word word))
row Disk left = do
  call ← number
  over (DiskFails call)
row File left = do
  call ← number
  over (FileFails call)
row Store left = do
  name ← word
  bytes ← octets
  over (Stores (record { name = name; bytes = bytes }))
row Crash left = do
  calls ← number
  pick ← number
  over (Crashes (record { calls = calls; pick = pick }))

abbrev pub row_of : Option Keyword → ℕ → Reader LineMeaning
row_of None left words = Err UnknownWord
row_of (Some keyword) left words = row keyword left words

-- the meaning of a whole line
abbrev pub whole_line : Result (LineMeaning × Left) ScheduleKind → Result LineMeaning ScheduleKind
whole_line (Ok read) = Ok read.0
whole_line (Err kind) = Err kind

abbrev pub line_meaning : ℕ → List ℕ → Result LineMeaning ScheduleKind
line_meaning left line =
    whole_line (row_of (keyword_of (split_at_byte 32 line).0) left (split_at_byte 32 line).1)
