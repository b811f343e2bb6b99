-- The trace of a script's notes.
use Rattle.std.specs.Prelude.{List, map}
use Rattle.fwd_outside.specs.Program.{entry}
use Rattle.fwd_outside.specs.Loop.{LoopEntry}
use Rattle.fwd_outside.specs.Loop as outside
use Rattle.fwd_script_loop.specs.declared.call_record.LoopNote.{LoopNote}
use Rattle.fwd_script_loop.specs.declared.call_record.LoopNote.TheVariants.{Start, Wait, Dial, Push, Close, Reply, DropConn, Word}
use Rattle.fwd_script_loop.specs.Lines.{word_answer}
use Rattle.fwd_script_loop.specs.Place.{taken_answer}
use Rattle.std.specs.Prelude.{Some}

abbrev pub entry_of : LoopNote → LoopEntry
entry_of (Start ends) = entry (outside.Start ends) (Some tt)
entry_of (Wait until paused brought) = entry (outside.Wait until paused) brought
entry_of (Dial output tag link) = entry (outside.Dial output.0 tag) link
entry_of (Push link bytes answer) = entry (outside.Push link.0 bytes) (word_answer answer)
entry_of (Close link) = entry (outside.Close link.0) tt
entry_of (Reply conn bytes taken) = entry (outside.Reply conn.0 bytes) (taken_answer taken)
entry_of (DropConn conn) = entry (outside.DropConn conn.0) tt
entry_of (Word word) = entry outside.Word word

abbrev pub entries_of : List LoopNote → List LoopEntry
entries_of notes = map entry_of notes
