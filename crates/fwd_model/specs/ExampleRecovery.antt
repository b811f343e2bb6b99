-- The run after a crash of the example run, while output 1 was being sent the message. Recovery loads its
-- chunk as pending for this output alone, since the file marks output 0 as done. The followed file is read
-- again.
use Rattle.std.specs.Prelude.{ℕ, List, [], ◌∷◌, ◌++◌, take, drop, Some, None, codes}
use Rattle.fwd_parser.specs.LineEvent.{parsed}
use Rattle.fwd_outside.specs.Loop.{Start, Wait, Dial, Push, Took, Close}
use Rattle.fwd_outside.specs.Disk.{Sync, Remove, Read, ListNames}
use Rattle.fwd_outside.specs.Files.{Length, ReadAt}
use Rattle.fwd_outside.specs.declared.ends.Ends.{Ends}
use Rattle.fwd_outside.specs.declared.happening.Happening.TheVariants as happening
use Rattle.fwd_model.specs.Fact.{Batch, NewChunk, FlushStarted, InFlight, Delivered, Happened, Polled, Offered, Accepted, ChunkClosed, Sent, OnRoute, Removed}
use Rattle.fwd_model.specs.Trace.{TraceEntry}
use Rattle.fwd_model.specs.Routes.{route}
use Rattle.fwd_model.specs.Fact.{Found, Retries}
use Rattle.fwd_outside.specs.Loop.{Word}
use Rattle.fwd_model.specs.Example.{plain, stored, file, file_name, sent, reply, on_loop, on_disk, on_files, notes, link_2, of_message, awaiting}

abbrev pub later_line : List ℕ
later_line = codes "{\"date\":1.500000000,\"log\":\"aa\"}\n"

-- the file, which marks output 0 as done
abbrev pub recorded_file : List ℕ
recorded_file = take 32 file ++ 68 ∷ drop 33 file

abbrev pub of_line : Batch
of_line = record { input = 1; tag = codes "app"; events = parsed plain (codes "aa") 1500 ∷ [] }

-- recovery loads the file
abbrev pub finds : Ends → List TraceEntry
finds ends =
    on_disk (ListNames (codes "S")) (Some (codes "forward.0" ∷ []))
    ∷ on_disk (ListNames (codes "S/forward.0")) (Some (codes "00000000000000000001.flb" ∷ []))
    ∷ on_disk (Sync file_name) (Some tt)
    ∷ on_disk (Read file_name 0 67108865) (Some recorded_file)
    ∷ notes (Found 1 (codes "forward.0") (codes "00000000000000000001.flb") recorded_file)
    ∷ on_loop (Start ends) (Some tt)
    ∷ []

-- a tick: the followed file gives its line again, and output 1 refuses a dial
abbrev pub is_refused : List TraceEntry
is_refused =
    on_loop (Wait 250 0) (happening.Tick 1500)
    ∷ notes (Happened (happening.Tick 1500))
    ∷ on_files (Length (codes "/l")) (Some 4)
    ∷ on_files (ReadAt (codes "/l") 0 1048576) (Some (codes "aa\nb"))
    ∷ notes (Polled 1 0 4 (codes "aa\nb"))
    ∷ notes (Offered 2 of_line)
    ∷ notes (Accepted of_line (NewChunk 2))
    ∷ notes (ChunkClosed 2)
    ∷ on_disk (Read file_name 53 17) (Some stored)
    ∷ notes (OnRoute (route 1 1) (FlushStarted of_message.events))
    ∷ on_loop (Dial 1 (codes "t")) None
    ∷ notes (Sent 1 0)
    ∷ on_loop Word 0
    ∷ notes (OnRoute (route 1 1) (Retries 0))
    ∷ notes (OnRoute (route 2 0) (FlushStarted of_line.events))
    ∷ on_loop (Dial 0 (codes "app")) (Some 1)
    ∷ on_loop (Push 1 later_line) (Took 32)
    ∷ on_loop (Close 1) tt
    ∷ notes (Sent 0 32)
    ∷ notes (OnRoute (route 2 0) Delivered)
    ∷ notes (Removed 2)
    ∷ []

-- five seconds later the route is retried and acknowledged
abbrev pub is_taken : List TraceEntry
is_taken =
    on_loop (Wait 1750 0) (happening.Tick 6500)
    ∷ notes (Happened (happening.Tick 6500))
    ∷ on_files (Length (codes "/l")) (Some 4)
    ∷ on_files (ReadAt (codes "/l") 4 1048576) (Some [])
    ∷ notes (Polled 1 0 4 [])
    ∷ on_disk (Read file_name 53 17) (Some stored)
    ∷ notes (OnRoute (route 1 1) (FlushStarted of_message.events))
    ∷ on_loop (Dial 1 (codes "t")) (Some 2)
    ∷ on_loop (Push 2 sent) (Took 58)
    ∷ notes (Sent 1 58)
    ∷ notes (OnRoute (route 1 1) (InFlight awaiting))
    ∷ on_loop (Wait 6750 0) (happening.Back link_2 reply)
    ∷ notes (Happened (happening.Back link_2 reply))
    ∷ on_loop (Close 2) tt
    ∷ notes (Sent 1 0)
    ∷ notes (OnRoute (route 1 1) Delivered)
    ∷ on_disk (Remove file_name) (Some tt)
    ∷ notes (Removed 1)
    ∷ []

abbrev pub stops : List TraceEntry
stops = on_loop (Wait 6750 0) happening.Stop ∷ notes (Happened happening.Stop) ∷ []

abbrev pub later_trace : Ends → List TraceEntry
later_trace ends = finds ends ++ is_refused ++ is_taken ++ stops
