-- An example run. A forward message that asks for an acknowledgement goes into a file, and a followed file
-- gives a line. Both are sent, and the file marks the message's first output as done. The trace has the
-- calls with their results and the facts logged between them.
use Rattle.std.specs.Prelude.{ℕ, false, true, List, [], ◌∷◌, ◌++◌, Some, None, codes}
use Rattle.fwd_base.specs.declared.output_options.Form.TheVariants.{JsonLines}
use Rattle.fwd_base.specs.declared.output_options.Retries.TheVariants.{Times}
use Rattle.fwd_base.specs.declared.ids.ConnId.{ConnId}
use Rattle.fwd_base.specs.declared.ids.InputId.{InputId}
use Rattle.fwd_base.specs.declared.ids.LinkId.{LinkId}
use Rattle.fwd_event.specs.EventPrefix.{events_in}
use Rattle.fwd_json.specs.declared.floats.Floats.TheVariants.{Tagged}
use Rattle.fwd_parser.specs.declared.parser.Parser.{Parser}
use Rattle.fwd_parser.specs.declared.parser.Shape.TheVariants.{Plain}
use Rattle.fwd_parser.specs.LineEvent.{parsed}
use Rattle.fwd_outside.specs.Program.{entry}
use Rattle.fwd_outside.specs.Loop.{LoopCall, LoopAnswer, Start, Wait, Dial, Push, Took, Close, Reply}
use Rattle.fwd_outside.specs.Disk.{DiskCall, DiskAnswer, Place, WriteAt, Sync, Remove, Read, ListNames}
use Rattle.fwd_outside.specs.Files.{FilesCall, FilesAnswer, Length, ReadAt}
use Rattle.fwd_outside.specs.declared.ends.Ends.{Ends}
use Rattle.fwd_outside.specs.declared.happening.Happening.TheVariants as happening
use Rattle.fwd_flush.specs.declared.stage.Stage.TheVariants.{AwaitingAck}
use Rattle.fwd_flush.specs.FlushProgram.{Progress}
use Rattle.fwd_settings.specs.declared.settings_types.AllSettings.{AllSettings}
use Rattle.fwd_settings.specs.declared.settings_types.InputKind.TheVariants as input_kind
use Rattle.fwd_settings.specs.declared.settings_types.OutputKind.TheVariants as output_kind
use Rattle.fwd_model.specs.Fact.{Fact, Batch, NewChunk, FlushStarted, InFlight, Delivered, Happened, Polled, Offered, Accepted, ChunkClosed, Sent, OnRoute, MarkStarted, Marked, Removed}
use Rattle.fwd_model.specs.Trace.{TraceEntry, OnLoop, OnDisk, OnFiles, Note}
use Rattle.fwd_model.specs.Routes.{route}

-- ---- the settings

-- a line is an event with the key `log`
abbrev pub plain : Parser
plain = record { shape = Plain; time = None; floats = Tagged }

abbrev pub localhost : List ℕ
localhost = codes "127.0.0.1"

-- Input 0 takes forward messages and keeps its chunks in files. Input 1 follows the file /l. Output 0
-- matches every tag; output 1 matches tag t and uses acknowledgements.
abbrev pub settings : AllSettings
settings = record {
  service =
      record {
        flush_ms = 1000;
        grace_s = 5;
        path = Some (codes "S");
        full = true;
        max_up = 128;
        backlog_limit = 5000000;
        base = 5;
        cap = 2000;
      };
  inputs =
      record {
        name = codes "forward.0";
        kind = input_kind.Forward localhost 24224;
        tag = None;
        stored = true;
        mem_limit = None;
        db = None;
        parser = plain;
        shared = None;
      }
      ∷ record {
        name = codes "tail.0";
        kind = input_kind.Tail (codes "/l" ∷ []) true;
        tag = Some (codes "app");
        stored = false;
        mem_limit = None;
        db = None;
        parser = plain;
        shared = None;
      }
      ∷ [];
  filters = [];
  outputs =
      record {
        name = codes "stdout.0";
        id = codes "stdout.0";
        glob = codes "*";
        kind = output_kind.Stdout (record { form = JsonLines; floats = Tagged });
        retries = Times 1;
        total_limit = None;
        shared = None;
      }
      ∷ record {
        name = codes "forward.0";
        id = codes "forward.0";
        glob = codes "t";
        kind = output_kind.Forward localhost 24225 true false;
        retries = Times 2;
        total_limit = None;
        shared = None;
      }
      ∷ [];
}

-- ---- what arrives and what is sent

-- a message of tag t with the event {"a":1} at second 10, which asks for an acknowledgement, in two reads
abbrev pub first_piece : List ℕ
first_piece = 147 ∷ 161 ∷ 116 ∷ 196 ∷ 16 ∷ 146 ∷ 199 ∷ 8 ∷ 0 ∷ 0 ∷ []

abbrev pub second_piece : List ℕ
second_piece =
    0 ∷ 0 ∷ 10 ∷ 0 ∷ 0 ∷ 0 ∷ 0 ∷ 129 ∷ 161 ∷ 97 ∷ 1 ∷ 129 ∷ 165 ∷ 99 ∷ 104 ∷ 117 ∷ 110 ∷ 107 ∷ 162 ∷ 120 ∷ 49
    ∷ []

-- its acknowledgement
abbrev pub acknowledged : List ℕ
acknowledged = 129 ∷ 163 ∷ 97 ∷ 99 ∷ 107 ∷ 162 ∷ 120 ∷ 49 ∷ []

-- the event as it is stored
abbrev pub stored : List ℕ
stored = 146 ∷ 146 ∷ 215 ∷ 0 ∷ 0 ∷ 0 ∷ 0 ∷ 10 ∷ 0 ∷ 0 ∷ 0 ∷ 0 ∷ 128 ∷ 129 ∷ 161 ∷ 97 ∷ 1 ∷ []

-- the file of its chunk, which names both outputs
abbrev pub file_name : List ℕ
file_name = codes "S/forward.0/00000000000000000001.flb"

abbrev pub file : List ℕ
file =
    193 ∷ 0 ∷ 0 ∷ 0 ∷ 0 ∷ 0 ∷ 2 ∷ 0 ∷ 0 ∷ 0 ∷ 0 ∷ 0 ∷ 0 ∷ 0 ∷ 0 ∷ 0 ∷ 0 ∷ 17 ∷ 0 ∷ 0 ∷ 0 ∷ 0 ∷ 0 ∷ 29 ∷ 241
    ∷ 119 ∷ 0 ∷ 2 ∷ 0 ∷ 1 ∷ 116 ∷ 2 ∷ 0 ∷ 8 ∷ 115 ∷ 116 ∷ 100 ∷ 111 ∷ 117 ∷ 116 ∷ 46 ∷ 48 ∷ 0 ∷ 9 ∷ 102 ∷ 111
    ∷ 114 ∷ 119 ∷ 97 ∷ 114 ∷ 100 ∷ 46 ∷ 48 ∷ 146 ∷ 146 ∷ 215 ∷ 0 ∷ 0 ∷ 0 ∷ 0 ∷ 10 ∷ 0 ∷ 0 ∷ 0 ∷ 0 ∷ 128 ∷ 129
    ∷ 161 ∷ 97 ∷ 1 ∷ []

-- what output 0 is sent for each chunk, and output 1 for the first
abbrev pub printed : List ℕ
printed = codes "{\"date\":10.000000000,\"a\":1}\n"

abbrev pub printed_line : List ℕ
printed_line = codes "{\"date\":1.000000000,\"log\":\"aa\"}\n"

abbrev pub sent : List ℕ
sent =
    147 ∷ 161 ∷ 116 ∷ 196 ∷ 15 ∷ 146 ∷ 215 ∷ 0 ∷ 0 ∷ 0 ∷ 0 ∷ 10 ∷ 0 ∷ 0 ∷ 0 ∷ 0 ∷ 129 ∷ 161 ∷ 97 ∷ 1 ∷ 130
    ∷ 164 ∷ 115 ∷ 105 ∷ 122 ∷ 101 ∷ 1 ∷ 165 ∷ 99 ∷ 104 ∷ 117 ∷ 110 ∷ 107 ∷ 184 ∷ 65 ∷ 65 ∷ 65 ∷ 65 ∷ 65 ∷ 65
    ∷ 65 ∷ 65 ∷ 65 ∷ 65 ∷ 69 ∷ 65 ∷ 65 ∷ 65 ∷ 65 ∷ 66 ∷ 65 ∷ 65 ∷ 65 ∷ 65 ∷ 65 ∷ 65 ∷ 61 ∷ 61 ∷ []

-- the reply to that
abbrev pub reply : List ℕ
reply =
    129 ∷ 163 ∷ 97 ∷ 99 ∷ 107 ∷ 184 ∷ 65 ∷ 65 ∷ 65 ∷ 65 ∷ 65 ∷ 65 ∷ 65 ∷ 65 ∷ 65 ∷ 65 ∷ 69 ∷ 65 ∷ 65 ∷ 65 ∷ 65
    ∷ 66 ∷ 65 ∷ 65 ∷ 65 ∷ 65 ∷ 65 ∷ 65 ∷ 61 ∷ 61 ∷ []

-- ---- the trace

abbrev pub on_loop : (call : LoopCall) → LoopAnswer call → TraceEntry
on_loop call answer = entry (OnLoop call) answer

abbrev pub on_disk : (call : DiskCall) → DiskAnswer call → TraceEntry
on_disk call answer = entry (OnDisk call) answer

abbrev pub on_files : (call : FilesCall) → FilesAnswer call → TraceEntry
on_files call answer = entry (OnFiles call) answer

abbrev pub notes : Fact → TraceEntry
notes fact = entry (Note fact) tt

abbrev pub input_0 : InputId
input_0 = record { 0 = 0 }

abbrev pub peer : ConnId
peer = record { 0 = 7 }

abbrev pub link_2 : LinkId
link_2 = record { 0 = 2 }

-- the batches of the message and of the line
abbrev pub of_message : Batch
of_message = record { input = 0; tag = codes "t"; events = (events_in stored).0 }

abbrev pub of_line : Batch
of_line = record { input = 1; tag = codes "app"; events = parsed plain (codes "aa") 1000 ∷ [] }

-- the message arrives, and is acknowledged once its file is written
abbrev pub arrives : Ends → List TraceEntry
arrives ends =
    on_disk (ListNames (codes "S")) (Some [])
    ∷ on_loop (Start ends) (Some tt)
    ∷ on_loop (Wait 250 0) (happening.Joined input_0 peer)
    ∷ notes (Happened (happening.Joined input_0 peer))
    ∷ on_loop (Wait 250 0) (happening.Piece input_0 peer first_piece)
    ∷ notes (Happened (happening.Piece input_0 peer first_piece))
    ∷ on_loop (Wait 250 0) (happening.Piece input_0 peer second_piece)
    ∷ notes (Happened (happening.Piece input_0 peer second_piece))
    ∷ notes (Offered 1 of_message)
    ∷ on_disk (Place file_name file) (Some tt)
    ∷ notes (Accepted of_message (NewChunk 1))
    ∷ on_loop (Reply 7 acknowledged) (Some tt)
    ∷ []

-- a tick: the followed file gives a line, and both chunks close
abbrev pub closes_both : List TraceEntry
closes_both =
    on_loop (Wait 250 0) (happening.Tick 1000)
    ∷ notes (Happened (happening.Tick 1000))
    ∷ on_files (Length (codes "/l")) (Some 4)
    ∷ on_files (ReadAt (codes "/l") 0 1048576) (Some (codes "aa\nb"))
    ∷ notes (Polled 1 0 4 (codes "aa\nb"))
    ∷ notes (Offered 2 of_line)
    ∷ notes (Accepted of_line (NewChunk 2))
    ∷ notes (ChunkClosed 1)
    ∷ notes (ChunkClosed 2)
    ∷ []

-- output 0 takes the first chunk, and its file marks that
abbrev pub prints : List TraceEntry
prints =
    on_disk (Read file_name 53 17) (Some stored)
    ∷ notes (OnRoute (route 1 0) (FlushStarted of_message.events))
    ∷ on_loop (Dial 0 (codes "t")) (Some 1)
    ∷ on_loop (Push 1 printed) (Took 28)
    ∷ on_loop (Close 1) tt
    ∷ notes (Sent 0 28)
    ∷ notes (OnRoute (route 1 0) Delivered)
    ∷ notes (MarkStarted (route 1 0))
    ∷ on_disk (WriteAt file_name 32 (68 ∷ [])) (Some tt)
    ∷ on_disk (Sync file_name) (Some tt)
    ∷ notes (Marked (route 1 0))
    ∷ []

-- output 1 is sent the first chunk, and doesn't reply yet
abbrev pub awaiting : Progress
awaiting = record { stage = AwaitingAck link_2; taken = 58; reply = [] }

abbrev pub sends : List TraceEntry
sends =
    on_disk (Read file_name 53 17) (Some stored)
    ∷ notes (OnRoute (route 1 1) (FlushStarted of_message.events))
    ∷ on_loop (Dial 1 (codes "t")) (Some 2)
    ∷ on_loop (Push 2 sent) (Took 58)
    ∷ notes (Sent 1 58)
    ∷ notes (OnRoute (route 1 1) (InFlight awaiting))
    ∷ []

-- output 0 takes the second chunk, which is then pending for no output
abbrev pub prints_line : List TraceEntry
prints_line =
    notes (OnRoute (route 2 0) (FlushStarted of_line.events))
    ∷ on_loop (Dial 0 (codes "app")) (Some 3)
    ∷ on_loop (Push 3 printed_line) (Took 32)
    ∷ on_loop (Close 3) tt
    ∷ notes (Sent 0 32)
    ∷ notes (OnRoute (route 2 0) Delivered)
    ∷ notes (Removed 2)
    ∷ []

-- output 1 acknowledges the first chunk, and its file is removed
abbrev pub acknowledges : List TraceEntry
acknowledges =
    on_loop (Wait 1250 0) (happening.Back link_2 reply)
    ∷ notes (Happened (happening.Back link_2 reply))
    ∷ on_loop (Close 2) tt
    ∷ notes (Sent 1 0)
    ∷ notes (OnRoute (route 1 1) Delivered)
    ∷ on_disk (Remove file_name) (Some tt)
    ∷ notes (Removed 1)
    ∷ []

abbrev pub stops : List TraceEntry
stops = on_loop (Wait 1250 0) happening.Stop ∷ notes (Happened happening.Stop) ∷ []

abbrev pub trace : Ends → List TraceEntry
trace ends = arrives ends ++ closes_both ++ prints ++ sends ++ prints_line ++ acknowledges ++ stops
