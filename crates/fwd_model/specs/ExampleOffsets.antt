-- Two example runs that keep the offset of a followed file, as far as it goes: they get it, make turns and
-- put it. The first run reads a line and a part of the next, its first put fails, and it crashes. The second
-- run reads the second line whole.
use Rattle.std.specs.Prelude.{true, false, List, [], ◌∷◌, Some, None, codes}
use Rattle.fwd_parser.specs.LineEvent.{parsed}
use Rattle.fwd_outside.specs.Program.{Return, bind, entry}
use Rattle.fwd_outside.specs.Files.{Length, ReadAt}
use Rattle.fwd_outside.specs.declared.happening.Happening.{Happening}
use Rattle.fwd_outside.specs.declared.happening.Happening.TheVariants as happening
use Rattle.fwd_keeper.specs.Keeper.{KeeperCall, KeeperAnswer, Get, Put}
use Rattle.fwd_settings.specs.declared.settings_types.AllSettings.{AllSettings}
use Rattle.fwd_settings.specs.declared.settings_types.InputKind.TheVariants as input_kind
use Rattle.fwd_model.specs.Fact.{History, Batch, NoChunk, Happened, Resumed, Saved, Polled, Accepted}
use Rattle.fwd_model.specs.Trace.{TraceEntry, Action, OnKeeper}
use Rattle.fwd_model.specs.StepActions.{step}
use Rattle.fwd_model.specs.KeptOffsets.{tracked, gets, puts}
use Rattle.fwd_model.specs.Example.{plain, on_files, notes}

-- The input follows the file /l, and the database d keeps its offset. There are no outputs.
abbrev pub settings : AllSettings
settings = record {
  service =
      record {
        flush_ms = 1000;
        grace_s = 5;
        path = None;
        full = true;
        max_up = 128;
        backlog_limit = 5000000;
        base = 5;
        cap = 2000;
      };
  inputs =
      record {
        name = codes "tail.0";
        kind = input_kind.Tail (codes "/l" ∷ []) true;
        tag = Some (codes "app");
        stored = false;
        mem_limit = None;
        db = Some (codes "d");
        parser = plain;
        shared = None;
      }
      ∷ [];
  filters = [];
  outputs = [];
}

-- the start of a run
abbrev pub opens : Action History
opens = gets settings (tracked settings) Return Return []

-- a turn, and what is put after it
abbrev pub turn : Happening → History → Action History
turn happens h = bind (step settings happens h) (puts settings (tracked settings) Return)

abbrev pub first_run : Action History
first_run = bind opens (λ h. bind (turn (happening.Tick 1000) h) (turn (happening.Tick 1250)))

abbrev pub second_run : Action History
second_run = bind opens (turn (happening.Tick 2000))

-- ---- the traces

abbrev pub on_keeper : (call : KeeperCall) → KeeperAnswer call → TraceEntry
on_keeper call answer = entry (OnKeeper call) answer

abbrev pub of_first : Batch
of_first = record { input = 0; tag = codes "app"; events = parsed plain (codes "one") 1000 ∷ [] }

abbrev pub of_second : Batch
of_second = record { input = 0; tag = codes "app"; events = parsed plain (codes "two") 2000 ∷ [] }

-- Nothing is kept yet. The first line is read, and the put after it fails. It is tried again after the next
-- turn, in which nothing is read.
abbrev pub first_trace : List TraceEntry
first_trace =
    on_keeper (Get (codes "d") (codes "/l")) (Some None)
    ∷ notes (Happened (happening.Tick 1000))
    ∷ on_files (Length (codes "/l")) (Some 6)
    ∷ on_files (ReadAt (codes "/l") 0 1048576) (Some (codes "one\ntw"))
    ∷ notes (Polled 0 0 6 (codes "one\ntw"))
    ∷ notes (Accepted of_first NoChunk)
    ∷ on_keeper (Put (codes "d") (codes "/l") 4) None
    ∷ notes (Happened (happening.Tick 1250))
    ∷ on_files (Length (codes "/l")) (Some 6)
    ∷ on_files (ReadAt (codes "/l") 6 1048576) (Some [])
    ∷ notes (Polled 0 0 6 [])
    ∷ on_keeper (Put (codes "d") (codes "/l") 4) (Some tt)
    ∷ notes (Saved 0 0 4)
    ∷ []

-- reading resumes after the first line
abbrev pub second_trace : List TraceEntry
second_trace =
    on_keeper (Get (codes "d") (codes "/l")) (Some (Some 4))
    ∷ notes (Resumed 0 0 4)
    ∷ notes (Happened (happening.Tick 2000))
    ∷ on_files (Length (codes "/l")) (Some 8)
    ∷ on_files (ReadAt (codes "/l") 4 1048576) (Some (codes "two\n"))
    ∷ notes (Polled 0 0 8 (codes "two\n"))
    ∷ notes (Accepted of_second NoChunk)
    ∷ on_keeper (Put (codes "d") (codes "/l") 8) (Some tt)
    ∷ notes (Saved 0 0 8)
    ∷ []
