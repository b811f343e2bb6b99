-- The definitions' view of words and files.
use Rattle.std.specs.Prelude.{option_map}
use Rattle.fwd_top.specs.Words.{Command, Run, Record, Replay, ListFolder, Generate, RunOptions}
use Rattle.fwd_top.specs.Cases.{Wanted, ToRun, ToRecord, ToReplay}
use Rattle.fwd_top.specs.declared.job.Wanted.{Wanted as WantedSo}
use Rattle.fwd_top.specs.declared.job.Wanted.TheVariants as wanted
use Rattle.fwd_top.specs.declared.words.Command.{Command as Words}
use Rattle.fwd_top.specs.declared.words.Command.TheVariants as words
use Rattle.fwd_top.specs.declared.words.RunOptions.{RunOptions as Options}

abbrev pub wanted_of : WantedSo → Wanted
wanted_of (wanted.ToRun ticks) = ToRun ticks
wanted_of (wanted.ToRecord ticks) = ToRecord ticks
wanted_of (wanted.ToReplay schedule) = ToReplay schedule.now

abbrev pub command : Words → Command
command (words.Run config ticks) = Run config.now ticks
command (words.Record config ticks tape) = Record config.now ticks tape.now
command (words.Replay config schedule) = Replay config.now schedule.now
command (words.List folder) = ListFolder folder.now
command (words.Generate count) = Generate count

abbrev pub run_options : Options → RunOptions
run_options so_far = record {
  config = option_map (λ word. word.now) so_far.config;
  ticks = so_far.ticks;
  tape = option_map (λ word. word.now) so_far.tape;
}
