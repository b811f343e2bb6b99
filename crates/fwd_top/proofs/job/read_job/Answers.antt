use Rattle.std.proofs.Common.{◌≡◌, Option, Some, None, map, string_bytes, refl, sym, ap, ◌∙◌}
use Rattle.std.specs.Prelude.{option_map}
use Rattle.fwd_config.specs.Variables.{environment}
use Rattle.fwd_top.specs.Words.{Command, Run, Replay, command_of}
use Rattle.fwd_top.specs.Cases.{ToRun, ToRecord, ToReplay}
use Rattle.fwd_top.specs.Results.{case_of}
use Rattle.fwd_top.specs.Views.{command}
use Rattle.fwd_top.specs.declared.words.Command.{Command as Words}
use Rattle.fwd_top.specs.declared.status.Status.TheVariants as status
use Rattle.fwd_top.proofs.Calls.{other_words, folder_words, load_words, asks_of}
use Rattle.fwd_top.proofs.job.read_job.Goals as goal

-- the words as they were read
abbrev seen : Option Words → Option Command
seen words = option_map command words

pub returns-in-Some-Run-clause-asks : goal.returns-in-Some-Run-clause-asks
returns-in-Some-Run-clause-asks g c =
    let is : command_of (map string_bytes c.args.words.now) ≡ Some (Run c.in-Some-Run.config.now c.in-Some-Run.ticks) = sym c.read_words.ensures ∙ ap seen c.in-Some-Run.is ∙ ap (λ (w : Words). Some (command w)) c.in-Some-Run.field-0-is in
    asks_of c.args.words.now (environment c.args.env.now) _ _ (Run c.in-Some-Run.config.now c.in-Some-Run.ticks) c.in-Some-Run.config.now (ToRun c.in-Some-Run.ticks) (case_of c.job_of_config.result) is (λ checked. refl) c.job_of_config.ensures.asks

pub returns-in-Some-Record-clause-asks : goal.returns-in-Some-Record-clause-asks
returns-in-Some-Record-clause-asks g c =
    let is = sym c.read_words.ensures ∙ ap seen c.in-Some-Record.is ∙ ap (λ (w : Words). Some (command w)) c.in-Some-Record.field-0-is in
    asks_of c.args.words.now (environment c.args.env.now) _ _ _ c.in-Some-Record.config.now (ToRecord c.in-Some-Record.ticks) (case_of c.job_of_config-in-Some-Record.result) is (λ checked. refl) c.job_of_config-in-Some-Record.ensures.asks

pub returns-in-Some-Replay-clause-asks : goal.returns-in-Some-Replay-clause-asks
returns-in-Some-Replay-clause-asks g c =
    let is : command_of (map string_bytes c.args.words.now) ≡ Some (Replay c.in-Some-Replay.config.now c.in-Some-Replay.schedule.now) = sym c.read_words.ensures ∙ ap seen c.in-Some-Replay.is ∙ ap (λ (w : Words). Some (command w)) c.in-Some-Replay.field-0-is in
    asks_of c.args.words.now (environment c.args.env.now) _ _ (Replay c.in-Some-Replay.config.now c.in-Some-Replay.schedule.now) c.in-Some-Replay.config.now (ToReplay c.in-Some-Replay.schedule.now) (case_of c.job_of_config-in-Some-Replay.result) is (λ checked. refl) c.job_of_config-in-Some-Replay.ensures.asks

pub returns-in-Some-List-clause-asks : goal.returns-in-Some-List-clause-asks
returns-in-Some-List-clause-asks g c =
    folder_words c.args.words.now (environment c.args.env.now) (g.F.Files.call_log c.args.files.now) (g.F.Files.call_log c.args.files.now) c.in-Some-List.folder.now c.job_of_folder.result c.job_of_folder.ensures.job c.job_of_folder.ensures.refusal
    (sym c.read_words.ensures ∙ ap seen c.in-Some-List.is ∙ ap (λ (w : Words). Some (command w)) c.in-Some-List.field-0-is)

pub returns-in-Some-Generate-clause-asks : goal.returns-in-Some-Generate-clause-asks
returns-in-Some-Generate-clause-asks g c =
    load_words c.args.words.now (environment c.args.env.now) (g.F.Files.call_log c.args.files.now) (g.F.Files.call_log c.args.files.now) c.in-Some-Generate.count c.job_of_load.result
    (sym c.read_words.ensures ∙ ap seen c.in-Some-Generate.is ∙ ap (λ (w : Words). Some (command w)) c.in-Some-Generate.field-0-is) c.job_of_load.ensures.comes

pub returns-in-None-clause-asks : goal.returns-in-None-clause-asks
returns-in-None-clause-asks g c =
    other_words c.args.words.now (environment c.args.env.now) (g.F.Files.call_log c.args.files.now) (g.F.Files.call_log c.args.files.now) None status.Usage (sym c.read_words.ensures ∙ ap seen c.in-None.is) (λ checked. refl)
