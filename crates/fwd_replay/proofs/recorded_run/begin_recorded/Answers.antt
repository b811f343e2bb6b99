use Rattle.std.proofs.Common.{◌≡◌, List, [], Some, None, ap, sym, subst, ◌∙◌}
use Rattle.std.specs.List.{list_any}
use Rattle.fwd_settings.specs.declared.settings_types.AllSettings.{AllSettings}
use Rattle.fwd_settings.specs.declared.settings_types.InputSet.{InputSet}
use Rattle.fwd_model.specs.Fact.{History}
use Rattle.fwd_model.specs.CallLogs.{CallLogs, Completes}
use Rattle.fwd_model.specs.RecoveryActions.{recovers}
use Rattle.fwd_engine_state.specs.RefinesAction.{with_all}
use Rattle.fwd_engine_run.specs.EngineSteps.{IsAt}
use Rattle.fwd_engine_run.specs.OffsetRows.{with_keeper}
use Rattle.fwd_engine_run.proofs.RecoveredHistory.{recovered_is_loading}
use Rattle.fwd_secure_settings.specs.Keys.{keys_of}
use Rattle.fwd_replay.specs.RunState.{nowhere}
use Rattle.fwd_replay.specs.RecordedRun.{RanOutOfMemory, follows_files}
use Rattle.fwd_replay.specs.RecordedParts.{IsRecordable}
use Rattle.fwd_replay.proofs.FoundNothing.{recordable, unrecordable}
use Rattle.fwd_replay.proofs.RecordedLoads.{begins_load, load_failed, only_begins, quiet, ran_from, tailed_of, untailed_of}
use Rattle.fwd_replay.proofs.RecordedOver.{on}
use Rattle.fwd_replay.proofs.recorded_run.begin_recorded.Goals as goal

pub returns-then-is_recordable-clause-life : goal.returns-then-is_recordable-clause-life
returns-then-is_recordable-clause-life g c others =
    let s = c.args.settings in
    let kept = with_keeper (g.K.Keeper.call_log c.args.keeper.now) others in
    let files = g.F.Files.call_log c.args.files.now in
    let w : CallLogs = with_all None (g.D.Disk.call_log c.args.disk.now) files kept in
    let w2 : CallLogs = with_all None (g.D.Disk.call_log c.begin.new.disk) files kept in
    let begun = c.in-Ok.ensures.begins (with_all quiet (g.D.Disk.call_log c.args.disk.now) files kept) in
    let so = recordable c.has_tail-tailed.result begun.history c.is_recordable.result (c.is_recordable.ensures s begun.history begun.at (recovered_is_loading s begun.did.entries begun.history begun.did.way)) c.if-is_recordable.true in
    let did = subst (λ (h : History). Completes (on quiet w) (on quiet w2) (recovers s) (Some h)) so.1 begun.did in
    let is : IsRecordable s c.args.setup c.in-Ok.engine = record { at = subst (λ (h : History). IsAt c.in-Ok.engine s h) so.1 begun.at; keeps = c.requires.setup.keeps; ends = c.requires.setup.ends; is = c.requires.setup.named } in
    ran_from s c.args.setup.ticks c.args.setup.most w w2 (g.L.Loop.call_log c.args.outside.now) did _ (g.L.Loop.counts c.args.outside.now).endless c.run_counted.result (untailed_of s c.has_tail-tailed.result (c.has_tail-tailed.ensures ∙ ap (λ (l : List InputSet). list_any (λ input. follows_files input.kind) l) c.as_slice.ensures) so.0) (c.run_counted.ensures.life others s is c.is_some-stored.ensures)

pub returns-in-Ok-clause-life : goal.returns-in-Ok-clause-life
returns-in-Ok-clause-life g c others =
    let s = c.args.settings in
    let kept = with_keeper (g.K.Keeper.call_log c.args.keeper.now) others in
    let begun = c.in-Ok.ensures.begins (with_all (g.L.Loop.call_log c.args.outside.now) (g.D.Disk.call_log c.args.disk.now) (g.F.Files.call_log c.args.files.now) kept) in
    record {
      history = begun.history;
      did = begun.did;
      why = tailed_of s c.has_tail-tailed.result begun.history (c.has_tail-tailed.ensures ∙ ap (λ (l : List InputSet). list_any (λ input. follows_files input.kind) l) c.as_slice.ensures) (unrecordable c.has_tail-tailed.result begun.history c.is_recordable.result (c.is_recordable.ensures s begun.history begun.at (recovered_is_loading s begun.did.entries begun.history begun.did.way)) c.if-is_recordable.false);
    }

pub returns-in-Err-DiskFault-clause-life : goal.returns-in-Err-DiskFault-clause-life
returns-in-Err-DiskFault-clause-life g c others =
    let s = c.args.settings in
    let kept = with_keeper (g.K.Keeper.call_log c.args.keeper.now) others in
    let files = g.F.Files.call_log c.args.files.now in
    let w : CallLogs = with_all None (g.D.Disk.call_log c.args.disk.now) files kept in
    let w2 : CallLogs = with_all None (g.D.Disk.call_log c.begin.new.disk) files kept in
    let did : Completes (on quiet w) (on quiet w2) (recovers s) None = rw c.in-Err-DiskFault.field-0-is at (c.in-Err-DiskFault.ensures.begins (on quiet w)) in
    load_failed s c.args.setup.ticks c.args.setup.most w w2 (g.L.Loop.call_log c.args.outside.now) c.without_text.result did c.without_text.ensures

pub returns-clause-life : goal.returns-clause-life
returns-clause-life g c others =
    let s = c.args.settings in
    let kept = with_keeper (g.K.Keeper.call_log c.args.keeper.now) others in
    let files = g.F.Files.call_log c.args.files.now in
    let w : CallLogs = with_all None (g.D.Disk.call_log c.args.disk.now) files kept in
    let w2 : CallLogs = with_all None (g.D.Disk.call_log c.begin.new.disk) files kept in
    let l = g.L.Loop.call_log c.args.outside.now in
    let unfailed = rw c.in-Err-Memory.field-0-is at (c.in-Err-Memory.ensures.begins (on quiet w)) in
    RanOutOfMemory (only_begins s c.args.setup.ticks c.args.setup.most (on l w) (on l w2) (begins_load s c.args.setup.ticks c.args.setup.most w w2 l (unfailed.0, unfailed.1))) c.without_text-in-Err-Memory.ensures

pub run_counted-requires-clause-begun : goal.run_counted-requires-clause-begun
run_counted-requires-clause-begun g c =
    let s = c.args.settings in
    let begun = c.in-Ok.ensures.begins nowhere in
    let so = recordable c.has_tail-tailed.result begun.history c.is_recordable.result (c.is_recordable.ensures s begun.history begun.at (recovered_is_loading s begun.did.entries begun.history begun.did.way)) c.if-is_recordable.true in
    λ κs below. record {
      settings = s;
      is = record { at = subst (λ (h : History). IsAt c.in-Ok.engine s h) so.1 begun.at; keeps = c.requires.setup.keeps; ends = c.requires.setup.ends; is = c.requires.setup.named };
      fits = c.requires.fits;
    }

pub run_counted-requires-clause-keyed : goal.run_counted-requires-clause-keyed
run_counted-requires-clause-keyed g c = λ κs below s at.
    let begun = c.in-Ok.ensures.begins nowhere in
    c.requires.keyed ∙ ap (λ (x : AllSettings). keys_of x) (sym begun.at.settings ∙ at.settings)
