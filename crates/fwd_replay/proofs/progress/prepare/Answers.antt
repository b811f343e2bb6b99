use Rattle.std.proofs.Common.{◌++◌, List, subst, sym, ◌∙◌}
use Rattle.fwd_script.specs.declared.schedule.Planned.{Planned}
use Rattle.fwd_script_loop.specs.ScriptRun.{changes_between}
use Rattle.fwd_replay.specs.FileChanges.{FilesAt}
use Rattle.fwd_replay.specs.RunState.{FilesRepresent}
use Rattle.fwd_replay.proofs.TurnCalls.{prepared, prepared_kept}
use Rattle.fwd_replay.proofs.progress.prepare.Goals as goal

pub returns-then-holds-clause-ready : goal.returns-then-holds-clause-ready
returns-then-holds-clause-ready c s start seen kept under =
    prepared_kept s start c.args.life.now c.args.going.now seen c.args.files.now kept under c.paused-paused.result (c.paused-paused.ensures s under.history under.at) (sym c.holds.ensures ∙ c.if-holds.true)

pub returns-clause-ready : goal.returns-clause-ready
returns-clause-ready c s start seen kept under =
    let life = c.args.life.now in
    let done = c.args.going.now.changed in
    let ahead = c.place_ahead-place.ensures in
    let makes : (at : FilesAt) → FilesRepresent c.args.files.now at → FilesRepresent c.make_changes.new.files (record at { changes = at.changes ++ changes_between life.lines done c.line_at-upto.result }) = λ at stands.
    subst (λ (l : List Planned). FilesRepresent c.make_changes.new.files (record at { changes = at.changes ++ changes_between l done c.line_at-upto.result })) c.as_slice.ensures (c.in_ok-make_changes.ensures at stands)
    in
    prepared s start life c.args.going.now seen c.args.files.now c.make_changes.new.files kept under ahead.0 c.place_ahead-place.result c.paused-paused.result c.line_at-upto.result c.max-going.result c.cut_at.result
    (c.paused-paused.ensures s under.history under.at) (sym c.holds.ensures ∙ c.if-holds.false) ahead.1 ahead.2 c.line_at-upto.ensures makes c.max-going.ensures c.cut_at.ensures
