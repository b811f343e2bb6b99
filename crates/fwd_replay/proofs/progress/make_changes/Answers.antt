use Rattle.std.proofs.Common.{ℕ, ◌+◌, ◌-◌, List, [], ◌++◌, length, drop, take, ap, subst, ◌∙◌, arith}
use Rattle.std.proofs.lemmas.List.{take_rest}
use Rattle.std.specs.List.{cons_option, filter_map}
use Rattle.fwd_files_mem.specs.declared.change.FileChange.{FileChange}
use Rattle.fwd_script.specs.declared.schedule.Planned.{Planned}
use Rattle.fwd_script_loop.specs.ScriptRun.{change_in}
use Rattle.fwd_script_loop.proofs.ChangesOfLines.{changes_more, changes_whole}
use Rattle.fwd_replay.specs.RunState.{FilesRepresent}
use Rattle.fwd_replay.proofs.Course.{stand_more}
use Rattle.fwd_replay.proofs.progress.make_changes.Goals as goal

pub loop-planned-preserved : goal.loop-planned-preserved
loop-planned-preserved c files stands =
    let ahead : List Planned = take c.min.result c.args.lines.now in
    let left : List Planned = take (length ahead - c.min-2.result) (drop c.min-2.result ahead) in
    let i = c.loop-planned.planned-index in
    let item = c.planned-item.result in
    stand_more c.make_change.new.files files (filter_map change_in (take i left)) (cons_option (change_in item) []) (filter_map change_in (take (i + 1) left))
    (changes_more left i item (omega arith) c.planned-item.is)
    (c.in_ok-make_change.ensures (record files { changes = files.changes ++ filter_map change_in (take i left) }) (c.loop-planned.invariant files stands))

pub returns : goal.returns
returns c files stands =
    let lines = c.args.lines.now in
    let ahead : List Planned = take c.min.result lines in
    let left : List Planned = take (length ahead - c.min-2.result) (drop c.min-2.result ahead) in
    let whole = changes_whole lines ahead left c.args.from c.args.upto c.loop-planned.planned-index (ap (λ (n : ℕ). take n lines) c.min.ensures)
    (take_rest ahead c.min-2.result ∙ ap (λ (n : ℕ). drop n ahead) c.min-2.ensures) c.loop-planned-test.false
    in
    subst (λ (l : List FileChange). FilesRepresent c.loop-planned.files (record files { changes = files.changes ++ l })) whole (c.loop-planned.invariant files stands)
