use Rattle.std.proofs.Common.{ℕ, ◌-◌, List, [], ◌++◌, length, drop, take, ap, sym, ◌∙◌, arith}
use Rattle.std.proofs.lemmas.List.{take_rest}
use Rattle.std.specs.List.{cons_option}
use Rattle.fwd_script_loop.specs.ScriptRun.{change_in, changes_between}
use Rattle.fwd_files_mem.specs.declared.change.FileChange.{FileChange}
use Rattle.fwd_script.specs.declared.schedule.Planned.{Planned}
use Rattle.fwd_script_loop.proofs.ChangesOfLines.{changes_more, changes_whole}
use Rattle.fwd_script_loop.proofs.script.changes_of.Goals as goal

pub loop-planned-preserved : goal.loop-planned-preserved
loop-planned-preserved c =
    c.in_ok-add_change.ensures
    ∙ ap (λ (l : List FileChange). l ++ cons_option (change_in c.planned-item.result) []) c.loop-planned.invariant
    ∙ sym (changes_more _ c.loop-planned.planned-index c.planned-item.result (omega arith) c.planned-item.is)

pub returns : goal.returns
returns c =
    let all = c.as_slice-all.result.now in
    let ahead = take c.min.result all in
    c.loop-planned.invariant
    ∙ changes_whole all ahead (take (length ahead - c.min-2.result) (drop c.min-2.result ahead)) c.args.from c.args.upto c.loop-planned.planned-index (ap (λ (n : ℕ). take n all) c.min.ensures)
    (take_rest ahead c.min-2.result ∙ ap (λ (n : ℕ). drop n ahead) c.min-2.ensures) c.loop-planned-test.false
    ∙ ap (λ (l : List Planned). changes_between l c.args.from c.args.upto) c.as_slice-all.ensures
