use Rattle.std.proofs.Common.{◌≡◌, ◌+◌, ℕ, List, length, ap, subst, arith}
use Rattle.std.specs.List.{AllZip}
use Rattle.std.proofs.lemmas.List.{length-drop}
use Rattle.fwd_backlog.specs.declared.file_read.FileRead.{FileRead}
use Rattle.fwd_backlog.specs.Groups.{IsChecked}
use Rattle.fwd_backlog.proofs.Files.{none_read, group_failed, group_lost, group_found, rest_is}
use Rattle.fwd_backlog.proofs.file_check.check_files.Goals as goal

pub loop-at-init : goal.loop-at-init
loop-at-init g c = record { read = none_read _ c.args.root.now c.args.files.now c.new-found.result c.new-found.ensures; within = omega arith; faults = omega arith }

pub returns-in_err-group-clause-calls : goal.returns-in_err-group-clause-calls
returns-in_err-group-clause-calls g c =
    group_failed _ _ _ c.args.root.now c.args.files.now _ c.loop-at.at c.loop-at.found (rest_is c.args.files.now c.loop-at.at) c.loop-at.invariant.read c.in_err-group.field-0.0 c.from_residual.result c.from_residual.ensures.1
    c.in_err-group.ensures.calls

pub returns-in_err-add_group-clause-calls : goal.returns-in_err-add_group-clause-calls
returns-in_err-add_group-clause-calls g c =
    group_lost _ _ _ c.args.root.now c.args.files.now _ c.loop-at.at c.loop-at.found (rest_is c.args.files.now c.loop-at.at) c.loop-at.invariant.read c.in_ok-group.group c.from_residual-in_err-add_group.result
    c.from_residual-in_err-add_group.ensures.1 c.in_ok-group.ensures.calls

pub loop-at-preserved : goal.loop-at-preserved
loop-at-preserved g c =
    let more = c.in_ok-add_group.ensures in
    let each = subst (λ (l : List FileRead). AllZip IsChecked l more.0) c.as_slice.ensures more.1 in
    let next : c.loop-at.at + c.len-at.result ≡ c.loop-at.at + length c.in_ok-group.group = ap (λ (n : ℕ). c.loop-at.at + n) c.len-at.ensures in
    let rest = ap length (rest_is c.args.files.now c.loop-at.at) in
    record {
      read = group_found _ _ _ c.args.root.now c.args.files.now _ c.loop-at.at c.loop-at.found (rest_is c.args.files.now c.loop-at.at) c.loop-at.invariant.read c.in_ok-group.group more.0 c.add_group.new.found
          (c.loop-at.at + c.len-at.result) c.in_ok-group.ensures.calls each more.2 next;
      within = omega (arith, c.in_ok-group.ensures.calls.0, rest, length-drop c.loop-at.at c.args.files.now, c.loop-at.invariant.within, next);
      faults = omega (arith, c.loop-at.invariant.faults, c.in_ok-group.ensures.cause.later);
    }
