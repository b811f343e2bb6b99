use Rattle.std.proofs.Common.{◌≡◌, ◌+◌, length, arith}
use Rattle.fwd_backlog.specs.LoadProgram.{file_read}
use Rattle.fwd_backlog.proofs.GroupRead.{group_more, group_stopped, group_unkept, one_longer}
use Rattle.fwd_backlog.proofs.file_group.read_group.Goals as goal

pub returns-in_err-bytes-clause-calls : goal.returns-in_err-bytes-clause-calls
returns-in_err-bytes-clause-calls g c =
    group_stopped _ _ _ c.args.root.now c.args.files.now c.loop-file.file-index c.file-item.result c.loop-file.group c.loop-file-test.true c.file-item.is c.loop-file.invariant.calls
    c.in_err-bytes.field-0.0 c.from_residual.result c.from_residual.ensures.1 c.in_err-bytes.ensures.calls

pub returns-in_err-add_file-clause-calls : goal.returns-in_err-add_file-clause-calls
returns-in_err-add_file-clause-calls g c =
    group_unkept _ _ _ c.args.root.now c.args.files.now c.loop-file.file-index c.file-item.result c.loop-file.group c.loop-file-test.true c.file-item.is c.loop-file.invariant.calls
    c.in_ok-bytes.bytes c.from_residual-in_err-add_file.result c.from_residual-in_err-add_file.ensures.1 c.in_ok-bytes.ensures.calls

pub loop-file-preserved : goal.loop-file-preserved
loop-file-preserved g c =
    let count : length c.add_file.new.group ≡ c.loop-file.file-index + 1 = one_longer c.loop-file.group c.add_file.new.group (file_read c.file-item.result c.in_ok-bytes.bytes) c.loop-file.file-index c.loop-file.invariant.count c.in_ok-add_file.ensures in
    record {
      calls = group_more _ _ _ c.args.root.now c.args.files.now c.loop-file.file-index c.file-item.result c.loop-file.group c.loop-file-test.true c.file-item.is c.loop-file.invariant.calls c.in_ok-bytes.bytes c.add_file.new.group
          c.in_ok-bytes.ensures.calls c.in_ok-add_file.ensures;
      count = count;
      begun = λ none. absurd (omega arith);
      faults = omega (arith, c.loop-file.invariant.faults, c.in_ok-bytes.ensures.cause.later);
    }
