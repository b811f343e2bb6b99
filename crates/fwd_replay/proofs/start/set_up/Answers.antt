use Rattle.fwd_replay.proofs.RunStart.{files_begin, on_ok, told_disk}
use Rattle.fwd_replay.proofs.start.set_up.Goals as goal

pub returns : goal.returns
returns c start kept finds =
    on_ok c.set_failing_file_calls.result
    (λ call_log. record {
      disk = told_disk start c.args.life.now c.args.disk.now c.store.new.disk c.set_failing_disk_calls.new.disk finds.disk c.in_ok-store.ensures c.in_ok-set_failing_disk_calls.ensures;
      files = files_begin start c.args.life.now c.args.disk.now c.args.files.now c.set_failing_file_calls.new.files kept finds call_log;
      kept_given = finds.kept_given;
      kept_unasked = finds.kept_unasked;
    })
    c.set_failing_file_calls.ensures
