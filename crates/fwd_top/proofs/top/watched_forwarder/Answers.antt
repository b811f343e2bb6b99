use Rattle.fwd_outside.proofs.LogGrowth.{grew_none}
use Rattle.fwd_config.specs.Variables.{environment}
use Rattle.fwd_top.specs.Results.{of_job}
use Rattle.fwd_top.proofs.Writing.{done, done_heard, done_spent, done_few, done_keeper_cause, done_loop_cause, done_disk_cause, is_report, no_file_fault, outcome_of, refused, refused_heard, refused_spent, refused_keeper, refused_loop, refused_disk, refused_out, refused_tape, no_cause, goes_later, verdict_of_job}
use Rattle.fwd_top.proofs.AskedRuns.{asked_runs}
use Rattle.fwd_top.proofs.GivenFiles.{done_files, refused_files, no_refusal}
use Rattle.fwd_top.proofs.Taping.{done_taped, refused_taped}
use Rattle.fwd_top.proofs.top.watched_forwarder.Goals as goal

-- a job was done
pub returns-in-Ok : goal.returns-in-Ok
returns-in-Ok g c =
    let env = environment c.args.env.now in
    let verdict =
    verdict_of_job (outcome_of c.outcomes_are_delivered.ensures c.outcomes_are_crash_consistent.ensures c.outcomes_keep_offsets.ensures c.outcomes_send_records.ensures c.outcomes_are_determined.ensures) c.recorded_outcomes_hold.ensures c.args.turns (of_job c.in-Ok.job) _ _ c.run_job-went.result
    c.in-Ok.ensures.sound (asked_runs c.args.words.now env _ _ (of_job c.in-Ok.job) c.in-Ok.ensures.asks) c.run_job-went.ensures.comes in
    record {
      answers =
          done c.args.words.now env c.args.turns _ _ (of_job c.in-Ok.job) _ c.run_job-went.result c.write_outcome.result c.in-Ok.ensures.asks verdict
          (is_report c.args.turns (of_job c.in-Ok.job) _ _ c.run_job-went.result c.run_job-went.ensures.comes) c.write_outcome.ensures.tells;
      text = done_files c.args.words.now env c.args.turns _ _ (of_job c.in-Ok.job) _ c.run_job-went.result c.write_outcome.result (no_refusal c.in-Ok.job) c.in-Ok.ensures.asks verdict c.write_outcome.ensures.tells;
      file_cause = goes_later c.in-Ok.ensures.cause.later c.run_job-went.ensures.files_later (no_file_fault c.run_job-went.result _ _ _ _ c.write_outcome.result c.write_outcome.ensures.tells);
      disk_cause = done_disk_cause c.args.words.now _ _ _ _ _ _ c.write_outcome.result c.in-Ok.job c.run_job-went.result c.in-Ok.ensures.disk c.write_outcome.ensures.tells c.run_job-went.ensures.disk_cause;
      keeper_cause = done_keeper_cause c.args.words.now _ _ _ _ _ _ c.write_outcome.result c.in-Ok.job c.run_job-went.result c.in-Ok.ensures.kind c.write_outcome.ensures.tells c.run_job-went.ensures.keeper_cause;
      loop_cause = done_loop_cause c.args.words.now _ _ _ _ _ _ c.write_outcome.result c.in-Ok.job c.run_job-went.result c.in-Ok.ensures.kind c.write_outcome.ensures.tells c.run_job-went.ensures.loop_cause;
      out_cause = c.write_outcome.ensures.cause;
      tape_cause = c.write_outcome.ensures.tape_cause;
      heard = done_heard c.args.words.now c.args.turns _ _ c.in-Ok.job c.run_job-went.result _ _ _ _ c.write_outcome.result c.in-Ok.ensures.kind c.write_outcome.ensures.tells c.run_job-went.ensures.heard;
      few_turns = λ spends. record {
        case = of_job c.in-Ok.job;
        read = _;
        asks = c.in-Ok.ensures.asks;
        heard = done_spent c.args.words.now c.args.turns _ _ c.in-Ok.job c.run_job-went.result _ _ _ _ c.write_outcome.result c.write_outcome.ensures.tells c.run_job-went.ensures.heard spends;
        few = done_few c.spent_turns_were_few.ensures c.args.turns c.in-Ok.job _ _ c.run_job-went.result _ _ _ _ c.write_outcome.result c.run_job-went.ensures.comes c.write_outcome.ensures.tells spends;
      };
      taped = done_taped c.args.words.now c.args.turns _ _ c.in-Ok.job _ c.run_job-went.result c.write_outcome.result c.in-Ok.ensures.record c.run_job-went.ensures.comes c.write_outcome.ensures.tells;
    }

-- there was nothing to do
pub returns-in-Err : goal.returns-in-Err
returns-in-Err g c =
    let refusal = c.in-Err.ensures.refusal in
    record {
      answers = refused c.args.words.now (environment c.args.env.now) c.args.turns _ _ c.in-Err.status refusal c.in-Err.ensures.asks (grew_none _) (grew_none _) (grew_none _) (grew_none _) (grew_none _);
      text = refused_files c.args.words.now (environment c.args.env.now) c.args.turns _ _ c.in-Err.status refusal c.in-Err.ensures.asks (grew_none _) (grew_none _) (grew_none _) (grew_none _) (grew_none _);
      file_cause = c.in-Err.ensures.cause;
      disk_cause = no_cause (g.D.Disk.faults c.args.disk.now) (refused_disk c.args.words.now c.in-Err.status refusal);
      keeper_cause = no_cause (g.K.Keeper.faults c.args.keeper.now) (refused_keeper c.args.words.now c.in-Err.status refusal);
      loop_cause = no_cause (g.L.Loop.faults c.args.outside.now) (refused_loop c.args.words.now c.in-Err.status refusal);
      out_cause = no_cause (g.S.Sink.faults c.args.out.now) (refused_out c.in-Err.status refusal);
      tape_cause = no_cause (g.T.Sink.faults c.args.tape.now) (refused_tape c.in-Err.status refusal);
      heard = refused_heard c.args.words.now c.args.turns (g.L.Loop.counts c.args.outside.now) c.in-Err.status refusal;
      few_turns = λ spends. absurd (refused_spent c.in-Err.status refusal spends);
      taped = refused_taped c.args.words.now c.args.turns _ _ c.in-Err.status refusal (grew_none _);
    }
