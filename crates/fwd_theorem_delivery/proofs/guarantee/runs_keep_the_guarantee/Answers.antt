use Rattle.std.proofs.Common.{◌≡◌, List, [], subst, sym}
use Rattle.std.specs.Prelude.{Contains}
use Rattle.fwd_outside.specs.Program.{Return, Execution}
use Rattle.fwd_model.specs.Fact.{History}
use Rattle.fwd_model.specs.Trace.{TraceEntry, loop_part, history_after}
use Rattle.fwd_model.specs.Chunks.{chunks_of}
use Rattle.fwd_model.specs.Run.{life}
use Rattle.fwd_model.specs.Routes.{route}
use Rattle.fwd_theorem_delivery.specs.Guarantee.{IsAccountedFor}
use Rattle.fwd_theorem_delivery.specs.BatchOutcomes.{AllBatchOutcomes}
use Rattle.fwd_theorem_delivery.specs.LinkOutcomes.{SendsPrefix}
use Rattle.fwd_theorem_delivery.proofs.BatchRun.{each_at_end}
use Rattle.fwd_theorem_delivery.proofs.ChunkOutcomes.{kept_by, pending_by}
use Rattle.fwd_theorem_delivery.proofs.guarantee.runs_keep_the_guarantee.Goals as goal

pub returns : goal.returns
returns c s ends ticks turns trace lived way are =
    let logs : lived.history ≡ history_after trace [] = c.histories_are_logged.ensures s ends ticks turns lived trace way in
    record {
      became = subst (λ (h : History). AllBatchOutcomes s [] h) logs (each_at_end s ends ticks turns trace lived way);
      once = λ later during before fact is comes between. c.batches_are_decided_once.ensures s ends ticks turns trace _ later during before fact way is comes between;
      kept =
          λ chunk output there for.
          let r = route chunk.number output in
          subst (λ (h : History). IsAccountedFor s h (loop_part trace) r) logs
          (kept_by s lived.history (loop_part trace) chunk output (c.pending_iff_unresolved.ensures.resolved s lived.history r).0
          (λ still. (c.pending_iff_unresolved.ensures.owed s lived.history chunk output).1 (for, still))
          (λ noted. c.delivered_routes_sent_all.ensures s ends ticks turns trace lived r way are noted)
          (λ noted. c.failures_have_causes.ensures.failed s ends ticks turns trace lived r way are noted)
          (λ noted. c.failures_have_causes.ensures.spent s ends ticks turns trace lived r way are noted)
          (subst (λ (h : History). Contains (chunks_of h) chunk) (sym logs) there));
      pending =
          λ chunk output there for.
          pending_by s (history_after trace []) chunk output (c.pending_iff_unresolved.ensures.resolved s (history_after trace []) (route chunk.number output))
          (λ still. (c.pending_iff_unresolved.ensures.owed s (history_after trace []) chunk output).1 (for, still)) there;
      causes = c.outcomes_have_causes.ensures s ends ticks turns trace _ way;
      handed = λ to link given. subst (λ (h : History). SendsPrefix s h (loop_part trace) to link) logs (c.links_send_prefixes.ensures s ends ticks turns trace lived to link way are given);
      replied = λ before rest conn bytes answer is. c.replies_are_due.ensures s ends ticks turns before rest conn bytes answer _ (subst (λ (es : List TraceEntry). Execution (life s ends ticks turns) es (Return lived)) is way);
    }
