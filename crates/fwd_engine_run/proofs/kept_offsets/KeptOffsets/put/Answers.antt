use Rattle.std.proofs.Common.{refl, ◌∙◌, arith, ◌+◌, ◌<◌, ◌≤◌, length, drop}
use Rattle.std.proofs.lemmas.Option.{slice_get_read}
use Rattle.std.proofs.Math.ListN.{length-set}
use Rattle.fwd_model.specs.KeptOffsets.{tracked, puts}
use Rattle.fwd_model.proofs.Actions.{stays}
use Rattle.fwd_engine_run.proofs.Rows.{put_on, put_ends, puts_end, all_put}
use Rattle.fwd_engine_run.proofs.kept_offsets.KeptOffsets.put.Goals as goal

pub loop-at-init : goal.loop-at-init
loop-at-init g c = (omega arith, refl, λ others s h next at keeps. (h, at, keeps, λ brought. refl, stays _ _))

pub returns-in_err-put-clause-puts : goal.returns-in_err-put-clause-puts
returns-in_err-put-clause-puts g c others s h next at keeps =
    let so_far = c.loop-at.invariant.2 others s h next at keeps in
    let long = c.loop-at.invariant.1 in
    let count = keeps.count in
    let within : c.loop-at.at < length (tracked s) = omega arith in
    puts_end _ _ s h next _ c.args.engine.now _ _ c.from_residual.result c.from_residual.ensures.1
    (put_ends s c.loop-at.at next c.args.engine.now within _ _ _ (puts s (tracked s) next h) h so_far.0 c.loop-at.self c.index_mut.result.now
    (slice_get_read c.loop-at.self.rows.items _ c.loop-at.at c.index_mut.result.now refl (omega arith) c.index_mut.ensures.value) so_far.2 so_far.3 so_far.4 c.put.new.self c.put.result
    (λ t path is. c.put.ensures.puts others s so_far.0 t (λ now. puts s (drop (c.loop-at.at + 1) (tracked s)) next now) so_far.1 path is) c.in_err-put.field-0.0 c.in_err-put.was)

pub loop-at-preserved : goal.loop-at-preserved
loop-at-preserved g c = (
  (let x = c.loop-at.invariant.0 in let y = c.in_ok-put.ensures.later in omega arith),
  length-set c.loop-at.self.rows.items c.loop-at.at c.put.new.self ∙ c.loop-at.invariant.1,
  λ others s h next at keeps.
      let so_far = c.loop-at.invariant.2 others s h next at keeps in
      let long = c.loop-at.invariant.1 in
      let count = keeps.count in
      let within : c.loop-at.at < length (tracked s) = omega arith in
      put_on s c.loop-at.at next c.args.engine.now within _ _ _ (puts s (tracked s) next h) h so_far.0 c.loop-at.self c.index_mut.result.now
      (slice_get_read c.loop-at.self.rows.items _ c.loop-at.at c.index_mut.result.now refl (omega arith) c.index_mut.ensures.value) so_far.2 so_far.3 so_far.4 c.put.new.self c.put.result
      (λ t path is. c.put.ensures.puts others s so_far.0 t (λ now. puts s (drop (c.loop-at.at + 1) (tracked s)) next now) so_far.1 path is) _ refl c.in_ok-put.was,
)

pub returns-clause-puts : goal.returns-clause-puts
returns-clause-puts g c others s h next at keeps =
    let so_far = c.loop-at.invariant.2 others s h next at keeps in
    let count = keeps.count in
    let past : length (tracked s) ≤ c.loop-at.at = omega arith in
    (so_far.0, so_far.1, so_far.2, so_far.3, all_put _ _ s next (puts s (tracked s) next h) c.loop-at.at so_far.0 past so_far.4)
