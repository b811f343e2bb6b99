use Rattle.std.proofs.Common.{◌≤◌, length, refl, ◌∙◌, arith}
use Rattle.std.proofs.Math.ListN.{length-set}
use Rattle.std.proofs.lemmas.Option.{slice_get_read}
use Rattle.fwd_engine_run.proofs.Rows.{below_first, below_more, below_all}
use Rattle.fwd_engine_run.proofs.kept_offsets.KeptOffsets.take_settled.Goals as goal

pub loop-at-init : goal.loop-at-init
loop-at-init c = (refl, λ s h at start keeps. below_first s c.args.self.now h keeps)

pub loop-at-preserved : goal.loop-at-preserved
loop-at-preserved c = (
  length-set c.loop-at.self.rows.items c.loop-at.at c.take_settled.new.self ∙ c.loop-at.invariant.0,
  λ s h at start keeps.
      let long = c.loop-at.invariant.0 in
      below_more s h c.loop-at.self _ c.loop-at.at c.index_mut.result.now c.take_settled.new.self
      (slice_get_read c.loop-at.self.rows.items _ c.loop-at.at c.index_mut.result.now refl (omega arith) c.index_mut.ensures.value) refl
      (λ t path is. c.take_settled.ensures s h t at start path is) (c.loop-at.invariant.1 s h at start keeps),
)

pub returns : goal.returns
returns c s h at start keeps =
    let long = c.loop-at.invariant.0 in
    let past : length c.loop-at.self.rows.items ≤ c.loop-at.at = omega arith in
    below_all s c.loop-at.self h c.loop-at.at past (c.loop-at.invariant.1 s h at start keeps)
