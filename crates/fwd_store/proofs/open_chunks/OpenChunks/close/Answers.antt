use Rattle.std.proofs.Common.{Some, ap, sym, ◌∙◌}
use Rattle.fwd_store.proofs.NumberOrder.{without_first, without_none}
use Rattle.fwd_store.proofs.open_chunks.OpenChunks.close.Goals as goal

pub returns-then-first-chunk : goal.returns-then-first-chunk
returns-then-first-chunk c =
    c.close_first.ensures ∙ without_first c.args.chunk _ c.numbers_rise.ensures (ap Some (sym c.if-first-chunk.true) ∙ sym c.in-Some.is ∙ c.first.ensures)

pub returns-else-first-chunk-2 : goal.returns-else-first-chunk-2
returns-else-first-chunk-2 c =
    without_none c.args.chunk c.in-Some.first _ c.numbers_rise.ensures (sym c.in-Some.is ∙ c.first.ensures) c.if-first-chunk-2.false c.if-first-chunk.false
