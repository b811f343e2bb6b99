use Rattle.std.proofs.Common.{◌≡◌, map, drop, ap, sym, subst, ◌∙◌}
use Rattle.fwd_store.specs.Source.{opened_at}
use Rattle.fwd_store.specs.OpenChunk.{OpenList, NumbersRise}
use Rattle.fwd_store.proofs.OpenEntries.{one_less}
use Rattle.fwd_store.proofs.NumberOrder.{rise_fewer}
use Rattle.fwd_store.proofs.open_chunks.OpenChunks.close_first.Goals as goal

others : (c : goal.After-forget_half) → map opened_at (drop c.forget_half.new.closed c.forget_half.new.chunks.entries) ≡ drop 1 (map opened_at (drop c.self.inside.closed c.self.inside.chunks.entries))
others c = ap (map opened_at) c.forget_half.ensures.others ∙ one_less c.self.inside.closed c.self.inside.chunks.entries

pub invariant_of-self : goal.invariant_of-self
invariant_of-self c = (c.forget_half.ensures.within, subst NumbersRise (sym (others c)) (rise_fewer _ c.self.invariant.1))

pub returns : goal.returns
returns c = others c ∙ ap (λ (o : OpenList). drop 1 o.list) c.self.view_is
