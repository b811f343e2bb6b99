use Rattle.std.proofs.Common.{◌≡◌, List, ℕ, drop, subst, sym, arith, ap, ◌∙◌, map, not, ◌==◌, rules}
use Rattle.indexmap.proofs.CallerLemmas.{filter-RetainsPairs}
use Rattle.fwd_store.specs.declared.open_chunks.Source.{Source}
use Rattle.fwd_store.specs.Source.{opened_at}
use Rattle.fwd_store.specs.OpenChunk.{OpenList, NumbersRise, without}
use Rattle.fwd_store.proofs.OpenEntries.{others}
use Rattle.fwd_store.proofs.NumberOrder.{rise_without}
use Rattle.fwd_store.proofs.open_chunks.OpenChunks.remove_entry.Goals as goal

left : (c : goal.After-retain) → map opened_at (drop c.forget.new.closed c.retain.new.self.entries) ≡ without c.args.chunk (map opened_at (drop c.self.inside.closed c.self.inside.chunks.entries))
left c =
    ap (λ (k : ℕ). map opened_at (drop k c.retain.new.self.entries)) c.forget.ensures.none
    ∙ ap (map opened_at) (filter-RetainsPairs _ (λ e. not (e.1 == c.args.chunk)) _ (λ k v b w g call. search rules) _ _ c.retain.ensures.filtered)
    ∙ others c.args.chunk c.forget.new.chunks.entries
    ∙ ap (λ (es : List (Source × ℕ)). without c.args.chunk (map opened_at es)) c.forget.ensures.others

pub invariant_of-self : goal.invariant_of-self
invariant_of-self c = (omega (arith, c.forget.ensures.none), subst NumbersRise (sym (left c)) (rise_without c.args.chunk _ c.self.invariant.1))

pub returns : goal.returns
returns c = left c ∙ ap (λ (o : OpenList). without c.args.chunk o.list) c.self.view_is
