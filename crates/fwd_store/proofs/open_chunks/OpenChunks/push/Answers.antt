use Rattle.std.proofs.Common.{◌≡◌, ◌<◌, All, ap, sym, subst, ◌∙◌, refl, map, drop, length, List, ℕ, [], ◌∷◌, ◌++◌, arith, length-append}
use Rattle.indexmap.proofs.CallerLemmas.{insert_entry-new}
use Rattle.fwd_store.specs.declared.open_chunks.Source.{Source}
use Rattle.fwd_store.specs.Source.{opened_at}
use Rattle.fwd_store.specs.OpenChunk.{OpenList, NumbersRise}
use Rattle.fwd_store.proofs.OpenEntries.{found, one_more_open}
use Rattle.fwd_store.proofs.Results.{value_of}
use Rattle.fwd_store.proofs.NumberOrder.{rise_more}
use Rattle.fwd_store.proofs.open_chunks.OpenChunks.push.Goals as goal

entries : (c : goal.After-unwrap) → c.insert-inserted.new.self.entries ≡ c.forget_source.new.chunks.entries ++ (c.args.source, c.args.chunk) ∷ []
entries c =
    value_of c.insert-inserted.result c.unwrap.result c.unwrap.ensures c.insert-inserted.ensures.entries
    ∙ insert_entry-new _ c.forget_source.new.chunks c.args.source c.args.chunk
    (found c.args.source.input.0 c.args.source.tag.items _ (λ s n. refl) c.forget_source.new.chunks.entries ∙ c.forget_source.ensures.new)

opened : (c : goal.After-unwrap) → map opened_at (drop c.forget_source.new.closed c.insert-inserted.new.self.entries) ≡ map opened_at (drop c.self.inside.closed c.self.inside.chunks.entries) ++ opened_at (c.args.source, c.args.chunk) ∷ []
opened c =
    ap (λ (es : List (Source × ℕ)). map opened_at (drop c.forget_source.new.closed es)) (entries c)
    ∙ one_more_open c.forget_source.new.closed c.forget_source.new.chunks.entries (c.args.source, c.args.chunk) c.forget_source.ensures.within
    ∙ ap (λ (es : List (Source × ℕ)). map opened_at es ++ opened_at (c.args.source, c.args.chunk) ∷ []) c.forget_source.ensures.others

pub invariant_of-self : goal.invariant_of-self
invariant_of-self c = (
  omega (arith, c.forget_source.ensures.within, ap length (entries c), length-append c.forget_source.new.chunks.entries ((c.args.source, c.args.chunk) ∷ [])),
  subst NumbersRise (sym (opened c)) (rise_more _ (opened_at (c.args.source, c.args.chunk)) c.self.invariant.1
      (subst (λ (o : OpenList). All (λ p. p.chunk < c.args.chunk) o.list) (sym c.self.view_is) c.requires.numbers_rise)),
)

pub returns : goal.returns
returns c = opened c ∙ ap (λ (o : OpenList). o.list ++ opened_at (c.args.source, c.args.chunk) ∷ []) c.self.view_is
