use Rattle.std.proofs.Common.{refl, sym, ◌∙◌}
use Rattle.fwd_store.proofs.OpenEntries.{found, none_is}
use Rattle.fwd_store.proofs.open_chunks.forget_source.Goals as goal

pub returns-else-contains_key-clause-new : goal.returns-else-contains_key-clause-new
returns-else-contains_key-clause-new c =
    sym (found c.args.source.now.input.0 c.args.source.now.tag.items _ (λ s n. refl) c.args.chunks.now.entries)
    ∙ none_is _ (sym c.contains_key.ensures ∙ c.if-contains_key.false)
