use Rattle.std.proofs.Common.{refl, sym, ap, drop, ◌∙◌, arith}
use Rattle.fwd_store.specs.OpenChunk.{OpenList, open_for}
use Rattle.fwd_store.proofs.OpenEntries.{found, is_of, not_there, still_open, place_is, not_open}
use Rattle.fwd_store.proofs.open_chunks.OpenChunks.find.Goals as goal

pub returns-in_err-index : goal.returns-in_err-index
returns-in_err-index c =
    let es = c.self.inside.chunks.entries in
    let test = is_of c.args.input.0 c.args.tag.now in
    c.from_residual.ensures ∙ sym (not_there test c.self.inside.closed es (sym c.in_err-index.ensures.value))
    ∙ found c.args.input.0 c.args.tag.now test (λ t n. refl) (drop c.self.inside.closed es) ∙ ap (λ (o : OpenList). open_for o.list c.args.input.0 c.args.tag.now) c.self.view_is

pub returns-then-index-self : goal.returns-then-index-self
returns-then-index-self c =
    let es = c.self.inside.chunks.entries in
    let test = is_of c.args.input.0 c.args.tag.now in
    sym (not_open c.args.input.0 c.args.tag.now c.self.inside.closed es c.len-len.ensures.unique (omega (arith, place_is test es c.in_ok-index.index c.in_ok-index.ensures.index, c.if-index-self.true)))
    ∙ found c.args.input.0 c.args.tag.now test (λ t n. refl) (drop c.self.inside.closed es) ∙ ap (λ (o : OpenList). open_for o.list c.args.input.0 c.args.tag.now) c.self.view_is

pub returns : goal.returns
returns c =
    let es = c.self.inside.chunks.entries in
    let test = is_of c.args.input.0 c.args.tag.now in
    c.in_ok-index.ensures.value ∙ still_open test c.self.inside.closed es (omega (arith, place_is test es c.in_ok-index.index c.in_ok-index.ensures.index, c.if-index-self.false))
    ∙ found c.args.input.0 c.args.tag.now test (λ t n. refl) (drop c.self.inside.closed es) ∙ ap (λ (o : OpenList). open_for o.list c.args.input.0 c.args.tag.now) c.self.view_is
