use Rattle.std.proofs.Common.{◌≡◌, ◌+◌, ◌<◌, ◌^◌, [], unwrap_or, ap, ◌∙◌, sym, subst}
use Rattle.std.specs.FinMap as map
use Rattle.fwd_chunk.specs.declared.append.ChunkHead.{ChunkHead}
use Rattle.fwd_chunk.specs.Outcome.{FitsNames}
use Rattle.fwd_chunk.specs.declared.kept.Kept.TheVariants.{Adopted}
use Rattle.fwd_chunk.specs.Name.{found_name}
use Rattle.fwd_store.specs.StoreState.{KeptMap, Stored}
use Rattle.fwd_store.specs.Store.{path_of_recovered, IsNew, IsNoLater}
use Rattle.fwd_store.proofs.Invariant.{sound_as_adopted, found_is_own}
use Rattle.fwd_store.proofs.store.Store.adopt_file.Goals as goal

pub invariant_of-self-2 : goal.invariant_of-self-2
invariant_of-self-2 c =
    let head = c.in_ok-head.head in
    let found = c.args.found.now in
    let s : Stored = record { root = c.self.inside.root; full = c.self.inside.full; next = c.self.inside.next; chunks = c.self.inside.chunks.list; opened = c.self.inside.opened.list } in
    let full = found_name (unwrap_or c.self.inside.root []) found.stream found.name in
    let named : head.name ≡ full = ap (λ (h : ChunkHead). h.name) c.in_ok-head.ensures ∙ c.in_ok-name.ensures ∙ (λ i. found_name (c.bytes_of-root.ensures i) (c.as_slice.ensures i) (c.as_slice-2.ensures i)) in
    sound_as_adopted _ c.args.number (Adopted head) _ (ap (λ (s : Stored). map.get s.chunks c.args.number) c.self.view_is ∙ c.requires.new)
    (c.insert.ensures ∙ ap (λ (chunks : KeptMap). map.insert chunks c.args.number (Adopted head)) c.reserve.ensures.same)
    (subst (λ (s : Stored). c.args.number < s.next) (sym c.self.view_is) c.requires.number)
    (subst (λ (h : ChunkHead). (24 + h.meta + h.size < 2 ^ 64) × FitsNames h) (sym c.in_ok-head.ensures) (c.requires.offsets, c.requires.names))
    (found_is_own s head full named (subst (λ (s : Stored). IsNew s (path_of_recovered s found)) (sym c.self.view_is) c.requires.own) (subst (λ (s : Stored). IsNoLater s.root s.next (path_of_recovered s found)) (sym c.self.view_is) c.requires.free))
    c.self.invariant
