use Rattle.std.proofs.Common.{◌≡◌, ℕ, ap, sym, ◌∙◌, refl, Some, None, IsSome, subst, nat_eq, nat_cmp, HashMap, BuildHasherDefault, FoldHasher}
use Rattle.std.specs.Map.{lookup}
use Rattle.std.specs.FinMap as map
use Rattle.fwd_outside.specs.Log.{RunsFallible}
use Rattle.fwd_outside.specs.Disk.{disk_outcome}
use Rattle.fwd_chunk.specs.declared.kept.Kept.{Kept}
use Rattle.fwd_chunk.specs.Kept.{appends, after_append}
use Rattle.fwd_store.specs.StoreState.{KeptMapWithRoom}
use Rattle.fwd_store.proofs.MapEntries.{get_held, put_in, put_again}
use Rattle.fwd_store.proofs.Results.{same_some, on_ok, on_err}
use Rattle.fwd_store.proofs.chunk_map.ChunkMap.append.Goals as goal

pub append-requires : goal.append-requires
append-requires g c =
    c.requires.room c.in-Some.kept.now (sym (ap (λ (h : KeptMapWithRoom). map.get h.list c.args.number) c.self.view_is) ∙ get_held c.self.inside.chunks.entries c.args.number ∙ sym c.in-Some.ensures.value)

pub unreachable-requires : goal.unreachable-requires
unreachable-requires g c =
    let none : map.get c.args.self.now.list c.args.number ≡ None = sym (ap (λ (h : KeptMapWithRoom). map.get h.list c.args.number) c.self.view_is) ∙ get_held c.self.inside.chunks.entries c.args.number ∙ sym c.in-None.ensures.value in
    let held = subst IsSome none c.requires.held in
    absurd (cc held)

pub returns-clause-calls : goal.returns-clause-calls
returns-clause-calls g c kept is =
    let here = sym (get_held c.self.inside.chunks.entries c.args.number) ∙ ap (λ (h : KeptMapWithRoom). map.get h.list c.args.number) c.self.view_is ∙ is in
    let same : c.in-Some.kept.now ≡ kept = same_some (c.in-Some.ensures.value ∙ here) in
    subst (λ (k : Kept). RunsFallible (g.D.Disk.call_log c.args.disk.now) (g.D.Disk.call_log c.append.new.disk) (appends k c.args.batch.now c.args.full) (disk_outcome c.append.result)) same c.append.ensures.calls

pub returns-clause-ok : goal.returns-clause-ok
returns-clause-ok g c kept is =
    let list = c.args.self.now.list in
    let here = sym (get_held c.self.inside.chunks.entries c.args.number) ∙ ap (λ (h : KeptMapWithRoom). map.get h.list c.args.number) c.self.view_is ∙ is in
    let same : c.in-Some.kept.now ≡ kept = same_some (c.in-Some.ensures.value ∙ here) in
    let there : IsSome (lookup (nat_eq c.args.number) c.self.inside.chunks.entries) = subst IsSome c.in-Some.ensures.value refl in
    on_ok c.append.result
    (λ grown_is. put_in list c.self.inside.chunks.entries (c.get_mut.follows.lender c.append.new.self).entries (ap (λ (h : KeptMapWithRoom). h.list) c.self.view_is) c.args.number c.append.new.self
    (λ q. ((c.get_mut.follows.holds c.append.new.self).3 there).0 q)
    ∙ ap (map.insert list c.args.number) (grown_is ∙ ap (λ (k : Kept). after_append k c.args.batch.now) same))
    c.append.ensures.ok

pub returns-clause-err : goal.returns-clause-err
returns-clause-err g c =
    let list = c.args.self.now.list in
    let there : IsSome (lookup (nat_eq c.args.number) c.self.inside.chunks.entries) = subst IsSome c.in-Some.ensures.value refl in
    let held : map.get list c.args.number ≡ Some c.in-Some.kept.now =
    sym (ap (λ (h : KeptMapWithRoom). map.get h.list c.args.number) c.self.view_is) ∙ get_held c.self.inside.chunks.entries c.args.number ∙ sym c.in-Some.ensures.value in
    on_err c.append.result
    (λ stays. put_in list c.self.inside.chunks.entries (c.get_mut.follows.lender c.append.new.self).entries (ap (λ (h : KeptMapWithRoom). h.list) c.self.view_is) c.args.number c.append.new.self
    (λ q. ((c.get_mut.follows.holds c.append.new.self).3 there).0 q)
    ∙ ap (map.insert list c.args.number) stays ∙ put_again list c.args.number c.in-Some.kept.now held)
    c.append.ensures.err
