use Rattle.std.proofs.Common.{Some, ap, ◌∙◌, ◌++◌, [], ◌∷◌, ◌<◌, ℕ, List, All, sym, subst}
use Rattle.std.specs.FinMap as map
use Rattle.fwd_base.specs.Limits.{numbers_end}
use Rattle.fwd_chunk.specs.declared.kept.Kept.{Kept}
use Rattle.fwd_store.specs.OpenChunk.{Opened}
use Rattle.fwd_store.specs.StoreState.{KeptMap, Stored}
use Rattle.fwd_store.specs.Store.{begins_as, new_name, CanGrow, IsValidEntry, new_kept}
use Rattle.fwd_chunk.specs.Name.{file_name}
use Rattle.fwd_store.proofs.MadeCalls.{nothing_accepted, begins_new}
use Rattle.fwd_store.proofs.Invariant.{sound_as_new, IsNamedNew, open_below, can_begin, begins_held, begins_named}
use Rattle.fwd_store.proofs.store.Store.begin_chunk.Goals as goal

pub returns-in_err-reserve-clause-calls : goal.returns-in_err-reserve-clause-calls
returns-in_err-reserve-clause-calls g c =
    nothing_accepted (g.D.Disk.call_log c.args.disk.now) (begins_as (new_name c.args.self.now c.args.stream.now) c.args.tag.now c.args.home c.args.batch.now c.args.outputs.now) c.from_residual.result
    (begins_new (new_name c.args.self.now c.args.stream.now) c.args.tag.now c.args.home c.args.batch.now c.args.outputs.now) c.from_residual.ensures.1

pub returns-in_err-reserve-2-clause-calls : goal.returns-in_err-reserve-2-clause-calls
returns-in_err-reserve-2-clause-calls g c =
    nothing_accepted (g.D.Disk.call_log c.args.disk.now) (begins_as (new_name c.args.self.now c.args.stream.now) c.args.tag.now c.args.home c.args.batch.now c.args.outputs.now) c.from_residual-in_err-reserve-2.result
    (begins_new (new_name c.args.self.now c.args.stream.now) c.args.tag.now c.args.home c.args.batch.now c.args.outputs.now) c.from_residual-in_err-reserve-2.ensures.1

pub push-requires-clause-numbers_rise : goal.push-requires-clause-numbers_rise
push-requires-clause-numbers_rise g c =
    subst (λ (l : List Opened). All (λ o. o.chunk < c.self.inside.next) l) (sym c.reserve-2.ensures.same) (open_below _ c.self.invariant)

pub invariant_of-self-in-Ok : goal.invariant_of-self-in-Ok
invariant_of-self-in-Ok g c =
    sound_as_new _ c.args.source.input.0 c.args.source.tag.items c.in-Ok.kept _ _ _ c.in-Ok.ensures.ok.1
    (c.insert.ensures ∙ ap (λ (chunks : KeptMap). map.insert chunks c.self.inside.next c.in-Ok.kept) c.reserve.ensures.same)
    (c.push.ensures ∙ ap (λ (l : List Opened). l ++ record { input = c.args.source.input.0; tag = c.args.source.tag.items; chunk = c.self.inside.next } ∷ []) c.reserve-2.ensures.same)
    (subst (λ (s : Stored). s.next < numbers_end) (sym c.self.view_is) c.requires.number)
    (subst (λ (kept : Kept). CanGrow (Some kept)) (sym c.in-Ok.ensures.ok.0) (can_begin _ c.args.tag.now c.args.home c.args.batch.now c.args.outputs.now c.requires.tag c.requires.outputs))
    (subst (λ (kept : Kept). IsValidEntry c.self.inside.root c.self.inside.next (Some kept)) (sym (c.in-Ok.ensures.ok.0 ∙ ap (λ (root : List ℕ). new_kept (file_name root c.args.stream.now c.self.inside.next) c.args.tag.now c.args.home c.args.batch.now c.args.outputs.now) c.bytes_of-root.ensures))
    (begins_held c.self.inside.root c.args.stream.now c.self.inside.next c.args.tag.now c.args.home c.args.batch.now c.args.outputs.now c.requires.tag c.requires.outputs c.requires.batch))
    (subst (λ (kept : Kept). IsNamedNew c.self.inside.root c.self.inside.next kept) (sym (c.in-Ok.ensures.ok.0 ∙ ap (λ (root : List ℕ). new_kept (file_name root c.args.stream.now c.self.inside.next) c.args.tag.now c.args.home c.args.batch.now c.args.outputs.now) c.bytes_of-root.ensures))
    (begins_named c.self.inside.root c.args.stream.now c.self.inside.next c.args.tag.now c.args.home c.args.batch.now c.args.outputs.now))
    c.self.invariant
