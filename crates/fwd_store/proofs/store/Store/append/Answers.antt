use Rattle.std.proofs.Common.{◌≡◌, ℕ, false, Some, ap, ◌∙◌, sym}
use Rattle.std.specs.FinMap as map
use Rattle.fwd_store.specs.StoreState.{KeptMap, Stored}
use Rattle.fwd_chunk.specs.Kept.{size_of_optional, after_append}
use Rattle.fwd_store.specs.Store.{with_kept}
use Rattle.fwd_store.proofs.MapEntries.{get_here}
use Rattle.fwd_store.proofs.Invariant.{sound_as_kept, can_go_on, goes_on_held, grows_some, room_for, same_file}
use Rattle.fwd_store.proofs.store.Store.append.Goals as goal

pub append-requires-clause-room : goal.append-requires-clause-room
append-requires-clause-room g c kept is =
    let here : map.get c.args.self.now.chunks c.args.number ≡ Some kept = sym (ap (λ (s : Stored). map.get s.chunks c.args.number) c.self.view_is) ∙ is in
    room_for c.args.self.now c.args.number kept c.args.batch.now here c.requires.grows c.requires.room c.requires.batch

pub invariant_of-self : goal.invariant_of-self
invariant_of-self g c =
    let some = grows_some (map.get c.args.self.now.chunks c.args.number) c.requires.grows in
    let here : map.get c.self.inside.chunks.list c.args.number ≡ Some some.0 = ap (λ (s : Stored). map.get s.chunks c.args.number) c.self.view_is ∙ some.1 in
    sound_as_kept _ c.args.number some.0 (after_append some.0 c.args.batch.now) _ here (same_file some.0 c.args.batch.now) (c.in-Ok.ensures.ok some.0 here) (can_go_on some.0 c.args.batch.now)
    (goes_on_held c.self.inside.root c.args.number some.0 c.args.batch.now (room_for c.args.self.now c.args.number some.0 c.args.batch.now some.1 c.requires.grows c.requires.room c.requires.batch)) c.self.invariant

pub returns-in-Ok-clause-ok : goal.returns-in-Ok-clause-ok
returns-in-Ok-clause-ok g c =
    let n = c.args.number in
    let some = grows_some (map.get c.args.self.now.chunks n) c.requires.grows in
    let here : map.get c.self.inside.chunks.list n ≡ Some some.0 = ap (λ (s : Stored). map.get s.chunks n) c.self.view_is ∙ some.1 in
    let more = after_append some.0 c.args.batch.now in
    let put : c.append.new.self.list ≡ map.insert c.self.inside.chunks.list n more = c.in-Ok.ensures.ok some.0 here in
    let there : map.get c.append.new.self.list n ≡ Some more = ap (λ (m : KeptMap). map.get m n) put ∙ get_here c.self.inside.chunks.list n more in (
      some.0,
      some.1,
      ap (λ (size : ℕ). record { chunk = record { 0 = n }; size = size; fresh = false }) (c.size.ensures ∙ ap size_of_optional there),
      ap (λ (m : KeptMap). record { root = c.self.inside.root; full = c.self.inside.full; next = c.self.inside.next; chunks = m; opened = c.self.inside.opened.list }) put
          ∙ ap (λ (s : Stored). with_kept s n more) c.self.view_is,
    )
