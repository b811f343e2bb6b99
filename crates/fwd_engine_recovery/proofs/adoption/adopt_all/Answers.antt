use Rattle.std.proofs.Common.{◌≡◌, ◌+◌, ◌<◌, ◌∷◌, List, length, drop, sym, ◌∙◌, ap, subst, arith}
use Rattle.std.proofs.lemmas.List.{drop_more, drop_all}
use Rattle.fwd_chunk.specs.declared.chunk.Found.{Found}
use Rattle.fwd_store.specs.StoreState.{Stored}
use Rattle.fwd_engine_recovery.specs.Adoption.{StoreIsReady}
use Rattle.fwd_engine_recovery.proofs.StoreReadiness.{ready_next, taken_next}
use Rattle.fwd_engine_recovery.proofs.RecoveredParts.{TakesFile, behind_first, behind_next, behind_ends}
use Rattle.fwd_engine_recovery.proofs.adoption.adopt_all.Goals as goal

pub loop-index-init : goal.loop-index-init
loop-index-init c = (
  c.requires.ready,
  ap (λ (store : Stored). store.next) c.requires.new.store,
  λ files each. behind_first c.args.run.now _ c.args.parts.now c.args.found.now files c.requires.new each,
)

pub loop-index-preserved : goal.loop-index-preserved
loop-index-preserved c =
    let s = c.args.run.now in
    let n = c.loop-index.index in
    let found = c.args.found.now in
    let old = c.loop-index.parts in
    let new = c.take.new.parts in
    let file : Found = c.index-found-index.result in
    let more : List Found = drop (n + 1) found in
    let less : n < length found = omega (arith, c.loop-index-test.true) in
    let here : drop n found ≡ file ∷ more = drop_more found n file less ∙ ap (λ (f : Found). f ∷ more) (sym c.index-found-index.is) in
    let ready : StoreIsReady s old.store n (file ∷ more) = subst (λ (l : List Found). StoreIsReady s old.store n l) here c.loop-index.invariant.0 in
    let takes : TakesFile s old new n file = record { state = c.in_ok-take.ensures.state; store = c.in_ok-take.ensures.store; input_streams = c.in_ok-take.ensures.input_streams; followed_files = c.in_ok-take.ensures.followed_files } in (
      ready_next s old.store new.store n file more file.seen takes.store ready,
      ap (λ (store : Stored). store.next) takes.store ∙ taken_next old.store (n + 1) file file.seen ∙ c.loop-index.invariant.1,
      λ files each. behind_next s old new n found file more files here (λ i. more) takes ready (c.loop-index.invariant.2 files each),
    )

pub returns : goal.returns
returns c files each =
    let s = c.args.run.now in
    let n = c.loop-index.index in
    let found = c.args.found.now in
    behind_ends s c.loop-index.parts n found files (drop_all n found c.loop-index-test.false) c.loop-index.invariant.0 c.loop-index.invariant.1 (c.loop-index.invariant.2 files each)
