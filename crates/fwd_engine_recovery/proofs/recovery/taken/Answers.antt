use Rattle.std.proofs.Common.{ℕ, List, sym, ◌∙◌, ap, subst}
use Rattle.fwd_chunk.specs.declared.chunk.Found.{Found}
use Rattle.fwd_engine_recovery.specs.Adoption.{StoreIsReady}
use Rattle.fwd_engine_recovery.proofs.Metadata.{all_held}
use Rattle.fwd_engine_recovery.proofs.StoreReadiness.{empty_store, ready_first}
use Rattle.fwd_engine_recovery.proofs.recovery.taken.Goals as goal

pub adopt_all-requires-clause-ready : goal.adopt_all-requires-clause-ready
adopt_all-requires-clause-ready c =
    let s = c.args.run.now in
    let root : List ℕ = c.requires.root.0 in
    let found : List Found = c.args.backlog.now.found in
    let read = c.requires.read in
    let ready : StoreIsReady s c.in_ok-parts.parts.store 0 found = ready_first s c.in_ok-parts.parts.store root found c.requires.root.1
    (c.in_ok-parts.ensures.store ∙ ap (empty_store s) read.1.next)
    (record { later = λ stream n later short. c.later_names_are_new.ensures root stream n found c.requires.named later short; differ = c.recovered_paths_differ.ensures root found c.requires.named })
    (all_held read.0 found read.1.found c.requires.meta) in
    subst (λ (l : List Found). StoreIsReady s c.in_ok-parts.parts.store 0 l) (sym c.as_slice.ensures) ready
