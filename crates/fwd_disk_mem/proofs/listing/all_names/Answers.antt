use Rattle.std.proofs.Common.{ℕ, List, [], ◌∷◌, ◌++◌, map, sym, ◌∙◌, ap, subst}
use Rattle.std.proofs.lemmas.List.{append-nil, append_assoc}
use Rattle.fwd_disk_mem.specs.FileTable.{MemFile, file_of}
use Rattle.fwd_disk_mem.specs.Listing.{AreNames, Adds}
use Rattle.fwd_disk_mem.proofs.FolderNames.{names-push, names_nil}
use Rattle.fwd_disk_mem.proofs.listing.all_names.Goals as goal

pub loop-name-init : goal.loop-name-init
loop-name-init c = (
  [],
  ap (map file_of) (c.into_iter-name-iterator.ensures.into_iter_gives ∙ c.iter-name-items.ensures.rest),
  subst (λ (l : List (List ℕ)). AreNames c.args.folder.now [] l) (sym c.new-names.ensures.items) (names_nil c.args.folder.now),
)

pub loop-name-preserved : goal.loop-name-preserved
loop-name-preserved c =
    let done = c.loop-name.invariant.0 in
    let file = file_of (c.in-Some.name.now, c.in-Some.field-0-1.now) in
    let adds = subst (λ (n : List ℕ). Adds c.args.folder.now n c.loop-name.names.items c.add_name.new.names.items) c.as_slice.ensures.value c.in_ok-add_name.ensures in (
      done ++ file ∷ [],
      append_assoc done (file ∷ []) (map file_of c.next.new.self) ∙ ap (λ (l : List _). done ++ map file_of l) (sym c.in-Some.ensures.steps) ∙ c.loop-name.invariant.1,
      names-push c.args.folder.now done file c.loop-name.names.items c.add_name.new.names.items c.loop-name.invariant.2 adds,
    )

pub returns : goal.returns
returns c =
    let done = c.loop-name.invariant.0 in
    let all = sym (append-nil done) ∙ ap (λ (l : List _). done ++ map file_of l) (sym c.in-None.ensures.steps.0) ∙ c.loop-name.invariant.1 in
    subst (λ (l : List MemFile). AreNames c.args.folder.now l c.loop-name.names.items) all c.loop-name.invariant.2
