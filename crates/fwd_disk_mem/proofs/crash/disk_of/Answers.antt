use Rattle.std.proofs.Common.{ℕ, List, [], ◌∷◌, ◌++◌, Global, sym, ◌∙◌, ap}
use Rattle.std.specs.Prelude.{Vec}
use Rattle.std.proofs.lemmas.List.{append-nil, append_assoc}
use Rattle.fwd_outside.specs.File.{content}
use Rattle.fwd_disk_mem.specs.declared.image.ImageFile.{ImageFile}
use Rattle.fwd_disk_mem.specs.declared.entry.MemEntry.{MemEntry}
use Rattle.fwd_disk_mem.specs.DiskState.{Seen}
use Rattle.fwd_disk_mem.specs.Entry.{files_of}
use Rattle.fwd_disk_mem.specs.Images.{preset_of, presets_of}
use Rattle.fwd_disk_mem.proofs.CrashDisk.{presets_of-push, are_presets, images_read}
use Rattle.fwd_disk_mem.proofs.crash.disk_of.Goals as goal

pub loop-name-init : goal.loop-name-init
loop-name-init c = ([], c.into_iter-name-iterator.ensures.into_iter_gives ∙ c.iter-name-items.ensures.rest, c.new-disk.ensures.calls, c.new-disk.ensures.faults, c.new-disk.ensures.mark)

pub loop-name-preserved : goal.loop-name-preserved
loop-name-preserved c =
    let done = c.loop-name.invariant.0 in
    let entry : Vec ℕ Global × ImageFile = (c.in-Some.name.now, c.in-Some.file.now) in
    let disk = c.in_ok-add_image.ensures in
    let calls = ap (λ (d : Seen). d.calls) disk ∙ ap (λ (l : List MemEntry). l ++ preset_of c.as_slice.result.now c.in-Some.file.now.image) c.loop-name.invariant.2
    ∙ ap (λ (n : List ℕ). presets_of done ++ preset_of n c.in-Some.file.now.image) c.as_slice.ensures.value ∙ sym (presets_of-push done entry) in (
      done ++ entry ∷ [],
      append_assoc done (entry ∷ []) c.next.new.self ∙ ap (λ (l : List (Vec ℕ Global × ImageFile)). done ++ l) (sym c.in-Some.ensures.steps) ∙ c.loop-name.invariant.1,
      calls,
      ap (λ (d : Seen). d.faults) disk ∙ c.loop-name.invariant.3,
      ap (λ (d : Seen). d.mark) disk ∙ c.loop-name.invariant.4,
    )

pub returns-clause-presets : goal.returns-clause-presets
returns-clause-presets c = let are = are_presets c.loop-name.invariant.0 in (are.0, c.loop-name.invariant.2 ∙ are.1)

pub returns-clause-images : goal.returns-clause-images
returns-clause-images c = λ name.
    let done = c.loop-name.invariant.0 in
    let all = sym (append-nil done) ∙ ap (λ (l : List (Vec ℕ Global × ImageFile)). done ++ l) (sym c.in-None.ensures.steps.0) ∙ c.loop-name.invariant.1 in
    ap (λ (l : List MemEntry). content (files_of l name)) (c.loop-name.invariant.2 ∙ ap presets_of all) ∙ images_read c.args.files.now.entries c.iter-name-items.ensures.unique name
