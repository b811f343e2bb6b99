use Rattle.std.proofs.Common.{◌≡◌, if◌then◌else◌, List, ℕ, Global, refl, sym, ◌∙◌, ap, subst, arith}
use Rattle.std.specs.Prelude.{Vec}
use Rattle.std.proofs.lemmas.List.{take_all}
use Rattle.fwd_outside.specs.File.{absent}
use Rattle.fwd_disk_mem.specs.declared.image.ImageFile.{ImageFile}
use Rattle.fwd_disk_mem.specs.declared.entry.MemEntry.{MemEntry}
use Rattle.fwd_disk_mem.specs.Entry.{is_on}
use Rattle.fwd_disk_mem.specs.Images.{acted_file, make, no_call_file, file_at, FileRepresents}
use Rattle.fwd_disk_mem.proofs.ImageSteps.{shows_more}
use Rattle.fwd_disk_mem.proofs.crash.images_after.Goals as goal

pub loop-call-init : goal.loop-call-init
loop-call-init c = λ name.
    subst (λ (l : List (Vec ℕ Global × ImageFile)). FileRepresents absent no_call_file (file_at l name)) (sym c.new-files.ensures.empty) (record { read = refl; base = refl; image = refl })

pub loop-call-preserved : goal.loop-call-preserved
loop-call-preserved c = λ name.
    shows_more c.args.pick name c.args.calls.now c.loop-call.call-index c.call-item.result (file_at c.loop-call.files.entries name) (file_at c.apply_call.new.files.entries name) (is_on c.call-item.result name) (omega arith) c.call-item.is refl
    (subst (λ (t : MemEntry). file_at c.apply_call.new.files.entries name ≡ (if is_on t name then acted_file c.args.pick (file_at c.loop-call.files.entries name) t else file_at c.loop-call.files.entries name)) c.entry.ensures (c.in_ok-apply_call.ensures name))
    (c.loop-call.invariant name)

pub returns : goal.returns
returns c = λ name.
    sym (c.loop-call.invariant name).image ∙ ap (λ (l : List MemEntry). (make c.args.pick name absent no_call_file l).image) (take_all c.loop-call.call-index c.args.calls.now (omega arith))
