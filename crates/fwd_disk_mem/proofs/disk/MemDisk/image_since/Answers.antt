use Rattle.std.proofs.Common.{◌≡◌, ◌%◌, ℕ, List, IfOk, sym, ◌∙◌, ap, subst}
use Rattle.std.proofs.lemmas.Result.{IfOk-weaker}
use Rattle.fwd_outside.specs.File.{IsPostCrash, content}
use Rattle.fwd_disk_mem.specs.declared.entry.MemEntry.{MemEntry}
use Rattle.fwd_disk_mem.specs.DiskState.{Seen}
use Rattle.fwd_disk_mem.specs.Entry.{files_of}
use Rattle.fwd_disk_mem.specs.Images.{picked, prefix_after_mark}
use Rattle.fwd_disk_mem.proofs.Picks.{picked_is_image}
use Rattle.fwd_disk_mem.proofs.disk.MemDisk.image_since.Goals as goal

pub returns-clause-is_image : goal.returns-clause-is_image
returns-clause-is_image c =
    let calls = c.prefix_until.result.now in
    let same_calls =
    c.prefix_until.ensures ∙ ap (λ (l : List MemEntry). prefix_after_mark c.args.since c.args.calls l) c.deref.ensures.value ∙ ap (λ (v : Seen). prefix_after_mark c.args.since c.args.calls v.calls) c.self.view_is in
    let images : (disk : Seen) → ((name : List ℕ) → content (files_of disk.calls name) ≡ picked (c.args.pick % 4) calls name) → (name : List ℕ) → IsPostCrash (files_of calls name) (content (files_of disk.calls name)) =
    λ disk same name. subst (IsPostCrash (files_of calls name)) (sym (same name)) (picked_is_image (c.args.pick % 4) calls name) in
    subst (λ (l : List MemEntry). IfOk c.disk_after_crash.result (λ disk. (name : List ℕ) → IsPostCrash (files_of l name) (content (files_of disk.calls name)))) same_calls
    (IfOk-weaker c.disk_after_crash.result _ _ images c.disk_after_crash.ensures.picked)
