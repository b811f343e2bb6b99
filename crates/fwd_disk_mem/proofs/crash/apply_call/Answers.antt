use Rattle.std.proofs.Common.{◌≡◌, false, ℕ, List, sym, ◌∙◌, ap, subst}
use Rattle.std.specs.Str.{bytes_eq}
use Rattle.fwd_disk_mem.specs.Images.{acted_file, file_at}
use Rattle.fwd_disk_mem.proofs.CrashDisk.{acted_at}
use Rattle.fwd_disk_mem.proofs.crash.apply_call.Goals as goal

pub returns : goal.returns
returns c =
    let old = c.args.files.now.entries in
    let mid = c.take_file-file.new.files.entries in
    let name = c.in_ok-name.name.items in
    let same = sym c.in_ok-name.ensures.items in
    acted_at c.args.pick c.args.call.now old mid c.insert.new.self.entries name c.in_ok-file.file (c.in_ok-name.ensures.items ∙ c.name_of-name.ensures)
    (c.in_ok-file.ensures ∙ ap (λ f. acted_file c.args.pick f c.args.call.now) (c.take_file-file.ensures.file ∙ ap (file_at old) same))
    (subst (λ (m : List ℕ). (n : List ℕ) → bytes_eq m n ≡ false → file_at mid n ≡ file_at old n) same c.take_file-file.ensures.others) c.in_ok-insert.ensures.updates.1 c.in_ok-insert.ensures.updates.3
