use Rattle.std.proofs.Common.{◌≡◌, ℕ, ◌+◌, ◌-◌, ◌≤◌, true, false, not, List, length, take, drop, sym, ◌∙◌, ap, subst, arith, length-drop}
use Rattle.std.specs.Str.{bytes_eq}
use Rattle.std.proofs.lemmas.Slice.Eq.{bytes_eq-Decides}
use Rattle.std.proofs.lemmas.List.{take_all}
use Rattle.fwd_disk_mem.specs.Listing.{IsUpToSlash}
use Rattle.fwd_disk_mem.proofs.FolderNames.{begins, is_under, not_false}
use Rattle.fwd_disk_mem.proofs.listing.name_under.Goals as goal

pub returns-then-ne : goal.returns-then-ne
returns-then-ne c name under =
    let same = (bytes_eq-Decides (take (length c.args.folder.now) c.args.file.now) c.args.folder.now).1 (begins c.args.folder.now name c.args.file.now 0 under).2 in
    let no : false ≡ true = sym (ap not same) ∙ sym c.ne.ensures ∙ c.if-ne.true in
    cc no

pub returns : goal.returns
returns c =
    let folder = c.args.folder.now in
    let file = c.args.file.now in
    let front = (bytes_eq-Decides (take (length folder) file) folder).0 (not_false (bytes_eq (take (length folder) file) folder) (sym c.ne.ensures ∙ c.if-ne.false)) in
    let long : length (drop (length folder + 1) file) ≤ length file - (length folder + 1) = omega (arith, length-drop (length folder + 1) file) in
    let up = subst (λ (l : List ℕ). IsUpToSlash l c.up_to_slash.result.now) (take_all (length file - (length folder + 1)) (drop (length folder + 1) file) long) c.up_to_slash.ensures in
    (is_under folder c.up_to_slash.result.now file 0 c.if-file-n.false c.if-file-n-ne47.false front up, up.plain)
