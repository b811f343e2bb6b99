use Rattle.std.proofs.Common.{sym, ◌∙◌, ap, subst}
use Rattle.fwd_outside.specs.File.{FileState, IsPostCrash, content}
use Rattle.fwd_outside.proofs.KeepsBytes.{whole_post_crash}
use Rattle.fwd_outside.proofs.theorems.sync_is_durable.Goals as goal

pub returns : goal.returns
returns c name old during new steps image at =
    let is = whole_post_crash (old name).bytes image (subst (λ (s : FileState). IsPostCrash s image) steps.file.2 at) in
    (is ∙ ap content (sym steps.file.2), is)
