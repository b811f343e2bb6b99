use Rattle.std.proofs.Common.{ℕ, List, Some, sym, ◌∙◌, ap}
use Rattle.fwd_files_mem.proofs.FilePaths.{found_lookup}
use Rattle.fwd_files_mem.proofs.files.content.Goals as goal

pub returns-in-Some : goal.returns-in-Some
returns-in-Some c = ap (λ (b : List ℕ). Some b) c.as_slice.ensures ∙ c.in-Some.ensures.value ∙ sym (found_lookup c.args.files.now.entries c.args.path.now)

pub returns-in-None : goal.returns-in-None
returns-in-None c = c.in-None.ensures.value ∙ sym (found_lookup c.args.files.now.entries c.args.path.now)
