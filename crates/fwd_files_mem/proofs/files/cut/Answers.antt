use Rattle.std.proofs.Common.{IsSome, refl, subst}
use Rattle.fwd_files_mem.proofs.FilePaths.{has_cut, has_nothing}
use Rattle.fwd_files_mem.proofs.files.cut.Goals as goal

pub returns-in-Some : goal.returns-in-Some
returns-in-Some c =
    let there = c.in-Some.ensures.value in
    let now = c.truncate.new.self in
    let updates = (c.get_mut.follows.holds now).3 (subst IsSome there refl) in
    has_cut c.args.files.now.entries (c.get_mut.follows.lender now).entries c.args.path.now now updates.0 c.args.length c.in-Some.content.now there c.truncate.ensures

pub returns-in_default : goal.returns-in_default
returns-in_default c = rw c.get_mut.follows.holds-at-none (has_nothing c.args.files.now.entries c.args.path.now c.args.length c.in_default.ensures.value)
