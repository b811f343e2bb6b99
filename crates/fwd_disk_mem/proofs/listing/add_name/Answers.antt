use Rattle.std.proofs.Common.{inl, refl, sym, ◌∙◌}
use Rattle.fwd_disk_mem.proofs.FolderNames.{adds_none, not_text}
use Rattle.fwd_disk_mem.proofs.listing.add_name.Goals as goal

pub returns-in-None : goal.returns-in-None
returns-in-None c = inl (refl, λ name is_name under. c.in-None.ensures name under)

pub returns-else-is_ok : goal.returns-else-is_ok
returns-else-is_ok c =
    adds_none c.args.folder.now c.in-Some.name.now c.args.file.now c.args.names.now.items c.in-Some.ensures.0 c.in-Some.ensures.1
    (not_text c.from_utf8.result _ _ _ c.from_utf8.ensures.cases (sym c.is_ok.ensures.value ∙ c.if-is_ok.false))
