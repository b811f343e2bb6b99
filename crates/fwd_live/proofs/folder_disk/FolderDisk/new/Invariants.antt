use Rattle.fwd_live.proofs.folder_disk.FolderDisk.new.Given as goal

abbrev pub ghost-new : goal.ghost-new
ghost-new g a = g.given
