use Rattle.fwd_theorem_links.proofs.NoFollowedFiles.{nothing_asked}
use Rattle.fwd_theorem_links.proofs.files.nothing_is_asked_without_followed_files.Goals as goal

pub returns-clause-files : goal.returns-clause-files
returns-clause-files c s ends ticks turns trace left none way = (nothing_asked s none ends ticks turns trace left way).0

pub returns-clause-keeper : goal.returns-clause-keeper
returns-clause-keeper c s ends ticks turns trace left none way = (nothing_asked s none ends ticks turns trace left way).1
