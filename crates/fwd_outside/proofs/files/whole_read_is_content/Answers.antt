use Rattle.fwd_outside.proofs.ConsistentFiles.{whole_read_is_content}
use Rattle.fwd_outside.proofs.files.whole_read_is_content.Goals as goal

pub returns : goal.returns
returns c = whole_read_is_content
