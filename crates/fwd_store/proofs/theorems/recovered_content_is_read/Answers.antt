use Rattle.std.proofs.Common.{[], unwrap_or}
use Rattle.fwd_chunk.specs.Name.{found_name}
use Rattle.fwd_store.proofs.RecoveredContent.{found_stands, found_is_kept, seen_is_whole}
use Rattle.fwd_store.proofs.theorems.recovered_content_is_read.Goals as goal

pub returns-clause-whole : goal.returns-clause-whole
returns-clause-whole c = seen_is_whole

pub returns-clause-stands : goal.returns-clause-stands
returns-clause-stands c s found bytes chunk files stands is = found_stands found bytes chunk stands (unwrap_or s.root []) files is

pub returns-clause-kept : goal.returns-clause-kept
returns-clause-kept c s found bytes chunk stands = found_is_kept found bytes chunk stands (found_name (unwrap_or s.root []) found.stream found.name)
