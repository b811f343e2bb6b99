use Rattle.fwd_theorem_content.proofs.SyncedDisk.{synced_files, are_durable, leads_synced}
use Rattle.fwd_theorem_records.proofs.SentRecords.{sent_by_then}
use Rattle.fwd_theorem_records.proofs.records.flushes_send_their_records.Goals as goal

pub returns : goal.returns
returns c s ends ticks turns first entries left last settings known way along are =
    let synced = leads_synced entries first last known along in
    sent_by_then s settings (synced_files first) ends ticks turns entries left synced.0 (are_durable first) way synced.1 are
