use Rattle.std.proofs.Common.{refl}
use Rattle.fwd_report.proofs.RowLines.{chunk_text}
use Rattle.fwd_report.proofs.pending.push_chunk.Goals as goal

pub returns : goal.returns
returns c row is tagged mask =
    chunk_text row c.args.seen.now c.args.tag.now c.args.outputs.now c.args.text.now c.push_count-2.new.text c.push_names.new.text c.extend_from_slice-2.new.self is tagged
    (rw (c.in_ok-push_count-2.ensures, c.in_ok-push_tag.ensures, c.in_ok-extend_from_slice.ensures.ok, c.in_ok-push_count.ensures) refl) (c.in_ok-push_names.ensures row mask) c.in_ok-extend_from_slice-2.ensures.ok
