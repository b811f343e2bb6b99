use Rattle.std.proofs.Common.{◌≡◌, ◌≤◌, ◌++◌, true, false, length, List, ℕ, Option, subst, arith}
use Rattle.fwd_base.specs.Limits.{largest_batch}
use Rattle.fwd_event.specs.Event.{EventFits}
use Rattle.fwd_parser.specs.LineEvent.{parsed}
use Rattle.fwd_engine_chunks.specs.BatchOutcome.{IsEncodingOf}
use Rattle.fwd_engine_chunks.proofs.EncodingLemmas.{encoding_of_event}
use Rattle.fwd_engine_ingest.proofs.LineEncodings.{none_if_full, none_if_unfit, some_more}
use Rattle.fwd_engine_ingest.proofs.batches.append_line.Goals as goal

pub returns-then-not-branch-clause-encodes : goal.returns-then-not-branch-clause-encodes
returns-then-not-branch-clause-encodes c events holds =
    none_if_unfit c.args.reader.now c.args.line c.args.now events c.lemma_encoded_length_decides.ensures (λ fits.
    let yes = c.in_ok-write.ensures.fits.1 fits in
    let no = c.if-not-branch.true in
    absurd cc)

pub returns-then-len-gt-LARGEST_BATCH-clause-encodes : goal.returns-then-len-gt-LARGEST_BATCH-clause-encodes
returns-then-len-gt-LARGEST_BATCH-clause-encodes c events holds =
    let e = parsed c.args.reader.now c.args.line c.args.now in
    let some = subst (λ (o : Option (List ℕ)). IsEncodingOf events o) c.in-Some.is holds in
    none_if_full events e c.in-Some.bytes c.write.new.out some (rw c.if-not-branch.false at c.in_ok-write.ensures.bytes) (omega (arith, c.if-len-gt-LARGEST_BATCH.true, c.len.ensures))

pub returns-clause-encodes : goal.returns-clause-encodes
returns-clause-encodes c events holds =
    let some = subst (λ (o : Option (List ℕ)). IsEncodingOf events o) c.in-Some.is holds in
    some_more c.args.reader.now c.args.line c.args.now events c.in-Some.bytes c.write.new.out some (c.in_ok-write.ensures.fits.0 c.if-not-branch.false)
    (rw c.if-not-branch.false at c.in_ok-write.ensures.bytes) (omega (arith, c.if-len-gt-LARGEST_BATCH.false, c.len.ensures))
