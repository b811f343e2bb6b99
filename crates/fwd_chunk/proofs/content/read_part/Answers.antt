use Rattle.std.proofs.Common.{◌≡◌, ℕ, ◌+◌, List, ◌++◌, length-append, ap, subst, arith}
use Rattle.fwd_outside.proofs.Executions.{no_call_made}
use Rattle.fwd_chunk.specs.Content.{read_part_program}
use Rattle.fwd_chunk.proofs.ReadPieces.{read_failed, read_whole_piece, read_short_piece, read_stopped}
use Rattle.fwd_chunk.proofs.content.read_part.Goals as goal

pub reading-init : goal.reading-init
reading-init g c = record {
  calls = (c.args.size, omega arith, rw c.new-bytes.ensures (no_call_made (g.D.Disk.call_log c.args.disk.now) (read_part_program c.args.name.now c.args.from c.args.size)));
  within = rw c.new-bytes.ensures (omega arith);
  later = omega arith;
}

pub returns-in_err-part-clause-calls : goal.returns-in_err-part-clause-calls
returns-in_err-part-clause-calls g c =
    let calls = c.reading.invariant.calls in
    read_failed _ _ _ _ calls.0 c.args.name.now c.args.from c.args.size c.reading.bytes (c.args.from + c.len-at.result) c.min-wanted.result (ap (λ (n : ℕ). c.args.from + n) c.len-at.ensures)
    (omega (arith, c.reading-test.true, c.len.ensures)) (omega (arith, c.min-wanted.ensures, c.len-at.ensures)) calls.1 calls.2
    c.in_err-part.field-0.0 c.from_residual.result c.from_residual.ensures.1 c.in_err-part.ensures.call_log

pub returns-in_err-extend_from_slice-clause-calls : goal.returns-in_err-extend_from_slice-clause-calls
returns-in_err-extend_from_slice-clause-calls g c =
    let calls = c.reading.invariant.calls in
    read_stopped _ _ _ _ calls.0 c.args.name.now c.args.from c.args.size c.reading.bytes (c.args.from + c.len-at.result) c.min-wanted.result (ap (λ (n : ℕ). c.args.from + n) c.len-at.ensures)
    (omega (arith, c.reading-test.true, c.len.ensures)) (omega (arith, c.min-wanted.ensures, c.len-at.ensures)) calls.1 calls.2
    c.in_ok-part.part c.from_residual-in_err-extend_from_slice.result c.from_residual-in_err-extend_from_slice.ensures.1 c.in_ok-part.ensures.call_log

pub returns-then-len-wanted-clause-calls : goal.returns-then-len-wanted-clause-calls
returns-then-len-wanted-clause-calls g c =
    let calls = c.reading.invariant.calls in
    let grown : c.extend_from_slice.new.self ≡ c.reading.bytes ++ c.in_ok-part.part = subst (λ (part : List ℕ). c.extend_from_slice.new.self ≡ c.reading.bytes ++ part) c.as_slice.ensures c.in_ok-extend_from_slice.ensures.ok in
    rw grown
    (read_short_piece _ _ _ _ calls.0 c.args.name.now c.args.from c.args.size c.reading.bytes (c.args.from + c.len-at.result) c.min-wanted.result (ap (λ (n : ℕ). c.args.from + n) c.len-at.ensures)
    (omega (arith, c.reading-test.true, c.len.ensures)) (omega (arith, c.min-wanted.ensures, c.len-at.ensures)) calls.1 calls.2
    c.in_ok-part.part (omega (arith, c.if-len-wanted.true, c.len-in-reading.ensures)) c.in_ok-part.ensures.call_log)

pub reading-preserved : goal.reading-preserved
reading-preserved g c =
    let calls = c.reading.invariant.calls in
    let grown : c.extend_from_slice.new.self ≡ c.reading.bytes ++ c.in_ok-part.part = subst (λ (part : List ℕ). c.extend_from_slice.new.self ≡ c.reading.bytes ++ part) c.as_slice.ensures c.in_ok-extend_from_slice.ensures.ok in
    let read = read_whole_piece _ _ _ _ calls.0 c.args.name.now c.args.from c.args.size c.reading.bytes (c.args.from + c.len-at.result) c.min-wanted.result (ap (λ (n : ℕ). c.args.from + n) c.len-at.ensures)
    (omega (arith, c.reading-test.true, c.len.ensures)) (omega (arith, c.min-wanted.ensures, c.len-at.ensures)) calls.1 calls.2
    c.in_ok-part.part (omega (arith, c.if-len-wanted.false, c.len-in-reading.ensures)) c.in_ok-part.ensures.call_log in
    record {
      calls = rw grown read;
      within = rw grown (omega (arith, length-append c.reading.bytes c.in_ok-part.part, c.in_ok-part.ensures.within, c.min-wanted.ensures, c.len-at.ensures, c.reading.invariant.within));
      later = omega (arith, c.reading.invariant.later, c.in_ok-part.ensures.cause.later);
    }
