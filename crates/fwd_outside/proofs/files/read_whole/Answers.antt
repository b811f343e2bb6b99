use Rattle.std.proofs.Common.{◌≡◌, ◌≢◌, ◌↔◌, Bool, false, IsTrue, List, [], ◌++◌, ℕ, subst, arith}
use Rattle.fwd_outside.proofs.Executions.{call_logged}
use Rattle.fwd_outside.specs.Files.{Length, after_length}
use Rattle.fwd_outside.proofs.ReadWhole.{length_failed, read_failed, read_some, read_none, read_out_of_memory, read_to_end}
use Rattle.fwd_outside.proofs.files.read_whole.Goals as goal
use Rattle.fwd_outside.proofs.files.read_whole.Goals.{else-reading-test, then-reading-test+in_ok-part+then-is_empty}

some_left : {b : Bool} {part : List ℕ} → IsTrue b ↔ (part ≡ []) → b ≡ false → part ≢ []
some_left both is none = let t = both.1 none in absurd (cc (t, is))

pub returns-in_err-length-clause-calls : goal.returns-in_err-length-clause-calls
returns-in_err-length-clause-calls g c = length_failed _ _ c.args.path.now c.in_err-length.field-0.0 c.from_residual.result c.from_residual.ensures.1 c.in_err-length.ensures.call_log

pub reading-init : goal.reading-init
reading-init g c =
    ((c.in_ok-length.length, omega arith, rw c.new-bytes.ensures (call_logged (Length c.args.path.now) _ (after_length c.args.path.now) c.in_ok-length.ensures.call_log)), c.in_ok-length.ensures.cause.later)

pub returns-in_err-part-clause-calls : goal.returns-in_err-part-clause-calls
returns-in_err-part-clause-calls g c =
    let so_far = c.reading.invariant.0 in
    read_failed _ _ _ _ so_far.0 c.args.path.now c.in_ok-length.length c.reading.bytes c.len-at.result c.len-at.ensures (omega (arith, c.reading-test.true, c.len.ensures, c.len-at.ensures)) so_far.1 so_far.2
    c.in_err-part.field-0.0 c.from_residual-in_err-part.result c.from_residual-in_err-part.ensures.1 c.in_err-part.ensures.call_log

pub returns-in_err-extend_from_slice-clause-calls : goal.returns-in_err-extend_from_slice-clause-calls
returns-in_err-extend_from_slice-clause-calls g c =
    let so_far = c.reading.invariant.0 in
    read_out_of_memory _ _ _ _ so_far.0 c.args.path.now c.in_ok-length.length c.reading.bytes c.len-at.result c.len-at.ensures (omega (arith, c.reading-test.true, c.len.ensures, c.len-at.ensures)) so_far.1 so_far.2
    c.in_ok-part.part c.from_residual-in_err-extend_from_slice.result c.from_residual-in_err-extend_from_slice.ensures.1 c.in_ok-part.ensures.call_log

pub reading-preserved : goal.reading-preserved
reading-preserved g c =
    let so_far = c.reading.invariant.0 in
    let read = read_some _ _ _ _ so_far.0 c.args.path.now c.in_ok-length.length c.reading.bytes c.len-at.result c.len-at.ensures (omega (arith, c.reading-test.true, c.len.ensures, c.len-at.ensures)) so_far.1 so_far.2
    c.in_ok-part.part (some_left c.is_empty.ensures c.if-is_empty.false) c.in_ok-part.ensures.call_log in
    let grown : c.extend_from_slice.new.self ≡ c.reading.bytes ++ c.in_ok-part.part = subst (λ (part : List ℕ). c.extend_from_slice.new.self ≡ c.reading.bytes ++ part) c.as_slice.ensures c.in_ok-extend_from_slice.ensures.ok in
    (rw grown read, omega (arith, c.reading.invariant.1, c.in_ok-part.ensures.cause.later))

pub returns-clause-calls : goal.returns-clause-calls
returns-clause-calls g c =
    let so_far = c.reading.invariant.0 in
    elim c.reading-test.branch [
      | else-reading-test w ↦
          let all = read_to_end so_far.0 c.args.path.now c.in_ok-length.length c.reading.bytes (omega (arith, w.reading-test.false, c.len.ensures)) in
          rw w.files-is (rw all at so_far.2)
      | then-reading-test+in_ok-part+then-is_empty w ↦
          let none : w.in_ok-part.part ≡ [] = w.is_empty.ensures.0 w.if-is_empty.true in
          rw w.files-is
          (read_none _ _ _ _ so_far.0 c.args.path.now c.in_ok-length.length c.reading.bytes w.len-at.result w.len-at.ensures (omega (arith, w.reading-test.true, c.len.ensures, w.len-at.ensures)) so_far.1 so_far.2
          w.in_ok-part.part none w.in_ok-part.ensures.call_log)
    ]
