use Rattle.std.proofs.Common.{◌≡◌, ◌+◌, ◌≤◌, ℕ, List, length, Option, sym, ◌∙◌, ap, arith, Bor}
use Rattle.std.specs.Option.{option_copied}
use Rattle.fwd_script.specs.Schedule.{lines_left, read_on, schedule_of}
use Rattle.fwd_script.proofs.LineSteps.{from_the_start, passes_over, refuses, shorter, size, takes_in}
use Rattle.fwd_script.proofs.reader.read_schedule.Goals as goal

pub lines-init : goal.lines-init
lines-init c = record { so_read = from_the_start c.args.bytes.now c.new-so_far.result c.new-so_far.ensures; bounded = omega arith }

pub returns-in-Err-clause-refused : goal.returns-in-Err-clause-refused
returns-in-Err-clause-refused c =
    let so_read = c.lines.invariant.so_read ∙ ap (λ (o : Option (Bor (List ℕ))). read_on c.lines.so_far (c.lines.number + 1) (lines_left (option_copied o))) c.in-Some.is in
    λ not_memory. refuses c.in-Some.text.now c.part.result.0.now (option_copied c.part.result.1) c.part.ensures.before c.part.ensures.behind (schedule_of c.args.bytes.now) c.lines.so_far c.lines.number so_read c.in-Err.kind
    (sym c.is_passed_over.ensures ∙ c.if-not-is_passed_over.true) (c.in-Err.ensures.err not_memory)

pub lines-smaller-in-Ok : goal.lines-smaller-in-Ok
lines-smaller-in-Ok c =
    let s : size (option_copied c.part.result.1) ≤ length c.in-Some.text.now = shorter c.in-Some.text.now c.part.result.0.now (option_copied c.part.result.1) c.part.ensures.before c.part.ensures.behind in
    let r : size (option_copied c.lines.rest) ≡ length c.in-Some.text.now + 1 = ap (λ (o : Option (Bor (List ℕ))). size (option_copied o)) c.in-Some.is in
    omega (arith, s, r)

pub lines-preserved-in-Ok : goal.lines-preserved-in-Ok
lines-preserved-in-Ok c =
    let so_read = c.lines.invariant.so_read ∙ ap (λ (o : Option (Bor (List ℕ))). read_on c.lines.so_far (c.lines.number + 1) (lines_left (option_copied o))) c.in-Some.is in
    let s : size (option_copied c.part.result.1) ≤ length c.in-Some.text.now = shorter c.in-Some.text.now c.part.result.0.now (option_copied c.part.result.1) c.part.ensures.before c.part.ensures.behind in
    let r : size (option_copied c.lines.rest) ≡ length c.in-Some.text.now + 1 = ap (λ (o : Option (Bor (List ℕ))). size (option_copied o)) c.in-Some.is in
    record {
      so_read = takes_in c.in-Some.text.now c.part.result.0.now (option_copied c.part.result.1) c.part.ensures.before c.part.ensures.behind (schedule_of c.args.bytes.now) c.lines.so_far c.lines.number so_read c.read.new.self
          (sym c.is_passed_over.ensures ∙ c.if-not-is_passed_over.true) c.in-Ok.ensures.ok;
      bounded = omega (arith, s, r, c.lines.invariant.bounded);
    }

pub lines-smaller : goal.lines-smaller
lines-smaller c =
    let s : size (option_copied c.part.result.1) ≤ length c.in-Some.text.now = shorter c.in-Some.text.now c.part.result.0.now (option_copied c.part.result.1) c.part.ensures.before c.part.ensures.behind in
    let r : size (option_copied c.lines.rest) ≡ length c.in-Some.text.now + 1 = ap (λ (o : Option (Bor (List ℕ))). size (option_copied o)) c.in-Some.is in
    omega (arith, s, r)

pub lines-preserved : goal.lines-preserved
lines-preserved c =
    let so_read = c.lines.invariant.so_read ∙ ap (λ (o : Option (Bor (List ℕ))). read_on c.lines.so_far (c.lines.number + 1) (lines_left (option_copied o))) c.in-Some.is in
    let s : size (option_copied c.part.result.1) ≤ length c.in-Some.text.now = shorter c.in-Some.text.now c.part.result.0.now (option_copied c.part.result.1) c.part.ensures.before c.part.ensures.behind in
    let r : size (option_copied c.lines.rest) ≡ length c.in-Some.text.now + 1 = ap (λ (o : Option (Bor (List ℕ))). size (option_copied o)) c.in-Some.is in
    record {
      so_read = passes_over c.in-Some.text.now c.part.result.0.now (option_copied c.part.result.1) c.part.ensures.before c.part.ensures.behind (schedule_of c.args.bytes.now) c.lines.so_far c.lines.number so_read
          (sym c.is_passed_over.ensures ∙ c.if-not-is_passed_over.false);
      bounded = omega (arith, s, r, c.lines.invariant.bounded);
    }
