use Rattle.std.proofs.Common.{◌≡◌, ◌+◌, ◌-◌, [], ◌++◌, drop, take, sym, ap, ◌∙◌, arith, length-drop}
use Rattle.std.proofs.lemmas.List.{append_assoc, append-nil, drop-drop, take_rest}
use Rattle.fwd_frames.specs.Lines.{lines as lines_of, unless_empty, line_of}
use Rattle.fwd_frames.specs.LineSteps.{FirstFeed}
use Rattle.fwd_frames.proofs.StreamSplit.{lines-found, rest-found, lines-append}
use Rattle.fwd_frames.proofs.line_steps.push_lines.Goals as goal

pub loop-end-preserved : goal.loop-end-preserved
loop-end-preserved c =
    let s = c.args.stream.now in
    let from = c.loop-end.from in
    let end = c.in-Some.end in
    let found : FirstFeed (drop from s) end = rw (take_rest s from) at c.in-Some.ensures in
    let size : (from + end) - from ≡ end = omega arith in
    let line : c.in_ok-line.line ≡ line_of (take end (drop from s)) = rw size at (c.in_ok-line.ensures [] c.new-whole.ensures) in
    let here : lines_of (drop from s) ≡ unless_empty c.in_ok-line.line ++ lines_of (drop (from + (end + 1)) s) =
    rw (line, ← drop-drop (end + 1) from s) (lines-found [] (drop from s) end found) in (
      omega (arith, found.within, length-drop from s),
      ap (λ l. l ++ lines_of (drop (from + (end + 1)) s)) c.in_ok-push_unless_empty.ensures
          ∙ append_assoc c.loop-end.lines _ _ ∙ ap (λ t. c.loop-end.lines ++ t) (sym here) ∙ c.loop-end.invariant.1,
      rw (← drop-drop (end + 1) from s) (sym (rest-found [] (drop from s) end found)) ∙ c.loop-end.invariant.2,
    )

pub returns-clause-lines : goal.returns-clause-lines
returns-clause-lines c =
    let none : lines_of (drop c.loop-end.from c.args.stream.now) ≡ [] = lines-append [] (drop c.loop-end.from c.args.stream.now) (rw (take_rest c.args.stream.now c.loop-end.from) at c.in_default.ensures) in
    sym (append-nil c.loop-end.lines) ∙ ap (λ t. c.loop-end.lines ++ t) (sym none) ∙ c.loop-end.invariant.1
