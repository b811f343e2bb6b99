use Rattle.std.proofs.Common.{◌≡◌, ℕ, List, ◌+◌, [], ◌++◌, sym, ap, ◌∙◌}
use Rattle.std.proofs.lemmas.List.{append-nil, take_rest}
use Rattle.fwd_frames.specs.Lines.{kept, state_of_rest, lines, rest}
use Rattle.fwd_frames.proofs.StreamSplit.{lines-pushed, rest-found, lines-append, rest-append, behind-append}
use Rattle.fwd_frames.proofs.frames.Frames.feed.Goals as goal

pub returns-in_default-clause-lines : goal.returns-in_default-clause-lines
returns-in_default-clause-lines c = λ stream is.
    rw c.new-lines.ensures (append-nil (lines stream) ∙ sym (lines-append stream c.args.piece.now c.in_default.ensures))

pub returns-in_default-clause-behind : goal.returns-in_default-clause-behind
returns-in_default-clause-behind c = λ stream is.
    behind-append (lines stream) c.new-lines.result (lines (stream ++ c.args.piece.now))
    (rw c.new-lines.ensures (append-nil (lines stream) ∙ sym (lines-append stream c.args.piece.now c.in_default.ensures)))

pub returns-in_default-clause-kept : goal.returns-in_default-clause-kept
returns-in_default-clause-kept c = λ stream is.
    c.in_ok-keep.ensures.ok (rest stream) is ∙ ap state_of_rest (sym (rest-append stream c.args.piece.now c.in_default.ensures))

given : (c : goal.After-drop-self-inside) (stream : List ℕ) → c.args.self.now ≡ kept stream → lines stream ++ c.push_lines.new.lines ≡ lines (stream ++ c.args.piece.now)
given c stream is =
    lines-pushed stream c.args.piece.now c.in-Some.end c.in_ok-first.first _ _ _ c.in-Some.ensures c.new-lines.ensures
    (c.in_ok-first.ensures (rest stream) is) c.in_ok-push_unless_empty.ensures
    (rw (take_rest c.args.piece.now (c.in-Some.end + 1)) at c.in_ok-left.ensures.lines)

pub returns-clause-lines : goal.returns-clause-lines
returns-clause-lines c = given c

pub returns-clause-behind : goal.returns-clause-behind
returns-clause-behind c = λ stream is. behind-append (lines stream) _ _ (given c stream is)

pub returns-clause-kept : goal.returns-clause-kept
returns-clause-kept c = λ stream is.
    c.behind.view_is ∙ c.in_ok-keep-2.ensures.ok [] c.new-behind.ensures
    ∙ ap state_of_rest ((rw (take_rest c.args.piece.now (c.in-Some.end + 1)) at c.in_ok-left.ensures.rest) ∙ sym (rest-found stream c.args.piece.now c.in-Some.end c.in-Some.ensures))
