use Rattle.std.proofs.Common.{sym, ◌∙◌, arith}
use Rattle.fwd_settings_values.specs.Text.{is_one_of}
use Rattle.fwd_settings_values.proofs.Split.{split_on, split_done, starts_empty, goes_empty}
use Rattle.fwd_settings_values.proofs.texts.parts_at.Goals as goal

pub loop-byte-init : goal.loop-byte-init
loop-byte-init c = starts_empty (is_one_of c.args.separators.now) c.args.text.now c.new-parts.result c.new-part.result c.new-parts.ensures c.new-part.ensures

pub loop-byte-preserved : goal.loop-byte-preserved
loop-byte-preserved c =
    split_on (is_one_of c.args.separators.now) c.args.text.now c.loop-byte.byte-index c.loop-byte.parts c.loop-byte.part c.push-in-loop-byte.new.self
    c.loop-byte-test.true (sym c.is_one_of.ensures ∙ c.if-is_one_of.false) c.in_ok-push-2.ensures.ok
    ∙ c.loop-byte.invariant

pub loop-byte-preserved-then-is_one_of : goal.loop-byte-preserved-then-is_one_of
loop-byte-preserved-then-is_one_of c =
    goes_empty (is_one_of c.args.separators.now) c.args.text.now c.loop-byte.byte-index c.loop-byte.parts c.push.new.self c.loop-byte.part c.replace-whole.result c.replace-whole.new.dest
    c.loop-byte-test.true (sym c.is_one_of.ensures ∙ c.if-is_one_of.true) c.in_ok-push.ensures.ok c.replace-whole.ensures.value (c.replace-whole.ensures.after ∙ c.new.ensures)
    ∙ c.loop-byte.invariant

pub returns : goal.returns
returns c =
    split_done (is_one_of c.args.separators.now) c.args.text.now c.loop-byte.byte-index c.loop-byte.parts c.push-2.new.self c.loop-byte.part
    (omega arith) c.in_ok-push-3.ensures.ok
    ∙ c.loop-byte.invariant
