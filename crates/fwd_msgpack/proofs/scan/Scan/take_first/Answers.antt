use Rattle.std.proofs.Common.{rules, ◌≡◌, true, false, sym, ap, subst, ◌∙◌}
use Rattle.fwd_msgpack.specs.Continuations.{IsTabled, continuation_of}
use Rattle.fwd_msgpack.specs.ScanState.{may_open}
use Rattle.fwd_msgpack.proofs.Skipping.{is_tabled, unused_first, bytes_first, known_first, deep_known, sized_first, deep_sized}
use Rattle.fwd_msgpack.proofs.scan.Scan.take_first.Goals as goal

pub continuation_of-requires : goal.continuation_of-requires
continuation_of-requires c = subst IsTabled (sym c.form_of.ensures) (is_tabled c.args.byte)

pub returns-in-Unused-clause-same : goal.returns-in-Unused-clause-same
returns-in-Unused-clause-same c = λ b.
    unused_first c.args.self.now.levels c.count_value.new.self c.args.byte b c.requires c.count_value.ensures (ap continuation_of (sym c.form_of.ensures) ∙ sym c.in-Unused.ensures)

pub returns-in-Bytes-clause-same : goal.returns-in-Bytes-clause-same
returns-in-Bytes-clause-same c = λ b.
    c.skip.ensures.same b ∙ bytes_first c.args.self.now.levels c.count_value.new.self c.args.byte b c.requires c.count_value.ensures c.in-Bytes.n (ap continuation_of (sym c.form_of.ensures) ∙ sym c.in-Bytes.ensures)

pub returns-then-not-may_open-clause-same : goal.returns-then-not-may_open-clause-same
returns-then-not-may_open-clause-same c = λ b.
    let room : may_open c.in-Known.holds c.count_value.new.self ≡ false = search rules in
    deep_known c.args.self.now.levels c.count_value.new.self c.args.byte b c.requires c.count_value.ensures c.in-Known.n c.in-Known.holds (ap continuation_of (sym c.form_of.ensures) ∙ sym c.in-Known.ensures) room

pub returns-else-not-may_open-clause-same : goal.returns-else-not-may_open-clause-same
returns-else-not-may_open-clause-same c = λ b.
    let room : may_open c.in-Known.holds c.count_value.new.self ≡ true = search rules in
    c.begin_content.ensures.same b ∙ known_first c.args.self.now.levels c.count_value.new.self c.args.byte b c.requires c.count_value.ensures c.in-Known.n c.in-Known.holds (ap continuation_of (sym c.form_of.ensures) ∙ sym c.in-Known.ensures) room

pub returns-then-not-may_open-2-clause-same : goal.returns-then-not-may_open-2-clause-same
returns-then-not-may_open-2-clause-same c = λ b.
    let room : may_open c.in-Sized.holds c.count_value.new.self ≡ false = search rules in
    deep_sized c.args.self.now.levels c.count_value.new.self c.args.byte b c.requires c.count_value.ensures c.in-Sized.left c.in-Sized.holds (ap continuation_of (sym c.form_of.ensures) ∙ sym c.in-Sized.ensures) room

pub returns-else-not-may_open-2-clause-same : goal.returns-else-not-may_open-2-clause-same
returns-else-not-may_open-2-clause-same c = λ b.
    let room : may_open c.in-Sized.holds c.count_value.new.self ≡ true = search rules in
    sized_first c.args.self.now.levels c.count_value.new.self c.args.byte b c.requires c.count_value.ensures c.in-Sized.left c.in-Sized.holds (ap continuation_of (sym c.form_of.ensures) ∙ sym c.in-Sized.ensures) room
