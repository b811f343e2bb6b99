use Rattle.std.proofs.Common.{◌≡◌, ◌↔◌, ◌∙◌, ap, subst, refl, List, ◌++◌, IsTrue, if◌then◌else◌}
use Rattle.fwd_base.specs.declared.search.Capture.{Capture}
use Rattle.fwd_event.specs.declared.event.Event.{Event}
use Rattle.fwd_event.specs.Event.{event_val, EventFits}
use Rattle.fwd_msgpack.specs.Canonical.{canonical}
use Rattle.fwd_parser.specs.LineEvent.{at, parsed, plain, timed_event}
use Rattle.fwd_parser.specs.LentFields.{lent_record}
use Rattle.fwd_parser.proofs.LentFields.{parsed_lent}
use Rattle.fwd_parser.proofs.lent_fields.put_lent.Goals as goal

pub returns-in_ok-put-in-None-clause-fits : goal.returns-in_ok-put-in-None-clause-fits
returns-in_ok-put-in-None-clause-fits c =
    let ready = rw (c.in-Groups.is, c.in-Some.is) at c.requires in
    let body = rw c.in-None.is at (c.in_ok-fields_found.ensures.body c.in-Groups.pattern c.args.parser.now.floats c.in-Groups.types ready) in
    let same : timed_event c.args.parser.now.time c.args.clock (plain c.args.line.now) ≡ parsed c.args.parser.now c.args.line.now c.args.clock = parsed_lent c.args.parser.now c.args.line.now c.args.clock _ _ _ c.in-Groups.is body refl in
    subst (λ (e : Event). IsTrue c.in_ok-put-in-None.put ↔ EventFits e) same c.in_ok-put-in-None.ensures.fits

pub returns-in_ok-put-in-None-clause-bytes : goal.returns-in_ok-put-in-None-clause-bytes
returns-in_ok-put-in-None-clause-bytes c =
    let ready = rw (c.in-Groups.is, c.in-Some.is) at c.requires in
    let body = rw c.in-None.is at (c.in_ok-fields_found.ensures.body c.in-Groups.pattern c.args.parser.now.floats c.in-Groups.types ready) in
    let same : timed_event c.args.parser.now.time c.args.clock (plain c.args.line.now) ≡ parsed c.args.parser.now c.args.line.now c.args.clock = parsed_lent c.args.parser.now c.args.line.now c.args.clock _ _ _ c.in-Groups.is body refl in
    subst (λ (e : Event). c.put_unmatched.new.out ≡ (if c.in_ok-put-in-None.put then c.args.out.now ++ canonical (event_val e) else c.args.out.now)) same c.in_ok-put-in-None.ensures.bytes

pub returns-in_ok-put-in-Some-2-clause-fits : goal.returns-in_ok-put-in-Some-2-clause-fits
returns-in_ok-put-in-Some-2-clause-fits c =
    let ready = rw (c.in-Groups.is, c.in-Some.is) at c.requires in
    let body = rw c.in-Some-2.is at (c.in_ok-fields_found.ensures.body c.in-Groups.pattern c.args.parser.now.floats c.in-Groups.types ready) in
    let timed : at c.timed-moment.result (lent_record c.args.parser.now.floats c.in-Groups.types c.timed-moment.new.groups.items) ≡ parsed c.args.parser.now c.args.line.now c.args.clock = parsed_lent c.args.parser.now c.args.line.now c.args.clock _ _ _ c.in-Groups.is body c.timed-moment.ensures in
    let same = ap (λ (gs : List Capture). at c.timed-moment.result (lent_record c.args.parser.now.floats c.in-Groups.types gs)) c.as_slice-fields.ensures.value ∙ timed in
    subst (λ (e : Event). IsTrue c.in_ok-put-in-Some-2.put ↔ EventFits e) same c.in_ok-put-in-Some-2.ensures.fits

pub returns-in_ok-put-in-Some-2-clause-bytes : goal.returns-in_ok-put-in-Some-2-clause-bytes
returns-in_ok-put-in-Some-2-clause-bytes c =
    let ready = rw (c.in-Groups.is, c.in-Some.is) at c.requires in
    let body = rw c.in-Some-2.is at (c.in_ok-fields_found.ensures.body c.in-Groups.pattern c.args.parser.now.floats c.in-Groups.types ready) in
    let timed : at c.timed-moment.result (lent_record c.args.parser.now.floats c.in-Groups.types c.timed-moment.new.groups.items) ≡ parsed c.args.parser.now c.args.line.now c.args.clock = parsed_lent c.args.parser.now c.args.line.now c.args.clock _ _ _ c.in-Groups.is body c.timed-moment.ensures in
    let same = ap (λ (gs : List Capture). at c.timed-moment.result (lent_record c.args.parser.now.floats c.in-Groups.types gs)) c.as_slice-fields.ensures.value ∙ timed in
    subst (λ (e : Event). c.put_any_event.new.out ≡ (if c.in_ok-put-in-Some-2.put then c.args.out.now ++ canonical (event_val e) else c.args.out.now)) same c.in_ok-put-in-Some-2.ensures.bytes
