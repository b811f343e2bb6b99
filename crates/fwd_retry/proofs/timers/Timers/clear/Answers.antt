use Rattle.std.proofs.Common.{◌≡◌, ◌+◌, ◌≤◌, not, length, rules, arith}
use Rattle.std.specs.Prelude.{filter}
use Rattle.std.proofs.lemmas.Fn.{filter_same}
use Rattle.std.proofs.lemmas.Bool.{not-true, not_from_false, both_ways, false_from_ne_true}
use Rattle.fwd_retry.specs.declared.timer.Timer.{Timer}
use Rattle.fwd_retry.specs.Timer.{is_of}
use Rattle.fwd_retry.proofs.Members.{filter_member, member_filter, shorter_without}
use Rattle.fwd_retry.proofs.timers.Timers.clear.Goals as goal

pub returns-clause-timers : goal.returns-clause-timers
returns-clause-timers c =
    let of_it = is_of c.args.chunk c.args.output in
    let kept : c.retain.new.self.items ≡ filter (λ (t : Timer). not (of_it t)) c.args.self.now.timers = rw (← c.self.view_is) (filter_same _ _ _ (λ x b f' k. search rules) _ _ c.retain.ensures.filtered) in
    rw kept
    (λ other. (
      λ within. let parts = filter_member (λ (t : Timer). not (of_it t)) c.args.self.now.timers other within in (parts.0, λ is. both_ways (of_it other) (not-true (of_it other) parts.1) is),
      λ parts. member_filter (λ (t : Timer). not (of_it t)) c.args.self.now.timers other parts.0 (not_from_false (of_it other) (false_from_ne_true (of_it other) parts.1)),
    ))

pub returns-clause-freed : goal.returns-clause-freed
returns-clause-freed c =
    let of_it = is_of c.args.chunk c.args.output in
    let kept : c.retain.new.self.items ≡ filter (λ (t : Timer). not (of_it t)) c.self.inside.timers.items = filter_same _ _ _ (λ x b f' k. search rules) _ _ c.retain.ensures.filtered in
    rw (← c.self.view_is)
    (λ there.
    let less = shorter_without of_it c.self.inside.timers.items there.1 (there.0, there.2, there.3) there.4 in
    let same : length c.retain.new.self.items + 1 ≤ length c.self.inside.timers.items = rw kept less in
    omega (arith, same, c.retain.new.self.ok.0, c.retain.new.self.ok.1, c.self.inside.timers.ok.0, c.self.inside.timers.ok.1, c.retain.ensures.capacity))
