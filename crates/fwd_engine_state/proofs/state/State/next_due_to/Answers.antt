use Rattle.std.proofs.Common.{◌≡◌, ℕ, List, [], Option, Some, None, Result, Ok, Err, true}
use Rattle.std.specs.Prelude.{filter, nat_le, IfOk, IfSome, MatchOption}
use Rattle.std.proofs.lemmas.Bool.{and_parts}
use Rattle.fwd_retry.specs.declared.timer.Timer.{Timer}
use Rattle.fwd_retry.specs.Timer.{is_after, is_next, IsFirst}
use Rattle.fwd_retry.proofs.Members.{filter_member}
use Rattle.fwd_table.specs.Routes.{is_in, is_next_to}
use Rattle.fwd_table.specs.Rows.{idle_timers_of}
use Rattle.fwd_engine_state.proofs.state.State.next_due_to.Goals as goal

pub returns-clause-next : goal.returns-clause-next
returns-clause-next c s h out before = rw (← before.rows, ← before.time) c.next_due_to.ensures.next

after_first : (now outputs : ℕ) (after : Option Timer) (timers : List Timer) (next : Option Timer) → MatchOption next (filter (is_next_to now outputs after) timers ≡ []) (IsFirst (filter (is_next_to now outputs after) timers)) → IfSome next (λ timer. is_after after timer ≡ true)
after_first now outputs after timers None is = tt
after_first now outputs after timers (Some timer) is =
    let kept = filter_member (is_next_to now outputs after) timers timer is.member in
    (and_parts (nat_le timer.due now) (is_after after timer) (and_parts (is_next now after timer) (is_in outputs timer) kept.1).0).1

pub returns-clause-later : goal.returns-clause-later
returns-clause-later c = by c.next_due_to.result c.next_due_to.ensures.next
  where
    by : {E : Type 0} (result : Result (Option Timer) E) → IfOk result (λ next. MatchOption next (filter (is_next_to c.args.self.now.clock c.args.outputs c.args.after) (idle_timers_of c.args.self.now.chunks.rows) ≡ []) (IsFirst (filter (is_next_to c.args.self.now.clock c.args.outputs c.args.after) (idle_timers_of c.args.self.now.chunks.rows))))
        → IfOk result (λ next. IfSome next (λ timer. is_after c.args.after timer ≡ true))
    by (Ok next) is = after_first c.args.self.now.clock c.args.outputs c.args.after (idle_timers_of c.args.self.now.chunks.rows) next is
    by (Err error) is = tt
