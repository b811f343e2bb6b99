-- The answers of a script that are failures, and the count after each.
use Rattle.std.specs.Prelude.{ℕ, ◌+◌, ◌-◌, ◌^◌, ◌==◌, ◌&&◌, min, Bool, true, false, not, if◌then◌else◌, List, length, Result, Ok, Err}
use Rattle.fwd_outside.specs.declared.happening.Happening.{Happening}
use Rattle.fwd_outside.specs.declared.happening.Happening.TheVariants as happening
use Rattle.fwd_outside.specs.declared.answers.Begun.{Begun}
use Rattle.fwd_outside.specs.declared.answers.Begun.TheVariants as begun
use Rattle.fwd_outside.specs.declared.answers.Dialed.{Dialed}
use Rattle.fwd_outside.specs.declared.answers.Dialed.TheVariants as dialed
use Rattle.fwd_outside.specs.declared.answers.Pushed.{Pushed}
use Rattle.fwd_outside.specs.declared.answers.Pushed.TheVariants as pushed
use Rattle.fwd_outside.specs.declared.answers.Replied.{Replied}
use Rattle.fwd_outside.specs.declared.answers.Replied.TheVariants as replied

-- one more after a failure, up to the greatest value
abbrev pub counted : Bool → ℕ → ℕ
counted failed faults = if failed then min (faults + 1) (2 ^ 64 - 1) else faults

abbrev pub start_fails : Begun → Bool
start_fails begun.Ready = false
start_fails begun.Failed = true
start_fails begun.Memory = false

abbrev pub is_failure : Happening → Bool
is_failure happening.Failed = true
is_failure brought = false

abbrev pub wait_fails : {E : Type 0} → Result Happening E → Bool
wait_fails (Ok brought) = is_failure brought
wait_fails (Err e) = false

abbrev pub dial_fails : Dialed → Bool
dial_fails (dialed.Link link) = false
dial_fails dialed.Refused = true
dial_fails dialed.Memory = false

-- the link breaks, or takes no byte of a push that isn't empty
abbrev pub push_fails : List ℕ → Pushed → Bool
push_fails bytes (pushed.Took taken) = taken == 0 && not (length bytes == 0)
push_fails bytes pushed.Again = false
push_fails bytes pushed.Broken = true
push_fails bytes pushed.Memory = false

abbrev pub reply_fails : Replied → Bool
reply_fails replied.Taken = false
reply_fails replied.Broken = true
reply_fails replied.Memory = false
