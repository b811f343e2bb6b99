-- How the logic encodes a loop that another wraps.
use Rattle.std.specs.Prelude.{ℕ, Bool, [], refl}
use Rattle.std.specs.Coded.{Coded, code_by, coded×, coded_ℕ, coded_bool, coded_list, coded_option}
use Rattle.fwd_outside.specs.Loop.{LoopGiven, LoopLog, LoopCounts}
use Rattle.fwd_outside.specs.LoopCode.{loop_code, brought_code}
use Rattle.fwd_record.specs.LoopBelow.{LoopBelow}

abbrev pub log_code : Coded LoopLog
log_code = coded_option (coded× brought_code (coded_list loop_code))

abbrev counts_code : Coded LoopCounts
counts_code =
    code_by (ℕ × (ℕ × Bool)) (coded× coded_ℕ (coded× coded_ℕ coded_bool))
    (λ c. (c.happenings, (c.greatest, c.endless)))
    (λ p. record { happenings = p.0; greatest = p.1.0; endless = p.1.1 }) (λ _. refl)

abbrev pub start_code : Coded LoopBelow
start_code =
    code_by (LoopLog × (LoopCounts × ℕ)) (coded× log_code (coded× counts_code coded_ℕ))
    (λ b. (b.call_log, (b.counts, b.faults)))
    (λ p. record { call_log = p.0; counts = p.1.0; faults = p.1.1 }) (λ _. refl)

-- which loop a recorder wraps: the name of the reference to it, and the loop at the start; and whether the run was
-- stopped without a call
abbrev pub standing_code : Coded (ℕ × (LoopBelow × Bool))
standing_code = coded× coded_ℕ (coded× start_code coded_bool)

-- the first part of the call log of a recorder
abbrev pub given_to : ℕ → LoopBelow → Bool → LoopGiven
given_to name start stopped = record {
  happenings = [];
  places = [];
  dials = [];
  pushes = [];
  replies = [];
  words = [];
  round = standing_code.code (name, (start, stopped));
}
