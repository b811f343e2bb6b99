-- How the logic encodes a loop that another wraps.
use Rattle.std.specs.Prelude.{ℕ, Bool, [], refl}
use Rattle.std.specs.Coded.{Coded, code_by, coded×, coded_ℕ, coded_bool, coded_list, coded_option}
use Rattle.fwd_outside.specs.Loop.{LoopGiven, LoopLog, LoopCounts}
use Rattle.fwd_outside.specs.LoopCode.{loop_code, brought_code}
use Rattle.fwd_secure.specs.declared.keys.Keys.{Keys}
use Rattle.fwd_secure.specs.contracts.keys.Keys as keys
use Rattle.fwd_secure.specs.LoopBelow.{LoopBelow}

abbrev pub log_code : Coded LoopLog
log_code = coded_option (coded× brought_code (coded_list loop_code))

abbrev counts_code : Coded LoopCounts
counts_code =
    code_by (ℕ × (ℕ × Bool)) (coded× coded_ℕ (coded× coded_ℕ coded_bool))
    (λ c. (c.happenings, (c.greatest, c.endless)))
    (λ p. record { happenings = p.0; greatest = p.1.0; endless = p.1.1 }) (λ _. refl)

abbrev pub start_code : Coded LoopBelow
start_code =
    code_by (LoopLog × (LoopCounts × ℕ)) (coded× log_code (coded× counts_code coded_ℕ))
    (λ b. (b.call_log, (b.counts, b.faults)))
    (λ p. record { call_log = p.0; counts = p.1.0; faults = p.1.1 }) (λ _. refl)

-- which loop a keyed loop wraps: the name of the reference to it, the keys, the loop at the start, and its call log
-- at the last mark
abbrev pub standing_code : Coded (ℕ × (Keys × (LoopBelow × LoopLog)))
standing_code = coded× coded_ℕ (coded× keys.the_row.coded (coded× start_code log_code))

-- the first part of the call log of a keyed loop
abbrev pub given_to : ℕ → Keys → LoopBelow → LoopLog → LoopGiven
given_to name keys start marked = record {
  happenings = [];
  places = [];
  dials = [];
  pushes = [];
  replies = [];
  words = [];
  round = standing_code.code (name, (keys, (start, marked)));
}
