-- How the logic encodes what contracts see of a keyed loop.
use Rattle.std.specs.Prelude.{ℕ, Bool, List, refl}
use Rattle.std.specs.Coded.{Coded, code_by, coded×, coded_ℕ, coded_bool, coded_list}
use Rattle.fwd_outside.specs.Loop.{LoopEntry, LoopLog}
use Rattle.fwd_outside.specs.LoopCode.{loop_code}
use Rattle.fwd_secure.specs.declared.keys.Keys.{Keys}
use Rattle.fwd_secure.specs.contracts.keys.Keys as keys
use Rattle.fwd_secure.specs.Handshakes.{Handshakes}
use Rattle.fwd_secure.specs.HandshakesCode.{handshakes_code}
use Rattle.fwd_secure.specs.LoopBelow.{LoopBelow}
use Rattle.fwd_secure.specs.LoopCode.{log_code, start_code}
use Rattle.fwd_secure.specs.Secure.{Secure}

abbrev pub secure_code : Coded Secure
secure_code =
    code_by
    (Keys × (Bool × (Handshakes × (Bool
    × (ℕ × (LoopBelow × (LoopBelow × (LoopLog × (List LoopEntry × (ℕ × ℕ))))))))))
    (coded× keys.the_row.coded (coded× coded_bool (coded× handshakes_code (coded× coded_bool
    (coded× coded_ℕ (coded× start_code (coded× start_code (coded× log_code
    (coded× (coded_list loop_code) (coded× coded_ℕ coded_ℕ))))))))))
    (λ s. (
      s.keys,
      (
        s.keyed,
        (
          s.state,
          (
            s.out_of_memory,
            (s.name, (s.start, (s.below, (s.marked, (s.above, (s.happenings, s.greatest)))))),
          ),
        ),
      ),
    ))
    (λ p. record {
      keys = p.0;
      keyed = p.1.0;
      state = p.1.1.0;
      out_of_memory = p.1.1.1.0;
      name = p.1.1.1.1.0;
      start = p.1.1.1.1.1.0;
      below = p.1.1.1.1.1.1.0;
      marked = p.1.1.1.1.1.1.1.0;
      above = p.1.1.1.1.1.1.1.1.0;
      happenings = p.1.1.1.1.1.1.1.1.1.0;
      greatest = p.1.1.1.1.1.1.1.1.1.1;
    }) (λ _. refl)
