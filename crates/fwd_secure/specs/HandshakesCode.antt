-- How the logic encodes the state of a keyed loop.
use Rattle.std.specs.Prelude.{ℕ, Bool, List, refl}
use Rattle.std.specs.Coded.{Coded, code_by, coded×, coded_ℕ, coded_bool, coded_list}
use Rattle.fwd_secure.specs.declared.handshakes.HeldConn.{HeldConn}
use Rattle.fwd_secure.specs.contracts.handshakes.HeldConn as held
use Rattle.fwd_secure.specs.declared.handshakes.LinkHandshake.{LinkHandshake}
use Rattle.fwd_secure.specs.contracts.handshakes.LinkHandshake as handshake
use Rattle.fwd_secure.specs.declared.handshakes.KeptBytes.{KeptBytes}
use Rattle.fwd_secure.specs.contracts.handshakes.KeptBytes as kept
use Rattle.fwd_secure.specs.Handshakes.{Handshakes}

abbrev pub handshakes_code : Coded Handshakes
handshakes_code =
    code_by
    (List Bool × (List (ℕ × HeldConn) × (List (ℕ × ℕ) × (List (ℕ × LinkHandshake) × (List KeptBytes × ℕ)))))
    (coded× (coded_list coded_bool)
    (coded× (coded_list (coded× coded_ℕ held.the_row.coded))
    (coded× (coded_list (coded× coded_ℕ coded_ℕ))
    (coded× (coded_list (coded× coded_ℕ handshake.the_row.coded))
    (coded× (coded_list kept.the_row.coded) coded_ℕ)))))
    (λ k. (k.listens, (k.held, (k.joined, (k.links, (k.kept, k.wrongs))))))
    (λ p. record {
      listens = p.0;
      held = p.1.0;
      joined = p.1.1.0;
      links = p.1.1.1.0;
      kept = p.1.1.1.1.0;
      wrongs = p.1.1.1.1.1;
    }) (λ _. refl)
