-- How the logic encodes what contracts see of a recorder.
use Rattle.std.specs.Prelude.{ℕ, Bool, List, refl}
use Rattle.std.specs.Coded.{Coded, code_by, coded×, coded_ℕ, coded_bool, coded_list}
use Rattle.fwd_record.specs.LoopBelow.{LoopBelow}
use Rattle.fwd_record.specs.LoopBelowCode.{start_code}
use Rattle.fwd_record.specs.Seen.{Seen}
use Rattle.fwd_record.specs.SeenCode.{seen_code}
use Rattle.fwd_record.specs.Recording.{Recording}

abbrev pub recording_code : Coded Recording
recording_code =
    code_by (ℕ × (LoopBelow × (LoopBelow × (List Seen × (Bool × (Bool × ℕ))))))
    (coded× coded_ℕ (coded× start_code (coded× start_code
    (coded× (coded_list seen_code) (coded× coded_bool (coded× coded_bool coded_ℕ))))))
    (λ r. (r.name, (r.start, (r.below, (r.seen, (r.stopped, (r.out_of_memory, r.happenings)))))))
    (λ p. record {
      name = p.0;
      start = p.1.0;
      below = p.1.1.0;
      seen = p.1.1.1.0;
      stopped = p.1.1.1.1.0;
      out_of_memory = p.1.1.1.1.1.0;
      happenings = p.1.1.1.1.1.1;
    }) (λ _. refl)
