-- How the logic encodes what contracts see of a counted disk.
use Rattle.std.specs.Prelude.{ℕ, List, refl}
use Rattle.std.specs.Coded.{Coded, code_by, coded×, coded_ℕ, coded_list}
use Rattle.fwd_outside.specs.Disk.{DiskEntry, DiskLog}
use Rattle.fwd_outside.specs.DiskCode.{disk_code}
use Rattle.fwd_record.specs.DiskBelowCode.{disk_log_code}
use Rattle.fwd_record.specs.Counting.{Counting}

abbrev pub counting_code : Coded Counting
counting_code =
    code_by (ℕ × (DiskLog × (DiskLog × (ℕ × (List DiskEntry × (ℕ × (ℕ × List ℕ)))))))
    (coded× coded_ℕ (coded× disk_log_code (coded× disk_log_code (coded× coded_ℕ
    (coded× (coded_list disk_code) (coded× coded_ℕ (coded× coded_ℕ (coded_list coded_ℕ))))))))
    (λ c. (c.name, (c.start, (c.below, (c.faults, (c.asked, (c.first, (c.next, c.failed))))))))
    (λ p. record {
      name = p.0;
      start = p.1.0;
      below = p.1.1.0;
      faults = p.1.1.1.0;
      asked = p.1.1.1.1.0;
      first = p.1.1.1.1.1.0;
      next = p.1.1.1.1.1.1.0;
      failed = p.1.1.1.1.1.1.1;
    }) (λ _. refl)
