-- How the logic encodes a disk call with its answer, and the initial state of a disk.
use Rattle.std.specs.Prelude.{◌≡◌, ◌⊎◌, ℕ, List, Option, refl}
use mathlib.Core.Logic.{inl, inr}
use base.Stored.{Gv, coded_unit}
use Rattle.std.specs.Coded.{Coded, code_by, coded×, coded⊎, coded_ℕ, coded_list, coded_option}
use Rattle.fwd_outside.specs.Program.{entry}
use Rattle.fwd_outside.specs.Disk.{DiskCall, DiskAnswer, DiskEntry, DiskGiven, Place, WriteAt, Sync, Remove, Read, ListNames, Preset, FailAt}

abbrev Done : Type 0
Done = Option (Unit {0})

abbrev Parts : Type 0
Parts = (List ℕ × (List ℕ × Done)) ⊎ ((List ℕ × (ℕ × (List ℕ × Done))) ⊎ ((List ℕ × Done) ⊎ ((List ℕ × Done)
    ⊎ ((List ℕ × (ℕ × (ℕ × Option (List ℕ))))
    ⊎ ((List ℕ × Option (List (List ℕ))) ⊎ ((List ℕ × List ℕ) ⊎ ℕ))))))

abbrev parts_of : (call : DiskCall) → DiskAnswer call → Parts
parts_of (Place name bytes) answer = inl (name, (bytes, answer))
parts_of (WriteAt name at bytes) answer = inr (inl (name, (at, (bytes, answer))))
parts_of (Sync name) answer = inr (inr (inl (name, answer)))
parts_of (Remove name) answer = inr (inr (inr (inl (name, answer))))
parts_of (Read name at len) answer = inr (inr (inr (inr (inl (name, (at, (len, answer)))))))
parts_of (ListNames folder) answer = inr (inr (inr (inr (inr (inl (folder, answer))))))
parts_of (Preset name bytes) answer = inr (inr (inr (inr (inr (inr (inl (name, bytes)))))))
parts_of (FailAt number) answer = inr (inr (inr (inr (inr (inr (inr number))))))

abbrev of_parts : Parts → DiskEntry
of_parts (inl p) = entry (Place p.0 p.1.0) p.1.1
of_parts (inr (inl p)) = entry (WriteAt p.0 p.1.0 p.1.1.0) p.1.1.1
of_parts (inr (inr (inl p))) = entry (Sync p.0) p.1
of_parts (inr (inr (inr (inl p)))) = entry (Remove p.0) p.1
of_parts (inr (inr (inr (inr (inl p))))) = entry (Read p.0 p.1.0 p.1.1.0) p.1.1.1
of_parts (inr (inr (inr (inr (inr (inl p)))))) = entry (ListNames p.0) p.1
of_parts (inr (inr (inr (inr (inr (inr (inl p))))))) = entry (Preset p.0 p.1) tt
of_parts (inr (inr (inr (inr (inr (inr (inr number))))))) = entry (FailAt number) tt

pub of_parts-parts_of : (call : DiskCall) (answer : DiskAnswer call)
    → of_parts (parts_of call answer) ≡ entry call answer
of_parts-parts_of (Place name bytes) answer = refl
of_parts-parts_of (WriteAt name at bytes) answer = refl
of_parts-parts_of (Sync name) answer = refl
of_parts-parts_of (Remove name) answer = refl
of_parts-parts_of (Read name at len) answer = refl
of_parts-parts_of (ListNames folder) answer = refl
of_parts-parts_of (Preset name bytes) answer = refl
of_parts-parts_of (FailAt number) answer = refl

abbrev bytes_code : Coded (List ℕ)
bytes_code = coded_list coded_ℕ

abbrev done_code : Coded Done
done_code = coded_option coded_unit

abbrev pub disk_code : Coded DiskEntry
disk_code = code_by Parts
    (coded⊎ (coded× bytes_code (coded× bytes_code done_code))
    (coded⊎ (coded× bytes_code (coded× coded_ℕ (coded× bytes_code done_code)))
    (coded⊎ (coded× bytes_code done_code) (coded⊎ (coded× bytes_code done_code)
    (coded⊎ (coded× bytes_code (coded× coded_ℕ (coded× coded_ℕ (coded_option bytes_code))))
    (coded⊎ (coded× bytes_code (coded_option (coded_list bytes_code)))
    (coded⊎ (coded× bytes_code bytes_code) coded_ℕ)))))))
    (λ e. parts_of e.call e.answer) of_parts (λ e. of_parts-parts_of e.call e.answer)

-- a value as the logic stores it
abbrev pub stored_code : Coded Gv
stored_code = record { code = λ x. x; inj = λ x y is. is }

abbrev pub stood_code : Coded DiskGiven
stood_code =
    code_by (List (List ℕ × List ℕ) × Gv) (coded× (coded_list (coded× bytes_code bytes_code)) stored_code)
    (λ g. (g.files, g.round)) (λ p. record { files = p.0; round = p.1 }) (λ _. refl)
