-- How the logic stores the first offsets of a keeper, and a call on it with its answer.
use Rattle.std.specs.Prelude.{◌≡◌, ◌⊎◌, ℕ, List, Option, refl}
use mathlib.Core.Logic.{inl, inr}
use base.Stored.{coded_unit}
use Rattle.std.specs.Coded.{Coded, code_by, coded×, coded⊎, coded_ℕ, coded_list, coded_option}
use Rattle.fwd_outside.specs.Program.{entry}
use Rattle.fwd_keeper.specs.Keeper.{KeeperCall, KeeperAnswer, KeeperEntry, KeeperGiven, Get, Put, FailAt}

abbrev GetParts : Type 0
GetParts = List ℕ × (List ℕ × Option (Option ℕ))

abbrev PutParts : Type 0
PutParts = List ℕ × (List ℕ × (ℕ × Option (Unit {0})))

abbrev Parts : Type 0
Parts = GetParts ⊎ (PutParts ⊎ ℕ)

abbrev parts_of : (call : KeeperCall) → KeeperAnswer call → Parts
parts_of (Get db path) answer = inl (db, (path, answer))
parts_of (Put db path place) answer = inr (inl (db, (path, (place, answer))))
parts_of (FailAt number) answer = inr (inr number)

abbrev of_parts : Parts → KeeperEntry
of_parts (inl p) = entry (Get p.0 p.1.0) p.1.1
of_parts (inr (inl p)) = entry (Put p.0 p.1.0 p.1.1.0) p.1.1.1
of_parts (inr (inr number)) = entry (FailAt number) tt

pub of_parts-parts_of : (call : KeeperCall) (answer : KeeperAnswer call)
    → of_parts (parts_of call answer) ≡ entry call answer
of_parts-parts_of (Get db path) answer = refl
of_parts-parts_of (Put db path place) answer = refl
of_parts-parts_of (FailAt number) answer = refl

abbrev bytes_code : Coded (List ℕ)
bytes_code = coded_list coded_ℕ

abbrev get_code : Coded GetParts
get_code = coded× bytes_code (coded× bytes_code (coded_option (coded_option coded_ℕ)))

abbrev put_code : Coded PutParts
put_code = coded× bytes_code (coded× bytes_code (coded× coded_ℕ (coded_option coded_unit)))

abbrev pub call_code : Coded KeeperEntry
call_code =
    code_by Parts (coded⊎ get_code (coded⊎ put_code coded_ℕ)) (λ e. parts_of e.call e.answer) of_parts
    (λ e. of_parts-parts_of e.call e.answer)

abbrev pub offsets_code : Coded KeeperGiven
offsets_code = coded_list (coded× (coded× bytes_code bytes_code) coded_ℕ)
