-- How the logic encodes what a recorder saw.
use Rattle.std.specs.Prelude.{◌≡◌, Option, Some, None, refl}
use Rattle.std.specs.Coded.{Coded, code_by, coded_option}
use Rattle.fwd_outside.specs.Loop.{LoopEntry}
use Rattle.fwd_outside.specs.LoopCode.{loop_code}
use Rattle.fwd_record.specs.Seen.{Seen, Answered, Stopped}

abbrev parts_of : Seen → Option LoopEntry
parts_of (Answered entry) = Some entry
parts_of Stopped = None

abbrev of_parts : Option LoopEntry → Seen
of_parts (Some entry) = Answered entry
of_parts None = Stopped

pub of_parts-parts_of : (seen : Seen) → of_parts (parts_of seen) ≡ seen
of_parts-parts_of (Answered entry) = refl
of_parts-parts_of Stopped = refl

abbrev pub seen_code : Coded Seen
seen_code = code_by (Option LoopEntry) (coded_option loop_code) parts_of of_parts of_parts-parts_of
