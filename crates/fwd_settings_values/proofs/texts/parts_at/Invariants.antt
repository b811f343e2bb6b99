use Rattle.std.proofs.Common.{◌≡◌, ◌++◌, drop}
use Rattle.std.specs.List.{slice_split}
use Rattle.fwd_settings_values.specs.Text.{is_one_of}
use Rattle.fwd_settings_values.proofs.Split.{onto}
use Rattle.fwd_settings_values.proofs.texts.parts_at.Given as goal

abbrev pub invariant-loop-byte : goal.invariant-loop-byte
invariant-loop-byte l = l.parts ++ onto l.part (slice_split (is_one_of l.separators) (drop l.byte-index l.text)) ≡ slice_split (is_one_of l.separators) l.text
