use Rattle.std.proofs.Common.{◌≡◌, drop}
use Rattle.fwd_settings_values.specs.Statuses.{ranges_of_words}
use Rattle.fwd_settings_values.proofs.StatusRanges.{append_ranges}
use Rattle.fwd_settings_values.proofs.statuses.ranges_of_words.Given as goal

abbrev pub invariant-loop-word : goal.invariant-loop-word
invariant-loop-word l = append_ranges l.ranges (ranges_of_words (drop l.word-index l.words)) ≡ ranges_of_words l.words
