use Rattle.std.proofs.Common.{◌≡◌, drop}
use Rattle.fwd_settings_values.specs.Types.{types_of_words}
use Rattle.fwd_settings_values.proofs.FieldTypes.{append_types}
use Rattle.fwd_settings_values.proofs.types.types_of_words.Given as goal

abbrev pub invariant-loop-word : goal.invariant-loop-word
invariant-loop-word l = append_types l.types (types_of_words (drop l.word-index l.words)) ≡ types_of_words l.words
