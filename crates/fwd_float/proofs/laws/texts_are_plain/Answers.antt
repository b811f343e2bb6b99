use Rattle.fwd_float.proofs.Texts.{is_plain, has_parts}
use Rattle.fwd_float.proofs.laws.texts_are_plain.Goals as goal

pub returns-clause-plain : goal.returns-clause-plain
returns-clause-plain c = is_plain

pub returns-clause-parts : goal.returns-clause-parts
returns-clause-parts c = has_parts
