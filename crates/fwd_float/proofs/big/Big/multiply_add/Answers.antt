use Rattle.core.specs.Prelude.{◌<◌, length}
use mathlib.Core.Path.{◌∙◌}
use borrow.Author.Rules.{rules}
use Rattle.core.proofs.dec2flt.LimbsLemmas.{value_below-set}
use Rattle.fwd_float.proofs.big.Big.multiply_add.Goals as goal

pub returns-then-carry-gt0 : goal.returns-then-carry-gt0
returns-then-carry-gt0 c =
    let m = c.multiply_add_limbs-carry in
    let within : c.self.inside.len < length m.new.limbs = search rules in
    rw (← c.self.view_is) (value_below-set m.new.limbs _ m.result within ∙ m.ensures.value)
