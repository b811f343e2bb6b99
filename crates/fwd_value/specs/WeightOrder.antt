-- The parts of a value weigh less than the value.
use Rattle.std.specs.Prelude.{◌≤◌, List, [], ◌∷◌, max, map}
use Rattle.std.proofs.Common.{arith}
use denote.Param.Weighed.{most}
use Rattle.fwd_value.specs.Val.{vals_of, entries_of}
use Rattle.fwd_value.specs.Weight.{weight, weights, entry_weights}
use Rattle.fwd_value.specs.View.{val_of, pair_of}
use Rattle.fwd_value.specs.declared.value.Value.{Value}
use Rattle.fwd_value.specs.declared.value.Value.TheVariants as held
use Rattle.fwd_value.specs.declared.value.Pairs.TheDeep.{deep-Value}

pub deep_below_weight : (v : Value) → deep-Value v ≤ weight (val_of v)
deep_below_weight held.Nil = omega arith
deep_below_weight (held.Truth b) = omega arith
deep_below_weight (held.Uint n) = omega arith
deep_below_weight (held.Neg n) = omega arith
deep_below_weight (held.Text s) = omega arith
deep_below_weight (held.Bin s) = omega arith
deep_below_weight (held.Float32 n) = omega arith
deep_below_weight (held.Float64 n) = omega arith
deep_below_weight (held.Ext t s) = omega arith
deep_below_weight (held.List vs) = omega arith
deep_below_weight (held.Map es) = omega arith

pub deep_below_weights : (vs : List Value) → most deep-Value vs ≤ weights (vals_of (map val_of vs))
deep_below_weights [] = omega arith
deep_below_weights (v ∷ vs) = omega (arith, deep_below_weights vs, deep_below_weight v)

pub deep_below_entry_weights : (es : List (Value × Value))
    → most (λ p. max (deep-Value p.0) (max (deep-Value p.1) 0)) es
    ≤ entry_weights (entries_of (map pair_of es))
deep_below_entry_weights [] = omega arith
deep_below_entry_weights (e ∷ es) =
    omega (arith, deep_below_entry_weights es, deep_below_weight e.0, deep_below_weight e.1)

pub pairs_below : (es : List (Value × Value))
    → max (most (λ p. max (deep-Value p.0) (max (deep-Value p.1) 0)) es) 0
    ≤ entry_weights (entries_of (map pair_of es))
pairs_below es = omega (arith, deep_below_entry_weights es)
