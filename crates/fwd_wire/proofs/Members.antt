-- The members of a list.
use Rattle.std.proofs.Common.{◌<◌, List, [], ◌∷◌, length, refl, arith}
use Rattle.fwd_value.specs.Val.{Val, list, vals_of}
use Rattle.fwd_wire.specs.Message.{no_message, Carried, with_option, parts_of, PartsSay}

pub many_options : (tag : Val) (c : Carried) (vs : List Val) → 1 < length vs → PartsSay (with_option tag c (vals_of vs)) no_message
many_options tag c [] lt = absurd (omega arith)
many_options tag c (a ∷ []) lt = absurd (omega arith)
many_options tag c (a ∷ (b ∷ vs)) lt = refl

pub few_members : (vs : List Val) → length vs < 2 → PartsSay (parts_of (list (vals_of vs))) no_message
few_members [] lt = refl
few_members (a ∷ []) lt = refl
few_members (a ∷ (b ∷ vs)) lt = absurd (omega arith)
