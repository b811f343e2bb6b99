-- The state of a row towards an output.
use Rattle.std.proofs.Common.{◌≡◌, ℕ, Bool, true, false, ◌&&◌, not, eqb, List, refl, sym, ap, ◌∙◌, Option, Some, None}
use Rattle.std.specs.Prelude.{IsBitSet, IfSome, option_map}
use Rattle.std.specs.List.{list_any}
use Rattle.std.specs.Int.{bit_at}
use Rattle.std.proofs.lemmas.Nat.{bit_set_by_shift}
use Rattle.std.proofs.lemmas.Nat.Bits.{shr_and_one}
use Rattle.std.proofs.lemmas.Bool.{eq-eqb, eqb-true}
use Rattle.std.proofs.lemmas.List.Folds.{Any-from_list_any, list_any-from_Any}
use Rattle.fwd_base.specs.declared.ids.OutputId.{OutputId}
use Rattle.fwd_table.specs.Route.{Route}
use Rattle.fwd_table.specs.Row.{Row}
use Rattle.fwd_table.specs.RowSeen.{RowSeen}
use Rattle.fwd_table.specs.Routes.{flying_of, is_to, IsMaskOf}
use Rattle.fwd_table.specs.Rows.{seen_of}
use Rattle.fwd_table.specs.Usage.{is_file}
use Rattle.fwd_limits.specs.ChunkState.{state_of, state_in_row}

from_bit : (mask i : ℕ) → IsBitSet mask i → bit_at mask i ≡ 1
from_bit mask i set = sym (shr_and_one mask i) ∙ (bit_set_by_shift mask i).1 set

to_bit : (mask i : ℕ) → bit_at mask i ≡ 1 → IsBitSet mask i
to_bit mask i is = (bit_set_by_shift mask i).0 (shr_and_one mask i ∙ is)

-- a bit of a mask is whether one of its routes is to that output
bit_any : (routes : List Route) (mask : ℕ) (output : OutputId) → IsMaskOf routes mask → eqb (bit_at mask output.0) 1 ≡ list_any (is_to output) routes
bit_any routes mask output is = by (eqb (bit_at mask output.0) 1) (list_any (is_to output) routes) refl refl
  where
    by : (a b : Bool) → eqb (bit_at mask output.0) 1 ≡ a → list_any (is_to output) routes ≡ b → a ≡ b
    by true true x y = refl
    by false false x y = refl
    by true false x y =
        let any = (is output.0).0 (to_bit mask output.0 (eqb-true (bit_at mask output.0) 1 x)) in
        let some = list_any-from_Any (is_to output) routes (any.0, any.1, any.2, any.3, eq-eqb any.1.output.0 output.0 any.4) in
        cc
    by false true x y =
        let any = Any-from_list_any (is_to output) routes y in
        let set = from_bit mask output.0 ((is output.0).1 (any.0, any.1, any.2, any.3, eqb-true any.1.output.0 output.0 any.4)) in
        let one = eq-eqb (bit_at mask output.0) 1 set in
        cc

-- a row by its public view
pub seen_as : (row : Row) (seen : RowSeen) (output : OutputId) → seen ≡ seen_of row → IsMaskOf row.routes seen.owed → IsMaskOf (flying_of row.routes) seen.flying → state_in_row output seen ≡ state_of output row
seen_as row seen output same owes flies =
    let owed_is = bit_any row.routes seen.owed output owes in
    let flying_is = bit_any (flying_of row.routes) seen.flying output flies in
    λ i. record { chunk = (same i).chunk; size = (same i).size; is_file = is_file (same i).home; is_waiting = (same i).shut && (owed_is i && not (flying_is i)) }

pub look_is : (at : Option Row) (seen : RowSeen) (output : OutputId) → Some seen ≡ option_map seen_of at → IfSome at (λ row. IsMaskOf row.routes seen.owed) → IfSome at (λ row. IsMaskOf (flying_of row.routes) seen.flying)
    → Some (state_in_row output seen) ≡ option_map (state_of output) at
look_is None seen output is owes flies = absurd (cc)
look_is (Some row) seen output is owes flies = let same : seen ≡ seen_of row = cc in ap Some (seen_as row seen output same owes flies)
