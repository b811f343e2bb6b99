-- Values of one byte are skipped one after another.
use Rattle.std.proofs.Common.{◌≡◌, ℕ, suc, ◌+◌, ◌-◌, ◌<◌, true, List, [], ◌∷◌, length, Ok, refl, sym, ap, ◌∙◌, arith}
use Rattle.std.proofs.lemmas.Bool.{false≢true}
use Rattle.fwd_msgpack.specs.declared.form.Form.{Form}
use Rattle.fwd_msgpack.specs.declared.form.Form.TheVariants as form
use Rattle.fwd_msgpack.specs.Table.{form_of}
use Rattle.fwd_msgpack.specs.Decoder.{◌>>=◌, value_at, value_by, after, inner}
use Rattle.fwd_msgpack.specs.ScanState.{Skipped, skip_value, skip_values, skip_levels}
use Rattle.fwd_msgpack.specs.SmallValues.{is_small, innermost, fewer}
use Rattle.fwd_msgpack.proofs.Skipping.{rest}

form_small : (d : ℕ) (f : Form) (b : List ℕ) → is_small f ≡ true → rest (after (inner d) f b) ≡ Ok b
unfolding after
form_small d form.Nil b is = refl
form_small d (form.Bool u) b is = refl
form_small d (form.PositiveFixint n) b is = refl
form_small d (form.NegativeFixint z) b is = refl
form_small d form.Unused b is = absurd (false≢true is)
form_small d (form.Uint w) b is = absurd (false≢true is)
form_small d (form.Int w) b is = absurd (false≢true is)
form_small d form.Float32 b is = absurd (false≢true is)
form_small d form.Float64 b is = absurd (false≢true is)
form_small d (form.Str k) b is = absurd (false≢true is)
form_small d (form.Bin k) b is = absurd (false≢true is)
form_small d (form.Ext k) b is = absurd (false≢true is)
form_small d (form.Array k) b is = absurd (false≢true is)
form_small d (form.Map k) b is = absurd (false≢true is)

-- a value of one byte is skipped
pub small_skipped : (d k c : ℕ) (b : List ℕ) → is_small (form_of c) ≡ true → skip_values d (suc k) (c ∷ b) ≡ skip_values d k b
unfolding skip_values value_by
small_skipped d k c b is = ap (λ (r : Skipped). r >>= skip_values d k) (form_small d (form_of c) b is)

-- the values of one byte at the front are counted at the innermost level
pub small_passed : (ns : List ℕ) (n : ℕ) (b c : List ℕ) → n < innermost ns → ((d k : ℕ) → skip_values d (n + k) b ≡ skip_values d k c) → skip_levels (fewer n ns) c ≡ skip_levels ns b
unfolding skip_levels
small_passed [] n b c lt h = absurd (omega (arith, lt))
small_passed (m ∷ ns) n b c lt h =
    let d = 64 - length ns in
    let e : n + (m - n) ≡ m = omega (arith, lt) in
    ap (λ (r : Skipped). r >>= skip_levels ns) (sym (h d (m - n)) ∙ ap (λ (i : ℕ). skip_values d i b) e)
