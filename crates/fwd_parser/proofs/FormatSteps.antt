-- The reading of a format, step by step.
use Rattle.std.proofs.Common.{◌≡◌, ◌≢◌, ℕ, eqb, false, List, [], ◌∷◌, length, Some, None, option_map, refl, arith}
use Rattle.std.specs.Prelude.{option_and_then}
use Rattle.std.proofs.lemmas.Bool.Decides.{nat_tests}
use Rattle.fwd_parser.specs.Time.{read_format, directive, single, after_format_byte, Read}
use Rattle.fwd_parser.specs.declared.directives.Fields.{Fields}

-- a byte that doesn't begin a directive, first in a format
pub read_format_byte : (b : ℕ) (more text : List ℕ) (f : Fields) → b ≢ 37 → read_format directive (b ∷ more) text f ≡ option_and_then (λ left. read_format directive more left f) (after_format_byte b text)
read_format_byte b [] text f other = elim (after_format_byte b text) as (λ o. option_map (λ (left : List ℕ). (f, left)) o ≡ option_and_then (λ left. read_format directive [] left f) o) [ None ↦ refl | Some x ↦ refl ]
read_format_byte b (c ∷ more) text f other =
    let e : eqb b 37 ≡ false = grind (arith, nat_tests) in
    rw e refl

-- a lone % at the end matches nothing
pub read_format_lone : (more text : List ℕ) (f : Fields) → length more ≡ 0 → read_format directive (37 ∷ more) text f ≡ None
unfolding after_format_byte
read_format_lone [] text f h = refl
read_format_lone (c ∷ more) text f h = absurd (omega arith)

-- a format that ends leaves what was read
pub read_on : (o : Read) → option_and_then (λ p. read_format single [] p.1 p.0) o ≡ o
read_on None = refl
read_on (Some p) = refl
