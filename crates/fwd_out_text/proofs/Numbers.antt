-- Numbers from 0 on at the start of bytes.
use Rattle.std.proofs.Common.{◌≡◌, ℕ, ◌<◌, pos, List, [], ◌∷◌, Ok, refl, sym, ap, subst, ◌∙◌}
use Rattle.std.proofs.lemmas.Bool.{lt-ltb}
use Rattle.fwd_value.specs.Val.{whole}
use Rattle.fwd_msgpack.specs.declared.form.ByteWidth.{ByteWidth}
use Rattle.fwd_msgpack.specs.declared.form.ByteWidth.TheVariants.{One, Two, Four, Eight}
use Rattle.fwd_msgpack.specs.declared.form.Form.{Form}
use Rattle.fwd_msgpack.specs.declared.form.Form.TheVariants as form
use Rattle.fwd_msgpack.specs.Table.{form_of}
use Rattle.fwd_msgpack.specs.Encodings.{number, size, EncodesAfter}
use Rattle.fwd_msgpack.specs.Decoder.{number_at}
use Rattle.fwd_msgpack.specs.Heads.{StartsWith}
use Rattle.fwd_msgpack.proofs.Decoders.{front_reads}

form_fixint : (n : ℕ) → n < 128 → form_of n ≡ form.PositiveFixint n
unfolding form_of
form_fixint n lt = rw (lt-ltb n 128 lt) refl

-- a number in the first byte
pub fixint_leads : (n : ℕ) (b rest : List ℕ) → n < 128 → b ≡ n ∷ rest → StartsWith (whole (pos n)) rest b
fixint_leads n b rest lt is =
    (n ∷ [], is, subst (λ (g : Form). EncodesAfter (whole (pos n)) g []) (sym (form_fixint n lt)) (refl, refl))

-- a number after the first byte
uint_leads : (w : ByteWidth) (c n : ℕ) (b rest more : List ℕ) → form_of c ≡ form.Uint w → b ≡ c ∷ more → number_at w more ≡ Ok (n, rest) → StartsWith (whole (pos n)) rest b
unfolding number_at
uint_leads w c n b rest more f is read =
    let s = (front_reads (size w) (number w)).sound more n rest read in
    (c ∷ s.0, is ∙ ap (λ (t : List ℕ). c ∷ t) s.1, subst (λ (g : Form). EncodesAfter (whole (pos n)) g s.0) (sym f) (s.2.0, ap pos s.2.1))

pub uint_of_one : (n : ℕ) (b rest more : List ℕ) → b ≡ 204 ∷ more → number_at One more ≡ Ok (n, rest) → StartsWith (whole (pos n)) rest b
unfolding form_of
uint_of_one n b rest more is read = uint_leads One 204 n b rest more refl is read

pub uint_of_two : (n : ℕ) (b rest more : List ℕ) → b ≡ 205 ∷ more → number_at Two more ≡ Ok (n, rest) → StartsWith (whole (pos n)) rest b
unfolding form_of
uint_of_two n b rest more is read = uint_leads Two 205 n b rest more refl is read

pub uint_of_four : (n : ℕ) (b rest more : List ℕ) → b ≡ 206 ∷ more → number_at Four more ≡ Ok (n, rest) → StartsWith (whole (pos n)) rest b
unfolding form_of
uint_of_four n b rest more is read = uint_leads Four 206 n b rest more refl is read

pub uint_of_eight : (n : ℕ) (b rest more : List ℕ) → b ≡ 207 ∷ more → number_at Eight more ≡ Ok (n, rest) → StartsWith (whole (pos n)) rest b
unfolding form_of
uint_of_eight n b rest more is read = uint_leads Eight 207 n b rest more refl is read
