-- No encoding is a proper prefix of another.
use Rattle.std.proofs.Common.{◌≡◌, ℕ, max, List, ◌++◌, length, take, Ok, refl, sym, ap, ◌∙◌, arith}
use Rattle.std.proofs.lemmas.List.{take_at, length-append}
use Rattle.fwd_value.specs.Val.{Val}
use Rattle.fwd_msgpack.specs.Encodings.{Encodes}
use Rattle.fwd_value.specs.Limits.{nesting}
use Rattle.fwd_msgpack.specs.Decoder.{value_at}
use Rattle.fwd_msgpack.proofs.Decoders.{ok_first, ok_rest}
use Rattle.fwd_msgpack.proofs.Grammar.{reads}

pub encodings_are_prefix_free : (v w : Val) (a b x y : List ℕ) → Encodes v a → Encodes w b → a ++ x ≡ b ++ y → (v ≡ w) × (a ≡ b)
encodings_are_prefix_free v w a b x y p q e =
    let d = max (nesting v) (nesting w) in
    let one : value_at d (a ++ x) ≡ Ok (v, x) = (reads d).whole v a x (p, omega arith) in
    let two : value_at d (b ++ y) ≡ Ok (w, y) = (reads d).whole w b y (q, omega arith) in
    let same = sym one ∙ ap (value_at d) e ∙ two in
    let rest : x ≡ y = ok_rest _ _ _ _ same in
    let len : length a ≡ length b = omega (arith, ap length e, ap length rest, length-append a x, length-append b y) in
    (ok_first _ _ _ _ same, sym (take_at a x (length a) refl) ∙ ap (take (length a)) e ∙ take_at b y (length a) (sym len))
