-- How many bytes follow the last line feed of a stream when bytes are appended.
use Rattle.std.proofs.Common.{◌≡◌, ℕ, ◌+◌, ◌-◌, ◌<◌, suc, ◌∙◌, sym, ap, eqb, true, false, List, [], ◌∷◌, ◌++◌, length, take, drop, get_or, None, Some, refl, arith, length-append}
use Rattle.std.proofs.lemmas.List.{take-append-drop, drop_more, get_or-drop, length-drop}
use Rattle.std.proofs.lemmas.Bool.Decides.{nat_tests}
use Rattle.std.proofs.lemmas.List.{append_assoc}
use Rattle.memchr.specs.Find.{IsLastByte, is_byte}
use Rattle.fwd_frames.specs.Lines.{has_feed, rest}
use Rattle.fwd_frames.proofs.StreamSplit.{rest-none, rest-append, rest-feed}

has_feed-none : (s : List ℕ) → ((k : ℕ) → k < length s → eqb (get_or s k 0) 10 ≡ true → ⊥) → has_feed s ≡ false
has_feed-none [] h = refl
has_feed-none (b ∷ s) h =
    let later : has_feed s ≡ false = has_feed-none s (λ k l e. h (suc k) (omega arith) e) in
    let here : eqb b 10 ≡ true → ⊥ = h 0 (omega arith) in
    grind arith

-- without a line feed all of them are added to the rest
pub left-more : (s piece : List ℕ) → IsLastByte (is_byte 10) piece None → length (rest (s ++ piece)) ≡ length (rest s) + length piece
left-more s piece none = ap length (rest-append s piece (has_feed-none piece (λ k l e. none k (omega arith) l e))) ∙ length-append (rest s) piece

-- after the last line feed the rest begins anew
pub left-anew : (s piece : List ℕ) (place : ℕ) → IsLastByte (is_byte 10) piece (Some place) → length (rest (s ++ piece)) ≡ length piece - place - 1
left-anew s piece place last =
    let within : place < length piece = last.0.high in
    let byte : get_or piece place 0 ≡ 10 = let here : eqb (get_or piece place 0) 10 ≡ true = last.1 in grind (arith, nat_tests) in
    let behind = drop (place + 1) piece in
    let size : length behind ≡ length piece - (place + 1) = length-drop (place + 1) piece in
    let none : has_feed behind ≡ false = has_feed-none behind (λ k l e. last.0.after (place + 1 + k) (omega arith) (omega arith) (rw (← get_or-drop (place + 1) piece k 0) e)) in
    let split : piece ≡ take place piece ++ 10 ∷ behind = sym (take-append-drop place piece) ∙ ap (λ t. take place piece ++ t) (drop_more piece place 0 within ∙ ap (λ b. b ∷ behind) byte) in
    let parted : s ++ piece ≡ (s ++ take place piece) ++ 10 ∷ behind = ap (λ p. s ++ p) split ∙ sym (append_assoc s (take place piece) (10 ∷ behind)) in
    ap length (ap rest parted ∙ rest-feed (s ++ take place piece) behind ∙ rest-none behind none) ∙ size ∙ omega arith
