-- The first line feed, from the contract of `memchr`.
use Rattle.std.proofs.Common.{◌≡◌, ℕ, ◌+◌, ◌<◌, suc, ◌∙◌, sym, ap, eqb, true, false, List, [], ◌∷◌, ◌++◌, length, take, drop, get_or, Option, None, Some, refl, arith}
use Rattle.std.proofs.lemmas.List.{take-append-drop, drop_more, get_or-take, length-take-le}
use Rattle.std.proofs.lemmas.Bool.Decides.{nat_tests}
use Rattle.memchr.specs.Find.{IsFirstByte, is_byte}
use Rattle.fwd_frames.specs.Lines.{has_feed}
use Rattle.fwd_frames.specs.LineSteps.{IsFirstFeed}

has_feed-none : (s : List ℕ) → ((k : ℕ) → k < length s → eqb (get_or s k 0) 10 ≡ true → ⊥) → has_feed s ≡ false
has_feed-none [] h = refl
has_feed-none (b ∷ s) h =
    let later : has_feed s ≡ false = has_feed-none s (λ k l e. h (suc k) (omega arith) e) in
    let here : eqb b 10 ≡ true → ⊥ = h 0 (omega arith) in
    grind arith

pub IsFirstFeed-found : (s : List ℕ) (found : Option ℕ) → IsFirstByte (is_byte 10) s found → IsFirstFeed s found
IsFirstFeed-found s None h = has_feed-none s (λ k l e. h k (omega arith) l e)
IsFirstFeed-found s (Some k) h =
    let within : k < length s = h.0.high in
    let byte : get_or s k 0 ≡ 10 = let here : eqb (get_or s k 0) 10 ≡ true = h.1 in grind (arith, nat_tests) in
    let size : length (take k s) ≡ k = length-take-le k s (omega arith) in
    record {
      within = within;
      none_before = has_feed-none (take k s) (λ j l e. h.0.before j (omega arith) (omega arith) (rw (← get_or-take k s j 0 (omega arith)) e));
      split = sym (take-append-drop k s) ∙ ap (λ t. take k s ++ t) (drop_more s k 0 within ∙ ap (λ b. b ∷ drop (k + 1) s) byte);
    }
