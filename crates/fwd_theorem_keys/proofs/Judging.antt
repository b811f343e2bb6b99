-- Judgements of a stream that goes on.
use Rattle.std.proofs.Common.{◌≡◌, ℕ, zero, suc, ◌+◌, ◌-◌, ◌<◌, ◌≤◌, List, [], ◌++◌, length, take, drop, Option, refl, sym, ap, subst, ◌∙◌, arith}
use Rattle.std.proofs.lemmas.List.{take-append-le, drop-drop, drop_at, length-append}
use Rattle.fwd_value.specs.Val.{Val}
use Rattle.fwd_msgpack.specs.Encodings.{Encodes}
use Rattle.fwd_handshake.specs.declared.received.Received.TheVariants.{More, Right}
use Rattle.fwd_handshake.specs.Judgement.{received, greeted_of, judged}
use Rattle.fwd_handshake.proofs.Judged.{received_right, judged_right, right_is_later}

take_none : (n : ℕ) → take {A = ℕ} n [] ≡ []
take_none zero = refl
take_none (suc n) = refl

module _ (content : Val → Option (List ℕ)) where
  -- no bytes aren't right
  pub nothing_right : (len : ℕ) (c : List ℕ) → received content [] ≡ Right len c → ⊥
  nothing_right len c is =
      let found = (received_right content [] len c).0 is in
      subst (λ (l : List ℕ). Encodes found.0 l) (take_none len) found.1.1

  pub right_within : (s : List ℕ) (len : ℕ) (c : List ℕ) → received content s ≡ Right len c → len ≤ length s
  right_within s len c is = ((received_right content s len c).0 is).1.0

  -- what comes later doesn't change it
  pub right_longer : (s t : List ℕ) (len : ℕ) (c : List ℕ) → received content s ≡ Right len c → received content (s ++ t) ≡ Right len c
  right_longer s t len c is =
      let found = (received_right content s len c).0 is in
      (received_right content (s ++ t) len c).1 (found.0, (omega (arith, found.1.0, length-append s t), subst (λ (l : List ℕ). Encodes found.0 l) (sym (take-append-le len s t found.1.0)) found.1.1, found.1.2), found.2)

  -- it ends in the last piece
  pub right_later : (s t : List ℕ) (len : ℕ) (c : List ℕ) → received content s ≡ More → received content (s ++ t) ≡ Right len c → length s < len
  unfolding judged
  right_later s t len c more is = right_is_later content s t len (ap greeted_of more) ((judged_right content (s ++ t) len).1 (c, is))

pub drop_later : (xs ys : List ℕ) (n : ℕ) → length xs ≤ n → drop (n - length xs) ys ≡ drop n (xs ++ ys)
drop_later xs ys n le =
    let total : length xs + (n - length xs) ≡ n = omega (arith, le) in
    ap (drop (n - length xs)) (sym (drop_at xs ys (length xs) refl)) ∙ drop-drop (n - length xs) (length xs) (xs ++ ys) ∙ ap (λ (m : ℕ). drop m (xs ++ ys)) total
