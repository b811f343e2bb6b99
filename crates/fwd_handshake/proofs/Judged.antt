-- The meaning of each judgement for the bytes of a stream.
use Rattle.std.proofs.Common.{◌≡◌, ◌↔◌, inl, inr, ℕ, ◌-◌, ◌<◌, ◌≤◌, Bool, true, false, cond, List, ◌++◌, length, take, Option, Some, None, Ok, Err, refl, ap, subst, ◌∙◌}
use Rattle.std.specs.Prelude.{nat_le}
use Rattle.std.proofs.lemmas.Bool.{cases_lt, leb-true, le-leb}
use Rattle.std.proofs.lemmas.List.{take-append-le}
use Rattle.fwd_value.specs.Val.{Val}
use Rattle.fwd_msgpack.specs.declared.fault.FormatErr.TheVariants.{Short, Unused, TooDeep}
use Rattle.fwd_msgpack.specs.Encodings.{Encodes}
use Rattle.fwd_msgpack.specs.Decoder.{Read, value_at}
use Rattle.fwd_msgpack.specs.DecodeAnswers.{EncodesPrefix, IsProperPrefix}
use Rattle.fwd_msgpack.proofs.Exclusive.{prefix_not_value}
use Rattle.fwd_handshake.specs.declared.received.Greeted.TheVariants as greeted
use Rattle.fwd_handshake.specs.declared.received.Received.{Received}
use Rattle.fwd_handshake.specs.declared.received.Received.TheVariants.{More, Right, Wrong}
use Rattle.fwd_handshake.specs.Judgement.{longest_greeting, content_received, received_by, received, greeted_of, judged}
use Rattle.fwd_handshake.proofs.Decoding.{read_value, read_prefix, received_value, received_prefix}

wrong_right : (n : ℕ) (s : List ℕ) → Wrong ≡ Right n s → ⊥
wrong_right n s e = cc

more_right : (n : ℕ) (s : List ℕ) → More ≡ Right n s → ⊥
more_right n s e = cc

wrong_more : Wrong ≡ More → ⊥
wrong_more e = cc

right_more : (n : ℕ) (s : List ℕ) → Right n s ≡ More → ⊥
right_more n s e = cc

same_length : (m n : ℕ) (s t : List ℕ) → Right m s ≡ Right n t → m ≡ n
same_length m n s t e = cc

same_content : (m n : ℕ) (s t : List ℕ) → Right m s ≡ Right n t → s ≡ t
same_content m n s t e = cc

short_not_right : (t : Bool) (n : ℕ) (s : List ℕ) → cond t More Wrong ≡ Right n s → ⊥
short_not_right true n s e = more_right n s e
short_not_right false n s e = wrong_right n s e

more_by : (t : Bool) → cond t More Wrong ≡ More → t ≡ true
more_by true e = refl
more_by false e = absurd (wrong_more e)

module _ (content : Val → Option (List ℕ)) where
  -- ---- right

  content_right : (b : List ℕ) (v : Val) (m len : ℕ) (o : Option (List ℕ)) (s : List ℕ) → EncodesPrefix v m b → content v ≡ o → content_received m o ≡ Right len s
      → EncodesPrefix v len b × (content v ≡ Some s)
  content_right b v m len (Some t) s h is e =
      (subst (λ (n : ℕ). EncodesPrefix v n b) (same_length m len t s e) h, is ∙ ap Some (same_content m len t s e))
  content_right b v m len None s h is e = absurd (wrong_right len s e)

  right_by : (b : List ℕ) (len : ℕ) (s : List ℕ) (r : Read Val) → value_at 64 b ≡ r → received_by content (length b) r ≡ Right len s → (v : Val) × EncodesPrefix v len b × (content v ≡ Some s)
  right_by b len s (Ok x) e h =
      let found = content_right b x.0 (length b - length x.1) len (content x.0) s (read_value b x.0 x.1 e) refl h in
      (x.0, found.0, found.1)
  right_by b len s (Err Short) e h = absurd (short_not_right (nat_le (length b) longest_greeting) len s h)
  right_by b len s (Err (Unused left)) e h = absurd (wrong_right len s h)
  right_by b len s (Err (TooDeep left)) e h = absurd (wrong_right len s h)

  right_from : (b : List ℕ) (len : ℕ) (s : List ℕ) → received content b ≡ Right len s → (v : Val) × EncodesPrefix v len b × (content v ≡ Some s)
  unfolding received
  right_from b len s e = right_by b len s (value_at 64 b) refl e

  right_to : (b : List ℕ) (len : ℕ) (s : List ℕ) → ((v : Val) × EncodesPrefix v len b × (content v ≡ Some s)) → received content b ≡ Right len s
  right_to b len s h = received_value content b h.0 len h.1 ∙ ap (content_received len) h.2

  pub received_right : (b : List ℕ) (len : ℕ) (s : List ℕ) → (received content b ≡ Right len s) ↔ ((v : Val) × EncodesPrefix v len b × (content v ≡ Some s))
  received_right b len s = (right_from b len s, right_to b len s)

  greeted_right : (r : Received) (len : ℕ) → greeted_of r ≡ greeted.Right len → (s : List ℕ) × (r ≡ Right len s)
  greeted_right More len e = absurd cc
  greeted_right (Right n s) len e = let same : n ≡ len = cc in (s, ap (λ (m : ℕ). Right m s) same)
  greeted_right Wrong len e = absurd cc

  pub judged_right : (b : List ℕ) (len : ℕ) → (judged content b ≡ greeted.Right len) ↔ ((s : List ℕ) × (received content b ≡ Right len s))
  unfolding judged
  judged_right b len = (greeted_right (received content b) len, λ h. ap greeted_of h.1)

  -- ---- more

  content_not_more : (m : ℕ) (o : Option (List ℕ)) → content_received m o ≡ More → ⊥
  content_not_more m (Some s) e = right_more m s e
  content_not_more m None e = wrong_more e

  more_from : (b : List ℕ) (r : Read Val) → value_at 64 b ≡ r → received_by content (length b) r ≡ More → IsProperPrefix b × (length b ≤ longest_greeting)
  more_from b (Ok x) e h = absurd (content_not_more (length b - length x.1) (content x.0) h)
  more_from b (Err Short) e h = (read_prefix b e, leb-true (length b) longest_greeting (more_by (nat_le (length b) longest_greeting) h))
  more_from b (Err (Unused left)) e h = absurd (wrong_more h)
  more_from b (Err (TooDeep left)) e h = absurd (wrong_more h)

  received_more : (b : List ℕ) → received content b ≡ More → IsProperPrefix b × (length b ≤ longest_greeting)
  unfolding received
  received_more b e = more_from b (value_at 64 b) refl e

  greeted_more : (r : Received) → greeted_of r ≡ greeted.More → r ≡ More
  greeted_more More e = refl
  greeted_more (Right n s) e = absurd cc
  greeted_more Wrong e = absurd cc

  more_to : (b : List ℕ) → (IsProperPrefix b × (length b ≤ longest_greeting)) → received content b ≡ More
  more_to b h = received_prefix content b h.0 ∙ ap (λ (t : Bool). cond t More Wrong) (le-leb (length b) longest_greeting h.1)

  pub judged_more : (b : List ℕ) → (judged content b ≡ greeted.More) ↔ (IsProperPrefix b × (length b ≤ longest_greeting))
  unfolding judged
  judged_more b = (λ e. received_more b (greeted_more (received content b) e), λ h. ap greeted_of (more_to b h))

  -- ---- wrong, and new

  pub judged_wrong : (b : List ℕ) (v : Val) (n : ℕ) → EncodesPrefix v n b → content v ≡ None → judged content b ≡ greeted.Wrong
  unfolding judged
  judged_wrong b v n h none = ap greeted_of (received_value content b v n h ∙ ap (content_received n) none)

  -- a message isn't complete before it is longer than a stream that wants more
  pub right_is_later : (b piece : List ℕ) (len : ℕ) → judged content b ≡ greeted.More → judged content (b ++ piece) ≡ greeted.Right len → length b < len
  right_is_later b piece len more right =
      let prefix = ((judged_more b).0 more).0 in
      let got = (judged_right (b ++ piece) len).0 right in
      let found = (received_right (b ++ piece) len got.0).0 got.1 in
      elim (cases_lt (length b) len) [
        | inl lt ↦ lt
        | inr le ↦
            let same : take len (b ++ piece) ≡ take len b = take-append-le len b piece le in
            absurd (prefix_not_value b found.0 len prefix (le, subst (λ (t : List ℕ). Encodes found.0 t) same found.1.1, found.1.2))
      ]
