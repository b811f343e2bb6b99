-- The judgement as a function of a reply's bytes agrees with that of its head.
use Rattle.std.proofs.Common.{◌≡◌, ◌⊎◌, inl, inr, ℕ, ◌<◌, ◌≤◌, Bool, true, false, ◌||◌, cond, eqb, List, length, take, refl, ap, ◌∙◌, arith, Option, Some, None}
use Rattle.std.specs.Prelude.{nat_le}
use Rattle.std.proofs.lemmas.Bool.Decides.{nat_tests}
use Rattle.fwd_base.specs.Limits.{longest_head}
use Rattle.fwd_flush.specs.declared.judgement.Judged.{Judged}
use Rattle.fwd_flush.specs.declared.judgement.Judged.TheVariants.{More, Right, Wrong, Fatal}
use Rattle.fwd_http.specs.declared.statuses.StatusRange.{StatusRange}
use Rattle.fwd_http.specs.Statuses.{is_retried}
use Rattle.fwd_out_http.specs.Reply.{is_between, status_in, by_status, judged_by, http_judgement}
use Rattle.fwd_out_http.specs.Head.{HasHead, HasNoHead, IsGood, IsBusy, IsJudged}
use Rattle.fwd_out_http.proofs.Readings.{status_found, found_status}

head_has : (reply : List ℕ) (status : ℕ) → status_in (take longest_head reply) ≡ Some status → HasHead reply status
head_has reply status is =
    let found = status_found (take longest_head reply) status is in
    record { head = found.head; is = found.is; code = found.code }

has_head : (reply : List ℕ) (status : ℕ) → HasHead reply status → status_in (take longest_head reply) ≡ Some status
has_head reply status has = found_status (take longest_head reply) status (record { head = has.head; is = has.is; code = has.code })

-- ---- by a status

module _ (ranges : List StatusRange) where
  good_is_right : (status : ℕ) → IsGood ranges status → by_status ranges status ≡ Right
  good_is_right status good =
      let test : is_between 200 299 status ≡ true = let low = good.1 in let high = good.2 in grind (arith, nat_tests) in
      rw (good.0, test) refl

  busy_is_wrong : (status : ℕ) → IsBusy ranges status → by_status ranges status ≡ Wrong
  busy_is_wrong status (inl is) = rw is refl
  busy_is_wrong status (inr busy) = by (is_retried ranges status) refl
    where
      apart : (status ≡ 429) ⊎ ((500 ≤ status) × (status ≤ 599)) → is_between 200 299 status ≡ false
      apart (inl is) = grind (arith, nat_tests)
      apart (inr within) = grind (arith, nat_tests)

      tested : (status ≡ 429) ⊎ ((500 ≤ status) × (status ≤ 599)) → (eqb status 429 || is_between 500 599 status) ≡ true
      tested (inl is) = grind (arith, nat_tests)
      tested (inr within) = grind (arith, nat_tests)

      by : (a : Bool) → is_retried ranges status ≡ a → by_status ranges status ≡ Wrong
      by true is = rw is refl
      by false is =
          let other = apart busy in
          let test = tested busy in
          rw (is, other, test) refl

  judged_has : (reply : List ℕ) (status : ℕ) → HasHead reply status → IsJudged ranges reply (by_status ranges status)
  judged_has reply status has = by (is_retried ranges status) (is_between 200 299 status) (eqb status 429) (is_between 500 599 status) refl refl refl refl
    where
      by : (r a b c : Bool) → is_retried ranges status ≡ r → is_between 200 299 status ≡ a → eqb status 429 ≡ b → is_between 500 599 status ≡ c
          → IsJudged ranges reply (by_status ranges status)
      by true a b c w x y z = rw w (inl (status, has, inl w))
      by false true b c w x y z =
          let low : 200 ≤ status = grind (arith, nat_tests) in
          let high : status ≤ 299 = grind (arith, nat_tests) in
          rw (w, x) (status, has, (w, low, high))
      by false false true c w x y z = let same : status ≡ 429 = grind (arith, nat_tests) in rw (w, x, y) (inl (status, has, inr (inl same)))
      by false false false true w x y z =
          let low : 500 ≤ status = grind (arith, nat_tests) in
          let high : status ≤ 599 = grind (arith, nat_tests) in
          rw (w, x, y, z) (inl (status, has, inr (inr (low, high))))
      by false false false false w x y z =
          let good : IsGood ranges status → ⊥ = λ g. let right = good_is_right status g in let fatal : by_status ranges status ≡ Fatal = rw (w, x, y, z) refl in cc in
          let busy : IsBusy ranges status → ⊥ = λ g. let wrong = busy_is_wrong status g in let fatal : by_status ranges status ≡ Fatal = rw (w, x, y, z) refl in cc in
          rw (w, x, y, z) (status, has, good, busy)

  other_is_fatal : (status : ℕ) → (IsGood ranges status → ⊥) → (IsBusy ranges status → ⊥) → by_status ranges status ≡ Fatal
  other_is_fatal status good busy = by (is_retried ranges status) (is_between 200 299 status) (eqb status 429) (is_between 500 599 status) refl refl refl refl
    where
      by : (r a b c : Bool) → is_retried ranges status ≡ r → is_between 200 299 status ≡ a → eqb status 429 ≡ b → is_between 500 599 status ≡ c → by_status ranges status ≡ Fatal
      by true a b c w x y z = absurd (busy (inl w))
      by false true b c w x y z =
          let low : 200 ≤ status = grind (arith, nat_tests) in
          let high : status ≤ 299 = grind (arith, nat_tests) in
          absurd (good (w, low, high))
      by false false true c w x y z = let same : status ≡ 429 = grind (arith, nat_tests) in absurd (busy (inr (inl same)))
      by false false false true w x y z =
          let low : 500 ≤ status = grind (arith, nat_tests) in
          let high : status ≤ 599 = grind (arith, nat_tests) in
          absurd (busy (inr (inr (low, high))))
      by false false false false w x y z = rw (w, x, y, z) refl

-- ---- by a reply

module _ (ranges : List StatusRange) where
  has_none : (reply : List ℕ) → status_in (take longest_head reply) ≡ None → HasNoHead reply
  has_none reply none status has = let some = has_head reply status has in cc

  judged_none : (reply : List ℕ) (full : Bool) → nat_le longest_head (length reply) ≡ full → HasNoHead reply → IsJudged ranges reply (judged_by ranges None full)
  judged_none reply true is none = let long : longest_head ≤ length reply = grind (arith, nat_tests) in inr (none, long)
  judged_none reply false is none = let short : length reply < longest_head = grind (arith, nat_tests) in (none, short)

  judged_of : (reply : List ℕ) (status : Option ℕ) → status_in (take longest_head reply) ≡ status → IsJudged ranges reply (judged_by ranges status (nat_le longest_head (length reply)))
  judged_of reply (Some status) is = judged_has ranges reply status (head_has reply status is)
  judged_of reply None is = judged_none reply (nat_le longest_head (length reply)) refl (has_none reply is)

  pub judged_is : (reply : List ℕ) → IsJudged ranges reply (http_judgement ranges reply)
  judged_is reply = judged_of reply (status_in (take longest_head reply)) refl

  by_head : (reply : List ℕ) (status : ℕ) → HasHead reply status → http_judgement ranges reply ≡ by_status ranges status
  by_head reply status has = ap (λ (s : Option ℕ). judged_by ranges s (nat_le longest_head (length reply))) (has_head reply status has)

  status_none : (reply : List ℕ) → HasNoHead reply → (status : Option ℕ) → status_in (take longest_head reply) ≡ status → status_in (take longest_head reply) ≡ None
  status_none reply none (Some status) is = absurd (none status (head_has reply status is))
  status_none reply none None is = is

  by_length : (reply : List ℕ) (full : Bool) → HasNoHead reply → nat_le longest_head (length reply) ≡ full → http_judgement ranges reply ≡ judged_by ranges None full
  by_length reply full none is =
      ap (λ (s : Option ℕ). judged_by ranges s (nat_le longest_head (length reply))) (status_none reply none _ refl)
      ∙ ap (judged_by ranges None) is

  pub is_judged : (reply : List ℕ) (judged : Judged) → IsJudged ranges reply judged → http_judgement ranges reply ≡ judged
  is_judged reply More (none, short) = let test : nat_le longest_head (length reply) ≡ false = grind (arith, nat_tests) in by_length reply false none test
  is_judged reply Right (status, has, good) = by_head reply status has ∙ good_is_right ranges status good
  is_judged reply Wrong (inl (status, has, busy)) = by_head reply status has ∙ busy_is_wrong ranges status busy
  is_judged reply Wrong (inr (none, long)) = let test : nat_le longest_head (length reply) ≡ true = grind (arith, nat_tests) in by_length reply true none test
  is_judged reply Fatal (status, has, good, busy) = by_head reply status has ∙ other_is_fatal ranges status good busy
