-- The beginning of a flush: its dial is refused, or returns the link of its further calls.
use Rattle.std.proofs.Common.{◌+◌, arith, ◌≡◌, ℕ, List, [], ◌∷◌, Option, Some, None, inl, inr, ◌⊎◌, refl, sym, ap, subst}
use Rattle.fwd_outside.specs.Program.{Return, Execution, entry}
use Rattle.fwd_base.specs.declared.ids.LinkId.{LinkId}
use Rattle.fwd_outside.specs.Loop.{LoopEntry, Dial}
use Rattle.fwd_table.specs.declared.outcome.Answer.TheVariants.{Retry}
use Rattle.fwd_flush.specs.declared.stage.Stage.TheVariants.{Writing, Ended}
use Rattle.fwd_flush.specs.FlushProgram.{Progress, Delivery, not_started, link_in, writes, dialed_on, starts}
use Rattle.fwd_theorem_delivery.proofs.LinkCalls.{AreOn, StaysOn, CloseIsLast, all_closes, closes_in, closes_last, speaks_way, speaks_writes}

pub record IsRefused (output : ℕ) (tag : List ℕ) (es : List LoopEntry) (q : Progress) : Type 0 where
  pub calls : es ≡ entry (Dial output tag) None ∷ []
  pub ended : q.stage ≡ Ended Retry

pub record IsLinked (output : ℕ) (tag : List ℕ) (es : List LoopEntry) (q : Progress) : Type 0 where
  pub link : ℕ
  pub behind : List LoopEntry
  pub calls : es ≡ entry (Dial output tag) (Some link) ∷ behind
  pub on : AreOn link behind
  pub last : CloseIsLast behind
  pub stays : StaysOn link (link_in q.stage)
  pub shut : all_closes behind ≡ closes_in (link_in q.stage)

module _ (d : Delivery) (output : ℕ) (tag : List ℕ) (q : Progress) where
  by_dial : (answer : Option ℕ) (es : List LoopEntry) → Execution (dialed_on d not_started answer) es (Return q)
      → IsRefused output tag (entry (Dial output tag) answer ∷ es) q ⊎ IsLinked output tag (entry (Dial output tag) answer ∷ es) q
  by_dial None (x ∷ es) way = absurd way
  by_dial None [] way =
      let same : record not_started { stage = Ended Retry } ≡ q = cc way in
      inl (record { calls = refl; ended = sym (ap (λ (p : Progress). p.stage) same) })
  by_dial (Some number) es way =
      let link : LinkId = record { 0 = number } in
      let program = writes d link (record not_started { stage = Writing link }) in
      let spoke = speaks_way number 0 program (speaks_writes d link (record not_started { stage = Writing link })) es q way in
      let last = closes_last number 0 program (speaks_writes d link (record not_started { stage = Writing link })) es q way in
      let count : 0 + all_closes es ≡ closes_in (link_in q.stage) = spoke.2 in
      inr (record { link = number; behind = es; calls = refl; on = spoke.0; last = last; stays = spoke.1; shut = omega (arith, count) })

  pub begins_so : (es : List LoopEntry) → Execution (starts d output tag not_started) es (Return q) → IsRefused output tag es q ⊎ IsLinked output tag es q
  unfolding starts
  begins_so [] way = absurd (cc way)
  begins_so (e ∷ es) way = subst (λ (x : LoopEntry). IsRefused output tag (x ∷ es) q ⊎ IsLinked output tag (x ∷ es) q) (sym way.1) (by_dial way.0 es way.2)
