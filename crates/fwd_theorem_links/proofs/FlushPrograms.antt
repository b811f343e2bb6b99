-- The programs of a flush on renamed links.
use Rattle.std.proofs.Common.{◌≡◌, ℕ, zero, suc, ◌+◌, ◌==◌, min, nat_lt, Bool, true, false, List, ◌++◌, Option, Some, None, length, drop, if◌then◌else◌, refl}
use Rattle.std.specs.Prelude.{option_map}
use Rattle.fwd_base.specs.declared.ids.LinkId.{LinkId}
use Rattle.fwd_outside.specs.Loop.{LoopProgram, Dial, PushAnswer, Took, Again, Broke}
use Rattle.fwd_table.specs.declared.outcome.Answer.{Answer}
use Rattle.fwd_table.specs.declared.outcome.Answer.TheVariants.{Good, Retry, Bad}
use Rattle.fwd_flush.specs.declared.judgement.Judged.{Judged}
use Rattle.fwd_flush.specs.declared.judgement.Judged.TheVariants.{More, Right, Wrong, Fatal}
use Rattle.fwd_flush.specs.declared.stage.Stage.{Stage}
use Rattle.fwd_flush.specs.declared.stage.Stage.TheVariants.{Opening, Writing, AwaitingAck, Ended}
use Rattle.fwd_flush.specs.FlushProgram.{Progress, Delivery, ends, dialed_on, continues_by, confirms_payload, pushed_on, pushes, writes, starts, not_started, polls, polls_in, with_reply_bytes, backs, backs_in, breaks, breaks_in, link_in}
use Rattle.fwd_model.specs.Trace.{OnLoop}
use Rattle.fwd_model.specs.DeviceActions.{on_loop}
use Rattle.fwd_theorem_links.specs.RenamedLinks.{renamed_link, renamed_stage, renamed_progress}
use Rattle.fwd_theorem_links.proofs.Simulation.{AnswerIsDialed, Simulates}

module _ (rename : ℕ → ℕ) (IsDialed : ℕ → Type 0) where
  -- a dial returned the link of a stage
  abbrev pub IsOnDialed : Stage → Type 0
  IsOnDialed Opening = Unit {0}
  IsOnDialed (Writing link) = IsDialed link.0
  IsOnDialed (AwaitingAck link) = IsDialed link.0
  IsOnDialed (Ended answer) = Unit {0}

  abbrev pub IsRenamed : Progress → Progress → Type 0
  IsRenamed p q = (q ≡ renamed_progress rename p) × IsOnDialed p.stage

module _ (rename : ℕ → ℕ) (IsDialed : ℕ → Type 0) (HasFollowed : Type 0) where
  abbrev pub Flies : LoopProgram Progress → LoopProgram Progress → Type 0
  Flies p q = Simulates rename IsDialed HasFollowed (IsRenamed rename IsDialed) (on_loop p) (on_loop q)

  simulates_ends : (link : LinkId) (answer : Answer) (p : Progress) → Flies (ends link answer p) (ends (renamed_link rename link) answer (renamed_progress rename p))
  simulates_ends link answer p = (_, refl, tt, λ _ _. (_, refl, (refl, tt)))

  simulates_judged : (link : LinkId) (p : Progress) (judged : Judged) → IsDialed link.0 → Flies (continues_by link p judged) (continues_by (renamed_link rename link) (renamed_progress rename p) judged)
  simulates_judged link p More given = (_, refl, (refl, given))
  simulates_judged link p Right given = simulates_ends link Good p
  simulates_judged link p Wrong given = simulates_ends link Retry p
  simulates_judged link p Fatal given = simulates_ends link Bad p

  if_loop : (b : Bool) (p q r t : LoopProgram Progress) → Flies p r → Flies q t → Flies (if b then p else q) (if b then r else t)
  if_loop true p q r t first second = first
  if_loop false p q r t first second = second

  simulates_confirms : (d : Delivery) (link : LinkId) (p : Progress) → IsDialed link.0 → Flies (confirms_payload d link p) (confirms_payload d (renamed_link rename link) (renamed_progress rename p))
  unfolding confirms_payload
  simulates_confirms d link p given = if_loop d.wanted _ _ _ _ (simulates_judged link p (d.judged p.reply) given) (simulates_ends link Good p)

  simulates_pushes : (left : ℕ) (d : Delivery) (link : LinkId) (p : Progress) → IsDialed link.0 → Flies (pushes left d link p) (pushes left d (renamed_link rename link) (renamed_progress rename p))
  simulates_pushes zero d link p given = simulates_confirms d link p given
  simulates_pushes (suc left) d link p given = if_loop (nat_lt p.taken (length d.payload)) _ _ _ _ (_, refl, tt, λ answer _. simulates_on (λ q. simulates_pushes left d link q given) answer) (simulates_confirms d link p given)
    where
      simulates_on : ((q : Progress) → Flies (pushes left d link q) (pushes left d (renamed_link rename link) (renamed_progress rename q))) → (answer : PushAnswer) → Flies (pushed_on (pushes left d link) link (drop p.taken d.payload) p answer) (pushed_on (pushes left d (renamed_link rename link)) (renamed_link rename link) (drop p.taken d.payload) (renamed_progress rename p) answer)
      simulates_on more (Took n) = if_loop (n == 0) _ _ _ _ (simulates_ends link Retry p) (more (record p { taken = p.taken + min n (length (drop p.taken d.payload)) }))
      simulates_on more Again = (_, refl, (refl, given))
      simulates_on more Broke = simulates_ends link Retry p

  simulates_writes : (d : Delivery) (link : LinkId) (p : Progress) → IsDialed link.0 → Flies (writes d link p) (writes d (renamed_link rename link) (renamed_progress rename p))
  unfolding writes
  simulates_writes d link p given = simulates_pushes (length d.payload) d link p given

  pub simulates_starts : (d : Delivery) (output : ℕ) (tag : List ℕ) → Flies (starts d output tag not_started) (starts d output tag not_started)
  unfolding starts
  simulates_starts d output tag = (_, refl, tt, by)
    where
      by : (answer : Option ℕ) → AnswerIsDialed rename IsDialed HasFollowed (OnLoop (Dial output tag)) answer → Flies (dialed_on d not_started answer) (dialed_on d not_started (option_map rename answer))
      by None dialed = (_, refl, (refl, tt))
      by (Some link) dialed = simulates_writes d (record { 0 = link }) (record not_started { stage = Writing (record { 0 = link }) }) dialed

  pub simulates_polls : (d : Delivery) (p : Progress) → IsOnDialed rename IsDialed p.stage → Flies (polls d p) (polls d (renamed_progress rename p))
  unfolding polls
  simulates_polls d p known = by p.stage refl known
    where
      by : (stage : Stage) → p.stage ≡ stage → IsOnDialed rename IsDialed stage → Flies (polls_in d p stage) (polls_in d (renamed_progress rename p) (renamed_stage rename stage))
      by Opening is known = (_, refl, (refl, rw is tt))
      by (Writing link) is known = simulates_writes d link p known
      by (AwaitingAck link) is known = (_, refl, (refl, rw is known))
      by (Ended answer) is known = (_, refl, (refl, rw is tt))

  reply_renamed : (d : Delivery) (bytes : List ℕ) (p : Progress) → with_reply_bytes d bytes (renamed_progress rename p) ≡ renamed_progress rename (with_reply_bytes d bytes p)
  reply_renamed d bytes p = by d.wanted
    where
      by : (b : Bool) → (if b then record (renamed_progress rename p) { reply = p.reply ++ bytes } else renamed_progress rename p) ≡ renamed_progress rename (if b then record p { reply = p.reply ++ bytes } else p)
      by true = refl
      by false = refl

  reply_stage : (d : Delivery) (bytes : List ℕ) (p : Progress) → (with_reply_bytes d bytes p).stage ≡ p.stage
  reply_stage d bytes p = by d.wanted
    where
      by : (b : Bool) → (if b then record p { reply = p.reply ++ bytes } else p).stage ≡ p.stage
      by true = refl
      by false = refl

  pub simulates_backs : (d : Delivery) (bytes : List ℕ) (p : Progress) → IsOnDialed rename IsDialed p.stage → Flies (backs d bytes p) (backs d bytes (renamed_progress rename p))
  unfolding backs
  simulates_backs d bytes p known = by p.stage refl known
    where
      by : (stage : Stage) → p.stage ≡ stage → IsOnDialed rename IsDialed stage → Flies (backs_in d bytes p stage) (backs_in d bytes (renamed_progress rename p) (renamed_stage rename stage))
      by Opening is known = (_, refl, (refl, rw is tt))
      by (Writing link) is known = (_, refl, (reply_renamed d bytes p, rw (reply_stage d bytes p) (rw is known)))
      by (AwaitingAck link) is known = rw (reply_renamed d bytes p) (simulates_confirms d link (with_reply_bytes d bytes p) known)
      by (Ended answer) is known = (_, refl, (refl, rw is tt))

  pub simulates_breaks : (p : Progress) → IsOnDialed rename IsDialed p.stage → Flies (breaks p) (breaks (renamed_progress rename p))
  unfolding breaks
  simulates_breaks p known = by p.stage refl
    where
      by : (stage : Stage) → p.stage ≡ stage → Flies (breaks_in p (link_in stage)) (breaks_in (renamed_progress rename p) (link_in (renamed_stage rename stage)))
      by Opening is = (_, refl, (refl, rw is tt))
      by (Writing link) is = simulates_ends link Retry p
      by (AwaitingAck link) is = simulates_ends link Retry p
      by (Ended answer) is = (_, refl, (refl, rw is tt))
