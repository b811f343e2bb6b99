-- The program of a flush at each stage, by the fields of the code.
use Rattle.std.proofs.Common.{◌≡◌, ℕ, ◌+◌, ◌≤◌, Bool, true, false, if◌then◌else◌, List, [], ◌∷◌, ◌++◌, Option, Some, None, IfSome, Result, Ok, Err, IsErr, refl, sym, ap, subst, arith}
use Rattle.fwd_outside.specs.Program.{entry, Return, Ask}
use Rattle.fwd_outside.specs.Log.{LogGrew}
use Rattle.fwd_base.specs.declared.ids.LinkId.{LinkId}
use Rattle.fwd_base.specs.declared.memory.Memory.{Memory}
use Rattle.fwd_outside.specs.Loop.{LoopLog, LoopProgram, LoopCounts, Dial}
use Rattle.fwd_table.specs.declared.outcome.Answer.TheVariants.{Retry}
use Rattle.fwd_flush.specs.declared.poll.Poll.{Poll}
use Rattle.fwd_flush.specs.declared.poll.Poll.TheVariants as poll
use Rattle.fwd_flush.specs.declared.judgement.Judged.{Judged}
use Rattle.fwd_flush.specs.declared.rest.Rest.{Rest}
use Rattle.fwd_flush.specs.declared.rest.Rest.TheVariants.{Taken, Fails}
use Rattle.fwd_flush.specs.declared.stage.Stage.{Stage}
use Rattle.fwd_flush.specs.declared.stage.Stage.TheVariants.{Opening, Writing, AwaitingAck, Ended}
use Rattle.fwd_flush.specs.FlushProgram.{Progress, Flight, Delivery, delivery, link_in, poll_in, ends, confirms_payload, writes, dialed_on, starts, starts_in, polls, polls_in, with_reply_bytes, backs, backs_in, breaks, breaks_in}
use Rattle.fwd_flush.specs.Calls.{Performs, PerformsOrStays, IsNewest, HasDialed}
use Rattle.fwd_flush.specs.Pushes.{PushesOn}
use Rattle.fwd_flush.proofs.Steps.{advanced_by_call, leads, stopped, then_confirms, then_ends, then_goes}

module _ {P : Type 0} (wanted : P → Bool) (judged : P → List ℕ → Judged) (inside f : Flight P) (is : inside ≡ f) (payload : List ℕ) (all : payload ≡ inside.payload)
    (link : LinkId) (n : ℕ) (a b : LoopLog) where
  abbrev now : Progress
  now = record { stage = inside.progress.stage; taken = n; reply = inside.progress.reply }

  -- how the pushes ended
  abbrev Led : Result Rest Memory → Type 0
  Led rest = (d : Delivery) (p : Progress) → d.payload ≡ payload → p.taken ≡ inside.progress.taken → PushesOn a b d link p (record p { taken = n }) rest

  pub write_stopped : (e : Memory) → Led (Err e) → (r : Result Poll Memory) → IsErr r → Performs a b (writes (delivery wanted judged f) link f.progress) f.progress now r
  write_stopped e led r err =
      let went = led (delivery wanted judged inside) inside.progress (sym all) refl in
      subst (λ (x : Flight P). Performs a b (writes (delivery wanted judged x) link x.progress) x.progress now r) is (stopped _ went.0 inside.progress now r err went.1)

  pub write_taken : (c : LoopLog) (after : Progress) (r : Result Poll Memory) → Led (Ok Taken) → PerformsOrStays b c (confirms_payload (delivery wanted judged inside) link now) now after r
      → Performs a c (writes (delivery wanted judged f) link f.progress) f.progress after r
  write_taken c after r led goes =
      let went = led (delivery wanted judged inside) inside.progress (sym all) refl in
      subst (λ (x : Flight P). Performs a c (writes (delivery wanted judged x) link x.progress) x.progress after r) is
      (then_confirms (delivery wanted judged inside) link now c _ inside.progress after r went goes)

  pub write_fails : (c : LoopLog) (after : Progress) (r : Result Poll Memory) → Led (Ok Fails) → PerformsOrStays b c (ends link Retry now) now after r
      → Performs a c (writes (delivery wanted judged f) link f.progress) f.progress after r
  write_fails c after r led goes =
      let went = led (delivery wanted judged inside) inside.progress (sym all) refl in
      subst (λ (x : Flight P). Performs a c (writes (delivery wanted judged x) link x.progress) x.progress after r) is
      (then_ends (delivery wanted judged inside) link now c Retry _ inside.progress after r went goes)

-- at each stage
module _ (d : Delivery) (p : Progress) where
  pub starts_at : (output : ℕ) (tag : List ℕ) → p.stage ≡ Opening → starts d output tag p ≡ Ask (Dial output tag) (dialed_on d p)
  unfolding starts
  starts_at output tag is = ap (λ (s : Stage). starts_in d output tag p s) is

  pub starts_not : (output : ℕ) (tag : List ℕ) → (p.stage ≡ Opening → ⊥) → starts d output tag p ≡ Return p
  unfolding starts
  starts_not output tag not = by p.stage not
    where
      by : (s : Stage) → (s ≡ Opening → ⊥) → starts_in d output tag p s ≡ Return p
      by Opening not = absurd (not refl)
      by (Writing link) not = refl
      by (AwaitingAck link) not = refl
      by (Ended answer) not = refl

  pub polls_at : (link : LinkId) → p.stage ≡ Writing link → polls d p ≡ writes d link p
  unfolding polls
  polls_at link is = ap (λ (s : Stage). polls_in d p s) is

  pub polls_not : ((link : LinkId) → p.stage ≡ Writing link → ⊥) → polls d p ≡ Return p
  unfolding polls
  polls_not not = by p.stage not
    where
      by : (s : Stage) → ((link : LinkId) → s ≡ Writing link → ⊥) → polls_in d p s ≡ Return p
      by Opening not = refl
      by (Writing link) not = absurd (not link refl)
      by (AwaitingAck link) not = refl
      by (Ended answer) not = refl

  pub backs_writing : (bytes : List ℕ) (link : LinkId) → p.stage ≡ Writing link → backs d bytes p ≡ Return (with_reply_bytes d bytes p)
  unfolding backs
  backs_writing bytes link is = ap (λ (s : Stage). backs_in d bytes p s) is

  pub backs_awaiting : (bytes : List ℕ) (link : LinkId) → p.stage ≡ AwaitingAck link → backs d bytes p ≡ confirms_payload d link (with_reply_bytes d bytes p)
  unfolding backs
  backs_awaiting bytes link is = ap (λ (s : Stage). backs_in d bytes p s) is

  pub backs_not : (bytes : List ℕ) → ((link : LinkId) → p.stage ≡ Writing link → ⊥) → ((link : LinkId) → p.stage ≡ AwaitingAck link → ⊥) → backs d bytes p ≡ Return p
  unfolding backs
  backs_not bytes not_writing not_awaiting = by p.stage not_writing not_awaiting
    where
      by : (s : Stage) → ((link : LinkId) → s ≡ Writing link → ⊥) → ((link : LinkId) → s ≡ AwaitingAck link → ⊥) → backs_in d bytes p s ≡ Return p
      by Opening not_writing not_awaiting = refl
      by (Writing link) not_writing not_awaiting = absurd (not_writing link refl)
      by (AwaitingAck link) not_writing not_awaiting = absurd (not_awaiting link refl)
      by (Ended answer) not_writing not_awaiting = refl

module _ (p : Progress) where
  pub breaks_at : (link : LinkId) → link_in p.stage ≡ Some link → breaks p ≡ ends link Retry p
  unfolding breaks
  breaks_at link is = ap (λ (o : Option LinkId). breaks_in p o) is

  pub breaks_not : link_in p.stage ≡ None → breaks p ≡ Return p
  unfolding breaks
  breaks_not is = ap (λ (o : Option LinkId). breaks_in p o) is

-- a field of a flush, by the fields of the code
pub stage_of : {P : Type 0} (inside f : Flight P) → inside ≡ f → (s : Stage) → inside.progress.stage ≡ s → f.progress.stage ≡ s
stage_of {P = P} inside f is s at = subst (λ (x : Flight P). x.progress.stage ≡ s) is at

pub stage_not : {P : Type 0} (inside f : Flight P) → inside ≡ f → (stage : LinkId → Stage) → ((link : LinkId) → inside.progress.stage ≡ stage link → ⊥) → (link : LinkId) → f.progress.stage ≡ stage link → ⊥
stage_not {P = P} inside f is stage not = subst (λ (x : Flight P). (link : LinkId) → x.progress.stage ≡ stage link → ⊥) is not

pub poll_of : {P : Type 0} (inside f : Flight P) → inside ≡ f → (poll : Poll) → poll ≡ poll_in inside.progress.stage → poll ≡ poll_in f.progress.stage
poll_of {P = P} inside f is poll at = subst (λ (x : Flight P). poll ≡ poll_in x.progress.stage) is at

-- a reply changes no stage
pub heard_stage : (d : Delivery) (bytes : List ℕ) (p : Progress) → (with_reply_bytes d bytes p).stage ≡ p.stage
heard_stage d bytes p = by d.wanted
  where
    by : (b : Bool) → (if b then (record p { reply = p.reply ++ bytes }) else p).stage ≡ p.stage
    by true = refl
    by false = refl

pub heard_taken : (d : Delivery) (bytes : List ℕ) (p : Progress) → (with_reply_bytes d bytes p).taken ≡ p.taken
heard_taken d bytes p = by d.wanted
  where
    by : (b : Bool) → (if b then (record p { reply = p.reply ++ bytes }) else p).taken ≡ p.taken
    by true = refl
    by false = refl

pub heard_reply : (d : Delivery) (bytes : List ℕ) (p : Progress) → d.wanted ≡ true → (with_reply_bytes d bytes p).reply ≡ p.reply ++ bytes
heard_reply d bytes p wanted = rw wanted refl

pub heard_waits : (d : Delivery) (bytes : List ℕ) (p : Progress) (link : LinkId) → p.stage ≡ Writing link → poll.Waiting ≡ poll_in (with_reply_bytes d bytes p).stage
heard_waits d bytes p link at = rw (heard_stage d bytes p, at) refl

-- a start, by the answer of its dial
module _ {P : Type 0} (wanted : P → Bool) (judged : P → List ℕ → Judged) (inside f : Flight P) (is : inside ≡ f) (tag : List ℕ) (at : inside.progress.stage ≡ Opening) (a b : LoopLog) where
  abbrev program : Flight P → LoopProgram Progress
  program x = starts (delivery wanted judged x) x.output.0 tag x.progress

  abbrev asks : LoopProgram Progress
  asks = Ask (Dial inside.output.0 tag) (dialed_on (delivery wanted judged inside) inside.progress)

  abbrev Goal : LoopLog → Progress → Result Poll Memory → Type 0
  Goal c after r = Performs a c (program f) f.progress after r

  by_asking : (c : LoopLog) (after : Progress) (r : Result Poll Memory) → Performs a c asks inside.progress after r → Goal c after r
  by_asking c after r goes =
      subst (λ (x : Flight P). Performs a c (program x) x.progress after r) is
      (subst (λ (q : LoopProgram Progress). Performs a c q inside.progress after r) (sym (starts_at (delivery wanted judged inside) inside.progress inside.output.0 tag at)) goes)

  pub dial_refused : LogGrew a b (entry (Dial inside.output.0 tag) None ∷ []) → Goal b (record inside.progress { stage = Ended Retry }) (Ok (poll.Ended Retry))
  dial_refused grew =
      by_asking b (record inside.progress { stage = Ended Retry }) (Ok (poll.Ended Retry))
      (leads (advanced_by_call inside.progress (Dial inside.output.0 tag) None (dialed_on (delivery wanted judged inside) inside.progress) grew), refl)

  abbrev writing : LinkId → Progress
  writing link = record inside.progress { stage = Writing link }

  pub dial_taken : (link : LinkId) (c : LoopLog) (after : Progress) (r : Result Poll Memory) → LogGrew a b (entry (Dial inside.output.0 tag) (Some link.0) ∷ [])
      → Performs b c (writes (delivery wanted judged inside) link (writing link)) (writing link) after r → Goal c after r
  dial_taken link c after r grew goes =
      by_asking c after r
      (then_goes c after r (advanced_by_call inside.progress (Dial inside.output.0 tag) (Some link.0) (dialed_on (delivery wanted judged inside) inside.progress) grew) goes)

-- the counts after a start
pub dialed_counts : (a b c : LoopCounts) (old new : Stage) (link : LinkId) → b ≡ record a { greatest = link.0 } → a.greatest + 1 ≤ link.0 → c ≡ b → IfSome (link_in new) (λ other. other ≡ link) → HasDialed a c old new
dialed_counts a b c old new link counted newest same keeps =
    rw (same, counted) (record { happenings = refl; endless = refl; later = omega arith; newest = λ _. by (link_in new) keeps })
  where
    by : (o : Option LinkId) → IfSome o (λ other. other ≡ link) → IsNewest a.greatest link.0 o
    by (Some other) keeps = rw (ap (λ (l : LinkId). l.0) keeps) (omega arith, refl)
    by None keeps = tt

pub undialed_counts : (a b : LoopCounts) (old new : Stage) → b ≡ a → (old ≡ Opening → link_in new ≡ None) → HasDialed a b old new
undialed_counts a b old new same none =
    rw same (record { happenings = refl; endless = refl; later = omega arith; newest = λ is. rw (none is) tt })

pub kept : (s : Stage) (link : LinkId) → link_in s ≡ Some link → IfSome (link_in s) (λ other. other ≡ link)
kept s link is = rw is refl

pub started : {P : Type 0} (inside f : Flight P) → inside ≡ f → (inside.progress.stage ≡ Opening → ⊥) → f.progress.stage ≡ Opening → ⊥
started {P = P} inside f is not = subst (λ (x : Flight P). x.progress.stage ≡ Opening → ⊥) is not
