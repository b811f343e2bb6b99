-- The calls of a flush are on its own link.
use Rattle.std.proofs.Common.{arith, ◌≡◌, ◌≢◌, ◌⊎◌, ℕ, zero, suc, ◌+◌, min, Bool, true, false, nat_lt, if◌then◌else◌, List, [], ◌∷◌, length, drop, Option, Some, None, inl, inr, refl, sym, ◌∙◌, ap, subst}
use Rattle.std.specs.Prelude.{◌==◌}
use Rattle.std.proofs.lemmas.Bool.{eq-eqb, ne_eqb}
use Rattle.fwd_outside.specs.Program.{Return, Ask, Execution}
use Rattle.fwd_base.specs.declared.ids.LinkId.{LinkId}
use Rattle.fwd_outside.specs.Loop.{LoopCall, LoopAnswer, LoopEntry, LoopProgram, Start, Wait, Dial, Push, Close, Reply, DropConn, Word, PushAnswer, Took, Again, Broke}
use Rattle.fwd_outside.specs.NewLinks.{greatest_by, greatest_after}
use Rattle.fwd_table.specs.declared.outcome.Answer.{Answer}
use Rattle.fwd_table.specs.declared.outcome.Answer.TheVariants.{Retry}
use Rattle.fwd_flush.specs.declared.judgement.Judged.{Judged}
use Rattle.fwd_flush.specs.declared.judgement.Judged.TheVariants.{More, Right, Wrong, Fatal}
use Rattle.fwd_flush.specs.declared.stage.Stage.{Stage}
use Rattle.fwd_flush.specs.declared.stage.Stage.TheVariants.{Opening, Writing, AwaitingAck, Ended}
use Rattle.fwd_flush.specs.FlushProgram.{Progress, Delivery, link_in, ends, continues_by, confirms_payload, pushed_on, pushes, writes, polls, with_reply_bytes, backs}
use Rattle.fwd_flush.specs.Outcome.{Occurrence, Room, Back, Broken, program_at, event_of_call, events_of}
use Rattle.fwd_flush.proofs.Steps.{silent, replies}
use Rattle.fwd_flush.proofs.Programs.{heard_stage, polls_at, polls_not, backs_writing, backs_awaiting, backs_not, breaks_at, breaks_not}
use Rattle.fwd_theorem_delivery.specs.Links.{DialTarget, ReturnsLink, on_link, all_on_link, close_of, close_count}
use Rattle.fwd_theorem_delivery.proofs.OwnEvents.{GivesNone}

abbrev pub IsOn : ℕ → LoopCall → Type 0
IsOn link (Push other bytes) = other ≡ link
IsOn link (Close other) = other ≡ link
IsOn link call = ⊥

abbrev pub AreOn : ℕ → List LoopEntry → Type 0
AreOn link [] = Unit {0}
AreOn link (e ∷ es) = IsOn link e.call × AreOn link es

-- the link, if there is one, is this one
abbrev pub StaysOn : ℕ → Option LinkId → Type 0
StaysOn link None = Unit {0}
StaysOn link (Some other) = other.0 ≡ link

-- how many of these calls are closes: one if the flush has no link any more, else none
abbrev pub closes_link : LoopCall → ℕ
closes_link (Close other) = 1
closes_link call = 0

abbrev pub all_closes : List LoopEntry → ℕ
all_closes [] = 0
all_closes (e ∷ es) = closes_link e.call + all_closes es

abbrev pub closes_in : Option LinkId → ℕ
closes_in None = 1
closes_in (Some link) = 0

-- For all answers, the program's calls are on this link. They may close it, as the last call. `n` closes
-- were made before.
abbrev pub CallsOnLink : ℕ → ℕ → LoopProgram Progress → Type 0
CallsOnLink link n (Return p) = StaysOn link (link_in p.stage) × (n ≡ closes_in (link_in p.stage))
CallsOnLink link n (Ask call go) = (n ≡ 0) × IsOn link call × ((answer : LoopAnswer call) → CallsOnLink link (n + closes_link call) (go answer))

pub speaks_way : (link n : ℕ) (program : LoopProgram Progress) → CallsOnLink link n program → (es : List LoopEntry) (q : Progress) → Execution program es (Return q)
    → AreOn link es × StaysOn link (link_in q.stage) × (n + all_closes es ≡ closes_in (link_in q.stage))
speaks_way link n (Return p) speaks [] q way =
    let same : p ≡ q = cc way in
    let both = subst (λ (x : Progress). StaysOn link (link_in x.stage) × (n ≡ closes_in (link_in x.stage))) same speaks in
    let count : n ≡ closes_in (link_in q.stage) = both.1 in
    (tt, both.0, omega (arith, count))
speaks_way link n (Return p) speaks (e ∷ es) q way = absurd way
speaks_way link n (Ask call go) speaks [] q way = absurd (cc way)
speaks_way link n (Ask call go) speaks (e ∷ es) q way =
    let rest = speaks_way link (n + closes_link call) (go way.0) (speaks.2 way.0) es q way.2 in
    let here : closes_link e.call ≡ closes_link call = ap (λ (x : LoopEntry). closes_link x.call) way.1 in
    let count : (n + closes_link call) + all_closes es ≡ closes_in (link_in q.stage) = rest.2 in
    ((subst (λ (x : LoopEntry). IsOn link x.call) (sym way.1) speaks.1, rest.0), rest.1, omega (arith, here, count))

-- no call comes after a close
abbrev pub CloseIsLast : List LoopEntry → Type 0
CloseIsLast [] = Unit {0}
CloseIsLast (e ∷ es) = ((closes_link e.call ≡ 0) ⊎ (es ≡ [])) × CloseIsLast es

open_at_call : (link n : ℕ) (program : LoopProgram Progress) → CallsOnLink link n program → (e : LoopEntry) (es : List LoopEntry) (q : Progress) → Execution program (e ∷ es) (Return q) → n ≡ 0
open_at_call link n (Return p) speaks e es q way = absurd way
open_at_call link n (Ask call go) speaks e es q way = speaks.0

pub closes_last : (link n : ℕ) (program : LoopProgram Progress) → CallsOnLink link n program → (es : List LoopEntry) (q : Progress) → Execution program es (Return q) → CloseIsLast es
closes_last link n (Return p) speaks [] q way = tt
closes_last link n (Return p) speaks (e ∷ es) q way = absurd way
closes_last link n (Ask call go) speaks [] q way = absurd (cc way)
closes_last link n (Ask call go) speaks (e ∷ []) q way = (inr refl, tt)
closes_last link n (Ask call go) speaks (e ∷ f ∷ es) q way =
    let none : n + closes_link call ≡ 0 = open_at_call link (n + closes_link call) (go way.0) (speaks.2 way.0) f es q way.2 in
    let here : closes_link e.call ≡ closes_link call = ap (λ (x : LoopEntry). closes_link x.call) way.1 in
    (inl (omega (arith, none, here)), closes_last link (n + closes_link call) (go way.0) (speaks.2 way.0) (f ∷ es) q way.2)

speaks_by : (link : LinkId) (p : Progress) (j : Judged) → CallsOnLink link.0 0 (continues_by link p j)
speaks_by link p More = (refl, refl)
speaks_by link p Right = (refl, refl, λ _. (tt, refl))
speaks_by link p Wrong = (refl, refl, λ _. (tt, refl))
speaks_by link p Fatal = (refl, refl, λ _. (tt, refl))

speaks_confirms : (d : Delivery) (link : LinkId) (p : Progress) → CallsOnLink link.0 0 (confirms_payload d link p)
speaks_confirms d link p = by d.wanted refl
  where
    by : (b : Bool) → d.wanted ≡ b → CallsOnLink link.0 0 (confirms_payload d link p)
    by true wanted = subst (λ (x : LoopProgram Progress). CallsOnLink link.0 0 x) (sym (replies d link p (d.judged p.reply) wanted refl)) (speaks_by link p (d.judged p.reply))
    by false wanted = subst (λ (x : LoopProgram Progress). CallsOnLink link.0 0 x) (sym (silent d link p wanted)) (refl, refl, λ _. (tt, refl))

module _ (d : Delivery) (link : LinkId) where
  abbrev Pushing : ℕ → Type 0
  Pushing left = (p : Progress) → CallsOnLink link.0 0 (pushes left d link p)

  speaks_on : (left : ℕ) → Pushing left → (p : Progress) (rest : List ℕ) (answer : PushAnswer) → CallsOnLink link.0 0 (pushed_on (pushes left d link) link rest p answer)
  speaks_on left go p rest (Took n) = by (n == 0)
    where
      by : (b : Bool) → CallsOnLink link.0 0 (if b then ends link Retry p else pushes left d link (record p { taken = p.taken + min n (length rest) }))
      by true = (refl, refl, λ _. (tt, refl))
      by false = go _
  speaks_on left go p rest Again = (refl, refl)
  speaks_on left go p rest Broke = (refl, refl, λ _. (tt, refl))

  speaks_pushes : (left : ℕ) → Pushing left
  speaks_pushes zero p = speaks_confirms d link p
  speaks_pushes (suc left) p = by (nat_lt p.taken (length d.payload)) (speaks_pushes left)
    where
      by : (b : Bool) → Pushing left
          → CallsOnLink link.0 0 (if b then Ask (Push link.0 (drop p.taken d.payload)) (pushed_on (pushes left d link) link (drop p.taken d.payload) p) else confirms_payload d link p)
      by true go = (refl, refl, λ answer. speaks_on left go p (drop p.taken d.payload) answer)
      by false go = speaks_confirms d link p

  pub speaks_writes : (p : Progress) → CallsOnLink link.0 0 (writes d link p)
  unfolding writes
  speaks_writes p = speaks_pushes (length d.payload) p

-- the calls of a flush that is in progress over a link
module _ (d : Delivery) (p : Progress) (link : LinkId) where
  still : link_in p.stage ≡ Some link → StaysOn link.0 (link_in p.stage) × (0 ≡ closes_in (link_in p.stage))
  still has = rw has (refl, refl)

  speaks_room : (s : Stage) → p.stage ≡ s → link_in s ≡ Some link → CallsOnLink link.0 0 (polls d p)
  speaks_room Opening is has = absurd (cc has)
  speaks_room (Writing other) is has =
      let same : other ≡ link = cc has in
      subst (λ (x : LoopProgram Progress). CallsOnLink link.0 0 x) (sym (polls_at d p link (is ∙ ap Writing same))) (speaks_writes d link p)
  speaks_room (AwaitingAck other) is has =
      subst (λ (x : LoopProgram Progress). CallsOnLink link.0 0 x) (sym (polls_not d p (λ x so. let both : AwaitingAck other ≡ Writing x = sym is ∙ so in cc both))) (still (ap link_in is ∙ has))
  speaks_room (Ended answer) is has = absurd (cc has)

  speaks_back : (s : Stage) (bytes : List ℕ) → p.stage ≡ s → link_in s ≡ Some link → CallsOnLink link.0 0 (backs d bytes p)
  speaks_back Opening bytes is has = absurd (cc has)
  speaks_back (Writing other) bytes is has =
      subst (λ (x : LoopProgram Progress). CallsOnLink link.0 0 x) (sym (backs_writing d p bytes other is)) (rw (heard_stage d bytes p) (still (ap link_in is ∙ has)))
  speaks_back (AwaitingAck other) bytes is has =
      let same : other ≡ link = cc has in
      subst (λ (x : LoopProgram Progress). CallsOnLink link.0 0 x) (sym (backs_awaiting d p bytes link (is ∙ ap AwaitingAck same))) (speaks_confirms d link (with_reply_bytes d bytes p))
  speaks_back (Ended answer) bytes is has = absurd (cc has)

  pub speaks_goes : (turn : Occurrence) → link_in p.stage ≡ Some link → CallsOnLink link.0 0 (program_at d turn p)
  speaks_goes Room has = speaks_room p.stage refl has
  speaks_goes (Back bytes) has = speaks_back p.stage bytes refl has
  speaks_goes Broken has = subst (λ (x : LoopProgram Progress). CallsOnLink link.0 0 x) (sym (breaks_at p link has)) (refl, refl, λ _. (tt, refl))

-- one that has no link any more makes no calls
pub rests : (d : Delivery) (p : Progress) (turn : Occurrence) (answer : Answer) → p.stage ≡ Ended answer → program_at d turn p ≡ Return p
rests d p Room answer is = polls_not d p (λ other so. let both : Ended answer ≡ Writing other = sym is ∙ so in cc both)
rests d p (Back bytes) answer is = backs_not d p bytes (λ other so. let both : Ended answer ≡ Writing other = sym is ∙ so in cc both) (λ other so. let both : Ended answer ≡ AwaitingAck other = sym is ∙ so in cc both)
rests d p Broken answer is = breaks_not p (ap link_in is)

-- such calls, seen link by link
is_given_none : (link : ℕ) (to : DialTarget) (other : ℕ) (call : LoopCall) (answer : LoopAnswer call) → IsOn link call → ReturnsLink to other call answer → ⊥
is_given_none link to other (Dial o tag) answer on gives = on
is_given_none link to other (Push o bytes) answer on gives = gives
is_given_none link to other (Close o) answer on gives = gives
is_given_none link to other (Start ends) answer on gives = on
is_given_none link to other (Wait until paused) answer on gives = on
is_given_none link to other (Reply conn bytes) answer on gives = on
is_given_none link to other (DropConn conn) answer on gives = on
is_given_none link to other Word answer on gives = on

pub on_gives_none : (link : ℕ) (es : List LoopEntry) → AreOn link es → GivesNone es
on_gives_none link [] on to other given = given
on_gives_none link (e ∷ es) on to other (inl here) = is_given_none link to other e.call e.answer on.0 here
on_gives_none link (e ∷ es) on to other (inr there) = on_gives_none link es on.1 to other there

one_here : (link : ℕ) (call : LoopCall) (answer : LoopAnswer call) → IsOn link call → on_link link call answer ≡ event_of_call call answer
one_here link (Push other bytes) answer on = rw (eq-eqb other link on) refl
one_here link (Close other) answer on = refl
one_here link (Dial o tag) answer on = absurd on
one_here link (Start ends) answer on = absurd on
one_here link (Wait until paused) answer on = absurd on
one_here link (Reply conn bytes) answer on = absurd on
one_here link (DropConn conn) answer on = absurd on
one_here link Word answer on = absurd on

pub on_here : (link : ℕ) (es : List LoopEntry) → AreOn link es → all_on_link link es ≡ events_of es
on_here link [] on = refl
on_here link (e ∷ es) on = rw (one_here link e.call e.answer on.0, on_here link es on.1) refl

one_elsewhere : (link other : ℕ) (call : LoopCall) (answer : LoopAnswer call) → IsOn link call → link ≢ other → on_link other call answer ≡ []
one_elsewhere link other (Push o bytes) answer on apart = rw (ne_eqb o other (λ e. apart (sym on ∙ e))) refl
one_elsewhere link other (Close o) answer on apart = refl
one_elsewhere link other (Dial o tag) answer on apart = absurd on
one_elsewhere link other (Start ends) answer on apart = absurd on
one_elsewhere link other (Wait until paused) answer on apart = absurd on
one_elsewhere link other (Reply conn bytes) answer on apart = absurd on
one_elsewhere link other (DropConn conn) answer on apart = absurd on
one_elsewhere link other Word answer on apart = absurd on

pub on_elsewhere : (link other : ℕ) (es : List LoopEntry) → AreOn link es → link ≢ other → all_on_link other es ≡ []
on_elsewhere link other [] on apart = refl
on_elsewhere link other (e ∷ es) on apart = rw (one_elsewhere link other e.call e.answer on.0 apart, on_elsewhere link other es on.1 apart) refl

same_greatest : (link greatest : ℕ) (call : LoopCall) (answer : LoopAnswer call) → IsOn link call → greatest_by greatest call answer ≡ greatest
same_greatest link greatest (Push o bytes) answer on = refl
same_greatest link greatest (Close o) answer on = refl
same_greatest link greatest (Dial o tag) answer on = absurd on
same_greatest link greatest (Start ends) answer on = absurd on
same_greatest link greatest (Wait until paused) answer on = absurd on
same_greatest link greatest (Reply conn bytes) answer on = absurd on
same_greatest link greatest (DropConn conn) answer on = absurd on
same_greatest link greatest Word answer on = absurd on

pub on_greatest : (link greatest : ℕ) (es : List LoopEntry) → AreOn link es → greatest_after greatest es ≡ greatest
on_greatest link greatest [] on = refl
on_greatest link greatest (e ∷ es) on = rw (same_greatest link greatest e.call e.answer on.0) (on_greatest link greatest es on.1)

shuts_here : (link : ℕ) (call : LoopCall) → IsOn link call → close_of link call ≡ closes_link call
shuts_here link (Close o) on = rw (eq-eqb o link on) refl
shuts_here link (Push o bytes) on = refl
shuts_here link (Dial o tag) on = absurd on
shuts_here link (Start ends) on = absurd on
shuts_here link (Wait until paused) on = absurd on
shuts_here link (Reply conn bytes) on = absurd on
shuts_here link (DropConn conn) on = absurd on
shuts_here link Word on = absurd on

pub closings_here : (link : ℕ) (es : List LoopEntry) → AreOn link es → close_count link es ≡ all_closes es
closings_here link [] on = refl
closings_here link (e ∷ es) on = rw (shuts_here link e.call on.0, closings_here link es on.1) refl

shuts_elsewhere : (link other : ℕ) (call : LoopCall) → IsOn link call → link ≢ other → close_of other call ≡ 0
shuts_elsewhere link other (Close o) on apart = rw (ne_eqb o other (λ e. apart (sym on ∙ e))) refl
shuts_elsewhere link other (Push o bytes) on apart = refl
shuts_elsewhere link other (Dial o tag) on apart = absurd on
shuts_elsewhere link other (Start ends) on apart = absurd on
shuts_elsewhere link other (Wait until paused) on apart = absurd on
shuts_elsewhere link other (Reply conn bytes) on apart = absurd on
shuts_elsewhere link other (DropConn conn) on apart = absurd on
shuts_elsewhere link other Word on apart = absurd on

pub closings_elsewhere : (link other : ℕ) (es : List LoopEntry) → AreOn link es → link ≢ other → close_count other es ≡ 0
closings_elsewhere link other [] on apart = refl
closings_elsewhere link other (e ∷ es) on apart = rw (shuts_elsewhere link other e.call on.0 apart, closings_elsewhere link other es on.1 apart) refl
