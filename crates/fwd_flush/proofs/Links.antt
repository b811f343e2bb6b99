-- A flush in flight has the link that it dialled; an ended one has closed it.
use Rattle.std.proofs.Common.{◌≡◌, ℕ, zero, suc, ◌+◌, min, ◌==◌, Bool, true, false, nat_lt, if◌then◌else◌, List, [], ◌∷◌, ◌++◌, length, drop, append_assoc, Option, Some, None, refl, sym, ◌∙◌, ap, subst}
use Rattle.std.proofs.lemmas.List.{append-nil}
use Rattle.fwd_outside.specs.Program.{Return, Ask, Execution, entry}
use Rattle.fwd_base.specs.declared.ids.LinkId.{LinkId}
use Rattle.fwd_outside.specs.Loop.{LoopEntry, LoopProgram, Dial, Push, PushAnswer, Took, Again, Broke}
use Rattle.fwd_table.specs.declared.outcome.Answer.{Answer}
use Rattle.fwd_table.specs.declared.outcome.Answer.TheVariants.{Good, Retry, Bad}
use Rattle.fwd_flush.specs.declared.judgement.Judged.{Judged}
use Rattle.fwd_flush.specs.declared.judgement.Judged.TheVariants.{More, Right, Wrong, Fatal}
use Rattle.fwd_flush.specs.declared.stage.Stage.{Stage}
use Rattle.fwd_flush.specs.declared.stage.Stage.TheVariants.{Opening, Writing, AwaitingAck, Ended}
use Rattle.fwd_flush.specs.FlushProgram.{Progress, Delivery, not_started, link_in, ends, continues_by, confirms_payload, pushed_on, pushes, writes, dialed_on, starts, polls, with_reply_bytes, backs, breaks}
use Rattle.fwd_flush.specs.Outcome.{Occurrence, Room, Back, Broken, program_at, opened_by, opened, closed_by, closed, HasLink}
use Rattle.fwd_flush.proofs.Steps.{silent, replies}
use Rattle.fwd_flush.proofs.Programs.{heard_stage, polls_at, polls_not, backs_writing, backs_awaiting, backs_not, breaks_at, breaks_not}

opened-append : (xs ys : List LoopEntry) → opened (xs ++ ys) ≡ opened xs ++ opened ys
opened-append [] ys = refl
opened-append (e ∷ xs) ys = rw (opened-append xs ys) (sym (append_assoc (opened_by e.call e.answer) (opened xs) (opened ys)))

closed-append : (xs ys : List LoopEntry) → closed (xs ++ ys) ≡ closed xs ++ closed ys
closed-append [] ys = refl
closed-append (e ∷ xs) ys = rw (closed-append xs ys) (sym (append_assoc (closed_by e.call) (closed xs) (closed ys)))

-- after these calls the link is still open, or was closed
abbrev pub Leaves : LinkId → List LoopEntry → Stage → Type 0
Leaves link es Opening = ⊥
Leaves link es (Writing other) = (other ≡ link) × (opened es ≡ []) × (closed es ≡ [])
Leaves link es (AwaitingAck other) = (other ≡ link) × (opened es ≡ []) × (closed es ≡ [])
Leaves link es (Ended answer) = (opened es ≡ []) × (closed es ≡ link.0 ∷ [])

-- a call that neither opens nor closes a link
skips : (link : LinkId) (e : LoopEntry) (es : List LoopEntry) (s : Stage) → opened_by e.call e.answer ≡ [] → closed_by e.call ≡ [] → Leaves link es s → Leaves link (e ∷ es) s
skips link e es Opening none kept leaves = leaves
skips link e es (Writing other) none kept leaves = (leaves.0, rw none leaves.1, rw kept leaves.2)
skips link e es (AwaitingAck other) none kept leaves = (leaves.0, rw none leaves.1, rw kept leaves.2)
skips link e es (Ended answer) none kept leaves = (rw none leaves.0, rw kept leaves.1)

module _ (link : LinkId) where
  ends_leaves : (answer : Answer) (p : Progress) (es : List LoopEntry) (q : Progress) → Execution (ends link answer p) es (Return q) → Leaves link es q.stage
  ends_leaves answer p [] q way = absurd (cc way)
  ends_leaves answer p (e ∷ []) q way =
      let same : record p { stage = Ended answer } ≡ q = cc (way.2) in
      let none : opened (e ∷ []) ≡ [] = subst (λ (x : LoopEntry). opened (x ∷ []) ≡ []) (sym way.1) refl in
      let shut : closed (e ∷ []) ≡ link.0 ∷ [] = subst (λ (x : LoopEntry). closed (x ∷ []) ≡ link.0 ∷ []) (sym way.1) refl in
      subst (λ (x : Progress). Leaves link (e ∷ []) x.stage) same (none, shut)
  ends_leaves answer p (e ∷ x ∷ es) q way = absurd (way.2)

  writing_leaves : (p : Progress) (es : List LoopEntry) (q : Progress) → p.stage ≡ Writing link → Execution (Return p) es (Return q) → Leaves link es q.stage
  writing_leaves p (e ∷ es) q is way = absurd way
  writing_leaves p [] q is way =
      let same : p ≡ q = cc way in
      subst (λ (s : Stage). Leaves link [] s) (sym is ∙ ap (λ (x : Progress). x.stage) same) (refl, refl, refl)

  awaiting_leaves : (p : Progress) (es : List LoopEntry) (q : Progress) → p.stage ≡ AwaitingAck link → Execution (Return p) es (Return q) → Leaves link es q.stage
  awaiting_leaves p (e ∷ es) q is way = absurd way
  awaiting_leaves p [] q is way =
      let same : p ≡ q = cc way in
      subst (λ (s : Stage). Leaves link [] s) (sym is ∙ ap (λ (x : Progress). x.stage) same) (refl, refl, refl)

  by_leaves : (p : Progress) (j : Judged) (es : List LoopEntry) (q : Progress) → Execution (continues_by link p j) es (Return q) → Leaves link es q.stage
  by_leaves p More es q way = awaiting_leaves (record p { stage = AwaitingAck link }) es q refl way
  by_leaves p Right es q way = ends_leaves Good p es q way
  by_leaves p Wrong es q way = ends_leaves Retry p es q way
  by_leaves p Fatal es q way = ends_leaves Bad p es q way

  module _ (d : Delivery) where
    confirms_leaves : (p : Progress) (es : List LoopEntry) (q : Progress) → Execution (confirms_payload d link p) es (Return q) → Leaves link es q.stage
    confirms_leaves p es q way = by d.wanted refl
      where
        by : (b : Bool) → d.wanted ≡ b → Leaves link es q.stage
        by true wanted = by_leaves p (d.judged p.reply) es q (subst (λ (x : LoopProgram Progress). Execution x es (Return q)) (replies d link p (d.judged p.reply) wanted refl) way)
        by false wanted = ends_leaves Good p es q (subst (λ (x : LoopProgram Progress). Execution x es (Return q)) (silent d link p wanted) way)

    abbrev Pushing : ℕ → Type 0
    Pushing left = (p : Progress) (es : List LoopEntry) (q : Progress) → Execution (pushes left d link p) es (Return q) → Leaves link es q.stage

    push_leaves : (left : ℕ) → Pushing left → (p : Progress) (answer : PushAnswer) (es : List LoopEntry) (q : Progress)
        → Execution (pushed_on (pushes left d link) link (drop p.taken d.payload) p answer) es (Return q) → Leaves link es q.stage
    push_leaves left go p (Took n) es q way = by (n == 0) way
      where
        by : (b : Bool) → Execution (if b then ends link Retry p else pushes left d link (record p { taken = p.taken + min n (length (drop p.taken d.payload)) })) es (Return q) → Leaves link es q.stage
        by true w = ends_leaves Retry p es q w
        by false w = go _ es q w
    push_leaves left go p Again es q way = writing_leaves (record p { stage = Writing link }) es q refl way
    push_leaves left go p Broke es q way = ends_leaves Retry p es q way

    asked_leaves : (left : ℕ) → Pushing left → (p : Progress) (es : List LoopEntry) (q : Progress)
        → Execution (Ask (Push link.0 (drop p.taken d.payload)) (pushed_on (pushes left d link) link (drop p.taken d.payload) p)) es (Return q) → Leaves link es q.stage
    asked_leaves left go p [] q way = absurd (cc way)
    asked_leaves left go p (e ∷ es) q way =
        skips link e es q.stage (subst (λ (x : LoopEntry). opened_by x.call x.answer ≡ []) (sym way.1) refl) (subst (λ (x : LoopEntry). closed_by x.call ≡ []) (sym way.1) refl)
        (push_leaves left go p way.0 es q way.2)

    pushes_leave : (left : ℕ) → Pushing left
    pushes_leave zero p es q way = confirms_leaves p es q way
    pushes_leave (suc left) p es q way = by (nat_lt p.taken (length d.payload)) (pushes_leave left) way
      where
        by : (b : Bool) → Pushing left → Execution (if b then Ask (Push link.0 (drop p.taken d.payload)) (pushed_on (pushes left d link) link (drop p.taken d.payload) p) else confirms_payload d link p) es (Return q)
            → Leaves link es q.stage
        by true go w = asked_leaves left go p es q w
        by false go w = confirms_leaves p es q w

    writes_leave : (p : Progress) (es : List LoopEntry) (q : Progress) → Execution (writes d link p) es (Return q) → Leaves link es q.stage
    unfolding writes
    writes_leave p es q way = pushes_leave (length d.payload) p es q way

-- calls after others
joined : (link : LinkId) (calls es : List LoopEntry) (s : Stage) → opened calls ≡ link.0 ∷ [] → closed calls ≡ [] → Leaves link es s → HasLink (calls ++ es) s
joined link calls es Opening had kept leaves = leaves
joined link calls es (Writing other) had kept leaves = rw (opened-append calls es, closed-append calls es, had, kept, leaves.0, leaves.1, leaves.2) (refl, refl)
joined link calls es (AwaitingAck other) had kept leaves = rw (opened-append calls es, closed-append calls es, had, kept, leaves.0, leaves.1, leaves.2) (refl, refl)
joined link calls es (Ended answer) had kept leaves = rw (opened-append calls es, closed-append calls es, had, kept, leaves.0, leaves.1) refl

dial_has : (d : Delivery) (e : LoopEntry) (es : List LoopEntry) (q : Progress) (answer : Option ℕ) → opened (e ∷ []) ≡ opened (entry (Dial 0 []) answer ∷ []) → closed (e ∷ []) ≡ []
    → Execution (dialed_on d not_started answer) es (Return q) → HasLink (e ∷ es) q.stage
dial_has d e (x ∷ es) q None had kept way = absurd way
dial_has d e [] q None had kept way =
    let same : record not_started { stage = Ended Retry } ≡ q = cc way in
    subst (λ (x : Progress). HasLink (e ∷ []) x.stage) same (kept ∙ sym had)
dial_has d e es q (Some number) had kept way =
    let link : LinkId = record { 0 = number } in
    joined link (e ∷ []) es q.stage had kept (writes_leave link d (record not_started { stage = Writing link }) es q way)

pub starts_has : (d : Delivery) (output : ℕ) (tag : List ℕ) (es : List LoopEntry) (p : Progress) → Execution (starts d output tag not_started) es (Return p) → HasLink es p.stage
unfolding starts
starts_has d output tag [] p way = absurd (cc way)
starts_has d output tag (e ∷ es) p way =
    dial_has d e es p way.0 (subst (λ (x : LoopEntry). opened (x ∷ []) ≡ opened (entry (Dial 0 []) way.0 ∷ [])) (sym way.1) (same way.0)) (subst (λ (x : LoopEntry). closed (x ∷ []) ≡ []) (sym way.1) refl) way.2
  where
    same : (answer : Option ℕ) → opened (entry (Dial output tag) answer ∷ []) ≡ opened (entry (Dial 0 []) answer ∷ [])
    same None = refl
    same (Some number) = refl

module _ (d : Delivery) (calls : List LoopEntry) (p : Progress) (has : HasLink calls p.stage) where
  abbrev Led : LoopProgram Progress → List LoopEntry → Progress → Type 0
  Led program es q = Execution program es (Return q)

  has_at : (s : Stage) → p.stage ≡ s → HasLink calls s
  has_at s is = subst (λ (x : Stage). HasLink calls x) is has

  has_still : (es : List LoopEntry) (q : Progress) → Led (Return p) es q → HasLink (calls ++ es) q.stage
  has_still (e ∷ es) q over = absurd over
  has_still [] q over =
      let same : p ≡ q = cc over in
      rw append-nil (subst (λ (x : Progress). HasLink calls x.stage) same has)

  room_has : (s : Stage) (es : List LoopEntry) (q : Progress) → p.stage ≡ s → Led (polls d p) es q → HasLink (calls ++ es) q.stage
  room_has Opening es q is way = absurd (has_at Opening is)
  room_has (Writing link) es q is way =
      let at = has_at (Writing link) is in
      joined link calls es q.stage at.0 at.1 (writes_leave link d p es q (subst (λ (x : LoopProgram Progress). Led x es q) (polls_at d p link is) way))
  room_has (AwaitingAck link) es q is way =
      has_still es q (subst (λ (x : LoopProgram Progress). Led x es q) (polls_not d p (λ other so. let both : AwaitingAck link ≡ Writing other = sym is ∙ so in cc both)) way)
  room_has (Ended answer) es q is way =
      has_still es q (subst (λ (x : LoopProgram Progress). Led x es q) (polls_not d p (λ other so. let both : Ended answer ≡ Writing other = sym is ∙ so in cc both)) way)

  back_has : (s : Stage) (bytes : List ℕ) (es : List LoopEntry) (q : Progress) → p.stage ≡ s → Led (backs d bytes p) es q → HasLink (calls ++ es) q.stage
  back_has Opening bytes es q is way = absurd (has_at Opening is)
  back_has (Writing link) bytes es q is way =
      let at = has_at (Writing link) is in
      joined link calls es q.stage at.0 at.1
      (writing_leaves link (with_reply_bytes d bytes p) es q (heard_stage d bytes p ∙ is) (subst (λ (x : LoopProgram Progress). Led x es q) (backs_writing d p bytes link is) way))
  back_has (AwaitingAck link) bytes es q is way =
      let at = has_at (AwaitingAck link) is in
      joined link calls es q.stage at.0 at.1
      (confirms_leaves link d (with_reply_bytes d bytes p) es q (subst (λ (x : LoopProgram Progress). Led x es q) (backs_awaiting d p bytes link is) way))
  back_has (Ended answer) bytes es q is way =
      has_still es q
      (subst (λ (x : LoopProgram Progress). Led x es q)
      (backs_not d p bytes (λ other so. let both : Ended answer ≡ Writing other = sym is ∙ so in cc both) (λ other so. let both : Ended answer ≡ AwaitingAck other = sym is ∙ so in cc both)) way)

  broken_has : (s : Stage) (es : List LoopEntry) (q : Progress) → p.stage ≡ s → Led (breaks p) es q → HasLink (calls ++ es) q.stage
  broken_has Opening es q is way = absurd (has_at Opening is)
  broken_has (Writing link) es q is way =
      let at = has_at (Writing link) is in
      joined link calls es q.stage at.0 at.1 (ends_leaves link Retry p es q (subst (λ (x : LoopProgram Progress). Led x es q) (breaks_at p link (ap link_in is)) way))
  broken_has (AwaitingAck link) es q is way =
      let at = has_at (AwaitingAck link) is in
      joined link calls es q.stage at.0 at.1 (ends_leaves link Retry p es q (subst (λ (x : LoopProgram Progress). Led x es q) (breaks_at p link (ap link_in is)) way))
  broken_has (Ended answer) es q is way = has_still es q (subst (λ (x : LoopProgram Progress). Led x es q) (breaks_not p (ap link_in is)) way)

pub goes_has : (d : Delivery) (turn : Occurrence) (calls es : List LoopEntry) (p q : Progress) → HasLink calls p.stage → Execution (program_at d turn p) es (Return q) → HasLink (calls ++ es) q.stage
goes_has d Room calls es p q has way = room_has d calls p has p.stage es q refl way
goes_has d (Back bytes) calls es p q has way = back_has d calls p has p.stage bytes es q refl way
goes_has d Broken calls es p q has way = broken_has d calls p has p.stage es q refl way
