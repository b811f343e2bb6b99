-- Calls step through the programs of a flush.
use Rattle.std.proofs.Common.{◌≡◌, ℕ, Bool, true, false, List, [], ◌∷◌, ◌++◌, Result, Ok, Err, IsErr, refl, sym, ◌∙◌, ap, subst}
use Rattle.fwd_outside.specs.Program.{entry, Return, Ask, Execution}
use Rattle.fwd_outside.specs.Log.{LogGrew, Leads, Completes, IsBegun}
use Rattle.fwd_outside.proofs.LogGrowth.{grew_trans}
use Rattle.fwd_outside.proofs.Executions.{way_trans, leads_trans, call_unlogged, no_call_made}
use Rattle.fwd_base.specs.declared.ids.LinkId.{LinkId}
use Rattle.fwd_base.specs.declared.memory.Memory.{Memory}
use Rattle.fwd_outside.specs.Loop.{LoopCall, LoopAnswer, LoopEntry, LoopLog, LoopProgram}
use Rattle.fwd_table.specs.declared.outcome.Answer.{Answer}
use Rattle.fwd_table.specs.declared.outcome.Answer.TheVariants.{Good}
use Rattle.fwd_flush.specs.declared.poll.Poll.{Poll}
use Rattle.fwd_flush.specs.declared.judgement.Judged.{Judged}
use Rattle.fwd_flush.specs.declared.judgement.Judged.TheVariants.{More, Right, Wrong, Fatal}
use Rattle.fwd_flush.specs.declared.stage.Stage.TheVariants.{Ended}
use Rattle.fwd_flush.specs.FlushProgram.{Progress, Flight, Delivery, ends, continues_by, confirms_payload}
use Rattle.fwd_flush.specs.Calls.{progress_after, reached, Advances, Performs, PerformsOrStays}

pub reached-append : (p : Progress) (xs ys : List LoopEntry) → reached p (xs ++ ys) ≡ reached (reached p xs) ys
reached-append p [] ys = refl
reached-append p (e ∷ xs) ys = reached-append (progress_after p e.call e.answer) xs ys

module _ {a b : LoopLog} where
  -- no call was logged
  pub advanced_by_none : (q : LoopProgram Progress) (p : Progress) → LogGrew a b [] → Advances a b q q p p
  advanced_by_none q p grew = record { entries = []; grew = grew; way = refl; progress = refl }

  -- one call was made, with this answer
  pub advanced_by_call : (p : Progress) (call : LoopCall) (answer : LoopAnswer call) (go : LoopAnswer call → LoopProgram Progress)
      → LogGrew a b (entry call answer ∷ []) → Advances a b (Ask call go) (go answer) p (progress_after p call answer)
  advanced_by_call p call answer go grew = record { entries = entry call answer ∷ []; grew = grew; way = (answer, refl, refl); progress = refl }

  pub leads : {q r : LoopProgram Progress} {s t : Progress} → Advances a b q r s t → Leads a b q r
  leads comes = record { entries = comes.entries; grew = comes.grew; way = comes.way }

pub moves_on : {a b c : LoopLog} {q r s : LoopProgram Progress} (t u v : Progress) → Advances a b q r t u → Advances b c r s u v → Advances a c q s t v
moves_on {a = a} {b = b} {c = c} {q = q} {r = r} {s = s} t u v f g = record {
  entries = f.entries ++ g.entries;
  grew = grew_trans a b c f.entries g.entries f.grew g.grew;
  way = way_trans q r s f.entries g.entries f.way g.way;
  progress = g.progress ∙ subst (λ (x : Progress). reached x g.entries ≡ reached t (f.entries ++ g.entries)) (sym f.progress) (sym (reached-append t f.entries g.entries));
}

-- the exits at out of memory
pub stopped : {a b : LoopLog} (q left : LoopProgram Progress) (s t : Progress) (r : Result Poll Memory) → IsErr r → Advances a b q left s t → Performs a b q s t r
stopped q left s t (Err x) is comes = (left, comes)
stopped q left s t (Ok x) is comes = absurd (cc is)

pub stayed : (a b : LoopLog) (q : LoopProgram Progress) (s : Progress) (r : Result Poll Memory) → IsErr r → LogGrew a b [] → PerformsOrStays a b q s s r
stayed a b q s (Err x) is grew = ((q, call_unlogged q grew), refl)
stayed a b q s (Ok x) is grew = absurd (cc is)

-- nothing is called
pub returned : {a : LoopLog} (p : Progress) → Completes a a (Return p) p
returned {a = a} p = no_call_made a (Return p)

-- the steps to a program, and then its own
pub then_goes : {a b : LoopLog} {q r : LoopProgram Progress} {before now : Progress} (c : LoopLog) (after : Progress) (x : Result Poll Memory)
    → Advances a b q r before now → Performs b c r now after x → Performs a c q before after x
then_goes c after (Ok poll) first second = (leads_trans (leads first) second.0, second.1)
then_goes {before = before} {now = now} c after (Err e) first second = (second.0, moves_on before now after first second.1)

-- after the link took the whole payload
module _ (d : Delivery) (link : LinkId) (p : Progress) where
  pub silent : d.wanted ≡ false → confirms_payload d link p ≡ ends link Good p
  unfolding confirms_payload
  silent is = rw is refl

  pub replies : (j : Judged) → d.wanted ≡ true → d.judged p.reply ≡ j → confirms_payload d link p ≡ continues_by link p j
  unfolding confirms_payload
  replies j is by = rw (is, by) refl

  -- none of these calls counts
  over : (q : Progress) (es : List LoopEntry) (left : LoopProgram Progress) → Execution (Return q) es left → es ≡ []
  over q [] left way = refl
  over q (e ∷ es) left way = absurd way

  ends_uncounted : (answer : Answer) (q : Progress) (es : List LoopEntry) (left : LoopProgram Progress) → Execution (ends link answer p) es left → reached q es ≡ q
  ends_uncounted answer q [] left way = refl
  ends_uncounted answer q (e ∷ es) left way =
      rw (over (record p { stage = Ended answer }) es left way.2) (subst (λ (x : LoopEntry). progress_after q x.call x.answer ≡ q) (sym way.1) refl)

  by_uncounted : (j : Judged) (q : Progress) (es : List LoopEntry) (left : LoopProgram Progress) → Execution (continues_by link p j) es left → reached q es ≡ q
  by_uncounted More q es left way = rw (over _ es left way) refl
  by_uncounted Right q es left way = ends_uncounted _ q es left way
  by_uncounted Wrong q es left way = ends_uncounted _ q es left way
  by_uncounted Fatal q es left way = ends_uncounted _ q es left way

  confirms_uncounted : (wanted : Bool) (q : Progress) (es : List LoopEntry) (left : LoopProgram Progress)
      → d.wanted ≡ wanted → Execution (confirms_payload d link p) es left → reached q es ≡ q
  confirms_uncounted true q es left is way =
      by_uncounted (d.judged p.reply) q es left (subst (λ (x : LoopProgram Progress). Execution x es left) (replies (d.judged p.reply) is refl) way)
  confirms_uncounted false q es left is way =
      ends_uncounted Good q es left (subst (λ (x : LoopProgram Progress). Execution x es left) (silent is) way)

  pub begun : {a b : LoopLog} → IsBegun a b (confirms_payload d link p) → (left : LoopProgram Progress) × Advances a b (confirms_payload d link p) left p p
  begun began =
      (began.0, record { entries = began.1.entries; grew = began.1.grew; way = began.1.way; progress = sym (confirms_uncounted d.wanted p began.1.entries began.0 refl began.1.way) })

  -- the steps to `confirms_payload`, and then its own
  pub then_confirms : {a b : LoopLog} (c : LoopLog) (q : LoopProgram Progress) (before after : Progress) (r : Result Poll Memory)
      → Advances a b q (confirms_payload d link p) before p → PerformsOrStays b c (confirms_payload d link p) p after r → Performs a c q before after r
  then_confirms c q before after (Ok poll) first second = (leads_trans (leads first) second.0, second.1)
  then_confirms c q before after (Err e) first second =
      let rest = begun second.0 in
      (rest.0, moves_on before p after first (rw second.1 rest.1))

  pub then_ends : {a b : LoopLog} (c : LoopLog) (answer : Answer) (q : LoopProgram Progress) (before after : Progress) (r : Result Poll Memory)
      → Advances a b q (ends link answer p) before p → PerformsOrStays b c (ends link answer p) p after r → Performs a c q before after r
  then_ends c answer q before after (Ok poll) first second = (leads_trans (leads first) second.0, second.1)
  then_ends c answer q before after (Err e) first second =
      let began = second.0 in (
        began.0,
        moves_on before p after first
            (rw second.1 (record { entries = began.1.entries; grew = began.1.grew; way = began.1.way; progress = sym (ends_uncounted answer p began.1.entries began.0 began.1.way) })),
      )

-- the meaning of a flush's reader, by the fields
module _ {P : Type 0} (inside f : Flight P) (is : inside ≡ f) where
  pub wanted_by : (wanted : P → Bool) (said b : Bool) → said ≡ wanted inside.reader → said ≡ b → wanted f.reader ≡ b
  wanted_by wanted said b by so = ap (λ (x : Flight P). wanted x.reader) (sym is) ∙ sym by ∙ so

  pub judged_by : (judged : P → List ℕ → Judged) (said j : Judged) (reply : List ℕ) → said ≡ judged inside.reader reply → reply ≡ inside.progress.reply → said ≡ j → judged f.reader f.progress.reply ≡ j
  judged_by judged said j reply by all so =
      ap (λ (x : Flight P). judged x.reader x.progress.reply) (sym is) ∙ ap (λ (x : List ℕ). judged inside.reader x) (sym all) ∙ sym by ∙ so
