-- In a run each start was answered, and the end came last.
use Rattle.std.proofs.Common.{◌≡◌, ◌⊎◌, inl, inr, ℕ, zero, suc, Bool, true, false, List, [], ◌∷◌, ◌++◌, Option, Some, None, refl, sym, ap, ◌∙◌, subst, append-nil, append_assoc}
use Rattle.std.specs.Prelude.{if◌then◌else◌}
use Rattle.fwd_base.specs.Limits.{longest_wait}
use Rattle.fwd_outside.specs.Program.{entry, Return, bind, Execution}
use Rattle.fwd_outside.specs.Loop.{LoopCall, LoopAnswer, LoopEntry, Start, Wait}
use Rattle.fwd_outside.specs.declared.ends.Ends.{Ends}
use Rattle.fwd_outside.specs.declared.happening.Happening.{Happening}
use Rattle.fwd_outside.specs.declared.happening.Happening.TheVariants as happening
use Rattle.fwd_settings.specs.Endpoints.{ends_of}
use Rattle.fwd_settings.specs.declared.settings_types.AllSettings.{AllSettings}
use Rattle.fwd_model.specs.Fact.{History, Happened}
use Rattle.fwd_model.specs.Trace.{Call, Answer, Action, TraceEntry, OnLoop, OnDisk, OnFiles, OnKeeper, Note, loop_part}
use Rattle.fwd_model.specs.Settings.{saturating_plus}
use Rattle.fwd_model.specs.Clock.{clock, stopped}
use Rattle.fwd_model.specs.Limits.{paused}
use Rattle.fwd_model.specs.StepActions.{step}
use Rattle.fwd_model.specs.KeptOffsets.{Tracked, tracked, gets, puts}
use Rattle.fwd_model.specs.Run.{RunResult, Over, LoopFailed, KeeperFailed, lived, is_end, is_over, is_over_after, goes_on, unless_last, after_step, brought, run, after_start, starts}
use Rattle.fwd_model.proofs.CallLogs.{loop_append}
use Rattle.fwd_replay.specs.RecordedRun.{runs_on}
use Rattle.fwd_theorem_trace.specs.Past.{Past, logged, past_after}
use Rattle.fwd_theorem_trace.specs.Allowed.{Allowed, EventAllowed}
use Rattle.fwd_theorem_trace.proofs.Actions.{IsKept}
use Rattle.fwd_theorem_trace.proofs.Steps.{IsOuter, told_happens}
use Rattle.fwd_theorem_trace.proofs.Traversal.{Traverses, walks_bind, walks_if, traverses_rest}

-- ---- calls

-- a call but the start that failed and the wait for the end
abbrev pub IsPlainCall : (call : LoopCall) → LoopAnswer call → Type 0
IsPlainCall (Start ends) answer = answer ≡ Some tt
IsPlainCall (Wait until mask) x = is_end x ≡ false
IsPlainCall call answer = Unit {0}

abbrev pub ArePlainCalls : List LoopEntry → Type 0
ArePlainCalls [] = Unit {0}
ArePlainCalls (e ∷ es) = IsPlainCall e.call e.answer × ArePlainCalls es

-- only the last call is a wait for the end, if there is one
abbrev pub EndIsLast : List LoopEntry → Type 0
EndIsLast es =
    ArePlainCalls es
    ⊎ ((front : List LoopEntry) × (until : ℕ) × (mask : ℕ) × (es ≡ front ++ entry (Wait until mask) happening.End ∷ []) × ArePlainCalls front)

abbrev IsPlain : (call : Call) → Answer call → Type 0
IsPlain (OnLoop call) answer = IsPlainCall call answer
IsPlain call answer = Unit {0}

abbrev AllPlain : List TraceEntry → Type 0
AllPlain [] = Unit {0}
AllPlain (e ∷ es) = IsPlain e.call e.answer × AllPlain es

plain_both : (xs ys : List TraceEntry) → AllPlain xs → AllPlain ys → AllPlain (xs ++ ys)
plain_both [] ys first second = second
plain_both (e ∷ xs) ys first second = (first.0, plain_both xs ys first.1 second)

plain_loop : (es : List TraceEntry) → AllPlain es → ArePlainCalls (loop_part es)
plain_loop [] plain = tt
plain_loop (e ∷ es) plain = by e.call e.answer plain.0 (plain_loop es plain.1)
  where
    by : (call : Call) (answer : Answer call) → IsPlain call answer → ArePlainCalls (loop_part es) → ArePlainCalls (loop_part (entry call answer ∷ es))
    by (OnLoop call) answer one rest = (one, rest)
    by (OnDisk call) answer one rest = rest
    by (OnFiles call) answer one rest = rest
    by (OnKeeper call) answer one rest = rest
    by (Note fact) answer one rest = rest

-- ---- the past, oldest first

abbrev in_order : Past → List TraceEntry
in_order [] = []
in_order (e ∷ past) = in_order past ++ e ∷ []

in_order_after : (past : Past) (es : List TraceEntry) → in_order (past_after past es) ≡ in_order past ++ es
in_order_after past [] = sym (append-nil (in_order past))
in_order_after past (e ∷ es) = in_order_after (e ∷ past) es ∙ append_assoc (in_order past) (e ∷ []) es

plain_in_order : (past : Past) → AllPlain past → AllPlain (in_order past)
plain_in_order [] plain = tt
plain_in_order (e ∷ past) plain = plain_both (in_order past) (e ∷ []) (plain_in_order past plain.1) (plain.0, tt)

-- ---- a run

over_at_end : (s : AllSettings) (h : History) → is_over s happening.End h ≡ true
unfolding is_over
over_at_end s h = by (stopped s h)
  where
    by : (at : Option ℕ) → is_over_after s happening.End at h ≡ true
    by None = refl
    by (Some at) = refl

module _ (s : AllSettings) (untracked : tracked s ≡ []) where
  outer_plain : (call : Call) (answer : Answer call) → IsOuter call → IsPlain call answer
  outer_plain (OnLoop (Start ends)) answer is = absurd is
  outer_plain (OnLoop (Wait until mask)) answer is = absurd is
  outer_plain call answer is = tt

  plain_stays : IsKept s IsOuter AllPlain
  plain_stays call answer past is due plain = (outer_plain call answer is, plain)

  -- a step returns the history so far
  abbrev Returns : History → Past → Type 0
  Returns h now = (h ≡ logged now) × AllPlain now

  step_plain : (brings : Happening) (past : Past) → EventAllowed s brings past → Allowed s past → AllPlain past → Traverses (Allowed s) Returns past (step s brings (logged past))
  unfolding step
  step_plain brings past due allowed plain =
      (allowed, λ answer. told_happens s AllPlain plain_stays (logged past) brings (entry (Note (Happened brings)) answer ∷ past) ((due, allowed), (tt, plain)))

  -- if the loop didn't fail, the calls are plain, but for a last wait for the end
  abbrev EndsSo : Past → Type 0
  EndsSo now =
      AllPlain now
      ⊎ ((until : ℕ) × (mask : ℕ) × (done : Unit {0}) × (past : Past) × (now ≡ entry (Note (Happened happening.End)) done ∷ entry (OnLoop (Wait until mask)) happening.End ∷ past) × AllPlain past)

  abbrev RunEnds : RunResult → Past → Type 0
  RunEnds result now = (result.end ≡ LoopFailed → ⊥) → EndsSo now

  abbrev Lives : Past → Action RunResult → Type 0
  Lives past p = Traverses (Allowed s) RunEnds past p

  abbrev Goes : (History → Action RunResult) → Type 0
  Goes next = (now : Past) → Allowed s now → AllPlain now → Lives now (next (logged now))

  after_plain : (next : History → Action RunResult) (x : Happening) → Goes next → Goes (after_step s None next x)
  after_plain next x more now allowed plain =
      subst (λ (files : List Tracked). Lives now (puts s files (goes_on s (unless_last s None next x) x) (logged now))) (sym untracked)
      (walks_if (Allowed s) RunEnds (is_over s x (logged now)) now (Return (lived (logged now) Over)) (next (logged now)) (λ over. (allowed, λ unfailed. inl plain)) (λ on. more now allowed plain))

  -- after the wait of a turn
  module _ (past : Past) (allowed : Allowed s past) (plain : AllPlain past) (next : History → Action RunResult) (more : Goes next) where
    abbrev until : ℕ
    until = saturating_plus (clock (logged past)) longest_wait

    abbrev mask : ℕ
    mask = paused s (logged past)

    abbrev waited : Happening → Past
    waited x = entry (OnLoop (Wait until mask)) x ∷ past

    abbrev ended : (answer : Unit {0}) → Past
    ended answer = entry (Note (Happened happening.End)) answer ∷ waited happening.End

    by_step : (x : Happening) → is_end x ≡ false → Lives (waited x) (bind (step s x (logged past)) (after_step s None next x))
    by_step x unended =
        walks_bind (Allowed s) Returns RunEnds (waited x) (step s x (logged past)) (after_step s None next x)
        (step_plain x (waited x) (inl refl) ((refl, refl), allowed) (unended, plain))
        (λ h now grown due is. subst (λ (at : History). Lives now (after_step s None next x at)) (sym is.0) (after_plain next x more now due is.1))

    at_end : (answer : Unit {0}) → Lives (ended answer) (after_step s None next happening.End (Happened happening.End ∷ logged past))
    at_end answer =
        subst (λ (files : List Tracked). Lives (ended answer) (puts s files (goes_on s (unless_last s None next happening.End) happening.End) (Happened happening.End ∷ logged past))) (sym untracked)
        (subst (λ (over : Bool). Lives (ended answer) (if over then Return (lived (Happened happening.End ∷ logged past) Over) else next (Happened happening.End ∷ logged past)))
        (sym (over_at_end s (Happened happening.End ∷ logged past)))
        ((inl refl, ((refl, refl), allowed)), λ unfailed. inr (until, mask, answer, past, refl, plain)))

    brought_plain : (x : Happening) → Lives (waited x) (brought s None next (logged past) x)
    unfolding step
    brought_plain happening.Failed = (((refl, refl), allowed), λ unfailed. absurd (unfailed refl))
    brought_plain happening.End = (((refl, refl), allowed), at_end)
    brought_plain x = by_step x refl

  run_plain : (turns : ℕ) → Goes (run s None turns)
  unfolding run
  run_plain zero past allowed plain = (allowed, λ unfailed. inl plain)
  run_plain (suc turns) past allowed plain = (allowed, λ x. brought_plain past allowed plain (run s None turns) (run_plain turns) x)

  started_plain : (ends : Ends) (turns : ℕ) (past : Past) → Allowed s past → AllPlain past → (answer : Option (Unit {0}))
      → Lives (entry (OnLoop (Start ends)) answer ∷ past) (after_start s None turns (logged past) answer)
  started_plain ends turns past allowed plain None = ((tt, allowed), λ unfailed. absurd (unfailed refl))
  started_plain ends turns past allowed plain (Some ready) = run_plain turns (entry (OnLoop (Start ends)) (Some ready) ∷ past) (tt, allowed) (refl, plain)

  whole_plain : (turns : ℕ) → Lives [] (runs_on s None turns)
  whole_plain turns =
      subst (λ (files : List Tracked). Lives [] (gets s files (λ now. Return (lived now KeeperFailed)) (starts s (ends_of s) None turns) [])) (sym untracked)
      (tt, λ answer. started_plain (ends_of s) turns [] tt tt answer)

  module _ (trace : List TraceEntry) where
    same_trace : (now : Past) → past_after [] trace ≡ now → trace ≡ in_order now
    same_trace now is = sym (in_order_after [] trace) ∙ ap in_order is

    by_past : (now : Past) → past_after [] trace ≡ now → EndsSo now → EndIsLast (loop_part trace)
    by_past now is (inl plain) = inl (subst (λ (es : List TraceEntry). ArePlainCalls (loop_part es)) (sym (same_trace now is)) (plain_loop (in_order now) (plain_in_order now plain)))
    by_past now is (inr (u, m, done, past, last, plain)) =
        let w : TraceEntry = entry (OnLoop (Wait u m)) happening.End in
        let n : TraceEntry = entry (Note (Happened happening.End)) done in
        inr (
          loop_part (in_order past),
          u,
          m,
          ap loop_part (same_trace (n ∷ w ∷ past) (is ∙ last))
              ∙ loop_append (in_order past ++ w ∷ []) (n ∷ [])
              ∙ append-nil (loop_part (in_order past ++ w ∷ []))
              ∙ loop_append (in_order past) (w ∷ []),
          plain_loop (in_order past) (plain_in_order past plain),
        )

  -- the end of a run came last, and each start was answered
  pub end_is_last : (turns : ℕ) (trace : List TraceEntry) (result : RunResult) → Execution (runs_on s None turns) trace (Return result) → (result.end ≡ LoopFailed → ⊥) → EndIsLast (loop_part trace)
  end_is_last turns trace result way unfailed = by_past trace (past_after [] trace) refl ((traverses_rest (Allowed s) RunEnds [] (runs_on s None turns) (whole_plain turns) trace (Return result) way).1 unfailed)
