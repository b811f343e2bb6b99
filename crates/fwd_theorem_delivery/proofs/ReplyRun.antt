-- Over a run, each reply is due.
use Rattle.std.proofs.Common.{◌≡◌, ℕ, zero, suc, true, List, [], ◌∷◌, ◌++◌, Option, Some, None, inl, refl, sym, ◌∙◌, ap, subst}
use Rattle.fwd_outside.specs.Program.{entry, Return, Ask, bind, Execution}
use Rattle.fwd_outside.specs.Loop.{Reply, Start, Wait}
use Rattle.fwd_outside.specs.declared.ends.Ends.{Ends}
use Rattle.fwd_outside.specs.declared.happening.Happening.{Happening}
use Rattle.fwd_outside.specs.declared.happening.Happening.TheVariants as happening
use Rattle.fwd_base.specs.declared.ids.ConnId.{ConnId}
use Rattle.fwd_base.specs.declared.ids.InputId.{InputId}
use Rattle.fwd_settings.specs.declared.settings_types.AllSettings.{AllSettings}
use Rattle.fwd_model.specs.Fact.{History, MessageStream, Happened}
use Rattle.fwd_model.specs.Trace.{Call, Action, TraceEntry, OnLoop}
use Rattle.fwd_model.specs.Settings.{saturating_plus}
use Rattle.fwd_model.specs.Clock.{clock}
use Rattle.fwd_model.specs.Streams.{stream_of}
use Rattle.fwd_model.specs.Limits.{paused}
use Rattle.fwd_model.specs.KeptOffsets.{tracked}
use Rattle.fwd_model.specs.StepActions.{step}
use Rattle.fwd_model.specs.RecoveryActions.{recovers}
use Rattle.fwd_model.specs.Run.{RunResult, Over, KeeperFailed, lived, is_over, goes_on, steps_on, is_last_tick, unless_last, after_step, brought, run, after_start, starts, after_recovery, life}
use Rattle.fwd_theorem_trace.specs.Past.{Past, logged, past_after}
use Rattle.fwd_theorem_trace.specs.Allowed.{EventAllowed, Allowed}
use Rattle.fwd_theorem_trace.proofs.Traversal.{Traverses, holds_now, traverses_rest, walks_bind, walks_if}
use Rattle.fwd_theorem_trace.proofs.OffsetCalls.{StaysAside, all_tracked, puts_on, gets_on}
use Rattle.fwd_theorem_trace.proofs.Run.{due_onward, Loaded, loading_is_start, loads_root, steps_step, last_due}
use Rattle.fwd_theorem_delivery.specs.Replies.{IsDueReply}
use Rattle.fwd_theorem_delivery.proofs.SilentActions.{is_silent, AreSilent, still_loads}
use Rattle.fwd_theorem_delivery.proofs.CallSequences.{MakesCalls, since_both, makes_so, still_makes}
use Rattle.fwd_theorem_delivery.proofs.ReplyLists.{in_order}
use Rattle.fwd_theorem_delivery.proofs.StepReplies.{Any, event_entry, IsDueOver, makes_happens}

module _ (s : AllSettings) where
  -- a reply is due, given the entries before it
  abbrev IsDueAt : Past → Call → Type 0
  IsDueAt past (OnLoop (Reply conn bytes)) = IsDueReply s past conn bytes
  IsDueAt past call = Unit {0}

  -- the same, given these entries in order
  abbrev IsDueCall : List TraceEntry → Call → Type 0
  IsDueCall before call = IsDueAt (past_after [] before) call

  due_still : (before : List TraceEntry) (call : Call) → is_silent call ≡ true → IsDueCall before call
  due_still before (OnLoop (Reply conn bytes)) is = absurd (cc is)
  due_still before call is = tt

  -- each reply is due
  abbrev AreDue : Past → Type 0
  AreDue [] = Unit {0}
  AreDue (e ∷ past) = IsDueAt past e.call × AreDue past

  -- and each entry is allowed
  abbrev Due : Past → Type 0
  Due past = Allowed s past × AreDue past

  since_last : (es : List TraceEntry) (e : TraceEntry) → past_after [] (es ++ e ∷ []) ≡ e ∷ past_after [] es
  since_last es e = since_both [] es (e ∷ [])

  -- in a traversal of allowed entries
  with_due : {R : Type 0} (Q : R → Past → Type 0) (es : List TraceEntry) (p : Action R) → MakesCalls IsDueCall Any es p → AreDue (past_after [] es) → Traverses (Allowed s) Q (past_after [] es) p → Traverses Due Q (past_after [] es) p
  with_due Q es (Return x) makes due walks = ((walks.0, due), walks.1)
  with_due Q es (Ask call go) makes due walks = (
    (walks.0, due),
    λ answer.
        let e : TraceEntry = entry call answer in
        let same = since_last es e in
        subst (λ (past : Past). Traverses Due Q past (go answer)) same
        (with_due Q (es ++ e ∷ []) (go answer) (makes.1 answer) (subst AreDue (sym same) (makes.0, due)) (subst (λ (past : Past). Traverses (Allowed s) Q past (go answer)) (sym same) (walks.1 answer))),
  )

  -- ---- a step

  due_over : (es : List TraceEntry) (input : InputId) (conn : ConnId) (bytes : List ℕ) → stream_of s (logged (past_after [] es)) input.0 conn.0 ≡ Some (MessageStream conn.0)
      → IsDueOver s IsDueCall (logged (past_after [] es)) input conn bytes (es ++ event_entry (happening.Piece input conn bytes) ∷ [])
  due_over es input conn bytes over now earlier m later asked messages asks at = record {
    older = past_after [] es;
    input = input;
    piece = bytes;
    during = at.own;
    is =
        ap (λ (l : List TraceEntry). past_after [] l) at.is ∙
        (since_both [] (es ++ event_entry (happening.Piece input conn bytes) ∷ []) at.own ∙ ap (λ (past : Past). past_after past at.own) (since_last es (event_entry (happening.Piece input conn bytes))));
    last = at.came;
    over = over;
    earlier = earlier;
    message = m;
    later = later;
    messages = messages;
    asks = asks;
    taken = in_order _ _ at.rest at.taken;
    replies = at.replies;
    whole = at.broken;
    drops = at.drops;
  }

  makes_step : (es : List TraceEntry) (x : Happening) → MakesCalls IsDueCall Any es (step s x (logged (past_after [] es)))
  unfolding step
  makes_step es x = (
    tt,
    λ answer.
        makes_happens s IsDueCall due_still (λ before conn. tt) (logged (past_after [] es)) x (es ++ event_entry x ∷ []) (Happened x ∷ logged (past_after [] es))
        (λ input conn bytes is over.
        subst (λ (y : Happening). IsDueOver s IsDueCall (logged (past_after [] es)) input conn bytes (es ++ event_entry y ∷ [])) (sym is) (due_over es input conn bytes over)),
  )

  abbrev Returned : History → Past → Type 0
  Returned h now = (h ≡ logged now) × Unit {0}

  step_after : (x : Happening) (es : List TraceEntry) → EventAllowed s x (past_after [] es) → Due (past_after [] es) → Traverses Due Returned (past_after [] es) (step s x (logged (past_after [] es)))
  step_after x es due ready = with_due Returned es (step s x (logged (past_after [] es))) (makes_step es x) ready.1 (steps_step s x (past_after [] es) due ready.0)

  -- entries in order, the oldest first
  abbrev in_time_order : Past → List TraceEntry
  in_time_order [] = []
  in_time_order (e ∷ past) = in_time_order past ++ e ∷ []

  same_past : (past : Past) → past_after [] (in_time_order past) ≡ past
  same_past [] = refl
  same_past (e ∷ past) = since_last (in_time_order past) e ∙ ap (λ (older : Past). e ∷ older) (same_past past)

  step_at : (x : Happening) (past : Past) → EventAllowed s x past → Due past → Traverses Due Returned past (step s x (logged past))
  step_at x past due ready = subst (λ (now : Past). EventAllowed s x now → Due now → Traverses Due Returned now (step s x (logged now))) (same_past past) (step_after x (in_time_order past)) due ready

  -- ---- a run

  abbrev Whatever : Past → Type 0
  Whatever past = Unit {0}

  abbrev Ended : RunResult → Past → Type 0
  Ended end now = Unit {0}

  abbrev Lives : Past → Action RunResult → Type 0
  Lives past p = Traverses Due Ended past p

  abbrev Goes : (History → Action RunResult) → Type 0
  Goes next = (now : Past) → Due now → Lives now (next (logged now))

  lives_on : (next : History → Action RunResult) (x : Happening) → Goes next → Goes (goes_on s next x)
  lives_on next x more now ready = walks_if Due Ended (is_over s x (logged now)) now (Return (lived (logged now) Over)) (next (logged now)) (λ over. (ready, tt)) (λ on. more now ready)

  -- a step, and what follows it
  lives_after : (then : History → Action RunResult) (x : Happening) → Goes then → (past : Past) → EventAllowed s x past → Due past → Lives past (bind (step s x (logged past)) then)
  lives_after then x more past due ready =
      walks_bind Due Returned Ended past (step s x (logged past)) then (step_at x past due ready)
      (λ h now grown still is. subst (λ (y : History). Lives now (then y)) (sym is.0) (more now still))

  lives_unless_last : (ticks : Option ℕ) (next : History → Action RunResult) (x : Happening) → Goes next → Goes (unless_last s ticks next x)
  lives_unless_last None next x more now ready = more now ready
  lives_unless_last (Some n) next x more now ready =
      walks_if Due Ended (is_last_tick s (Some n) x (logged now)) now (steps_on s next happening.Stop (logged now)) (next (logged now))
      (λ last. lives_after (goes_on s next happening.Stop) happening.Stop (lives_on next happening.Stop more) now (last_due s n x now last) ready) (λ no. more now ready)

  due_aside : StaysAside s (λ past. Due past × Whatever past)
  due_aside = record { call = λ call answer past due so. (((due, so.0.0), (tt, so.0.1)), tt); fact = λ fact answer past is due so. (((due, so.0.0), (tt, so.0.1)), tt) }

  lives_brought : (ticks : Option ℕ) (next : History → Action RunResult) (x : Happening) → Goes next → (past : Past) → EventAllowed s x past → Due past → Lives past (brought s ticks next (logged past) x)
  lives_brought ticks next happening.Failed more past due ready = (ready, tt)
  lives_brought ticks next x more past due ready =
      let then : History → Action RunResult = goes_on s (unless_last s ticks next x) x in
      lives_after (after_step s ticks next x) x
      (λ now still. puts_on s Due Whatever due_aside Ended (tracked s) then (all_tracked s) (λ later both. lives_on (unless_last s ticks next x) x (lives_unless_last ticks next x more) later both.0) now (still, tt)) past due ready

  lives_run : (ticks : Option ℕ) (turns : ℕ) → Goes (run s ticks turns)
  unfolding run
  lives_run ticks zero past ready = (ready, tt)
  lives_run ticks (suc turns) past ready = (
    ready,
    λ x.
        let wait : TraceEntry = entry (OnLoop (Wait (saturating_plus (clock (logged past)) 250) (paused s (logged past)))) x in
        lives_brought ticks (run s ticks turns) x (lives_run ticks turns) (wait ∷ past) (inl refl) (((refl, refl), ready.0), (tt, ready.1)),
  )

  lives_started : (ticks : Option ℕ) (turns : ℕ) (ready : Option (Unit {0})) → Goes (λ h. after_start s ticks turns h ready)
  lives_started ticks turns None past due = (due, tt)
  lives_started ticks turns (Some ready) past due = lives_run ticks turns past due

  -- ---- recovery

  makes_loads : MakesCalls IsDueCall Any [] (recovers s)
  makes_loads =
      makes_so IsDueCall (λ (x : Option History) (now : List TraceEntry). (own : List TraceEntry) × (now ≡ [] ++ own) × AreSilent own) Any [] (recovers s) (λ x now is. tt)
      (still_makes IsDueCall [] (recovers s) due_still (still_loads s))

  walks_loads : Traverses Due Loaded [] (recovers s)
  unfolding recovers
  walks_loads = with_due Loaded [] (recovers s) makes_loads tt (loads_root s (Allowed s) (due_onward s) tt s.service.path)

  lives_recovered : (ends : Ends) (ticks : Option ℕ) (turns : ℕ) (found : Option History) (now : Past) → Due now → Loaded found now → Lives now (after_recovery s ends ticks turns found)
  lives_recovered ends ticks turns None now ready is = (ready, tt)
  lives_recovered ends ticks turns (Some h) now ready is =
      subst (λ (x : History). Lives now (after_recovery s ends ticks turns (Some x))) (sym is.0)
      (gets_on s Due Whatever due_aside Ended (tracked s) (λ at. Return (lived at KeeperFailed)) (starts s ends ticks turns) (λ at start both. (both.0, tt))
      (λ at start both. (both.0, λ ready. lives_started ticks turns ready (entry (OnLoop (Start ends)) ready ∷ at) ((tt, both.0.0), (tt, both.0.1))))
      now (loading_is_start (logged now) is.1) (ready, tt))

  lives_life : (ends : Ends) (ticks : Option ℕ) (turns : ℕ) → Lives [] (life s ends ticks turns)
  unfolding life
  lives_life ends ticks turns = walks_bind Due Loaded Ended [] (recovers s) (after_recovery s ends ticks turns) walks_loads (λ found now grown ready is. lives_recovered ends ticks turns found now ready is)

  -- ---- at each point

  due_before : (es : List TraceEntry) (past : Past) → AreDue (past_after past es) → AreDue past
  due_before [] past due = due
  due_before (e ∷ es) past due = (due_before es (e ∷ past) due).1

  pub due_reply : (ends : Ends) (ticks : Option ℕ) (turns : ℕ) (before rest : List TraceEntry) (conn : ℕ) (bytes : List ℕ) (answer : Option (Unit {0})) (left : Action RunResult)
      → Execution (life s ends ticks turns) (before ++ entry (OnLoop (Reply conn bytes)) answer ∷ rest) left → IsDueReply s (past_after [] before) conn bytes
  due_reply ends ticks turns before rest conn bytes answer left way =
      let e : TraceEntry = entry (OnLoop (Reply conn bytes)) answer in
      let walks = traverses_rest Due Ended [] (life s ends ticks turns) (lives_life ends ticks turns) (before ++ e ∷ rest) left way in
      let due : Due (past_after [] (before ++ e ∷ rest)) = holds_now Due Ended (past_after [] (before ++ e ∷ rest)) left walks in
      (due_before rest (e ∷ past_after [] before) (subst AreDue (since_both [] before (e ∷ rest)) due.1)).0
