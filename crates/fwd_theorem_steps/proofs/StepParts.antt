-- The parts of a step, each with the history that it leaves.
use Rattle.std.proofs.Common.{◌≡◌, ℕ, Bool, true, false, cond, List, [], ◌∷◌, ◌++◌, append_assoc, Option, Some, None, refl, sym, ◌∙◌, ap, subst}
use Rattle.std.specs.Prelude.{is_none}
use Rattle.std.proofs.lemmas.Bool.{and_parts}
use Rattle.fwd_outside.specs.Program.{entry, Return, bind, Execution}
use Rattle.fwd_outside.specs.declared.happening.Happening.{Happening}
use Rattle.fwd_outside.specs.declared.happening.Happening.TheVariants as happening
use Rattle.fwd_settings.specs.declared.settings_types.AllSettings.{AllSettings}
use Rattle.fwd_model.specs.Fact.{History, Standard, Happened}
use Rattle.fwd_model.specs.Trace.{Action, TraceEntry, Note, history_after}
use Rattle.fwd_model.specs.Settings.{reads_stdin_at}
use Rattle.fwd_model.specs.Clock.{stopped, is_close_due}
use Rattle.fwd_model.specs.Batches.{end_batch}
use Rattle.fwd_model.specs.Dispatch.{due_routes}
use Rattle.fwd_model.specs.CloseActions.{closes_all}
use Rattle.fwd_model.specs.Acceptance.{ingests}
use Rattle.fwd_model.specs.FlushActions.{walk}
use Rattle.fwd_model.specs.InputActions.{polls_all}
use Rattle.fwd_model.specs.StepActions.{closes_and_dispatches, ticks, stops, at_input_end, handles, step}
use Rattle.fwd_theorem_trace.specs.Past.{Past, logged, past_after}
use Rattle.fwd_theorem_trace.specs.Allowed.{EventAllowed, Allowed}
use Rattle.fwd_theorem_trace.specs.Dispatch.{IsDispatched}
use Rattle.fwd_theorem_trace.proofs.Actions.{IsInner, IsKept, tells_closes_all}
use Rattle.fwd_theorem_trace.proofs.Steps.{IsOuter, told_takes, told_follows_all}
use Rattle.fwd_theorem_trace.proofs.Traversal.{Traverses, traverses_rest, noted_since}
use Rattle.fwd_theorem_trace.proofs.Turns.{way_parts, walk_is_walked}
use Rattle.fwd_theorem_steps.specs.Dispatch.{dispatches_at, EndsWithDispatch}

abbrev pub Any : Past → Type 0
Any past = Unit {0}

pub history_both : (h : History) (one two : List TraceEntry) → history_after (one ++ two) h ≡ history_after two (history_after one h)
history_both h [] two = refl
history_both h (e ∷ one) two = history_both _ one two

module _ (s : AllSettings) where
  pub any_outer : IsKept s IsOuter Any
  any_outer call answer past is due kept = tt

  pub any_inner : IsKept s IsInner Any
  any_inner call answer past is due kept = tt

  -- the action returns the history so far
  abbrev pub Tells : Past → Action History → Type 0
  Tells past p = Traverses (Allowed s) (λ (h : History) (now : Past). (h ≡ logged now) × Any now) past p

  -- where an action has come to
  pub record Told (past : Past) (es : List TraceEntry) (x : History) : Type 0 where
    pub is : x ≡ logged (past_after past es)
    pub after : x ≡ history_after es (logged past)
    pub due : Allowed s (past_after past es)

  pub told_end : (past : Past) (p : Action History) → Tells past p → (es : List TraceEntry) (x : History) → Execution p es (Return x) → Told past es x
  told_end past p tells es x way =
      let end = traverses_rest (Allowed s) (λ (h : History) (now : Past). (h ≡ logged now) × Any now) past p tells es (Return x) way in
      record { is = end.1.0; after = end.1.0 ∙ noted_since past es; due = end.0 }

  -- ---- dispatches

  abbrev Ends : History → List TraceEntry → History → Type 0
  Ends h es new = EndsWithDispatch s h es new

  walks_only : (h new : History) (es : List TraceEntry) → Execution (walk s h) es (Return new) → Ends h es new
  walks_only h new es way = record { first = []; rest = es; is = refl; turns = walk_is_walked s h new es way }

  -- calls before those that end with a dispatch
  ends_behind : (h at new : History) (own more : List TraceEntry) → at ≡ history_after own h → Ends at more new → Ends h (own ++ more) new
  ends_behind h at new own more is ends =
      let same : history_after ends.first at ≡ history_after (own ++ ends.first) h = ap (history_after ends.first) is ∙ sym (history_both h own ends.first) in
      record {
        first = own ++ ends.first;
        rest = ends.rest;
        is = ap (λ (l : List TraceEntry). own ++ l) ends.is ∙ sym (append_assoc own ends.first ends.rest);
        turns = subst (λ (x : History). IsDispatched s (due_routes s x) x ends.rest new) same ends.turns;
      }

  walk_ends : (closing : Bool) (past : Past) → Allowed s past → (new : History) (es : List TraceEntry) → Execution (closes_and_dispatches s closing (logged past)) es (Return new) → Ends (logged past) es new
  unfolding closes_and_dispatches
  walk_ends false past due new es way = walks_only (logged past) new es way
  walk_ends true past due new es way =
      let parts = way_parts (closes_all s (logged past)) (walk s) es new way in
      let told = told_end past (closes_all s (logged past)) (tells_closes_all s Any any_inner past (due, tt)) parts.1 parts.0 parts.4 in
      subst (λ (l : List TraceEntry). Ends (logged past) l new) (sym parts.3) (ends_behind (logged past) parts.0 new parts.1 parts.2 told.after (walks_only parts.0 new parts.2 parts.5))

  -- another action, and then a dispatch
  then_ends : (closing : Bool) (past : Past) (p : Action History) → Tells past p → (new : History) (es : List TraceEntry) → Execution (bind p (closes_and_dispatches s closing)) es (Return new) → Ends (logged past) es new
  then_ends closing past p tells new es way =
      let parts = way_parts p (closes_and_dispatches s closing) es new way in
      let told = told_end past p tells parts.1 parts.0 parts.4 in
      let later = past_after past parts.1 in
      let ends = walk_ends closing later told.due new parts.2 (subst (λ (h : History). Execution (closes_and_dispatches s closing h) parts.2 (Return new)) told.is parts.5) in
      subst (λ (l : List TraceEntry). Ends (logged past) l new) (sym parts.3) (ends_behind (logged past) (logged later) new parts.1 parts.2 (noted_since past parts.1) ends)

  stops_ends : (at : Option ℕ) → is_none at ≡ true → (past : Past) → Allowed s past → (new : History) (es : List TraceEntry) → Execution (stops s at (logged past)) es (Return new) → Ends (logged past) es new
  unfolding stops
  stops_ends None on past due new es way = walk_ends true past due new es way
  stops_ends (Some at) on past due new es way = absurd (cc on)

  handled_ends : (before : History) (x : Happening) (past : Past) → Allowed s past → dispatches_at s before x ≡ true → (new : History) (es : List TraceEntry)
      → Execution (handles s before x (logged past)) es (Return new) → Ends (logged past) es new
  unfolding ticks at_input_end
  handled_ends before (happening.Tick now) past due on new es way = then_ends (is_close_due s before now) past (polls_all s (logged past)) (told_follows_all s Any any_outer past (due, tt)) new es way
  handled_ends before happening.Stop past due on new es way = stops_ends (stopped s before) on past due new es way
  handled_ends before (happening.InputEnd input) past due on new es way =
      let parts = and_parts (reads_stdin_at s input.0) (is_none (stopped s before)) on in
      let p : Action History = ingests s (end_batch s before input.0 (Standard input.0)) (logged past) in
      let taken = subst (λ (b : Bool). Execution (cond b (bind p (stops s (stopped s before))) (Return (logged past))) es (Return new)) parts.0 way in
      let own = way_parts p (stops s (stopped s before)) es new taken in
      let told = told_end past p (told_takes s Any any_outer (end_batch s before input.0 (Standard input.0)) past (due, tt)) own.1 own.0 own.4 in
      let later = past_after past own.1 in
      let ends = stops_ends (stopped s before) parts.1 later told.due new own.2 (subst (λ (h : History). Execution (stops s (stopped s before) h) own.2 (Return new)) told.is own.5) in
      subst (λ (l : List TraceEntry). Ends (logged past) l new) (sym own.3) (ends_behind (logged past) (logged later) new own.1 own.2 (noted_since past own.1) ends)
  handled_ends before x past due on new es way = absurd (cc on)

  pub step_dispatches : (past : Past) (h : History) → logged past ≡ h → Allowed s past → (x : Happening) → EventAllowed s x past → dispatches_at s h x ≡ true → (es : List TraceEntry) (new : History)
      → Execution (step s x h) es (Return new) → Ends h es new
  unfolding step
  step_dispatches past h is due x allowed on [] new way = absurd (cc way)
  step_dispatches past h is due x allowed on (e ∷ es) new way =
      let brought : TraceEntry = entry (Note (Happened x)) tt in
      let at : logged (brought ∷ past) ≡ Happened x ∷ h = ap (λ (l : History). Happened x ∷ l) is in
      let handled = subst (λ (l : History). Execution (handles s h x l) es (Return new)) (sym at) way.2 in
      let ends = handled_ends h x (brought ∷ past) (allowed, due) on new es handled in
      subst (λ (f : TraceEntry). Ends h (f ∷ es) new) (sym way.1) (ends_behind h (logged (brought ∷ past)) new (brought ∷ []) es at ends)
