-- What holds of the empty history, and is kept by each recovered file, kept offset, event, poll and action,
-- holds at the end of each run.
use Rattle.std.proofs.Common.{◌≡◌, ℕ, ◌+◌, Bool, true, false, cond, List, [], ◌∷◌, length, Option, Some, None, refl, sym, ap, subst}
use Rattle.std.specs.List.{range_with_len}
use Rattle.fwd_base.specs.declared.ids.InputId.{InputId}
use Rattle.fwd_base.specs.declared.ids.ConnId.{ConnId}
use Rattle.fwd_outside.specs.Program.{Return, bind, Execution}
use Rattle.fwd_outside.specs.declared.ends.Ends.{Ends}
use Rattle.fwd_outside.specs.declared.happening.Happening.{Happening}
use Rattle.fwd_outside.specs.declared.happening.Happening.TheVariants as happening
use Rattle.fwd_in_tail.specs.Followed.{Polled as Poll, polls}
use Rattle.fwd_settings.specs.declared.settings_types.AllSettings.{AllSettings}
use Rattle.fwd_model.specs.Fact.{Fact, History, Batch, Standard, Happened, Resumed, Saved, Polled, Found, IoFailed}
use Rattle.fwd_model.specs.Trace.{Action, TraceEntry}
use Rattle.fwd_model.specs.DeviceActions.{on_files}
use Rattle.fwd_model.specs.Settings.{paths_at, from_head_at, reads_stdin_at}
use Rattle.fwd_model.specs.Clock.{stopped, is_close_due}
use Rattle.fwd_model.specs.FollowedFiles.{file_at}
use Rattle.fwd_model.specs.Batches.{end_batch, poll_batch}
use Rattle.fwd_model.specs.Limits.{is_paused}
use Rattle.fwd_model.specs.CloseActions.{closes_all}
use Rattle.fwd_model.specs.Acceptance.{ingests}
use Rattle.fwd_model.specs.FlushActions.{walk, at_room, at_reply, at_break}
use Rattle.fwd_model.specs.InputActions.{pieces, polled, polls_file, polls_files, polls_input, polls_inputs, polls_all}
use Rattle.fwd_model.specs.StepActions.{closes_and_dispatches, ticks, stops, at_input_end, handles, step}
use Rattle.fwd_model.specs.Run.{RunResult, life}
use Rattle.fwd_theorem_trace.specs.Past.{Past, logged}
use Rattle.fwd_theorem_trace.specs.Allowed.{IsLoading, Allowed}
use Rattle.fwd_theorem_trace.proofs.OffsetCalls.{IsOffsetFact}
use Rattle.fwd_theorem_trace.proofs.Traversal.{traverses_map}
use Rattle.fwd_theorem_trace.proofs.Run.{due_onward, Lasts as NotedLasts, so_at_end, steps_step}
use Rattle.fwd_theorem_delivery.specs.BatchOutcomes.{completed_by}
use Rattle.fwd_theorem_delivery.proofs.Results.{Yields, gives_so, gives_then, gives_behind, gives_if, gives_walks}
use Rattle.fwd_theorem_delivery.proofs.FactSuffix.{AddsInner}
use Rattle.fwd_theorem_delivery.proofs.InnerActions.{calm_closes_all, calm_walk, calm_has_room, calm_comes_back, calm_has_broken}

-- It holds of no facts. It is kept if only facts about existing chunks are added, by facts that complete
-- no batch, and until all batches that a fact completed are taken.
pub record Lasts (s : AllSettings) (Each : History → Type 0) : Type 0 where
  pub at_first : Each []
  pub later : (h now : History) → Each h → AddsInner h now → Each now
  pub found : (number : ℕ) (stream name bytes : List ℕ) (h : History) → Each h → Each (Found number stream name bytes ∷ h)
  pub resumed : (input index place : ℕ) (h : History) → Each h → Each (Resumed input index place ∷ h)
  pub saved : (input index place : ℕ) (h : History) → Each h → Each (Saved input index place ∷ h)
  pub faulted : (h : History) → Each h → Each (IoFailed ∷ h)
  pub brought : (x : Happening) (h : History) → completed_by s h (Happened x) ≡ [] → Each h → Each (Happened x ∷ h)
  pub polled : (input index : ℕ) (poll : Poll) (h : History) → Each h → Yields Each (ingests s (poll_batch s h input index poll) (Polled input index poll.long poll.bytes ∷ h))
  pub pieces : (input : InputId) (conn : ConnId) (bytes : List ℕ) (h : History) → Each h
      → Yields Each (pieces s h input.0 conn.0 bytes (Happened (happening.Piece input conn bytes) ∷ h))
  pub ended : (input : InputId) (h : History) → reads_stdin_at s input.0 ≡ true → Each h
      → Yields Each (ingests s (end_batch s h input.0 (Standard input.0)) (Happened (happening.InputEnd input) ∷ h))

module _ (s : AllSettings) (Each : History → Type 0) (lasts : Lasts s Each) where
  each_calm : (h : History) (p : Action History) → Each h → Yields (AddsInner h) p → Yields Each p
  each_calm h p each calm = gives_so (AddsInner h) Each p (λ now later. lasts.later h now each later) calm

  -- ---- polls

  each_polled : (input index : ℕ) (h : History) (poll : Option Poll) → Each h → Yields Each (polled s input index h poll)
  each_polled input index h None each = λ _. lasts.faulted h each
  each_polled input index h (Some poll) each = λ _. lasts.polled input index poll h each

  each_polls_file : (input index : ℕ) (path : List ℕ) (h : History) → Each h → Yields Each (polls_file s input index path h)
  unfolding polls_file
  each_polls_file input index path h each = gives_behind Each (on_files (polls path (from_head_at s input) (file_at s h input index).place)) (polled s input index h) (λ poll. each_polled input index h poll each)

  each_polls_files : (input index : ℕ) (paths : List (List ℕ)) (h : History) → Each h → Yields Each (polls_files s input index paths h)
  each_polls_files input index [] h each = each
  each_polls_files input index (path ∷ paths) h each =
      gives_then Each Each (polls_file s input index path h) (polls_files s input (index + 1) paths) (each_polls_file input index path h each) (each_polls_files input (index + 1) paths)

  each_follows : (input : ℕ) (h : History) → Each h → Yields Each (polls_input s input h)
  unfolding polls_input
  each_follows input h each =
      gives_if Each (is_paused s h input) (Return h) (polls_files s input 0 (paths_at s input) h) (λ _. each) (λ _. each_polls_files input 0 (paths_at s input) h each)

  each_follows_each : (inputs : List ℕ) (h : History) → Each h → Yields Each (polls_inputs s inputs h)
  each_follows_each [] h each = each
  each_follows_each (input ∷ inputs) h each = gives_then Each Each (polls_input s input h) (polls_inputs s inputs) (each_follows input h each) (each_follows_each inputs)

  -- ---- steps

  each_walk : (h : History) → Each h → Yields Each (walk s h)
  each_walk h each = each_calm h (walk s h) each (calm_walk s h)

  each_walks : (closing : Bool) (h : History) → Each h → Yields Each (closes_and_dispatches s closing h)
  unfolding closes_and_dispatches
  each_walks true h each = gives_then Each Each (closes_all s h) (walk s) (each_calm h (closes_all s h) each (calm_closes_all s h)) each_walk
  each_walks false h each = each_walk h each

  each_ticks : (closing : Bool) (h : History) → Each h → Yields Each (ticks s closing h)
  unfolding ticks polls_all
  each_ticks closing h each = gives_then Each Each (polls_all s h) (closes_and_dispatches s closing) (each_follows_each (range_with_len 0 (length s.inputs)) h each) (each_walks closing)

  each_stops : (before : Option ℕ) (h : History) → Each h → Yields Each (stops s before h)
  unfolding stops
  each_stops (Some at) h each = each
  each_stops None h each = each_walks true h each

  -- a standard input ends
  each_finishes : (h : History) (input : InputId) → Each h → Yields Each (at_input_end s h input.0 (Happened (happening.InputEnd input) ∷ h))
  unfolding at_input_end
  each_finishes h input each =
      let brings : Happening = happening.InputEnd input in
      let last : Batch = end_batch s h input.0 (Standard input.0) in
      gives_if Each (reads_stdin_at s input.0) (bind (ingests s last (Happened brings ∷ h)) (stops s (stopped s h))) (Return (Happened brings ∷ h))
      (λ yes. gives_then Each Each (ingests s last (Happened brings ∷ h)) (stops s (stopped s h)) (lasts.ended input h yes each) (each_stops (stopped s h)))
      (λ no. lasts.brought brings h (ap (λ (b : Bool). cond b (last ∷ []) []) no) each)

  -- an event that completes no batch, and an action that adds only facts about existing chunks
  each_behind : (x : Happening) (h : History) (p : Action History) → completed_by s h (Happened x) ≡ [] → Each h → Yields (AddsInner (Happened x ∷ h)) p → Yields Each p
  each_behind x h p none each calm = each_calm (Happened x ∷ h) p (lasts.brought x h none each) calm

  each_happens : (h : History) (x : Happening) → Each h → Yields Each (handles s h x (Happened x ∷ h))
  each_happens h (happening.Tick now) each = each_ticks (is_close_due s h now) (Happened (happening.Tick now) ∷ h) (lasts.brought (happening.Tick now) h refl each)
  each_happens h (happening.Joined input conn) each = lasts.brought (happening.Joined input conn) h refl each
  each_happens h (happening.Piece input conn bytes) each = lasts.pieces input conn bytes h each
  each_happens h (happening.Gone input conn) each = lasts.brought (happening.Gone input conn) h refl each
  each_happens h (happening.Room link) each =
      let x : Happening = happening.Room link in each_behind x h (at_room s link.0 (Happened x ∷ h)) refl each (calm_has_room s link.0 (Happened x ∷ h))
  each_happens h (happening.Back link bytes) each =
      let x : Happening = happening.Back link bytes in each_behind x h (at_reply s link.0 bytes (Happened x ∷ h)) refl each (calm_comes_back s link.0 bytes (Happened x ∷ h))
  each_happens h (happening.Broken link) each =
      let x : Happening = happening.Broken link in each_behind x h (at_break s link.0 (Happened x ∷ h)) refl each (calm_has_broken s link.0 (Happened x ∷ h))
  each_happens h (happening.InputEnd input) each = each_finishes h input each
  each_happens h happening.Stop each = each_stops (stopped s h) (Happened happening.Stop ∷ h) (lasts.brought happening.Stop h refl each)
  each_happens h happening.End each = lasts.brought happening.End h refl each
  each_happens h happening.Failed each = lasts.brought happening.Failed h refl each

  pub each_step : (x : Happening) (h : History) → Each h → Yields Each (step s x h)
  unfolding step
  each_step x h each = λ _. each_happens h x each

  -- ---- a run

  pub each_loading : (h : History) → IsLoading h → Each h
  each_loading [] loading = lasts.at_first
  each_loading (Found number stream name bytes ∷ h) loading = lasts.found number stream name bytes h (each_loading h loading.1)
  each_loading (fact ∷ h) loading = absurd loading

  -- the facts of kept offsets
  pub each_aside : (fact : Fact) (h : History) → IsOffsetFact fact → Each h → Each (fact ∷ h)
  each_aside (Resumed input index place) h is each = lasts.resumed input index place h each
  each_aside (Saved input index place) h is each = lasts.saved input index place h each
  each_aside fact h is each = absurd is

  each_noted : NotedLasts s (Allowed s) (λ (past : Past). Each (logged past))
  each_noted = record {
    first = tt;
    onward = due_onward s;
    loaded = λ past loading. each_loading (logged past) loading;
    called = λ call answer past each. each;
    aside = record { call = λ call answer past due so. ((due, so.0), so.1); fact = λ fact answer past is due so. ((due, so.0), each_aside fact (logged past) is so.1) };
    stepped = λ x past due ready each.
        let W : History → Past → Type 0 = λ (h : History) (now : Past). (h ≡ logged now) × Unit {0} in
        traverses_map (Allowed s) (λ (h : History) (now : Past). Each h × W h now) (λ (h : History) (now : Past). (h ≡ logged now) × Each (logged now)) past (step s x (logged past))
        (λ h now grown is. (is.1.0, subst Each is.1.0 is.0)) (gives_walks (Allowed s) Each W past (step s x (logged past)) (each_step x (logged past) each) (steps_step s x past due ready));
  }

  pub at_end : (ends : Ends) (ticks : Option ℕ) (turns : ℕ) (es : List TraceEntry) (end : RunResult) → Execution (life s ends ticks turns) es (Return end) → Each end.history
  at_end ends ticks turns es end way = let so = so_at_end s (Allowed s) (λ (past : Past). Each (logged past)) each_noted ends ticks turns es end way in subst Each (sym so.0) so.1
