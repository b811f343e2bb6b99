-- A schedule can express what the loop answered in a run.
use Rattle.std.proofs.Common.{◌≡◌, ◌⊎◌, inl, inr, ℕ, Bool, true, false, List, [], ◌∷◌, ◌++◌, map, Option, Some, None, refl, sym, ap, ◌∙◌, subst}
use Rattle.fwd_outside.specs.Program.{entry, Return, Execution}
use Rattle.fwd_outside.specs.Loop.{LoopCall, LoopAnswer, LoopEntry, Start, Wait, Push}
use Rattle.fwd_outside.specs.NewLinks.{AreNewLinks}
use Rattle.fwd_outside.proofs.RisingLinks.{new_first}
use Rattle.fwd_outside.specs.declared.happening.Happening.{Happening}
use Rattle.fwd_outside.specs.declared.happening.Happening.TheVariants as happening
use Rattle.fwd_settings.specs.Endpoints.{ends_of}
use Rattle.fwd_settings.specs.declared.settings_types.AllSettings.{AllSettings}
use Rattle.fwd_model.specs.Trace.{TraceEntry, loop_part}
use Rattle.fwd_model.specs.KeptOffsets.{tracked}
use Rattle.fwd_model.specs.Run.{End, RunResult, Over, LoopFailed, TurnsSpent, is_end}
use Rattle.fwd_secure.specs.declared.keys.Keys.{Keys}
use Rattle.fwd_secure.specs.Handshakes.{Handshakes, no_handshakes}
use Rattle.fwd_secure.specs.Keys.{has_keys}
use Rattle.fwd_secure.specs.Carried.{Carries}
use Rattle.fwd_secure_settings.specs.Keys.{keys_of}
use Rattle.fwd_secure_trace.specs.Secured.{IsSecured}
use Rattle.fwd_secure_trace.proofs.Secured.{carried, carries_splits}
use Rattle.fwd_record.specs.Seen.{Answered}
use Rattle.fwd_record.specs.Links.{Links, no_links, links_after, links_behind}
use Rattle.fwd_record.specs.Recorded.{heard_in}
use Rattle.fwd_record.specs.Played.{EndsLast, CanReplay, AreReplayable}
use Rattle.fwd_record.proofs.AllowedCalls.{new_links_rise}
use Rattle.fwd_replay.specs.RecordedRun.{runs_on, HasReport}
use Rattle.fwd_theorem_delivery.specs.OpenLinks.{AreOnOpenLinks}
use Rattle.fwd_theorem_delivery.proofs.RunEnd.{whole_at_end}
use Rattle.fwd_theorem_runs.specs.SplitRun.{empty_recovery}
use Rattle.fwd_theorem_runs.proofs.EmptyRecovery.{on_empty}
use Rattle.fwd_theorem_recorded.proofs.KeyedPushes.{IsReplayed, AreReplayed, AreGreetingOpen, replayed_plain, keyed_replayed, keyed_end, unkeyed_same}
use Rattle.fwd_theorem_recorded.proofs.PlacedLinks.{ArePlaced, placed_since, placed_first}
use Rattle.fwd_theorem_recorded.proofs.RunEvents.{EndIsLast, end_is_last}

-- ---- calls that a schedule can express

can_replay : (so_far : Links) (call : LoopCall) (answer : LoopAnswer call) (later : List Happening) → IsReplayed so_far call answer → CanReplay so_far call answer later
can_replay so_far (Start ends) answer later is = is
can_replay so_far (Wait until paused) brought later is = by brought is
  where
    by : (x : Happening) → is_end x ≡ false → EndsLast x later
    by happening.End is = absurd (cc is)
    by x is = tt
can_replay so_far (Push link bytes) answer later (output, is) = λ none. absurd (some_none (sym is ∙ none))
  where
    some_none : Some output ≡ None → ⊥
    some_none e = cc e
can_replay so_far call answer later is = tt

replayable : (so_far : Links) (es : List LoopEntry) → AreReplayed so_far es → AreReplayable so_far (map Answered es)
replayable so_far [] are = tt
replayable so_far (e ∷ es) are = (can_replay so_far e.call e.answer (heard_in (map Answered es)) are.0, replayable (links_after so_far e.call e.answer) es are.1)

-- with a last wait for the end
replayable_to : (so_far : Links) (es : List LoopEntry) (until paused : ℕ) → AreReplayed so_far es → AreReplayable so_far (map Answered (es ++ entry (Wait until paused) happening.End ∷ []))
replayable_to so_far [] until paused are = (refl, tt)
replayable_to so_far (e ∷ es) until paused are = (
  can_replay so_far e.call e.answer (heard_in (map Answered (es ++ entry (Wait until paused) happening.End ∷ []))) are.0,
  replayable_to (links_after so_far e.call e.answer) es until paused are.1,
)

-- ---- the calls below a keyed loop

no_greeting : AreGreetingOpen no_links no_handshakes.links
no_greeting = record { rising = tt; are_open = λ link handshake there. absurd (cc there) }

module _ (keys : Keys) (below above : List LoopEntry) (t : Handshakes) (carries : Carries keys no_handshakes below above t) (new : AreNewLinks 0 above) (placed : ArePlaced no_links above) where
  with_keys : has_keys keys ≡ true → EndIsLast above → AreReplayable no_links (map Answered below)
  with_keys keyed (inl plain) = replayable no_links below (keyed_replayed keys keyed no_handshakes t below above no_links carries no_greeting refl (new_links_rise 0 above new) plain placed).0
  with_keys keyed (inr (front, until, paused, is, plain)) =
      let for_end : List LoopEntry = entry (Wait until paused) happening.End ∷ [] in
      let split = carries_splits keys no_handshakes t front for_end below (subst (λ (l : List LoopEntry). Carries keys no_handshakes below l t) is carries) in
      let first = keyed_replayed keys keyed no_handshakes split.at split.first front no_links split.before no_greeting refl (new_links_rise 0 front (new_first 0 front for_end (subst (AreNewLinks 0) is new))) plain
      (placed_first no_links front for_end (subst (ArePlaced no_links) is placed)) in
      let last : split.second ≡ for_end = keyed_end keys keyed split.at t split.second until paused (links_behind no_links front) first.1 split.after in
      subst (λ (l : List LoopEntry). AreReplayable no_links (map Answered l)) (sym (split.is ∙ ap (λ (l : List LoopEntry). split.first ++ l) last)) (replayable_to no_links split.first until paused first.0)

  without_keys : below ≡ above → EndIsLast above → AreReplayable no_links (map Answered below)
  without_keys same (inl plain) = subst (λ (l : List LoopEntry). AreReplayable no_links (map Answered l)) (sym same) (replayable no_links above (replayed_plain no_links above plain placed))
  without_keys same (inr (front, until, paused, is, plain)) =
      subst (λ (l : List LoopEntry). AreReplayable no_links (map Answered l)) (sym (same ∙ is))
      (replayable_to no_links front until paused (replayed_plain no_links front plain (placed_first no_links front (entry (Wait until paused) happening.End ∷ []) (subst (ArePlaced no_links) is placed))))

  below_replayable : EndIsLast above → AreReplayable no_links (map Answered below)
  below_replayable ends = by (has_keys keys) refl
    where
      by : (b : Bool) → has_keys keys ≡ b → AreReplayable no_links (map Answered below)
      by true keyed = with_keys keyed ends
      by false unkeyed = without_keys (unkeyed_same keys unkeyed no_handshakes t below above carries) ends

-- ---- a run

pub recovery_loop : (path : Option (List ℕ)) (es : List TraceEntry) → loop_part (empty_recovery path ++ es) ≡ loop_part es
recovery_loop None es = refl
recovery_loop (Some root) es = refl

not_failed : (end : End) → (end ≡ Over) ⊎ (end ≡ TurnsSpent) → end ≡ LoopFailed → ⊥
not_failed end (inl over) failed = absurd (cc (sym over ∙ failed))
not_failed end (inr spent) failed = absurd (cc (sym spent ∙ failed))

module _ (s : AllSettings) (untracked : tracked s ≡ []) (turns : ℕ) (trace below : List TraceEntry) (k : Handshakes) (result : RunResult) (way : Execution (runs_on s None turns) trace (Return result)) (ended : HasReport result)
    (so : IsSecured (keys_of s) no_handshakes trace below k) (new : AreNewLinks 0 (loop_part trace)) where
  on_open : AreOnOpenLinks [] (loop_part trace)
  on_open =
      subst (AreOnOpenLinks []) (recovery_loop s.service.path trace)
      (whole_at_end s (ends_of s) None turns (empty_recovery s.service.path ++ trace) result (on_empty s (ends_of s) None turns trace (Some []) result refl way)
      (subst (AreNewLinks 0) (sym (recovery_loop s.service.path trace)) new)).1.opened

  pub run_replayable : AreReplayable no_links (map Answered (loop_part below))
  run_replayable =
      below_replayable (keys_of s) (loop_part below) (loop_part trace) k (carried (keys_of s) no_handshakes k trace below so) new (placed_since [] (loop_part trace) new on_open)
      (end_is_last s untracked turns trace result way (not_failed result.end ended))
