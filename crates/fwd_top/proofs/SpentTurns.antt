-- The turns of a replay.
use Rattle.std.proofs.Common.{◌≡◌, ◌≢◌, inl, inr, ℕ, ◌+◌, ◌-◌, ◌*◌, ◌<◌, ◌≤◌, List, [], ◌∷◌, ◌++◌, length, Option, None, refl, sym, ap, ◌∙◌, subst, arith}
use Rattle.std.proofs.lemmas.Bool.{cases_lt}
use Rattle.std.proofs.lemmas.List.{length-map}
use Rattle.fwd_outside.specs.Program.{Return, Execution}
use Rattle.fwd_outside.specs.Loop.{LoopEntry}
use Rattle.fwd_outside.specs.declared.ends.Ends.{Ends}
use Rattle.fwd_settings.specs.Endpoints.{ends_of}
use Rattle.fwd_settings.specs.declared.settings_types.AllSettings.{AllSettings}
use Rattle.fwd_script.specs.declared.schedule.Life.{Life}
use Rattle.fwd_script_loop.specs.Lines.{coming, given_of}
use Rattle.fwd_script_loop.specs.PauseMask.{happening_of}
use Rattle.fwd_script_loop.specs.Place.{ArePlayed, IsPlayed, beginning}
use Rattle.fwd_script_loop.proofs.PlayedCalls.{played_first}
use Rattle.fwd_model.specs.Trace.{Action, TraceEntry, loop_part}
use Rattle.fwd_model.proofs.CallLogs.{loop_append}
use Rattle.fwd_model.specs.Run.{End, Over, DiskFailed, KeeperFailed, LoopFailed, TurnsSpent, RunResult, lived, life}
use Rattle.fwd_secure.specs.Keys.{has_keys}
use Rattle.fwd_secure.specs.Handshakes.{Handshakes, no_handshakes}
use Rattle.fwd_secure.specs.Secure.{most_of}
use Rattle.fwd_secure_settings.specs.Keys.{keys_of}
use Rattle.fwd_secure.specs.Carried.{Carries}
use Rattle.fwd_secure_trace.specs.Secured.{IsSecured}
use Rattle.fwd_secure_trace.proofs.Secured.{carried, carries_splits, secured_append}
use Rattle.fwd_theorem_trace.specs.Waits.{waits_in}
use Rattle.fwd_theorem_trace.proofs.WaitCounts.{waits_append}
use Rattle.fwd_theorem_replay.proofs.CutRun.{cut_life}
use Rattle.fwd_theorem_replay.proofs.EventsTaken.{left_at}
use Rattle.fwd_theorem_replay.proofs.TurnsSpent.{life_enough}
use Rattle.fwd_theorem_steps.specs.Turns.{EndsForCause, HasTurns, NoTurn, WholeTurns}
use Rattle.fwd_replay.specs.Runs.{Start, IsLife, IsReplayed, Ended, WasCut, OutOfMemory}
use Rattle.fwd_replay.specs.Text.{life_text, reported_by}
use Rattle.fwd_replay.specs.declared.report.Ending.TheVariants as ending
use Rattle.fwd_replay.specs.declared.report.Reported.{Reported}
use Rattle.fwd_replay.specs.declared.report.Shown.{Shown}
use Rattle.fwd_top.specs.EnoughTurns.{enough_turns}

-- the end of a run whose report says that its turns were spent
end_spent : (text : List ℕ) (end : End) → (reported_by text end).ending ≡ ending.TurnsSpent → end ≡ TurnsSpent
end_spent text Over is = absurd (cc is)
end_spent text DiskFailed is = absurd (cc is)
end_spent text KeeperFailed is = absurd (cc is)
end_spent text LoopFailed is = absurd (cc is)
end_spent text TurnsSpent is = refl

none_waited : (waits n : ℕ) → waits ≡ 0 → waits ≤ n + 1
none_waited waits n none = omega (arith, none)

one_turn_more : (all whole since turns n m : ℕ) → all ≡ whole + since → whole ≡ turns → since ≤ 1 → turns ≤ m + 0 → m ≡ n → all ≤ n + 1
one_turn_more all whole since turns n m sum spent few enough same = omega (arith, sum, spent, few, enough, same)

few_left : (turns n rest : ℕ) → turns ≤ n → turns < (n + 1) + rest
few_left turns n rest few = omega (arith, few)

few_in_all : (turns waits n rest : ℕ) → waits ≤ n + 1 → turns - waits < rest → turns < (n + 1) + rest
few_in_all turns waits n rest few left = omega (arith, few, left)

module _ (by_turns : (s : AllSettings) (ends : Ends) (ticks : Option ℕ) (turns : ℕ) (entries : List TraceEntry) (left : Action RunResult) → Execution (life s ends ticks turns) entries left → HasTurns s ends ticks entries)
    (for_cause : (s : AllSettings) (ends : Ends) (ticks : Option ℕ) (turns : ℕ) (came : RunResult) (entries : List TraceEntry) → Execution (life s ends ticks turns) entries (Return came) → EndsForCause s turns entries came)
    (ends_run : (s : AllSettings) (turns : ℕ) (start : Start) (planned : Life) (trace : List TraceEntry) (comes : RunResult) → IsLife s turns start planned trace comes → most_of (has_keys (keys_of s)) * length (coming 0 planned.lines) < turns → comes.end ≢ TurnsSpent)
    (s : AllSettings) where
  abbrev needed : Life → ℕ
  needed planned = most_of (has_keys (keys_of s)) * length (coming 0 planned.lines)

  -- a run of a schedule waits once for each of its events at most, and once more
  waits_are_few : (planned : Life) (turns : ℕ) (trace below : List TraceEntry) (left : Action RunResult) (k : Handshakes) → Execution (life s (ends_of s) None turns) trace left → IsSecured (keys_of s) no_handshakes trace below k
      → IsPlayed (given_of planned) (loop_part below) → waits_in trace ≤ needed planned + 1
  waits_are_few planned turns trace below left k way secured played = by (by_turns s (ends_of s) None turns trace left way)
    where
      by : HasTurns s (ends_of s) None trace → waits_in trace ≤ needed planned + 1
      by (NoTurn none) = none_waited (waits_in trace) (needed planned) none
      by (WholeTurns last) =
          let parts : loop_part trace ≡ loop_part last.whole ++ loop_part last.since = ap loop_part last.is ∙ loop_append last.whole last.since in
          let split = carries_splits (keys_of s) no_handshakes k (loop_part last.whole) (loop_part last.since) (loop_part below)
          (subst (λ (l : List LoopEntry). Carries (keys_of s) no_handshakes (loop_part below) l k) parts (carried (keys_of s) no_handshakes k trace below secured)) in
          let all : ArePlayed (beginning (given_of planned)) (split.first ++ split.second) = subst (λ (l : List LoopEntry). ArePlayed (beginning (given_of planned)) l) split.is played in
          let enough = life_enough s (lived last.history TurnsSpent) refl (ends_of s) last.turns (beginning (given_of planned)) no_handshakes split.at last.whole split.first last.way split.before (played_first (beginning (given_of planned)) split.first split.second all) in
          let spent : waits_in last.whole ≡ last.turns = (for_cause s (ends_of s) None last.turns (lived last.history TurnsSpent) last.whole last.way).spent refl in
          one_turn_more (waits_in trace) (waits_in last.whole) (waits_in last.since) last.turns (needed planned) (most_of (has_keys (keys_of s)) * left_at (beginning (given_of planned)))
          (ap waits_in last.is ∙ waits_append last.whole last.since) spent last.few enough (ap (λ (n : ℕ). most_of (has_keys (keys_of s)) * n) (length-map (coming 0 planned.lines) happening_of))

  pub few_turns : (shown : Shown) (turns : ℕ) (start : Start) (lives : List Life) (reported : Reported) → IsReplayed shown s turns start lives reported → reported.ending ≡ ending.TurnsSpent → turns < enough_turns s lives
  few_turns shown turns start [] reported is spent = absurd (cc (sym (ap (λ (r : Reported). r.ending) is) ∙ spent))
  few_turns shown turns start (planned ∷ lives) reported (Ended ends) spent = elim (cases_lt (needed planned) turns) [
    | inl more ↦ absurd (ends_run s turns start planned ends.trace ends.comes ends.is more
        (end_spent (life_text shown s ends.is.below ends.comes.history) ends.comes.end (sym (ap (λ (r : Reported). r.ending) ends.reports) ∙ spent)))
    | inr few ↦ few_left turns (needed planned) (enough_turns s lives) few
  ]
  few_turns shown turns start (planned ∷ lives) reported (WasCut c cut rest next joins) spent =
      let begun = cut_life s turns start planned c cut in
      let whole = secured_append (keys_of s) no_handshakes c.handshakes c.handshakes_last c.before c.turn c.below c.below_in cut.secured cut.secured_in in
      few_in_all turns (waits_in (c.before ++ c.turn)) (needed planned) (enough_turns s lives)
      (waits_are_few planned begun.turns (c.before ++ c.turn) (c.below ++ c.below_in) begun.left c.handshakes_last begun.way whole cut.answered.loop)
      (few_turns shown (turns - waits_in (c.before ++ c.turn)) c.next lives rest next (sym (ap (λ (r : Reported). r.ending) joins) ∙ spent))
  few_turns shown turns start (planned ∷ lives) reported (OutOfMemory none) spent = absurd (cc (sym (ap (λ (r : Reported). r.ending) none) ∙ spent))
