-- What a replay of a recorded run prints.
use Rattle.std.proofs.Common.{◌≡◌, inl, inr, ℕ, List, [], ◌∷◌, ◌++◌, sym, ap, ◌∙◌}
use Rattle.fwd_settings.specs.declared.settings_types.AllSettings.{AllSettings}
use Rattle.fwd_model.specs.Trace.{TraceEntry}
use Rattle.fwd_model.specs.Run.{RunResult, End, Over, TurnsSpent}
use Rattle.fwd_record.specs.Seen.{Seen, calls_of}
use Rattle.fwd_replay.specs.RecordedRun.{HasReport}
use Rattle.fwd_replay.specs.Runs.{first, IsLife, EndsIn, IsReplayed, Ended, WasCut, OutOfMemory}
use Rattle.fwd_replay.specs.Text.{report, reported_by, life_text, stdout_mask, with_line_end}
use Rattle.fwd_replay.specs.declared.report.Ending.TheVariants as ending
use Rattle.fwd_replay.specs.declared.report.Reported.{Reported}
use Rattle.fwd_replay.specs.declared.report.Shown.TheVariants.{All}
use Rattle.fwd_theorem_recorded.specs.HandedBytes.{handed_from}
use Rattle.fwd_theorem_recorded.specs.Replays.{life_of, IsReplayOf, ReplaysTheRun}

ending_spent : (text : List ℕ) (end : End) → end ≡ TurnsSpent → (reported_by text end).ending ≡ ending.TurnsSpent
ending_spent text end is = ap (λ (e : End). (reported_by text e).ending) is

ending_over : (text : List ℕ) (end : End) → end ≡ Over → (reported_by text end).ending ≡ ending.Over
ending_over text end is = ap (λ (e : End). (reported_by text e).ending) is

text_over : (text : List ℕ) (end : End) → end ≡ Over → (reported_by text end).text ≡ text
text_over text end is = ap (λ (e : End). (reported_by text e).text) is

text_reported : (text : List ℕ) (result : RunResult) → HasReport result → (reported_by text result.end).text ≡ text
text_reported text result (inl over) = text_over text result.end over
text_reported text result (inr spent) = ap (λ (e : End). (reported_by text e).text) spent

module _ (s : AllSettings) (trace below : List TraceEntry) (result : RunResult) (seen : List Seen) (reported : Reported) (turns : ℕ)
    (ended : HasReport result) (reports : reported ≡ reported_by (report s result.history) result.end)
    (again : (replay : List TraceEntry) (comes : RunResult) (is : IsLife s turns first (life_of s seen below) replay comes) → (comes.end ≡ TurnsSpent → ⊥)
    → IsReplayOf s trace below result seen replay is.below comes) where
  ended_replay : (replayed : Reported) → EndsIn All s turns first (life_of s seen below) replayed → (replayed.ending ≡ ending.TurnsSpent → ⊥) → ReplaysTheRun s trace below result seen reported turns replayed
  ended_replay replayed shown unspent =
      let text : List ℕ = life_text All s shown.is.below shown.comes.history in
      let left : shown.comes.end ≡ TurnsSpent → ⊥ = λ spent. unspent (ap (λ (r : Reported). r.ending) shown.reports ∙ ending_spent text shown.comes.end spent) in
      let is : IsReplayOf s trace below result seen shown.trace shown.is.below shown.comes = again shown.trace shown.comes shown.is left in
      record {
        replay = shown;
        is = is;
        over = ap (λ (r : Reported). r.ending) shown.reports ∙ ending_over text shown.comes.end is.over;
        text =
            ap (λ (r : Reported). r.text) shown.reports
            ∙ text_over text shown.comes.end is.over
            ∙ ap (λ (taken : List ℕ). with_line_end taken ++ report s shown.comes.history) (is.handed (stdout_mask s.outputs))
            ∙ ap (λ (own : List ℕ). with_line_end (handed_from (stdout_mask s.outputs) [] [] (calls_of seen)) ++ own)
            (is.reports ∙ sym (text_reported (report s result.history) result ended) ∙ sym (ap (λ (r : Reported). r.text) reports));
      }

  pub replays_the_run : (replayed : Reported) → IsReplayed All s turns first (life_of s seen below ∷ []) replayed → (replayed.ending ≡ ending.TurnsSpent → ⊥) → (replayed.ending ≡ ending.Memory → ⊥)
      → ReplaysTheRun s trace below result seen reported turns replayed
  replays_the_run replayed (Ended shown) unspent enough = ended_replay replayed shown unspent
  replays_the_run replayed (WasCut c cut rest next joins) unspent enough = absurd (cc cut.is)
  replays_the_run replayed (OutOfMemory is) unspent enough = absurd (enough (ap (λ (r : Reported). r.ending) is))
