-- What a replay of a recorded run has in common with it.
use Rattle.std.proofs.Common.{◌≡◌, ◌⊎◌, inl, inr, ℕ, zero, suc, ◌+◌, ◌||◌, Bool, true, false, List, [], ◌∷◌, ◌++◌, map, Option, Some, None, refl, sym, ap, ◌∙◌, subst, append_assoc}
use Rattle.std.specs.Prelude.{slice_get}
use Rattle.std.specs.List.{list_any}
use Rattle.std.specs.Option.{option_map_or}
use Rattle.fwd_outside.specs.Program.{entry, Return, Execution}
use Rattle.fwd_outside.specs.NewLinks.{AreNewLinks}
use Rattle.fwd_outside.specs.LoopAnswers.{AreLoopAnswers}
use Rattle.fwd_outside.specs.declared.happening.Happening.TheVariants as happening
use Rattle.fwd_settings.specs.declared.settings_types.AllSettings.{AllSettings}
use Rattle.fwd_settings.specs.declared.settings_types.InputSet.{InputSet}
use Rattle.fwd_settings.specs.declared.settings_types.InputKind.{InputKind}
use Rattle.fwd_settings.specs.declared.settings_types.InputKind.TheVariants as kind
use Rattle.fwd_table.specs.Row.{Row}
use Rattle.fwd_table.specs.declared.tally.Tally.{Tally}
use Rattle.fwd_report.specs.Report.{report_of}
use Rattle.fwd_model.specs.Fact.{History, Happened}
use Rattle.fwd_model.specs.Trace.{Call, Answer, TraceEntry, OnLoop, OnDisk, OnFiles, OnKeeper, Note, loop_part, disk_part, history_after}
use Rattle.fwd_model.specs.Settings.{paths_at, followed_paths}
use Rattle.fwd_model.specs.Routes.{rows_of}
use Rattle.fwd_model.specs.Counters.{tally_of}
use Rattle.fwd_model.specs.Run.{RunResult, End, Over, TurnsSpent}
use Rattle.fwd_secure.specs.Handshakes.{Handshakes, no_handshakes}
use Rattle.fwd_secure_settings.specs.Keys.{keys_of}
use Rattle.fwd_secure_trace.specs.Secured.{IsSecured}
use Rattle.fwd_script_loop.specs.LinkBytes.{handed}
use Rattle.fwd_record.specs.Seen.{Seen, Answered, calls_of}
use Rattle.fwd_record.specs.Allowed.{AreAllowed}
use Rattle.fwd_replay.specs.RecordedRun.{follows_files, HasTail, runs_on, HasReport}
use Rattle.fwd_replay.specs.Runs.{first, IsLife}
use Rattle.fwd_replay.specs.Text.{input_names, output_names, report}
use Rattle.fwd_theorem_links.specs.RenamedLinks.{renamed_history, renamed_result, renamed_trace}
use Rattle.fwd_theorem_links.proofs.Counts.{tally_same}
use Rattle.fwd_theorem_links.proofs.Histories.{due_same, tries_same}
use Rattle.fwd_theorem_links.proofs.Rows.{rows_same}
use Rattle.fwd_theorem_runs.specs.SplitRun.{empty_recovery}
use Rattle.fwd_theorem_recorded.specs.Replays.{life_of, AreSameCounts, ReachesSameCounts, IsReplayOf}
use Rattle.fwd_theorem_recorded.proofs.ReplayNeeds.{CanReplay}
use Rattle.fwd_theorem_recorded.specs.SameRun.{IsSameRun}
use Rattle.fwd_theorem_recorded.proofs.KeyedTraces.{renamed_append}
use Rattle.fwd_theorem_recorded.proofs.MadeTrace.{Closing, numbers, close, made_above, made_below, made, made_loop, made_handed, made_disk}
use Rattle.fwd_theorem_recorded.proofs.SameRun.{same_run}

-- ---- settings without followed files

unfollowed : (k : InputKind) → follows_files k ≡ false → followed_paths k ≡ []
unfollowed (kind.Tail paths from_head) is = absurd (cc is)
unfollowed (kind.Tcp host port) is = refl
unfollowed (kind.Forward host port) is = refl
unfollowed kind.Stdin is = refl

untailed_at : (inputs : List InputSet) → (list_any (λ (input : InputSet). follows_files input.kind) inputs ≡ true → ⊥) → (input : ℕ)
    → option_map_or (λ (set : InputSet). followed_paths set.kind) (slice_get inputs input) [] ≡ []
untailed_at [] untailed input = refl
untailed_at (set ∷ inputs) untailed zero = by (follows_files set.kind) refl untailed
  where
    by : (b : Bool) → follows_files set.kind ≡ b → ((b || list_any (λ (input : InputSet). follows_files input.kind) inputs) ≡ true → ⊥) → followed_paths set.kind ≡ []
    by true is never = absurd (never refl)
    by false is never = unfollowed set.kind is
untailed_at (set ∷ inputs) untailed (suc input) = untailed_at inputs (later (follows_files set.kind) untailed) input
  where
    later : (b : Bool) → ((b || list_any (λ (input : InputSet). follows_files input.kind) inputs) ≡ true → ⊥) → list_any (λ (input : InputSet). follows_files input.kind) inputs ≡ true → ⊥
    later true never is = never refl
    later false never is = never is

pub untailed_paths : (s : AllSettings) → (HasTail s → ⊥) → (input : ℕ) → paths_at s input ≡ []
untailed_paths s untailed input = untailed_at s.inputs untailed input

-- ---- histories by other numbers of links

module _ (rename : ℕ → ℕ) where
  pub history_renamed : (es : List TraceEntry) (h : History) → history_after (renamed_trace rename es) (renamed_history rename h) ≡ renamed_history rename (history_after es h)
  history_renamed [] h = refl
  history_renamed (e ∷ es) h = by e.call e.answer (history_renamed es)
    where
      by : (call : Call) (answer : Answer call) → ((now : History) → history_after (renamed_trace rename es) (renamed_history rename now) ≡ renamed_history rename (history_after es now))
          → history_after (renamed_trace rename (entry call answer ∷ es)) (renamed_history rename h) ≡ renamed_history rename (history_after (entry call answer ∷ es) h)
      by (OnLoop call) answer rest = rest h
      by (OnDisk call) answer rest = rest h
      by (OnFiles call) answer rest = rest h
      by (OnKeeper call) answer rest = rest h
      by (Note fact) answer rest = rest (fact ∷ h)

  same_counts : (s : AllSettings) (h other : History) → other ≡ renamed_history rename h → AreSameCounts s h other
  same_counts s h other is = subst (AreSameCounts s h) (sym is) (record {
    rows = rows_same rename s h;
    tries = λ r. tries_same rename h r;
    due = λ r. due_same rename s h r;
    tally = tally_same rename s h;
  })

  report_with : AllSettings → List Row → Tally → List ℕ
  report_with s rows tally = report_of (input_names s.inputs) (output_names s.outputs) rows tally

  report_renamed : (s : AllSettings) (h : History) → report s (renamed_history rename h) ≡ report s h
  unfolding report_with
  report_renamed s h =
      ap (λ (rows : List Row). report_with s rows (tally_of s (renamed_history rename h))) (rows_same rename s h)
      ∙ ap (λ (tally : Tally). report_with s (rows_of s h) tally) (tally_same rename s h)

-- the end changes no report
report_at_end : (s : AllSettings) (h : History) → report s (Happened happening.End ∷ h) ≡ report s h
report_at_end s h = refl

recovered_nothing : (path : Option (List ℕ)) (es : List TraceEntry) → history_after (empty_recovery path ++ es) [] ≡ history_after es []
recovered_nothing None es = refl
recovered_nothing (Some root) es = refl

-- ---- the replay

module _ (s : AllSettings) (none : (input : ℕ) → paths_at s input ≡ []) (turns : ℕ) (trace below : List TraceEntry) (k : Handshakes) (result : RunResult) (endless : Bool) (seen : List Seen)
    (way : Execution (runs_on s None turns) trace (Return result)) (ended : HasReport result) (so : IsSecured (keys_of s) no_handshakes trace below k) (answers : AreLoopAnswers (loop_part trace))
    (saw : seen ≡ map Answered (loop_part below)) (allowed : AreAllowed endless (calls_of seen)) (new : AreNewLinks 0 (calls_of seen)) (can : CanReplay s below k result seen) where
  abbrev by_numbers : ℕ → ℕ
  by_numbers = numbers s none turns trace below k result endless seen way ended so answers saw allowed new can

  abbrev closed : Closing s turns trace k result
  closed = close s none turns trace below k result endless seen way ended so answers saw allowed new can

  abbrev recovery : List TraceEntry
  recovery = empty_recovery s.service.path

  step_same : (replay front rest : List TraceEntry) → replay ≡ made_above s none turns trace below k result endless seen way ended so answers saw allowed new can → trace ≡ front ++ rest → ReachesSameCounts s (history_after front []) replay
  step_same replay front rest same split =
      let parted : recovery ++ (trace ++ closed.closing) ≡ (recovery ++ front) ++ (rest ++ closed.closing) =
      ap (λ (l : List TraceEntry). recovery ++ (l ++ closed.closing)) split ∙ ap (λ (l : List TraceEntry). recovery ++ l) (append_assoc front rest closed.closing) ∙ sym (append_assoc recovery front (rest ++ closed.closing)) in
      record {
        front = renamed_trace by_numbers (recovery ++ front);
        rest = renamed_trace by_numbers (rest ++ closed.closing);
        is = same ∙ ap (renamed_trace by_numbers) parted ∙ renamed_append by_numbers (recovery ++ front) (rest ++ closed.closing);
        same =
            same_counts by_numbers s (history_after front []) (history_after (renamed_trace by_numbers (recovery ++ front)) [])
            (history_renamed by_numbers (recovery ++ front) [] ∙ ap (renamed_history by_numbers) (recovered_nothing s.service.path front));
      }

  closed_report : (closed.comes.history ≡ result.history) ⊎ (closed.comes.history ≡ Happened happening.End ∷ result.history) → report s closed.comes.history ≡ report s result.history
  closed_report (inl same) = ap (report s) same
  closed_report (inr ended) = ap (report s) ended ∙ report_at_end s result.history

  over_spent : (comes : End) → comes ≡ Over → comes ≡ TurnsSpent → ⊥
  over_spent comes over spent = absurd (cc (sym over ∙ spent))

  pub replay_of : (turns2 : ℕ) (replay : List TraceEntry) (comes : RunResult) (is : IsLife s turns2 first (life_of s seen below) replay comes) → (comes.end ≡ TurnsSpent → ⊥)
      → IsReplayOf s trace below result seen replay is.below comes
  replay_of turns2 replay comes is unspent =
      let same : IsSameRun (made_above s none turns trace below k result endless seen way ended so answers saw allowed new can)
      (made_below s none turns trace below k result endless seen way ended so answers saw allowed new can) (renamed_result by_numbers closed.comes) replay is.below comes =
      same_run s first (life_of s seen below) (turns + 1) turns2 _ replay (renamed_result by_numbers closed.comes) comes
      (made s none turns trace below k result endless seen way ended so answers saw allowed new can) is (over_spent closed.comes.end closed.over) unspent in
      record {
        until = 0;
        paused = 0;
        last = loop_part closed.closing;
        last_is = closed.last;
        calls = ap loop_part same.same_below ∙ made_loop s none turns trace below k result endless seen way ended so answers saw allowed new can;
        handed = λ outputs. ap (λ (l : List TraceEntry). handed outputs [] (loop_part l)) same.same_below ∙ made_handed s none turns trace below k result endless seen way ended so answers saw allowed new can outputs;
        disk = ap disk_part same.same_below ∙ made_disk s none turns trace below k result endless seen way ended so answers saw allowed new can;
        steps = λ front rest split. step_same replay front rest same.same_trace split;
        over = ap (λ (r : RunResult). r.end) same.same_result ∙ closed.over;
        reports = ap (λ (r : RunResult). report s r.history) same.same_result ∙ report_renamed by_numbers s closed.comes.history ∙ closed_report closed.history;
      }
