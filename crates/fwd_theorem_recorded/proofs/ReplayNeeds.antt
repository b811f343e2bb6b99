-- What the proofs need of a recorded run: its disk answered as one in memory.
use Rattle.std.proofs.Common.{◌≡◌, ℕ, ◌-◌, ◌^◌, ◌≤◌, false, List, [], ◌∷◌, ◌++◌, map, length, Option, Some, None, refl, sym, ap, subst, ◌∙◌}
use Rattle.fwd_outside.specs.Program.{Return, Execution}
use Rattle.fwd_outside.specs.AtCrashPoints.{Ends}
use Rattle.fwd_outside.specs.Disk.{DiskEntry}
use Rattle.fwd_outside.specs.DiskStates.{Files}
use Rattle.fwd_outside.specs.Loop.{LoopEntry}
use Rattle.fwd_outside.specs.declared.ends.Ends.{Ends as InputEnds}
use Rattle.fwd_settings.specs.Endpoints.{ends_of}
use Rattle.fwd_settings.specs.Requirements.{MeetsRequirements}
use Rattle.fwd_settings.specs.declared.settings_types.AllSettings.{AllSettings}
use Rattle.fwd_model.specs.Trace.{Call, Answer, Action, TraceEntry, OnLoop, OnDisk, OnFiles, OnKeeper, Note, disk_entry, disk_part}
use Rattle.fwd_model.specs.Limits.{paused}
use Rattle.fwd_model.specs.RecoveryActions.{recovers}
use Rattle.fwd_model.specs.Run.{RunResult, TurnsSpent, after_recovery}
use Rattle.fwd_model.proofs.CallLogs.{disk_append}
use Rattle.fwd_secure.specs.declared.keys.Keys.{Keys}
use Rattle.fwd_secure.specs.Handshakes.{Handshakes, no_handshakes}
use Rattle.fwd_secure.specs.Kept.{holds}
use Rattle.fwd_secure_settings.specs.Keys.{keys_of}
use Rattle.fwd_secure_trace.specs.Secured.{CallIsSecured, IsSecured, on_loop}
use Rattle.fwd_secure_trace.proofs.Secured.{secured_append}
use Rattle.fwd_disk_mem.specs.declared.entry.MemEntry.TheVariants.{FailAt}
use Rattle.fwd_disk_mem.specs.Entry as disk
use Rattle.fwd_record.specs.Failures.{failed_from}
use Rattle.fwd_record.specs.Seen.{Seen, calls_of}
use Rattle.fwd_record.specs.Links.{links_in}
use Rattle.fwd_replay.specs.RecordedRun.{IsSeen, Unstopped, StoppedAfter, first_number, runs_on}
use Rattle.fwd_theorem_crash.specs.CrashPoint.{CrashPoint, crash_point, LeadsTo}
use Rattle.fwd_theorem_content.specs.KnownNames.{NamesAreKnown}
use Rattle.fwd_theorem_runs.specs.SplitRun.{empty_recovery}
use Rattle.fwd_theorem_disks.specs.InMemory as disks
use Rattle.fwd_theorem_disks.specs.InMemory.{number_after_recovery}
use Rattle.fwd_theorem_recorded.specs.Replays.{IsReplayable}

abbrev pub AnswersAsInMemory : Option (List ℕ) → List TraceEntry → Type 0
AnswersAsInMemory path below = disks.AnswersAsInMemory (first_number path) path below

pub record CanReplay (s : AllSettings) (below : List TraceEntry) (handshakes : Handshakes) (result : RunResult) (seen : List Seen) : Type 0 where
  pub disk : AnswersAsInMemory s.service.path below
  pub few : length (links_in (calls_of seen)) ≤ 2 ^ 64 - 1
  pub unheld : result.end ≡ TurnsSpent → holds (paused s result.history) handshakes.kept ≡ false

-- ---- the keyed loop makes the engine's calls on the disk

no_disk : (calls : List LoopEntry) → disk_part (map on_loop calls) ≡ []
no_disk [] = refl
no_disk (e ∷ calls) = no_disk calls

one_disk : (keys : Keys) (k u : Handshakes) (call : Call) (answer : Answer call) (own : List TraceEntry) → CallIsSecured keys k call answer own u → disk_part own ≡ disk_entry call answer
one_disk keys k u (OnLoop call) answer own is = ap disk_part is.1 ∙ no_disk is.0
one_disk keys k u (OnDisk call) answer own is = ap disk_part is.0
one_disk keys k u (OnFiles call) answer own is = ap disk_part is.0
one_disk keys k u (OnKeeper call) answer own is = ap disk_part is.0
one_disk keys k u (Note fact) answer own is = ap disk_part is.0

same_disk : (keys : Keys) (k t : Handshakes) (above below : List TraceEntry) → IsSecured keys k above below t → disk_part below ≡ disk_part above
same_disk keys k t [] below is = ap disk_part is.0
same_disk keys k t (e ∷ above) below (own, rest, u, are, one, more) =
    ap disk_part are ∙ disk_append own rest ∙ ap (λ (l : List DiskEntry). l ++ disk_part rest) (one_disk keys k u e.call e.answer own one)
    ∙ ap (λ (l : List DiskEntry). disk_entry e.call e.answer ++ l) (same_disk keys u t above rest more)

secured_seen : (s : AllSettings) (ticks : Option ℕ) (turns : ℕ) {trace below : List TraceEntry} {handshakes : Handshakes} {seen : List Seen} → IsSeen s ticks turns trace below handshakes seen → IsSecured (keys_of s) no_handshakes trace below handshakes
secured_seen s ticks turns (Unstopped _ _ _ result way secured) = secured
secured_seen s ticks turns (StoppedAfter first second first_below second_below stopped last stops before after) = secured_append (keys_of s) no_handshakes stopped last first second first_below second_below before after

-- ---- its disk

same_number : (path : Option (List ℕ)) → number_after_recovery path ≡ first_number path
same_number None = refl
same_number (Some root) = refl

-- what a disk answers
abbrev pub DisksAnswer : Type 0
DisksAnswer =
    (s : AllSettings) (ends : InputEnds) (ticks : Option ℕ) (turns : ℕ) (start : Files) (recovery trace : List TraceEntry) (left : Action RunResult) (last : CrashPoint)
    → MeetsRequirements s → NamesAreKnown start
    → Execution (recovers s) recovery (Return (Some [])) → Execution (after_recovery s ends ticks turns (Some [])) trace left
    → Ends LeadsTo (crash_point [] start) (recovery ++ trace) last → length (disk_part trace) ≤ 2 ^ 64 - 2
    → disks.AnswersAsInMemory (number_after_recovery s.service.path) s.service.path trace

-- what is said of the calls on the disk alone
by_disk : (number other : ℕ) (path : Option (List ℕ)) (trace below : List TraceEntry) → number ≡ other → disk_part below ≡ disk_part trace → disks.AnswersAsInMemory number path trace → disks.AnswersAsInMemory other path below
by_disk number other path trace below same calls is =
    subst (λ (n : ℕ). disks.AnswersAsInMemory n path below) same (record {
      asked = is.asked;
      are = is.are ∙ disk_append (empty_recovery path) trace ∙ ap (λ (l : List DiskEntry). disk_part (empty_recovery path) ++ l) (sym calls) ∙ sym (disk_append (empty_recovery path) below);
      played = subst (λ (l : List DiskEntry). disk.IsPlayed (map (λ (n : ℕ). FailAt n) (failed_from number l)) is.asked) (sym calls) is.played;
    })

pub needs_of : DisksAnswer → (s : AllSettings) (ticks : Option ℕ) (turns : ℕ) (recovery trace below : List TraceEntry) (k : Handshakes) (result : RunResult) (seen : List Seen) → MeetsRequirements s
    → Execution (recovers s) recovery (Return (Some [])) → Execution (runs_on s ticks turns) trace (Return result) → IsSeen s ticks turns trace below k seen → IsReplayable s recovery trace k result seen → CanReplay s below k result seen
needs_of law s ticks turns recovery trace below k result seen sound loads way is_seen can = record {
  disk =
      by_disk (number_after_recovery s.service.path) (first_number s.service.path) s.service.path trace below (same_number s.service.path)
      (same_disk (keys_of s) no_handshakes k trace below (secured_seen s ticks turns is_seen))
      (law s (ends_of s) ticks turns can.disk.start recovery trace (Return result) can.disk.last sound can.disk.known loads way can.disk.way can.calls);
  few = can.few;
  unheld = can.unheld;
}
