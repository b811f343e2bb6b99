-- The turns of a run.
use Rattle.std.proofs.Common.{◌≡◌, ℕ, suc, ◌+◌, Bool, true, false, if◌then◌else◌, ◌&&◌, List, [], ◌∷◌, ◌++◌, find, max, Option, Some, None, is_some, Result, Ok, Err, OnOk, refl, sym, ◌∙◌, ap, subst, append_assoc, arith}
use Rattle.std.proofs.lemmas.List.{append-nil, map-append}
use Rattle.fwd_outside.specs.Program.{entry, Return, bind, Execution}
use Rattle.fwd_outside.specs.Log.{LogGrew}
use Rattle.fwd_outside.specs.LoopAnswers.{AreLoopAnswers}
use Rattle.fwd_outside.proofs.Executions.{way_trans, way_bind}
use Rattle.fwd_outside.specs.declared.happening.Happening.{Happening}
use Rattle.fwd_outside.specs.declared.happening.Happening.TheVariants as happening
use Rattle.fwd_outside.specs.Loop.{LoopEntry, Wait}
use Rattle.fwd_outside.specs.Disk.{DiskEntry}
use Rattle.fwd_outside.specs.Files.{FilesEntry, FilesGiven}
use Rattle.fwd_disk_mem.specs.declared.entry.MemEntry.{MemEntry}
use Rattle.fwd_disk_mem.specs.DiskState.{Seen}
use Rattle.fwd_disk_mem.specs.Entry as disk
use Rattle.fwd_disk_mem.proofs.CallTrace.{split_entries}
use Rattle.fwd_settings.specs.Endpoints.{ends_of}
use Rattle.fwd_settings.specs.declared.settings_types.AllSettings.{AllSettings}
use Rattle.fwd_script.specs.declared.schedule.Cut.{Cut}
use Rattle.fwd_files_mem.specs.declared.change.FileChange.{FileChange}
use Rattle.fwd_script.specs.declared.schedule.Life.{Life}
use Rattle.fwd_script.specs.declared.schedule.Planned.{Planned}
use Rattle.fwd_files_mem.specs.FilesState.{FilesState}
use Rattle.fwd_files_mem.specs.FilesAnswers.{IsPlayed}
use Rattle.fwd_files_mem.specs.MemFiles.{entries_from}
use Rattle.fwd_files_mem.specs.MemFiles as files
use Rattle.fwd_script_loop.specs.declared.queue.Coming.{Coming}
use Rattle.fwd_script_loop.specs.PauseMask.{hears}
use Rattle.fwd_script_loop.specs.ScriptRun.{ahead_after_calls, changes_between, next_in as script_next, told_of}
use Rattle.fwd_script_loop.specs.Lines.{coming, ends_life, given_of, line_ahead, place_in}
use Rattle.fwd_script_loop.specs.ScriptState.{ScriptState}
use Rattle.fwd_script_loop.specs.Told.{entries_of}
use Rattle.fwd_script_loop.proofs.EventPlaces.{coming_is}
use Rattle.fwd_model.specs.Fact.{History}
use Rattle.fwd_model.specs.Trace.{Call, Answer, Action, TraceEntry, OnLoop, OnDisk, OnFiles, OnKeeper, Note, loop_part, disk_part, files_part, keeper_part}
use Rattle.fwd_model.specs.KeptOffsets.{tracked, kept_at, puts}
use Rattle.fwd_model.specs.CallLogs.{CallLogs, LogsGrew, Completes}
use Rattle.fwd_model.specs.Settings.{saturating_plus}
use Rattle.fwd_model.specs.Clock.{clock}
use Rattle.fwd_model.specs.Limits.{paused}
use Rattle.fwd_model.specs.StepActions.{step}
use Rattle.fwd_model.specs.Run.{Over, LoopFailed, RunResult, lived, goes_on, unless_last, after_step, brought, run, life, is_over}
use Rattle.fwd_model.proofs.CallLogs.{logs_grew_both, disk_append, files_append, loop_append}
use Rattle.fwd_engine_state.specs.RefinesAction.{with_all}
use Rattle.fwd_engine_run.specs.EngineSteps.{TurnOutcome, as_turn, is_failed, waits}
use Rattle.fwd_engine_run.specs.Engine.{Engine}
use Rattle.fwd_engine_run.specs.EngineStop.{EngineStop}
use Rattle.fwd_engine_run.specs.EngineStop.TheVariants as stop
use Rattle.fwd_engine_run.specs.Turn.{Turn}
use Rattle.fwd_engine_run.specs.Turn.TheVariants as turn
use Rattle.fwd_theorem_trace.proofs.WaitCounts.{ArePlain, is_plain, plain_waitless, step_plain, waits_append}
use Rattle.fwd_secure.specs.Handshakes.{Handshakes, no_handshakes}
use Rattle.fwd_secure.specs.Keys.{has_keys}
use Rattle.fwd_secure.specs.Kept.{holds}
use Rattle.fwd_secure.specs.Secure.{Secure, IsSecure, log_of}
use Rattle.fwd_secure_settings.specs.Keys.{keys_of}
use Rattle.fwd_secure_trace.specs.Secured.{IsSecured}
use Rattle.fwd_secure_trace.proofs.Secured.{same_part, secured_append}
use Rattle.fwd_replay.specs.FileChanges.{Course, FilesAt, course_after, FilesAnswered, has_last, next_in}
use Rattle.fwd_replay.specs.Runs.{Start, course_of, disk_of}
use Rattle.fwd_replay.proofs.CallLog.{told_is}
use Rattle.fwd_base.specs.declared.memory.Memory.{Memory}
use Rattle.fwd_keeper.specs.Keeper.{KeeperEntry}
use Rattle.fwd_keeper_mem.specs.KeeperState.{KeeperState}
use Rattle.fwd_keeper_mem.specs.MemKeeper as kept_log
use Rattle.fwd_engine_run.specs.OffsetRows.{IsOverAlike, IsRow, Keeps, PutsOutcome, with_keeper}
use Rattle.fwd_engine_run.specs.declared.kept_offsets.KeptOffset.{KeptOffset}
use Rattle.fwd_engine_run.specs.declared.kept_offsets.KeptOffsets.{KeptOffsets}
use Rattle.fwd_replay.specs.RunState.{FilesRepresent, HasPut, IsKeyedLoop, IsOver, IsReady, IsInProgress, IsStepped, RunRepresents, TookTurn, TurnedIn, before_wait, takes_last}
use Rattle.fwd_replay.specs.RunState as stage
use Rattle.fwd_replay.specs.declared.progress.Going.{Going}
use Rattle.fwd_engine_run.proofs.OffsetActions.{AreAside, aside_disk, aside_loop, is_done, puts_leave}
use Rattle.fwd_engine_run.proofs.StepOffsets.{step_keeps_offsets}
use Rattle.fwd_replay.proofs.StillCalls.{AreStill, answers_of, aside_still, keeper_append, no_waits, none_last, stays_behind}
use Rattle.fwd_replay.proofs.Course.{Alike, ahead_is, alike_held, answered_append, behind_append, held_alike, lines_stay, plain_alike, plain_answered, plain_changed, played_second, uncut_append}
use Rattle.fwd_replay.proofs.KeyedCalls.{unkeyed_state}
use Rattle.fwd_replay.proofs.KeyedTurns.{Grown, TurnBelow, grown, turn_below, turn_uncut, unlooped}

-- ---- the calls of a turn

-- its wait, and the event that it returned
abbrev pub wait_of : AllSettings → History → Happening → TraceEntry
wait_of s h x = entry (OnLoop (Wait (saturating_plus (clock h) 250) (paused s h))) x

wait_is : (s : AllSettings) (h : History) (x : Happening) (es : List TraceEntry) → Execution (waits s h) es (Return x) → es ≡ wait_of s h x ∷ []
wait_is s h x [] way = absurd (cc way)
wait_is s h x (e ∷ []) way = ap (λ (one : TraceEntry). one ∷ []) (way.1 ∙ ap (λ (y : Happening). wait_of s h y) (cc way.2))
wait_is s h x (e ∷ more ∷ es) way = absurd way.2

brought_is : (s : AllSettings) (next : History → Action RunResult) (h : History) (x : Happening) → is_failed x ≡ false → brought s None next h x ≡ bind (step s x h) (after_step s None next x)
brought_is s next h happening.Failed is = absurd (cc is)
brought_is s next h happens is = refl

failed_is : (s : AllSettings) (next : History → Action RunResult) (h : History) (x : Happening) → is_failed x ≡ true → brought s None next h x ≡ Return (lived h LoopFailed)
failed_is s next h happening.Failed is = refl
failed_is s next h happens is = absurd (cc is)

-- a turn that takes the event of its wait, up to the puts, whatever number of turns is left after it
pub turn_stepped : (s : AllSettings) (h : History) (x : Happening) (es : List TraceEntry) (now : History) → is_failed x ≡ false → Execution (step s x h) es (Return now) → (more : ℕ)
    → Execution (run s None (suc more) h) (wait_of s h x ∷ es) (after_step s None (run s None more) x now)
unfolding run
turn_stepped s h x es now taken way more =
    let next : History → Action RunResult = after_step s None (run s None more) x in
    (x, refl, subst (λ (p : Action RunResult). Execution p es (next now)) (sym (brought_is s (run s None more) h x taken)) (way_bind (step s x h) (Return now) es next way))

-- one whose loop failed
pub turn_failed : (s : AllSettings) (h : History) (x : Happening) → is_failed x ≡ true → (more : ℕ) → Execution (run s None (suc more) h) (wait_of s h x ∷ []) (Return (lived h LoopFailed))
unfolding run
turn_failed s h x is more = (x, refl, sym (failed_is s (run s None more) h x is))

-- ---- the state of a run after a turn

plain_no_keeper : (call : Call) (answer : Answer call) (es : List TraceEntry) → is_plain call ≡ true → keeper_part es ≡ [] → keeper_part (entry call answer ∷ es) ≡ []
plain_no_keeper (OnLoop call) answer es plain none = none
plain_no_keeper (OnDisk call) answer es plain none = none
plain_no_keeper (OnFiles call) answer es plain none = none
plain_no_keeper (OnKeeper call) answer es plain none = absurd (cc plain)
plain_no_keeper (Note fact) answer es plain none = none

pub no_keeper : (es : List TraceEntry) → ArePlain es → keeper_part es ≡ []
no_keeper [] plain = refl
no_keeper (e ∷ es) plain = plain_no_keeper e.call e.answer es plain.0 (no_keeper es plain.1)

-- files with more calls
files_behind_turn : (held held2 : FilesState) (course : Course) (es : List TraceEntry) → ArePlain es → FilesRepresent held course.files → LogGrew (files.told_of held) (files.told_of held2) (files_part es) → FilesRepresent held2 (course_after course es).files
files_behind_turn held held2 course es plain stands grew =
    let call_log = entries_from held.given held.notes in
    let after = (course_after course es).files in
    let one : Alike held.given (call_log ++ files_part es) after = plain_alike held.given call_log course es plain (alike_held held course.files stands) in
    let two : Alike held.given (entries_from held2.given held2.notes) after = subst (λ (l : List FilesEntry). Alike held.given l after) (sym grew.1) one in
    held_alike held2 after (subst (λ (g : FilesGiven). Alike g (entries_from held2.given held2.notes) after) (sym grew.0) two)

played_behind_turn : (held held2 : FilesState) (es : List FilesEntry) → LogGrew (files.told_of held) (files.told_of held2) es → IsPlayed held2.given [] (entries_from held2.given held2.notes)
    → IsPlayed held.given (entries_from held.given held.notes) es
played_behind_turn held held2 es grew played =
    let call_log = entries_from held.given held.notes in
    let one : IsPlayed held2.given [] (call_log ++ es) = subst (λ (l : List FilesEntry). IsPlayed held2.given [] l) grew.1 played in
    let two : IsPlayed held.given [] (call_log ++ es) = subst (λ (g : FilesGiven). IsPlayed g [] (call_log ++ es)) grew.0 one in
    played_second held.given [] call_log es two

-- the calls on the devices that the engine made itself
pub disk_same : (s : AllSettings) (k u : Handshakes) (above below : List TraceEntry) → IsSecured (keys_of s) k above below u → disk_part below ≡ disk_part above
disk_same s k u above below so = same_part disk_part refl disk_append (λ e. refl) (keys_of s) k u above below so

pub files_same : (s : AllSettings) (k u : Handshakes) (above below : List TraceEntry) → IsSecured (keys_of s) k above below u → files_part below ≡ files_part above
files_same s k u above below so = same_part files_part refl files_append (λ e. refl) (keys_of s) k u above below so

pub keeper_same : (s : AllSettings) (k u : Handshakes) (above below : List TraceEntry) → IsSecured (keys_of s) k above below u → keeper_part below ≡ keeper_part above
keeper_same s k u above below so = same_part keeper_part refl keeper_append (λ e. refl) (keys_of s) k u above below so

-- without keys no bytes are kept
none_kept : (s : AllSettings) (mask : ℕ) (k : Handshakes) (above below : List TraceEntry) → IsSecured (keys_of s) no_handshakes above below k → has_keys (keys_of s) ≡ false → holds mask k.kept ≡ false
none_kept s mask k above below so none = ap (λ (u : Handshakes). holds mask u.kept) (unkeyed_state (keys_of s) none no_handshakes k above below so)

module _ (s : AllSettings) (start : Start) (planned : Life) (h : History) (trace below : List TraceEntry) (secure : Secure) (taken : ℕ) (seen : Seen) (held : FilesState) (kept : KeeperState) where
  abbrev here : Course
  here = course_after (course_of start planned) below

  -- whether the wait of the turn gives kept bytes
  abbrev gives : Bool
  gives = holds (paused s h) secure.state.kept

  pub turn_stands : (secure2 : Secure) (seen2 : Seen) (held2 : FilesState) (x : Happening) (es : List TraceEntry) (left : ℕ → Action RunResult)
      → RunRepresents s start planned secure taken seen held kept trace below (λ more. run s None more h) (before_wait gives (paused s h) here).files
      → None ≡ (if takes_last gives (paused s h) here then planned.cut else None)
      → ArePlain es → ((more : ℕ) → Execution (run s None (suc more) h) (wait_of s h x ∷ es) (left more))
      → (more : Grown s planned secure secure2 trace below (wait_of s h x ∷ es)) → LogGrew (disk.log_of seen.calls) (disk.log_of seen2.calls) (disk_part es) → LogGrew (files.told_of held) (files.told_of held2) (files_part es)
      → IsPlayed held2.given [] (entries_from held2.given held2.notes)
      → RunRepresents s start planned secure2 (taken + 1) seen2 held2 kept (trace ++ wait_of s h x ∷ es) (below ++ more.next) left (course_after (course_of start planned) (below ++ more.next)).files
  turn_stands secure2 seen2 held2 x es left stands uncut plain ways grown grew_disk grew_files played =
      let turn : List TraceEntry = wait_of s h x ∷ es in
      let next = grown.next in
      let course = course_of start planned in
      let mask = paused s h in
      let waited = before_wait gives mask here in
      let until = saturating_plus (clock h) 250 in
      let shape : TurnBelow gives mask here next = turn_below s secure.state secure2.state until mask x es next here plain (none_kept s mask secure.state trace below stands.secured) grown.secured in
      let made = split_entries seen.calls seen2.calls (disk_part es) grew_disk.1 in
      let on_files : files_part es ≡ files_part shape.rest = sym (files_same s secure.state secure2.state turn next grown.secured) ∙ shape.files in
      let grew : LogGrew (files.told_of held) (files.told_of held2) (files_part shape.rest) = subst (λ (l : List FilesEntry). LogGrew (files.told_of held) (files.told_of held2) l) on_files grew_files in
      record {
        way = λ more.
            let moved : taken + suc more ≡ (taken + 1) + more = omega arith in
            subst (λ (n : ℕ). Execution (life s (ends_of s) None n) (trace ++ turn) (left more)) moved
            (way_trans (life s (ends_of s) None (taken + suc more)) (run s None (suc more) h) (left more) trace turn (stands.way (suc more)) (ways more));
        waits =
            let here = stands.waits in
            let none = plain_waitless es plain in
            waits_append trace turn ∙ omega (arith, here, none);
        secured = secured_append (keys_of s) no_handshakes secure.state secure2.state trace turn below next stands.secured grown.secured;
        answers = grown.answers;
        loop = grown.loop;
        uncut = uncut_append planned.cut course below next stands.uncut (turn_uncut planned.cut gives mask here next shape uncut);
        asked = stands.asked ++ made.0;
        disk_is = made.1 ∙ ap (λ (l : List MemEntry). l ++ made.0) stands.disk_is ∙ append_assoc (disk_of start planned) stands.asked made.0;
        are =
            map-append disk.entry_of stands.asked made.0
            ∙ ap (λ (l : List DiskEntry). l ++ disk.entries_of made.0) stands.are
            ∙ ap (λ (l : List DiskEntry). disk_part below ++ l) (made.2 ∙ sym (disk_same s secure.state secure2.state turn next grown.secured))
            ∙ sym (disk_append below next);
        answered =
            answered_append course below next stands.answered
            (shape.answers (plain_answered held.given (entries_from held.given held.notes) waited shape.rest shape.plain (alike_held held waited.files stands.files_stand) (played_behind_turn held held2 (files_part shape.rest) grew played)));
        files_stand =
            subst (λ (c : Course). FilesRepresent held2 c.files) (sym (behind_append course below next ∙ shape.behind)) (files_behind_turn held held2 waited shape.rest shape.plain stands.files_stand grew);
        kept_given = stands.kept_given;
        kept_calls =
            stands.kept_calls
            ∙ sym (append-nil (keeper_part below))
            ∙ ap (λ (l : List KeeperEntry). keeper_part below ++ l) (sym (keeper_same s secure.state secure2.state turn next grown.secured ∙ no_keeper es plain))
            ∙ sym (keeper_append below next);
      }

-- calls that don't advance a run don't cut it
no_cut_after : (cut : Option Cut) (course : Course) (es : List TraceEntry) → AreStill es → (is_some cut && has_last course es) ≡ false
no_cut_after None course es still = refl
no_cut_after (Some cut) course es still = none_last course es still

-- ---- a turn is prepared

-- the event that a script would return is the next one of its run
next_is : (start : Start) (planned : Life) (script : ScriptState) (below : List TraceEntry) (mask : ℕ) → told_of script ≡ Some (given_of planned, loop_part below)
    → script_next mask script ≡ next_in mask (course_after (course_of start planned) below)
next_is start planned script below mask call_log =
    let same = told_is script (given_of planned) (loop_part below) call_log in
    ap (λ (l : List Coming). find (hears mask) (ahead_after_calls l (entries_of script.notes))) (coming_is script.lines planned.lines script.answers planned.answers same.0)
    ∙ ap (λ (es : List LoopEntry). find (hears mask) (ahead_after_calls (coming 0 planned.lines) es)) same.1
    ∙ ap (λ (l : List Coming). find (hears mask) l) (ahead_is (course_of start planned) below)

module _ (s : AllSettings) (start : Start) (planned : Life) (going : Going) (seen : Seen) (held held2 : FilesState) (kept : KeeperState) (under : IsInProgress s start planned going seen held kept) where
  abbrev course : Course
  course = course_after (course_of start planned) under.below

  -- the files are as the next wait finds them
  ready_with : (changes : ℕ) (cut : Option Cut) (held_first : Bool) → held_first ≡ holds (paused s under.history) going.secure.state.kept → FilesRepresent held2 (before_wait held_first (paused s under.history) course).files
      → changes ≡ (before_wait held_first (paused s under.history) course).changed → cut ≡ (if takes_last held_first (paused s under.history) course then planned.cut else None)
      → IsReady s start planned (record going { changed = changes }) seen held2 kept cut
  ready_with changes cut held_first is files changed cutting = record {
    history = under.history;
    at = under.at;
    trace = under.trace;
    below = under.below;
    stands = record {
      way = under.stands.way;
      waits = under.stands.waits;
      secured = under.stands.secured;
      answers = under.stands.answers;
      loop = under.stands.loop;
      uncut = under.stands.uncut;
      asked = under.stands.asked;
      disk_is = under.stands.disk_is;
      are = under.stands.are;
      answered = under.stands.answered;
      files_stand = subst (λ (b : Bool). FilesRepresent held2 (before_wait b (paused s under.history) course).files) is files;
      kept_given = under.stands.kept_given;
      kept_calls = under.stands.kept_calls;
    };
    changed = changed ∙ ap (λ (b : Bool). (before_wait b (paused s under.history) course).changed) is;
    cut_is = cutting ∙ ap (λ (b : Bool). if takes_last b (paused s under.history) course then planned.cut else None) is;
    keeps = under.keeps;
  }

  pub prepared : (script : ScriptState) (place : Option (ℕ × ℕ)) (mask upto changes : ℕ) (cut : Option Cut) → mask ≡ paused s under.history → holds mask going.secure.state.kept ≡ false → told_of script ≡ going.secure.below.call_log
      → place ≡ place_in (script_next mask script) → ((next : Option Coming) → place ≡ place_in next → upto ≡ line_ahead planned.lines next)
      → ((at : FilesAt) → FilesRepresent held at → FilesRepresent held2 (record at { changes = at.changes ++ changes_between planned.lines going.changed upto }))
      → changes ≡ max going.changed upto → ((next : Option Coming) → place ≡ place_in next → cut ≡ (if ends_life planned.lines next then planned.cut else None))
      → IsReady s start planned (record going { changed = changes }) seen held2 kept cut
  prepared script place mask upto changes cut masked asks told placed line makes most cutting =
      let h = under.history in
      let next : Option Coming = next_in (paused s h) course in
      let lines : planned.lines ≡ course.lines = sym (lines_stay (course_of start planned) under.below) in
      let here : place ≡ place_in next = placed ∙ ap place_in (next_is start planned script under.below mask (told ∙ under.stands.loop.below)) ∙ ap (λ (m : ℕ). place_in (next_in m course)) masked in
      let there : upto ≡ line_ahead course.lines next = line next here ∙ ap (λ (l : List Planned). line_ahead l next) lines in
      let before : changes_between planned.lines going.changed upto ≡ changes_between course.lines course.changed (line_ahead course.lines next) =
      ap (λ (l : List Planned). changes_between l going.changed upto) lines
      ∙ ap (λ (n : ℕ). changes_between course.lines n upto) under.changed
      ∙ ap (λ (n : ℕ). changes_between course.lines course.changed n) there
      in
      ready_with changes cut false (sym asks ∙ ap (λ (m : ℕ). holds m going.secure.state.kept) masked)
      (subst (λ (l : List FileChange). FilesRepresent held2 (record course.files { changes = course.files.changes ++ l })) before (makes course.files under.stands.files_stand))
      (most ∙ ap (λ (n : ℕ). max n upto) under.changed ∙ ap (λ (n : ℕ). max course.changed n) there)
      (cutting next here ∙ ap (λ (l : List Planned). if ends_life l next then planned.cut else None) lines)

-- a wait that gives kept bytes
pub prepared_kept : (s : AllSettings) (start : Start) (planned : Life) (going : Going) (seen : Seen) (held : FilesState) (kept : KeeperState) (under : IsInProgress s start planned going seen held kept) (mask : ℕ) → mask ≡ paused s under.history
    → holds mask going.secure.state.kept ≡ true → IsReady s start planned going seen held kept None
prepared_kept s start planned going seen held kept under mask masked gives =
    ready_with s start planned going seen held held kept under going.changed None true (sym gives ∙ ap (λ (m : ℕ). holds m going.secure.state.kept) masked) under.stands.files_stand under.changed refl

-- ---- a turn is taken

pub asked_turn : (a between b : CallLogs) (s : AllSettings) (h : History) (x : Happening) (es : List TraceEntry) → Completes a between (waits s h) x → LogsGrew between b es → LogsGrew a b (wait_of s h x ∷ es)
asked_turn a between b s h x es waited asked =
    subst (λ (l : List TraceEntry). LogsGrew a b (l ++ es)) (wait_is s h x waited.entries waited.way) (logs_grew_both a between b waited.entries es waited.asked asked)

pub asked_wait : (a between b : CallLogs) (s : AllSettings) (h : History) (x : Happening) → Completes a between (waits s h) x → b ≡ between → LogsGrew a b (wait_of s h x ∷ [])
asked_wait a between b s h x waited is =
    subst (λ (w : CallLogs). LogsGrew a w (wait_of s h x ∷ [])) (sym is) (subst (λ (l : List TraceEntry). LogsGrew a between l) (wait_is s h x waited.entries waited.way) waited.asked)

abbrev pub Nowhere : CallLogs
Nowhere = record { loop = None; disk = None; files = None; keeper = None }

-- the rows keep the same offsets after calls that note none
pub keeps_same : (s : AllSettings) (offsets : KeptOffsets) (h now : History) → ((input index : ℕ) → kept_at now input index ≡ kept_at h input index) → Keeps s offsets h → Keeps s offsets now
keeps_same s offsets h now same keeps = record {
  count = keeps.count;
  each = λ k row t here there. let is : IsRow h row t = keeps.each k row t here there in record { input = is.input; index = is.index; db = is.db; path = is.path; kept = is.kept ∙ sym (same t.input t.index) };
}

module _ (s : AllSettings) (start : Start) (planned : Life) (going : Going) (seen : Seen) (held : FilesState) (kept : KeeperState) (ready : IsReady s start planned going seen held kept None) (engine2 : Engine) (secure2 : Secure) (seen2 : Seen) (held2 : FilesState)
    (played : IsPlayed held2.given [] (entries_from held2.given held2.notes)) where
  abbrev after : Going
  after = record { engine = engine2; offsets = going.offsets; secure = secure2; changed = going.changed; taken = going.taken + 1 }

  abbrev old : CallLogs
  old = with_all (log_of going.secure) (disk.log_of seen.calls) (files.told_of held) Nowhere

  abbrev new : CallLogs
  new = with_all (log_of secure2) (disk.log_of seen2.calls) (files.told_of held2) Nowhere

  more_of : {result : Result Turn EngineStop} → TookTurn s ready.history going seen held after seen2 held2 result → (es : List TraceEntry) → LogGrew (log_of going.secure) (log_of secure2) (loop_part es) → Grown s planned going.secure secure2 ready.trace ready.below es
  more_of took es grew = grown s planned going.secure secure2 ready.trace ready.below es ready.stands.loop ready.stands.secured grew took.is took.has_memory took.played

  stands_then : (x : Happening) (es : List TraceEntry) (left : ℕ → Action RunResult) → ArePlain es → ((more : ℕ) → Execution (run s None (suc more) ready.history) (wait_of s ready.history x ∷ es) (left more))
      → (asked : LogsGrew old new (wait_of s ready.history x ∷ es)) → (more : Grown s planned going.secure secure2 ready.trace ready.below (wait_of s ready.history x ∷ es))
      → RunRepresents s start planned secure2 (going.taken + 1) seen2 held2 kept (ready.trace ++ wait_of s ready.history x ∷ es) (ready.below ++ more.next) left (course_after (course_of start planned) (ready.below ++ more.next)).files
  stands_then x es left plain ways asked more =
      turn_stands s start planned ready.history ready.trace ready.below going.secure going.taken seen held kept secure2 seen2 held2 x es left ready.stands ready.cut_is plain ways more asked.disk asked.files played

  pub took : (result : Result Turn EngineStop) → TookTurn s ready.history going seen held after seen2 held2 result → stage.Turned s start planned after seen2 held2 kept result
  took (Ok which) turn =
      let h = ready.history in
      let turns = turn.turn in
      let x = turns.brought in
      let stepped = turns.steps.1 in
      let es = stepped.did.entries in
      let plain = step_plain s x h es (Return stepped.history) stepped.did.way in
      let asked = asked_turn old turns.between new s h x es turns.waited stepped.did.asked in
      let more = more_of turn (wait_of s h x ∷ es) asked.loop in
      let gives = holds (paused s h) going.secure.state.kept in
      let here = course_after (course_of start planned) ready.below in
      let shape : TurnBelow gives (paused s h) here more.next =
      turn_below s going.secure.state secure2.state (saturating_plus (clock h) 250) (paused s h) x es more.next here plain (none_kept s (paused s h) going.secure.state ready.trace ready.below ready.stands.secured) more.secured
      in
      record {
        history = stepped.history;
        at = stepped.at;
        trace = ready.trace ++ wait_of s h x ∷ es;
        below = ready.below ++ more.next;
        brought = x;
        stands = stands_then x es (λ more. after_step s None (run s None more) x stepped.history) plain (turn_stepped s h x es stepped.history turns.steps.0 stepped.did.way) asked more;
        changed =
            ready.changed
            ∙ sym (plain_changed (before_wait gives (paused s h) here) shape.rest shape.plain)
            ∙ ap (λ (c : Course). c.changed) (sym (behind_append (course_of start planned) ready.below more.next ∙ shape.behind));
        keeps = keeps_same s going.offsets h stepped.history (step_keeps_offsets s x h stepped.history es stepped.did.way) ready.keeps;
        over = stepped.over;
      }
  took (Err stop.LoopFault) turn =
      let h = ready.history in
      let turns = turn.turn in
      let x = turns.brought in
      let asked = asked_wait old turns.between new s h x turns.waited turns.steps.1 in
      let more = more_of turn (wait_of s h x ∷ []) asked.loop in
      record {
        history = h;
        trace = ready.trace ++ wait_of s h x ∷ [];
        below = ready.below ++ more.next;
        stands = stands_then x [] (λ more. Return (lived h LoopFailed)) tt (turn_failed s h x turns.steps.0) asked more;
      }
  took (Err stop.Memory) turn = tt

  pub took_unless : (result : Result Turn EngineStop) → TurnedIn s ready.history going seen held after seen2 held2 result → stage.Turned s start planned after seen2 held2 kept result
  took_unless (Ok which) turned = took (Ok which) (turned refl)
  took_unless (Err stop.LoopFault) turned = took (Err stop.LoopFault) (turned refl)
  took_unless (Err stop.Memory) turned = tt

-- ---- the puts after a turn

module _ (s : AllSettings) (start : Start) (planned : Life) (secure : Secure) (taken : ℕ) (seen : Seen) (held : FilesState) (kept kept2 : KeeperState) (trace below es : List TraceEntry) (left left2 : ℕ → Action RunResult) where
  -- the state of a run after calls on the keeper alone
  pub aside_stands : RunRepresents s start planned secure taken seen held kept trace below left (course_after (course_of start planned) below).files
      → AreAside es → ((more : ℕ) → Execution (left more) es (left2 more)) → LogGrew (kept_log.log_of kept) (kept_log.log_of kept2) (keeper_part es)
      → RunRepresents s start planned secure taken seen held kept2 (trace ++ es) (below ++ es) left2 (course_after (course_of start planned) (below ++ es)).files
  aside_stands stands aside ways grew =
      let course = course_of start planned in
      let still = aside_still es aside in
      let stays : course_after course (below ++ es) ≡ course_after course below = behind_append course below es ∙ stays_behind (course_after course below) es still in
      let no_loop : (before : List TraceEntry) → loop_part (before ++ es) ≡ loop_part before =
      λ before. loop_append before es ∙ ap (λ (l : List LoopEntry). loop_part before ++ l) (aside_loop es aside) ∙ append-nil (loop_part before)
      in
      record {
        way = λ more. way_trans (life s (ends_of s) None (taken + more)) (left more) (left2 more) trace es (stands.way more) (ways more);
        waits = let here = stands.waits in let none = no_waits es still in waits_append trace es ∙ omega (arith, here, none);
        secured = secured_append (keys_of s) no_handshakes secure.state secure.state trace es below es stands.secured (unlooped (keys_of s) secure.state es (aside_loop es aside));
        answers = subst (λ (l : List LoopEntry). AreLoopAnswers l) (sym (no_loop trace)) stands.answers;
        loop =
            subst (λ (l : List LoopEntry). IsKeyedLoop s planned secure l (loop_part (below ++ es))) (sym (no_loop trace))
            (subst (λ (l : List LoopEntry). IsKeyedLoop s planned secure (loop_part trace) l) (sym (no_loop below)) stands.loop);
        uncut = uncut_append planned.cut course below es stands.uncut (no_cut_after planned.cut (course_after course below) es still);
        asked = stands.asked;
        disk_is = stands.disk_is;
        are = stands.are ∙ sym (append-nil (disk_part below)) ∙ ap (λ (l : List DiskEntry). disk_part below ++ l) (sym (aside_disk es aside)) ∙ sym (disk_append below es);
        answered = answered_append course below es stands.answered (answers_of (course_after course below) es still);
        files_stand = subst (λ (c : Course). FilesRepresent held c.files) (sym stays) stands.files_stand;
        kept_given = grew.0 ∙ stands.kept_given;
        kept_calls = grew.1 ∙ ap (λ (l : List KeeperEntry). l ++ keeper_part es) stands.kept_calls ∙ sym (keeper_append below es);
      }

-- which end of a turn it is
over_so : (b : Bool) (which : Turn) → which ≡ as_turn b → which ≡ turn.Over → b ≡ true
over_so true which is so = refl
over_so false which is so = absurd (cc (is, so))

more_so : (b : Bool) (which : Turn) → which ≡ as_turn b → which ≡ turn.More → b ≡ false
more_so true which is so = absurd (cc (is, so))
more_so false which is so = refl

abbrev all_put : Result (Unit {0}) Memory
all_put = Ok tt

module _ (s : AllSettings) (start : Start) (planned : Life) (going : Going) (seen : Seen) (held : FilesState) (kept kept2 : KeeperState) (rows2 : KeptOffsets) where
  abbrev before : CallLogs
  before = with_keeper (kept_log.log_of kept) Nowhere

  abbrev behind : CallLogs
  behind = with_keeper (kept_log.log_of kept2) Nowhere

  abbrev has_put : Going
  has_put = record going { offsets = rows2 }

  put_so : (which : Turn) (stepped : IsStepped s start planned going seen held kept which)
      → PutsOutcome before behind s stepped.history is_done (puts s (tracked s) is_done stepped.history) going.engine rows2 all_put → HasPut s start planned has_put seen held kept2 which
  put_so turn.More stepped put =
      let h = stepped.history in
      let x = stepped.brought in
      let now = put.0 in
      let es = put.4.entries in
      let leave = puts_leave s (tracked s) h (lived now Over) es put.4.way in
      let over : is_over s x now ≡ false = put.3 x ∙ more_so (is_over s x h) turn.More stepped.over refl in
      let course = course_of start planned in
      record {
        history = now;
        at = put.1;
        trace = stepped.trace ++ es;
        below = stepped.below ++ es;
        stands =
            aside_stands s start planned going.secure going.taken seen held kept kept2 stepped.trace stepped.below es (λ more. after_step s None (run s None more) x h) (λ more. run s None more now) stepped.stands leave.aside
            (λ more.
            subst (λ (b : Bool). Execution (after_step s None (run s None more) x h) es (if b then Return (lived now Over) else unless_last s None (run s None more) x now)) over
            (leave.ways (goes_on s (unless_last s None (run s None more) x) x)))
            put.4.asked.keeper;
        changed = stepped.changed ∙ ap (λ (c : Course). c.changed) (sym (behind_append course stepped.below es ∙ stays_behind (course_after course stepped.below) es (aside_still es leave.aside)));
        keeps = put.2;
      }
  put_so turn.Over stepped put =
      let h = stepped.history in
      let x = stepped.brought in
      let now = put.0 in
      let es = put.4.entries in
      let leave = puts_leave s (tracked s) h (lived now Over) es put.4.way in
      let over : is_over s x now ≡ true = put.3 x ∙ over_so (is_over s x h) turn.Over stepped.over refl in
      record {
        history = now;
        at = put.1;
        trace = stepped.trace ++ es;
        below = stepped.below ++ es;
        stands =
            aside_stands s start planned going.secure going.taken seen held kept kept2 stepped.trace stepped.below es (λ more. after_step s None (run s None more) x h) (λ more. Return (lived now Over)) stepped.stands leave.aside
            (λ more.
            subst (λ (b : Bool). Execution (after_step s None (run s None more) x h) es (if b then Return (lived now Over) else unless_last s None (run s None more) x now)) over
            (leave.ways (goes_on s (unless_last s None (run s None more) x) x)))
            put.4.asked.keeper;
      }

  pub puts_so : {E : Type 0} (which : Turn) (stepped : IsStepped s start planned going seen held kept which) (result : Result (Unit {0}) E)
      → PutsOutcome before behind s stepped.history is_done (puts s (tracked s) is_done stepped.history) going.engine rows2 result → OnOk result (HasPut s start planned has_put seen held kept2 which)
  puts_so which stepped (Ok done) put = put_so which stepped put
  puts_so which stepped (Err e) put = tt
