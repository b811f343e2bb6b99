-- The start of a run.
use Rattle.std.proofs.Common.{◌≡◌, ℕ, ◌+◌, Bool, true, false, ◌&&◌, is_some, List, [], ◌∷◌, ◌++◌, map, Option, Some, None, refl, Result, Ok, Err, IfOk, OnOk, sym, ◌∙◌, ap, subst, arith}
use Rattle.std.proofs.lemmas.List.{append-nil}
use Rattle.fwd_outside.specs.Program.{entry, Return, Execution}
use Rattle.fwd_outside.specs.Log.{LogGrew, log_of_call}
use Rattle.fwd_outside.specs.declared.answers.Begun.{Begun as LoopBegun}
use Rattle.fwd_outside.specs.declared.answers.Begun.TheVariants as loop_begun
use Rattle.fwd_outside.proofs.Executions.{way_bind, way_trans}
use Rattle.fwd_outside.proofs.LoopAnswers.{answers_none}
use Rattle.fwd_outside.specs.Disk.{DiskEntry}
use Rattle.fwd_outside.specs.Files.{FilesEntry, FilesGiven, found}
use Rattle.fwd_outside.specs.LoopAnswers.{AreLoopAnswers}
use Rattle.fwd_outside.specs.Loop.{LoopEntry, LoopGiven, Start as Starting, start_outcome}
use Rattle.fwd_outside.specs.declared.ends.Ends.{Ends}
use Rattle.fwd_disk_mem.specs.declared.entry.MemEntry.{MemEntry}
use Rattle.fwd_disk_mem.specs.declared.entry.MemEntry.TheVariants as mem_entry
use Rattle.fwd_disk_mem.specs.DiskState.{Seen}
use Rattle.fwd_disk_mem.specs.Entry as disk
use Rattle.fwd_disk_mem.proofs.CallTrace.{split_entries, played_behind}
use Rattle.fwd_settings.specs.Endpoints.{ends_of}
use Rattle.fwd_settings.specs.declared.settings_types.AllSettings.{AllSettings}
use Rattle.fwd_files_mem.specs.FilesState.{FilesState}
use Rattle.fwd_files_mem.specs.FilesAnswers.{fails_of, made_of}
use Rattle.fwd_files_mem.specs.MemFiles.{entries_from, files_now}
use Rattle.fwd_files_mem.specs.declared.files.FilesNote.{FilesNote}
use Rattle.fwd_files_mem.specs.declared.files.FilesNote.TheVariants as note
use Rattle.fwd_script.specs.declared.schedule.Life.{Life}
use Rattle.fwd_script.specs.declared.schedule.Stored.{Stored}
use Rattle.fwd_script_loop.specs.Lines.{given_of}
use Rattle.fwd_script_loop.specs.Place as place
use Rattle.fwd_model.specs.Fact.{History}
use Rattle.fwd_model.specs.Trace.{Action, TraceEntry, OnLoop, loop_part, disk_part, files_part, keeper_part}
use Rattle.fwd_model.specs.CallLogs.{CallLogs, Completes}
use Rattle.fwd_model.specs.RecoveryActions.{recovers}
use Rattle.fwd_model.specs.KeptOffsets.{tracked, gets}
use Rattle.fwd_model.specs.Run.{RunResult, Over, DiskFailed, KeeperFailed, LoopFailed, lived, run, after_start, after_recovery, starts, life}
use Rattle.fwd_model.proofs.CallLogs.{loop_append, disk_append, files_append}
use Rattle.fwd_engine_state.specs.RefinesAction.{with_disk}
use Rattle.fwd_engine_run.specs.EngineSteps.{IsAt}
use Rattle.fwd_engine_run.specs.Engine.{Engine}
use Rattle.fwd_engine_run.specs.OffsetRows.{Keeps}
use Rattle.fwd_engine_run.specs.declared.kept_offsets.KeptOffsets.{KeptOffsets}
use Rattle.fwd_engine_run.proofs.OffsetActions.{Leave, aside_disk, aside_files, aside_loop, has_failed, left_of}
use Rattle.fwd_keeper.specs.Keeper.{KeeperEntry, KeeperGiven}
use Rattle.fwd_keeper_mem.specs.KeeperAnswers as keeper
use Rattle.fwd_keeper_mem.specs.KeeperState.{KeeperState}
use Rattle.fwd_keeper_mem.specs.MemKeeper as kept_log
use Rattle.fwd_keeper_mem.specs.declared.mem_keeper.KeeperNote.{KeeperNote}
use Rattle.fwd_replay.specs.FileChanges.{Course, course_after}
use Rattle.fwd_replay.specs.Runs.{Start, disk_of, course_of}
use Rattle.fwd_replay.specs.RunState.{FilesRepresent, DevicesAreReady, HasBegun, IsFresh, IsRecovered, IsSetUp, IsInProgress, EndedAs, KeyedLoopStarts, ScriptPlays, WasStarted}
use Rattle.fwd_replay.proofs.StillCalls.{AreStill, answers_of, aside_still, keeper_append, no_cut, no_waits, stays_behind, still_both, still_of}
use Rattle.fwd_replay.specs.declared.progress.Going.{Going}
use Rattle.fwd_replay.specs.declared.start.Begun.{Begun}
use Rattle.fwd_replay.proofs.KeyedTurns.{CallsBelow, calls_below, log_played, standing_keys, standing_start, start_below, start_entry, unlooped}
use Rattle.fwd_secure.specs.Handshakes.{no_handshakes}
use Rattle.fwd_secure.specs.Carried.{Carries}
use Rattle.fwd_secure.specs.LoopBelow.{LoopBelow}
use Rattle.fwd_secure.specs.LoopCode.{given_to}
use Rattle.fwd_secure.specs.Secure.{Secure, IsSecure, log_of}
use Rattle.fwd_secure_settings.specs.Keys.{keys_of}
use Rattle.fwd_secure_trace.specs.Secured.{IsSecured}
use Rattle.fwd_secure_trace.proofs.Secured.{Joined, joined, secured_append}

-- ---- the setup of disk and files

pub told_disk : (start : Start) (planned : Life) (old stored all : Seen) → old.calls ≡ start.disk → stored ≡ record old { calls = old.calls ++ map (λ (file : Stored). mem_entry.Preset file.name file.bytes) planned.store }
    → all ≡ record stored { calls = stored.calls ++ map (λ (number : ℕ). mem_entry.FailAt number) planned.disk_fails } → all.calls ≡ disk_of start planned
told_disk start planned old stored all finds store fail =
    let presets : List MemEntry = map (λ (file : Stored). mem_entry.Preset file.name file.bytes) planned.store in
    let fails : List MemEntry = map (λ (number : ℕ). mem_entry.FailAt number) planned.disk_fails in
    ap (λ (seen : Seen). seen.calls) fail ∙ ap (λ (seen : Seen). seen.calls ++ fails) store ∙ ap (λ (calls : List MemEntry). (calls ++ presets) ++ fails) finds

abbrev fails_told : List ℕ → List FilesNote
fails_told numbers = map (λ (number : ℕ). note.FailAt number) numbers

still_there : (given : FilesGiven) (numbers : List ℕ) → files_now given (fails_told numbers) ≡ given
still_there given [] = refl
still_there given (number ∷ numbers) = still_there given numbers

none_made : (given : FilesGiven) (numbers : List ℕ) → made_of (entries_from given (fails_told numbers)) ≡ 0
none_made given [] = refl
none_made given (number ∷ numbers) = rw (none_made given numbers) refl

fails_so : (given : FilesGiven) (numbers : List ℕ) → fails_of (entries_from given (fails_told numbers)) ≡ numbers
fails_so given [] = refl
fails_so given (number ∷ numbers) = ap (λ (l : List ℕ). number ∷ l) (fails_so given numbers)

-- files without calls, after the setup of the calls that are to fail
pub files_begin : (start : Start) (planned : Life) (seen : Seen) (old new : FilesState) (kept : KeeperState) → DevicesAreReady start seen old kept → new ≡ record old { notes = old.notes ++ fails_told planned.file_fails }
    → FilesRepresent new (course_of start planned).files
files_begin start planned seen old new kept finds is =
    let notes : new.notes ≡ fails_told planned.file_fails = ap (λ (held : FilesState). held.notes) is ∙ ap (λ (l : List FilesNote). l ++ fails_told planned.file_fails) finds.unasked in
    let given : new.given ≡ old.given = ap (λ (held : FilesState). held.given) is in
    let now : files_now new.given new.notes ≡ files_now old.given old.notes =
    ap (λ (l : List FilesNote). files_now new.given l) notes ∙ still_there new.given planned.file_fails ∙ given ∙ ap (λ (l : List FilesNote). files_now old.given l) (sym finds.unasked) in
    record {
      has = λ path. ap (λ (all : FilesGiven). found all path) now ∙ finds.has path;
      made = ap (λ (l : List FilesNote). made_of (entries_from new.given l)) notes ∙ none_made new.given planned.file_fails;
      fails = ap (λ (l : List FilesNote). fails_of (entries_from new.given l)) notes ∙ fails_so new.given planned.file_fails;
    }

pub on_ok : {T E : Type 0} {P Q : Type 0} (r : Result T E) → (P → Q) → OnOk r P → OnOk r Q
on_ok (Ok x) f p = f p
on_ok (Err e) f p = tt

pub if_ok : {T E : Type 0} {P Q : T → Type 0} (r : Result T E) → ((x : T) → P x → Q x) → IfOk r P → IfOk r Q
if_ok (Ok x) f p = f x p
if_ok (Err e) f p = tt

-- ---- the calls of a start

-- a world without calls, except on its disk
abbrev pub quiet : Life → CallLogs
quiet planned = record { loop = Some (given_of planned, []); disk = None; files = Some ([], []); keeper = Some ([], []) }

abbrev pub seen_in : Life → List MemEntry → CallLogs
seen_in planned calls = with_disk (disk.log_of calls) (quiet planned)

-- the calls on the disk that loaded it
pub record Loaded (s : AllSettings) (start : Start) (planned : Life) (calls : List MemEntry) (result : Option History) : Type 0 where
  trace : List TraceEntry
  way : Execution (recovers s) trace (Return result)
  no_loop : loop_part trace ≡ []
  no_files : files_part trace ≡ []
  no_keeper : keeper_part trace ≡ []
  asked : List MemEntry
  disk_is : calls ≡ disk_of start planned ++ asked
  are : disk.entries_of asked ≡ disk_part trace

loaded_so : (s : AllSettings) (start : Start) (planned : Life) (old new : List MemEntry) (result : Option History) → old ≡ disk_of start planned
    → Completes (seen_in planned old) (seen_in planned new) (recovers s) result → Loaded s start planned new result
loaded_so s start planned old new result call_log did =
    let made = split_entries old new (disk_part did.entries) did.asked.disk.1 in
    record {
      trace = did.entries;
      way = did.way;
      no_loop = sym did.asked.loop.1;
      no_files = sym did.asked.files.1;
      no_keeper = sym did.asked.keeper.1;
      asked = made.0;
      disk_is = made.1 ∙ ap (λ (calls : List MemEntry). calls ++ made.0) call_log;
      are = made.2;
    }

-- the engine has begun
pub recovered_so : (s : AllSettings) (start : Start) (planned : Life) (old new : Seen) (h : History) → old.calls ≡ disk_of start planned → Completes (seen_in planned old.calls) (seen_in planned new.calls) (recovers s) (Some h)
    → disk.IsPlayed [] new.calls → IsRecovered s start planned new h
recovered_so s start planned old new h call_log did played =
    let loaded = loaded_so s start planned old.calls new.calls (Some h) call_log did in
    record {
      trace = loaded.trace;
      way = loaded.way;
      no_loop = loaded.no_loop;
      no_files = loaded.no_files;
      no_keeper = loaded.no_keeper;
      asked = loaded.asked;
      disk_is = loaded.disk_is;
      are = loaded.are;
      played = played;
    }

loads_on : (s : AllSettings) (turns : ℕ) (result : Option History) (trace : List TraceEntry) → Execution (recovers s) trace (Return result) → Execution (life s (ends_of s) None turns) trace (after_recovery s (ends_of s) None turns result)
unfolding life
loads_on s turns result trace way = way_bind (recovers s) (Return result) trace (after_recovery s (ends_of s) None turns) way

-- a call on the disk failed while it was loaded
pub load_fails : (s : AllSettings) (start : Start) (planned : Life) (old new : Seen) (held : FilesState) (kept : KeeperState) → IsSetUp start planned old held kept
    → Completes (seen_in planned old.calls) (seen_in planned new.calls) (recovers s) None → disk.IsPlayed [] new.calls → EndedAs s start planned (lived [] DiskFailed)
load_fails s start planned old new held kept ready did played =
    let loaded = loaded_so s start planned old.calls new.calls None ready.disk did in
    let still = still_of loaded.trace loaded.no_loop loaded.no_files in
    record {
      trace = loaded.trace;
      is = λ turns. record {
        way = loads_on s turns None loaded.trace loaded.way;
        answers = subst (λ (es : List LoopEntry). AreLoopAnswers es) (sym loaded.no_loop) answers_none;
        below = loaded.trace;
        handshakes = no_handshakes;
        secured = unlooped (keys_of s) no_handshakes loaded.trace loaded.no_loop;
        asked = loaded.asked;
        answered = record {
          loop = subst (λ (es : List LoopEntry). place.IsPlayed (given_of planned) es) (sym loaded.no_loop) tt;
          disk = played_behind (disk_of start planned) loaded.asked (subst (λ (call_log : List MemEntry). disk.IsPlayed [] call_log) loaded.disk_is played);
          are = loaded.are;
          files = answers_of (course_of start planned) loaded.trace still;
          keeper = subst (λ (es : List KeeperEntry). keeper.IsPlayed start.offsets [] es) (sym loaded.no_keeper) tt;
        };
        uncut = no_cut start planned loaded.trace still;
      };
    }

-- ---- the gets of a start

module _ (s : AllSettings) (start : Start) (planned : Life) (seen : Seen) (h : History) (recovered : IsRecovered s start planned seen h) (kept kept2 : KeeperState) (given : kept.given ≡ start.offsets) (unasked : kept.notes ≡ [])
    (played : keeper.IsPlayed kept2.given [] (kept_log.entries_of kept2.notes)) (r : RunResult) (es : List TraceEntry) (leave : Leave (λ (next : History → Action RunResult). gets s (tracked s) has_failed next h) es r)
    (grew : LogGrew (kept_log.log_of kept) (kept_log.log_of kept2) (keeper_part es)) where
  got_way : (turns : ℕ) → Execution (life s (ends_of s) None turns) (recovered.trace ++ es) (left_of (starts s (ends_of s) None turns) r)
  got_way turns =
      way_trans (life s (ends_of s) None turns) (after_recovery s (ends_of s) None turns (Some h)) (left_of (starts s (ends_of s) None turns) r) recovered.trace es (loads_on s turns (Some h) recovered.trace recovered.way)
      (leave.ways (starts s (ends_of s) None turns))

  got_still : AreStill (recovered.trace ++ es)
  got_still = still_both recovered.trace es (still_of recovered.trace recovered.no_loop recovered.no_files) (aside_still es leave.aside)

  got_loop : loop_part (recovered.trace ++ es) ≡ []
  got_loop = loop_append recovered.trace es ∙ ap (λ (l : List LoopEntry). l ++ loop_part es) recovered.no_loop ∙ aside_loop es leave.aside

  got_no_files : files_part (recovered.trace ++ es) ≡ []
  got_no_files = files_append recovered.trace es ∙ ap (λ (l : List FilesEntry). l ++ files_part es) recovered.no_files ∙ aside_files es leave.aside

  got_disk : disk.entries_of recovered.asked ≡ disk_part (recovered.trace ++ es)
  got_disk =
      recovered.are ∙ sym (append-nil (disk_part recovered.trace)) ∙ ap (λ (l : List DiskEntry). disk_part recovered.trace ++ l) (sym (aside_disk es leave.aside)) ∙ sym (disk_append recovered.trace es)

  got_keeper : kept_log.entries_of kept2.notes ≡ keeper_part (recovered.trace ++ es)
  got_keeper =
      grew.1
      ∙ ap (λ (l : List KeeperNote). kept_log.entries_of l ++ keeper_part es) unasked
      ∙ ap (λ (l : List KeeperEntry). l ++ keeper_part es) (sym recovered.no_keeper)
      ∙ sym (keeper_append recovered.trace es)

  got_given : kept2.given ≡ start.offsets
  got_given = grew.0 ∙ given

  keeper_played : (trace : List TraceEntry) → kept_log.entries_of kept2.notes ≡ keeper_part trace → keeper.IsPlayed start.offsets [] (keeper_part trace)
  keeper_played trace is = subst (λ (g : KeeperGiven). keeper.IsPlayed g [] (keeper_part trace)) got_given (subst (λ (l : List KeeperEntry). keeper.IsPlayed kept2.given [] l) is played)

  disk_played : disk.IsPlayed (disk_of start planned) recovered.asked
  disk_played = played_behind (disk_of start planned) recovered.asked (subst (λ (call_log : List MemEntry). disk.IsPlayed [] call_log) recovered.disk_is recovered.played)

  -- a get failed
  pub get_fails : (now : History) → r ≡ lived now KeeperFailed → EndedAs s start planned (lived now KeeperFailed)
  get_fails now is =
      record {
        trace = recovered.trace ++ es;
        is = λ turns. record {
          way = subst (λ (x : RunResult). Execution (life s (ends_of s) None turns) (recovered.trace ++ es) (left_of (starts s (ends_of s) None turns) x)) is (got_way turns);
          answers = subst (λ (l : List LoopEntry). AreLoopAnswers l) (sym got_loop) answers_none;
          below = recovered.trace ++ es;
          handshakes = no_handshakes;
          secured = unlooped (keys_of s) no_handshakes (recovered.trace ++ es) got_loop;
          asked = recovered.asked;
          answered = record {
            loop = subst (λ (l : List LoopEntry). place.IsPlayed (given_of planned) l) (sym got_loop) tt;
            disk = disk_played;
            are = got_disk;
            files = answers_of (course_of start planned) (recovered.trace ++ es) got_still;
            keeper = keeper_played (recovered.trace ++ es) got_keeper;
          };
          uncut = no_cut start planned (recovered.trace ++ es) got_still;
        };
      }

  -- the offsets are got
  pub has_begun : (now : History) → r ≡ lived now Over → (held : FilesState) (begun : Begun) → FilesRepresent held (course_of start planned).files → IsAt begun.engine s now → Keeps s begun.offsets now → HasBegun s start planned begun now seen held kept2
  has_begun now done held begun files at keeps = record {
    at = at;
    keeps = keeps;
    trace = recovered.trace ++ es;
    way = λ turns. subst (λ (x : RunResult). Execution (life s (ends_of s) None turns) (recovered.trace ++ es) (left_of (starts s (ends_of s) None turns) x)) done (got_way turns);
    no_loop = got_loop;
    no_files = got_no_files;
    asked = recovered.asked;
    disk_is = recovered.disk_is;
    are = got_disk;
    disk = disk_played;
    files = files;
    kept_given = got_given;
    kept_calls = got_keeper;
    keeper = keeper_played (recovered.trace ++ es) got_keeper;
  }

-- ---- the start of the loop

module _ (s : AllSettings) (start : Start) (planned : Life) (begun : Begun) (h : History) (seen : Seen) (held : FilesState) (kept : KeeperState) (has : HasBegun s start planned begun h seen held kept) (answer : Option (Unit {0})) (secure : Secure)
    (started : WasStarted s planned (ends_of s) answer secure) where
  abbrev entries : List TraceEntry
  entries = start_entry (keys_of s) no_handshakes (ends_of s) answer

  abbrev whole : List TraceEntry
  whole = has.trace ++ entries

  whole_way : (turns : ℕ) → Execution (life s (ends_of s) None turns) whole (after_start s None turns h answer)
  whole_way turns = way_trans (life s (ends_of s) None turns) (starts s (ends_of s) None turns h) (after_start s None turns h answer) has.trace entries (has.way turns) (answer, refl, refl)

  whole_still : AreStill whole
  whole_still = still_both has.trace entries (still_of has.trace has.no_loop has.no_files) (tt, tt)

  whole_loop : loop_part whole ≡ entry (Starting (ends_of s)) answer ∷ []
  whole_loop = loop_append has.trace entries ∙ ap (λ (l : List LoopEntry). l ++ entry (Starting (ends_of s)) answer ∷ []) has.no_loop

  whole_disk : disk.entries_of has.asked ≡ disk_part whole
  whole_disk = has.are ∙ sym (append-nil (disk_part has.trace)) ∙ sym (disk_append has.trace entries)

  whole_keeper : keeper_part has.trace ≡ keeper_part whole
  whole_keeper = sym (append-nil (keeper_part has.trace)) ∙ sym (keeper_append has.trace entries)

  made : CallsBelow (keys_of s) (given_of planned) secure
  made = calls_below (keys_of s) (given_of planned) secure started.keys started.memory started.start started.is

  so : Joined (keys_of s) no_handshakes made.calls entries secure.state
  so = joined (keys_of s) no_handshakes secure.state made.calls entries (subst (λ (l : List LoopEntry). Carries (keys_of s) no_handshakes made.calls l secure.state) started.above made.carries)

  same : so.below ≡ entries
  same = start_below (keys_of s) no_handshakes (ends_of s) answer secure.state so.below so.so

  calls_are : made.calls ≡ loop_part whole
  calls_are = sym so.is ∙ ap loop_part same ∙ sym whole_loop

  whole_secured : IsSecured (keys_of s) no_handshakes whole whole secure.state
  whole_secured =
      secured_append (keys_of s) no_handshakes no_handshakes secure.state has.trace entries has.trace entries (unlooped (keys_of s) no_handshakes has.trace has.no_loop)
      (subst (λ (l : List TraceEntry). IsSecured (keys_of s) no_handshakes entries l secure.state) same so.so)

  whole_answers : AreLoopAnswers (loop_part whole)
  whole_answers = subst (λ (l : List LoopEntry). AreLoopAnswers l) (sym whole_loop) (record { links = (tt, tt); bytes = (tt, tt) })

  whole_played : place.IsPlayed (given_of planned) (loop_part whole)
  whole_played = subst (λ (l : List LoopEntry). place.IsPlayed (given_of planned) l) calls_are (log_played (given_of planned) made.calls secure.below.call_log made.log started.played)

-- the loop couldn't start
pub loop_failed : (s : AllSettings) (start : Start) (planned : Life) (begun : Begun) (h : History) (seen : Seen) (held : FilesState) (kept : KeeperState) (has : HasBegun s start planned begun h seen held kept) (secure : Secure) → WasStarted s planned (ends_of s) None secure
    → EndedAs s start planned (lived h LoopFailed)
loop_failed s start planned begun h seen held kept has secure started =
    let trace = whole s start planned begun h seen held kept has None secure started in
    let still = whole_still s start planned begun h seen held kept has None secure started in
    record {
      trace = trace;
      is = λ turns. record {
        way = whole_way s start planned begun h seen held kept has None secure started turns;
        answers = whole_answers s start planned begun h seen held kept has None secure started;
        below = trace;
        handshakes = secure.state;
        secured = whole_secured s start planned begun h seen held kept has None secure started;
        asked = has.asked;
        answered = record {
          loop = whole_played s start planned begun h seen held kept has None secure started;
          disk = has.disk;
          are = whole_disk s start planned begun h seen held kept has None secure started;
          files = answers_of (course_of start planned) trace still;
          keeper = subst (λ (l : List KeeperEntry). keeper.IsPlayed start.offsets [] l) (whole_keeper s start planned begun h seen held kept has None secure started) has.keeper;
        };
        uncut = no_cut start planned trace still;
      };
    }

all_left : (more : ℕ) → more ≡ 0 + more
all_left more = omega arith

-- it has started
pub under_way : (s : AllSettings) (start : Start) (planned : Life) (begun : Begun) (h : History) (seen : Seen) (held : FilesState) (kept : KeeperState) (has : HasBegun s start planned begun h seen held kept) (going : Going)
    → WasStarted s planned (ends_of s) (Some tt) going.secure → going.engine ≡ begun.engine → going.offsets ≡ begun.offsets → going.changed ≡ 0 → going.taken ≡ 0 → IsInProgress s start planned going seen held kept
under_way s start planned begun h seen held kept has going started engine offsets unchanged untaken =
    let secure = going.secure in
    let trace = whole s start planned begun h seen held kept has (Some tt) secure started in
    let still = whole_still s start planned begun h seen held kept has (Some tt) secure started in
    let calls = made s start planned begun h seen held kept has (Some tt) secure started in
    let are = calls_are s start planned begun h seen held kept has (Some tt) secure started in
    let stays : course_after (course_of start planned) trace ≡ course_of start planned = stays_behind (course_of start planned) trace still in
    record {
      history = h;
      at = subst (λ (e : Engine). IsAt e s h) (sym engine) has.at;
      trace = trace;
      below = trace;
      stands = record {
        way = λ more.
            rw untaken (subst (λ (n : ℕ). Execution (life s (ends_of s) None n) trace (run s None more h)) (all_left more) (whole_way s start planned begun h seen held kept has (Some tt) secure started more));
        waits = no_waits trace still ∙ sym untaken;
        secured = whole_secured s start planned begun h seen held kept has (Some tt) secure started;
        answers = whole_answers s start planned begun h seen held kept has (Some tt) secure started;
        loop = record {
          keys = started.keys;
          memory = started.memory;
          start = started.start;
          above = started.above ∙ sym (whole_loop s start planned begun h seen held kept has (Some tt) secure started);
          below = calls.log ∙ ap (λ (l : List LoopEntry). Some (given_of planned, l)) are;
          played = whole_played s start planned begun h seen held kept has (Some tt) secure started;
        };
        uncut = no_cut start planned trace still;
        asked = has.asked;
        disk_is = has.disk_is;
        are = whole_disk s start planned begun h seen held kept has (Some tt) secure started;
        answered = answers_of (course_of start planned) trace still;
        files_stand = subst (λ (c : Course). FilesRepresent held c.files) (sym stays) has.files;
        kept_given = has.kept_given;
        kept_calls = has.kept_calls ∙ whole_keeper s start planned begun h seen held kept has (Some tt) secure started;
      };
      changed = unchanged ∙ sym (ap (λ (c : Course). c.changed) stays);
      keeps = subst (λ (o : KeptOffsets). Keeps s o h) (sym offsets) has.keeps;
    }

-- ---- a start in code

grew_from : (given now : LoopGiven) (above new : List LoopEntry) (more : List LoopEntry) → above ≡ [] → (now ≡ given) × (new ≡ above ++ more) → new ≡ more
grew_from given now above new more none grew = grew.1 ∙ ap (λ (l : List LoopEntry). l ++ more) none

-- a keyed loop that was just made, after its start
pub was_started : (s : AllSettings) (planned : Life) (ends : Ends) (answer : Option (Unit {0})) (old new : Secure) → IsFresh s planned old → LogGrew (log_of old) (log_of new) (entry (Starting ends) answer ∷ []) → IsSecure new → new.out_of_memory ≡ false
    → ScriptPlays new.below.call_log → WasStarted s planned ends answer new
was_started s planned ends answer old new fresh grew is memory plays = record {
  keys = standing_keys old new grew.0 ∙ fresh.keys;
  start = ap (λ (b : LoopBelow). b.call_log) (standing_start old new grew.0) ∙ fresh.start;
  above = grew_from (given_to old.name old.keys old.start old.marked) (given_to new.name new.keys new.start new.marked) old.above new.above (entry (Starting ends) answer ∷ []) fresh.above grew;
  memory = memory;
  is = is;
  played = plays;
}

pub loop_starts : (s : AllSettings) (planned : Life) (ends : Ends) (old new : Secure) (result : LoopBegun) → IsFresh s planned old → LogGrew (log_of old) (log_of new) (log_of_call (Starting ends) (start_outcome result)) → IsSecure new → new.out_of_memory ≡ false
    → ScriptPlays new.below.call_log → KeyedLoopStarts s planned ends new result
loop_starts s planned ends old new loop_begun.Ready fresh grew is memory plays = was_started s planned ends (Some tt) old new fresh grew is memory plays
loop_starts s planned ends old new loop_begun.Failed fresh grew is memory plays = was_started s planned ends None old new fresh grew is memory plays
loop_starts s planned ends old new loop_begun.Memory fresh grew is memory plays = tt
