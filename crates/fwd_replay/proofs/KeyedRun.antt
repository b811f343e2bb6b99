-- A live run over a keyed loop, and what it does to the loop below.
use Rattle.std.proofs.Common.{◌≡◌, ◌⊎◌, inl, inr, ℕ, ◌+◌, ◌-◌, ◌*◌, ◌/◌, ◌<◌, ◌≤◌, ◌^◌, min, Bool, true, false, if◌then◌else◌, List, [], ◌∷◌, ◌++◌, map, Option, Some, None, refl, sym, ◌∙◌, ap, subst, append_assoc, arith}
use Rattle.std.proofs.lemmas.List.{append-nil}
use Rattle.fwd_outside.specs.Program.{Return, Execution}
use Rattle.fwd_outside.specs.Log.{LogGrew}
use Rattle.fwd_outside.proofs.LogGrowth.{grew_none}
use Rattle.fwd_outside.proofs.LoopAnswers.{answers_none}
use Rattle.fwd_outside.specs.Cause.{HasCause}
use Rattle.fwd_outside.specs.Loop.{LoopCounts, LoopEntry, LoopLog}
use Rattle.fwd_outside.specs.Disk.{DiskEntry, DiskLog}
use Rattle.fwd_outside.specs.Files.{FilesEntry, FilesLog}
use Rattle.fwd_outside.specs.LoopAnswers.{AreLoopAnswers}
use Rattle.fwd_keeper.specs.Keeper.{KeeperEntry, KeeperLog}
use Rattle.fwd_settings.specs.Endpoints.{ends_of}
use Rattle.fwd_settings.specs.declared.settings_types.AllSettings.{AllSettings}
use Rattle.fwd_model.specs.Trace.{Action, TraceEntry, loop_part, disk_part, files_part, keeper_part}
use Rattle.fwd_model.specs.CallLogs.{CallLogs, LogsGrew}
use Rattle.fwd_model.specs.Fact.{History}
use Rattle.fwd_model.specs.Run.{End, Over, DiskFailed, KeeperFailed, LoopFailed, TurnsSpent, RunResult, life}
use Rattle.fwd_model.proofs.CallLogs.{disk_append, files_append, keeper_append, loop_append}
use Rattle.fwd_engine_state.specs.LoopCounters.{EventsTaken}
use Rattle.fwd_engine_run.proofs.EventCounts.{events_all}
use Rattle.fwd_secure.specs.declared.keys.Keys.{Keys}
use Rattle.fwd_secure.specs.Keys.{has_keys}
use Rattle.fwd_secure.specs.Allowed.{AllMayOccur}
use Rattle.fwd_secure.specs.Handshakes.{Handshakes, no_handshakes}
use Rattle.fwd_secure.specs.Carried.{Carries, Ends, IsCarried, IsCutShort}
use Rattle.fwd_secure.specs.LoopBelow.{LoopBelow}
use Rattle.fwd_secure.specs.LoopCode.{given_to}
use Rattle.fwd_secure.specs.Secure.{Secure, HasHeard, IsSecure, counts_of, has_failed, log_of, most_of, pending}
use Rattle.fwd_secure_settings.specs.Keys.{keys_of}
use Rattle.fwd_secure_trace.specs.Secured.{IsSecured, on_loop}
use Rattle.fwd_secure_trace.proofs.Secured.{joined, part_on_loop, same_part}
use Rattle.fwd_replay.specs.LiveRun.{BeginsRun, HasRun, IsRunLive, IsRunOver, RanToEnd, RanOutOfMemory, RunsToEnd, WasCutShort, WasOver, events_below, heard_in}
use Rattle.fwd_replay.specs.Text.{out_of_memory, report, reported_by}
use Rattle.fwd_replay.specs.declared.report.Ending.{Ending}
use Rattle.fwd_replay.specs.declared.report.Ending.TheVariants as ending
use Rattle.fwd_replay.specs.declared.report.Reported.{Reported}
use Rattle.fwd_replay.proofs.KeyedTurns.{standing_keys, standing_name, standing_start}
use Rattle.fwd_replay.proofs.LoopFailure.{failed_run}
use Rattle.fwd_replay.proofs.TurnCalls.{disk_same, files_same, keeper_same}

-- calls on the loop alone
module _ {X : Type 0} (part : List TraceEntry → List X) (empty : part [] ≡ []) (appends : (xs ys : List TraceEntry) → part (xs ++ ys) ≡ part xs ++ part ys) (skips : (e : LoopEntry) → part (on_loop e ∷ []) ≡ []) where
  no_part : (es : List LoopEntry) → part (map on_loop es) ≡ []
  no_part [] = empty
  no_part (e ∷ es) = appends (on_loop e ∷ []) (map on_loop es) ∙ ap (λ (l : List X). l ++ part (map on_loop es)) (skips e) ∙ no_part es

  pub with_calls : (below : List TraceEntry) (es : List LoopEntry) → part (below ++ map on_loop es) ≡ part below
  with_calls below es = appends below (map on_loop es) ∙ ap (λ (l : List X). part below ++ l) (no_part es) ∙ append-nil (part below)

-- what a keyed loop that was made for a run did, with this trace above it
pub record Kept (s : AllSettings) (old new : LoopLog) (trace : List TraceEntry) (out : Bool) : Type 0 where
  pub below : List TraceEntry
  pub handshakes : Handshakes
  pub secured : IsSecured (keys_of s) no_handshakes trace below handshakes
  pub answers : AreLoopAnswers (loop_part trace)
  pub allowed : AllMayOccur (loop_part below)
  pub begun : List LoopEntry
  pub short : (begun ≡ []) ⊎ IsCutShort (keys_of s) handshakes begun
  pub none : out ≡ false → begun ≡ []
  pub grew : LogGrew old new (loop_part (below ++ map on_loop begun))

first_allowed : (xs ys : List LoopEntry) → AllMayOccur (xs ++ ys) → AllMayOccur xs
first_allowed [] ys all = tt
first_allowed (x ∷ xs) ys all = (all.0, first_allowed xs ys all.1)

no_calls : (keys : Keys) (k at : Handshakes) (begun : List LoopEntry) (out : Bool) → Ends out keys k at begun → (begun ≡ []) ⊎ IsCutShort keys at begun
no_calls keys k at begun false ends = inl ends.0
no_calls keys k at begun true ends = inr ends

none_begun : (keys : Keys) (k at : Handshakes) (begun : List LoopEntry) (out : Bool) → Ends out keys k at begun → out ≡ false → begun ≡ []
none_begun keys k at begun false ends is = ends.0
none_begun keys k at begun true ends is = absurd (cc is)

-- a keyed loop with the keys of these settings, which was made over a loop with this log and answered this trace
pub kept_from : (s : AllSettings) (after : Secure) (old now : LoopLog) → after.keys ≡ keys_of s → after.start.call_log ≡ old → (trace : List TraceEntry) → after.above ≡ loop_part trace → IsSecure after → now ≡ after.below.call_log
    → Kept s old now trace after.out_of_memory
kept_from s after old now are first trace all is log =
    let so = subst (λ (k : Keys). IsCarried k after.out_of_memory after.start.call_log after.below.call_log after.above after.state) are is.carried in
    let carries : Carries (keys_of s) no_handshakes so.below (loop_part trace) so.at = subst (λ (l : List LoopEntry). Carries (keys_of s) no_handshakes so.below l so.at) all so.carries in
    let made = joined (keys_of s) no_handshakes so.at so.below trace carries in
    let calls : so.below ++ so.begun ≡ loop_part (made.below ++ map on_loop so.begun) =
    ap (λ (l : List LoopEntry). l ++ so.begun) (sym made.is) ∙ ap (λ (l : List LoopEntry). loop_part made.below ++ l) (sym (part_on_loop so.begun)) ∙ sym (loop_append made.below (map on_loop so.begun))
    in
    record {
      below = made.below;
      handshakes = so.at;
      secured = made.so;
      answers = subst (λ (l : List LoopEntry). AreLoopAnswers l) all (record { links = is.new_links; bytes = is.bytes });
      allowed = subst AllMayOccur (sym made.is) (first_allowed so.below so.begun so.allowed);
      begun = so.begun;
      short = no_calls (keys_of s) after.state so.at so.begun after.out_of_memory so.ends;
      none = none_begun (keys_of s) after.state so.at so.begun after.out_of_memory so.ends;
      grew =
          subst (λ (l : LoopLog). LogGrew old l (loop_part (made.below ++ map on_loop so.begun))) (sym log)
          (subst (λ (l : LoopLog). LogGrew l after.below.call_log (loop_part (made.below ++ map on_loop so.begun))) first
          (subst (λ (l : List LoopEntry). LogGrew after.start.call_log after.below.call_log l) calls so.grew));
    }

module _ (s : AllSettings) (before after : Secure) (old now : LoopLog) where
  pub kept : before.keys ≡ keys_of s → before.start.call_log ≡ old → before.above ≡ [] → (trace : List TraceEntry) → LogGrew (log_of before) (log_of after) (loop_part trace) → IsSecure after → now ≡ after.below.call_log
      → Kept s old now trace after.out_of_memory
  kept keys start above trace grew is log =
      kept_from s after old now (standing_keys before after grew.0 ∙ keys) (ap (λ (b : LoopBelow). b.call_log) (standing_start before after grew.0) ∙ start) trace
      (grew.1 ∙ ap (λ (l : List LoopEntry). l ++ loop_part trace) above) is log

-- the logs of all devices
module _ (s : AllSettings) (old new up_old up_new : CallLogs) (trace : List TraceEntry) (out : Bool) (so : Kept s old.loop new.loop trace out) where
  pub all_grew : up_old.disk ≡ old.disk → up_new.disk ≡ new.disk → up_old.files ≡ old.files → up_new.files ≡ new.files → up_old.keeper ≡ old.keeper → up_new.keeper ≡ new.keeper → LogsGrew up_old up_new trace
      → LogsGrew old new (so.below ++ map on_loop so.begun)
  all_grew disk disk2 files files2 keeper keeper2 grew =
      let calls = map on_loop so.begun in
      let on_disk : disk_part trace ≡ disk_part (so.below ++ calls) = sym (with_calls disk_part refl disk_append (λ e. refl) so.below so.begun ∙ disk_same s no_handshakes so.handshakes trace so.below so.secured) in
      let on_files : files_part trace ≡ files_part (so.below ++ calls) = sym (with_calls files_part refl files_append (λ e. refl) so.below so.begun ∙ files_same s no_handshakes so.handshakes trace so.below so.secured) in
      let on_keeper : keeper_part trace ≡ keeper_part (so.below ++ calls) = sym (with_calls keeper_part refl keeper_append (λ e. refl) so.below so.begun ∙ keeper_same s no_handshakes so.handshakes trace so.below so.secured) in
      record {
        loop = so.grew;
        disk = subst (λ (l : DiskLog). LogGrew old.disk l (disk_part (so.below ++ calls))) disk2 (subst (λ (l : DiskLog). LogGrew l up_new.disk (disk_part (so.below ++ calls))) disk (subst (λ (l : List DiskEntry). LogGrew up_old.disk up_new.disk l) on_disk grew.disk));
        files = subst (λ (l : FilesLog). LogGrew old.files l (files_part (so.below ++ calls))) files2 (subst (λ (l : FilesLog). LogGrew l up_new.files (files_part (so.below ++ calls))) files (subst (λ (l : List FilesEntry). LogGrew up_old.files up_new.files l) on_files grew.files));
        keeper = subst (λ (l : KeeperLog). LogGrew old.keeper l (keeper_part (so.below ++ calls))) keeper2 (subst (λ (l : KeeperLog). LogGrew l up_new.keeper (keeper_part (so.below ++ calls))) keeper (subst (λ (l : List KeeperEntry). LogGrew up_old.keeper up_new.keeper l) on_keeper grew.keeper));
      }

-- the end of a run whose report says that the loop failed
pub end_failed : (text : List ℕ) (end : End) → (reported_by text end).ending ≡ ending.LoopFailed → end ≡ LoopFailed
end_failed text Over is = absurd (cc is)
end_failed text DiskFailed is = absurd (cc is)
end_failed text KeeperFailed is = absurd (cc is)
end_failed text LoopFailed is = refl
end_failed text TurnsSpent is = absurd (cc is)

-- memory was out before the first call
pub begins_none : (s : AllSettings) (ticks : Option ℕ) (turns : ℕ) (w : CallLogs) → BeginsRun s ticks turns w w
begins_none s ticks turns w = record {
  trace = [];
  left = life s (ends_of s) ticks turns;
  way = refl;
  answers = answers_none;
  below = [];
  handshakes = no_handshakes;
  secured = (refl, refl);
  begun = [];
  short = inl refl;
  asked = record { loop = grew_none w.loop; disk = grew_none w.disk; files = grew_none w.files; keeper = grew_none w.keeper };
}

-- ---- a run over a keyed loop is a run over the loop below

module _ (s : AllSettings) (ticks : Option ℕ) (turns : ℕ) (disk disk2 : DiskLog) (files files2 : FilesLog) (keeper keeper2 : KeeperLog) (old now : LoopLog) (before after : Secure) where
  abbrev logs : LoopLog → DiskLog → FilesLog → KeeperLog → CallLogs
  logs l d f k = record { loop = l; disk = d; files = f; keeper = k }

  pub lives_below : before.keys ≡ keys_of s → before.start.call_log ≡ old → before.above ≡ [] → IsSecure after → now ≡ after.below.call_log → (reported result : Reported) → result ≡ (if after.out_of_memory then out_of_memory else reported)
      → IsRunOver s ticks turns (logs (log_of before) disk files keeper) (logs (log_of after) disk2 files2 keeper2) reported → IsRunLive s ticks turns (logs old disk files keeper) (logs now disk2 files2 keeper2) result
  lives_below keys start above is log reported result checked over = by after.out_of_memory refl over
    where
      short : (trace : List TraceEntry) (left : Action RunResult) → Execution (life s (ends_of s) ticks turns) trace left → LogsGrew (logs (log_of before) disk files keeper) (logs (log_of after) disk2 files2 keeper2) trace → BeginsRun s ticks turns (logs old disk files keeper) (logs now disk2 files2 keeper2)
      short trace left way grew =
          let so = kept s before after old now keys start above trace grew.loop is log in
          record {
            trace = trace;
            left = left;
            way = way;
            answers = so.answers;
            below = so.below;
            handshakes = so.handshakes;
            secured = so.secured;
            begun = so.begun;
            short = so.short;
            asked = all_grew s (logs old disk files keeper) (logs now disk2 files2 keeper2) (logs (log_of before) disk files keeper) (logs (log_of after) disk2 files2 keeper2) trace after.out_of_memory so refl refl refl refl refl refl grew;
          }

      by : (out : Bool) → after.out_of_memory ≡ out → IsRunOver s ticks turns (logs (log_of before) disk files keeper) (logs (log_of after) disk2 files2 keeper2) reported → IsRunLive s ticks turns (logs old disk files keeper) (logs now disk2 files2 keeper2) result
      by true has (WasOver ran) = RanOutOfMemory (short ran.did.entries (Return ran.lived) ran.did.way ran.did.asked) (checked ∙ ap (λ (b : Bool). if b then out_of_memory else reported) has)
      by true has (WasCutShort begun none) = RanOutOfMemory (short begun.1.entries begun.0 begun.1.way begun.1.asked) (checked ∙ ap (λ (b : Bool). if b then out_of_memory else reported) has)
      by false has (WasCutShort begun none) = RanOutOfMemory (short begun.1.entries begun.0 begun.1.way begun.1.asked) (checked ∙ ap (λ (b : Bool). if b then out_of_memory else reported) has ∙ none)
      by false has (WasOver ran) =
          let trace = ran.did.entries in
          let so = kept s before after old now keys start above trace ran.did.asked.loop is log in
          let grew = all_grew s (logs old disk files keeper) (logs now disk2 files2 keeper2) (logs (log_of before) disk files keeper) (logs (log_of after) disk2 files2 keeper2) trace after.out_of_memory so refl refl refl refl refl refl ran.did.asked in
          let whole : so.below ++ map on_loop so.begun ≡ so.below = ap (λ (l : List LoopEntry). so.below ++ map on_loop l) (so.none has) ∙ append-nil so.below in
          RanToEnd
          (record {
            lived = ran.lived;
            trace = trace;
            way = ran.did.way;
            answers = so.answers;
            below = so.below;
            handshakes = so.handshakes;
            secured = so.secured;
            allowed = so.allowed;
            asked = subst (λ (es : List TraceEntry). LogsGrew (logs old disk files keeper) (logs now disk2 files2 keeper2) es) whole grew;
            reports = checked ∙ ap (λ (b : Bool). if b then out_of_memory else reported) has ∙ ran.reports;
          })

  -- the keyed loop still wraps the same loop
  pub same_name : (reported : Reported) → IsRunOver s ticks turns (logs (log_of before) disk files keeper) (logs (log_of after) disk2 files2 keeper2) reported → after.name ≡ before.name
  same_name reported (WasOver ran) = standing_name before after ran.did.asked.loop.0
  same_name reported (WasCutShort begun none) = standing_name before after begun.1.asked.loop.0

  pub same_start : (reported : Reported) → IsRunOver s ticks turns (logs (log_of before) disk files keeper) (logs (log_of after) disk2 files2 keeper2) reported → after.start ≡ before.start
  same_start reported (WasOver ran) = standing_start before after ran.did.asked.loop.0
  same_start reported (WasCutShort begun none) = standing_start before after begun.1.asked.loop.0

  pub same_keys : (reported : Reported) → IsRunOver s ticks turns (logs (log_of before) disk files keeper) (logs (log_of after) disk2 files2 keeper2) reported → after.keys ≡ before.keys
  same_keys reported (WasOver ran) = standing_keys before after ran.did.asked.loop.0
  same_keys reported (WasCutShort begun none) = standing_keys before after begun.1.asked.loop.0

  -- a run ends because the loop failed only if the loop below did
  loop_failed_above : before.above ≡ [] → (reported : Reported) → IsRunOver s ticks turns (logs (log_of before) disk files keeper) (logs (log_of after) disk2 files2 keeper2) reported → reported.ending ≡ ending.LoopFailed → has_failed after.above ≡ true
  loop_failed_above none reported (WasOver ran) is =
      let failed : ran.lived.end ≡ LoopFailed = end_failed (report s ran.lived.history) ran.lived.end (sym (ap (λ (r : Reported). r.ending) ran.reports) ∙ is) in
      ap has_failed (ran.did.asked.loop.1 ∙ ap (λ (l : List LoopEntry). l ++ loop_part ran.did.entries) none) ∙ failed_run s (ends_of s) ticks turns ran.did.entries ran.lived ran.did.way failed
  loop_failed_above none reported (WasCutShort begun empty) is =
      let no : ending.Memory ≡ ending.LoopFailed = sym (ap (λ (r : Reported). r.ending) empty) ∙ is in
      absurd (cc no)

  failed_unless : (out : Bool) (reported result : Reported) → result ≡ (if out then out_of_memory else reported) → result.ending ≡ ending.LoopFailed → reported.ending ≡ ending.LoopFailed
  failed_unless true reported result checked is =
      let no : ending.Memory ≡ ending.LoopFailed = sym (ap (λ (r : Reported). r.ending) checked) ∙ is in
      absurd (cc no)
  failed_unless false reported result checked is = sym (ap (λ (r : Reported). r.ending) checked) ∙ is

  pub loop_cause : before.above ≡ [] → IsSecure after → (reported result : Reported) → result ≡ (if after.out_of_memory then out_of_memory else reported)
      → IsRunOver s ticks turns (logs (log_of before) disk files keeper) (logs (log_of after) disk2 files2 keeper2) reported → HasCause before.start.faults after.below.faults (result.ending ≡ ending.LoopFailed)
  loop_cause none is reported result checked over =
      let cause = is.cause in
      let start : after.start.faults ≡ before.start.faults = ap (λ (b : LoopBelow). b.faults) (same_start reported over) in
      subst (λ (n : ℕ). HasCause n after.below.faults (result.ending ≡ ending.LoopFailed)) start
      (record { later = cause.later; cause = λ failed. cause.cause (loop_failed_above none reported over (failed_unless after.out_of_memory reported result checked failed)) })

-- ---- the events of the loop below

-- so many events of the keyed loop come from half as many of the loop below, or from as many if there are no keys
happened : (n start below above kept : ℕ) (keyed : Bool) → n ≤ above → above + kept + most_of keyed * start ≤ most_of keyed * below → start + (if keyed then (n + 1) / 2 else n) ≤ below
happened n start below above kept true least all = omega (arith, least, all)
happened n start below above kept false least all = omega (arith, least, all)

pub events_taken : (s : AllSettings) (n : ℕ) (before after : Secure) → n ≤ 2 ^ 64 - 1 → after.keys ≡ keys_of s → after.start ≡ before.start → IsSecure after → EventsTaken n (counts_of before) (counts_of after) → EventsTaken (events_below s n) before.start.counts after.below.counts
events_taken s n before after fits keys start is heard =
    let keyed : has_keys (keys_of s) ≡ after.keyed = ap has_keys (sym keys) ∙ sym is.keyed in
    subst (λ (b : LoopBelow). EventsTaken (events_below s n) b.counts after.below.counts) start
    (record {
      happenings = by is.heard keyed;
      greatest = is.rose;
      endless = is.endless;
    })
  where
    least : n ≤ after.happenings
    least = let x = heard.happenings in grind (arith, x, fits)

    by : HasHeard after → has_keys (keys_of s) ≡ after.keyed → min (after.start.counts.happenings + events_below s n) (2 ^ 64 - 1) ≤ after.below.counts.happenings
    by (inl most) keyed = grind (arith, most)
    by (inr all) keyed =
        let here = happened n after.start.counts.happenings after.below.counts.happenings after.happenings (pending after) after.keyed least all in
        let so : after.start.counts.happenings + events_below s n ≤ after.below.counts.happenings = subst (λ (b : Bool). after.start.counts.happenings + (if b then (n + 1) / 2 else n) ≤ after.below.counts.happenings) (sym keyed) here in
        grind (arith, so)

-- ---- what is known of the loop below in the end

pub heard_fits : (most : ℕ) (end : Ending) → most < 2 ^ 64 → heard_in most end ≤ 2 ^ 64 - 1
heard_fits most ending.TurnsSpent fits = omega (arith, fits)
heard_fits most ending.Over fits = omega arith
heard_fits most ending.DiskFailed fits = omega arith
heard_fits most ending.KeeperFailed fits = omega arith
heard_fits most ending.LoopFailed fits = omega arith
heard_fits most ending.Memory fits = omega arith

heard_checked : (most : ℕ) (out : Bool) (reported result : Reported) (a b : LoopCounts) → result ≡ (if out then out_of_memory else reported) → EventsTaken (heard_in most reported.ending) a b → EventsTaken (heard_in most result.ending) a b
heard_checked most true reported result a b checked heard = rw checked (events_all (heard_in most reported.ending) 0 (omega arith) heard)
heard_checked most false reported result a b checked heard = rw checked heard

pub counts_below : (s : AllSettings) (most : ℕ) (before after : Secure) (old new : LoopCounts) (reported result : Reported) → most < 2 ^ 64 → after.keys ≡ keys_of s → after.start ≡ before.start → IsSecure after → before.start.counts ≡ old → new ≡ after.below.counts
    → result ≡ (if after.out_of_memory then out_of_memory else reported) → EventsTaken (heard_in most reported.ending) (counts_of before) (counts_of after) → EventsTaken (events_below s (heard_in most result.ending)) old new
counts_below s most before after old new reported result fits keys start is first last checked heard =
    let n = heard_in most result.ending in
    let all = events_taken s n before after (heard_fits most result.ending fits) keys start is (heard_checked most after.out_of_memory reported result (counts_of before) (counts_of after) checked heard) in
    subst (λ (c : LoopCounts). EventsTaken (events_below s n) old c) (sym last) (subst (λ (c : LoopCounts). EventsTaken (events_below s n) c after.below.counts) first all)

pub faults_below : {P : Type 0} (a b old new : ℕ) → a ≡ old → new ≡ b → HasCause a b P → HasCause old new P
faults_below {P = P} a b old new first last cause = subst (λ (n : ℕ). HasCause old n P) (sym last) (subst (λ (n : ℕ). HasCause n b P) first cause)
