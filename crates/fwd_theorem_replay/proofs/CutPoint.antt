-- The point at which a run ends or is cut is determined.
use Rattle.std.proofs.Common.{◌≡◌, ◌⊎◌, inl, inr, ⊎_elim, ℕ, suc, ◌+◌, ◌-◌, ◌<◌, Bool, true, false, ◌&&◌, ◌||◌, List, [], ◌∷◌, ◌++◌, Option, Some, None, is_some, refl, sym, ◌∙◌, ap, subst, arith}
use Rattle.std.proofs.lemmas.Bool.{cases_lt}
use Rattle.std.proofs.lemmas.List.{append-nil}
use Rattle.fwd_outside.specs.Program.{Return, Ask, bind, Execution}
use Rattle.fwd_outside.proofs.Executions.{way_bind, way_trans}
use Rattle.fwd_outside.specs.Loop.{LoopEntry, Wait}
use Rattle.fwd_outside.specs.declared.happening.Happening.{Happening}
use Rattle.fwd_disk_mem.specs.declared.entry.MemEntry.{MemEntry}
use Rattle.fwd_disk_mem.specs.Entry.{entries_of}
use Rattle.fwd_disk_mem.proofs.CallTrace.{played_first as told_first}
use Rattle.fwd_keeper.specs.Keeper.{KeeperEntry, KeeperGiven}
use Rattle.fwd_keeper_mem.specs.KeeperAnswers as keeper
use Rattle.fwd_keeper_mem.specs.Offsets.{SameOffsets}
use Rattle.fwd_settings.specs.Endpoints.{ends_of}
use Rattle.fwd_settings.specs.declared.settings_types.AllSettings.{AllSettings}
use Rattle.fwd_script.specs.declared.schedule.Cut.{Cut}
use Rattle.fwd_script.specs.declared.schedule.Life.{Life}
use Rattle.fwd_script_loop.specs.Lines.{given_of}
use Rattle.fwd_script_loop.specs.Place.{Place, ArePlayed, beginning}
use Rattle.fwd_script_loop.proofs.PlayedCalls.{played_first}
use Rattle.fwd_model.specs.Fact.{History}
use Rattle.fwd_model.specs.Trace.{Action, Answer, Call, TraceEntry, OnLoop, loop_part, disk_part, keeper_part}
use Rattle.fwd_model.specs.Settings.{saturating_plus}
use Rattle.fwd_model.specs.Clock.{clock}
use Rattle.fwd_model.specs.Limits.{paused}
use Rattle.fwd_model.specs.Run.{Over, TurnsSpent, RunResult, brought, lived, run, life}
use Rattle.fwd_model.proofs.CallLogs.{loop_append, keeper_append}
use Rattle.fwd_secure.specs.declared.keys.Keys.{Keys}
use Rattle.fwd_secure.specs.declared.handshakes.KeptBytes.{KeptBytes}
use Rattle.fwd_secure.specs.Keys.{has_keys}
use Rattle.fwd_secure.specs.Kept.{first_given, holds}
use Rattle.fwd_secure.specs.Handshakes.{Handshakes, no_handshakes}
use Rattle.fwd_secure.specs.Rules.{Answers as Answering, answers, answers_by, brings, waits_by}
use Rattle.fwd_secure.proofs.KeptLists.{holds-first}
use Rattle.fwd_secure_settings.specs.Keys.{keys_of}
use Rattle.fwd_secure_trace.specs.Secured.{IsSecured, as_action, secured}
use Rattle.fwd_secure_trace.proofs.Secured.{secured_append}
use Rattle.fwd_theorem_trace.specs.Waits.{waits_in}
use Rattle.fwd_replay.specs.FileChanges.{Course, course_after, after_call, FilesAnswered, is_last_next, brings_last, has_last}
use Rattle.fwd_replay.specs.Runs.{Start, disk_of, course_of, IsAnswered, CutRun, IsCut, IsCutIn, InTurn, WasOver}
use Rattle.fwd_theorem_replay.proofs.AlikeDisks.{Alike, alike_back}
use Rattle.fwd_theorem_replay.proofs.AlikeKeepers.{same_back, kept_first}
use Rattle.fwd_theorem_crash.specs.StepBoundaries.{turn}
use Rattle.fwd_theorem_crash.proofs.MoreTurns.{life_on}
use Rattle.fwd_theorem_replay.proofs.CommonPrefix.{Answers, passes, ends_same}
use Rattle.fwd_theorem_replay.proofs.DeviceRuns.{Outcome, counted, device_way, left_after, on_devices, outcome, same_waits, waited_after}

-- ---- the answers of a run

pub files_first : (course : Course) (es more : List TraceEntry) → FilesAnswered course (es ++ more) → FilesAnswered course es
files_first course [] more answered = tt
files_first course (e ∷ es) more answered = (answered.0, files_first (after_call e.call course) es more answered.1)

-- the answers to all calls, and to the first ones, for a course from the start
module _ (start : Start) (planned : Life) (course : Course) (is : course_of start planned ≡ course) where
  pub all_answers : (es : List TraceEntry) (asked : List MemEntry) → IsAnswered start planned es asked → Answers (beginning (given_of planned)) (disk_of start planned) course start.offsets [] es asked
  all_answers es asked answered = record {
    loop = answered.loop;
    are = answered.are;
    disk = answered.disk;
    files = subst (λ (c : Course). FilesAnswered c es) is answered.files;
    keeper = answered.keeper;
  }

  pub first_answers : (es more : List TraceEntry) (asked asked_more : List MemEntry) → IsAnswered start planned (es ++ more) (asked ++ asked_more) → entries_of asked ≡ disk_part es
      → Answers (beginning (given_of planned)) (disk_of start planned) course start.offsets [] es asked
  first_answers es more asked asked_more answered are = record {
    loop = played_first (beginning (given_of planned)) (loop_part es) (loop_part more) (subst (λ (l : List LoopEntry). ArePlayed (beginning (given_of planned)) l) (loop_append es more) answered.loop);
    are = are;
    disk = told_first (disk_of start planned) asked asked_more answered.disk;
    files = files_first course es more (subst (λ (c : Course). FilesAnswered c (es ++ more)) is answered.files);
    keeper = kept_first start.offsets [] (keeper_part es) (keeper_part more) (subst (λ (l : List KeeperEntry). keeper.IsPlayed start.offsets [] l) (keeper_append es more) answered.keeper);
  }

-- ---- a run that goes on although it is to be cut

or_yes : (a b : Bool) → b ≡ true → (a || b) ≡ true
or_yes true b so = refl
or_yes false b so = so

last_behind : (course : Course) (es more : List TraceEntry) → has_last (course_after course es) more ≡ true → has_last course (es ++ more) ≡ true
last_behind course [] more last = last
last_behind course (e ∷ es) more last = or_yes (brings_last e.call course) (has_last (after_call e.call course) (es ++ more)) (last_behind (after_call e.call course) es more last)

sum_of : (n turns : ℕ) → n < turns → turns ≡ n + suc (turns - n - 1)
sum_of n turns fewer = omega (arith, fewer)

first_last : {R : Type 0} (call : Call) (go : Answer call → Action R) (at : Course) (end : R) (es : List TraceEntry) → Execution (Ask call go) es (Return end) → brings_last call at ≡ true → has_last at es ≡ true
first_last call go at end [] way last = absurd (cc way)
first_last call go at end (e ∷ es) way last =
    subst (λ (f : TraceEntry). has_last at (f ∷ es) ≡ true) (sym way.1) (ap (λ (b : Bool). b || has_last (after_call call at) es) last)

-- a wait that gives no kept bytes asks the loop below
module _ (keys : Keys) (k : Handshakes) (until mask : ℕ) where
  abbrev Asks : Answering (Wait until mask) → Type 0
  Asks p = (go : Happening → Answering (Wait until mask)) × (p ≡ Ask (Wait until mask) go)

  asks_first : holds mask k.kept ≡ false → Asks (answers keys k (Wait until mask))
  asks_first none = by (has_keys keys)
    where
      given : (first : Option KeptBytes) → is_some first ≡ false → Asks (waits_by keys k until mask first)
      given (Some bytes) is = absurd (cc is)
      given None is = (brings keys k, refl)

      by : (keyed : Bool) → Asks (answers_by keyed keys k (Wait until mask))
      by true = given (first_given mask k.kept) (sym (holds-first mask k.kept) ∙ none)
      by false = ((λ answer. Return (answer, k)), refl)

module _ (s : AllSettings) (place : Place) (call_log told2 : List MemEntry) (course : Course) (offsets offsets2 : KeeperGiven) (alike : Alike call_log told2) (same_offsets : SameOffsets offsets offsets2) where
  -- a turn begins with its wait
  waits_last : (h : History) (k : Handshakes) (n more : ℕ) (at : Course) (end : Outcome RunResult) (es : List TraceEntry) → Execution (secured (keys_of s) k (counted n (run s None (suc more) h))) es (Return end)
      → holds (paused s h) k.kept ≡ false → is_last_next (paused s h) at ≡ true → has_last at es ≡ true
  unfolding run
  waits_last h k n more at end es way asks last =
      let until = saturating_plus (clock h) 250 in
      let mask = paused s h in
      let next : Happening × Handshakes → Action (Outcome RunResult) = λ went. secured (keys_of s) went.1 (counted (n + 1) (brought s None (run s None more) h went.0)) in
      let first = asks_first (keys_of s) k until mask asks in
      let begins : Execution (bind (as_action (Ask (Wait until mask) first.0)) next) es (Return end) = subst (λ (p : Answering (Wait until mask)). Execution (bind (as_action p) next) es (Return end)) first.1 way in
      first_last (OnLoop (Wait until mask)) (λ answer. bind (as_action (first.0 answer)) next) at end es begins last

  pub goes_past : (n turns : ℕ) (h : History) (k : Handshakes) (end : Outcome RunResult) (before below below2 : List TraceEntry) (asked asked2 : List MemEntry) → n < turns
      → Execution (life s (ends_of s) None n) before (Return (lived h TurnsSpent)) → IsSecured (keys_of s) no_handshakes before below k → Execution (on_devices s (life s (ends_of s) None turns)) below2 (Return end)
      → Answers place call_log course offsets [] below asked → Answers place told2 course offsets2 [] below2 asked2 → holds (paused s h) k.kept ≡ false → is_last_next (paused s h) (course_after course below) ≡ true → has_last course below2 ≡ true
  goes_past n turns h k end before below below2 asked asked2 fewer one so other first second asks last =
      let more = turns - n - 1 in
      let whole = life s (ends_of s) None turns in
      let rest = run s None (suc more) h in
      let on = device_way s whole rest before below k (life_on s h (suc more) (ends_of s) n turns (sum_of n turns fewer) before one) so in
      let goes = passes (on_devices s whole) place call_log told2 course offsets offsets2 [] below below2 asked asked2 (left_after s k before rest) end alike same_offsets on other first second in
      subst (λ (l : List TraceEntry). has_last course l ≡ true) (sym goes.is)
      (last_behind course below goes.rest (waits_last h k (waited_after 0 before) more (course_after course below) end goes.rest goes.way asks last))

-- ---- a run that is cut

-- the two cases of `IsCutIn`, where the run's course is this
pub record IsCutInTurn (s : AllSettings) (turns : ℕ) (c : CutRun) (at : Course) : Type 0 where
  pub fewer : waits_in c.before < turns
  pub way : Execution (life s (ends_of s) None (waits_in c.before)) c.before (Return (lived c.history TurnsSpent))
  pub asks : holds (paused s c.history) c.handshakes.kept ≡ false
  pub takes : is_last_next (paused s c.history) at ≡ true
  pub last : History
  pub own : Execution (turn s c.history) c.turn (Return last)

pub record WasOverBefore (s : AllSettings) (turns : ℕ) (c : CutRun) : Type 0 where
  pub way : Execution (life s (ends_of s) None turns) c.before (Return (lived c.history Over))
  pub none : c.turn ≡ []

abbrev pub CutIn : AllSettings → ℕ → CutRun → Course → Type 0
CutIn s turns c at = IsCutInTurn s turns c at ⊎ WasOverBefore s turns c

cut_in_of : (s : AllSettings) (turns : ℕ) (c : CutRun) (at : Course) → IsCutIn s turns c.before c.history c.handshakes at c.turn → CutIn s turns c at
cut_in_of s turns c at (InTurn fewer way asks takes last own) = inl (record { fewer = fewer; way = way; asks = asks; takes = takes; last = last; own = own })
cut_in_of s turns c at (WasOver way none) = inr (record { way = way; none = none })

-- what is known of a run that is cut, from its course on
pub record Cutting (s : AllSettings) (turns : ℕ) (place : Place) (call_log : List MemEntry) (course : Course) (offsets : KeeperGiven) (c : CutRun) : Type 0 where
  pub cut_in : CutIn s turns c (course_after course c.below)
  pub devices : IsSecured (keys_of s) no_handshakes c.before c.below c.handshakes
  pub devices_in : IsSecured (keys_of s) c.handshakes c.turn c.below_in c.handshakes_last
  pub uncut : has_last course c.below ≡ false
  pub before : Answers place call_log course offsets [] c.below c.asked
  pub all : Answers place call_log course offsets [] (c.below ++ c.below_in) (c.asked ++ c.asked_in)

pub not_last : (cut : Option Cut) (at : Cut) (last : Bool) → cut ≡ Some at → (is_some cut && last) ≡ false → last ≡ false
not_last cut at last is none = subst (λ (o : Option Cut). (is_some o && last) ≡ false) is none

pub cutting_of : (s : AllSettings) (turns : ℕ) (start : Start) (planned : Life) (c : CutRun) (course : Course) → course_of start planned ≡ course → IsCut s turns start planned c
    → Cutting s turns (beginning (given_of planned)) (disk_of start planned) course start.offsets c
cutting_of s turns start planned c course is cut = record {
  cut_in = subst (λ (at : Course). CutIn s turns c (course_after at c.below)) is (cut_in_of s turns c (course_after (course_of start planned) c.below) cut.cut_in);
  devices = cut.secured;
  devices_in = cut.secured_in;
  uncut = subst (λ (at : Course). has_last at c.below ≡ false) is (not_last planned.cut c.cut (has_last (course_of start planned) c.below) cut.is cut.uncut);
  before = first_answers start planned course is c.below c.below_in c.asked c.asked_in cut.answered cut.are;
  all = all_answers start planned course is (c.below ++ c.below_in) (c.asked ++ c.asked_in) cut.answered;
}

pub never : {X : Type 0} (b : Bool) → b ≡ true → b ≡ false → X
never b is other = absurd (cc (sym is ∙ other))

cancel : (xs ys zs : List TraceEntry) → xs ++ ys ≡ xs ++ zs → ys ≡ zs
cancel [] ys zs same = same
cancel (x ∷ xs) ys zs same = cancel xs ys zs (cc same)

-- a run of that many turns, and one more turn without its puts
abbrev cut_life : AllSettings → ℕ → Action History
cut_life s turns = bind (life s (ends_of s) None turns) (λ ended. turn s ended.history)

turn_follows : (s : AllSettings) (turns : ℕ) (ended : RunResult) (before calls : List TraceEntry) (last : History) → Execution (life s (ends_of s) None turns) before (Return ended) → Execution (turn s ended.history) calls (Return last)
    → Execution (cut_life s turns) (before ++ calls) (Return last)
turn_follows s turns ended before calls last way own =
    way_trans (cut_life s turns) (turn s ended.history) (Return last) before calls (way_bind (life s (ends_of s) None turns) (Return ended) before (λ (r : RunResult). turn s r.history) way) own

-- without calls of the engine there are none on the devices
none_below : (keys : Keys) (k t : Handshakes) (above below : List TraceEntry) → above ≡ [] → IsSecured keys k above below t → below ≡ []
none_below keys k t [] below none so = so.0
none_below keys k t (e ∷ es) below none so = absurd (cc none)

-- both are cut at the same point
pub record IsSameCut (c c2 : CutRun) : Type 0 where
  pub history : c2.history ≡ c.history
  pub below : c2.below ≡ c.below
  pub below_in : c2.below_in ≡ c.below_in
  pub waits : waits_in (c2.before ++ c2.turn) ≡ waits_in (c.before ++ c.turn)

module _ (s : AllSettings) (turns : ℕ) (place : Place) (call_log told2 : List MemEntry) (course : Course) (offsets offsets2 : KeeperGiven) (alike : Alike call_log told2) (same_offsets : SameOffsets offsets offsets2) where
  -- two runs that ended, by the calls on the devices
  same_before : (n : ℕ) (c c2 : CutRun) (end end2 : RunResult) → Cutting s turns place call_log course offsets c → Cutting s turns place told2 course offsets2 c2
      → Execution (life s (ends_of s) None n) c.before (Return end) → Execution (life s (ends_of s) None n) c2.before (Return end2) → (c2.below ≡ c.below) × (outcome end2 c2.before c2.handshakes ≡ outcome end c.before c.handshakes)
  same_before n c c2 end end2 one other way way2 =
      let whole = life s (ends_of s) None n in
      let done = outcome end c.before c.handshakes in
      let done2 = outcome end2 c2.before c2.handshakes in
      ends_same done done2 c.below c2.below
      (passes (on_devices s whole) place call_log told2 course offsets offsets2 [] c.below c2.below c.asked c2.asked (Return done) done2 alike same_offsets
      (device_way s whole (Return end) c.before c.below c.handshakes way one.devices) (device_way s whole (Return end2) c2.before c2.below c2.handshakes way2 other.devices) one.before other.before)

  -- and with the turn
  same_all : (n : ℕ) (c c2 : CutRun) (last last2 : History) → Cutting s turns place call_log course offsets c → Cutting s turns place told2 course offsets2 c2
      → Execution (cut_life s n) (c.before ++ c.turn) (Return last) → Execution (cut_life s n) (c2.before ++ c2.turn) (Return last2)
      → (c2.below ++ c2.below_in ≡ c.below ++ c.below_in) × (outcome last2 (c2.before ++ c2.turn) c2.handshakes_last ≡ outcome last (c.before ++ c.turn) c.handshakes_last)
  same_all n c c2 last last2 one other way way2 =
      let done = outcome last (c.before ++ c.turn) c.handshakes_last in
      let done2 = outcome last2 (c2.before ++ c2.turn) c2.handshakes_last in
      let devices = secured_append (keys_of s) no_handshakes c.handshakes c.handshakes_last c.before c.turn c.below c.below_in one.devices one.devices_in in
      let devices2 = secured_append (keys_of s) no_handshakes c2.handshakes c2.handshakes_last c2.before c2.turn c2.below c2.below_in other.devices other.devices_in in
      ends_same done done2 (c.below ++ c.below_in) (c2.below ++ c2.below_in)
      (passes (on_devices s (cut_life s n)) place call_log told2 course offsets offsets2 [] (c.below ++ c.below_in) (c2.below ++ c2.below_in) (c.asked ++ c.asked_in) (c2.asked ++ c2.asked_in) (Return done) done2 alike same_offsets
      (device_way s (cut_life s n) (Return last) (c.before ++ c.turn) (c.below ++ c.below_in) c.handshakes_last way devices)
      (device_way s (cut_life s n) (Return last2) (c2.before ++ c2.turn) (c2.below ++ c2.below_in) c2.handshakes_last way2 devices2)
      one.all other.all)

  pub same_cut : (c c2 : CutRun) → Cutting s turns place call_log course offsets c → Cutting s turns place told2 course offsets2 c2 → IsSameCut c c2
  same_cut c c2 one other = by one.cut_in other.cut_in
    where
      -- the calls of the turn, if those before it are the same
      rest_is : c2.below ≡ c.below → c2.below ++ c2.below_in ≡ c.below ++ c.below_in → c2.below_in ≡ c.below_in
      rest_is before all = cancel c.below c2.below_in c.below_in (subst (λ (l : List TraceEntry). l ++ c2.below_in ≡ c.below ++ c.below_in) before all)

      both_in : (on : IsCutInTurn s turns c (course_after course c.below)) (on2 : IsCutInTurn s turns c2 (course_after course c2.below)) → waits_in c2.before ≡ waits_in c.before → IsSameCut c c2
      both_in on on2 is =
          let n = waits_in c.before in
          let spent = lived c.history TurnsSpent in
          let spent2 = lived c2.history TurnsSpent in
          let way2 = subst (λ (m : ℕ). Execution (life s (ends_of s) None m) c2.before (Return spent2)) is on2.way in
          let first = same_before n c c2 spent spent2 one other on.way way2 in
          let all = same_all n c c2 on.last on2.last one other (turn_follows s n spent c.before c.turn on.last on.way on.own) (turn_follows s n spent2 c2.before c2.turn on2.last way2 on2.own) in
          record {
            history = ap (λ (o : Outcome RunResult). ((o.0).0).history) first.1;
            below = first.0;
            below_in = rest_is first.0 all.0;
            waits = same_waits (c.before ++ c.turn) (c2.before ++ c2.turn) (ap (λ (o : Outcome History). (o.0).1) all.1);
          }

      both_over : WasOverBefore s turns c → WasOverBefore s turns c2 → IsSameCut c c2
      both_over over over2 =
          let first = same_before turns c c2 (lived c.history Over) (lived c2.history Over) one other over.way over2.way in
          let none = none_below (keys_of s) c.handshakes c.handshakes_last c.turn c.below_in over.none one.devices_in in
          let none2 = none_below (keys_of s) c2.handshakes c2.handshakes_last c2.turn c2.below_in over2.none other.devices_in in
          let before = same_waits c.before c2.before (ap (λ (o : Outcome RunResult). (o.0).1) first.1) in
          record {
            history = ap (λ (o : Outcome RunResult). ((o.0).0).history) first.1;
            below = first.0;
            below_in = none2 ∙ sym none;
            waits =
                ap waits_in (ap (λ (l : List TraceEntry). c2.before ++ l) over2.none ∙ append-nil c2.before)
                ∙ before
                ∙ sym (ap waits_in (ap (λ (l : List TraceEntry). c.before ++ l) over.none ∙ append-nil c.before));
          }

      -- one that has fewer turns would be cut in the other
      short_of : (turns2 : ℕ) (end : RunResult) (on : IsCutInTurn s turns c (course_after course c.below)) → waits_in c.before < turns2 → Execution (life s (ends_of s) None turns2) c2.before (Return end) → IsSameCut c c2
      short_of turns2 end on fewer way2 =
          never (has_last course c2.below)
          (goes_past s place call_log told2 course offsets offsets2 alike same_offsets (waits_in c.before) turns2 c.history c.handshakes (outcome end c2.before c2.handshakes) c.before c.below c2.below c.asked c2.asked fewer on.way one.devices
          (device_way s (life s (ends_of s) None turns2) (Return end) c2.before c2.below c2.handshakes way2 other.devices) one.before other.before on.asks on.takes)
          other.uncut

      past : (turns2 : ℕ) (end : RunResult) (on2 : IsCutInTurn s turns c2 (course_after course c2.below)) → waits_in c2.before < turns2 → Execution (life s (ends_of s) None turns2) c.before (Return end) → IsSameCut c c2
      past turns2 end on2 fewer way =
          never (has_last course c.below)
          (goes_past s place told2 call_log course offsets2 offsets (alike_back call_log told2 alike) (same_back offsets offsets2 same_offsets) (waits_in c2.before) turns2 c2.history c2.handshakes (outcome end c.before c.handshakes) c2.before c2.below c.below c2.asked c.asked fewer on2.way other.devices
          (device_way s (life s (ends_of s) None turns2) (Return end) c.before c.below c.handshakes way one.devices) other.before one.before on2.asks on2.takes)
          one.uncut

      by : CutIn s turns c (course_after course c.below) → CutIn s turns c2 (course_after course c2.below) → IsSameCut c c2
      by (inl on) (inl on2) =
          ⊎_elim
          (λ less. short_of (waits_in c2.before) (lived c2.history TurnsSpent) on less on2.way)
          (λ no_less. ⊎_elim
          (λ more. past (waits_in c.before) (lived c.history TurnsSpent) on2 more on.way)
          (λ no_more. let is : waits_in c2.before ≡ waits_in c.before = omega (arith, no_less, no_more) in both_in on on2 is)
          (cases_lt (waits_in c2.before) (waits_in c.before)))
          (cases_lt (waits_in c.before) (waits_in c2.before))
      by (inl on) (inr over2) = short_of turns (lived c2.history Over) on on.fewer over2.way
      by (inr over) (inl on2) = past turns (lived c.history Over) on2 on2.fewer over.way
      by (inr over) (inr over2) = both_over over over2
