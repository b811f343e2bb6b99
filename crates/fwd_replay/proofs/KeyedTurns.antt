-- A turn of the engine over a keyed loop, and the calls that it makes on the devices.
use Rattle.std.proofs.Common.{◌≡◌, ℕ, Bool, true, false, ◌&&◌, ◌||◌, if◌then◌else◌, List, [], ◌∷◌, ◌++◌, map, Option, Some, None, Result, is_some, refl, sym, ◌∙◌, ap, subst}
use Rattle.std.proofs.lemmas.List.{append-nil}
use Rattle.fwd_outside.specs.Program.{entry, Return, Ask, Execution}
use Rattle.fwd_outside.specs.Log.{LogGrew}
use Rattle.fwd_outside.specs.LoopAnswers.{AreLoopAnswers}
use Rattle.fwd_outside.proofs.LoopAnswers.{answers_first}
use Rattle.fwd_outside.specs.Loop.{LoopCall, LoopAnswer, LoopEntry, LoopGiven, LoopLog, LoopProgram, Start, Wait}
use Rattle.fwd_outside.specs.declared.ends.Ends.{Ends as InputEnds}
use Rattle.fwd_outside.specs.Files.{FilesEntry}
use Rattle.fwd_outside.specs.declared.happening.Happening.{Happening}
use Rattle.fwd_settings.specs.declared.settings_types.AllSettings.{AllSettings}
use Rattle.fwd_script.specs.declared.schedule.Cut.{Cut}
use Rattle.fwd_script.specs.declared.schedule.Life.{Life}
use Rattle.fwd_script_loop.specs.Lines.{given_in, given_of}
use Rattle.fwd_script_loop.specs.ScriptState.{ScriptState}
use Rattle.fwd_script_loop.specs.Told.{entries_of}
use Rattle.fwd_script_loop.specs.Place.{Place, ArePlayed, IsPlayed, answer_at, after, behind, beginning}
use Rattle.fwd_script_loop.proofs.PlayedCalls.{played_first, played_second}
use Rattle.fwd_model.specs.Fact.{History}
use Rattle.fwd_model.specs.Trace.{Call, Answer, TraceEntry, OnLoop, OnDisk, OnFiles, OnKeeper, Note, loop_part, files_part}
use Rattle.fwd_model.specs.Settings.{saturating_plus}
use Rattle.fwd_model.specs.Clock.{clock}
use Rattle.fwd_model.specs.Limits.{paused}
use Rattle.fwd_model.proofs.CallLogs.{loop_append, files_append}
use Rattle.fwd_secure.specs.declared.keys.Keys.{Keys}
use Rattle.fwd_secure.specs.Keys.{has_keys}
use Rattle.fwd_secure.specs.Kept.{holds}
use Rattle.fwd_secure.specs.Handshakes.{Handshakes, listening, no_handshakes}
use Rattle.fwd_secure.specs.Rules.{answers, answers_by, passes_on}
use Rattle.fwd_secure.specs.Carried.{Carries, Ends, IsCarried}
use Rattle.fwd_secure.specs.LoopBelow.{LoopBelow}
use Rattle.fwd_secure.specs.LoopCode.{given_to, standing_code}
use Rattle.fwd_secure.specs.Secure.{Secure, IsSecure, log_of}
use Rattle.fwd_secure_settings.specs.Keys.{keys_of}
use Rattle.fwd_secure_trace.specs.Secured.{on_loop, CallIsSecured, IsSecured}
use Rattle.fwd_secure_trace.proofs.Secured.{carried, carries_splits, joined, part_on_loop}
use Rattle.fwd_theorem_trace.proofs.WaitCounts.{ArePlain}
use Rattle.fwd_disk_mem.specs.DiskState.{Seen}
use Rattle.fwd_files_mem.specs.FilesState.{FilesState}
use Rattle.fwd_engine_run.specs.EngineSteps.{TurnOutcome}
use Rattle.fwd_engine_run.specs.EngineStop.{EngineStop}
use Rattle.fwd_engine_run.specs.Turn.{Turn}
use Rattle.fwd_replay.specs.declared.progress.Going.{Going}
use Rattle.fwd_replay.specs.FileChanges.{Course, after_call, course_after, FilesAnswered, has_last, is_last_next}
use Rattle.fwd_replay.specs.RunState.{IsKeyedLoop, ScriptPlays, TurnedIn, before_wait, is_out_of_memory, memory, takes_last}
use Rattle.fwd_replay.proofs.CallLog.{told_is}
use Rattle.fwd_replay.proofs.Course.{plain_last}
use Rattle.fwd_replay.proofs.KeyedCalls.{AsksBelow, GivesKept, WaitsBelow, plain_below, unkeyed_state, wait_below}

-- ---- the loop in memory determines the calls below

module _ {R : Type 0} where
  same_return : (x y : R) → ◌≡◌ {A = LoopProgram R} (Return x) (Return y) → x ≡ y
  same_return x y is = cc is

  pub one_way : (p : LoopProgram R) (at : Place) (own own2 : List LoopEntry) (x y : R) → Execution p own (Return x) → Execution p own2 (Return y) → ArePlayed at own → ArePlayed at own2 → (own2 ≡ own) × (y ≡ x)
  one_way (Return z) at [] [] x y one other played played2 = (refl, same_return y z other ∙ sym (same_return x z one))
  one_way (Return z) at [] (e ∷ es) x y one other played played2 = absurd other
  one_way (Return z) at (e ∷ es) own2 x y one other played played2 = absurd one
  one_way (Ask call go) at [] own2 x y one other played played2 = absurd (cc one)
  one_way (Ask call go) at (e ∷ es) [] x y one other played played2 = absurd (cc other)
  one_way (Ask call go) at (e ∷ es) (f ∷ fs) x y one other played played2 =
      let here : ArePlayed at (entry call one.0 ∷ es) = subst (λ (z : LoopEntry). ArePlayed at (z ∷ es)) one.1 played in
      let here2 : ArePlayed at (entry call other.0 ∷ fs) = subst (λ (z : LoopEntry). ArePlayed at (z ∷ fs)) other.1 played2 in
      let is : other.0 ≡ one.0 = here2.0 ∙ sym here.0 in
      let rest = one_way (go one.0) (after at call) es fs x y one.2 (subst (λ (a : LoopAnswer call). Execution (go a) fs (Return y)) is other.2) here.1 here2.1 in
      (ap (λ (z : LoopEntry). z ∷ fs) other.1 ∙ ap (λ (a : LoopAnswer call). entry call a ∷ fs) is ∙ ap (λ (l : List LoopEntry). entry call one.0 ∷ l) rest.0 ∙ ap (λ (z : LoopEntry). z ∷ es) (sym one.1), rest.1)

module _ (keys : Keys) where
  pub carries_once : (at : Place) (k t t2 : Handshakes) (above calls calls2 : List LoopEntry) → Carries keys k calls above t → Carries keys k calls2 above t2 → ArePlayed at calls → ArePlayed at calls2 → (calls2 ≡ calls) × (t2 ≡ t)
  carries_once at k t t2 [] calls calls2 one other played played2 = (other.0 ∙ sym one.0, other.1 ∙ sym one.1)
  carries_once at k t t2 (e ∷ es) calls calls2 one other played played2 =
      let first : ArePlayed at (one.0 ++ one.1) = subst (λ (l : List LoopEntry). ArePlayed at l) one.3 played in
      let first2 : ArePlayed at (other.0 ++ other.1) = subst (λ (l : List LoopEntry). ArePlayed at l) other.3 played2 in
      let head = one_way (answers keys k e.call) at one.0 other.0 (e.answer, one.2) (e.answer, other.2) one.4 other.4 (played_first at one.0 one.1 first) (played_first at other.0 other.1 first2) in
      let same : other.2 ≡ one.2 = ap (λ (p : LoopAnswer e.call × Handshakes). p.1) head.1 in
      let later : ArePlayed (behind at one.0) other.1 = subst (λ (l : List LoopEntry). ArePlayed (behind at l) other.1) head.0 (played_second at other.0 other.1 first2) in
      let rest = carries_once (behind at one.0) one.2 t t2 es one.1 other.1 one.5 (subst (λ (u : Handshakes). Carries keys u other.1 es t2) same other.5) (played_second at one.0 one.1 first) later in
      (other.3 ∙ ap (λ (l : List LoopEntry). l ++ other.1) head.0 ∙ ap (λ (l : List LoopEntry). one.0 ++ l) rest.0 ∙ sym one.3, rest.1)

-- calls on other devices are themselves below
pub unlooped : (keys : Keys) (k : Handshakes) (es : List TraceEntry) → loop_part es ≡ [] → IsSecured keys k es es k
unlooped keys k [] none = (refl, refl)
unlooped keys k (e ∷ es) none = by e.call e.answer none (unlooped keys k es)
  where
    by : (call : Call) (answer : Answer call) → loop_part (entry call answer ∷ es) ≡ [] → (loop_part es ≡ [] → IsSecured keys k es es k) → IsSecured keys k (entry call answer ∷ es) (entry call answer ∷ es) k
    by (OnLoop call) answer is rest = absurd (cc is)
    by (OnDisk call) answer is rest = (entry (OnDisk call) answer ∷ [], es, k, refl, (refl, refl), rest is)
    by (OnFiles call) answer is rest = (entry (OnFiles call) answer ∷ [], es, k, refl, (refl, refl), rest is)
    by (OnKeeper call) answer is rest = (entry (OnKeeper call) answer ∷ [], es, k, refl, (refl, refl), rest is)
    by (Note fact) answer is rest = (entry (Note fact) answer ∷ [], es, k, refl, (refl, refl), rest is)

-- and so is the start
module _ (keys : Keys) (k : Handshakes) (ends : InputEnds) (answer : Option (Unit {0})) where
  alone : (u v : Handshakes) (calls : List LoopEntry) → Execution (passes_on (Start ends) v) calls (Return (answer, u)) → calls ≡ entry (Start ends) answer ∷ []
  alone u v [] way = absurd (cc way)
  alone u v (e ∷ []) way =
      ap (λ (x : LoopEntry). x ∷ []) way.1
      ∙ ap (λ (p : Option (Unit {0}) × Handshakes). entry (Start ends) p.0 ∷ []) (same_return (way.0, v) (answer, u) (sym way.2))
  alone u v (e ∷ d ∷ es) way = absurd way.2

  start_calls : (keyed : Bool) (u : Handshakes) (calls : List LoopEntry) → Execution (answers_by keyed keys k (Start ends)) calls (Return (answer, u)) → calls ≡ entry (Start ends) answer ∷ []
  start_calls true u calls way = alone u (listening k ends) calls way
  start_calls false u calls way = alone u k calls way

  abbrev pub start_entry : List TraceEntry
  start_entry = entry (OnLoop (Start ends)) answer ∷ []

  pub start_below : (t : Handshakes) (next : List TraceEntry) → IsSecured keys k start_entry next t → next ≡ start_entry
  start_below t next so =
      so.3 ∙ ap (λ (l : List TraceEntry). l ++ so.1) (so.4.1 ∙ ap (map on_loop) (start_calls (has_keys keys) so.2 so.4.0 so.4.2)) ∙ ap (λ (l : List TraceEntry). entry (OnLoop (Start ends)) answer ∷ l) so.5.0

-- ---- a keyed loop after more calls

-- what a loop in memory with this log was given and answered
pub log_played : (given : LoopGiven) (entries : List LoopEntry) (log : LoopLog) → log ≡ Some (given, entries) → ScriptPlays log → IsPlayed given entries
log_played given entries log is plays =
    let told = told_is plays.0 given entries (plays.1 ∙ is) in
    subst (λ (l : List LoopEntry). IsPlayed given l) told.1 (subst (λ (g : LoopGiven). IsPlayed g (entries_of plays.0.notes)) told.0 plays.2)

-- the log that grew from an empty one
pub from_empty : (given : LoopGiven) (start log : LoopLog) (calls : List LoopEntry) → start ≡ Some (given, []) → LogGrew start log calls → log ≡ Some (given, calls)
from_empty given start log calls is grew = by log (subst (λ (l : LoopLog). LogGrew l log calls) is grew)
  where
    by : (new : LoopLog) → LogGrew (Some (given, [])) new calls → new ≡ Some (given, calls)
    by (Some now) g = ap (λ (o : LoopGiven). Some (o, now.1)) g.0 ∙ ap (λ (l : List LoopEntry). Some (given, l)) g.1
    by None g = absurd g

-- the calls below of a keyed loop in which memory wasn't out
pub record CallsBelow (keys : Keys) (given : LoopGiven) (secure : Secure) : Type 0 where
  pub calls : List LoopEntry
  pub log : secure.below.call_log ≡ Some (given, calls)
  pub carries : Carries keys no_handshakes calls secure.above secure.state

pub calls_below : (keys : Keys) (given : LoopGiven) (secure : Secure) → secure.keys ≡ keys → secure.out_of_memory ≡ false → secure.start.call_log ≡ Some (given, []) → IsSecure secure → CallsBelow keys given secure
calls_below keys given secure are memory start is =
    let so = subst (λ (k : Keys). IsCarried k secure.out_of_memory secure.start.call_log secure.below.call_log secure.above secure.state) are is.carried in
    let ends : Ends false keys secure.state so.at so.begun = subst (λ (b : Bool). Ends b keys secure.state so.at so.begun) memory so.ends in
    let log : secure.below.call_log ≡ Some (given, so.below ++ so.begun) = from_empty given secure.start.call_log secure.below.call_log (so.below ++ so.begun) start so.grew in
    record {
      calls = so.below;
      log = log ∙ ap (λ (l : List LoopEntry). Some (given, so.below ++ l)) ends.0 ∙ ap (λ (l : List LoopEntry). Some (given, l)) (append-nil so.below);
      carries = subst (λ (k : Handshakes). Carries keys no_handshakes so.below secure.above k) ends.1 so.carries;
    }

abbrev Standing : Type 0
Standing = ℕ × (Keys × (LoopBelow × LoopLog))

standing : Secure → Standing
standing secure = (secure.name, (secure.keys, (secure.start, secure.marked)))

same_standing : (a b : Secure) → given_to b.name b.keys b.start b.marked ≡ given_to a.name a.keys a.start a.marked → standing b ≡ standing a
unfolding standing
same_standing a b is = standing_code.inj (b.name, (b.keys, (b.start, b.marked))) (a.name, (a.keys, (a.start, a.marked))) (ap (λ (g : LoopGiven). g.round) is)

pub standing_name : (a b : Secure) → given_to b.name b.keys b.start b.marked ≡ given_to a.name a.keys a.start a.marked → b.name ≡ a.name
unfolding standing
standing_name a b is = ap (λ (x : Standing). x.0) (same_standing a b is)

pub standing_keys : (a b : Secure) → given_to b.name b.keys b.start b.marked ≡ given_to a.name a.keys a.start a.marked → b.keys ≡ a.keys
unfolding standing
standing_keys a b is = ap (λ (x : Standing). x.1.0) (same_standing a b is)

pub standing_start : (a b : Secure) → given_to b.name b.keys b.start b.marked ≡ given_to a.name a.keys a.start a.marked → b.start ≡ a.start
unfolding standing
standing_start a b is = ap (λ (x : Standing). x.1.1.0) (same_standing a b is)

pub standing_mark : (a b : Secure) → given_to b.name b.keys b.start b.marked ≡ given_to a.name a.keys a.start a.marked → b.marked ≡ a.marked
unfolding standing
standing_mark a b is = ap (λ (x : Standing). x.1.1.1) (same_standing a b is)

-- the calls of a log, in two parts
calls_join : (all first second : List LoopEntry) (below next : List TraceEntry) → all ≡ first ++ second → first ≡ loop_part below → loop_part next ≡ second → all ≡ loop_part (below ++ next)
calls_join all first second below next is one two =
    is ∙ ap (λ (l : List LoopEntry). l ++ second) one ∙ ap (λ (l : List LoopEntry). loop_part below ++ l) (sym two) ∙ sym (loop_append below next)

pub record Grown (s : AllSettings) (planned : Life) (old new : Secure) (trace below more : List TraceEntry) : Type 0 where
  -- the calls on the devices
  pub next : List TraceEntry
  pub secured : IsSecured (keys_of s) old.state more next new.state
  pub answers : AreLoopAnswers (loop_part (trace ++ more))
  pub loop : IsKeyedLoop s planned new (loop_part (trace ++ more)) (loop_part (below ++ next))

module _ (s : AllSettings) (planned : Life) (old new : Secure) (trace below more : List TraceEntry) where
  pub grown : IsKeyedLoop s planned old (loop_part trace) (loop_part below) → IsSecured (keys_of s) no_handshakes trace below old.state → LogGrew (log_of old) (log_of new) (loop_part more)
      → IsSecure new → new.out_of_memory ≡ false → ScriptPlays new.below.call_log → Grown s planned old new trace below more
  unfolding standing
  grown was secured grew is memory plays =
      let keys = keys_of s in
      let given = given_of planned in
      let stays : standing new ≡ standing old = same_standing old new grew.0 in
      let are : new.keys ≡ keys = ap (λ (x : Standing). x.1.0) stays ∙ was.keys in
      let start : new.start.call_log ≡ Some (given, []) = ap (λ (x : Standing). x.1.1.0.call_log) stays ∙ was.start in
      let above : new.above ≡ loop_part trace ++ loop_part more = grew.1 ∙ ap (λ (l : List LoopEntry). l ++ loop_part more) was.above in
      let all = calls_below keys given new are memory start is in
      let played : IsPlayed given all.calls = log_played given all.calls new.below.call_log all.log plays in
      let split = carries_splits keys no_handshakes new.state (loop_part trace) (loop_part more) all.calls (subst (λ (l : List LoopEntry). Carries keys no_handshakes all.calls l new.state) above all.carries) in
      let whole : ArePlayed (beginning given) (split.first ++ split.second) = subst (λ (l : List LoopEntry). ArePlayed (beginning given) l) split.is played in
      let same = carries_once keys (beginning given) no_handshakes old.state split.at (loop_part trace) (loop_part below) split.first (carried keys no_handshakes old.state trace below secured) split.before was.played (played_first (beginning given) split.first split.second whole) in
      let so = joined keys old.state new.state split.second more (subst (λ (k : Handshakes). Carries keys k split.second (loop_part more) new.state) same.1 split.after) in
      let calls : all.calls ≡ loop_part (below ++ so.below) = calls_join all.calls split.first split.second below so.below split.is same.0 so.is in
      record {
        next = so.below;
        secured = so.so;
        answers = subst (λ (l : List LoopEntry). AreLoopAnswers l) (above ∙ sym (loop_append trace more)) (record { links = is.new_links; bytes = is.bytes });
        loop = record {
          keys = are;
          memory = memory;
          start = start;
          above = above ∙ sym (loop_append trace more);
          below = all.log ∙ ap (λ (l : List LoopEntry). Some (given, l)) calls;
          played = subst (λ (l : List LoopEntry). IsPlayed given l) calls played;
        };
      }

pub first_answers : (trace more : List TraceEntry) → AreLoopAnswers (loop_part (trace ++ more)) → AreLoopAnswers (loop_part trace)
first_answers trace more all = answers_first (loop_part trace) (loop_part more) (subst (λ (l : List LoopEntry). AreLoopAnswers l) (loop_append trace more) all)

-- ---- the calls of a turn on the devices

-- its wait, and then plain calls: what it does to the course of a run
pub record TurnBelow (gives_kept : Bool) (mask : ℕ) (course : Course) (next : List TraceEntry) : Type 0 where
  pub rest : List TraceEntry
  pub plain : ArePlain rest
  pub behind : course_after course next ≡ course_after (before_wait gives_kept mask course) rest
  pub answers : FilesAnswered (before_wait gives_kept mask course) rest → FilesAnswered course next
  pub last : has_last course next ≡ takes_last gives_kept mask course
  pub files : files_part next ≡ files_part rest

kept_turn : (mask : ℕ) (course : Course) (next : List TraceEntry) → ArePlain next → TurnBelow true mask course next
kept_turn mask course next plain = record { rest = next; plain = plain; behind = refl; answers = λ so. so; last = plain_last course next plain; files = refl }

or_none : (b : Bool) → (b || false) ≡ b
or_none true = refl
or_none false = refl

asked_turn_below : (until mask : ℕ) (x : Happening) (course : Course) (rest : List TraceEntry) → ArePlain rest → TurnBelow false mask course (entry (OnLoop (Wait until mask)) x ∷ rest)
asked_turn_below until mask x course rest plain =
    record {
      rest = rest;
      plain = plain;
      behind = refl;
      answers = λ so. (tt, so);
      last = ap (λ (b : Bool). is_last_next mask course || b) (plain_last (after_call (OnLoop (Wait until mask)) course) rest plain) ∙ or_none (is_last_next mask course);
      files = refl;
    }

plain_both : (es more : List TraceEntry) → ArePlain es → ArePlain more → ArePlain (es ++ more)
plain_both [] more first second = second
plain_both (e ∷ es) more first second = (first.0, plain_both es more first.1 second)

-- of a wait and plain calls of the engine
module _ (s : AllSettings) (k t : Handshakes) (until mask : ℕ) (x : Happening) (es next : List TraceEntry) (course : Course) where
  pub turn_below : ArePlain es → (has_keys (keys_of s) ≡ false → holds mask k.kept ≡ false) → IsSecured (keys_of s) k (entry (OnLoop (Wait until mask)) x ∷ es) next t → TurnBelow (holds mask k.kept) mask course next
  turn_below plain unkeyed so =
      let one = so.4 in
      let rest = plain_below (keys_of s) so.2 t es so.1 plain so.5 in
      let parts : next ≡ map on_loop one.0 ++ so.1 = so.3 ∙ ap (λ (l : List TraceEntry). l ++ so.1) one.1 in
      by one.0 so.1 rest parts (wait_below (keys_of s) until mask k so.2 x one.0 unkeyed one.2)
    where
      by : (calls : List LoopEntry) (others : List TraceEntry) → ArePlain others → next ≡ map on_loop calls ++ others → WaitsBelow until mask k calls → TurnBelow (holds mask k.kept) mask course next
      by calls others rest parts (GivesKept is none) =
          let all : next ≡ others = parts ∙ ap (λ (l : List LoopEntry). map on_loop l ++ others) none in
          subst (λ (b : Bool). TurnBelow b mask course next) (sym is) (kept_turn mask course next (subst ArePlain (sym all) rest))
      by calls others rest parts (AsksBelow is brought more are plain_more) =
          let all : next ≡ entry (OnLoop (Wait until mask)) brought ∷ (map on_loop more ++ others) = parts ∙ ap (λ (l : List LoopEntry). map on_loop l ++ others) are in
          subst (λ (b : Bool). TurnBelow b mask course next) (sym is)
          (subst (λ (l : List TraceEntry). TurnBelow false mask course l) (sym all) (asked_turn_below until mask brought course (map on_loop more ++ others) (plain_both (map on_loop more) others plain_more rest)))

-- a turn in which the run isn't to be cut
pub turn_uncut : (cut : Option Cut) (gives_kept : Bool) (mask : ℕ) (course : Course) (next : List TraceEntry) → TurnBelow gives_kept mask course next → None ≡ (if takes_last gives_kept mask course then cut else None)
    → (is_some cut && has_last course next) ≡ false
turn_uncut None gives_kept mask course next turn is = refl
turn_uncut (Some cut) gives_kept mask course next turn is = turn.last ∙ by (takes_last gives_kept mask course) is
  where
    by : (b : Bool) → None ≡ (if b then Some cut else None) → b ≡ false
    by true e = absurd (cc e)
    by false e = refl

-- a turn as the code takes it
pub took_turn : (s : AllSettings) (h : History) (old : Going) (seen : Seen) (held : FilesState) (new : Going) (seen2 : Seen) (held2 : FilesState) (turn result : Result Turn EngineStop) → IsSecure old.secure → IsSecure new.secure
    → ScriptPlays new.secure.below.call_log → (is_out_of_memory result ≡ false → new.secure.out_of_memory ≡ false) → (is_out_of_memory result ≡ false → result ≡ turn)
    → TurnOutcome (memory old.secure seen held) (memory new.secure seen2 held2) s h new.engine turn → TurnedIn s h old seen held new seen2 held2 result
took_turn s h old seen held new seen2 held2 turn result was is plays has same outcome had = record {
  was = was;
  is = is;
  has_memory = has had;
  played = plays;
  turn = subst (λ (r : Result Turn EngineStop). TurnOutcome (memory old.secure seen held) (memory new.secure seen2 held2) s h new.engine r) (sym (same had)) outcome;
}
