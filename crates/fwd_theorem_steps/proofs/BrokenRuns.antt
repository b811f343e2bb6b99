-- The last whole turn of a run that was broken off.
use Rattle.std.proofs.Common.{◌≡◌, ◌⊎◌, inl, inr, ℕ, zero, suc, ◌+◌, ◌≤◌, Bool, true, false, cond, List, [], ◌∷◌, ◌++◌, append-nil, Option, Some, None, refl, sym, ◌∙◌, ap, subst, arith}
use Rattle.fwd_outside.specs.Program.{entry, Return, Ask, bind, Execution}
use Rattle.fwd_outside.specs.Loop.{LoopEntry, Start}
use Rattle.fwd_outside.specs.NewLinks.{AreNewLinks}
use Rattle.fwd_outside.proofs.RisingLinks.{new_first}
use Rattle.fwd_outside.specs.declared.ends.Ends.{Ends}
use Rattle.fwd_keeper.specs.Keeper.{Get}
use Rattle.fwd_settings.specs.declared.settings_types.AllSettings.{AllSettings}
use Rattle.fwd_model.specs.Fact.{History, Resumed}
use Rattle.fwd_model.specs.Trace.{Action, Answer, TraceEntry, OnLoop, OnKeeper, Note, loop_part}
use Rattle.fwd_model.specs.Settings.{paths_at}
use Rattle.fwd_model.specs.KeptOffsets.{Tracked, tracked, indexes_from, resumes, got, gets}
use Rattle.fwd_model.specs.RecoveryActions.{recovers}
use Rattle.fwd_model.specs.Run.{End, RunResult, DiskFailed, KeeperFailed, LoopFailed, TurnsSpent, Over, lived, run, after_start, starts, after_recovery, life}
use Rattle.fwd_model.proofs.CallLogs.{loop_append}
use Rattle.fwd_theorem_trace.specs.Waits.{is_wait, waits_in, WaitsFirst}
use Rattle.fwd_theorem_trace.proofs.WaitCounts.{waits_append, loading_waitless, turn_waits_first}
use Rattle.fwd_theorem_runs.proofs.MoreTurns.{continued_by, continued, life_on}
use Rattle.fwd_theorem_steps.specs.Turns.{LastWholeTurn, HasTurns, NoTurn, WholeTurns}

-- a way that begins an action and its continuation: it ends within the action, or in the continuation
data Splits {R S : Type 0} (p : Action R) (next : R → Action S) (es : List TraceEntry) (left : Action S) : Type 0 where
  Inside : (rest : Action R) → Execution p es rest → Splits p next es left
  Behind : (x : R) (own more : List TraceEntry) → es ≡ own ++ more → Execution p own (Return x) → Execution (next x) more left → Splits p next es left

splits : {R S : Type 0} (p : Action R) (next : R → Action S) (es : List TraceEntry) (left : Action S) → Execution (bind p next) es left → Splits p next es left
splits (Return x) next es left way = Behind x [] es refl refl way
splits (Ask call go) next [] left way = Inside (Ask call go) refl
splits (Ask call go) next (e ∷ es) left way = by (splits (go way.0) next es left way.2)
  where
    by : Splits (go way.0) next es left → Splits (Ask call go) next (e ∷ es) left
    by (Inside rest begun) = Inside rest (way.0, way.1, begun)
    by (Behind x own more is first second) = Behind x (e ∷ own) more (ap (λ (l : List TraceEntry). e ∷ l) is) (way.0, way.1, first) second

-- ---- before the first wait

-- for all answers, the action never waits
abbrev NeverWaits : {R : Type 0} → Action R → Type 0
NeverWaits (Return x) = Unit {0}
NeverWaits (Ask call go) = (is_wait call ≡ false) × ((answer : Answer call) → NeverWaits (go answer))

no_waits : {R : Type 0} (p : Action R) → NeverWaits p → (es : List TraceEntry) (left : Action R) → Execution p es left → waits_in es ≡ 0
no_waits p never [] left way = refl
no_waits (Return x) never (e ∷ es) left way = absurd way
no_waits (Ask call go) never (e ∷ es) left way =
    let more = no_waits (go way.0) (never.1 way.0) es left way.2 in
    let first : waits_in (entry call way.0 ∷ es) ≡ waits_in es = ap (λ (b : Bool). cond b (waits_in es + 1) (waits_in es)) never.0 in
    ap (λ (x : TraceEntry). waits_in (x ∷ es)) way.1 ∙ (first ∙ more)

module _ (s : AllSettings) (ends : Ends) (ticks : Option ℕ) where
  abbrev NextNever : (History → Action RunResult) → Type 0
  NextNever next = (h : History) → NeverWaits (next h)

  resumes_never : (input place : ℕ) (indexes : List ℕ) (next : History → Action RunResult) → NextNever next → NextNever (resumes input place indexes next)
  resumes_never input place [] next never h = never h
  resumes_never input place (index ∷ more) next never h = (refl, λ answer. resumes_never input place more next never (Resumed input index place ∷ h))

  got_never : (t : Tracked) (failed next : History → Action RunResult) → NextNever failed → NextNever next → (h : History) (answer : Option (Option ℕ)) → NeverWaits (got s t failed next h answer)
  got_never t failed next fails never h None = fails h
  got_never t failed next fails never h (Some None) = never h
  got_never t failed next fails never h (Some (Some place)) = resumes_never t.input place (indexes_from 0 t.path (paths_at s t.input)) next never h

  gets_never : (ts : List Tracked) (failed next : History → Action RunResult) → NextNever failed → NextNever next → NextNever (gets s ts failed next)
  gets_never [] failed next fails never h = never h
  gets_never (t ∷ ts) failed next fails never h = (refl, got_never t failed (gets s ts failed next) fails (gets_never ts failed next fails never) h)

  started_never : (h : History) (ready : Option (Unit {0})) → NeverWaits (after_start s ticks 0 h ready)
  unfolding run
  started_never h None = tt
  started_never h (Some ready) = tt

  begun_never : (found : Option History) → NeverWaits (after_recovery s ends ticks 0 found)
  begun_never None = tt
  begun_never (Some h) = gets_never (tracked s) (λ now. Return (lived now KeeperFailed)) (starts s ends ticks 0) (λ now. tt) (λ now. (refl, started_never now)) h

  pub none_yet : (es : List TraceEntry) (left : Action RunResult) → Execution (life s ends ticks 0) es left → waits_in es ≡ 0
  unfolding life
  none_yet es left way = by (splits (recovers s) (after_recovery s ends ticks 0) es left way)
    where
      by : Splits (recovers s) (after_recovery s ends ticks 0) es left → waits_in es ≡ 0
      by (Inside rest begun) = loading_waitless s es rest begun
      by (Behind found own more is first second) =
          let one = loading_waitless s own (Return found) first in
          let two = no_waits (after_recovery s ends ticks 0 found) (begun_never found) more left second in
          let sum = waits_append own more in
          ap waits_in is ∙ omega (arith, sum, one, two)

  -- ---- turns

  abbrev Has : List TraceEntry → Type 0
  Has es = HasTurns s ends ticks es

  one_at_most : (h : History) (es : List TraceEntry) → (es ≡ []) ⊎ WaitsFirst s h es → waits_in es ≤ 1
  one_at_most h es (inl none) = subst (λ (l : List TraceEntry). waits_in l ≤ 1) (sym none) (omega arith)
  one_at_most h es (inr first) =
      subst (λ (l : List TraceEntry). waits_in l ≤ 1) (sym first.first) (let none = first.no_more in omega (arith, none))

  abbrev HasLast : ℕ → Type 0
  HasLast turns = (es : List TraceEntry) (left : Action RunResult) → Execution (life s ends ticks turns) es left → Has es

  last_turn : (turns : ℕ) → HasLast turns
  last_turn zero es left way = NoTurn (none_yet es left way)
  last_turn (suc turns) es left way =
      let one_more : suc turns ≡ turns + 1 = omega arith in
      let two = subst (λ (n : ℕ). Execution (life s ends ticks n) es left) one_more way in
      by (last_turn turns) (splits (life s ends ticks turns) (continued (run s ticks 1)) es left (subst (λ (p : Action RunResult). Execution p es left) (life_on s ticks 1 ends turns) two))
    where
      in_turn : (result : RunResult) (own more : List TraceEntry) → es ≡ own ++ more → Execution (life s ends ticks turns) own (Return result) → result.end ≡ TurnsSpent
          → Execution (run s ticks 1 result.history) more left → Has es
      in_turn result own more is first spent second = WholeTurns (record {
        turns = turns;
        whole = own;
        since = more;
        history = result.history;
        is = is;
        way = subst (λ (end : End). Execution (life s ends ticks turns) own (Return (lived result.history end))) spent first;
        few = one_at_most result.history more (turn_waits_first s ticks result.history more left second);
      })

      nothing_more : HasLast turns → (result : RunResult) (own more : List TraceEntry) → es ≡ own ++ more → Execution (life s ends ticks turns) own (Return result) → (end : End)
          → Execution (Return (lived result.history end)) more left → Has es
      nothing_more before result own [] is first end second = subst Has (sym (is ∙ append-nil own)) (before own (Return result) first)
      nothing_more before result own (e ∷ more) is first end second = absurd second

      by : HasLast turns → Splits (life s ends ticks turns) (continued (run s ticks 1)) es left → Has es
      by before (Inside rest begun) = before es rest begun
      by before (Behind result own more is first second) = by_end result.end refl second
        where
          by_end : (end : End) → result.end ≡ end → Execution (continued_by (run s ticks 1) result.history end) more left → Has es
          by_end TurnsSpent spent second = in_turn result own more is first spent second
          by_end Over ended second = nothing_more before result own more is first Over second
          by_end DiskFailed ended second = nothing_more before result own more is first DiskFailed second
          by_end KeeperFailed ended second = nothing_more before result own more is first KeeperFailed second
          by_end LoopFailed ended second = nothing_more before result own more is first LoopFailed second

pub come_by_turns : (s : AllSettings) (ends : Ends) (ticks : Option ℕ) (turns : ℕ) (es : List TraceEntry) (left : Action RunResult) → Execution (life s ends ticks turns) es left → HasTurns s ends ticks es
come_by_turns s ends ticks turns es left way = last_turn s ends ticks turns es left way

-- the links of the first calls are new too
pub first_new : (first more entries : List TraceEntry) → entries ≡ first ++ more → AreNewLinks 0 (loop_part entries) → AreNewLinks 0 (loop_part first)
first_new first more entries is new = new_first 0 (loop_part first) (loop_part more) (subst (λ (l : List LoopEntry). AreNewLinks 0 l) (ap loop_part is ∙ loop_append first more) new)
