-- A run whose turns ran out had an event or kept bytes for each of them.
use Rattle.std.proofs.Common.{◌≡◌, ℕ, zero, suc, ◌≤◌, Bool, true, false, ◌||◌, if◌then◌else◌, List, [], ◌∷◌, ◌++◌, Option, Some, None, refl, sym, ap, subst, ◌∙◌, arith}
use Rattle.fwd_outside.specs.Program.{entry, Return, Ask, Execution}
use Rattle.fwd_outside.specs.Loop.{LoopEntry, Start, Wait}
use Rattle.fwd_outside.specs.declared.ends.Ends.{Ends}
use Rattle.fwd_outside.specs.declared.happening.Happening.{Happening}
use Rattle.fwd_outside.specs.declared.happening.Happening.TheVariants as happening
use Rattle.fwd_settings.specs.declared.settings_types.AllSettings.{AllSettings}
use Rattle.fwd_script_loop.specs.Place.{ArePlayed, Place, behind}
use Rattle.fwd_script_loop.proofs.PlayedCalls.{played_first, played_second}
use Rattle.fwd_keeper.specs.Keeper.{Get, Put}
use Rattle.fwd_model.specs.Fact.{History, Resumed, Saved}
use Rattle.fwd_model.specs.Trace.{Action, Call, Answer, OnLoop, OnKeeper, Note, TraceEntry, loop_part}
use Rattle.fwd_model.specs.Settings.{paths_at, saturating_plus}
use Rattle.fwd_model.specs.Clock.{clock, stopped}
use Rattle.fwd_model.specs.Limits.{paused}
use Rattle.fwd_model.specs.FollowedFiles.{settled}
use Rattle.fwd_model.specs.KeptOffsets.{Tracked, tracked, kept_at, to_put, indexes_from, resumes, got, gets, after_put, puts_by, puts}
use Rattle.fwd_model.specs.StepActions.{step}
use Rattle.fwd_model.specs.RecoveryActions.{recovers}
use Rattle.fwd_model.specs.Run.{RunResult, Over, DiskFailed, KeeperFailed, LoopFailed, TurnsSpent, lived, is_end, is_over, is_over_after, goes_on, unless_last, after_step, brought, run, after_start, starts, after_recovery, life}
use Rattle.fwd_model.proofs.CallLogs.{loop_append}
use Rattle.fwd_theorem_trace.proofs.Turns.{way_parts}
use Rattle.fwd_theorem_trace.proofs.WaitCounts.{loading_plain, step_plain}
use Rattle.fwd_secure.specs.Keys.{has_keys}
use Rattle.fwd_secure.specs.Handshakes.{Handshakes}
use Rattle.fwd_secure.specs.Carried.{Carries}
use Rattle.fwd_secure_settings.specs.Keys.{keys_of}
use Rattle.fwd_secure_trace.proofs.Secured.{Splits, carries_splits}
use Rattle.fwd_theorem_replay.proofs.EventsTaken.{ahead_of, plain_add_none, wait_spends}

neither : (a b : Bool) → (a || b) ≡ false → a ≡ false
neither true b none = absurd (cc none)
neither false b none = refl

-- a run that goes on isn't at the end
no_end : (s : AllSettings) (x : Happening) (h : History) → is_over s x h ≡ false → is_end x ≡ false
unfolding is_over
no_end s x h more = by (stopped s h) more
  where
    by : (at : Option ℕ) → is_over_after s x at h ≡ false → is_end x ≡ false
    by None more = more
    by (Some at) more = neither (is_end x) _ more

ends_so : (one comes : RunResult) (es : List TraceEntry) → Execution (Return one) es (Return comes) → comes.end ≡ one.end
ends_so one comes [] way = let same : one ≡ comes = cc way in ap (λ (l : RunResult). l.end) (sym same)
ends_so one comes (e ∷ es) way = absurd way

nothing_less : (n : ℕ) → zero ≤ n
nothing_less n = omega arith

one_more : (turns left before : ℕ) → turns ≤ left → suc left ≤ before → suc turns ≤ before
one_more turns left before enough less = omega (arith, enough, less)

module _ (s : AllSettings) (comes : RunResult) (spent : comes.end ≡ TurnsSpent) where
  -- a run that ends so from a position of the loop below, with these handshakes, had this there
  abbrev Finds : (Place → Handshakes → Type 0) → Action RunResult → Type 0
  Finds P from =
      (place : Place) (k t : Handshakes) (es : List TraceEntry) (calls : List LoopEntry) → Execution from es (Return comes) → Carries (keys_of s) k calls (loop_part es) t → ArePlayed place calls → P place k

  -- these turns run out only if there was an event, or kept bytes, for each
  abbrev IsEnough : ℕ → Place → Handshakes → Type 0
  IsEnough turns place k = turns ≤ ahead_of (has_keys (keys_of s)) place k

  abbrev HasEnough : ℕ → Action RunResult → Type 0
  HasEnough turns from = Finds (IsEnough turns) from

  -- the calls of two parts of a run
  split : (k t : Handshakes) (es own more : List TraceEntry) (calls : List LoopEntry) → es ≡ own ++ more → Carries (keys_of s) k calls (loop_part es) t → Splits (keys_of s) k (loop_part own) (loop_part more) calls t
  split k t es own more calls parts carries =
      carries_splits (keys_of s) k t (loop_part own) (loop_part more) calls (subst (λ (l : List LoopEntry). Carries (keys_of s) k calls l t) (ap loop_part parts ∙ loop_append own more) carries)

  -- ---- gets and puts of offsets ask nothing of the loop

  module _ (P : Place → Handshakes → Type 0) where
    abbrev FindsAll : (History → Action RunResult) → Type 0
    FindsAll next = (h : History) → Finds P (next h)

    asks_none : (call : Call) (go : Answer call → Action RunResult) → ((answer : Answer call) (es : List TraceEntry) → loop_part (entry call answer ∷ es) ≡ loop_part es) → ((answer : Answer call) → Finds P (go answer)) → Finds P (Ask call go)
    asks_none call go none next place k t [] calls way carries played = absurd (cc way)
    asks_none call go none next place k t (e ∷ es) calls way carries played =
        let first : Carries (keys_of s) k calls (loop_part (entry call way.0 ∷ es)) t = subst (λ (x : TraceEntry). Carries (keys_of s) k calls (loop_part (x ∷ es)) t) way.1 carries in
        next way.0 place k t es calls way.2 (subst (λ (l : List LoopEntry). Carries (keys_of s) k calls l t) (none way.0 es) first) played

    after_put_finds : (t : Tracked) (place : ℕ) (next : History → Action RunResult) → FindsAll next → (h : History) (answer : Option (Unit {0})) → Finds P (after_put t place next h answer)
    after_put_finds t place next finds h None = finds h
    after_put_finds t place next finds h (Some done) =
        asks_none (Note (Saved t.input t.index place)) (λ _. next (Saved t.input t.index place ∷ h)) (λ answer es. refl) (λ answer. finds (Saved t.input t.index place ∷ h))

    puts_by_finds : (t : Tracked) (place : Option ℕ) (next : History → Action RunResult) → FindsAll next → (h : History) → Finds P (puts_by t place next h)
    puts_by_finds t None next finds h = finds h
    puts_by_finds t (Some place) next finds h = asks_none (OnKeeper (Put t.db t.path place)) (after_put t place next h) (λ answer es. refl) (after_put_finds t place next finds h)

    puts_find : (ts : List Tracked) (next : History → Action RunResult) → FindsAll next → FindsAll (puts s ts next)
    puts_find [] next finds h = finds h
    puts_find (t ∷ ts) next finds h = puts_by_finds t (to_put (settled s h t.input t.index) (kept_at h t.input t.index)) (puts s ts next) (puts_find ts next finds) h

    resumes_find : (input place : ℕ) (indexes : List ℕ) (next : History → Action RunResult) → FindsAll next → FindsAll (resumes input place indexes next)
    resumes_find input place [] next finds h = finds h
    resumes_find input place (index ∷ more) next finds h =
        let now : History = Resumed input index place ∷ h in
        asks_none (Note (Resumed input index place)) (λ _. resumes input place more next now) (λ answer es. refl) (λ answer. resumes_find input place more next finds now)

    got_finds : (t : Tracked) (failed next : History → Action RunResult) → FindsAll failed → FindsAll next → (h : History) (answer : Option (Option ℕ)) → Finds P (got s t failed next h answer)
    got_finds t failed next ends finds h None = ends h
    got_finds t failed next ends finds h (Some None) = finds h
    got_finds t failed next ends finds h (Some (Some place)) = resumes_find t.input place (indexes_from 0 t.path (paths_at s t.input)) next finds h

    gets_find : (ts : List Tracked) (failed next : History → Action RunResult) → FindsAll failed → FindsAll next → FindsAll (gets s ts failed next)
    gets_find [] failed next ends finds h = finds h
    gets_find (t ∷ ts) failed next ends finds h =
        asks_none (OnKeeper (Get t.db t.path)) (got s t failed (gets s ts failed next) h) (λ answer es. refl) (got_finds t failed (gets s ts failed next) ends (gets_find ts failed next ends finds) h)

  -- ---- turns

  -- a turn goes on only if the event wasn't the end
  abbrev GoesOn : ℕ → Happening → Place → Handshakes → Type 0
  GoesOn turns x place k = (is_end x ≡ false) × IsEnough turns place k

  goes_by : (over : Bool) (turns : ℕ) (x : Happening) (h : History) (next : Action RunResult) → is_over s x h ≡ over → HasEnough turns next → Finds (GoesOn turns x) (if over then Return (lived h Over) else next)
  goes_by true turns x h next is enough place k t es calls way carries played = let over = ends_so (lived h Over) comes es way in absurd (cc (sym spent ∙ over))
  goes_by false turns x h next is enough place k t es calls way carries played = (no_end s x h is, enough place k t es calls way carries played)

  turn_goes : (turns : ℕ) (h : History) (x : Happening) → ((now : History) → HasEnough turns (run s None turns now)) → Finds (GoesOn turns x) (brought s None (run s None turns) h x)
  turn_goes turns h happening.Failed enough place k t es calls way carries played = let failed = ends_so (lived h LoopFailed) comes es way in absurd (cc (sym spent ∙ failed))
  turn_goes turns h x enough place k t es calls way carries played =
      let parts = way_parts (step s x h) (after_step s None (run s None turns) x) es comes way in
      let own = parts.1 in
      let two = split k t es own parts.2 calls parts.3 carries in
      let all : ArePlayed place (two.first ++ two.second) = subst (λ (l : List LoopEntry). ArePlayed place l) two.is played in
      let went =
      puts_find (GoesOn turns x) (tracked s) (goes_on s (unless_last s None (run s None turns) x) x)
      (λ now. goes_by (is_over s x now) turns x now (run s None turns now) refl (enough now))
      parts.0 (behind place two.first) two.at t parts.2 two.second parts.5 two.after (played_second place two.first two.second all)
      in
      (went.0, plain_add_none (keys_of s) turns place k two.at own two.first (step_plain s x h own (Return parts.0) parts.4) two.before went.1)

  run_enough : (turns : ℕ) (h : History) → HasEnough turns (run s None turns h)
  unfolding run
  run_enough zero h place k t es calls way carries played = nothing_less (ahead_of (has_keys (keys_of s)) place k)
  run_enough (suc turns) h place k t [] calls way carries played = absurd (cc way)
  run_enough (suc turns) h place k t (e ∷ es) calls way carries played =
      let mask = paused s h in
      let until = saturating_plus (clock h) 250 in
      let one : Carries (keys_of s) k calls (entry (Wait until mask) way.0 ∷ loop_part es) t = subst (λ (x : TraceEntry). Carries (keys_of s) k calls (loop_part (x ∷ es)) t) way.1 carries in
      let all : ArePlayed place (one.0 ++ one.1) = subst (λ (l : List LoopEntry). ArePlayed place l) one.3 played in
      let went = turn_goes turns h way.0 (run_enough turns) (behind place one.0) one.2 t es one.1 way.2 one.5 (played_second place one.0 one.1 all) in
      let less = wait_spends (keys_of s) k one.2 until mask way.0 place went.0 (has_keys (keys_of s)) one.0 one.4 (played_first place one.0 one.1 all) in
      one_more turns (ahead_of (has_keys (keys_of s)) (behind place one.0) one.2) (ahead_of (has_keys (keys_of s)) place k) went.1 less

  started_enough : (turns : ℕ) (h : History) (ready : Option (Unit {0})) → HasEnough turns (after_start s None turns h ready)
  started_enough turns h None place k t es calls way carries played = let failed = ends_so (lived h LoopFailed) comes es way in absurd (cc (sym spent ∙ failed))
  started_enough turns h (Some ready) place k t es calls way carries played = run_enough turns h place k t es calls way carries played

  starts_enough : (ends : Ends) (turns : ℕ) (h : History) → HasEnough turns (starts s ends None turns h)
  starts_enough ends turns h place k t [] calls way carries played = absurd (cc way)
  starts_enough ends turns h place k t (e ∷ es) calls way carries played =
      let start : TraceEntry = entry (OnLoop (Start ends)) way.0 in
      let one : Carries (keys_of s) k calls (entry (Start ends) way.0 ∷ loop_part es) t = subst (λ (x : TraceEntry). Carries (keys_of s) k calls (loop_part (x ∷ es)) t) way.1 carries in
      let two = split k t (start ∷ es) (start ∷ []) es calls refl one in
      let all : ArePlayed place (two.first ++ two.second) = subst (λ (l : List LoopEntry). ArePlayed place l) two.is played in
      let rest = started_enough turns h way.0 (behind place two.first) two.at t es two.second way.2 two.after (played_second place two.first two.second all) in
      plain_add_none (keys_of s) turns place k two.at (start ∷ []) two.first (refl, tt) two.before rest

  begun_enough : (ends : Ends) (turns : ℕ) (found : Option History) → HasEnough turns (after_recovery s ends None turns found)
  begun_enough ends turns None place k t es calls way carries played = let failed = ends_so (lived [] DiskFailed) comes es way in absurd (cc (sym spent ∙ failed))
  begun_enough ends turns (Some h) place k t es calls way carries played =
      gets_find (IsEnough turns) (tracked s) (λ (now : History). Return (lived now KeeperFailed)) (starts s ends None turns)
      (λ now at u v rest others on given answered. let failed = ends_so (lived now KeeperFailed) comes rest on in absurd (cc (sym spent ∙ failed)))
      (starts_enough ends turns) h place k t es calls way carries played

  pub life_enough : (ends : Ends) (turns : ℕ) → HasEnough turns (life s ends None turns)
  unfolding life
  life_enough ends turns place k t es calls way carries played =
      let parts = way_parts (recovers s) (after_recovery s ends None turns) es comes way in
      let own = parts.1 in
      let two = split k t es own parts.2 calls parts.3 carries in
      let all : ArePlayed place (two.first ++ two.second) = subst (λ (l : List LoopEntry). ArePlayed place l) two.is played in
      let rest = begun_enough ends turns parts.0 (behind place two.first) two.at t parts.2 two.second parts.5 two.after (played_second place two.first two.second all) in
      plain_add_none (keys_of s) turns place k two.at own two.first (loading_plain s own (Return parts.0) parts.4) two.before rest
