-- When a run first waits, each followed file whose offset is kept is to be read from where its keeper said.
use Rattle.std.proofs.Common.{◌≡◌, ◌⊎◌, inl, inr, ℕ, zero, suc, ◌+◌, ◌&&◌, ◌||◌, Bool, true, false, cond, List, [], ◌∷◌, ◌++◌, Option, Some, None, refl, sym, ◌∙◌, ap, subst, arith}
use Rattle.std.specs.Prelude.{Contains, ◌==◌, slice_get}
use Rattle.std.proofs.lemmas.Bool.{and_parts, eq-eqb, eqb-true}
use Rattle.fwd_outside.specs.Program.{entry, Return, Ask, Execution}
use Rattle.fwd_outside.specs.Loop.{Start, Wait}
use Rattle.fwd_outside.specs.declared.ends.Ends.{Ends}
use Rattle.fwd_outside.specs.declared.happening.Happening.{Happening}
use Rattle.fwd_keeper.specs.Keeper.{Get, is_of}
use Rattle.fwd_in_tail.specs.Followed.{Followed}
use Rattle.fwd_settings.specs.declared.settings_types.AllSettings.{AllSettings}
use Rattle.fwd_model.specs.Fact.{History, Resumed, Found}
use Rattle.fwd_model.specs.Trace.{Call, Answer, Action, TraceEntry, OnLoop, OnDisk, OnFiles, OnKeeper, Note, history_after}
use Rattle.fwd_model.specs.Settings.{saturating_plus, paths_at, db_at}
use Rattle.fwd_model.specs.Clock.{clock}
use Rattle.fwd_model.specs.FollowedFiles.{file_at, resumed_by}
use Rattle.fwd_model.specs.Limits.{paused}
use Rattle.fwd_model.specs.KeptOffsets.{Tracked, tracked, indexes_from, resumes, got, gets}
use Rattle.fwd_model.specs.RecoveryActions.{recovers}
use Rattle.fwd_model.specs.Run.{RunResult, KeeperFailed, lived, brought, run, after_start, starts, after_recovery, life}
use Rattle.fwd_theorem_trace.specs.Past.{Past, logged, past_after}
use Rattle.fwd_theorem_trace.specs.Allowed.{IsAllowed}
use Rattle.fwd_theorem_trace.specs.Waits.{is_wait, waits_in}
use Rattle.fwd_theorem_trace.proofs.Members.{here, deeper, either}
use Rattle.fwd_theorem_trace.proofs.Traversal.{Traverses, holds_now, traverses_rest, walks_bind, noted_since}
use Rattle.fwd_theorem_trace.proofs.OffsetCalls.{AreTracked, all_tracked}
use Rattle.fwd_theorem_trace.proofs.Run.{IsPlain, Loaded, loads_root}
use Rattle.fwd_theorem_delivery.proofs.CallSequences.{since_both}
use Rattle.fwd_theorem_offsets.specs.KeptFiles.{IsAlone, last_given, begun_at}
use Rattle.fwd_theorem_offsets.proofs.TrackedFiles.{of_same, same_of, has_file, index_in, index_out}

abbrev has_waited : Past → Bool
has_waited [] = false
has_waited (e ∷ past) = is_wait e.call || has_waited past

waited_later : (b c : Bool) → c ≡ true → (b || c) ≡ true
waited_later true c is = refl
waited_later false c is = is

none_waited : (es : List TraceEntry) (past : Past) → waits_in es ≡ 0 → has_waited past ≡ false → has_waited (past_after past es) ≡ false
none_waited [] past none yet = yet
none_waited (e ∷ es) past none yet = by (is_wait e.call) refl none (none_waited es (e ∷ past))
  where
    by : (b : Bool) → is_wait e.call ≡ b → cond b (waits_in es + 1) (waits_in es) ≡ 0 → (waits_in es ≡ 0 → has_waited (e ∷ past) ≡ false → has_waited (past_after (e ∷ past) es) ≡ false) → has_waited (past_after (e ∷ past) es) ≡ false
    by true is none more = absurd (omega (arith, none))
    by false is none more = more none (ap (λ (b : Bool). b || has_waited past) is ∙ yet)

module _ (s : AllSettings) (file : Tracked) (among : Contains (tracked s) file) (alone : IsAlone s file.input file.index) where
  abbrev file_in : Past → Followed
  file_in past = file_at s (logged past) file.input file.index

  abbrev given : Past → Option ℕ
  given past = last_given past file.db file.path

  -- the file is to be read from where the keeper said
  abbrev Begins : Past → Type 0
  Begins past = file_in past ≡ begun_at (given past)

  abbrev IsBegun : Past → Call → Type 0
  IsBegun past (OnLoop (Wait until mask)) = has_waited past ≡ false → Begins past
  IsBegun past call = Unit {0}

  -- so it is when the run first waits
  abbrev AreBegun : Past → Type 0
  AreBegun [] = Unit {0}
  AreBegun (e ∷ past) = IsBegun past e.call × AreBegun past

  abbrev Anything : RunResult → Past → Type 0
  Anything end now = Unit {0}

  abbrev Lives : Past → Action RunResult → Type 0
  Lives past p = Traverses AreBegun Anything past p

  -- ---- after the first wait

  begun_later : (call : Call) (past : Past) → has_waited past ≡ true → IsBegun past call
  begun_later (OnLoop (Wait until mask)) past waited = λ yet. absurd (cc (sym waited ∙ yet))
  begun_later call past waited = tt

  lives_later : (past : Past) (p : Action RunResult) → has_waited past ≡ true → AreBegun past → Lives past p
  lives_later past (Return end) waited so = (so, tt)
  lives_later past (Ask call go) waited so =
      (so, λ answer. lives_later (entry call answer ∷ past) (go answer) (waited_later (is_wait call) (has_waited past) waited) (begun_later call past waited, so))

  -- ---- the gets

  abbrev Goes : (History → Action RunResult) → Type 0
  Goes next = (now : Past) → AreBegun now → Begins now → Lives now (next (logged now))

  -- reading resumes at the index of this file too
  resumes_here : (place : ℕ) (indexes : List ℕ) (next : History → Action RunResult) → Goes next → (past : Past) → AreBegun past → given past ≡ Some place → (file_in past ≡ begun_at (Some place)) ⊎ Contains indexes file.index
      → Lives past (resumes file.input place indexes next (logged past))
  resumes_here place [] next more past so is (inl done) = more past so (done ∙ ap begun_at (sym is))
  resumes_here place [] next more past so is (inr none) = absurd (omega (arith, none.1))
  resumes_here place (index ∷ indexes) next more past so is at = (
    so,
    λ answer.
        let now : Past = entry (Note (Resumed file.input index place)) answer ∷ past in
        resumes_here place indexes next more now (tt, so) is (by (file.input == file.input && index == file.index) refl at),
  )
    where
      by : (b : Bool) → (file.input == file.input && index == file.index) ≡ b → (file_in past ≡ begun_at (Some place)) ⊎ Contains (index ∷ indexes) file.index
          → (resumed_by b place (file_in past) ≡ begun_at (Some place)) ⊎ Contains indexes file.index
      by true is at = inl refl
      by false is (inl done) = inl done
      by false is (inr has) = other (either index indexes file.index has)
        where
          other : (index ≡ file.index) ⊎ Contains indexes file.index → (file_in past ≡ begun_at (Some place)) ⊎ Contains indexes file.index
          other (inl same) =
              let here : (file.input == file.input && index == file.index) ≡ true = rw (eq-eqb file.input file.input refl, eq-eqb index file.index same) refl in
              absurd (cc (sym is ∙ here))
          other (inr there) = inr there

  -- reading of other files resumes
  resumes_elsewhere : (input place : ℕ) (indexes : List ℕ) (next : History → Action RunResult) → Goes next → ((index : ℕ) → Contains indexes index → (input == file.input && index == file.index) ≡ false)
      → (past : Past) → AreBegun past → Begins past → Lives past (resumes input place indexes next (logged past))
  resumes_elsewhere input place [] next more others past so begins = more past so begins
  resumes_elsewhere input place (index ∷ indexes) next more others past so begins = (
    so,
    λ answer.
        let now : Past = entry (Note (Resumed input index place)) answer ∷ past in
        resumes_elsewhere input place indexes next more (λ k has. others k (deeper index indexes k has)) now (tt, so)
        (ap (λ (b : Bool). resumed_by b place (file_in past)) (others index (here index indexes)) ∙ begins),
  )

  -- this file has the index
  has_index : Contains (indexes_from 0 file.path (paths_at s file.input)) file.index
  has_index =
      let same : 0 + file.index ≡ file.index = omega arith in
      subst (λ (n : ℕ). Contains (indexes_from 0 file.path (paths_at s file.input)) n) same (index_in 0 file.path (paths_at s file.input) file.index (has_file s file among).path)

  -- another database or path is that of other files
  other_index : (t : Tracked) → Contains (tracked s) t → is_of file.db file.path t.db t.path ≡ false → (index : ℕ) → Contains (indexes_from 0 t.path (paths_at s t.input)) index → (t.input == file.input && index == file.index) ≡ false
  other_index t there isnt index has = by (t.input == file.input && index == file.index) refl
    where
      same_some : {a b : List ℕ} → ◌≡◌ {A = Option (List ℕ)} (Some a) (Some b) → a ≡ b
      same_some is = cc is

      by : (b : Bool) → (t.input == file.input && index == file.index) ≡ b → b ≡ false
      by false is = refl
      by true is =
          let parts = and_parts (t.input == file.input) (index == file.index) is in
          let inputs : t.input ≡ file.input = eqb-true t.input file.input parts.0 in
          let indexes : index ≡ file.index = eqb-true index file.index parts.1 in
          let out = index_out 0 t.path (paths_at s t.input) index has in
          let zero_plus = out.1 in
          let at : out.0 ≡ file.index = omega (arith, zero_plus, indexes) in
          let mine = has_file s file among in
          let its = has_file s t there in
          let dbs : t.db ≡ file.db = same_some (sym its.db ∙ (ap (db_at s) inputs ∙ mine.db)) in
          let paths : t.path ≡ file.path = same_some (sym out.2 ∙ (ap (slice_get (paths_at s t.input)) at ∙ (ap (λ (i : ℕ). slice_get (paths_at s i) file.index) inputs ∙ mine.path))) in
          absurd (cc (sym isnt ∙ same_of file.db file.path t.db t.path dbs paths))

  -- the keeper gave an offset
  abbrev got_now : Tracked → ℕ → Past → Past
  got_now t place past = entry (OnKeeper (Get t.db t.path)) (Some (Some place)) ∷ past

  lives_given : (t : Tracked) → Contains (tracked s) t → (next : History → Action RunResult) → Goes next → (past : Past) (place : ℕ) → AreBegun past → Begins past
      → Lives (got_now t place past) (resumes t.input place (indexes_from 0 t.path (paths_at s t.input)) next (logged past))
  lives_given t there next more past place so begins = by (is_of file.db file.path t.db t.path) refl
    where
      by : (b : Bool) → is_of file.db file.path t.db t.path ≡ b → Lives (got_now t place past) (resumes t.input place (indexes_from 0 t.path (paths_at s t.input)) next (logged past))
      by true is =
          let same = of_same file.db file.path t.db t.path is in
          let mine = alone file t among there (refl, refl) same in
          subst (λ (path : List ℕ). Lives (got_now t place past) (resumes t.input place (indexes_from 0 path (paths_at s t.input)) next (logged past))) (sym same.1)
          (subst (λ (input : ℕ). Lives (got_now t place past) (resumes input place (indexes_from 0 file.path (paths_at s input)) next (logged past))) (sym mine.0)
          (resumes_here place (indexes_from 0 file.path (paths_at s file.input)) next more (got_now t place past) (tt, so) (ap (λ (b : Bool). cond b (Some place) (given past)) is) (inr has_index)))
      by false is =
          resumes_elsewhere t.input place (indexes_from 0 t.path (paths_at s t.input)) next more (other_index t there is) (got_now t place past) (tt, so)
          (begins ∙ ap (λ (b : Bool). begun_at (cond b (Some place) (given past))) (sym is))

  lives_got : (t : Tracked) → Contains (tracked s) t → (next : History → Action RunResult) → Goes next → (past : Past) (answer : Option (Option ℕ)) → AreBegun past → Begins past
      → Lives (entry (OnKeeper (Get t.db t.path)) answer ∷ past) (got s t (λ now. Return (lived now KeeperFailed)) next (logged past) answer)
  lives_got t there next more past None so begins = ((tt, so), tt)
  lives_got t there next more past (Some None) so begins = more (entry (OnKeeper (Get t.db t.path)) (Some None) ∷ past) (tt, so) begins
  lives_got t there next more past (Some (Some place)) so begins = lives_given t there next more past place so begins

  lives_gets : (ts : List Tracked) (next : History → Action RunResult) → AreTracked s ts → Goes next → Goes (gets s ts (λ now. Return (lived now KeeperFailed)) next)
  lives_gets [] next are more past so begins = more past so begins
  lives_gets (t ∷ ts) next are more past so begins =
      (so, λ answer. lives_got t are.0 (gets s ts (λ now. Return (lived now KeeperFailed)) next) (lives_gets ts next are.1 more) past answer so begins)

  -- ---- a run

  lives_run : (ticks : Option ℕ) (turns : ℕ) → Goes (run s ticks turns)
  unfolding run
  lives_run ticks zero past so begins = (so, tt)
  lives_run ticks (suc turns) past so begins = (
    so,
    λ x.
        let wait : TraceEntry = entry (OnLoop (Wait (saturating_plus (clock (logged past)) 250) (paused s (logged past)))) x in
        lives_later (wait ∷ past) (brought s ticks (run s ticks turns) (logged past) x) refl (λ yet. begins, so),
  )

  lives_started : (ticks : Option ℕ) (turns : ℕ) (ready : Option (Unit {0})) → Goes (λ h. after_start s ticks turns h ready)
  lives_started ticks turns None past so begins = (so, tt)
  lives_started ticks turns (Some ready) past so begins = lives_run ticks turns past so begins

  -- ---- recovery

  abbrev Starting : Past → Type 0
  Starting past = AreBegun past × Begins past

  starting_on : (call : Call) (answer : Answer call) (past : Past) → IsPlain call → IsAllowed s call past → Starting past → Starting (entry call answer ∷ past)
  starting_on (OnLoop (Wait until mask)) answer past plain due so = ((λ yet. so.1, so.0), so.1)
  starting_on (OnLoop call) answer past plain due so = ((tt, so.0), so.1)
  starting_on (OnDisk call) answer past plain due so = ((tt, so.0), so.1)
  starting_on (OnFiles call) answer past plain due so = ((tt, so.0), so.1)
  starting_on (OnKeeper call) answer past plain due so = absurd plain
  starting_on (Note (Found number stream name bytes)) answer past plain due so = ((tt, so.0), so.1)
  starting_on (Note fact) answer past plain due so = absurd plain

  abbrev Recovered : Option History → Past → Type 0
  Recovered x now = Loaded x now × Begins now

  recovered : (past : Past) (p : Action (Option History)) → Traverses Starting Loaded past p → Traverses AreBegun Recovered past p
  recovered past (Return x) walks = (walks.0.0, (walks.1, walks.0.1))
  recovered past (Ask call go) walks = (walks.0.0, λ answer. recovered (entry call answer ∷ past) (go answer) (walks.1 answer))

  lives_recovered : (ends : Ends) (ticks : Option ℕ) (turns : ℕ) (found : Option History) (now : Past) → AreBegun now → Recovered found now → Lives now (after_recovery s ends ticks turns found)
  lives_recovered ends ticks turns None now so is = (so, tt)
  lives_recovered ends ticks turns (Some h) now so is =
      subst (λ (x : History). Lives now (after_recovery s ends ticks turns (Some x))) (sym is.0.0)
      (lives_gets (tracked s) (starts s ends ticks turns) (all_tracked s) (λ at there begins. (there, λ ready. lives_started ticks turns ready (entry (OnLoop (Start ends)) ready ∷ at) (tt, there) begins)) now so is.1)

  lives_life : (ends : Ends) (ticks : Option ℕ) (turns : ℕ) → Lives [] (life s ends ticks turns)
  unfolding life recovers
  lives_life ends ticks turns =
      walks_bind AreBegun Recovered Anything [] (recovers s) (after_recovery s ends ticks turns) (recovered [] (recovers s) (loads_root s Starting starting_on (tt, refl) s.service.path))
      (λ found now grown so is. lives_recovered ends ticks turns found now so is)

  -- ---- at the first wait

  begun_before : (es : List TraceEntry) (past : Past) → AreBegun (past_after past es) → AreBegun past
  begun_before [] past so = so
  begun_before (e ∷ es) past so = (begun_before es (e ∷ past) so).1

  pub begun_at_wait : (ends : Ends) (ticks : Option ℕ) (turns : ℕ) (before after : List TraceEntry) (left : Action RunResult) (until mask : ℕ) (brings : Happening)
      → Execution (life s ends ticks turns) (before ++ entry (OnLoop (Wait until mask)) brings ∷ after) left → waits_in before ≡ 0
      → file_at s (history_after before []) file.input file.index ≡ begun_at (last_given (past_after [] before) file.db file.path)
  begun_at_wait ends ticks turns before after left until mask brings way none =
      let e : TraceEntry = entry (OnLoop (Wait until mask)) brings in
      let so : AreBegun (past_after [] (before ++ e ∷ after)) =
      holds_now AreBegun Anything (past_after [] (before ++ e ∷ after)) left (traverses_rest AreBegun Anything [] (life s ends ticks turns) (lives_life ends ticks turns) (before ++ e ∷ after) left way) in
      let at : AreBegun (e ∷ past_after [] before) = begun_before after (e ∷ past_after [] before) (subst AreBegun (since_both [] before (e ∷ after)) so) in
      ap (λ (h : History). file_at s h file.input file.index) (sym (noted_since [] before)) ∙ at.0 (none_waited before [] none refl)
