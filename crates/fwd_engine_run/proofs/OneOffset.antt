-- The offset of one file is got and put.
use Rattle.std.proofs.Common.{◌≡◌, inl, inr, ℕ, List, [], ◌∷◌, length, Option, Some, None, Result, IsErrAnd, Ok, Err, refl, sym, ◌∙◌, ap, subst}
use Rattle.std.proofs.lemmas.Bool.{eq-eqb}
use Rattle.fwd_keeper.specs.Keeper.{KeeperCall, KeeperAnswer, KeeperLog, Get, Put, outcome}
use Rattle.fwd_keeper.specs.declared.errors.KeepErr.{KeepErr}
use Rattle.fwd_keeper.specs.declared.errors.KeepErr.TheVariants as keep_err
use Rattle.fwd_outside.specs.Program.{entry}
use Rattle.fwd_outside.specs.Log.{LogGrew, log_of_call}
use Rattle.fwd_settings.specs.declared.settings_types.AllSettings.{AllSettings}
use Rattle.fwd_model.specs.Fact.{History, Saved}
use Rattle.fwd_model.specs.Trace.{Action, OnKeeper}
use Rattle.fwd_model.specs.Settings.{paths_at}
use Rattle.fwd_model.specs.Clock.{stopped}
use Rattle.fwd_model.specs.CallLogs.{CallLogs, LogsGrew, Leads, IsBegun}
use Rattle.fwd_model.specs.FollowedFiles.{settled, settled_by, settled_at}
use Rattle.fwd_model.specs.KeptOffsets.{Tracked, kept_at, to_put, got, after_put, puts_by}
use Rattle.fwd_model.specs.Run.{RunResult, is_over, is_over_after}
use Rattle.fwd_model.proofs.Actions.{stays, fact_noted, goes_on}
use Rattle.fwd_model.proofs.CallLogs.{logs_grew_none}
use Rattle.fwd_engine_state.specs.FilesRepresent.{resumed_history}
use Rattle.fwd_theorem_trace.specs.Allowed.{IsStart}
use Rattle.fwd_engine.specs.EngineSteps.{IsAt, EngineAnswers}
use Rattle.fwd_engine.specs.declared.engine.Engine.{Engine}
use Rattle.fwd_engine.proofs.KeptOffsets.{saved_stays}
use Rattle.fwd_engine_run.specs.OffsetRows.{IsOverAlike, IsRow, with_keeper}
use Rattle.fwd_engine_run.specs.OneOffset.{IsPath, IsPutLogged, OffsetsGot, RowPut, gets_one}
use Rattle.fwd_engine_run.specs.declared.kept_offsets.KeptOffset.{KeptOffset}
use Rattle.fwd_engine_run.specs.declared.kept_offsets.Got.{Got}
use Rattle.fwd_engine_run.proofs.ResumedOffsets.{resumes_all, start_resumed, start_settled}

-- ---- calls of a keeper, whatever the other devices log

-- no call was made
pub none_called : (others : CallLogs) (old new : KeeperLog) → LogGrew old new [] → LogsGrew (with_keeper old others) (with_keeper new others) []
none_called others old new grew = let none = logs_grew_none others in record { loop = none.loop; disk = none.disk; files = none.files; keeper = grew }

-- one call was made, with this answer
one_called : (others : CallLogs) (old new : KeeperLog) (call : KeeperCall) (answer : KeeperAnswer call) → LogGrew old new (entry call answer ∷ [])
    → LogsGrew (with_keeper old others) (with_keeper new others) (entry (OnKeeper call) answer ∷ [])
one_called others old new call answer grew = let none = logs_grew_none others in record { loop = none.loop; disk = none.disk; files = none.files; keeper = grew }

-- ---- a get

module _ (others : CallLogs) (old new : KeeperLog) (s : AllSettings) (h : History) (t : Tracked) (failed next : History → Action RunResult) (row : KeptOffset) (is : IsRow [] row t) (db path : List ℕ) (of : (db ≡ row.db) × (path ≡ row.path)) where
  abbrev a : CallLogs
  a = with_keeper old others

  abbrev b : CallLogs
  b = with_keeper new others

  -- the keeper answered
  leads_get : (answer : Option (Option ℕ)) → LogGrew old new (entry (Get db path) answer ∷ []) → Leads a b (gets_one s t failed next h) (got s t failed next h answer)
  leads_get answer grew =
      let first : db ≡ t.db = of.0 ∙ is.db in
      let second : path ≡ t.path = of.1 ∙ is.path in
      let asked : LogGrew old new (entry (Get t.db t.path) answer ∷ []) = subst (λ (l : List ℕ). LogGrew old new (entry (Get l t.path) answer ∷ [])) first (subst (λ (l : List ℕ). LogGrew old new (entry (Get db l) answer ∷ [])) second grew) in
      record { entries = entry (OnKeeper (Get t.db t.path)) answer ∷ []; asked = one_called others old new (Get t.db t.path) answer asked; way = (answer, refl, refl) }

  -- there is none
  pub got_none : (engine : Engine) → IsAt engine s h → IsStart h → LogGrew old new (entry (Get db path) (Some None) ∷ []) → (now : History) × IsAt engine s now × IsStart now × Leads a b (gets_one s t failed next h) (next now)
  got_none engine at start grew = (h, at, start, leads_get (Some None) grew)

  pub got_failed : LogGrew old new (entry (Get db path) None ∷ []) → (now : History) × Leads a b (gets_one s t failed next h) (failed now)
  got_failed grew = (h, leads_get None grew)

  -- reading resumes there
  pub got_place : (engine : Engine) (place : ℕ) (again : List ℕ) → again ≡ row.path → IsAt engine s (resumed_history row.input.0 again place (paths_at s row.input.0) (length (paths_at s row.input.0)) h) → IsStart h
      → LogGrew old new (entry (Get db path) (Some (Some place)) ∷ []) → (now : History) × IsAt engine s now × IsStart now × Leads a b (gets_one s t failed next h) (next now)
  got_place engine place again same at start grew =
      let files = paths_at s t.input in
      let now : History = resumed_history t.input t.path place files (length files) h in
      let at_input : IsAt engine s (resumed_history t.input again place files (length files) h) = subst (λ (n : ℕ). IsAt engine s (resumed_history n again place (paths_at s n) (length (paths_at s n)) h)) is.input at in
      let at_path : IsAt engine s now = subst (λ (l : List ℕ). IsAt engine s (resumed_history t.input l place files (length files) h)) (same ∙ is.path) at_input in
      (now, at_path, start_resumed t.input place t.path files (length files) h start, goes_on (leads_get (Some (Some place)) grew) (resumes_all b t.input place t.path files h next))

  -- memory ran out after the call
  pub got_begun : (answer : Option (Option ℕ)) → LogGrew old new (entry (Get db path) answer ∷ []) → IsBegun a b (gets_one s t failed next h)
  got_begun answer grew = (got s t failed next h answer, leads_get answer grew)

  -- it ran out before the call
  pub ungot : LogGrew old new [] → IsBegun a b (gets_one s t failed next h)
  ungot grew = (gets_one s t failed next h, record { entries = []; asked = none_called others old new grew; way = refl })

-- the exit of a `?`
pub gets_end : {E : Type 0} (a b : CallLogs) (s : AllSettings) (failed next : History → Action RunResult) (act : Action RunResult) (engine : Engine) (is : E → Type 0) (result : Result Got E)
    → IsErrAnd result is → IsBegun a b act → OffsetsGot a b s failed next act engine result
gets_end a b s failed next act engine is (Ok done) ended began = absurd ended
gets_end a b s failed next act engine is (Err e) ended began = began

-- ---- what a row has

-- the engine's offset of a row
row_settled : (s : AllSettings) (h : History) (t : Tracked) (engine : Engine) (row : KeptOffset) (before : History) (o : Option ℕ) → IsAt engine s h → IsPath s t → IsRow before row t
    → EngineAnswers engine (λ s h. o ≡ settled_at s h row.input.0 row.index) → o ≡ settled s h t.input t.index
row_settled s h t engine row before o at path is answers =
    let here : o ≡ settled_at s h row.input.0 row.index = answers s h at in
    let same : settled_at s h row.input.0 row.index ≡ settled_at s h t.input t.index = rw (is.input, is.index) refl in
    here ∙ same ∙ ap (λ (p : Option (List ℕ)). settled_by p (settled s h t.input t.index)) path

-- after the gets
pub row_resumed : (s : AllSettings) (h : History) (t : Tracked) (engine : Engine) (row : KeptOffset) (o : Option ℕ) → IsAt engine s h → IsStart h → IsPath s t → IsRow [] row t
    → EngineAnswers engine (λ s h. o ≡ settled_at s h row.input.0 row.index) → IsRow h (record { input = row.input; index = row.index; db = row.db; path = row.path; kept = o }) t
row_resumed s h t engine row o at start path is answers = record {
  input = is.input;
  index = is.index;
  db = is.db;
  path = is.path;
  kept = row_settled s h t engine row [] o at path is answers ∙ start_settled s h t.input t.index start;
}

-- what a row finds is to be put is so
pub to_be : (s : AllSettings) (h : History) (t : Tracked) (engine : Engine) (row : KeptOffset) (o r : Option ℕ) → IsAt engine s h → IsPath s t → IsRow h row t
    → EngineAnswers engine (λ s h. o ≡ settled_at s h row.input.0 row.index) → r ≡ to_put o row.kept → to_put (settled s h t.input t.index) (kept_at h t.input t.index) ≡ r
to_be s h t engine row o r at path is answers e =
    sym (e ∙ ap (λ (x : Option ℕ). to_put x row.kept) (row_settled s h t engine row h o at path is answers) ∙ ap (λ (x : Option ℕ). to_put (settled s h t.input t.index) x) is.kept)

here_kept : (h : History) (t : Tracked) (place : ℕ) → Some place ≡ kept_at (Saved t.input t.index place ∷ h) t.input t.index
here_kept h t place = rw (eq-eqb t.input t.input refl, eq-eqb t.index t.index refl) refl

-- ---- a put

pub none_of : (o : Option ℕ) → ((x : ℕ) → o ≡ Some x → ⊥) → o ≡ None
none_of None not = refl
none_of (Some x) not = absurd (not x refl)

-- nothing is to be put
pub none_put : (a : CallLogs) (s : AllSettings) (h : History) (t : Tracked) (next : History → Action RunResult) (engine : Engine) (row : KeptOffset) (o : Option ℕ) → IsRow h row t → IsAt engine s h → o ≡ None → RowPut a a s h t next (puts_by t o next h) engine row
none_put a s h t next engine row o is at none = record { now = h; logged = inl refl; at = at; shows = is; leads = rw none (stays a (next h)) }

module _ (others : CallLogs) (old new : KeeperLog) (s : AllSettings) (h : History) (t : Tracked) (next : History → Action RunResult) (engine : Engine) (row : KeptOffset) (o : Option ℕ) (is : IsRow h row t) (at : IsAt engine s h) where
  module _ (place : ℕ) (some : o ≡ Some place) (db path : List ℕ) (of : (db ≡ row.db) × (path ≡ row.path)) where
    leads_put : (answer : Option (Unit {0})) → LogGrew old new (entry (Put db path place) answer ∷ []) → Leads (with_keeper old others) (with_keeper new others) (puts_by t o next h) (after_put t place next h answer)
    leads_put answer grew =
        let first : db ≡ t.db = of.0 ∙ is.db in
        let second : path ≡ t.path = of.1 ∙ is.path in
        let asked : LogGrew old new (entry (Put t.db t.path place) answer ∷ []) = subst (λ (l : List ℕ). LogGrew old new (entry (Put l t.path place) answer ∷ [])) first (subst (λ (l : List ℕ). LogGrew old new (entry (Put db l place) answer ∷ [])) second grew) in
        let leads : Leads (with_keeper old others) (with_keeper new others) (puts_by t (Some place) next h) (after_put t place next h answer) =
        record { entries = entry (OnKeeper (Put t.db t.path place)) answer ∷ []; asked = one_called others old new (Put t.db t.path place) answer asked; way = (answer, refl, refl) } in
        subst (λ (x : Option ℕ). Leads (with_keeper old others) (with_keeper new others) (puts_by t x next h) (after_put t place next h answer)) (sym some) leads

    pub is_put : LogGrew old new (entry (Put db path place) (Some tt) ∷ [])
        → RowPut (with_keeper old others) (with_keeper new others) s h t next (puts_by t o next h) engine (record { input = row.input; index = row.index; db = row.db; path = row.path; kept = Some place })
    is_put grew = record {
      now = Saved t.input t.index place ∷ h;
      logged = inr (place, refl);
      at = saved_stays engine s h t.input t.index place at;
      shows = record { input = is.input; index = is.index; db = is.db; path = is.path; kept = here_kept h t place };
      leads = goes_on (leads_put (Some tt) grew) (fact_noted (with_keeper new others) (Saved t.input t.index place) (λ _. next (Saved t.input t.index place ∷ h)));
    }

    pub isnt_put : (e : KeepErr) → e ≡ keep_err.Failed → LogGrew old new (log_of_call (Put db path place) (outcome {T = Unit {0}} (Err e))) → RowPut (with_keeper old others) (with_keeper new others) s h t next (puts_by t o next h) engine row
    isnt_put e failed grew =
        let asked : LogGrew old new (log_of_call (Put db path place) (outcome {T = Unit {0}} (Err keep_err.Failed))) = subst (λ (x : KeepErr). LogGrew old new (log_of_call (Put db path place) (outcome {T = Unit {0}} (Err x)))) failed grew in
        record { now = h; logged = inl refl; at = at; shows = is; leads = leads_put None asked }

  pub unput : (db path : List ℕ) (place : ℕ) (e : KeepErr) → e ≡ keep_err.Memory → LogGrew old new (log_of_call (Put db path place) (outcome {T = Unit {0}} (Err e))) → IsBegun (with_keeper old others) (with_keeper new others) (puts_by t o next h)
  unput db path place e wanting grew =
      let asked : LogGrew old new (log_of_call (Put db path place) (outcome {T = Unit {0}} (Err keep_err.Memory))) = subst (λ (x : KeepErr). LogGrew old new (log_of_call (Put db path place) (outcome {T = Unit {0}} (Err x)))) wanting grew in
      (puts_by t o next h, record { entries = []; asked = none_called others old new asked; way = refl })

-- ---- a put and the end of a run

saved_alike : (s : AllSettings) (h : History) (input index place : ℕ) → IsOverAlike s h (Saved input index place ∷ h)
unfolding is_over
saved_alike s h input index place brought = by (stopped s h)
  where
    by : (at : Option ℕ) → is_over_after s brought at (Saved input index place ∷ h) ≡ is_over_after s brought at h
    by None = refl
    by (Some at) = refl

-- a run is over after a put exactly if it was before
pub put_alike : (s : AllSettings) (h now : History) (t : Tracked) → IsPutLogged t h now → IsOverAlike s h now
put_alike s h now t (inl same) = subst (λ (x : History). IsOverAlike s h x) (sym same) (λ brought. refl)
put_alike s h now t (inr saved) = subst (λ (x : History). IsOverAlike s h x) (sym saved.1) (saved_alike s h t.input t.index saved.0)
