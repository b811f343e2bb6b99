-- The offsets that are kept after the gets, and the facts that the gets bring.
use Rattle.std.proofs.Common.{◌≡◌, ℕ, zero, suc, ◌+◌, ◌-◌, Bool, true, false, List, [], ◌∷◌, length, drop, Option, Some, refl, ◌∙◌, ap, subst, arith}
use Rattle.std.specs.Prelude.{◌==◌, ◌&&◌, if◌then◌else◌, slice_get}
use Rattle.std.specs.Str.{bytes_eq}
use Rattle.fwd_in_tail.specs.Followed.{Followed, settled as settled_in}
use Rattle.fwd_settings.specs.declared.settings_types.AllSettings.{AllSettings}
use Rattle.fwd_model.specs.Fact.{History, Resumed, Found}
use Rattle.fwd_model.specs.Trace.{Action}
use Rattle.fwd_model.specs.CallLogs.{CallLogs, Leads}
use Rattle.fwd_model.specs.FollowedFiles.{resumed_by, file_at, settled}
use Rattle.fwd_model.specs.KeptOffsets.{kept_by, kept_at, indexes_from, resumes}
use Rattle.fwd_model.proofs.Actions.{stays, fact_noted, goes_on}
use Rattle.fwd_engine_state.specs.FileRepresents.{is_path}
use Rattle.fwd_engine_state.specs.FilesRepresent.{resumed_history}
use Rattle.fwd_theorem_trace.specs.Allowed.{IsStart}
use Rattle.fwd_theorem_trace.proofs.Run.{loading_is_start}
use Rattle.fwd_engine_run.proofs.TrackedFiles.{drop_first}

-- ---- what is kept

settled_by_resume : (is : Bool) (place : ℕ) (file : Followed) (kept : Option ℕ) → settled_in file ≡ kept → settled_in (resumed_by is place file) ≡ kept_by is place kept
settled_by_resume true place file kept same = let whole : place - 0 ≡ place = omega arith in ap (λ (n : ℕ). Some n) whole
settled_by_resume false place file kept same = same

-- as long as reading only resumed, the settled offset is the one that the database has
pub start_settled : (s : AllSettings) (h : History) (input index : ℕ) → IsStart h → settled s h input index ≡ kept_at h input index
start_settled s [] input index start = refl
start_settled s (Resumed i k place ∷ h) input index start = settled_by_resume (i == input && k == index) place (file_at s h input index) (kept_at h input index) (start_settled s h input index start)
start_settled s (Found number stream name bytes ∷ h) input index start = start_settled s h input index (loading_is_start h start.1)
start_settled s (fact ∷ h) input index start = absurd start

-- ---- one file is resumed

start_if : (is : Bool) (input index place : ℕ) (h : History) → IsStart h → IsStart (if is then Resumed input index place ∷ h else h)
start_if true input index place h start = start
start_if false input index place h start = start

pub start_resumed : (input place : ℕ) (path : List ℕ) (paths : List (List ℕ)) (count : ℕ) (h : History) → IsStart h → IsStart (resumed_history input path place paths count h)
start_resumed input place path paths zero h start = start
start_resumed input place path paths (suc index) h start =
    start_if (is_path path (slice_get paths index)) input index place (resumed_history input path place paths index h) (start_resumed input place path paths index h start)

module _ (w : CallLogs) (input place : ℕ) (path : List ℕ) (all : List (List ℕ)) (h : History) where
  abbrev now : ℕ → History
  now count = resumed_history input path place all count h

  now_more : (index : ℕ) (other : List ℕ) → slice_get all index ≡ Some other → now (index + 1) ≡ (if bytes_eq other path then Resumed input index place ∷ now index else now index)
  now_more index other here =
      let one : index + 1 ≡ suc index = omega arith in
      ap now one ∙ ap (λ (o : Option (List ℕ)). if is_path path o then Resumed input index place ∷ now index else now index) here

  module _ {R : Type 0} (next : History → Action R) where
    -- the facts at the indexes that are left
    resumes_from : (index : ℕ) (paths : List (List ℕ)) → drop index all ≡ paths → length all ≡ index + length paths → Leads w w (resumes input place (indexes_from index path paths) next (now index)) (next (now (length all)))
    resumes_from index [] left long =
        let last : index ≡ length all = omega (arith, long) in
        subst (λ (n : ℕ). Leads w w (next (now index)) (next (now n))) last (stays w (next (now index)))
    resumes_from index (other ∷ paths) left long =
        let here = drop_first all index other paths left in
        let long_on : length all ≡ (index + 1) + length paths = omega (arith, long) in
        by (bytes_eq other path) (now_more index other here.0) (resumes_from (index + 1) paths here.1 long_on)
      where
        by : (is : Bool) → now (index + 1) ≡ (if is then Resumed input index place ∷ now index else now index) → Leads w w (resumes input place (indexes_from (index + 1) path paths) next (now (index + 1))) (next (now (length all)))
            → Leads w w (resumes input place (if is then index ∷ indexes_from (index + 1) path paths else indexes_from (index + 1) path paths) next (now index)) (next (now (length all)))
        by true grown rest =
            let at : History = Resumed input index place ∷ now index in
            goes_on (fact_noted w (Resumed input index place) (λ _. resumes input place (indexes_from (index + 1) path paths) next at))
            (subst (λ (x : History). Leads w w (resumes input place (indexes_from (index + 1) path paths) next x) (next (now (length all)))) grown rest)
        by false grown rest = subst (λ (x : History). Leads w w (resumes input place (indexes_from (index + 1) path paths) next x) (next (now (length all)))) grown rest

    -- reading resumes at each index of the path
    pub resumes_all : Leads w w (resumes input place (indexes_from 0 path all) next h) (next (resumed_history input path place all (length all) h))
    resumes_all = resumes_from 0 all refl (omega arith)
