-- Traversal of the gets and puts of offsets, call by call, with the files of the disk.
use Rattle.std.proofs.Common.{◌≡◌, ℕ, List, [], ◌∷◌, Option, Some, None, refl}
use Rattle.std.specs.Prelude.{Contains}
use Rattle.fwd_outside.specs.Program.{Ask}
use Rattle.fwd_outside.specs.AtCrashPoints.{HoldsThroughout}
use Rattle.fwd_outside.specs.DiskStates.{Files}
use Rattle.fwd_keeper.specs.Keeper.{Get, Put}
use Rattle.fwd_settings.specs.declared.settings_types.AllSettings.{AllSettings}
use Rattle.fwd_model.specs.Fact.{History, Resumed, Saved}
use Rattle.fwd_model.specs.Trace.{Call, Answer, Action, OnLoop, OnDisk, OnFiles, OnKeeper, Note}
use Rattle.fwd_model.specs.Settings.{paths_at}
use Rattle.fwd_model.specs.FollowedFiles.{settled}
use Rattle.fwd_model.specs.KeptOffsets.{Tracked, tracked, kept_at, to_put, indexes_from, resumes, got, gets, after_put, puts_by, puts}
use Rattle.fwd_theorem_trace.specs.Past.{logged}
use Rattle.fwd_theorem_trace.specs.Allowed.{IsStart, PutAllowed, WasSaved, IsAllowed}
use Rattle.fwd_theorem_trace.proofs.Members.{here, deeper}
use Rattle.fwd_theorem_crash.specs.CrashPoint.{CrashPoint, Changes, LeadsTo}
use Rattle.fwd_theorem_crash.specs.StepBoundaries.{IsOffsetCall}
use Rattle.fwd_theorem_crash.proofs.RunTraversal.{after, IsStaying, holds_ask}

pub offset_stays : (call : Call) → IsOffsetCall call → IsStaying call
offset_stays (OnLoop call) of = absurd of
offset_stays (OnDisk call) of = absurd of
offset_stays (OnFiles call) of = absurd of
offset_stays (OnKeeper call) of = tt
offset_stays (Note fact) of = tt

pub offset_changes : (call : Call) (answer : Answer call) (files : Files) → IsOffsetCall call → Changes call answer files files files
offset_changes (OnLoop call) answer files of = absurd of
offset_changes (OnDisk call) answer files of = absurd of
offset_changes (OnFiles call) answer files of = absurd of
offset_changes (OnKeeper call) answer files of = (refl, refl)
offset_changes (Note fact) answer files of = (refl, refl)

-- The conditions on two properties for this traversal: the first holds at each point, and the second
-- between calls.
pub record CanKeep (s : AllSettings) (P K : CrashPoint → Type 0) : Type 0 where
  pub now : (m : CrashPoint) → K m → P m
  pub still : (call : Call) (answer : Answer call) (m : CrashPoint) → IsOffsetCall call → IsAllowed s call m.past → K m → K (after m call answer)

module _ (s : AllSettings) (P K : CrashPoint → Type 0) (can : CanKeep s P K) {R : Type 0} (Q : R → CrashPoint → Type 0) where
  abbrev pub Goes : (History → Action R) → Type 0
  Goes next = (m : CrashPoint) → K m → HoldsThroughout LeadsTo P Q m (next (logged m.past))

  asks : (call : Call) (go : Answer call → Action R) (m : CrashPoint) → IsStaying call → IsOffsetCall call → IsAllowed s call m.past → K m
      → ((answer : Answer call) → K (after m call answer) → HoldsThroughout LeadsTo P Q (after m call answer) (go answer)) → HoldsThroughout LeadsTo P Q m (Ask call go)
  asks call go m staying of due kept more = holds_ask P Q m call go staying (can.now m kept) (λ answer. more answer (can.still call answer m of due kept))

  -- ---- after a step

  put_on : (t : Tracked) (place : ℕ) (next : History → Action R) (m : CrashPoint) (answer : Option (Unit {0})) → Contains (tracked s) t → Goes next → K (after m (OnKeeper (Put t.db t.path place)) answer)
      → HoldsThroughout LeadsTo P Q (after m (OnKeeper (Put t.db t.path place)) answer) (after_put t place next (logged m.past) answer)
  put_on t place next m None among more kept = more (after m (OnKeeper (Put t.db t.path place)) None) kept
  put_on t place next m (Some done) among more kept =
      let put : CrashPoint = after m (OnKeeper (Put t.db t.path place)) (Some done) in
      let due : WasSaved s t.input t.index place put.past = record { file = t; among = among; of = (refl, refl); before = m.past; is = refl } in
      asks (Note (Saved t.input t.index place)) (λ _. next (Saved t.input t.index place ∷ logged m.past)) put tt tt due kept (λ answer then. more (after put (Note (Saved t.input t.index place)) answer) then)

  pub puts_on : (ts : List Tracked) (next : History → Action R) → ((t : Tracked) → Contains ts t → Contains (tracked s) t) → Goes next → Goes (puts s ts next)
  puts_on [] next among more m kept = more m kept
  puts_on (t ∷ ts) next among more m kept =
      by (to_put (settled s (logged m.past) t.input t.index) (kept_at (logged m.past) t.input t.index)) refl (puts_on ts next (λ other has. among other (deeper t ts other has)) more)
    where
      by : (place : Option ℕ) → to_put (settled s (logged m.past) t.input t.index) (kept_at (logged m.past) t.input t.index) ≡ place → Goes (puts s ts next) → HoldsThroughout LeadsTo P Q m (puts_by t place (puts s ts next) (logged m.past))
      by None is rest = rest m kept
      by (Some place) is rest =
          let due : PutAllowed s t.db t.path place (logged m.past) = record { file = t; among = among t (here t ts); of = (refl, refl); new = is } in
          asks (OnKeeper (Put t.db t.path place)) (after_put t place (puts s ts next) (logged m.past)) m tt tt due kept
          (λ answer then. put_on t place (puts s ts next) m answer (among t (here t ts)) rest then)

  -- ---- after loading

  abbrev pub Starts : (History → Action R) → Type 0
  Starts next = (m : CrashPoint) → IsStart (logged m.past) → K m → HoldsThroughout LeadsTo P Q m (next (logged m.past))

  resumes_on : (input place : ℕ) (indexes : List ℕ) (next : History → Action R) → Starts next → Starts (resumes input place indexes next)
  resumes_on input place [] next more m start kept = more m start kept
  resumes_on input place (index ∷ indexes) next more m start kept =
      asks (Note (Resumed input index place)) (λ _. resumes input place indexes next (Resumed input index place ∷ logged m.past)) m tt tt start kept
      (λ answer then. resumes_on input place indexes next more (after m (Note (Resumed input index place)) answer) start then)

  got_on : (t : Tracked) (failed next : History → Action R) (answer : Option (Option ℕ)) → Starts failed → Starts next → Starts (λ (h : History). got s t failed next h answer)
  got_on t failed next None ends more m start kept = ends m start kept
  got_on t failed next (Some None) ends more m start kept = more m start kept
  got_on t failed next (Some (Some place)) ends more m start kept = resumes_on t.input place (indexes_from 0 t.path (paths_at s t.input)) next more m start kept

  pub gets_on : (ts : List Tracked) (failed next : History → Action R) → Starts failed → Starts next → Starts (gets s ts failed next)
  gets_on [] failed next ends more m start kept = more m start kept
  gets_on (t ∷ ts) failed next ends more m start kept =
      asks (OnKeeper (Get t.db t.path)) (got s t failed (gets s ts failed next) (logged m.past)) m tt tt start kept
      (λ answer then. got_on t failed (gets s ts failed next) answer ends (gets_on ts failed next ends more) (after m (OnKeeper (Get t.db t.path)) answer) start then)
